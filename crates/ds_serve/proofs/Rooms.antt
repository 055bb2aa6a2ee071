-- The keys at which a request writes have room for one more, so that what is left of the next span can be said too.
use Rattle.std.proofs.Common.{◌≡◌, ℕ, zero, suc, true, false, ◌&&◌, if◌then◌else◌, List, [], ◌∷◌, Option, Some, None, sym, ap, subst}
use Rattle.std.specs.List.{list_all}
use Rattle.std.specs.BTreeMap.{insert_entry}
use Rattle.std.specs.Ordering.{match_ordering}
use Rattle.std.specs.declared.cmp.Ordering.TheVariants.{Less, Equal, Greater}
use Rattle.ds_base.specs.Order.{Extent, key_cmp, holds}
use Rattle.ds_base.specs.declared.value.Stamp.{Stamp}
use Rattle.ds_base.specs.declared.value.TxnNo.{TxnNo}
use Rattle.ds_base.specs.declared.value.Value.{Value}
use Rattle.ds_base.proofs.SmallFacts.{and_first, and_second}
use Rattle.ds_kind.specs.Asks.{has_room, has_proper_span, is_proper}
use Rattle.ds_kind.specs.Bodies.{goes_down}
use Rattle.ds_kind.specs.CutReach.{cut_reach}
use Rattle.ds_kind.specs.Left.{is_used_up, left_after}
use Rattle.ds_kind.specs.Parts.{requests_of}
use Rattle.ds_kind.specs.Reach.{Reach, At as Point, Over}
use Rattle.ds_kind.specs.Request.{cut_to, reach_of, span_of}
use Rattle.ds_kind.specs.declared.batch.Head.{Head}
use Rattle.ds_kind.specs.declared.batch.Item.{Item}
use Rattle.ds_kind.specs.declared.reply.Reply.{Reply}
use Rattle.ds_kind.specs.declared.request.Request.{Request}
use Rattle.ds_kind.proofs.RequestFacts.{reach_cut}
use Rattle.ds_cell.specs.declared.entry.At.{At}
use Rattle.ds_cell.specs.declared.verdict.Verdict.{Verdict}
use Rattle.ds_cell.specs.declared.verdict.Verdict.TheVariants.{Keep, Put as Write, Refuse}
use Rattle.ds_cell.specs.Change.{settled, wrote}
use Rattle.ds_cell.specs.Content.{Content}
use Rattle.ds_cell.specs.Ask.{Asked, Cells, Failed, Gave, ask_each, content_at, one_more, places}
use Rattle.ds_cell.specs.Requests.{ask_request, deed_of}
use Rattle.ds_cell.specs.Store.{WriteAt, settle_all, under_number, write_all}
use Rattle.ds_rule.specs.declared.record.TxnRecord.{TxnRecord}
use Rattle.ds_rule.specs.Asking.{Made, Gives, Fails, and_before, ask_item, at_of, committed_by, made_by}
use Rattle.ds_rule.specs.Limited.{ask_left, ask_up_to, item_in, last_taken, part_to, rest_after, taken_keys, with_rest}
use Rattle.ds_rule.specs.Pieces.{Each}
use Rattle.ds_rule.specs.Serve.{and_left, decided, resolved, resolved_for, resolved_left, resolves, serve, settle_as, settle_in}
use Rattle.ds_rule.specs.Records.{record_of}
use Rattle.ds_rule.proofs.Eachs.{each-append}
use Rattle.ds_serve.specs.Shares.{CanResume, HasRoom}
use Rattle.ds_serve.proofs.Limits.{room_between}

-- a point's key has room
abbrev RoomAt : Reach → Type 0
RoomAt (Point k) = has_room k ≡ true
RoomAt (Over s e) = Unit {0}

room_proper : (x : Reach) → is_proper x ≡ true → RoomAt x
room_proper (Point k) h = h
room_proper (Over s e) h = tt

room_part : (s e : List ℕ) (x : Reach) → RoomAt x → RoomAt (cut_reach s e x)
room_part s e (Point k) h = h
room_part s e (Over a b) h = tt

room_cut : (s e : List ℕ) (r : Request) → RoomAt (reach_of r) → RoomAt (reach_of (cut_to s e r))
room_cut s e r h = subst RoomAt (sym (reach_cut s e r)) (room_part s e (reach_of r) h)

room_places : (x : Reach) (cells : Cells) → RoomAt x → Each HasRoom cells → Each HasRoom (places x cells)
room_places (Point k) cells h all = (h, tt)
room_places (Over s e) cells h all = room_between s e cells all

-- what was asked writes where there is room

abbrev RoomOf : (List ℕ × Option Value) → Type 0
RoomOf w = has_room w.0 ≡ true

abbrev RoomAsked : Asked → Type 0
RoomAsked (Failed k f) = Unit {0}
RoomAsked (Gave bits ws) = Each RoomOf ws

room_more : (k : List ℕ) (v : Verdict) (a : Asked) → has_room k ≡ true → RoomAsked a → RoomAsked (one_more k v a)
room_more k (Refuse f) a h all = tt
room_more k (Keep b) (Failed q f) h all = tt
room_more k (Write w b) (Failed q f) h all = tt
room_more k (Keep b) (Gave bs ws) h all = all
room_more k (Write w b) (Gave bs ws) h all = (h, all)

room_each : (d : Content → Verdict) (ps : Cells) → Each HasRoom ps → RoomAsked (ask_each d ps)
room_each d [] all = tt
room_each d (p ∷ ps) all = room_more p.0 (d p.1) (ask_each d ps) all.0 (room_each d ps all.1)

-- the contents afterwards

pub room_put : (k : List ℕ) (c : Content) (cells : Cells) → has_room k ≡ true → Each HasRoom cells → Each HasRoom (insert_entry key_cmp cells k c)
room_put k c [] h all = (h, tt)
room_put k c (p ∷ ps) h all =
    elim (key_cmp k p.0) as (λ o. Each HasRoom (match_ordering o ((k, c) ∷ p ∷ ps) ((p.0, c) ∷ ps) (p ∷ insert_entry key_cmp ps k c))) [
      | Less ↦ (h, all)
      | Equal ↦ all
      | Greater ↦ (all.0, room_put k c ps h all.1)
    ]

room_written : (at : At) (ws : List (List ℕ × Option Value)) (cells : Cells) → Each RoomOf ws → Each HasRoom cells → Each HasRoom (write_all at ws cells)
room_written at [] cells h all = all
room_written at (w ∷ ws) cells h all = room_written at ws _ h.1 (room_put w.0 (wrote at w.1 (content_at w.0 cells)) cells h.0 all)

abbrev pub RoomWrite : WriteAt → Type 0
RoomWrite w = has_room w.key ≡ true

room_under : (at : At) (ws : List (List ℕ × Option Value)) → Each RoomOf ws → Each RoomWrite (under_number at ws)
room_under at [] h = tt
room_under at (w ∷ ws) h = (h.0, room_under at ws h.1)

-- the contents afterwards, and the writes
abbrev pub RoomAfter : Made → Type 0
RoomAfter (Fails f) = Unit {0}
RoomAfter (Gives cells ws rs) = Each HasRoom cells × Each RoomWrite ws

room_made : (h : Head) (i : Item) (a : Asked) (cells : Cells) → RoomAsked a → Each HasRoom cells → RoomAfter (made_by h i a cells)
room_made h i (Failed k f) cells asked all = tt
room_made h i (Gave bits ws) cells asked all = (room_written (at_of h i.seq.0) ws cells asked all, room_under (at_of h i.seq.0) ws asked)

room_item : (h : Head) (i : Item) (cells : Cells) → RoomAt (reach_of i.request) → Each HasRoom cells → RoomAfter (ask_item h i cells)
room_item h i cells point all =
    room_made h i (ask_request i.request (at_of h i.seq.0) cells) cells
    (room_each (deed_of i.request (at_of h i.seq.0)) (places (reach_of i.request) cells) (room_places (reach_of i.request) cells point all)) all

room_rest : (rest : Option Extent) (m : Made) → RoomAfter m → RoomAfter (with_rest rest m)
room_rest rest (Fails f) h = tt
room_rest rest (Gives cells ws rs) h = h

room_up_to : (h : Head) (o : Option (List ℕ)) (i : Item) (cells : Cells) → RoomAt (reach_of i.request) → Each HasRoom cells → RoomAfter (ask_up_to h o i cells)
room_up_to h None i cells point all = room_item h i cells point all
room_up_to h (Some k) i cells point all =
    let x = part_to (goes_down i.request) (span_of i.request) k in
    room_rest (rest_after (goes_down i.request) (span_of i.request) k) (ask_item h (item_in x i) cells)
    (room_item h (item_in x i) cells (room_cut x.start x.end i.request point) all)

room_left : (h : Head) (left : Option ℕ) (i : Item) (cells : Cells) → RoomAt (reach_of i.request) → Each HasRoom cells → RoomAfter (ask_left h left i cells)
room_left h None i cells point all = room_item h i cells point all
room_left h (Some zero) i cells point all = (all, tt)
room_left h (Some (suc n)) i cells point all = room_up_to h (last_taken n (taken_keys i.request (at_of h i.seq.0) cells)) i cells point all

-- and after what is resolved

room_settled : (x : Extent) (txn : ℕ) (commit : Option Stamp) (cells : Cells) → Each HasRoom cells → Each HasRoom (settle_in x txn commit cells)
room_settled x txn commit [] all = tt
room_settled x txn commit (p ∷ ps) all = (
  elim (holds x.start x.end p.0) as (λ t. HasRoom (if t then (p.0, settled txn commit p.1) else p)) [
    | true ↦ all.0
    | false ↦ all.0
  ],
  room_settled x txn commit ps all.1,
)

pub room_as : (x : Extent) (txn : ℕ) (o : Option (Option Stamp)) (cells : Cells) → Each HasRoom cells → Each HasRoom (settle_as x txn o cells)
room_as x txn None cells all = all
room_as x txn (Some commit) cells all = room_settled x txn commit cells all

room_for : (ts : List TxnRecord) (x : Extent) (o : Option ℕ) (cells : Cells) → Each HasRoom cells → Each HasRoom (resolved_for ts x o cells)
room_for ts x None cells all = all
room_for ts x (Some n) cells all = room_as x n (decided (record_of n ts)) cells all

room_resolved : (ts : List TxnRecord) (left : Option ℕ) (r : Request) (cells : Cells) → Each HasRoom cells → Each HasRoom (resolved_left ts left r cells)
room_resolved ts left r cells all =
    elim (is_used_up left) as (λ t. Each HasRoom (if t then cells else resolved ts r cells)) [
      | true ↦ all
      | false ↦ room_for ts (span_of r) (resolves r) cells all
    ]

-- the first item alone
pub resume_one : (left : Option ℕ) (i : Item) (is : List Item) (cells : Cells) → CanResume left (i ∷ is) cells → CanResume left (i ∷ []) cells
resume_one None i is cells h = tt
resume_one (Some n) i is cells h =
    (ap (λ t. t && true) (and_first (has_proper_span i.request) (list_all has_proper_span (requests_of is)) h.0), h.1)

-- what is left of the next spans can be said after one item too
pub resume_next : (ts : List TxnRecord) (h : Head) (left : Option ℕ) (i : Item) (is : List Item) (old mid : Cells) (ws : List WriteAt) (rs : List Reply) → CanResume left (i ∷ is) old → ask_left h left i old ≡ Gives mid ws rs → CanResume (left_after left rs) is (resolved_left ts left i.request mid)
resume_next ts h None i is old mid ws rs can asked = tt
resume_next ts h (Some n) i is old mid ws rs can asked =
    let after : RoomAfter (Gives mid ws rs) = subst RoomAfter asked (room_left h (Some n) i old (room_proper (reach_of i.request) (and_first (has_proper_span i.request) (list_all has_proper_span (requests_of is)) can.0)) can.1) in (
      and_second (has_proper_span i.request) (list_all has_proper_span (requests_of is)) can.0,
      room_resolved ts (Some n) i.request mid after.0,
    )

-- and after all of them

room_before : (ws : List WriteAt) (rs : List Reply) (m : Made) → Each RoomWrite ws → RoomAfter m → RoomAfter (and_before ws rs m)
room_before ws rs (Fails f) h all = tt
room_before ws rs (Gives cells more later) h all = (all.0, each-append RoomWrite ws more h all.1)

room_then : (ts : List TxnRecord) (left : Option ℕ) (r : Request) (m : Made) (next : Option ℕ → Cells → Made) → RoomAfter m → ((l : Option ℕ) (now : Cells) → Each HasRoom now → RoomAfter (next l now)) → RoomAfter (and_left ts left r m next)
room_then ts left r (Fails f) next h more = tt
room_then ts left r (Gives cells ws rs) next h more =
    room_before ws rs (next (left_after left rs) (resolved_left ts left r cells)) h.1 (more (left_after left rs) (resolved_left ts left r cells) (room_resolved ts left r cells h.0))

pub room_served : (ts : List TxnRecord) (h : Head) (left : Option ℕ) (is : List Item) (cells : Cells) → list_all has_proper_span (requests_of is) ≡ true → Each HasRoom cells → RoomAfter (serve ts h left is cells)
room_served ts h left [] cells proper all = (all, tt)
room_served ts h left (i ∷ is) cells proper all =
    room_then ts left i.request (ask_left h left i cells) (λ l now. serve ts h l is now)
    (room_left h left i cells (room_proper (reach_of i.request) (and_first (has_proper_span i.request) (list_all has_proper_span (requests_of is)) proper)) all)
    (λ l now room. room_served ts h l is now (and_second (has_proper_span i.request) (list_all has_proper_span (requests_of is)) proper) room)

room_all_settled : (txn : ℕ) (commit : Option Stamp) (ws : List WriteAt) (cells : Cells) → Each RoomWrite ws → Each HasRoom cells → Each HasRoom (settle_all txn commit ws cells)
room_all_settled txn commit [] cells h all = all
room_all_settled txn commit (w ∷ ws) cells h all = room_all_settled txn commit ws _ h.1 (room_put w.key (settled txn commit (content_at w.key cells)) cells h.0 all)

pub room_committed : (h : Head) (o : Option TxnNo) (ws : List WriteAt) (cells : Cells) → Each RoomWrite ws → Each HasRoom cells → Each HasRoom (committed_by h o ws cells)
room_committed h None ws cells write all = room_all_settled 0 (Some h.at) ws cells write all
room_committed h (Some t) ws cells write all = all
