-- The ranges tile the keys where one holds what a piece made of it.
use Rattle.std.proofs.Common.{◌≡◌, ℕ, Bool, true, false, cond, List, [], ◌∷◌, ◌++◌, map, Option, Some, None, refl, sym, ap, subst}
use Rattle.std.specs.List.{find, list_all}
use Rattle.ds_base.specs.declared.value.Stamp.{Stamp}
use Rattle.ds_base.specs.declared.value.TxnNo.{TxnNo}
use Rattle.ds_base.proofs.SmallFacts.{and_first, and_second}
use Rattle.ds_rule.proofs.Service.{held}
use Rattle.ds_base.specs.Order.{Extent, holds, key_lt}
use Rattle.ds_base.specs.Ordered.{AllOver, Ascends}
use Rattle.ds_kind.specs.Left.{is_used_up, left_after}
use Rattle.ds_kind.specs.declared.request.Request.{Request}
use Rattle.ds_rule.specs.declared.record.TxnRecord.{TxnRecord}
use Rattle.ds_rule.specs.Limited.{ask_left, with_rest}
use Rattle.ds_rule.specs.Records.{record_of}
use Rattle.ds_rule.specs.Serve.{and_left, decided, resolved, resolved_for, resolved_left, resolves, serve, settle_as, settle_in, settle_one}
use Rattle.ds_rule.proofs.Short.{left-by}
use Rattle.ds_kind.specs.Request.{span_of}
use Rattle.ds_kind.specs.declared.batch.Head.{Head}
use Rattle.ds_kind.specs.declared.batch.Item.{Item}
use Rattle.ds_kind.specs.declared.batch.Piece.{Piece}
use Rattle.ds_kind.specs.declared.reply.Reply.{Reply}
use Rattle.ds_cell.specs.declared.entry.At.{At}
use Rattle.ds_cell.specs.Ask.{AllIn, Cell, Cells, key_of, Asked, Failed, Gave}
use Rattle.ds_cell.specs.Change.{wrote, settled}
use Rattle.ds_cell.specs.Requests.{ask_request}
use Rattle.ds_cell.specs.Store.{WriteAt, put_cell, write_all, under_number, settle_all}
use Rattle.ds_rule.specs.Asking.{Made, Gives, Fails, at_of, made_by, and_before, committed_by, finished}
use Rattle.ds_rule.specs.World.{World, Range, end_of, Fits, Inside, Tiles, has_id, holds_key, replaced}
use Rattle.ds_rule.specs.Deliver.{holds_item, served, stops, with_cells}
use Rattle.ds_rule.proofs.Tiling.{fits-put}
use Rattle.ds_rule.proofs.Writes.{Puts, puts_in_span, held_key}

-- the range with these contents
abbrev pub holding : Range → Cells → Range
holding r cells = record r { cells = cells }

-- all these keys lie in the range
abbrev pub AllHeld : Range → List WriteAt → Type 0
AllHeld r [] = Unit {0}
AllHeld r (w ∷ ws) = (holds_key w.key r ≡ true) × AllHeld r ws

fits_writes : (s : List ℕ) (r : Range) (i : Item) (at : At) (ws : Puts) (cells : Cells) → holds_item r i ≡ true → AllIn key_of (span_of i.request).start (span_of i.request).end ws → Fits s (holding r cells) → Fits s (holding r (write_all at ws cells))
fits_writes s r i at [] cells h all t = t
fits_writes s r i at (w ∷ ws) cells h all t =
    fits_writes s r i at ws (put_cell w.0 (wrote at w.1) cells) h all.1 (fits-put s (holding r cells) w.0 (wrote at w.1) (held_key r i w.0 h all.0) t)

held_writes : (r : Range) (i : Item) (at : At) (ws : Puts) → holds_item r i ≡ true → AllIn key_of (span_of i.request).start (span_of i.request).end ws → AllHeld r (under_number at ws)
held_writes r i at [] h all = tt
held_writes r i at (w ∷ ws) h all = (held_key r i w.0 h all.0, held_writes r i at ws h all.1)

fits_settled : (s : List ℕ) (r : Range) (txn : ℕ) (commit : Option Stamp) (ws : List WriteAt) (cells : Cells) → AllHeld r ws → Fits s (holding r cells) → Fits s (holding r (settle_all txn commit ws cells))
fits_settled s r txn commit [] cells all t = t
fits_settled s r txn commit (w ∷ ws) cells all t =
    fits_settled s r txn commit ws (put_cell w.key (settled txn commit) cells) all.1 (fits-put s (holding r cells) w.key (settled txn commit) all.0 t)

-- what was made of a range's contents fits the range
abbrev pub FitsMade : List ℕ → Range → Made → Type 0
FitsMade s r (Fails f) = Unit {0}
FitsMade s r (Gives cells ws rs) = Fits s (holding r cells) × AllHeld r ws

held_append : (r : Range) (ws vs : List WriteAt) → AllHeld r ws → AllHeld r vs → AllHeld r (ws ++ vs)
held_append r [] vs a b = b
held_append r (w ∷ ws) vs a b = (a.0, held_append r ws vs a.1 b)

fits_before : (s : List ℕ) (r : Range) (ws : List WriteAt) (rs : List Reply) (m : Made) → AllHeld r ws → FitsMade s r m → FitsMade s r (and_before ws rs m)
fits_before s r ws rs (Fails f) all t = tt
fits_before s r ws rs (Gives cells more later) all t = (t.0, held_append r ws more all t.1)

fits_one : (s : List ℕ) (r : Range) (h : Head) (i : Item) (cells : Cells) (a : Asked) → holds_item r i ≡ true → ask_request i.request (at_of h i.seq.0) cells ≡ a → Fits s (holding r cells) → FitsMade s r (made_by h i a cells)
fits_one s r h i cells (Failed k f) held is t = tt
fits_one s r h i cells (Gave bits ws) held is t =
    let all = puts_in_span i.request (at_of h i.seq.0) cells bits ws is in
    (fits_writes s r i (at_of h i.seq.0) ws cells held all t, held_writes r i (at_of h i.seq.0) ws held all)

fits_rest : (s : List ℕ) (r : Range) (rest : Option Extent) (m : Made) → FitsMade s r m → FitsMade s r (with_rest rest m)
fits_rest s r rest (Fails f) t = tt
fits_rest s r rest (Gives cells ws rs) t = t

fits_some : (s : List ℕ) (r : Range) (h : Head) (left : Option ℕ) (i : Item) (cells : Cells) → holds_item r i ≡ true → Fits s (holding r cells) → FitsMade s r (ask_left h left i cells)
fits_some s r h left i cells held t =
    left-by (FitsMade s r) h left i cells (fits_rest s r) (t, tt)
    (λ j short keep. fits_one s r h j cells (ask_request j.request (at_of h j.seq.0) cells) (keep r held) refl t)

-- what is resolved stays at its keys

one_key : (e : Extent) (n : ℕ) (c : Option Stamp) (p : Cell) → (settle_one e n c p).0 ≡ p.0
one_key e n c p = elim (holds e.start e.end p.0) as (λ b. (cond b (p.0, settled n c p.1) p).0 ≡ p.0) [ true ↦ refl | false ↦ refl ]

over_in : (e : Extent) (n : ℕ) (c : Option Stamp) (k : List ℕ) (cells : Cells) → AllOver key_of k cells → AllOver key_of k (settle_in e n c cells)
over_in e n c k [] all = tt
over_in e n c k (p ∷ ps) all = (subst (λ z. key_lt k z ≡ true) (sym (one_key e n c p)) all.0, over_in e n c k ps all.1)

pub ascends_in : (e : Extent) (n : ℕ) (c : Option Stamp) (cells : Cells) → Ascends key_of cells → Ascends key_of (settle_in e n c cells)
ascends_in e n c [] asc = tt
ascends_in e n c (p ∷ ps) asc = (subst (λ z. AllOver key_of z (settle_in e n c ps)) (sym (one_key e n c p)) (over_in e n c p.0 ps asc.0), ascends_in e n c ps asc.1)

inside_in : (e : Extent) (n : ℕ) (c : Option Stamp) (s m : List ℕ) (cells : Cells) → Inside s m cells → Inside s m (settle_in e n c cells)
inside_in e n c s m [] all = tt
inside_in e n c s m (p ∷ ps) all = (subst (λ z. holds s m z ≡ true) (sym (one_key e n c p)) all.0, inside_in e n c s m ps all.1)

fits_as : (s : List ℕ) (r : Range) (e : Extent) (n : ℕ) (o : Option (Option Stamp)) (cells : Cells) → Fits s (holding r cells) → Fits s (holding r (settle_as e n o cells))
fits_as s r e n None cells t = t
fits_as s r e n (Some c) cells t = record {
  begins = t.begins;
  some = t.some;
  rising = ascends_in e n c cells t.rising;
  inside = inside_in e n c s (end_of r) cells t.inside;
}

fits_for : (s : List ℕ) (r : Range) (ts : List TxnRecord) (e : Extent) (o : Option ℕ) (cells : Cells) → Fits s (holding r cells) → Fits s (holding r (resolved_for ts e o cells))
fits_for s r ts e None cells t = t
fits_for s r ts e (Some n) cells t = fits_as s r e n (decided (record_of n ts)) cells t

fits_resolved : (s : List ℕ) (r : Range) (ts : List TxnRecord) (left : Option ℕ) (q : Request) (cells : Cells) → Fits s (holding r cells) → Fits s (holding r (resolved_left ts left q cells))
fits_resolved s r ts left q cells t =
    elim (is_used_up left) as (λ b. Fits s (holding r (cond b cells (resolved ts q cells)))) [
      | true ↦ t
      | false ↦ fits_for s r ts (span_of q) (resolves q) cells t
    ]

fits_left : (s : List ℕ) (r : Range) (ts : List TxnRecord) (left : Option ℕ) (q : Request) (m : Made) (next : Option ℕ → Cells → Made) → FitsMade s r m → ((o : Option ℕ) (cells : Cells) → Fits s (holding r cells) → FitsMade s r (next o cells)) → FitsMade s r (and_left ts left q m next)
fits_left s r ts left q (Fails f) next t go = tt
fits_left s r ts left q (Gives cells ws rs) next t go =
    fits_before s r ws rs (next (left_after left rs) (resolved_left ts left q cells)) t.1 (go (left_after left rs) (resolved_left ts left q cells) (fits_resolved s r ts left q cells t.0))

fits_served : (s : List ℕ) (r : Range) (ts : List TxnRecord) (h : Head) (left : Option ℕ) (items : List Item) (cells : Cells) → list_all (holds_item r) items ≡ true → Fits s (holding r cells) → FitsMade s r (serve ts h left items cells)
fits_served s r ts h left [] cells held t = (t, tt)
fits_served s r ts h left (i ∷ is) cells held t =
    fits_left s r ts left i.request (ask_left h left i cells) (λ rest now. serve ts h rest is now)
    (fits_some s r h left i cells (and_first _ _ held) t)
    (λ o next g. fits_served s r ts h o is next (and_second (holds_item r i) _ held) g)

fits_committed : (s : List ℕ) (r : Range) (h : Head) (o : Option TxnNo) (ws : List WriteAt) (cells : Cells) → AllHeld r ws → Fits s (holding r cells) → Fits s (holding r (committed_by h o ws cells))
fits_committed s r h (Some x) ws cells all t = t
fits_committed s r h None ws cells all t = fits_settled s r 0 (Some h.at) ws cells all t

-- the first range with the id, with other contents that fit it
tiles_holding : (p : Range → Bool) (cells : Cells) (s : List ℕ) (rs : List Range) (q : Range) → find p rs ≡ Some q → ((a : List ℕ) → Fits a q → Fits a (holding q cells)) → Tiles s rs → Tiles s (replaced p (λ r. holding r cells) rs)
tiles_holding p cells s [] q is fits t = t
tiles_holding p cells s (r ∷ rs) q is fits t =
    elim (p r) as (λ b. cond b (Some r) (find p rs) ≡ Some q → Tiles s (cond b (holding r cells ∷ rs) (r ∷ replaced p (λ r. holding r cells) rs))) [
      | true ↦ λ g. let same : q ≡ r = cc in (subst (λ z. Fits s z → Fits s (holding z cells)) same (fits s) t.0, t.1)
      | false ↦ λ g. (t.0, tiles_holding p cells (end_of r) rs q g fits t.1)
    ] is

-- the ranges tile the keys where one that holds the piece's items has what the piece made of it
pub held_tiles : (s : List ℕ) (w : World) (p : Piece) (r : Range) (cells : Cells) (ws : List WriteAt) (rs : List Reply) → find (has_id p.range) w.ranges ≡ Some r → list_all (holds_item r) p.items ≡ true → served w p r ≡ Gives cells ws rs → Tiles s w.ranges → Tiles s (with_cells p.range (finished p.head ws cells) w).ranges
held_tiles s w p r cells ws rs is all gives t =
    tiles_holding (has_id p.range) (finished p.head ws cells) s w.ranges r is
    (λ a g.
    let f = subst (FitsMade a r) gives (fits_served a r w.records p.head p.head.left p.items r.cells all g) in
    fits_committed a r p.head p.head.txn ws cells f.1 f.0) t

-- so it is where the range serves it
pub served_tiles : (s : List ℕ) (w : World) (node : ℕ) (p : Piece) (r : Range) (cells : Cells) (ws : List WriteAt) (rs : List Reply) → find (has_id p.range) w.ranges ≡ Some r → stops w node p r ≡ None → served w p r ≡ Gives cells ws rs → Tiles s w.ranges → Tiles s (with_cells p.range (finished p.head ws cells) w).ranges
served_tiles s w node p r cells ws rs is goes gives t = held_tiles s w p r cells ws rs is (held w node p r goes) gives t

-- and have the same descriptors

pub same_descs : (p : Range → Bool) (cells : Range → Cells) (rs : List Range) → map (λ r. r.info.desc) (replaced p (λ r. holding r (cells r)) rs) ≡ map (λ r. r.info.desc) rs
same_descs p cells [] = refl
same_descs p cells (r ∷ rs) =
    elim (p r) as (λ b. map (λ r. r.info.desc) (cond b (holding r (cells r) ∷ rs) (r ∷ replaced p (λ r. holding r (cells r)) rs)) ≡ r.info.desc ∷ map (λ r. r.info.desc) rs) [
      | true ↦ refl
      | false ↦ ap (λ ds. r.info.desc ∷ ds) (same_descs p cells rs)
    ]
