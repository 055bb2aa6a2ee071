-- Items served one after another, by the records and with what is left of a limit, and the contents after them.
use Rattle.std.proofs.Common.{◌≡◌, ℕ, true, ◌<◌, ◌+◌, List, [], ◌∷◌, ◌++◌, map, drop, length, get_or, Option, None, sym, ap, ◌∙◌, subst, append_assoc}
use Rattle.std.specs.List.{list_all}
use Rattle.ds_base.specs.Order.{Extent}
use Rattle.ds_base.specs.Ordered.{Ascends}
use Rattle.ds_base.specs.declared.value.Value.{Value}
use Rattle.ds_base.proofs.SmallFacts.{append_nil}
use Rattle.ds_kind.specs.Asks.{has_proper_span}
use Rattle.ds_kind.specs.Left.{left_after}
use Rattle.ds_kind.specs.Parts.{requests_of}
use Rattle.ds_kind.specs.declared.batch.Head.{Head}
use Rattle.ds_kind.specs.declared.batch.Item.{Item}
use Rattle.ds_kind.specs.declared.reply.Body.{Body}
use Rattle.ds_kind.specs.declared.reply.Failure.{Failure}
use Rattle.ds_kind.specs.declared.reply.Reply.{Reply}
use Rattle.ds_cell.specs.declared.verdict.ActFault.{ActFault}
use Rattle.ds_cell.specs.declared.verdict.Bit.{Bit}
use Rattle.ds_cell.specs.Ask.{Cells, key_of, Failed, Gave}
use Rattle.ds_cell.specs.Replies.{body_of}
use Rattle.ds_cell.specs.Requests.{ask_request}
use Rattle.ds_cell.specs.Store.{WriteAt, write_all, under_number}
use Rattle.ds_rule.specs.declared.answer.Answer.TheVariants as Answered
use Rattle.ds_rule.specs.declared.record.TxnRecord.{TxnRecord}
use Rattle.ds_rule.specs.Asking.{at_of, failure_of, Made, Gives, Fails, and_before, made_by, ask_item}
use Rattle.ds_rule.specs.Deliver.{answer_made}
use Rattle.ds_rule.specs.Endings.{all_ended, records_made}
use Rattle.ds_rule.specs.Limited.{with_rest, ask_left}
use Rattle.ds_rule.specs.Pieces.{Each}
use Rattle.ds_rule.specs.Serve.{and_left, resolved_left, serve}
use Rattle.ds_range.specs.declared.piece.One.{One as Became}
use Rattle.ds_range.specs.declared.piece.One.TheVariants as One
use Rattle.ds_range.specs.declared.serve.Tried.TheVariants as Tried
use Rattle.ds_range.specs.Asks.{wrote_each}
use Rattle.ds_range.specs.Keeps.{Kept, restored}
use Rattle.ds_range.specs.Evaluates.{MadeOne, ServedItem, ServedNext, ServedItems}
use Rattle.ds_range.specs.Serves.{key_of_write, finished_at, after_made, Tries}
use Rattle.ds_serve.specs.Shares.{CanResume, HasRoom}
use Rattle.ds_serve.proofs.Rooms.{RoomAfter, resume_one, resume_next, room_committed, room_served}
use Rattle.ds_range.proofs.Freedom.{wrote_all}
use Rattle.ds_range.proofs.Piecing.{under_keys, before_nothing, twice, map_append, dropped, finished_keys}

-- one write more was noted
pub noted_last : (ps ks ls : List (List ℕ)) (ws : List (List ℕ × Option Value)) (w : List ℕ × Option Value) → ks ≡ ps ++ map (λ p. p.0) ws → ls ≡ ks ++ w.0 ∷ [] → ls ≡ ps ++ map (λ p. p.0) (ws ++ w ∷ [])
noted_last ps ks ls ws w so_far more =
    more ∙ ap (λ zs. zs ++ w.0 ∷ []) so_far ∙ append_assoc ps (map (λ p. p.0) ws) (w.0 ∷ [])
    ∙ ap (λ zs. ps ++ zs) (sym (map_append (λ p. p.0) ws (w ∷ [])))

-- one item

-- a request that was not refused
pub one_made : (h : Head) (i : Item) (rest : Option Extent) (old new : Cells) (ks ls : List (List ℕ)) (b : Body) (bits : List (List ℕ × Bit)) (writes : List (List ℕ × Option Value)) → Gave bits writes ≡ ask_request i.request (at_of h i.seq.0) old → Ascends key_of old → new ≡ wrote_each (at_of h i.seq.0) writes old → ls ≡ ks ++ map (λ p. p.0) writes → b ≡ body_of i.request bits → MadeOne (with_rest rest (ask_item h i old)) new ks ls (One.Replied (record { body = b; resume = rest }))
one_made h i rest old new ks ls b bits writes asked asc made keys is =
    let at = at_of h i.seq.0 in
    let cells : write_all at writes old ≡ new = sym (wrote_all i.request at old bits writes asc (sym asked)) ∙ sym made in (
      under_number at writes,
      ap (λ a. with_rest rest (made_by h i a old)) (sym asked)
          ∙ ap (λ cs. Gives cs (under_number at writes) (record { body = body_of i.request bits; resume = rest } ∷ [])) cells
          ∙ ap (λ z. Gives new (under_number at writes) (record { body = z; resume = rest } ∷ [])) (sym is),
      keys ∙ ap (λ zs. ks ++ zs) (under_keys at writes),
    )

-- a request that was refused
pub one_refused : (h : Head) (i : Item) (rest : Option Extent) (old : Cells) (k : List ℕ) (f : ActFault) (x : Failure) → Failed k f ≡ ask_request i.request (at_of h i.seq.0) old → x ≡ failure_of i.pos k f → with_rest rest (ask_item h i old) ≡ Fails x
one_refused h i rest old k f x asked is = ap (λ a. with_rest rest (made_by h i a old)) (sym asked) ∙ ap Fails (sym is)

-- a request of which nothing is asked writes nothing
pub nothing_made : (new : Cells) (ks : List (List ℕ)) (r s : Reply) → r ≡ s → MadeOne (Gives new [] (s ∷ [])) new ks ks (One.Replied r)
nothing_made new ks r s is = ([], ap (λ z. Gives new [] (z ∷ [])) (sym is), sym (append_nil ks))

-- one item, told by what became of it

pub served_item : (ts : List TxnRecord) (h : Head) (left : Option ℕ) (i : Item) (old mid new : Cells) (ks ls : List (List ℕ)) (o : Became) (r : Reply) (m : Made) → m ≡ ask_left h left i old → MadeOne m mid ks ls o → o ≡ One.Replied r → new ≡ resolved_left ts left i.request mid → ServedItem ts h left i old new ks ls (One.Replied r)
served_item ts h left i old mid new ks ls o r m share made is end =
    (mid, subst (λ z. MadeOne z mid ks ls (One.Replied r)) share (subst (λ z. MadeOne m mid ks ls z) is made), end)

pub served_not : (h : Head) (left : Option ℕ) (i : Item) (old mid : Cells) (ks ls : List (List ℕ)) (o : Became) (f : Failure) (m : Made) → m ≡ ask_left h left i old → MadeOne m mid ks ls o → o ≡ One.Failed f → ask_left h left i old ≡ Fails f
served_not h left i old mid ks ls o f m share made is = sym share ∙ subst (λ z. MadeOne m mid ks ls z) is made

pub served_next : (ts : List TxnRecord) (h : Head) (left less : Option ℕ) (i : Item) (old new : Cells) (ks ls : List (List ℕ)) (rs qs : List Reply) (o : Became) (r : Reply) → ServedItem ts h left i old new ks ls o → o ≡ One.Replied r → less ≡ left_after left (r ∷ []) → qs ≡ rs ++ r ∷ [] → ServedNext ts h left less i old new ks ls rs qs None
served_next ts h left less i old new ks ls rs qs o r served is rest more =
    (r, subst (λ z. ServedItem ts h left i old new ks ls z) is served, rest, more)

-- one after another

-- what was made so far, with what the items still to come make
pub record Underway (ts : List TxnRecord) (h : Head) (left : Option ℕ) (rest all : List Item) (old now : Cells) (kept : List Kept) (keys : List (List ℕ)) (replies : List Reply) : Type 0 where
  pub writes : List WriteAt
  pub written : keys ≡ map key_of_write writes
  pub so_far : and_before writes replies (serve ts h left rest now) ≡ serve ts h h.left all old
  pub back : restored kept now ≡ old
  pub resume : CanResume left rest now

pub underway_first : (ts : List TxnRecord) (h : Head) (items : List Item) (cells : Cells) (kept : List Kept) (keys : List (List ℕ)) (replies : List Reply) → CanResume h.left items cells → kept ≡ [] → keys ≡ [] → replies ≡ [] → Underway ts h h.left items items cells cells kept keys replies
underway_first ts h items cells kept keys replies can no_kept no_keys no_replies = record {
  writes = [];
  written = no_keys;
  so_far = ap (λ rs. and_before [] rs (serve ts h h.left items cells)) no_replies ∙ before_nothing (serve ts h h.left items cells);
  back = ap (λ us. restored us cells) no_kept;
  resume = can;
}

step : (ts : List TxnRecord) (h : Head) (left less : Option ℕ) (i : Item) (rest all : List Item) (old now next : Cells) (kept more_kept : List Kept) (ks ls : List (List ℕ)) (rs qs : List Reply) → Underway ts h left (i ∷ rest) all old now kept ks rs → ServedNext ts h left less i now next ks ls rs qs None → restored more_kept next ≡ restored kept now → Underway ts h less rest all old next more_kept ls qs
step ts h left less i rest all old now next kept more_kept ks ls rs qs u s b =
    let r = s.0 in
    let mid = s.1.0 in
    let ws = s.1.1.0 in record {
      writes = u.writes ++ ws;
      written = s.1.1.2 ∙ ap (λ zs. zs ++ map key_of_write ws) u.written ∙ sym (map_append key_of_write u.writes ws);
      so_far =
          ap (λ ys. and_before (u.writes ++ ws) ys (serve ts h less rest next)) s.3
          ∙ sym (twice u.writes ws rs (r ∷ []) (serve ts h less rest next))
          ∙ ap (λ l. and_before u.writes rs (and_before ws (r ∷ []) (serve ts h l rest next))) s.2
          ∙ ap (λ z. and_before u.writes rs (and_before ws (r ∷ []) (serve ts h (left_after left (r ∷ [])) rest z))) s.1.2
          ∙ ap (λ m. and_before u.writes rs (and_left ts left i.request m (λ l z. serve ts h l rest z))) (sym s.1.1.1)
          ∙ u.so_far;
      back = b ∙ u.back;
      resume =
          subst (λ l. CanResume l rest next) (sym s.2)
          (subst (λ z. CanResume (left_after left (r ∷ [])) rest z) (sym s.1.2) (resume_next ts h left i rest now mid ws (r ∷ []) u.resume s.1.1.1));
    }

failing : (ts : List TxnRecord) (h : Head) (left : Option ℕ) (i : Item) (rest all : List Item) (old now : Cells) (kept : List Kept) (ks : List (List ℕ)) (rs : List Reply) (f : Failure) → Underway ts h left (i ∷ rest) all old now kept ks rs → ask_left h left i now ≡ Fails f → serve ts h h.left all old ≡ Fails f
failing ts h left i rest all old now kept ks rs f u s =
    sym u.so_far ∙ ap (λ m. and_before u.writes rs (and_left ts left i.request m (λ l z. serve ts h l rest z))) s

-- one item more was served
pub underway_more : (ts : List TxnRecord) (h : Head) (left less : Option ℕ) (all : List Item) (n : ℕ) (i : Item) (old now next : Cells) (kept more_kept : List Kept) (ks ls : List (List ℕ)) (rs qs : List Reply) → Underway ts h left (drop n all) all old now kept ks rs → n < length all → i ≡ get_or all n i → ServedNext ts h left less i now next ks ls rs qs None → restored more_kept next ≡ restored kept now → Underway ts h less (drop (n + 1) all) all old next more_kept ls qs
underway_more ts h left less all n i old now next kept more_kept ks ls rs qs u low at s b =
    step ts h left less i (drop (n + 1) all) all old now next kept more_kept ks ls rs qs (subst (λ is. Underway ts h left is all old now kept ks rs) (dropped all n i low at) u) s b

-- what is left of the next item's span can be said
pub underway_resume : (ts : List TxnRecord) (h : Head) (left : Option ℕ) (all : List Item) (n : ℕ) (i : Item) (old now : Cells) (kept : List Kept) (ks : List (List ℕ)) (rs : List Reply) → Underway ts h left (drop n all) all old now kept ks rs → n < length all → i ≡ get_or all n i → CanResume left (i ∷ []) now
underway_resume ts h left all n i old now kept ks rs u low at =
    resume_one left i (drop (n + 1) all) now (subst (λ is. CanResume left is now) (dropped all n i low at) u.resume)

-- one item failed
pub underway_failed : (ts : List TxnRecord) (h : Head) (left : Option ℕ) (all : List Item) (n : ℕ) (i : Item) (old now : Cells) (kept : List Kept) (ks : List (List ℕ)) (rs : List Reply) (f : Failure) → Underway ts h left (drop n all) all old now kept ks rs → n < length all → i ≡ get_or all n i → ask_left h left i now ≡ Fails f → serve ts h h.left all old ≡ Fails f
underway_failed ts h left all n i old now kept ks rs f u low at s =
    failing ts h left i (drop (n + 1) all) all old now kept ks rs f (subst (λ is. Underway ts h left is all old now kept ks rs) (dropped all n i low at) u) s

-- all were served
pub underway_done : (ts : List TxnRecord) (h : Head) (left : Option ℕ) (rest all : List Item) (old now : Cells) (kept : List Kept) (ks : List (List ℕ)) (rs : List Reply) → Underway ts h left rest all old now kept ks rs → rest ≡ [] → ServedItems ts h all old now ks (Tried.Replied rs)
underway_done ts h left rest all old now kept ks rs u none = (
  u.writes,
  sym u.so_far ∙ ap (λ is. and_before u.writes rs (serve ts h left is now)) none ∙ ap (λ ws. Gives now ws (rs ++ [])) (append_nil u.writes) ∙ ap (Gives now u.writes) (append_nil rs),
  u.written,
)

-- a piece that was served and finished
pub tried_replied : (ts : List TxnRecord) (h : Head) (is : List Item) (old now new : Cells) (keys : List (List ℕ)) (rs : List Reply) → ServedItems ts h is old now keys (Tried.Replied rs) → new ≡ finished_at h keys now → Tries h (serve ts h h.left is old) old new (Tried.Replied rs)
tried_replied ts h is old now new keys rs s end = (
  sym (ap answer_made s.1),
  end ∙ ap (λ ks. finished_at h ks now) s.2 ∙ finished_keys h h.txn s.0 now ∙ sym (ap (λ m. after_made h m old) s.1),
)

done_same : (rs qs : List Reply) → Answered.Done rs ≡ Answered.Done qs → rs ≡ qs
done_same rs qs h = cc

done_failed : {G : Type 0} (rs : List Reply) (f : Failure) → Answered.Done rs ≡ Answered.Failed f → G
done_failed rs f h = cc

-- the records after a piece that was answered so
pub answered_records : (h : Head) (is : List Item) (m : Made) (rs : List Reply) (ts : List TxnRecord) → Answered.Done rs ≡ answer_made m → all_ended h is rs ts ≡ records_made h is m ts
answered_records h is (Fails f) rs ts said = done_failed rs f said
answered_records h is (Gives cells ws qs) rs ts said = ap (λ z. all_ended h is z ts) (done_same rs qs said)

-- the keys that stand after a piece have room for one more
pub room_applied : (ts : List TxnRecord) (h : Head) (left : Option ℕ) (is : List Item) (old now : Cells) → now ≡ after_made h (serve ts h left is old) old → list_all has_proper_span (requests_of is) ≡ true → Each HasRoom old → Each HasRoom now
room_applied ts h left is old now made proper all = subst (Each HasRoom) (sym made) (by (serve ts h left is old) (room_served ts h left is old proper all))
  where
    by : (m : Made) → RoomAfter m → Each HasRoom (after_made h m old)
    by (Fails f) after = all
    by (Gives cells ws rs) after = room_committed h h.txn ws cells after.1 after.0
