-- How far a batch got at each key.
use Rattle.std.proofs.Common.{◌≡◌, ℕ, ◌≤◌, true, false, cond, inl, inr, List, [], ◌∷◌, ◌++◌, map, refl, sym, ap, ◌∙◌, subst, append_assoc}
use Rattle.std.proofs.lemmas.List.{append-nil}
use Rattle.ds_base.specs.Ordered.{key_eq, Ascends}
use Rattle.ds_base.proofs.OrderedFacts.{eq_itself}
use Rattle.ds_kind.specs.declared.batch.Item.{Item}
use Rattle.ds_cell.specs.declared.entry.At.{At}
use Rattle.ds_cell.specs.declared.entry.Version.{Version}
use Rattle.ds_cell.specs.Ask.{Cells, key_of, content_at}
use Rattle.ds_cell.specs.Change.{after_foreign}
use Rattle.ds_cell.specs.Content.{Content, Rises}
use Rattle.ds_cell.specs.Store.{put_cell}
use Rattle.ds_rule.specs.Asking.{at_of}
use Rattle.ds_rule.specs.Pieces.{Each, IsOneOf, IsCut, position_of}
use Rattle.ds_rule.specs.Turn.{TurnFails, IsNoRefusal, verdict, after_item, turn_of, items_at}
use Rattle.ds_rule.proofs.Puts.{put-at}
use Rattle.ds_turn.specs.Course.{ByBatch, ByOther, Course, CourseGives, course_after, course_turn, foreign_writes, with_versions}
use Rattle.ds_turn.specs.Cuts.{ActsAs}
use Rattle.ds_turn.specs.KeyIs.{KeyIs}
use Rattle.ds_turn.specs.Partway.{AllLater, NumbersInOrder, Partway}
use Rattle.ds_turn.specs.Progress.{BlockGoes, BatchBegins, BatchEnds, BatchGoes, BatchStays, BatchWritten, BatchRefused, CutsGoAgain, CutsGoOn, GoesTo, IsAgain, ProgressKept}
use Rattle.ds_turn.proofs.Again.{partway_begins, partway_foreign, partway_acts, partway_again}
use Rattle.ds_turn.proofs.Parts.{part-verdict, part-after, rise-held}
use Rattle.ds_turn.proofs.Courses.{and_turn-fine}
use Rattle.ds_turn.proofs.Keys.{keys_give, gives_at_keys}
use Rattle.ds_turn.proofs.Refusing.{partway_refused}
use Rattle.ds_turn.proofs.Cuts.{cut-acts}

-- numbers of a front

later-front : (i : Item) (xs ys : List Item) → AllLater i (xs ++ ys) → AllLater i xs
later-front i [] ys all = tt
later-front i (x ∷ xs) ys all = (all.0, later-front i xs ys all.1)

pub numbers-front : (xs ys : List Item) → NumbersInOrder (xs ++ ys) → NumbersInOrder xs
numbers-front [] ys all = tt
numbers-front (x ∷ xs) ys all = (later-front x xs ys all.0, numbers-front xs ys all.1)

pub one-more : (acted : List Item) (i : Item) (rest : List Item) → acted ++ i ∷ rest ≡ (acted ++ i ∷ []) ++ rest
one-more acted i rest = sym (append_assoc acted (i ∷ []) rest)

-- an item in its place

pub record Placed (items : List Item) (i : Item) : Type 0 where
  pub front : List Item
  pub back : List Item
  pub is : items ≡ front ++ i ∷ back

pub placed : (items : List Item) (i : Item) → IsOneOf i items → Placed items i
placed [] i one = absurd one
placed (x ∷ xs) i (inl same) = record { front = []; back = xs; is = ap (λ z. z ∷ xs) (sym same) }
placed (x ∷ xs) i (inr more) = let r = placed xs i more in record { front = x ∷ r.front; back = r.back; is = ap (λ zs. x ∷ zs) r.is }

-- one touch of the batch

pub again-still : (s : ℕ) (a : At) (j : Item) (acted : List Item) (vs : List Version) (c d : Content) → Partway s a acted vs c d → a.stamp.0 ≤ s → IsAgain acted j → after_item a j c ≡ c
again-still s a j acted vs c d m low again =
    let p = placed acted again.first again.one in
    part-after a j again.first c again.same ∙ (partway_again s a acted vs c d p.front again.first p.back m low p.is).1

pub next-acts : (s : ℕ) (a : At) (j i : Item) (acted rest : List Item) (vs : List Version) (c d : Content) → Partway s a acted vs c d → a.stamp.0 ≤ s → NumbersInOrder (acted ++ i ∷ rest)
    → ActsAs j i → IsNoRefusal (verdict a j c) → Partway s a (acted ++ i ∷ []) vs (after_item a j c) d
next-acts s a j i acted rest vs c d m low numbers same fine =
    let next = partway_acts s a acted vs c d i m low (numbers-front (acted ++ i ∷ []) rest (subst NumbersInOrder (one-more acted i rest) numbers)) (subst IsNoRefusal (part-verdict a j i c same) fine) in
    subst (λ e. Partway s a (acted ++ i ∷ []) vs e d) (sym (part-after a j i c same)) next.1

-- a course

gives-after : (a : At) (j : Item) (bs : Course) (c e : Content) → after_item a j c ≡ e → CourseGives a (ByBatch j ∷ bs) c → IsNoRefusal (verdict a j c) × CourseGives a bs e
gives-after a j bs c e same g =
    let parts = and_turn-fine j (verdict a j c) (course_turn a bs (after_item a j c)) g.bits g.writes g.gives in
    (parts.0, record { bits = parts.1; writes = parts.2; gives = ap (course_turn a bs) (sym same) ∙ parts.3 })

pub progress_kept : ProgressKept
progress_kept s a [] acted rest after vs c d m low all numbers goes g =
    subst (λ zs. Partway s a zs (vs ++ []) c d) goes (subst (λ us. Partway s a acted us c d) (sym (append-nil vs)) m)
progress_kept s a (ByOther v ∷ bs) acted rest after vs c d m low all numbers goes g =
    subst (λ us. Partway s a after us (course_after a bs (after_foreign v c)) d) (append_assoc vs (v ∷ []) (foreign_writes bs))
    (progress_kept s a bs acted rest after (vs ++ v ∷ []) (after_foreign v c) d (partway_foreign s a acted vs c d v m all.0) low all.1 numbers goes (record { bits = g.bits; writes = g.writes; gives = g.gives }))
progress_kept s a (ByBatch j ∷ bs) acted [] after vs c d m low all numbers goes g =
    let still = again-still s a j acted vs c d m low goes.0 in
    subst (λ e. Partway s a after (vs ++ foreign_writes bs) (course_after a bs e) d) (sym still)
    (progress_kept s a bs acted [] after vs c d m low all numbers goes.1 (gives-after a j bs c c still g).1)
progress_kept s a (ByBatch j ∷ bs) acted (i ∷ rest) after vs c d m low all numbers (inl again) g =
    let still = again-still s a j acted vs c d m low again.0 in
    subst (λ e. Partway s a after (vs ++ foreign_writes bs) (course_after a bs e) d) (sym still)
    (progress_kept s a bs acted (i ∷ rest) after vs c d m low all numbers again.1 (gives-after a j bs c c still g).1)
progress_kept s a (ByBatch j ∷ bs) acted (i ∷ rest) after vs c d m low all numbers (inr next) g =
    let parts = gives-after a j bs c (after_item a j c) refl g in
    progress_kept s a bs (acted ++ i ∷ []) rest after vs (after_item a j c) d
    (next-acts s a j i acted rest vs c d m low numbers next.0 parts.0)
    low all (subst NumbersInOrder (one-more acted i rest) numbers) next.1 parts.1

-- cuts

first-position : (p q : ℕ) (ps qs : List ℕ) → ◌≡◌ {A = List ℕ} (p ∷ ps) (q ∷ qs) → (p ≡ q) × (ps ≡ qs)
first-position p q ps qs h = let a : p ≡ q = cc in let b : ps ≡ qs = cc in (a, b)

pub cuts_go_on : CutsGoOn
cuts_go_on items [] acted [] more r cuts all e = sym (append-nil acted)
cuts_go_on items [] acted (i ∷ next) more r cuts all e = cc
cuts_go_on items (j ∷ js) acted [] more r cuts all e = cc
cuts_go_on items (j ∷ js) acted (i ∷ next) more r cuts all e =
    let both = first-position j.pos i.pos (map position_of js) (map position_of next) e in
    inr (
      cut-acts items j i r cuts.0 all.0 both.0,
      subst (λ zs. GoesTo (map ByBatch js) (acted ++ i ∷ []) (next ++ more) zs) (append_assoc acted (i ∷ []) next)
          (cuts_go_on items js (acted ++ i ∷ []) next more r cuts.1 all.1 both.1),
    )

again-at : (items : List Item) (j : Item) (acted : List Item) → Rises position_of items → IsCut items j → Each (λ i. IsOneOf i items) acted → IsOneOf j.pos (map position_of acted) → IsAgain acted j
again-at items j [] r cut all one = absurd one
again-at items j (i ∷ acted) r cut all (inl same) = record { first = i; one = inl refl; same = cut-acts items j i r cut all.0 same }
again-at items j (i ∷ acted) r cut all (inr more) = let x = again-at items j acted r cut all.1 more in record { first = x.first; one = inr x.one; same = x.same }

pub cuts_go_again : CutsGoAgain
cuts_go_again items [] acted rest r cuts all ones = refl
cuts_go_again items (j ∷ js) acted [] r cuts all ones = (again-at items j acted r cuts.0 all ones.0, cuts_go_again items js acted [] r cuts.1 all ones.1)
cuts_go_again items (j ∷ js) acted (i ∷ rest) r cuts all ones = inl (again-at items j acted r cuts.0 all ones.0, cuts_go_again items js acted (i ∷ rest) r cuts.1 all ones.1)

-- a block of a part

each-left : (P : Item → Type 0) (xs ys : List Item) → Each P (xs ++ ys) → Each P xs × Each P ys
each-left P [] ys all = (tt, all)
each-left P (x ∷ xs) ys all = let r = each-left P xs ys all.1 in ((all.0, r.0), r.1)

one-right : (n : ℕ) (xs ys : List ℕ) → IsOneOf n ys → IsOneOf n (xs ++ ys)
one-right n [] ys one = one
one-right n (x ∷ xs) ys one = inr (one-right n xs ys one)

map-both : (xs ys : List Item) → map position_of (xs ++ ys) ≡ map position_of xs ++ map position_of ys
map-both [] ys = refl
map-both (x ∷ xs) ys = ap (λ zs. x.pos ∷ zs) (map-both xs ys)

-- each of these positions stands among some
each-position : (ns : List ℕ) (js : List Item) → ((n : ℕ) → IsOneOf n (map position_of js) → IsOneOf n ns) → Each (λ j. IsOneOf j.pos ns) js
each-position ns [] all = tt
each-position ns (j ∷ js) all = (all j.pos (inl refl), each-position ns js (λ n one. all n (inr one)))

pub block_goes : BlockGoes
block_goes items js bs ps ms acted rest r cuts all (inl none) at =
    (acted, rest, subst (λ zs. GoesTo (map ByBatch zs) acted rest acted) (sym none) refl, at)
block_goes items js bs ps ms acted rest r cuts all (inr same) (inl before) = (
  bs ++ ps,
  ms,
  subst (λ zs. GoesTo (map ByBatch js) zs rest (bs ++ ps)) (sym before.0)
      (subst (λ zs. GoesTo (map ByBatch js) bs zs (bs ++ ps)) (sym before.1) (cuts_go_on items js bs ps ms r cuts (each-left (λ i. IsOneOf i items) bs ps all).1 same)),
  inr (refl, refl),
)
block_goes items js bs ps ms acted rest r cuts all (inr same) (inr past) = (
  acted,
  rest,
  cuts_go_again items js acted rest r cuts (subst (Each (λ i. IsOneOf i items)) (sym past.0) all)
      (each-position (map position_of acted) js (λ n one.
      subst (λ zs. IsOneOf n (map position_of zs)) (sym past.0)
      (subst (λ ns. IsOneOf n ns) (sym (map-both bs ps)) (one-right n (map position_of bs) (map position_of ps) (subst (λ ns. IsOneOf n ns) same one))))),
  inr past,
)

-- all keys

pub batch_begins : BatchBegins
batch_begins s q world cells asc keys = record {
  ascends = asc;
  at = λ k. partway_begins s (at_of q.head 0) (world k) (content_at k cells) (keys k);
  rest = λ k. items_at k q.items;
  front = λ k. refl;
}

pub goes-rest : (bs : Course) (acted rest after : List Item) → GoesTo bs acted rest after → (more : List Item) × (acted ++ rest ≡ after ++ more)
goes-rest [] acted rest after e = (rest, ap (λ zs. zs ++ rest) e)
goes-rest (ByOther v ∷ bs) acted rest after h = goes-rest bs acted rest after h
goes-rest (ByBatch j ∷ bs) acted [] after h = goes-rest bs acted [] after h.1
goes-rest (ByBatch j ∷ bs) acted (i ∷ rest) after (inl again) = goes-rest bs acted (i ∷ rest) after again.1
goes-rest (ByBatch j ∷ bs) acted (i ∷ rest) after (inr next) =
    let r = goes-rest bs (acted ++ i ∷ []) rest after next.1 in (r.0, one-more acted i rest ∙ r.1)

pub batch_goes : BatchGoes
batch_goes s q acted after vs world cells course b low numbers foreign gives goes = record {
  ascends = b.ascends;
  at = λ k. progress_kept s (at_of q.head 0) (course k) (acted k) (b.rest k) (after k) (vs k) (world k) (content_at k cells) (b.at k) low (foreign k) (subst NumbersInOrder (b.front k) (rise-held k q.items numbers)) (goes k) (gives k);
  rest = λ k. (goes-rest (course k) (acted k) (b.rest k) (after k) (goes k)).0;
  front = λ k. b.front k ∙ (goes-rest (course k) (acted k) (b.rest k) (after k) (goes k)).1;
}

pub batch_stays : BatchStays
batch_stays s q acted vs world now cells b same = record {
  ascends = b.ascends;
  at = λ k. subst (λ c. Partway s (at_of q.head 0) (acted k) (vs k) c (content_at k cells)) (sym (same k)) (b.at k);
  rest = b.rest;
  front = b.front;
}

pub batch_written : BatchWritten
batch_written s q acted vs world now cells key v b high same = record {
  ascends = b.ascends;
  at = λ k.
      subst (λ c. Partway s (at_of q.head 0) (acted k) (cond (key_eq key k) (vs k ++ v ∷ []) (vs k)) c (content_at k cells)) (sym (same k))
      (elim (key_eq key k) as (λ t. Partway s (at_of q.head 0) (acted k) (cond t (vs k ++ v ∷ []) (vs k)) (cond t (after_foreign v (world k)) (world k)) (content_at k cells)) [
        | true ↦ partway_foreign s (at_of q.head 0) (acted k) (vs k) (world k) (content_at k cells) v (b.at k) high
        | false ↦ b.at k
      ]);
  rest = b.rest;
  front = b.front;
}

pub batch_ends : BatchEnds
batch_ends s q vs world cells b =
    let given = keys_give q.head q.items cells b.ascends (λ k. (b.at k).none_refused) in
    let keys = gives_at_keys q.head q.items cells given.0 given.1 given.2 b.ascends given.3 in
    (given.0, given.1, given.2, given.3, keys.0, λ k. subst (λ d. KeyIs s (world k) (with_versions (vs k) d)) (sym (keys.1 k).1) (b.at k).key)

pub put-there : (k : List ℕ) (f : Content → Content) (cells : Cells) → Ascends key_of cells → content_at k (put_cell k f cells) ≡ f (content_at k cells)
put-there k f cells asc = put-at k k f cells asc ∙ ap (λ t. cond t (f (content_at k cells)) (content_at k cells)) (eq_itself k)

pub batch_refused : BatchRefused
batch_refused s q acted vs world cells b low k j i more f rest same refused =
    let a = at_of q.head 0 in
    let parts = partway_refused s a (acted k) (vs k) (world k) (content_at k cells) i more f (b.at k) low (sym (part-verdict a j i (world k) same) ∙ refused) in
    let all : items_at k q.items ≡ acted k ++ i ∷ more = b.front k ∙ ap (λ zs. acted k ++ zs) rest in (
      λ young. ap (λ zs. turn_of a zs (content_at k cells)) all ∙ parts.0 young ∙ ap (λ n. TurnFails n f) (sym same.position),
      λ old.
          ap (turn_of a (items_at k q.items)) (put-there k (with_versions (vs k)) cells b.ascends)
          ∙ ap (λ zs. turn_of a zs (with_versions (vs k) (content_at k cells))) all
          ∙ parts.1 old
          ∙ ap (λ n. TurnFails n f) (sym same.position),
    )
