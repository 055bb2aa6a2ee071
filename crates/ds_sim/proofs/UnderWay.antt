-- A block that is under way, and what becomes of it.
use Rattle.std.proofs.Common.{◌≡◌, ℕ, zero, suc, ◌+◌, ◌≤◌, ◌<◌, ◌^◌, Bool, true, false, ◌&&◌, List, [], ◌∷◌, ◌++◌, length, Option, Some, None, refl, sym, ap, ◌∙◌, subst, append_assoc, nat_le, take, drop, arith, Result, Ok, Err, OnOk, OnErr, IfOk}
use Rattle.std.specs.List.{slice_get}
use Rattle.std.specs.declared.alloc.AllocError.{AllocError}
use Rattle.std.proofs.lemmas.Option.{slice_get_within}
use Rattle.ds_base.proofs.TestFacts.{never}
use Rattle.ds_base.proofs.SmallFacts.{and_both, and_first, and_second, append_nil, gt_of, le_of}
use Rattle.ds_rule.specs.declared.event.Event.{Event}
use Rattle.ds_rule.specs.declared.event.Timed.{Timed}
use Rattle.ds_rule.specs.declared.journal.JournalStep.{JournalStep}
use Rattle.ds_rule.specs.Blocks.{all_made, least_from, never_fall, woven}
use Rattle.ds_rule.specs.Journal.{Did, Moved}
use Rattle.ds_rule.specs.Moves.{IsMove}
use Rattle.ds_rule.specs.Pieces.{Each}
use Rattle.ds_rule.proofs.Eachs.{each-append}
use Rattle.ds_rule.proofs.Weaving.{IsBy, IsFrom, woven-more, woven-step}
use Rattle.ds_sim.specs.UnderWay.{IsNext, IsUnderWay, Notes, UnderWay, is_due, is_first_due, next_number, passed, passed_by, under_way}

-- ---- events that rise

falls-less : (m n : ℕ) (ts : List Timed) → m ≤ n → never_fall n ts ≡ true → never_fall m ts ≡ true
falls-less m n [] le h = refl
falls-less m n (t ∷ ts) le h =
    let low : n ≤ t.at = le_of n t.at (and_first (nat_le n t.at) _ h) in
    and_both (nat_le m t.at) _ (le-test m t.at (omega (arith, le, low))) (and_second (nat_le n t.at) _ h)
  where
    le-test : (m n : ℕ) → m ≤ n → nat_le m n ≡ true
    le-test m n le =
        elim (nat_le m n) as (λ b. nat_le m n ≡ b → b ≡ true) [
          | true ↦ λ e. refl
          | false ↦ λ e. let high : n < m = gt_of m n e in absurd (omega (arith, le, high))
        ] refl

-- each is as high as the bound
rising-from : (n : ℕ) (ts : List Timed) → never_fall n ts ≡ true → Each (IsFrom n) ts
rising-from n [] h = tt
rising-from n (t ∷ ts) h =
    let low : n ≤ t.at = le_of n t.at (and_first (nat_le n t.at) _ h) in
    (low, rising-from n ts (falls-less n t.at ts low (and_second (nat_le n t.at) _ h)))

-- where none is due before the next step, all are due after it
none-due : (n m : ℕ) (ts : List Timed) → never_fall m ts ≡ true → is_first_due n ts ≡ false → never_fall (n + 1) ts ≡ true
none-due n m [] h due = refl
none-due n m (t ∷ ts) h due =
    let high : n < t.at = gt_of t.at n due in
    and_both (nat_le (n + 1) t.at) _ (le-test (n + 1) t.at (omega (arith, high))) (and_second (nat_le m t.at) _ h)
  where
    le-test : (m n : ℕ) → m ≤ n → nat_le m n ≡ true
    le-test m n le =
        elim (nat_le m n) as (λ b. nat_le m n ≡ b → b ≡ true) [
          | true ↦ λ e. refl
          | false ↦ λ e. let high : n < m = gt_of m n e in absurd (omega (arith, le, high))
        ] refl

-- ---- the place of the next event

next-at : {X : Type 0} (xs : List X) (i : ℕ) (x : X) → slice_get xs i ≡ Some x → drop i xs ≡ x ∷ drop (i + 1) xs
next-at [] i x h = cc
next-at (y ∷ ys) zero x h = cc
next-at (y ∷ ys) (suc i) x h = let e : suc i + 1 ≡ suc (i + 1) = omega arith in rw e (next-at ys i x h)

none-at : {X : Type 0} (xs : List X) (i : ℕ) → slice_get xs i ≡ None → drop i xs ≡ []
none-at [] zero h = refl
none-at [] (suc i) h = refl
none-at (y ∷ ys) zero h = cc
none-at (y ∷ ys) (suc i) h = none-at ys i h

pub taken-at : {X : Type 0} (xs : List X) (i : ℕ) (x : X) → slice_get xs i ≡ Some x → take (i + 1) xs ≡ take i xs ++ x ∷ []
taken-at [] i x h = cc
taken-at (y ∷ ys) zero x h = cc
taken-at (y ∷ ys) (suc i) x h = let e : suc i + 1 ≡ suc (i + 1) = omega arith in rw e (ap (λ zs. y ∷ zs) (taken-at ys i x h))

-- ---- what is kept

start-kept : (events : List Timed) (floor count : ℕ) → never_fall 0 events ≡ true → Each (λ t. IsMove floor t.event) events → count + length events < 2 ^ 64 → IsUnderWay (under_way 0 events [] floor count)
start-kept events floor count rising moves few = record { made = tt; coming = rising; moves = moves; fits = few }

-- the next event is one that may be made, and happens after all so far
next-of : (u : UnderWay) (t : Timed) (ts : List Timed) (e : Event) → IsUnderWay u → u.coming ≡ t ∷ ts → e ≡ t.event → IsNext e u
next-of u t ts e kept is same = record {
  first = t;
  rest = ts;
  coming = is;
  event = same;
  move = subst (IsMove u.floor) (sym same) (subst (Each (λ x. IsMove u.floor x.event)) is kept.moves).0;
  after =
      woven-more 1 u.made (t ∷ []) u.steps ((subst (Each (IsFrom (least_from 1 u.steps))) is (rising-from (least_from 1 u.steps) u.coming kept.coming)).0, tt)
      ∙ ap (λ x. woven 1 u.made u.steps ++ Moved x ∷ []) (sym same);
}

-- ---- the next event is made

-- an event is due: there is one, at its place
record DueAt (i : ℕ) (events : List Timed) (n : ℕ) : Type 0 where
  first : Timed
  at : slice_get events i ≡ Some first
  low : first.at ≤ n

due-at : (i : ℕ) (events : List Timed) (n : ℕ) → is_first_due n (drop i events) ≡ true → DueAt i events n
due-at i events n h = by (slice_get events i) refl
  where
    by : (o : Option Timed) → slice_get events i ≡ o → DueAt i events n
    by (Some t) e = record { first = t; at = e; low = le_of t.at n (subst (λ ts. is_first_due n ts ≡ true) (next-at events i t e) h) }
    by None e = absurd (never (subst (λ ts. is_first_due n ts ≡ true) (none-at events i e) h))

pub due-within : (i : ℕ) (events : List Timed) (n : ℕ) → is_first_due n (drop i events) ≡ true → i < length events
due-within i events n h = slice_get_within events i _ (due-at i events n h).at

pub due-next : (i : ℕ) (events : List Timed) (steps : List JournalStep) (floor count : ℕ) (e : Event) → IsUnderWay (under_way i events steps floor count) → is_due (under_way i events steps floor count) ≡ true → ((t : Timed) → slice_get events i ≡ Some t → e ≡ t.event) → IsNext e (under_way i events steps floor count)
due-next i events steps floor count e kept due is =
    let d = due-at i events (next_number steps) due in
    next-of (under_way i events steps floor count) d.first (drop (i + 1) events) e kept (next-at events i d.first d.at) (is d.first d.at)

pub pass-is : (i : ℕ) (events : List Timed) (steps : List JournalStep) (floor count : ℕ) → is_due (under_way i events steps floor count) ≡ true → under_way (i + 1) events steps floor (count + 1) ≡ passed (under_way i events steps floor count)
pass-is i events steps floor count due =
    let d = due-at i events (next_number steps) due in
    let u : UnderWay = under_way i events steps floor count in
    ap (λ ts. record { made = ts; coming = drop (i + 1) events; steps = steps; floor = floor; count = count + 1 }) (taken-at events i d.first d.at)
    ∙ ap (λ ts. passed_by ts u) (sym (next-at events i d.first d.at))

pub pass-kept : (i : ℕ) (events : List Timed) (steps : List JournalStep) (floor count : ℕ) → IsUnderWay (under_way i events steps floor count) → is_due (under_way i events steps floor count) ≡ true → IsUnderWay (under_way (i + 1) events steps floor (count + 1))
pass-kept i events steps floor count kept due =
    let d = due-at i events (next_number steps) due in
    let next = next-at events i d.first d.at in
    let rises = subst (λ ts. never_fall (least_from 1 steps) ts ≡ true) next kept.coming in
    let here : least_from 1 steps ≤ d.first.at = le_of (least_from 1 steps) d.first.at (and_first (nat_le (least_from 1 steps) d.first.at) _ rises) in
    let fits : count + length (d.first ∷ drop (i + 1) events) < 2 ^ 64 = subst (λ ts. count + length ts < 2 ^ 64) next kept.fits in
    record {
      made = subst (Each (λ t. t.at ≤ next_number steps)) (sym (taken-at events i d.first d.at)) (each-append (λ t. t.at ≤ next_number steps) (take i events) (d.first ∷ []) kept.made (d.low, tt));
      coming = falls-less (least_from 1 steps) d.first.at (drop (i + 1) events) here (and_second (nat_le (least_from 1 steps) d.first.at) _ rises);
      moves = (subst (Each (λ t. IsMove floor t.event)) next kept.moves).1;
      fits = omega (arith, fits);
    }

pub pass-fits : (i : ℕ) (events : List Timed) (steps : List JournalStep) (floor count : ℕ) → IsUnderWay (under_way i events steps floor count) → is_due (under_way i events steps floor count) ≡ true → count + 1 < 2 ^ 64
pass-fits i events steps floor count kept due = let more = (pass-kept i events steps floor count kept due).fits in omega (arith, more)

pub pass-within : (i : ℕ) (events : List Timed) (n : ℕ) → is_first_due n (drop i events) ≡ true → i + 1 ≤ length events
pass-within i events n due = let low = due-within i events n due in omega (arith, low)

-- ---- a step is noted

least-more : (steps : List JournalStep) (s : JournalStep) → least_from 1 (steps ++ s ∷ []) ≡ next_number steps + 1
least-more [] s = refl
least-more (r ∷ steps) s = let e = longer steps in omega (arith, e)
  where
    longer : (ss : List JournalStep) → length (ss ++ s ∷ []) ≡ length ss + 1
    longer [] = refl
    longer (x ∷ ss) = let e = longer ss in omega (arith, e)

by-more : (m n : ℕ) (ts : List Timed) → m ≤ n → Each (IsBy m) ts → Each (IsBy n) ts
by-more m n [] le all = tt
by-more m n (t ∷ ts) le all = let low : t.at ≤ m = all.0 in ((let less : t.at ≤ n = omega (arith, le, low) in less), by-more m n ts le all.1)

longer : (ss : List JournalStep) (s : JournalStep) → length ss ≤ length (ss ++ s ∷ [])
longer [] s = omega arith
longer (x ∷ ss) s = let e = longer ss s in omega (arith, e)

note-kept : (i : ℕ) (events : List Timed) (steps : List JournalStep) (floor count : ℕ) (s : JournalStep) → IsUnderWay (under_way i events steps floor count) → is_due (under_way i events steps floor count) ≡ false → IsUnderWay (under_way i events (steps ++ s ∷ []) floor count)
note-kept i events steps floor count s kept due = record {
  made = by-more (next_number steps) (next_number (steps ++ s ∷ [])) (take i events) (let e = longer steps s in omega (arith, e)) kept.made;
  coming = subst (λ n. never_fall n (drop i events) ≡ true) (sym (least-more steps s)) (none-due (next_number steps) (least_from 1 steps) (drop i events) kept.coming due);
  moves = kept.moves;
  fits = kept.fits;
}

-- over what the call says that notes it

pub noting-kept : {X : Type 0} (f : X → JournalStep) (r : Result X AllocError) (i : ℕ) (events : List Timed) (steps later : List JournalStep) (floor count : ℕ) → IfOk r (λ x. later ≡ steps ++ f x ∷ []) → OnErr r (later ≡ steps) → IsUnderWay (under_way i events steps floor count) → is_due (under_way i events steps floor count) ≡ false → IsUnderWay (under_way i events later floor count)
noting-kept f (Ok x) i events steps later floor count ok err kept due = subst (λ ss. IsUnderWay (under_way i events ss floor count)) (sym ok) (note-kept i events steps floor count (f x) kept due)
noting-kept f (Err e) i events steps later floor count ok err kept due = subst (λ ss. IsUnderWay (under_way i events ss floor count)) (sym err) kept

pub notes : {X : Type 0} (f : X → JournalStep) (r : Result X AllocError) (i : ℕ) (events : List Timed) (steps later : List JournalStep) (floor count : ℕ) → IfOk r (λ x. later ≡ steps ++ f x ∷ []) → IsUnderWay (under_way i events steps floor count) → IfOk r (λ x. Notes (f x) (under_way i events steps floor count) (under_way i events later floor count))
notes f (Err e) i events steps later floor count ok kept = tt
notes f (Ok x) i events steps later floor count ok kept = record {
  is = ap (λ ss. under_way i events ss floor count) ok;
  grown = ap (λ ss. woven 1 (take i events) ss) ok ∙ woven-step 1 (take i events) steps (f x) kept.made;
}

pub not-noted : {X : Type 0} (r : Result X AllocError) (i : ℕ) (events : List Timed) (steps later : List JournalStep) (floor count : ℕ) → OnErr r (later ≡ steps) → OnErr r (under_way i events later floor count ≡ under_way i events steps floor count)
not-noted (Ok x) i events steps later floor count err = tt
not-noted (Err e) i events steps later floor count err = ap (λ ss. under_way i events ss floor count) err

pub on-if : (P : Type 0) (r : Result (Unit {0}) AllocError) → OnOk r P → IfOk r (λ x. P)
on-if P (Ok x) h = h
on-if P (Err e) h = tt

pub if-on : (P : Type 0) (r : Result (Unit {0}) AllocError) → IfOk r (λ x. P) → OnOk r P
if-on P (Ok x) h = h
if-on P (Err e) h = tt

-- ---- what is left at the end

pub left-after-so : (u : UnderWay) (rest : List Timed) → rest ≡ u.coming → woven 1 (u.made ++ u.coming) u.steps ≡ woven 1 u.made u.steps ++ all_made u.coming → woven 1 (u.made ++ rest) u.steps ≡ woven 1 u.made u.steps ++ all_made rest
left-after-so u rest is all = subst (λ ts. woven 1 (u.made ++ ts) u.steps ≡ woven 1 u.made u.steps ++ all_made ts) (sym is) all

pub left-after : (u : UnderWay) → IsUnderWay u → woven 1 (u.made ++ u.coming) u.steps ≡ woven 1 u.made u.steps ++ all_made u.coming
left-after u kept = woven-more 1 u.made u.coming u.steps (rising-from (least_from 1 u.steps) u.coming kept.coming)

-- ---- a look at the next event

pub due-some : (i : ℕ) (events : List Timed) (n : ℕ) (t : Timed) → slice_get events i ≡ Some t → nat_le t.at n ≡ is_first_due n (drop i events)
due-some i events n t at = sym (ap (is_first_due n) (next-at events i t at))

pub due-none : (i : ℕ) (events : List Timed) (n : ℕ) → slice_get events i ≡ None → false ≡ is_first_due n (drop i events)
due-none i events n out = sym (ap (is_first_due n) (none-at events i out))
