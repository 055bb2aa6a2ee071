-- The work that is left of a part, as it is routed, cut, done and given back.
use Rattle.std.proofs.Common.{◌≡◌, ℕ, ◌<◌, List, [], ◌∷◌, ◌++◌, map, length, false, Option, Some, None, inl, inr, refl, sym, subst, append_assoc}
use Rattle.std.proofs.lemmas.List.Elements.{All-nil, All-cons, All-head, All-tail}
use Rattle.std.proofs.lemmas.List.Sorted.{All-permutation, IsPermutation-map, IsPermutation-append_right}
use Rattle.std.specs.List.{All}
use Rattle.std.specs.List.Sorted.{IsPermutation}
use Rattle.ds_base.specs.Order.{Extent}
use Rattle.ds_desc.specs.declared.desc.RangeDesc.{RangeDesc}
use Rattle.ds_kind.specs.Left.{is_used_up}
use Rattle.ds_kind.specs.declared.batch.Item.{Item}
use Rattle.ds_kind.specs.declared.batch.Part.{Part}
use Rattle.ds_kind.specs.declared.batch.Piece.{Piece}
use Rattle.ds_cover.specs.Coverage.{Covered}
use Rattle.ds_cover.specs.Items.{AreProper}
use Rattle.ds_cover.proofs.Moving.{covered-first}
use Rattle.ds_cover.proofs.Sharing.{stays-covered}
use Rattle.ds_cover.proofs.Tracing.{cuts-of-all}
use Rattle.ds_rule.specs.declared.answer.Answer.{Answer}
use Rattle.ds_rule.specs.declared.journal.JournalStep.TheVariants.{Send}
use Rattle.ds_rule.specs.Journal.{Happening, Moved, Did}
use Rattle.ds_rule.specs.Pieces.{Each, IsOneOf}
use Rattle.ds_flight.specs.Flights.{Flight, AllAtOnce, PieceOfPart}
use Rattle.ds_flight.specs.Goes.{StepGoes, known_after, descs_of, told_by}
use Rattle.ds_flight.specs.Works.{items_of, IsFlying, IsTask, Underway}
use Rattle.ds_flight.specs.declared.work.Flying.{Flying}
use Rattle.ds_flight.specs.declared.work.Task.{Task}
use Rattle.ds_flight.specs.declared.work.Task.TheVariants.{Rest, Routed}

-- ---- known descriptors only grow

pub of-left : {X : Type 0} (x : X) (xs ys : List X) → IsOneOf x xs → IsOneOf x (xs ++ ys)
of-left x [] ys one = absurd one
of-left x (y ∷ xs) ys (inl same) = inl same
of-left x (y ∷ xs) ys (inr more) = inr (of-left x xs ys more)

pub of-right : {X : Type 0} (x : X) (xs ys : List X) → IsOneOf x ys → IsOneOf x (xs ++ ys)
of-right x [] ys one = one
of-right x (y ∷ xs) ys one = inr (of-right x xs ys one)

pub known-grows : (d : RangeDesc) (known : List RangeDesc) (hs : List Happening) → IsOneOf d known → IsOneOf d (known_after known hs)
known-grows d known [] one = one
known-grows d known (Moved e ∷ hs) one = known-grows d known hs one
known-grows d known (Did s ∷ hs) one = known-grows d (known ++ descs_of (told_by s)) hs (of-left d known (descs_of (told_by s)) one)

pub each-more : {X : Type 0} (P Q : X → Type 0) (xs : List X) → ((x : X) → P x → Q x) → Each P xs → Each Q xs
each-more P Q [] g all = tt
each-more P Q (x ∷ xs) g all = (g x all.0, each-more P Q xs g all.1)

task-known : (f : Flight) (known : List RangeDesc) (hs : List Happening) (t : Task) → IsTask f known t → IsTask f (known_after known hs) t
task-known f known hs (Rest c) is = is
task-known f known hs (Routed r) is = record {
  some = is.some;
  of = is.of;
  spans = is.spans;
  dir = is.dir;
  desc = is.desc;
  is_known = known-grows is.desc known hs is.is_known;
  by = is.by;
}

-- the work is as it was after whatever happened
pub underway-later : (f : Flight) (known : List RangeDesc) (done : List (List Item)) (work : List Task) (hs : List Happening) → Underway f known done work → Underway f (known_after known hs) done work
underway-later f known done work hs u = record {
  covered = u.covered;
  each = each-more (IsTask f known) (IsTask f (known_after known hs)) work (task-known f known hs) u.each;
}

-- ---- the order of the tasks doesn't matter

each-all : {X : Type 0} (P : X → Type 0) (xs : List X) → Each P xs → All P xs
each-all P [] h = All-nil P
each-all P (x ∷ xs) h = All-cons P x xs h.0 (each-all P xs h.1)

all-each : {X : Type 0} (P : X → Type 0) (xs : List X) → All P xs → Each P xs
all-each P [] h = tt
all-each P (x ∷ xs) h = (All-head P x xs h, all-each P xs (All-tail P x xs h))

pub each-permuted : {X : Type 0} (P : X → Type 0) (xs ys : List X) → IsPermutation xs ys → Each P xs → Each P ys
each-permuted P xs ys p h = all-each P ys (All-permutation P xs ys p (each-all P xs h))

pub underway-permuted : (f : Flight) (known : List RangeDesc) (done : List (List Item)) (xs ys : List Task) → IsPermutation xs ys → Underway f known done xs → Underway f known done ys
underway-permuted f known done xs ys p u = record {
  covered = stays-covered f.part.items (done ++ map items_of xs) (done ++ map items_of ys)
      (IsPermutation-append_right done (map items_of xs) (map items_of ys) (IsPermutation-map items_of xs ys p)) u.covered;
  each = each-permuted (IsTask f known) xs ys p u.each;
}

-- ---- the work begins as one rest

pub underway-first : (f : Flight) (known : List RangeDesc) → 0 < length f.part.items → AreProper f.part.items → Underway f known [] (Rest f.part ∷ [])
underway-first f known some proper = record {
  covered = covered-first f.part.items;
  each = ((record { some = some; of = record { cuts = cuts-of-all f.part.items; proper = proper; all = all-of f.whole f.part.items } }, refl), tt);
}
  where
    all-of : (whole : Option Extent) (items : List Item) → AllAtOnce whole items items
    all-of None items = tt
    all-of (Some w) items = refl

-- ---- a routed piece is done, tried again, or given back as a rest

pub underway-done : (f : Flight) (known : List RangeDesc) (done : List (List Item)) (r : Flying) (work : List Task) → Underway f known done (Routed r ∷ work) → Underway f known (done ++ r.piece.items ∷ []) work
underway-done f known done r work u = record {
  covered = subst (Covered f.part.items) (sym (append_assoc done (r.piece.items ∷ []) (map items_of work))) u.covered;
  each = u.each.1;
}

-- a task in the place of another with the same items
pub underway-instead : (f : Flight) (known : List RangeDesc) (done : List (List Item)) (t n : Task) (work : List Task) → items_of n ≡ items_of t → IsTask f known n → Underway f known done (t ∷ work) → Underway f known done (n ∷ work)
underway-instead f known done t n work same is u = record {
  covered = subst (λ b. Covered f.part.items (done ++ b ∷ map items_of work)) (sym same) u.covered;
  each = (is, u.each.1);
}

pub flying-rest : (f : Flight) (known : List RangeDesc) (r : Flying) (c : Part) → c ≡ record { items = r.piece.items; dir = r.piece.dir } → IsFlying f known r → IsTask f known (Rest c)
flying-rest f known r c same is =
    subst (λ x. IsTask f known (Rest x)) (sym same) (record { some = is.some; of = is.of }, is.dir)

-- ---- a routed piece is sent

pub flying-goes : (f : Flight) (known : List RangeDesc) (r : Flying) (left : Option ℕ) (p : Piece) (a : Answer) → is_used_up left ≡ false → p ≡ record (r.piece) { head = record (f.head) { left = left } } → IsFlying f known r → PieceOfPart f left p × StepGoes f.whole known (Send r.node p a)
flying-goes f known r left p a room same is =
    subst (λ x. PieceOfPart f left x × StepGoes f.whole known (Send r.node x a)) (sym same) (
      record { head = refl; room = room; some = is.some; of = is.of; dir = is.dir },
      (is.desc, is.is_known, record { replica = is.by.node; range = is.by.range; held = is.by.held; one = is.by.one }),
    )
