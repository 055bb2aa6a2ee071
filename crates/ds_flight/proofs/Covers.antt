-- The pieces of one call after another are blocks of the part.
use Rattle.std.proofs.Common.{◌≡◌, ℕ, List, [], ◌∷◌, ◌++◌, map, sym, subst, append_assoc}
use Rattle.std.specs.List.Sorted.{IsPermutation}
use Rattle.std.proofs.lemmas.List.{append-nil}
use Rattle.std.proofs.lemmas.List.Sorted.{IsPermutation-append_right, IsPermutation-map}
use Rattle.ds_kind.specs.declared.batch.Item.{Item}
use Rattle.ds_kind.specs.declared.batch.Piece.{Piece}
use Rattle.ds_cover.specs.Coverage.{Covered}
use Rattle.ds_cover.proofs.Sharing.{stays-covered}
use Rattle.ds_desc.specs.declared.desc.RangeDesc.{RangeDesc}
use Rattle.ds_rule.specs.declared.answer.Answer.{Answer}
use Rattle.ds_rule.specs.declared.journal.JournalStep.TheVariants.{Look, Send}
use Rattle.ds_rule.specs.Journal.{Happening, Moved, Did}
use Rattle.ds_flight.specs.Covers.{AllCover, StepCovers}
use Rattle.ds_flight.specs.Flights.{Flight}
use Rattle.ds_flight.specs.Left.{block_by, blocks_of}
use Rattle.ds_flight.specs.Picks.{sends_of}
use Rattle.ds_flight.specs.Works.{items_of, Underway}
use Rattle.ds_flight.specs.declared.work.Flying.{Flying}
use Rattle.ds_flight.specs.declared.work.Task.{Task}
use Rattle.ds_flight.specs.declared.work.Task.TheVariants.{Routed}

pub cover-append : (items : List Item) (done : List (List Item)) (xs ys : List Happening) → AllCover items done xs → AllCover items (done ++ blocks_of xs) ys → AllCover items done (xs ++ ys)
cover-append items done [] ys a b = subst (λ z. AllCover items z ys) (append-nil done) b
cover-append items done (Moved e ∷ xs) ys a b = cover-append items done xs ys a b
cover-append items done (Did s ∷ xs) ys a b =
    (a.0, cover-append items (done ++ block_by s) xs ys a.1 (subst (λ z. AllCover items z ys) (sym (append_assoc done (block_by s) (blocks_of xs))) b))

-- where nothing was sent
pub cover-none : (items : List Item) (done : List (List Item)) (hs : List Happening) → sends_of hs ≡ [] → AllCover items done hs
cover-none items done [] none = tt
cover-none items done (Moved e ∷ hs) none = cover-none items done hs none
cover-none items done (Did (Look k d l) ∷ hs) none = (tt, subst (λ z. AllCover items z hs) (sym (append-nil done)) (cover-none items done hs none))
cover-none items done (Did (Send n p a) ∷ hs) none = cc

-- where one piece was sent
pub cover-one : (items : List Item) (done : List (List Item)) (hs : List Happening) (n : ℕ) (p : Piece) (a : Answer) → sends_of hs ≡ Send n p a ∷ [] → StepCovers items done (Send n p a) → AllCover items done hs
cover-one items done [] n p a one covers = cc
cover-one items done (Moved e ∷ hs) n p a one covers = cover-one items done hs n p a one covers
cover-one items done (Did (Look k d l) ∷ hs) n p a one covers = (tt, subst (λ z. AllCover items z hs) (sym (append-nil done)) (cover-one items done hs n p a one covers))
cover-one items done (Did (Send m r b) ∷ hs) n p a one covers =
    let same : Send m r b ≡ Send n p a = cc in
    let none : sends_of hs ≡ [] = cc in
    (subst (StepCovers items done) (sym same) covers, cover-none items (done ++ block_by (Send m r b)) hs none)

-- a routed piece of the work is a block
pub routed-covers :
    (f : Flight) (known : List RangeDesc) (done : List (List Item)) (work others : List Task) (r : Flying) (n : ℕ) (p : Piece) (a : Answer)
    → Underway f known done work → IsPermutation work (Routed r ∷ others) → p.items ≡ r.piece.items → StepCovers f.part.items done (Send n p a)
routed-covers f known done work others r n p a u moved same = (
  map items_of others,
  subst (λ z. Covered f.part.items (done ++ z ∷ map items_of others)) (sym same)
      (stays-covered f.part.items (done ++ map items_of work) (done ++ map items_of (Routed r ∷ others))
      (IsPermutation-append_right done (map items_of work) (map items_of (Routed r ∷ others)) (IsPermutation-map items_of work (Routed r ∷ others) moved)) u.covered),
)
