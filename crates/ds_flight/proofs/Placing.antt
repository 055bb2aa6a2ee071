-- A piece and what is left of its rest, put into the work.
use Rattle.std.proofs.Common.{◌≡◌, ℕ, ◌<◌, List, [], ◌∷◌, length, Some, None, refl, sym, subst, arith}
use Rattle.std.proofs.lemmas.List.Sorted.{IsPermutation-insert, IsPermutation-cons, IsPermutation-trans}
use Rattle.std.specs.List.{insert}
use Rattle.ds_base.proofs.SmallFacts.{none_some, some_none}
use Rattle.ds_base.specs.declared.value.Dir.{Dir}
use Rattle.ds_base.specs.declared.value.Dir.TheVariants.{Forward, Reverse}
use Rattle.ds_desc.specs.declared.desc.RangeDesc.{RangeDesc}
use Rattle.ds_desc.specs.declared.desc.Info.{Info}
use Rattle.ds_kind.specs.declared.batch.Head.{Head}
use Rattle.ds_kind.specs.declared.batch.Item.{Item}
use Rattle.ds_kind.specs.declared.batch.Part.{Part}
use Rattle.ds_cover.specs.Cuts.{cut_items, rest_items, seek_key}
use Rattle.ds_cover.specs.Measures.{AllSpans}
use Rattle.ds_cut.specs.Pieces.{rest_part}
use Rattle.ds_flight.specs.Flights.{Flight}
use Rattle.ds_flight.specs.Goes.{WholeHolds}
use Rattle.ds_flight.specs.Places.{CutAt, given_back, placed, rest_if}
use Rattle.ds_flight.specs.Works.{IsFlying, Underway}
use Rattle.ds_flight.specs.declared.work.Flying.{Flying}
use Rattle.ds_flight.specs.declared.work.Task.{Task}
use Rattle.ds_flight.specs.declared.work.Task.TheVariants.{Rest, Routed}
use Rattle.ds_flight.proofs.Cutting.{piece-flies, underway-all, underway-cut, Routes}
use Rattle.ds_flight.proofs.Working.{flying-rest, underway-instead, underway-permuted}

pub sought-none : (d : Dir) (items : List Item) → seek_key d items ≡ None → items ≡ []
sought-none d [] h = refl
sought-none Forward (i ∷ is) h = some_none _ h
sought-none Reverse (i ∷ is) h = some_none _ h

pub sought-some : (d : Dir) (items : List Item) (k : List ℕ) → seek_key d items ≡ Some k → 0 < length items
sought-some Forward [] k h = none_some k h
sought-some Reverse [] k h = none_some k h
sought-some Forward (i ∷ is) k h = omega arith
sought-some Reverse (i ∷ is) k h = omega arith

-- the work goes on with the piece and what is left of its rest in the place of the rest
pub underway-placed :
    (f : Flight) (known : List RangeDesc) (done : List (List Item)) (desc : RangeDesc) (c : Part) (r : Flying) (at : ℕ) (work : List Task)
    → WholeHolds f.whole f.part.items → Routes f known desc c → IsFlying f known r → r.piece.items ≡ cut_items desc.span c.items
    → Underway f known done (Rest c ∷ work) → Underway f known done (placed r (rest_part desc c) at work)
underway-placed f known done desc c r at work held routes flies items u =
    let left = rest_items c.dir desc.span c.items in
    (elim (seek_key c.dir left) as (λ o. seek_key c.dir left ≡ o → Underway f known done (insert (rest_if o (rest_part desc c) at work) at (Routed r))) [
      | None ↦ λ e. underway-permuted f known done (Routed r ∷ work) (insert work at (Routed r)) (IsPermutation-insert work at (Routed r))
          (underway-all f known done desc c r work routes flies items (sought-none c.dir left e) u)
      | Some k ↦ λ e.
          let rest = Rest (rest_part desc c) in
          underway-permuted f known done (Routed r ∷ rest ∷ work) (insert (insert work at rest) at (Routed r))
          (IsPermutation-trans (Routed r ∷ rest ∷ work) (Routed r ∷ insert work at rest) (insert (insert work at rest) at (Routed r))
          (IsPermutation-cons (Routed r) (rest ∷ work) (insert work at rest) (IsPermutation-insert work at rest))
          (IsPermutation-insert (insert work at rest) at (Routed r)))
          (underway-cut f known done desc c r work held routes flies items (sought-some c.dir left k e) u)
    ]) refl

-- a rest whose route is known is cut there
pub underway-cut-at :
    (f : Flight) (known : List RangeDesc) (done : List (List Item)) (head : Head) (i : Info) (c : Part) (token at : ℕ) (old new : List Task)
    → WholeHolds f.whole f.part.items → Routes f known i.desc c → AllSpans c.items → CutAt head i c token at old new
    → Underway f known done (Rest c ∷ old) → Underway f known done new
underway-cut-at f known done head i c token at old new held routes spans cut u =
    let flies = piece-flies f known i.desc c head cut.flying.piece cut.flying held routes u.each.0 spans cut.taken.piece refl cut.taken.by.replicas cut.taken.by.replica in
    subst (Underway f known done) (sym cut.work) (underway-placed f known done i.desc c cut.flying at old held routes flies.0 flies.1 u)

-- a piece that was turned away stands as a rest in its place
pub underway-given-back :
    (f : Flight) (known : List RangeDesc) (done : List (List Item)) (r : Flying) (at : ℕ) (old new : List Task)
    → new ≡ insert old at (given_back r.piece) → Underway f known done (Routed r ∷ old) → Underway f known done new
underway-given-back f known done r at old new same u =
    let rest = given_back r.piece in
    subst (Underway f known done) (sym same)
    (underway-permuted f known done (rest ∷ old) (insert old at rest) (IsPermutation-insert old at rest)
    (underway-instead f known done (Routed r) rest old refl (flying-rest f known r (record { items = r.piece.items; dir = r.piece.dir }) refl u.each.0) u))

-- a piece that is to be sent again stands in its place
pub underway-again :
    (f : Flight) (known : List RangeDesc) (done : List (List Item)) (r n : Flying) (at : ℕ) (old new : List Task)
    → new ≡ insert old at (Routed n) → n.piece.items ≡ r.piece.items → IsFlying f known n → Underway f known done (Routed r ∷ old) → Underway f known done new
underway-again f known done r n at old new same items flies u =
    subst (Underway f known done) (sym same)
    (underway-permuted f known done (Routed n ∷ old) (insert old at (Routed n)) (IsPermutation-insert old at (Routed n))
    (underway-instead f known done (Routed r) (Routed n) old items flies u))
