-- How many pieces wait after a rest is routed.
use Rattle.std.proofs.Common.{◌≡◌, ℕ, ◌+◌, ◌≤◌, List, ◌∷◌, Option, Some, None, Result, Ok, Err, OnOk, refl, ap, ◌∙◌, arith}
use Rattle.std.proofs.lemmas.List.Sorted.{sum_by-IsPermutation}
use Rattle.std.proofs.lemmas.List.Sums.{sum_by-insert}
use Rattle.std.specs.List.{insert}
use Rattle.std.specs.List.Sorted.{IsPermutation}
use Rattle.std.specs.declared.alloc.AllocError.{AllocError}
use Rattle.ds_desc.specs.declared.desc.Info.{Info}
use Rattle.ds_kind.specs.declared.batch.Head.{Head}
use Rattle.ds_kind.specs.declared.batch.Part.{Part}
use Rattle.ds_cover.specs.Cuts.{seek_key}
use Rattle.ds_cut.specs.Pieces.{rest_part}
use Rattle.ds_flight.specs.Fills.{AddsOne}
use Rattle.ds_flight.specs.Places.{one_if_routed, placed, rest_if, waiting, CutAt}
use Rattle.ds_flight.specs.declared.fill.Filling.{Filling}
use Rattle.ds_flight.specs.declared.work.Flying.{Flying}
use Rattle.ds_flight.specs.declared.work.Task.{Task}
use Rattle.ds_flight.specs.declared.work.Task.TheVariants.{Rest, Routed}

pub few-same : (c : Part) (work : List Task) → AddsOne (Rest c ∷ work) work
few-same c work = omega arith

waiting-rest : (o : Option (List ℕ)) (c : Part) (at : ℕ) (work : List Task) → waiting (rest_if o c at work) ≡ waiting work
waiting-rest None c at work = refl
waiting-rest (Some k) c at work = let one : waiting (insert work at (Rest c)) ≡ waiting work + 0 = sum_by-insert one_if_routed work at (Rest c) in omega (arith, one)

waiting-placed : (r : Flying) (c : Part) (at : ℕ) (work : List Task) → waiting (placed r c at work) ≡ waiting work + 1
waiting-placed r c at work =
    let old = rest_if (seek_key c.dir c.items) c at work in
    let one : waiting (insert old at (Routed r)) ≡ waiting old + 1 = sum_by-insert one_if_routed old at (Routed r) in
    let two : waiting old ≡ waiting work = waiting-rest (seek_key c.dir c.items) c at work in
    omega (arith, one, two)

pub few-cut : (head : Head) (i : Info) (c : Part) (t at : ℕ) (old new : List Task) → CutAt head i c t at old new → AddsOne (Rest c ∷ old) new
few-cut head i c t at old new cut =
    let all : waiting new ≡ waiting old + 1 = ap waiting cut.work ∙ waiting-placed cut.flying (rest_part i.desc c) at old in
    let first : waiting (Rest c ∷ old) ≡ waiting old = refl in
    omega (arith, all, first)

pub few-again : (c : Part) (at : ℕ) (old new : List Task) → new ≡ insert old at (Rest c) → AddsOne (Rest c ∷ old) new
few-again c at old new same =
    let all : waiting new ≡ waiting old + 0 = ap waiting same ∙ sum_by-insert one_if_routed old at (Rest c) in
    let first : waiting (Rest c ∷ old) ≡ waiting old = refl in
    omega (arith, all, first)

-- the same work in another order
few-moved : (old mid new : List Task) → IsPermutation old mid → AddsOne mid new → AddsOne old new
few-moved old mid new p h =
    let same : waiting mid ≡ waiting old = sum_by-IsPermutation one_if_routed old mid p in
    let more : waiting new ≤ waiting mid + 1 = h in
    omega (arith, same, more)

pub few-out : (old mid new : List Task) (r : Result Filling AllocError) → IsPermutation old mid → OnOk r (AddsOne mid new) → OnOk r (AddsOne old new)
few-out old mid new (Ok x) p h = few-moved old mid new p h
few-out old mid new (Err e) p h = tt
