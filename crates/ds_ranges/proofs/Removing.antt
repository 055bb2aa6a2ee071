-- One element taken out of a list, and put back.
use Rattle.std.proofs.Common.{◌≡◌, ℕ, zero, suc, ◌+◌, ◌<◌, List, [], ◌∷◌, Some, refl, sym, ap, ◌∙◌, subst, length, get_or, arith}
use Rattle.std.specs.List.{insert, remove, slice_get}
use Rattle.std.proofs.Math.ListN.{set}
use Rattle.std.proofs.lemmas.List.Edits.{length-remove}
use Rattle.std.proofs.lemmas.Option.{slice_get_read}
use Rattle.ds_base.proofs.SmallFacts.{some_same}

module _ {X : Type 0} where
  left-there : (xs : List X) (i : ℕ) (x : X) → suc i < length xs → slice_get (remove xs (suc i)) i ≡ Some x → slice_get xs i ≡ Some x
  left-there [] i x low at = absurd (omega (arith, low))
  left-there (y ∷ ys) zero x low at = at
  left-there (y ∷ ys) (suc i) x low at = left-there ys i x (omega (arith, low)) at

  -- the one before what was taken out
  pub left-at : (xs removed : List X) (i : ℕ) (x : X) → suc i < length xs → removed ≡ remove xs (i + 1) → x ≡ get_or removed i x → slice_get xs i ≡ Some x
  left-at xs removed i x low out is =
      let next : i + 1 ≡ suc i = omega arith in
      let gone : removed ≡ remove xs (suc i) = out ∙ ap (remove xs) next in
      let long : length removed + 1 ≡ length xs = ap (λ zs. length zs + 1) gone ∙ length-remove xs (suc i) low in
      let within : i < length removed = omega (arith, long, low) in
      left-there xs i x low (subst (λ zs. slice_get zs i ≡ Some x) gone (slice_get_read removed (length removed) i x refl within is))

  -- what was taken out
  pub right-at : (xs : List X) (i : ℕ) (x : X) → suc i < length xs → x ≡ get_or xs (i + 1) x → slice_get xs (suc i) ≡ Some x
  right-at xs i x low is =
      let next : i + 1 ≡ suc i = omega arith in
      slice_get_read xs (length xs) (suc i) x refl low (subst (λ n. x ≡ get_or xs n x) next is)

  back-there : (xs : List X) (i : ℕ) (x y : X) → slice_get xs i ≡ Some x → slice_get xs (suc i) ≡ Some y → insert (set (remove xs (suc i)) i x) (suc i) y ≡ xs
  back-there [] i x y at next = cc
  back-there (z ∷ []) zero x y at next = cc
  back-there (z ∷ w ∷ zs) zero x y at next =
      ap (λ a. a ∷ y ∷ zs) (sym (some_same z x at)) ∙ ap (λ a. z ∷ a ∷ zs) (sym (some_same w y next))
  back-there (z ∷ zs) (suc i) x y at next = ap (λ a. z ∷ a) (back-there zs i x y at next)

  -- both put back as they were
  pub put-back : (xs removed after : List X) (i : ℕ) (x y : X) → removed ≡ remove xs (i + 1) → slice_get xs i ≡ Some x → slice_get xs (suc i) ≡ Some y → after ≡ insert (set removed i x) (i + 1) y → after ≡ xs
  put-back xs removed after i x y out at next is =
      let more : i + 1 ≡ suc i = omega arith in
      is ∙ ap (λ zs. insert (set zs i x) (i + 1) y) (out ∙ ap (remove xs) more) ∙ ap (λ n. insert (set (remove xs (suc i)) i x) n y) more ∙ back-there xs i x y at next
