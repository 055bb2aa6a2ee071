-- The first pick leaves.
use Rattle.std.proofs.Common.{◌≡◌, ℕ, ◌%◌, List, [], ◌∷◌, refl, sym, ap, ◌∙◌, drop, length, arith}
use Rattle.ds_rule.specs.Clauses.{later_picks, next_pick}

pub first-picked : (old new : List ℕ) (p w : ℕ) → old ≡ p ∷ new → p % w ≡ next_pick old w
first-picked old new p w is = sym (ap (λ ps. next_pick ps w) is)

pub later-picked : (old new : List ℕ) (p : ℕ) → old ≡ p ∷ new → new ≡ later_picks old
later-picked old new p is = sym (ap later_picks is)

none-left : (old : List ℕ) → old ≡ drop 1 old → old ≡ []
none-left [] same = refl
none-left (p ∷ ps) same = let long : length (p ∷ ps) ≡ length ps = ap length same in absurd (omega (arith, long))

-- no pick is left where nothing leaves
pub none-picked : (old new : List ℕ) (w : ℕ) → old ≡ new → new ≡ drop 1 old → 0 ≡ next_pick old w
none-picked old new w same rest = sym (ap (λ ps. next_pick ps w) (none-left old (same ∙ rest)))

pub none-later : (old new : List ℕ) → old ≡ new → new ≡ drop 1 old → new ≡ later_picks old
none-later old new same rest = sym same ∙ none-left old (same ∙ rest) ∙ sym (ap later_picks (none-left old (same ∙ rest)))
