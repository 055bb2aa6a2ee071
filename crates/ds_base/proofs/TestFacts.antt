-- Further facts of tests: what never comes, and values that a test tells apart.
use Rattle.std.proofs.Common.{◌≡◌, Bool, true, false, not, ◌&&◌, refl, sym, ap, ◌∙◌}

pub never : {G : Type 0} → false ≡ true → G
never h = cc

pub not_both : {G : Type 0} (t : Bool) → t ≡ true → t ≡ false → G
not_both t p q = never (sym q ∙ p)

pub not_false : (t : Bool) → not t ≡ false → t ≡ true
not_false true h = refl
not_false false h = sym h

-- tests that hold together are one test
pub same_test : (a b : Bool) → (a ≡ true → b ≡ true) → (b ≡ true → a ≡ true) → a ≡ b
same_test true true p q = refl
same_test true false p q = sym (p refl)
same_test false true p q = q refl
same_test false false p q = refl

-- two pairs of tests, taken by their first and their second halves
pub and_pairs : (a b c d : Bool) → ((a && b) && (c && d)) ≡ ((a && c) && (b && d))
and_pairs true true c d = refl
and_pairs true false true d = refl
and_pairs true false false d = refl
and_pairs false b c d = refl

-- a test that passes one of two values and not the other tells that they are two
pub differs : {X : Type 0} {x y : X} → x ≡ y → (test : X → Bool) → test x ≡ true → test y ≡ false → ⊥
differs {x = x} same test passes fails = not_both (test x) passes (ap test same ∙ fails)
