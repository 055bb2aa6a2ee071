-- Where a cut of a request acts.
use Rattle.std.specs.Prelude.{◌≡◌, ℕ, List, [], ◌∷◌, refl}
use Rattle.ds_kind.specs.Reach.{Reach, At, Over}

-- a point has no other part
abbrev pub cut_reach : List ℕ → List ℕ → Reach → Reach
cut_reach s e (At k) = At k
cut_reach s e (Over f t) = Over s e

a_span_cut : cut_reach (98 ∷ []) (99 ∷ []) (Over (97 ∷ []) (122 ∷ [])) ≡ Over (98 ∷ []) (99 ∷ [])
a_span_cut = refl

a_point_whole : cut_reach (98 ∷ []) (99 ∷ []) (At (97 ∷ [])) ≡ At (97 ∷ [])
a_point_whole = refl
