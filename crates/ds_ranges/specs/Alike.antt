-- Ranges that differ in what stands at their keys alone.
use Rattle.std.specs.Prelude.{◌≡◌, List, [], ◌∷◌, map}
use Rattle.ds_cell.specs.Ask.{key_of}
use Rattle.ds_rule.specs.World.{Range}

-- the same range with contents at the same keys
pub record Alike (r q : Range) : Type 0 where
  pub info : q.info ≡ r.info
  pub keys : map key_of q.cells ≡ map key_of r.cells

-- one by one
abbrev pub AllAlike : List Range → List Range → Type 0
AllAlike [] [] = Unit {0}
AllAlike [] (q ∷ qs) = ⊥
AllAlike (r ∷ rs) [] = ⊥
AllAlike (r ∷ rs) (q ∷ qs) = Alike r q × AllAlike rs qs
