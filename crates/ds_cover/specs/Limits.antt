-- Items cut each in its own way, and what was taken of each request under a limit.
use Rattle.std.specs.Prelude.{◌≡◌, ℕ, Bool, false, ◌&&◌, List, [], ◌∷◌}
use Rattle.std.specs.List.{flat_map}
use Rattle.ds_base.specs.Order.{Extent, holds}
use Rattle.ds_kind.specs.Request.{span_of}
use Rattle.ds_kind.specs.declared.batch.Item.{Item}
use Rattle.ds_cover.specs.Coverage.{holds_at}
use Rattle.ds_cover.specs.Cuts.{cut_item}

-- each item cut in its own way
abbrev pub cut_each : (Item → Extent → Extent) → List Item → List Item
cut_each g items = flat_map (λ i. cut_item (g i) i) items

-- of each item the keys that were taken at its position are kept
abbrev pub KeepsTaken : (ℕ → List ℕ → Bool) → (Item → Extent → Extent) → List Item → Type 0
KeepsTaken taken g [] = Unit {0}
KeepsTaken taken g (i ∷ is) =
    ((k : List ℕ) → holds (g i (span_of i.request)).start (g i (span_of i.request)).end k ≡ (holds_at k i && taken i.pos k)) × KeepsTaken taken g is

-- nothing of these was taken
abbrev pub NoneTaken : (ℕ → List ℕ → Bool) → List Item → Type 0
NoneTaken taken [] = Unit {0}
NoneTaken taken (i ∷ is) = ((k : List ℕ) → (holds_at k i && taken i.pos k) ≡ false) × NoneTaken taken is
