-- The ranges tile the keys, at first and after each write.
use Rattle.std.proofs.Common.{◌≡◌, ℕ, ◌+◌, true, false, cond, List, [], ◌∷◌, refl, subst}
use Rattle.std.specs.declared.cmp.Ordering.TheVariants.{Less, Equal, Greater}
use Rattle.std.specs.Ordering.{match_ordering}
use Rattle.std.specs.BTreeMap.{insert_entry}
use Rattle.ds_base.specs.Order.{key_cmp, key_lt, holds}
use Rattle.ds_base.proofs.SmallFacts.{and_first, and_second}
use Rattle.ds_rule.specs.declared.cluster.ClusterRange.{ClusterRange}
use Rattle.ds_cell.specs.Content.{Content}
use Rattle.ds_cell.specs.Ask.{Cell}
use Rattle.ds_rule.specs.World.{Range, end_of, Inside, Fits, Tiles, holds_key, replaced}
use Rattle.ds_rule.specs.Begin.{next_start, ranges_of, rises}
use Rattle.ds_cell.specs.Store.{put_cell}
use Rattle.ds_cell.specs.StoreProofs.{ascends-insert}

-- a cluster's ranges tile from their first start on
pub rises-tiles : (id : ℕ) (rs : List ClusterRange) → rises rs ≡ true → Tiles (next_start rs) (ranges_of id rs)
rises-tiles id [] h = refl
rises-tiles id (r ∷ rs) h = (
  record { begins = refl; some = and_first (key_lt r.start (next_start rs)) _ h; rising = tt; inside = tt },
  rises-tiles (id + 1) rs (and_second (key_lt r.start (next_start rs)) _ h),
)

pub inside-insert : (s e k : List ℕ) (c : Content) (cells : List Cell) → holds s e k ≡ true → Inside s e cells → Inside s e (insert_entry key_cmp cells k c)
inside-insert s e k c [] h all = (h, tt)
inside-insert s e k c (p ∷ ps) h all =
    elim (key_cmp k p.0) as (λ o. Inside s e (match_ordering o ((k, c) ∷ p ∷ ps) ((p.0, c) ∷ ps) (p ∷ insert_entry key_cmp ps k c))) [
      | Less ↦ (h, all)
      | Equal ↦ all
      | Greater ↦ (all.0, inside-insert s e k c ps h all.1)
    ]

-- a range stays in its place when one of its keys is written
pub fits-put : (s : List ℕ) (r : Range) (k : List ℕ) (f : Content → Content) → holds_key k r ≡ true → Fits s r → Fits s (record r { cells = put_cell k f r.cells })
fits-put s r k f h t = record {
  begins = t.begins;
  some = t.some;
  rising = ascends-insert k _ r.cells t.rising;
  inside = inside-insert s (end_of r) k _ r.cells (subst (λ z. holds z (end_of r) k ≡ true) t.begins h) t.inside;
}

pub tiles-put : (k : List ℕ) (f : Content → Content) (s : List ℕ) (rs : List Range) → Tiles s rs → Tiles s (replaced (holds_key k) (λ r. record r { cells = put_cell k f r.cells }) rs)
tiles-put k f s [] t = t
tiles-put k f s (r ∷ rs) t =
    elim (holds_key k r) as (λ b. holds_key k r ≡ b → Tiles s (cond b (record r { cells = put_cell k f r.cells } ∷ rs) (r ∷ replaced (holds_key k) (λ r. record r { cells = put_cell k f r.cells }) rs))) [
      | true ↦ λ h. (fits-put s r k f h t.0, t.1)
      | false ↦ λ h. (t.0, tiles-put k f (end_of r) rs t.1)
    ] refl
