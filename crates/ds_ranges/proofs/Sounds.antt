-- What the ranges keep, after each change.
use Rattle.std.proofs.Common.{◌≡◌, ℕ, zero, suc, ◌+◌, ◌<◌, max, true, false, not, ◌==◌, List, [], ◌∷◌, ◌++◌, Some, None, refl, sym, ap, ◌∙◌, subst, length, append_assoc, arith}
use Rattle.std.specs.List.{list_any, slice_get}
use Rattle.std.proofs.Math.ListN.{set}
use Rattle.std.proofs.lemmas.Bool.{eqb-false}
use Rattle.std.proofs.lemmas.List.{length-set, length_push, map-append}
use Rattle.std.proofs.lemmas.Option.{slice_get_within}
use Rattle.ds_base.specs.Order.{bound, key_lt}
use Rattle.ds_base.proofs.OrderedFacts.{le_of_not_lt, le_trans}
use Rattle.ds_base.proofs.SmallFacts.{and_first, and_second, none_some, not_true, or_first, or_second, some_same}
use Rattle.ds_desc.specs.Descs.{containing, greatest_id}
use Rattle.ds_desc.specs.declared.desc.RangeDesc.{RangeDesc}
use Rattle.ds_lineage.proofs.Lasts.{none-kept}
use Rattle.ds_lineage.proofs.Walks.{greatest-more}
use Rattle.ds_rule.specs.Keeping.{Keeps}
use Rattle.ds_rule.specs.Pieces.{Each}
use Rattle.ds_rule.specs.Steady.{ids_differ}
use Rattle.ds_rule.specs.World.{Range, Tiles, end_of}
use Rattle.ds_rule.proofs.Eachs.{each-append, each-left, each-right}
use Rattle.ds_world.proofs.Foreign.{ends-low}
use Rattle.ds_world.proofs.Stretches.{infos}
use Rattle.ds_ranges.specs.Layout.{laid, layout, own_descs}
use Rattle.ds_ranges.specs.Sound.{PlaceIsNoted, IsSound, bare, desc_at}
use Rattle.ds_ranges.proofs.Finding.{out-low}

-- ---- the list about a place

-- what stands before the place, and after it
pub record Parts (rs : List Range) (i : ℕ) (r : Range) : Type 0 where
  pub before : List Range
  pub after : List Range
  pub is : rs ≡ before ++ r ∷ after
  pub place : length before ≡ i

pub parts-at : (rs : List Range) (i : ℕ) (r : Range) → slice_get rs i ≡ Some r → Parts rs i r
parts-at [] i r at = cc
parts-at (q ∷ rs) zero r at = record { before = []; after = rs; is = ap (λ z. z ∷ rs) (some_same q r at); place = refl }
parts-at (q ∷ rs) (suc i) r at =
    let rest : Parts rs i r = parts-at rs i r at in
    record { before = q ∷ rest.before; after = rest.after; is = ap (λ zs. q ∷ zs) rest.is; place = ap suc rest.place }

pub each-at : {X : Type 0} (P : X → Type 0) (xs : List X) (i : ℕ) (x : X) → Each P xs → slice_get xs i ≡ Some x → P x
each-at P [] i x all at = cc
each-at P (y ∷ ys) zero x all at = subst P (some_same y x at) all.0
each-at P (y ∷ ys) (suc i) x all at = each-at P ys i x all.1 at

-- ---- elements at places

pub at-end : {X : Type 0} (xs : List X) (y : X) (ys : List X) → slice_get (xs ++ y ∷ ys) (length xs) ≡ Some y
at-end [] y ys = refl
at-end (x ∷ xs) y ys = at-end xs y ys

append-kept : {X : Type 0} (xs ys : List X) (i : ℕ) (x : X) → slice_get xs i ≡ Some x → slice_get (xs ++ ys) i ≡ Some x
append-kept [] ys i x at = cc
append-kept (y ∷ xs) ys zero x at = at
append-kept (y ∷ xs) ys (suc i) x at = append-kept xs ys i x at

set-here : {X : Type 0} (xs : List X) (i : ℕ) (y : X) → i < length xs → slice_get (set xs i y) i ≡ Some y
set-here [] i y low = absurd (omega (arith, low))
set-here (x ∷ xs) zero y low = refl
set-here (x ∷ xs) (suc i) y low = set-here xs i y (omega (arith, low))

set-other : {X : Type 0} (xs : List X) (i j : ℕ) (y x : X) → (j ≡ i → ⊥) → slice_get xs j ≡ Some x → slice_get (set xs i y) j ≡ Some x
set-other [] i j y x other at = cc
set-other (z ∷ xs) zero zero y x other at = absurd (other refl)
set-other (z ∷ xs) zero (suc j) y x other at = at
set-other (z ∷ xs) (suc i) zero y x other at = at
set-other (z ∷ xs) (suc i) (suc j) y x other at = set-other xs i j y x (λ e. other (ap suc e)) at

-- ---- what is noted

-- the places of all other ids stay
abbrev StaysBeside : ℕ → List ℕ → List ℕ → Type 0
StaysBeside id old new = (j v : ℕ) → (j ≡ id → ⊥) → slice_get old j ≡ Some v → slice_get new j ≡ Some v

kept-noted : (id : ℕ) (places new : List ℕ) (ds made : List RangeDesc) (d : RangeDesc) → StaysBeside id places new → (d.id ≡ id → ⊥) → PlaceIsNoted places ds d → PlaceIsNoted new (ds ++ made) d
kept-noted id places new ds made d stays other own =
    elim (slice_get places d.id) as (λ o. slice_get places d.id ≡ o → desc_at o ds ≡ Some d → PlaceIsNoted new (ds ++ made) d) [
      | None ↦ λ e h. none_some d h
      | Some v ↦ λ e h. ap (λ o. desc_at o (ds ++ made)) (stays d.id v other e) ∙ append-kept ds made v d h
    ] refl own

kept-each : (id : ℕ) (places new : List ℕ) (ds made : List RangeDesc) (rs : List Range) → StaysBeside id places new → Each (λ r. r.info.desc.id ≡ id → ⊥) rs → Each (PlaceIsNoted places ds) (own_descs rs) → Each (PlaceIsNoted new (ds ++ made)) (own_descs rs)
kept-each id places new ds made [] stays others own = tt
kept-each id places new ds made (r ∷ rs) stays others own =
    (kept-noted id places new ds made r.info.desc stays others.0 own.0, kept-each id places new ds made rs stays others.1 own.1)

other-ids : (id : ℕ) (rs : List Range) → list_any (λ j. j.desc.id == id) (infos rs) ≡ false → Each (λ r. r.info.desc.id ≡ id → ⊥) rs
other-ids id [] h = tt
other-ids id (r ∷ rs) h = (eqb-false _ _ (or_first (r.info.desc.id == id) _ h), other-ids id rs (or_second (r.info.desc.id == id) _ h))

record Others (id : ℕ) (before after : List Range) : Type 0 where
  ahead : Each (λ r. r.info.desc.id ≡ id → ⊥) before
  behind : Each (λ r. r.info.desc.id ≡ id → ⊥) after

others : (before after : List Range) (r : Range) → ids_differ (infos (before ++ r ∷ after)) ≡ true → Others r.info.desc.id before after
others [] after r h = record { ahead = tt; behind = other-ids r.info.desc.id after (not_true _ (and_first _ _ h)) }
others (q ∷ before) after r h =
    let rest : Others r.info.desc.id before after = others before after r (and_second (not (list_any (λ j. j.desc.id == q.info.desc.id) (infos (before ++ r ∷ after)))) _ h) in
    let all = other-ids q.info.desc.id (before ++ r ∷ after) (not_true _ (and_first _ _ h)) in
    let one : r.info.desc.id ≡ q.info.desc.id → ⊥ = (each-right (λ z. z.info.desc.id ≡ q.info.desc.id → ⊥) before (r ∷ after) all).0 in
    record { ahead = (λ e. one (sym e), rest.ahead); behind = rest.behind }

-- the range's id has a place, and there its descriptor stands
pub record Stands (places : List ℕ) (ds : List RangeDesc) (d : RangeDesc) : Type 0 where
  pub place : ℕ
  pub noted : slice_get places d.id ≡ Some place
  pub there : slice_get ds place ≡ Some d

pub stands-noted : (places : List ℕ) (ds : List RangeDesc) (d : RangeDesc) → PlaceIsNoted places ds d → Stands places ds d
stands-noted places ds d own =
    elim (slice_get places d.id) as (λ o. slice_get places d.id ≡ o → desc_at o ds ≡ Some d → Stands places ds d) [
      | None ↦ λ e h. none_some d h
      | Some v ↦ λ e h. record { place = v; noted = e; there = h }
    ] refl own

own-append : (before : List Range) (r : Range) (after : List Range) → own_descs (before ++ r ∷ after) ≡ own_descs before ++ r.info.desc ∷ own_descs after
own-append before r after = map-append (λ (z : Range). z.info.desc) before (r ∷ after)

-- the range at a place is noted
pub noted-at : (rs : List Range) (ds : List RangeDesc) (places : List ℕ) (i : ℕ) (r : Range) → Each (PlaceIsNoted places ds) (own_descs rs) → slice_get rs i ≡ Some r → PlaceIsNoted places ds r.info.desc
noted-at [] ds places i r own at = cc
noted-at (q ∷ rs) ds places zero r own at = subst (λ z. PlaceIsNoted places ds z.info.desc) (some_same q r at) own.0
noted-at (q ∷ rs) ds places (suc i) r own at = noted-at rs ds places i r own.1 at

-- ---- no descriptor reaches past the bound

tiles-tail : (s : List ℕ) (before : List Range) (r : Range) (after : List Range) → Tiles s (before ++ r ∷ after) → Tiles (end_of r) after
tiles-tail s [] r after t = t.1
tiles-tail s (q ∷ before) r after t = tiles-tail (end_of q) before r after t.1

low-more : (ds : List RangeDesc) (r : Range) (after : List Range) → Tiles (end_of r) after → ((k : List ℕ) → key_lt k bound ≡ false → containing k ds ≡ []) → (k : List ℕ) → key_lt k bound ≡ false → containing k (ds ++ r.info.desc ∷ []) ≡ []
low-more ds r after t low k high =
    none-kept ds k r.info.desc (out-low k r (le_trans (end_of r) bound k (ends-low (end_of r) after t) (le_of_not_lt k bound high))) ∙ low k high

-- ---- after a change

-- the same descriptors in the same order
pub sound-same : (rs items : List Range) (ds : List RangeDesc) (places : List ℕ) → IsSound rs ds places → Keeps (laid (layout items ds) bare) → own_descs items ≡ own_descs rs → IsSound items ds places
sound-same rs items ds places sound keeps same = record {
  keeps = keeps;
  own = subst (Each (PlaceIsNoted places ds)) (sym same) sound.own;
  count = sound.count;
  low = sound.low;
}

-- one range in the place of one or more, under its id, with a descriptor more
pub sound-one : (before gone rest : List Range) (r y : Range) (ds : List RangeDesc) (places : List ℕ) → IsSound (before ++ r ∷ (gone ++ rest)) ds places → y.info.desc.id ≡ r.info.desc.id → Keeps (laid (layout (before ++ y ∷ rest) (ds ++ y.info.desc ∷ [])) bare) → IsSound (before ++ y ∷ rest) (ds ++ y.info.desc ∷ []) (set places r.info.desc.id (length ds))
sound-one before gone rest r y ds places sound same keeps =
    let id = r.info.desc.id in
    let new = set places id (length ds) in
    let apart : Others id before (gone ++ rest) = others before (gone ++ rest) r sound.keeps.ids in
    let own = subst (Each (PlaceIsNoted places ds)) (own-append before r (gone ++ rest)) sound.own in
    let stays : StaysBeside id places new = λ j v other at. set-other places id j (length ds) v other at in
    let mine = each-right (PlaceIsNoted places ds) (own_descs before) (r.info.desc ∷ own_descs (gone ++ rest)) own in
    let place : Stands places ds r.info.desc = stands-noted places ds r.info.desc mine.0 in
    let within : id < length places = slice_get_within places id place.place place.noted in
    let later = each-right (PlaceIsNoted places ds) (own_descs gone) (own_descs rest) (subst (Each (PlaceIsNoted places ds)) (map-append (λ (z : Range). z.info.desc) gone rest) mine.1) in
    let here : PlaceIsNoted new (ds ++ y.info.desc ∷ []) y.info.desc =
    ap (λ n. desc_at (slice_get new n) (ds ++ y.info.desc ∷ [])) same ∙ ap (λ o. desc_at o (ds ++ y.info.desc ∷ [])) (set-here places id (length ds) within) ∙ at-end ds y.info.desc [] in
    record {
      keeps = keeps;
      own = subst (Each (PlaceIsNoted new (ds ++ y.info.desc ∷ []))) (sym (own-append before y rest)) (
          each-append (PlaceIsNoted new (ds ++ y.info.desc ∷ [])) (own_descs before) (y.info.desc ∷ own_descs rest)
          (kept-each id places new ds (y.info.desc ∷ []) before stays apart.ahead (each-left (PlaceIsNoted places ds) (own_descs before) (r.info.desc ∷ own_descs (gone ++ rest)) own))
          (here, kept-each id places new ds (y.info.desc ∷ []) rest stays (each-right (λ z. z.info.desc.id ≡ id → ⊥) gone rest apart.behind) later)
          );
      count = omega (arith, length-set places id (length ds), sound.count, greatest-more ds y.info.desc, within, same);
      low = low-more ds y rest (tiles-tail [] before y rest keeps.tiled) sound.low;
    }

-- two ranges in the place of one, the second under a new id, with two descriptors more
pub sound-two : (before after : List Range) (r y z : Range) (ds : List RangeDesc) (places : List ℕ) → IsSound (before ++ r ∷ after) ds places → y.info.desc.id ≡ r.info.desc.id → z.info.desc.id ≡ greatest_id ds + 1 → Keeps (laid (layout (before ++ y ∷ z ∷ after) (ds ++ y.info.desc ∷ z.info.desc ∷ [])) bare) → IsSound (before ++ y ∷ z ∷ after) (ds ++ y.info.desc ∷ z.info.desc ∷ []) (set places r.info.desc.id (length ds) ++ (length ds + 1) ∷ [])
sound-two before after r y z ds places sound same next keeps =
    let id = r.info.desc.id in
    let moved = set places id (length ds) in
    let new = moved ++ (length ds + 1) ∷ [] in
    let made = y.info.desc ∷ z.info.desc ∷ [] in
    let apart : Others id before after = others before after r sound.keeps.ids in
    let own = subst (Each (PlaceIsNoted places ds)) (own-append before r after) sound.own in
    let stays : StaysBeside id places new = λ j v other at. append-kept moved ((length ds + 1) ∷ []) j v (set-other places id j (length ds) v other at) in
    let mine = each-right (PlaceIsNoted places ds) (own_descs before) (r.info.desc ∷ own_descs after) own in
    let place : Stands places ds r.info.desc = stands-noted places ds r.info.desc mine.0 in
    let within : id < length places = slice_get_within places id place.place place.noted in
    let long : length moved ≡ length places = length-set places id (length ds) in
    let left : PlaceIsNoted new (ds ++ made) y.info.desc =
    ap (λ n. desc_at (slice_get new n) (ds ++ made)) same
    ∙ ap (λ o. desc_at o (ds ++ made)) (append-kept moved ((length ds + 1) ∷ []) id (length ds) (set-here places id (length ds) within))
    ∙ at-end ds y.info.desc (z.info.desc ∷ []) in
    let last : z.info.desc.id ≡ length moved = omega (arith, next, long, sound.count) in
    let grown : (ds ++ y.info.desc ∷ []) ++ z.info.desc ∷ [] ≡ ds ++ made = append_assoc ds (y.info.desc ∷ []) (z.info.desc ∷ []) in
    let more : length (ds ++ y.info.desc ∷ []) ≡ length ds + 1 = length_push ds y.info.desc in
    let right : PlaceIsNoted new (ds ++ made) z.info.desc =
    ap (λ n. desc_at (slice_get new n) (ds ++ made)) last
    ∙ ap (λ o. desc_at o (ds ++ made)) (at-end moved (length ds + 1) [])
    ∙ subst (λ n. slice_get (ds ++ made) n ≡ Some z.info.desc) more (subst (λ zs. slice_get zs (length (ds ++ y.info.desc ∷ [])) ≡ Some z.info.desc) grown (at-end (ds ++ y.info.desc ∷ []) z.info.desc [])) in
    let top : greatest_id (ds ++ made) ≡ max (max (greatest_id ds) y.info.desc.id) z.info.desc.id =
    ap greatest_id (sym grown) ∙ greatest-more (ds ++ y.info.desc ∷ []) z.info.desc ∙ ap (λ n. max n z.info.desc.id) (greatest-more ds y.info.desc) in
    let tail : Tiles (end_of y) (z ∷ after) = tiles-tail [] before y (z ∷ after) keeps.tiled in
    record {
      keeps = keeps;
      own = subst (Each (PlaceIsNoted new (ds ++ made))) (sym (own-append before y (z ∷ after))) (
          each-append (PlaceIsNoted new (ds ++ made)) (own_descs before) (y.info.desc ∷ z.info.desc ∷ own_descs after)
          (kept-each id places new ds made before stays apart.ahead (each-left (PlaceIsNoted places ds) (own_descs before) (r.info.desc ∷ own_descs after) own))
          (left, (right, kept-each id places new ds made after stays apart.behind mine.1))
          );
      count = omega (arith, length_push moved (length ds + 1), long, sound.count, top, within, same, next);
      low = λ k high. ap (containing k) (sym grown) ∙ low-more (ds ++ y.info.desc ∷ []) z after tail.1 (low-more ds y (z ∷ after) tail sound.low) k high;
    }
