-- What each event makes of the ranges, and that they keep what they keep.
use Rattle.std.proofs.Common.{◌≡◌, ℕ, zero, suc, ◌+◌, ◌<◌, max, true, false, cond, ◌&&◌, List, [], ◌∷◌, ◌++◌, Some, None, refl, sym, ap, ◌∙◌, subst, length, drop, not, nat_eq, arith}
use Rattle.std.specs.List.{insert, remove, slice_get}
use Rattle.std.specs.Cmp.Lexicographic.{pointwise}
use Rattle.std.proofs.Math.ListN.{set}
use Rattle.std.proofs.lemmas.List.{drop_all, set_at}
use Rattle.std.proofs.lemmas.Option.{slice_get_within}
use Rattle.ds_base.specs.Order.{bound, key_le, key_lt}
use Rattle.ds_base.proofs.OrderedFacts.{le_of_not_lt, not_lt_of_le}
use Rattle.ds_base.proofs.SmallFacts.{and_first, and_second, append_nil, lt_of, some_same}
use Rattle.ds_desc.specs.Descs.{back_from, containing, greatest_id}
use Rattle.ds_desc.specs.Replicas.{AreReplicas}
use Rattle.ds_desc.specs.declared.desc.RangeDesc.{RangeDesc}
use Rattle.ds_cell.specs.Change.{after_foreign}
use Rattle.ds_cell.specs.Store.{put_cell}
use Rattle.ds_cell.specs.declared.entry.Version.{Version}
use Rattle.ds_lineage.specs.Last.{IsLastAt, IsNewestAt}
use Rattle.ds_rule.specs.Keeping.{IsNewest, Keeps}
use Rattle.ds_rule.specs.Pieces.{Each}
use Rattle.ds_rule.specs.Shifts.{Change, behind, can_join, can_lease, can_move, can_split, change_at, foreign_at, joined, lease_in, lease_to, left_part, merge_at, merge_in, move_in, move_to, right_part, shifted, split_at, split_in, unchanged, with_lease, with_nodes}
use Rattle.ds_rule.specs.World.{World, Range, Tiles, start_of, end_of, holds_key, replaced}
use Rattle.ds_rule.proofs.Delivered.{same_descs}
use Rattle.ds_rule.proofs.Routes.{least}
use Rattle.ds_world.proofs.Foreign.{foreign-keeps}
use Rattle.ds_world.proofs.Shifted.{lease_descs, lease_keeps, merge_keeps, move_keeps, split_keeps}
use Rattle.ds_ranges.specs.Layout.{Became, laid, layout, own_descs}
use Rattle.ds_ranges.specs.Places.{IsFirst}
use Rattle.ds_ranges.specs.Sound.{IsSound, bare}
use Rattle.ds_ranges.proofs.Changing.{insert-changed, kept-changed, made-at, merge-changed, none-changed, none-replaced, set-changed, set-replaced}
use Rattle.ds_ranges.proofs.Finding.{first-low}
use Rattle.ds_ranges.proofs.Newests.{newest-stands}
use Rattle.ds_ranges.proofs.Sounds.{Parts, Stands, each-at, noted-at, parts-at, sound-one, sound-same, sound-two, stands-noted}

-- ---- in general

became-changed : (f : Range → List Range → Change) (k : List ℕ) (rs items : List Range) (ds lineage : List RangeDesc) → items ≡ (change_at f k rs).ranges → lineage ≡ ds ++ (change_at f k rs).made → Became (shifted f k) (layout rs ds) (layout items lineage)
became-changed f k rs items ds lineage ranges descs w =
    ap (λ zs. record w { ranges = zs; descs = lineage }) ranges ∙ ap (λ zs. record w { ranges = (change_at f k rs).ranges; descs = zs }) descs

became-unchanged : (f : Range → List Range → Change) (k : List ℕ) (rs : List Range) (ds : List RangeDesc) → change_at f k rs ≡ unchanged rs → Became (shifted f k) (layout rs ds) (layout rs ds)
became-unchanged f k rs ds same =
    became-changed f k rs rs ds ds (ap (λ c. c.ranges) (sym same)) (sym (append_nil ds) ∙ ap (λ c. ds ++ c.made) (sym same))

-- where no range holds the key, no event changes any
pub became-none : (f : Range → List Range → Change) (k : List ℕ) (rs : List Range) (ds : List RangeDesc) → Each (λ r. holds_key k r ≡ false) rs → Became (shifted f k) (layout rs ds) (layout rs ds)
became-none f k rs ds none = became-unchanged f k rs ds (none-changed f k rs none)

-- what the world with nothing else keeps
became-keeps : (event : World → World) (rs items : List Range) (ds lineage : List RangeDesc) → Became event (layout rs ds) (layout items lineage) → Keeps (event (laid (layout rs ds) bare)) → Keeps (laid (layout items lineage) bare)
became-keeps event rs items ds lineage became keeps = subst Keeps (sym (became bare)) keeps

-- ---- a foreign write

abbrev written : List ℕ → Version → List Range → List Range
written k v rs = replaced (holds_key k) (λ r. record r { cells = put_cell k (after_foreign v) r.cells }) rs

pub write-became : (k : List ℕ) (v : Version) (rs items : List Range) (ds : List RangeDesc) → items ≡ written k v rs → Became (foreign_at k v) (layout rs ds) (layout items ds)
write-became k v rs items ds is w = ap (λ zs. record w { ranges = zs; descs = ds }) is

pub write-none : (k : List ℕ) (v : Version) (rs : List Range) (ds : List RangeDesc) → Each (λ r. holds_key k r ≡ false) rs → Became (foreign_at k v) (layout rs ds) (layout rs ds)
write-none k v rs ds none = write-became k v rs rs ds (sym (none-replaced k _ rs none))

pub write-sound : (k : List ℕ) (v : Version) (rs items : List Range) (ds : List RangeDesc) (places : List ℕ) → IsSound rs ds places → items ≡ written k v rs → IsSound items ds places
write-sound k v rs items ds places sound is =
    sound-same rs items ds places sound
    (became-keeps (foreign_at k v) rs items ds ds (write-became k v rs items ds is) (foreign-keeps k v (laid (layout rs ds) bare) sound.keeps))
    (ap own_descs is ∙ same_descs (holds_key k) (λ r. put_cell k (after_foreign v) r.cells) rs)

-- ---- a lease

pub lease-became : (k : List ℕ) (n : ℕ) (rs items : List Range) (ds : List RangeDesc) → items ≡ (change_at (lease_in n) k rs).ranges → Became (lease_to k n) (layout rs ds) (layout items ds)
lease-became k n rs items ds is = became-changed (lease_in n) k rs items ds ds is (sym (lease_descs k n (laid (layout rs ds) bare)))

leased-descs : (k : List ℕ) (n : ℕ) (rs : List Range) → own_descs (change_at (lease_in n) k rs).ranges ≡ own_descs rs
leased-descs k n [] = refl
leased-descs k n (r ∷ rs) =
    elim (holds_key k r) as (λ b. own_descs (cond b (lease_in n r rs) (behind r (change_at (lease_in n) k rs))).ranges ≡ own_descs (r ∷ rs)) [
      | true ↦ elim (can_lease n r) as (λ b. own_descs (cond b (with_lease n r) r ∷ rs) ≡ own_descs (r ∷ rs)) [
        | true ↦ refl
        | false ↦ refl
      ]
      | false ↦ ap (λ ds. r.info.desc ∷ ds) (leased-descs k n rs)
    ]

pub lease-sound : (k : List ℕ) (n : ℕ) (rs items : List Range) (ds : List RangeDesc) (places : List ℕ) → IsSound rs ds places → items ≡ (change_at (lease_in n) k rs).ranges → IsSound items ds places
lease-sound k n rs items ds places sound is =
    sound-same rs items ds places sound
    (became-keeps (lease_to k n) rs items ds ds (lease-became k n rs items ds is) (lease_keeps k n (laid (layout rs ds) bare) sound.keeps))
    (ap own_descs is ∙ leased-descs k n rs)

-- the range at the place with its lease given
pub lease-set : (k : List ℕ) (n : ℕ) (rs : List Range) (i : ℕ) (r y : Range) → IsFirst (holds_key k) rs i → slice_get rs i ≡ Some r → y ≡ cond (can_lease n r) (with_lease n r) r → set rs i y ≡ (change_at (lease_in n) k rs).ranges
lease-set k n rs i r y first at is = set-changed (lease_in n) k rs i r y first at (λ after. ap (λ z. z ∷ after) (sym is))

-- ---- a move

move-is : (ns : List ℕ) (r : Range) (after : List Range) → can_move ns r ≡ true → move_in ns r after ≡ record { ranges = with_nodes ns r ∷ after; made = (with_nodes ns r).info.desc ∷ [] }
move-is ns r after can = ap (λ b. cond b (record { ranges = with_nodes ns r ∷ after; made = (with_nodes ns r).info.desc ∷ [] }) (unchanged (r ∷ after))) can

pub move-became : (k ns : List ℕ) (rs items : List Range) (ds lineage : List RangeDesc) (i : ℕ) (r : Range) → IsFirst (holds_key k) rs i → slice_get rs i ≡ Some r → can_move ns r ≡ true → items ≡ set rs i (with_nodes ns r) → lineage ≡ ds ++ (with_nodes ns r).info.desc ∷ [] → Became (move_to k ns) (layout rs ds) (layout items lineage)
move-became k ns rs items ds lineage i r first at can is grown =
    became-changed (move_in ns) k rs items ds lineage
    (is ∙ set-changed (move_in ns) k rs i r (with_nodes ns r) first at (λ after. ap (λ c. c.ranges) (move-is ns r after can)))
    (grown ∙ ap (λ ms. ds ++ ms) (sym (made-at (move_in ns) k rs i r ((with_nodes ns r).info.desc ∷ []) first at (λ after _. ap (λ c. c.made) (move-is ns r after can)))))

pub move-kept : (k ns : List ℕ) (rs : List Range) (ds : List RangeDesc) (i : ℕ) (r : Range) → IsFirst (holds_key k) rs i → slice_get rs i ≡ Some r → can_move ns r ≡ false → Became (move_to k ns) (layout rs ds) (layout rs ds)
move-kept k ns rs ds i r first at can =
    became-unchanged (move_in ns) k rs ds (kept-changed (move_in ns) k rs i r first at (ap (λ b. cond b (record { ranges = with_nodes ns r ∷ drop (suc i) rs; made = (with_nodes ns r).info.desc ∷ [] }) (unchanged (r ∷ drop (suc i) rs))) can))

pub move-sound : (k ns : List ℕ) (rs items : List Range) (ds lineage : List RangeDesc) (places noted : List ℕ) (i : ℕ) (r : Range) → AreReplicas ns → IsSound rs ds places → IsFirst (holds_key k) rs i → slice_get rs i ≡ Some r → can_move ns r ≡ true → items ≡ set rs i (with_nodes ns r) → lineage ≡ ds ++ (with_nodes ns r).info.desc ∷ [] → noted ≡ set places r.info.desc.id (length ds) → IsSound items lineage noted
move-sound k ns rs items ds lineage places noted i r some sound first at can is grown notes =
    let p : Parts rs i r = parts-at rs i r at in
    let whole : items ≡ p.before ++ with_nodes ns r ∷ p.after = is ∙ ap (λ zs. set zs i (with_nodes ns r)) p.is ∙ set_at p.before r p.after (with_nodes ns r) i p.place in
    let keeps : Keeps (laid (layout items lineage) bare) =
    became-keeps (move_to k ns) rs items ds lineage (move-became k ns rs items ds lineage i r first at can is grown) (move_keeps k ns (laid (layout rs ds) bare) some sound.keeps) in
    let after : IsSound (p.before ++ with_nodes ns r ∷ p.after) (ds ++ (with_nodes ns r).info.desc ∷ []) (set places r.info.desc.id (length ds)) =
    sound-one p.before [] p.after r (with_nodes ns r) ds places (subst (λ zs. IsSound zs ds places) p.is sound) refl
    (subst (λ zs. Keeps (laid (layout zs (ds ++ (with_nodes ns r).info.desc ∷ [])) bare)) whole (subst (λ zs. Keeps (laid (layout items zs) bare)) grown keeps)) in
    subst (λ zs. IsSound zs lineage noted) (sym whole) (subst (λ zs. IsSound (p.before ++ with_nodes ns r ∷ p.after) zs noted) (sym grown) (subst (λ zs. IsSound (p.before ++ with_nodes ns r ∷ p.after) (ds ++ (with_nodes ns r).info.desc ∷ []) zs) (sym notes) after))

-- ---- a split

split-is : (top : ℕ) (k : List ℕ) (r : Range) (after : List Range) → can_split top k r ≡ true → split_in top k r after ≡ record { ranges = left_part k r ∷ right_part (top + 1) k r ∷ after; made = (left_part k r).info.desc ∷ (right_part (top + 1) k r).info.desc ∷ [] }
split-is top k r after can =
    ap (λ b. cond b (record { ranges = left_part k r ∷ right_part (top + 1) k r ∷ after; made = (left_part k r).info.desc ∷ (right_part (top + 1) k r).info.desc ∷ [] }) (unchanged (r ∷ after))) can

pub split-became : (k : List ℕ) (rs items : List Range) (ds lineage : List RangeDesc) (i : ℕ) (r : Range) → IsFirst (holds_key k) rs i → slice_get rs i ≡ Some r → can_split (greatest_id ds) k r ≡ true → items ≡ insert (set rs i (left_part k r)) (suc i) (right_part (greatest_id ds + 1) k r) → lineage ≡ ds ++ (left_part k r).info.desc ∷ (right_part (greatest_id ds + 1) k r).info.desc ∷ [] → Became (split_at k) (layout rs ds) (layout items lineage)
split-became k rs items ds lineage i r first at can is grown =
    let top = greatest_id ds in
    became-changed (split_in top k) k rs items ds lineage
    (is ∙ insert-changed (split_in top k) k rs i r (left_part k r) (right_part (top + 1) k r) first at (λ after. ap (λ c. c.ranges) (split-is top k r after can)))
    (grown ∙ ap (λ ms. ds ++ ms) (sym (made-at (split_in top k) k rs i r ((left_part k r).info.desc ∷ (right_part (top + 1) k r).info.desc ∷ []) first at (λ after _. ap (λ c. c.made) (split-is top k r after can)))))

pub split-kept : (k : List ℕ) (rs : List Range) (ds : List RangeDesc) (i : ℕ) (r : Range) → IsFirst (holds_key k) rs i → slice_get rs i ≡ Some r → can_split (greatest_id ds) k r ≡ false → Became (split_at k) (layout rs ds) (layout rs ds)
split-kept k rs ds i r first at can =
    let top = greatest_id ds in
    became-unchanged (split_in top k) k rs ds (kept-changed (split_in top k) k rs i r first at (ap (λ b. cond b (record { ranges = left_part k r ∷ right_part (top + 1) k r ∷ drop (suc i) rs; made = (left_part k r).info.desc ∷ (right_part (top + 1) k r).info.desc ∷ [] }) (unchanged (r ∷ drop (suc i) rs))) can))

pub split-none : (k : List ℕ) (rs : List Range) (ds : List RangeDesc) → Each (λ r. holds_key k r ≡ false) rs → Became (split_at k) (layout rs ds) (layout rs ds)
split-none k rs ds none = became-none (split_in (greatest_id ds) k) k rs ds none

two-in : (before after : List Range) (r y z : Range) (i : ℕ) → length before ≡ i → insert (set (before ++ r ∷ after) i y) (suc i) z ≡ before ++ y ∷ z ∷ after
two-in [] after r y z zero place = refl
two-in [] after r y z (suc i) place = absurd (omega (arith, place))
two-in (q ∷ before) after r y z zero place = absurd (omega (arith, place))
two-in (q ∷ before) after r y z (suc i) place = ap (λ zs. q ∷ zs) (two-in before after r y z i (omega (arith, place)))

pub split-sound : (k : List ℕ) (rs items : List Range) (ds lineage : List RangeDesc) (places noted : List ℕ) (i : ℕ) (r : Range) → IsSound rs ds places → IsFirst (holds_key k) rs i → slice_get rs i ≡ Some r → can_split (greatest_id ds) k r ≡ true → items ≡ insert (set rs i (left_part k r)) (suc i) (right_part (greatest_id ds + 1) k r) → lineage ≡ ds ++ (left_part k r).info.desc ∷ (right_part (greatest_id ds + 1) k r).info.desc ∷ [] → noted ≡ set places r.info.desc.id (length ds) ++ (length ds + 1) ∷ [] → IsSound items lineage noted
split-sound k rs items ds lineage places noted i r sound first at can is grown notes =
    let y = left_part k r in
    let z = right_part (greatest_id ds + 1) k r in
    let p : Parts rs i r = parts-at rs i r at in
    let whole : items ≡ p.before ++ y ∷ z ∷ p.after = is ∙ ap (λ zs. insert (set zs i y) (suc i) z) p.is ∙ two-in p.before p.after r y z i p.place in
    let keeps : Keeps (laid (layout items lineage) bare) =
    became-keeps (split_at k) rs items ds lineage (split-became k rs items ds lineage i r first at can is grown) (split_keeps k (laid (layout rs ds) bare) sound.keeps) in
    let after : IsSound (p.before ++ y ∷ z ∷ p.after) (ds ++ y.info.desc ∷ z.info.desc ∷ []) (set places r.info.desc.id (length ds) ++ (length ds + 1) ∷ []) =
    sound-two p.before p.after r y z ds places (subst (λ zs. IsSound zs ds places) p.is sound) refl refl
    (subst (λ zs. Keeps (laid (layout zs (ds ++ y.info.desc ∷ z.info.desc ∷ [])) bare)) whole (subst (λ zs. Keeps (laid (layout items zs) bare)) grown keeps)) in
    subst (λ zs. IsSound zs lineage noted) (sym whole) (subst (λ zs. IsSound (p.before ++ y ∷ z ∷ p.after) zs noted) (sym grown) (subst (λ zs. IsSound (p.before ++ y ∷ z ∷ p.after) (ds ++ y.info.desc ∷ z.info.desc ∷ []) zs) (sym notes) after))

-- ---- a merge

merge-is : (r s : Range) (after : List Range) → can_join r s ≡ true → merge_in r (s ∷ after) ≡ record { ranges = joined r s ∷ after; made = (joined r s).info.desc ∷ [] }
merge-is r s after can = ap (λ b. cond b (record { ranges = joined r s ∷ after; made = (joined r s).info.desc ∷ [] }) (unchanged (r ∷ s ∷ after))) can

-- what follows a place
next-at : (rs : List Range) (i : ℕ) (s : Range) → slice_get rs (suc i) ≡ Some s → drop (suc i) rs ≡ s ∷ drop (suc (suc i)) rs
next-at [] i s at = cc
next-at (q ∷ []) zero s at = cc
next-at (q ∷ o ∷ rs) zero s at = ap (λ z. z ∷ rs) (some_same o s at)
next-at (q ∷ rs) (suc i) s at = next-at rs i s at

pub merge-became : (k : List ℕ) (rs items : List Range) (ds lineage : List RangeDesc) (i : ℕ) (r s : Range) → IsFirst (holds_key k) rs i → slice_get rs i ≡ Some r → slice_get rs (suc i) ≡ Some s → can_join r s ≡ true → items ≡ set (remove rs (suc i)) i (joined r s) → lineage ≡ ds ++ (joined r s).info.desc ∷ [] → Became (merge_at k) (layout rs ds) (layout items lineage)
merge-became k rs items ds lineage i r s first at next can is grown =
    became-changed merge_in k rs items ds lineage
    (is ∙ merge-changed k rs i r s first at next can)
    (grown ∙ ap (λ ms. ds ++ ms) (sym (made-at merge_in k rs i r ((joined r s).info.desc ∷ []) first at (λ after here.
    ap (λ zs. (merge_in r zs).made) (here ∙ next-at rs i s next) ∙ ap (λ c. c.made) (merge-is r s (drop (suc (suc i)) rs) can)))))

pub merge-kept : (k : List ℕ) (rs : List Range) (ds : List RangeDesc) (i : ℕ) (r s : Range) → IsFirst (holds_key k) rs i → slice_get rs i ≡ Some r → slice_get rs (suc i) ≡ Some s → can_join r s ≡ false → Became (merge_at k) (layout rs ds) (layout rs ds)
merge-kept k rs ds i r s first at next can =
    became-unchanged merge_in k rs ds (kept-changed merge_in k rs i r first at (
    ap (merge_in r) (next-at rs i s next)
    ∙ ap (λ b. cond b (record { ranges = joined r s ∷ drop (suc (suc i)) rs; made = (joined r s).info.desc ∷ [] }) (unchanged (r ∷ s ∷ drop (suc (suc i)) rs))) can
    ∙ ap (λ zs. unchanged (r ∷ zs)) (sym (next-at rs i s next))
    ))

-- the last range has no neighbour
pub merge-last : (k : List ℕ) (rs : List Range) (ds : List RangeDesc) (i : ℕ) (r : Range) → IsFirst (holds_key k) rs i → slice_get rs i ≡ Some r → slice_get rs (suc i) ≡ None → Became (merge_at k) (layout rs ds) (layout rs ds)
merge-last k rs ds i r first at none =
    became-unchanged merge_in k rs ds (kept-changed merge_in k rs i r first at (ap (merge_in r) (ended rs i none) ∙ ap (λ zs. unchanged (r ∷ zs)) (sym (ended rs i none))))
  where
    ended : (rs : List Range) (i : ℕ) → slice_get rs (suc i) ≡ None → drop (suc i) rs ≡ []
    ended [] i none = drop_all (suc i) [] (omega arith)
    ended (q ∷ []) zero none = refl
    ended (q ∷ o ∷ rs) zero none = cc
    ended (q ∷ rs) (suc i) none = ended rs i none

one-out : (before after : List Range) (r y : Range) (i : ℕ) → length before ≡ i → set (remove (before ++ r ∷ after) (suc i)) i y ≡ before ++ y ∷ drop 1 after
one-out [] after r y zero place = refl
one-out [] after r y (suc i) place = absurd (omega (arith, place))
one-out (q ∷ before) after r y zero place = absurd (omega (arith, place))
one-out (q ∷ before) after r y (suc i) place = ap (λ zs. q ∷ zs) (one-out before after r y i (omega (arith, place)))

after-at : (before after : List Range) (r s : Range) (i : ℕ) → length before ≡ i → slice_get (before ++ r ∷ after) (suc i) ≡ Some s → after ≡ (s ∷ []) ++ drop 1 after
after-at [] [] r s zero place at = cc
after-at [] (o ∷ after) r s zero place at = ap (λ z. z ∷ after) (some_same o s at)
after-at [] after r s (suc i) place at = absurd (omega (arith, place))
after-at (q ∷ before) after r s zero place at = absurd (omega (arith, place))
after-at (q ∷ before) after r s (suc i) place at = after-at before after r s i (omega (arith, place)) at

pub merge-sound : (k : List ℕ) (rs items : List Range) (ds lineage : List RangeDesc) (places noted : List ℕ) (i : ℕ) (r s : Range) → IsSound rs ds places → IsFirst (holds_key k) rs i → slice_get rs i ≡ Some r → slice_get rs (suc i) ≡ Some s → can_join r s ≡ true → items ≡ set (remove rs (suc i)) i (joined r s) → lineage ≡ ds ++ (joined r s).info.desc ∷ [] → noted ≡ set places r.info.desc.id (length ds) → IsSound items lineage noted
merge-sound k rs items ds lineage places noted i r s sound first at next can is grown notes =
    let y = joined r s in
    let p : Parts rs i r = parts-at rs i r at in
    let rest = drop 1 p.after in
    let whole : items ≡ p.before ++ y ∷ rest = is ∙ ap (λ zs. set (remove zs (suc i)) i y) p.is ∙ one-out p.before p.after r y i p.place in
    let later : p.after ≡ (s ∷ []) ++ rest = after-at p.before p.after r s i p.place (subst (λ zs. slice_get zs (suc i) ≡ Some s) p.is next) in
    let keeps : Keeps (laid (layout items lineage) bare) =
    became-keeps (merge_at k) rs items ds lineage (merge-became k rs items ds lineage i r s first at next can is grown) (merge_keeps k (laid (layout rs ds) bare) sound.keeps) in
    let after : IsSound (p.before ++ y ∷ rest) (ds ++ y.info.desc ∷ []) (set places r.info.desc.id (length ds)) =
    sound-one p.before (s ∷ []) rest r y ds places (subst (λ zs. IsSound zs ds places) (p.is ∙ ap (λ zs. p.before ++ r ∷ zs) later) sound) refl
    (subst (λ zs. Keeps (laid (layout zs (ds ++ y.info.desc ∷ [])) bare)) whole (subst (λ zs. Keeps (laid (layout items zs) bare)) grown keeps)) in
    subst (λ zs. IsSound zs lineage noted) (sym whole) (subst (λ zs. IsSound (p.before ++ y ∷ rest) zs noted) (sym grown) (subst (λ zs. IsSound (p.before ++ y ∷ rest) (ds ++ y.info.desc ∷ []) zs) (sym notes) after))

-- ---- the same over what the calls say of the range at a place

pub record Entry (rs : List Range) (i : ℕ) : Type 0 where
  pub one : Range
  pub at : slice_get rs i ≡ Some one

pub entry : (rs : List Range) (i : ℕ) → i < length rs → Entry rs i
entry [] i low = absurd (omega (arith, low))
entry (r ∷ rs) zero low = record { one = r; at = refl }
entry (r ∷ rs) (suc i) low = let rest : Entry rs i = entry rs i (omega (arith, low)) in record { one = rest.one; at = rest.at }

pub write-told : (k : List ℕ) (v : Version) (rs items : List Range) (i : ℕ) → IsFirst (holds_key k) rs i → ((r : Range) → slice_get rs i ≡ Some r → items ≡ set rs i (record r { cells = put_cell k (after_foreign v) r.cells })) → items ≡ written k v rs
write-told k v rs items i first told =
    let e : Entry rs i = entry rs i (first-low (holds_key k) rs i first) in
    told e.one e.at ∙ set-replaced k (λ r. record r { cells = put_cell k (after_foreign v) r.cells }) rs i e.one first e.at

pub lease-told : (k : List ℕ) (n : ℕ) (rs items : List Range) (i : ℕ) → IsFirst (holds_key k) rs i → ((r : Range) → slice_get rs i ≡ Some r → items ≡ set rs i (cond (can_lease n r) (with_lease n r) r)) → items ≡ (change_at (lease_in n) k rs).ranges
lease-told k n rs items i first told =
    let e : Entry rs i = entry rs i (first-low (holds_key k) rs i first) in
    told e.one e.at ∙ lease-set k n rs i e.one (cond (can_lease n e.one) (with_lease n e.one) e.one) first e.at refl

-- the descriptor of the range at a place is the newest, and stands where it is noted
pub newest-at : (rs : List Range) (ds : List RangeDesc) (places : List ℕ) (i p : ℕ) (r : Range) → IsSound rs ds places → slice_get rs i ≡ Some r → slice_get places r.info.desc.id ≡ Some p → IsNewestAt ds r.info.desc p
newest-at rs ds places i p r sound at noted =
    let s : Stands places ds r.info.desc = stands-noted places ds r.info.desc (noted-at rs ds places i r sound.own at) in
    let same : s.place ≡ p = some_same s.place p (sym s.noted ∙ noted) in
    newest-stands ds r p sound.keeps.rise (each-at (IsNewest ds) rs i r sound.keeps.newest at) (subst (λ n. slice_get ds n ≡ Some r.info.desc) same s.there)

pub id-low : (rs : List Range) (ds : List RangeDesc) (places : List ℕ) (i : ℕ) (r : Range) → IsSound rs ds places → slice_get rs i ≡ Some r → r.info.desc.id < length places
id-low rs ds places i r sound at =
    let s : Stands places ds r.info.desc = stands-noted places ds r.info.desc (noted-at rs ds places i r sound.own at) in
    slice_get_within places r.info.desc.id s.place s.noted

pub first-passes : (k : List ℕ) (rs : List Range) (i : ℕ) (r : Range) → IsFirst (holds_key k) rs i → slice_get rs i ≡ Some r → holds_key k r ≡ true
first-passes k [] i r first at = absurd first
first-passes k (q ∷ rs) zero r first at = subst (λ z. holds_key k z ≡ true) (some_same q r at) first
first-passes k (q ∷ rs) (suc i) r first at = first-passes k rs i r first.1 at

-- so it is the last that contains a key of the range
pub last-told : (k : List ℕ) (rs : List Range) (ds : List RangeDesc) (places : List ℕ) (i p : ℕ) → IsSound rs ds places → IsFirst (holds_key k) rs i → ((r : Range) → slice_get rs i ≡ Some r → slice_get places r.info.desc.id ≡ Some p) → IsLastAt ds k p
last-told k rs ds places i p sound first told =
    let e : Entry rs i = entry rs i (first-low (holds_key k) rs i first) in
    (newest-at rs ds places i p e.one sound e.at (told e.one e.at)).last k (first-passes k rs i e.one first e.at)

-- and above all ranges no descriptor contains the key
none-high : (k s : List ℕ) (rs : List Range) → key_le s k ≡ true → Tiles s rs → Each (λ r. holds_key k r ≡ false) rs → key_lt k bound ≡ false
none-high k s [] from t none = subst (λ z. key_lt k z ≡ false) t (not_lt_of_le s k from)
none-high k s (r ∷ rs) from t none =
    let low : key_le (start_of r) k ≡ true = subst (λ z. key_le z k ≡ true) (sym t.0.begins) from in
    let past : key_lt k (end_of r) ≡ false = sym (ap (λ b. b && key_lt k (end_of r)) low) ∙ none.0 in
    none-high k (end_of r) rs (le_of_not_lt k (end_of r) past) t.1 none.1

pub back-none : (k : List ℕ) (b : ℕ) (rs : List Range) (ds : List RangeDesc) (places : List ℕ) → IsSound rs ds places → Each (λ r. holds_key k r ≡ false) rs → None ≡ back_from b (containing k ds)
back-none k b rs ds places sound none = sym (ap (back_from b) (sound.low k (none-high k [] rs (least k) sound.keeps.tiled none)))

-- where a range can be changed, its generation can rise
pub move-next : (ns : List ℕ) (r : Range) → can_move ns r ≡ true → r.info.desc.generation < 4294967295
move-next ns r can = lt_of _ _ (and_second (not (pointwise nat_eq ns r.info.desc.nodes)) _ (and_first _ _ can))

pub join-left : (r s : Range) → can_join r s ≡ true → r.info.desc.generation < 4294967295
join-left r s can = let less : max r.info.desc.generation s.info.desc.generation < 4294967295 = lt_of _ _ can in omega arith

pub join-right : (r s : Range) → can_join r s ≡ true → s.info.desc.generation < 4294967295
join-right r s can = let less : max r.info.desc.generation s.info.desc.generation < 4294967295 = lt_of _ _ can in omega arith
