-- A lookup answered by an armed descriptor, or by the ranges.
use Rattle.std.proofs.Common.{◌≡◌, ℕ, zero, suc, ◌+◌, ◌<◌, ◌≤◌, Bool, true, false, cond, not, List, [], ◌∷◌, ◌++◌, Some, None, refl, sym, ap, ◌∙◌, subst, length, position, find, nat_lt, arith, Result, Ok, Err, IfOk, OnErr}
use Rattle.std.specs.List.{position_or_len, remove, slice_get}
use Rattle.std.specs.declared.alloc.AllocError.{AllocError}
use Rattle.ds_base.proofs.SmallFacts.{ge_of, lt_of, none_some, some_none, some_same}
use Rattle.ds_base.specs.declared.value.Dir.{Dir}
use Rattle.ds_desc.specs.Contains.{FirstContains, contains, lies_ahead}
use Rattle.ds_desc.specs.declared.desc.Info.{Info}
use Rattle.ds_desc.specs.declared.desc.RangeDesc.{RangeDesc}
use Rattle.ds_desc.specs.declared.meta.Looked.{Looked}
use Rattle.ds_desc.specs.declared.meta.Looked.TheVariants.{Rows}
use Rattle.ds_rule.specs.declared.journal.JournalStep.TheVariants.{Look}
use Rattle.ds_rule.specs.declared.record.TxnRecord.{TxnRecord}
use Rattle.ds_rule.specs.Clauses.{Looks, Steps}
use Rattle.ds_rule.specs.Pieces.{Each}
use Rattle.ds_rule.specs.World.{World, answers_lookup, armed_row, rows_at, without_first}
use Rattle.ds_ranges.specs.Layout.{Layout}
use Rattle.ds_ranges.specs.Places.{IsFirst}
use Rattle.ds_ranges.proofs.Finding.{first-found, none-found}
use Rattle.ds_sim.specs.Looks.{LooksArmed, LooksUp}
use Rattle.ds_sim.specs.State.{stands_for, world_of}
use Rattle.ds_sim.specs.UnderWay.{Notes, UnderWay}
use Rattle.ds_sim.proofs.Sending.{look_steps, stays_same}

-- ---- the first that passes, by its position

module _ {X : Type 0} (p : X → Bool) where
  first-of : (xs : List X) (i : ℕ) → i ≡ position_or_len p xs → i < length xs → IsFirst p xs i
  first-of [] i at low = absurd (omega (arith, low))
  first-of (x ∷ xs) i at low =
      elim (p x) as (λ t. p x ≡ t → i ≡ cond (not t) (1 + position_or_len p xs) 0 → IsFirst p (x ∷ xs) i) [
        | true ↦ λ e here. subst (IsFirst p (x ∷ xs)) (sym here) e
        | false ↦ λ e here.
            let j = position_or_len p xs in
            let next : 1 + j ≡ suc j = omega arith in
            subst (λ k. k < length (x ∷ xs) → IsFirst p (x ∷ xs) k) (sym (here ∙ next)) (λ l. (e, first-of xs j refl (omega (arith, l)))) low
      ] refl at

  none-of : (xs : List X) → length xs ≤ position_or_len p xs → Each (λ x. p x ≡ false) xs
  none-of [] h = tt
  none-of (x ∷ xs) h =
      elim (p x) as (λ t. p x ≡ t → length (x ∷ xs) ≤ cond (not t) (1 + position_or_len p xs) 0 → Each (λ x. p x ≡ false) (x ∷ xs)) [
        | true ↦ λ e g. absurd (omega (arith, g))
        | false ↦ λ e g. (e, none-of xs (omega (arith, g)))
      ] refl h

  pub position-first : (xs : List X) (i : ℕ) → position p xs ≡ Some i → IsFirst p xs i
  position-first xs i h =
      elim (nat_lt (position_or_len p xs) (length xs)) as (λ t. nat_lt (position_or_len p xs) (length xs) ≡ t → cond t (Some (position_or_len p xs)) None ≡ Some i → IsFirst p xs i) [
        | true ↦ λ e g.
            let same : position_or_len p xs ≡ i = some_same _ _ g in
            first-of xs i (sym same) (subst (λ n. n < length xs) same (lt_of _ _ e))
        | false ↦ λ e g. none_some i g
      ] refl h

  position-none : (xs : List X) → position p xs ≡ None → Each (λ x. p x ≡ false) xs
  position-none xs h =
      elim (nat_lt (position_or_len p xs) (length xs)) as (λ t. nat_lt (position_or_len p xs) (length xs) ≡ t → cond t (Some (position_or_len p xs)) None ≡ None → Each (λ x. p x ≡ false) xs) [
        | true ↦ λ e g. some_none _ g
        | false ↦ λ e g. none-of xs (ge_of _ _ e)
      ] refl h

  pub first-within : (xs : List X) (i : ℕ) → IsFirst p xs i → i < length xs
  first-within [] i h = absurd h
  first-within (x ∷ xs) zero h = omega arith
  first-within (x ∷ xs) (suc i) h = let low : i < length xs = first-within xs i h.1 in omega arith

  first-removed : (xs : List X) (i : ℕ) → IsFirst p xs i → remove xs i ≡ without_first p xs
  first-removed [] i h = absurd h
  first-removed (x ∷ xs) zero h = ap (λ t. cond t xs (x ∷ without_first p xs)) (sym h)
  first-removed (x ∷ xs) (suc i) h = ap (λ zs. x ∷ zs) (first-removed xs i h.1) ∙ ap (λ t. cond t xs (x ∷ without_first p xs)) (sym h.0)

  none-removed : (xs : List X) → Each (λ x. p x ≡ false) xs → without_first p xs ≡ xs
  none-removed [] h = refl
  none-removed (x ∷ xs) h = ap (λ t. cond t xs (x ∷ without_first p xs)) h.0 ∙ ap (λ zs. x ∷ zs) (none-removed xs h.1)

  found-passes : (xs : List X) (x : X) → find p xs ≡ Some x → p x ≡ true
  found-passes [] x h = none_some x h
  found-passes (y ∷ ys) x h =
      elim (p y) as (λ t. p y ≡ t → cond t (Some y) (find p ys) ≡ Some x → p x ≡ true) [
        | true ↦ λ e g. subst (λ z. p z ≡ true) (some_same y x g) e
        | false ↦ λ e g. found-passes ys x g
      ] refl h

-- ---- an armed descriptor answers

pub looks-armed : (k : List ℕ) (d : Dir) (old new : List RangeDesc) (i : ℕ) (desc : RangeDesc) (infos : List Info) (l : Looked) → position (answers_lookup d k) old ≡ Some i → slice_get old i ≡ Some desc → infos ≡ armed_row desc ∷ [] → l ≡ Rows infos → new ≡ remove old i → LooksArmed k d old new l
looks-armed k d old new i desc infos l here at are is gone =
    let first : IsFirst (answers_lookup d k) old i = position-first (answers_lookup d k) old i here in
    record {
      desc = desc;
      found = sym (first-found (answers_lookup d k) old i first) ∙ at;
      rows = is ∙ ap Rows are;
      gone = gone ∙ first-removed (answers_lookup d k) old i first;
    }

-- its one row contains the key
armed-first : (k : List ℕ) (d : Dir) (old new : List RangeDesc) (l : Looked) → LooksArmed k d old new l → FirstContains d k l
armed-first k d old new l h = subst (FirstContains d k) (sym h.rows) (found-passes (answers_lookup d k) old h.desc h.found)

armed-steps : (k : List ℕ) (d : Dir) (layout : Layout) (old new : List RangeDesc) (ts : List TxnRecord) (u v : UnderWay) (c : ℕ) (picks : List ℕ) (l : Looked) → LooksArmed k d old new l → lies_ahead d k ≡ true → Notes (Look k d l) u v → Steps (stands_for (world_of layout old ts u.count) u c picks) (stands_for (world_of layout new ts v.count) v c picks) (Look k d l)
armed-steps k d layout old new ts u v c picks l h ahead notes =
    let w : World = world_of layout old ts u.count in
    subst (λ z. Steps (stands_for w u c picks) (stands_for (world_of layout new ts v.count) v c picks) (Look k d z)) (sym h.rows)
    (look_steps w (world_of layout new ts v.count) u v c picks k d (armed_row h.desc ∷ []) (subst (λ z. Notes (Look k d z) u v) h.rows notes)
    (sym (ap (rows_at d k w) h.found)) (ap (λ zs. world_of layout zs ts v.count) h.gone ∙ ap (λ z. world_of layout (without_first (answers_lookup d k) old) ts z.count) notes.is) ahead)

-- ---- the ranges answer

up-steps : (k : List ℕ) (d : Dir) (layout : Layout) (armed : List RangeDesc) (ts : List TxnRecord) (u v : UnderWay) (c : ℕ) (picks : List ℕ) (l : Looked) → position (answers_lookup d k) armed ≡ None → LooksUp k d layout l → lies_ahead d k ≡ true → Notes (Look k d l) u v → Steps (stands_for (world_of layout armed ts u.count) u c picks) (stands_for (world_of layout armed ts v.count) v c picks) (Look k d l)
up-steps k d layout armed ts u v c picks l none h ahead notes =
    let w : World = world_of layout armed ts u.count in
    let all : Each (λ a. answers_lookup d k a ≡ false) armed = position-none (answers_lookup d k) armed none in
    subst (λ z. Steps (stands_for w u c picks) (stands_for (world_of layout armed ts v.count) v c picks) (Look k d z)) (sym h.rows)
    (look_steps w (world_of layout armed ts v.count) u v c picks k d h.infos (subst (λ z. Notes (Look k d z) u v) h.rows notes)
    (h.are w ∙ ap (rows_at d k w) (none-found (answers_lookup d k) armed all))
    (ap (λ z. world_of layout armed ts z.count) notes.is ∙ ap (λ zs. world_of layout zs ts u.count) (sym (none-removed (answers_lookup d k) armed all))) ahead)

-- ---- the same over what the calls say

pub armed-first-ok : (k : List ℕ) (d : Dir) (old new : List RangeDesc) (r : Result Looked AllocError) → IfOk r (λ l. LooksArmed k d old new l) → IfOk r (λ l. FirstContains d k l)
armed-first-ok k d old new (Ok l) looks = armed-first k d old new l looks
armed-first-ok k d old new (Err e) looks = tt

pub up-first-ok : (k : List ℕ) (d : Dir) (layout : Layout) (r : Result Looked AllocError) → IfOk r (λ l. LooksUp k d layout l) → IfOk r (λ l. FirstContains d k l)
up-first-ok k d layout (Ok l) looks = looks.first
up-first-ok k d layout (Err e) looks = tt

pub armed-looks : (k : List ℕ) (d : Dir) (layout : Layout) (old new : List RangeDesc) (ts : List TxnRecord) (u v : UnderWay) (c : ℕ) (picks : List ℕ) (r : Result Looked AllocError) → IfOk r (λ l. LooksArmed k d old new l) → lies_ahead d k ≡ true → IfOk r (λ l. Notes (Look k d l) u v) → OnErr r (new ≡ old) → OnErr r (v ≡ u) → Looks (stands_for (world_of layout old ts u.count) u c picks) (stands_for (world_of layout new ts v.count) v c picks) k d r
armed-looks k d layout old new ts u v c picks (Ok l) looks ahead notes same stay = armed-steps k d layout old new ts u v c picks l looks ahead notes
armed-looks k d layout old new ts u v c picks (Err e) looks ahead notes same stay =
    stays_same (stands_for (world_of layout old ts u.count) u c picks) (stands_for (world_of layout new ts v.count) v c picks)
    (ap (λ zs. stands_for (world_of layout zs ts v.count) v c picks) same ∙ ap (λ z. stands_for (world_of layout old ts z.count) z c picks) stay)

pub up-looks : (k : List ℕ) (d : Dir) (layout : Layout) (armed : List RangeDesc) (ts : List TxnRecord) (u v : UnderWay) (c : ℕ) (picks : List ℕ) (r : Result Looked AllocError) → position (answers_lookup d k) armed ≡ None → IfOk r (λ l. LooksUp k d layout l) → lies_ahead d k ≡ true → IfOk r (λ l. Notes (Look k d l) u v) → OnErr r (v ≡ u) → Looks (stands_for (world_of layout armed ts u.count) u c picks) (stands_for (world_of layout armed ts v.count) v c picks) k d r
up-looks k d layout armed ts u v c picks (Ok l) none looks ahead notes stay = up-steps k d layout armed ts u v c picks l none looks ahead notes
up-looks k d layout armed ts u v c picks (Err e) none looks ahead notes stay =
    stays_same (stands_for (world_of layout armed ts u.count) u c picks) (stands_for (world_of layout armed ts v.count) v c picks) (ap (λ z. stands_for (world_of layout armed ts z.count) z c picks) stay)
