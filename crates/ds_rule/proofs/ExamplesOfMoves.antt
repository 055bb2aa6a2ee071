-- Worked examples of what events do to a world, some that hold and some that must not, and of what every world keeps.
use Rattle.std.proofs.Common.{◌≡◌, ℕ, Bool, true, false, cond, ◌&&◌, ◌==◌, List, [], ◌∷◌, length, Option, Some, None, refl, sym, ap, ◌∙◌}
use Rattle.std.proofs.Math.Bool.{and-false}
use Rattle.ds_base.specs.Order.{bound, key_le, key_lt}
use Rattle.ds_base.specs.declared.value.Dir.TheVariants.{Forward}
use Rattle.ds_base.proofs.OrderedFacts.{not_le_of_lt, not_lt_of_le}
use Rattle.ds_base.proofs.SmallFacts.{and_first, and_second}
use Rattle.ds_desc.specs.Contains.{contains}
use Rattle.ds_desc.specs.Descs.{Newer, containing}
use Rattle.ds_desc.specs.declared.desc.RangeDesc.{RangeDesc}
use Rattle.ds_kind.specs.declared.batch.Piece.{Piece}
use Rattle.ds_cell.specs.Seen.{last_of}
use Rattle.ds_rule.specs.declared.event.Event.TheVariants as Event
use Rattle.ds_rule.specs.Deliver.{deliver_world}
use Rattle.ds_rule.specs.Keeping.{IsNewest, Keeps}
use Rattle.ds_rule.specs.Moves.{IsMove, moved}
use Rattle.ds_rule.specs.Shifts.{split_at}
use Rattle.ds_rule.specs.World.{World, Late, cell_of}
use Rattle.ds_rule.proofs.Examples.{key_a, key_g, key_m, low, high, world, by_txn, put, piece, two_ranges_tile, differs, never}

-- ---- what is counted

a_split_is_counted : moved world (Event.Split key_m) ≡ record (split_at key_m world) { count = 1 }
a_split_is_counted = refl

so_is_one_without_effect : moved world (Event.Split key_g) ≡ record world { count = 1 }
so_is_one_without_effect = refl

it_leaves_what_keys_hold : cell_of (moved world (Event.Split key_m)) key_m ≡ cell_of world key_m
it_leaves_what_keys_hold = refl

what_names_a_step_is_not_counted : moved world (Event.LoseReply None) ≡ record world { count = 1 } → ⊥
what_names_a_step_is_not_counted h = differs h (λ w. w.count == 0) refl refl

and_does_nothing : moved world (Event.Copy 3) ≡ world
and_does_nothing = refl

-- ---- late copies

abbrev pub put_5 : Piece
put_5 = piece (by_txn 1) 1 (put key_a 5 ∷ [])

-- a copy under way to a node
abbrev pub late : ℕ → ℕ → Late
late c n = record { number = c; node = n; piece = put_5 }

abbrev pub with_late : Late → World
with_late l = record world { copies = l ∷ [] }

a_copy_arrives : moved (with_late (late 3 1)) (Event.Arrive 3) ≡ record (deliver_world world 1 put_5) { count = 1 }
a_copy_arrives = refl

it_is_gone_where_it_is_turned_away : moved (with_late (late 3 2)) (Event.Arrive 3) ≡ record world { count = 1 }
it_is_gone_where_it_is_turned_away = refl

no_other_number_arrives : moved (with_late (late 3 1)) (Event.Arrive 4) ≡ record (with_late (late 3 1)) { count = 1 }
no_other_number_arrives = refl

it_isnt_under_way_still : (moved (with_late (late 3 1)) (Event.Arrive 3)).copies ≡ late 3 1 ∷ [] → ⊥
it_isnt_under_way_still h = differs h (λ ls. length ls == 0) refl refl

-- ---- what a wire may make

a_wire_may_split : IsMove 10 (Event.Split key_m)
a_wire_may_split = tt

it_may_move_to_two_nodes : IsMove 10 (Event.Move key_m (4 ∷ 5 ∷ []))
it_may_move_to_two_nodes = refl

but_not_to_one_twice : IsMove 10 (Event.Move key_m (4 ∷ 4 ∷ [])) → ⊥
but_not_to_one_twice h = never h

nor_to_none : IsMove 10 (Event.Move key_m []) → ⊥
nor_to_none h = never h

it_loses_nothing_beside_its_steps : IsMove 10 (Event.LoseRequest None) → ⊥
it_loses_nothing_beside_its_steps h = h

-- ---- what every world keeps

abbrev pub both_descs : List RangeDesc
both_descs = low.info.desc ∷ high.info.desc ∷ []

low_is_newest : IsNewest both_descs low
low_is_newest k h =
    ap (λ t. last_of (cond t (low.info.desc ∷ containing k (high.info.desc ∷ [])) (containing k (high.info.desc ∷ [])))) h
    ∙ ap (λ t. last_of (low.info.desc ∷ cond (t && key_lt k bound) (high.info.desc ∷ []) [])) (not_le_of_lt k key_g (and_second (key_le [] k) _ h))

high_is_newest : IsNewest both_descs high
high_is_newest k h =
    ap (λ t. last_of (cond t (low.info.desc ∷ containing k (high.info.desc ∷ [])) (containing k (high.info.desc ∷ [])))) (ap (λ t. key_le [] k && t) (not_lt_of_le key_g k (and_first _ _ h)) ∙ and-false (key_le [] k))
    ∙ ap (λ t. last_of (cond t (high.info.desc ∷ []) [])) h

one_of_two : (d e : RangeDesc) (a b : Bool) → (a && b) ≡ false → Newer (cond a (d ∷ cond b (e ∷ []) []) (cond b (e ∷ []) []))
one_of_two d e true true h = absurd (never (sym h))
one_of_two d e true false h = (tt, tt)
one_of_two d e false true h = (tt, tt)
one_of_two d e false false h = tt

not_in_both : (k : List ℕ) → (contains Forward k low.info.desc.span && contains Forward k high.info.desc.span) ≡ false
not_in_both k = elim (key_lt k key_g) as (λ b. key_lt k key_g ≡ b → ((key_le [] k && b) && (key_le key_g k && key_lt k bound)) ≡ false) [
  | true ↦ λ h. ap (λ t. (key_le [] k && true) && (t && key_lt k bound)) (not_le_of_lt k key_g h) ∙ and-false (key_le [] k && true)
  | false ↦ λ h. ap (λ t. t && (key_le key_g k && key_lt k bound)) (and-false (key_le [] k))
] refl

pub two_ranges_are_kept : Keeps world
two_ranges_are_kept = record {
  tiled = two_ranges_tile;
  newest = (low_is_newest, (high_is_newest, tt));
  rise = λ k. one_of_two low.info.desc high.info.desc _ _ (not_in_both k);
  ids = refl;
  leases = refl;
}

is_one : Option RangeDesc → Bool
is_one None = false
is_one (Some d) = true

no_range_without_its_descriptor : Keeps (record world { descs = [] }) → ⊥
unfolding is_one
no_range_without_its_descriptor h = differs (sym (h.newest.0 key_a refl)) is_one refl refl
