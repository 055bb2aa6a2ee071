-- Where tasks stand in the work.
use Rattle.std.specs.Prelude.{◌≡◌, ℕ, ◌+◌, Bool, true, false, List, [], ◌∷◌, Option, Some, None, refl}
use Rattle.std.specs.List.{insert, position, slice_get, sum_by}
use Rattle.ds_base.specs.Order.{Extent}
use Rattle.ds_base.specs.declared.value.Dir.TheVariants.{Forward}
use Rattle.ds_desc.specs.declared.desc.Info.{Info}
use Rattle.ds_kind.specs.declared.batch.Head.{Head}
use Rattle.ds_kind.specs.declared.batch.Part.{Part}
use Rattle.ds_kind.specs.declared.batch.Piece.{Piece}
use Rattle.ds_cover.specs.Cuts.{seek_key}
use Rattle.ds_cut.specs.Pieces.{rest_part}
use Rattle.ds_rule.specs.Path.{holds_span}
use Rattle.ds_flight.specs.Works.{TakenOff}
use Rattle.ds_flight.specs.declared.work.Flying.{Flying}
use Rattle.ds_flight.specs.declared.work.Task.{Task}
use Rattle.ds_flight.specs.declared.work.Task.TheVariants.{Rest, Routed}

abbrev pub is_rest : Task → Bool
is_rest (Rest c) = true
is_rest (Routed r) = false

abbrev pub one_if_routed : Task → ℕ
one_if_routed (Rest c) = 0
one_if_routed (Routed r) = 1

-- how many routed pieces wait
abbrev pub waiting : List Task → ℕ
waiting work = sum_by one_if_routed work

-- the places of those that wait, counted from this one on
abbrev pub routed_from : ℕ → List Task → List ℕ
routed_from at [] = []
routed_from at (Rest c ∷ ts) = routed_from (at + 1) ts
routed_from at (Routed r ∷ ts) = at ∷ routed_from (at + 1) ts

-- the place of the n-th of them, from 0
abbrev pub nth_routed : ℕ → List Task → Option ℕ
nth_routed n work = slice_get (routed_from 0 work) n

-- what is left of a rest, at a place, if anything is
abbrev pub rest_if : Option (List ℕ) → Part → ℕ → List Task → List Task
rest_if None c at work = work
rest_if (Some k) c at work = insert work at (Rest c)

-- a piece at a place, before what is left of its rest
abbrev pub placed : Flying → Part → ℕ → List Task → List Task
placed r c at work = insert (rest_if (seek_key c.dir c.items) c at work) at (Routed r)

-- what must lie in one range, if anything, lies in the span
abbrev pub lies_in_one : Option Extent → Extent → Bool
lies_in_one None span = true
lies_in_one (Some whole) span = holds_span span whole

-- the rest is cut at its route, and the piece and what is left of the rest stand in the place
pub record CutAt (head : Head) (i : Info) (c : Part) (token at : ℕ) (old new : List Task) : Type 0 where
  pub flying : Flying
  pub taken : TakenOff head i c token flying
  pub work : new ≡ placed flying (rest_part i.desc c) at old

-- a piece that becomes a rest
abbrev pub given_back : Piece → Task
given_back p = Rest (record { items = p.items; dir = p.dir })

nothing_is_left : (work : List Task) → rest_if (seek_key Forward []) (record { items = []; dir = Forward }) 0 work ≡ work
nothing_is_left work = refl

a_rest_comes_first : position is_rest (Rest (record { items = []; dir = Forward }) ∷ []) ≡ Some 0
a_rest_comes_first = refl
