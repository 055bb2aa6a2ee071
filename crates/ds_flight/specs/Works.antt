-- The work that is left of a part: rests and routed pieces.
use Rattle.std.specs.Prelude.{◌≡◌, ℕ, ◌+◌, ◌<◌, true, List, [], ◌∷◌, ◌++◌, map, length, Option, Some}
use Rattle.ds_base.specs.Order.{Extent}
use Rattle.ds_desc.specs.declared.desc.RangeDesc.{RangeDesc}
use Rattle.ds_desc.specs.declared.desc.Info.{Info}
use Rattle.ds_kind.specs.declared.batch.Head.{Head}
use Rattle.ds_kind.specs.declared.batch.Item.{Item}
use Rattle.ds_kind.specs.declared.batch.Part.{Part}
use Rattle.ds_cover.specs.Coverage.{Covered}
use Rattle.ds_cover.specs.Measures.{left_in, AllSpans}
use Rattle.ds_cut.specs.Pieces.{cut_piece}
use Rattle.ds_lease.specs.Turns.{Places, is_among, next_of, order_of, advanced}
use Rattle.ds_rule.specs.Pieces.{Each, IsOneOf}
use Rattle.ds_flight.specs.Flights.{Flight, AreOfPart}
use Rattle.ds_flight.specs.Goes.{HoldsAll, InOne}
use Rattle.ds_flight.specs.declared.work.Flying.{Flying}
use Rattle.ds_flight.specs.declared.work.Task.{Task}
use Rattle.ds_flight.specs.declared.work.Task.TheVariants.{Rest, Routed}

abbrev pub items_of : Task → List Item
items_of (Rest c) = c.items
items_of (Routed r) = r.piece.items

-- the route is by this descriptor
pub record RoutedBy (whole : Option Extent) (desc : RangeDesc) (r : Flying) : Type 0 where
  pub replicas : r.order.replicas ≡ desc.nodes
  pub node : is_among r.node desc.nodes ≡ true
  pub range : r.piece.range ≡ desc.id
  pub held : HoldsAll desc.span r.piece.items
  pub one : InOne whole desc.span

-- a routed piece is of the part, and its route by a descriptor that is known
pub record IsFlying (f : Flight) (known : List RangeDesc) (r : Flying) : Type 0 where
  pub some : 0 < length r.piece.items
  pub of : AreOfPart f r.piece.items
  pub spans : AllSpans r.piece.items
  pub dir : r.piece.dir ≡ f.part.dir
  pub desc : RangeDesc
  pub is_known : IsOneOf desc known
  pub by : RoutedBy f.whole desc r

-- a rest has something left, of the part
pub record IsRest (f : Flight) (items : List Item) : Type 0 where
  pub some : 0 < length items
  pub of : AreOfPart f items

abbrev pub IsTask : Flight → List RangeDesc → Task → Type 0
IsTask f known (Rest c) = IsRest f c.items × (c.dir ≡ f.part.dir)
IsTask f known (Routed r) = IsFlying f known r

-- the work is of the part, where these blocks of it are done: at each key one block or task has all positions
pub record Underway (f : Flight) (known : List RangeDesc) (done : List (List Item)) (work : List Task) : Type 0 where
  pub covered : Covered f.part.items (done ++ map items_of work)
  pub each : Each (IsTask f known) work

-- how much of the work is left, in numbers of keys
abbrev pub work_left : List Task → ℕ
work_left [] = 0
work_left (t ∷ ts) = left_in (items_of t) + work_left ts

-- the first node of a row's replicas that is tried, the leaseholder if it is one, and those after it
pub record FirstNode (i : Info) (o : Places) (node : ℕ) : Type 0 where
  pub first : next_of (order_of i) ≡ Some node
  pub order : o ≡ advanced (order_of i)
  pub replicas : o.replicas ≡ i.desc.nodes
  pub replica : is_among node i.desc.nodes ≡ true

-- the piece that is cut off a rest at a route, on its way to the first node
pub record TakenOff (head : Head) (i : Info) (c : Part) (token : ℕ) (r : Flying) : Type 0 where
  pub piece : cut_piece head i.desc c ≡ Some r.piece
  pub by : FirstNode i r.order r.node
  pub token_is : r.token ≡ token
