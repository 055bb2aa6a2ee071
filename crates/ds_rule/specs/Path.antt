-- What a sender did in one call, for every wire.
use Rattle.std.specs.Prelude.{◌≡◌, ℕ, Bool, true, ◌&&◌, List, [], ◌∷◌, ◌++◌, Option, Some, None}
use Rattle.std.specs.List.{list_all}
use Rattle.ds_base.specs.Order.{Extent, key_le}
use Rattle.ds_base.specs.Counts.{Rose}
use Rattle.ds_desc.specs.declared.desc.Info.{Info}
use Rattle.ds_desc.specs.declared.meta.Looked.TheVariants as Looked
use Rattle.ds_kind.specs.Request.{span_of}
use Rattle.ds_kind.specs.declared.batch.Piece.{Piece}
use Rattle.ds_rule.specs.declared.journal.JournalStep.{JournalStep}
use Rattle.ds_rule.specs.declared.journal.JournalStep.TheVariants.{Look, Send}
use Rattle.ds_rule.specs.Asking.{Asking}
use Rattle.ds_rule.specs.Clauses.{Stands, IsLost}
use Rattle.ds_rule.specs.Journal.{Happening, Moved, Did, Runs, Accepted, accepted}
use Rattle.ds_rule.specs.Moves.{IsMove}
use Rattle.ds_rule.specs.Pieces.{Each, PieceOf}

abbrev pub IsHigh : ℕ → Happening → Type 0
IsHigh floor (Moved e) = IsMove floor e
IsHigh floor (Did s) = Unit {0}

-- a send is of a piece of the batch with its whole limit: so it is of a batch without a limit alone
abbrev pub IsStepOf : Asking → JournalStep → Type 0
IsStepOf q (Look k d l) = Unit {0}
IsStepOf q (Send n p a) = PieceOf q q.head.left p

abbrev pub IsOf : Asking → Happening → Type 0
IsOf q (Moved e) = Unit {0}
IsOf q (Did s) = IsStepOf q s

-- it is lost only where the count of losses rose
abbrev pub LosesOnly : Type 0 → Happening → Type 0
LosesOnly rose (Moved e) = Unit {0}
LosesOnly rose (Did s) = IsLost s → rose

abbrev pub holds_span : Extent → Extent → Bool
holds_span outer inner = key_le outer.start inner.start && key_le inner.end outer.end

-- the piece is for the range of this row: it goes to the node that has the lease, under the range's id, and the range's
-- span holds all its items
pub record GoesTo (i : Info) (node : ℕ) (p : Piece) : Type 0 where
  pub lease : node ≡ i.lease.node
  pub range : p.range ≡ i.desc.id
  pub held : list_all (λ j. holds_span i.desc.span (span_of j.request)) p.items ≡ true

-- the route that a step finds: the first row of a lookup
abbrev pub route_by : JournalStep → Option Info
route_by (Look k d (Looked.Rows (i ∷ is))) = Some i
route_by (Look k d (Looked.Rows [])) = None
route_by (Look k d Looked.Lost) = None
route_by (Send n p a) = None

-- a send goes where the step before it found a route
abbrev pub IsRouted : Option Info → JournalStep → Type 0
IsRouted route (Look k d l) = Unit {0}
IsRouted (Some i) (Send n p a) = GoesTo i n p
IsRouted None (Send n p a) = ⊥

-- each send has a route of its own, from the lookup right before it
abbrev pub AreRouted : Option Info → List Happening → Type 0
AreRouted route [] = Unit {0}
AreRouted route (Moved e ∷ hs) = AreRouted route hs
AreRouted route (Did s ∷ hs) = IsRouted route s × AreRouted (route_by s) hs

-- from one state of a wire to a later one: what happened on the way, of which each send is of the batch and has its
-- route; and what was accepted. The floor and the block's events stay
pub record Path (q : Asking) (a b : Stands) (got : List Accepted) : Type 0 where
  pub added : List Happening
  pub high : Each (IsHigh a.floor) added
  pub of : Each (IsOf q) added
  pub routed : AreRouted None added
  pub losses : Each (LosesOnly (Rose a.lost b.lost)) added
  pub grown : b.past ≡ a.past ++ added
  pub runs : Runs a.world added b.world
  pub floor : b.floor ≡ a.floor
  pub block : b.block ≡ a.block
  pub gives : accepted added ≡ got
