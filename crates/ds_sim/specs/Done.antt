-- What a piece that was served does beside what its range holds, and what a delivery makes of ranges and records.
use Rattle.std.specs.Prelude.{◌≡◌, ℕ, List, [], ◌∷◌, Option, Some, None}
use Rattle.ds_base.specs.Order.{Extent}
use Rattle.ds_kind.specs.declared.batch.Item.{Item}
use Rattle.ds_kind.specs.declared.batch.Piece.{Piece}
use Rattle.ds_kind.specs.declared.reply.Reply.{Reply}
use Rattle.ds_kind.specs.declared.request.Request.{Request}
use Rattle.ds_kind.specs.declared.request.Request.TheVariants.{AdminSplit, AdminTransferLease}
use Rattle.ds_range.specs.declared.piece.Evaluation.{Evaluation}
use Rattle.ds_rule.specs.declared.answer.Answer.{Answer}
use Rattle.ds_rule.specs.declared.record.TxnRecord.{TxnRecord}
use Rattle.ds_rule.specs.Deliver.{Stop, deliver_answer, deliver_world, stops}
use Rattle.ds_rule.specs.Shifts.{lease_to, split_at}
use Rattle.ds_rule.specs.World.{World, Range}
use Rattle.ds_ranges.specs.Layout.{Layout}
use Rattle.ds_ranges.specs.Sound.{bare}
use Rattle.ds_sim.specs.declared.shift.Shift.{Shift}
use Rattle.ds_sim.specs.declared.shift.Shift.TheVariants.{Split, Lease}

-- ---- how the keys lie in ranges afterwards

abbrev pub shift_world : Shift → World → World
shift_world (Split k) w = split_at k w
shift_world (Lease k n) w = lease_to k n w

abbrev pub shift_all : List Shift → World → World
shift_all [] w = w
shift_all (s ∷ ss) w = shift_all ss (shift_world s w)

-- what a request that was done shifts
abbrev pub shift_of : Request → Option Shift
shift_of (AdminSplit a) = Some (Split a.key)
shift_of (AdminTransferLease a) = Some (Lease a.key a.node)
shift_of r = None

-- a request that is still to be asked shifts nothing
abbrev pub shift_unless : Option Extent → Request → Option Shift
shift_unless None r = shift_of r
shift_unless (Some rest) r = None

abbrev pub with_shift : Option Shift → List Shift → List Shift
with_shift None ss = ss
with_shift (Some s) ss = s ∷ ss

-- in order, with the reply to each
abbrev pub shifts_of : List Item → List Reply → List Shift
shifts_of [] rs = []
shifts_of (i ∷ is) [] = []
shifts_of (i ∷ is) (r ∷ rs) = with_shift (shift_unless r.resume i.request) (shifts_of is rs)

-- what a piece of which this became shifts
abbrev pub shifts_in : Piece → Evaluation → List Shift
shifts_in p (Evaluation.Served rs undo) = shifts_of p.items rs
shifts_in p (Evaluation.Failed f) = []

-- ---- a delivery

-- the world with these ranges, descriptors and records
abbrev pub having : Layout → List TxnRecord → World → World
having l ts w = record w { ranges = l.ranges; descs = l.descs; records = ts }

-- why the range with the piece's id does not serve it, if there is one
abbrev pub stops_at : Layout → List TxnRecord → ℕ → Piece → Option Range → Option Stop
stops_at l ts node p None = None
stops_at l ts node p (Some r) = stops (having l ts bare) node p r

-- the answer, and the ranges and records afterwards, are those of the world, whatever else it has
pub record Delivers (node : ℕ) (p : Piece) (old new : Layout) (ts us : List TxnRecord) (a : Answer) : Type 0 where
  pub answer : (w : World) → a ≡ deliver_answer (having old ts w) node p
  pub after : (w : World) → having new us w ≡ deliver_world (having old ts w) node p
