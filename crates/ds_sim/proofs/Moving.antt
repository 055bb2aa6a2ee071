-- What an event of the cluster's own does to the parts of its world.
use Rattle.std.proofs.Common.{◌≡◌, ℕ, List, sym, subst}
use Rattle.ds_desc.specs.declared.desc.RangeDesc.{RangeDesc}
use Rattle.ds_rule.specs.declared.event.Event.{Event}
use Rattle.ds_rule.specs.declared.record.TxnRecord.{TxnRecord}
use Rattle.ds_rule.specs.Moves.{effect}
use Rattle.ds_ranges.specs.Layout.{Became, Layout}
use Rattle.ds_sim.specs.State.{world_of}

-- an event that changes the ranges alone, by the form that it has
pub made_of_ranges : (l m : Layout) (armed : List RangeDesc) (records : List TxnRecord) (e form : Event) → e ≡ form → Became (effect form) l m → (n : ℕ) → world_of m armed records n ≡ effect e (world_of l armed records n)
made_of_ranges l m armed records e form is became n =
    subst (λ z. world_of m armed records n ≡ effect z (world_of l armed records n)) (sym is) (became (world_of l armed records n))
