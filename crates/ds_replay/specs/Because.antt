-- Why a batch was answered so, and how an Ok answer's replies are gathered.
use Rattle.std.specs.Prelude.{◌≡◌, ℕ, List, [], map, Option, Some, None}
use Rattle.ds_desc.specs.declared.desc.RangeDesc.{RangeDesc}
use Rattle.ds_kind.specs.declared.illegal.Illegal.{Illegal}
use Rattle.ds_cell.specs.Store.{Store}
use Rattle.ds_rule.specs.declared.answer.Outcome.{Outcome}
use Rattle.ds_rule.specs.declared.event.Timed.{Timed}
use Rattle.ds_rule.specs.declared.journal.JournalStep.{JournalStep}
use Rattle.ds_rule.specs.Asking.{Asking}
use Rattle.ds_rule.specs.Blocks.{up_to_last_step, woven}
use Rattle.ds_rule.specs.Gathered.{Gathered}
use Rattle.ds_rule.specs.Journal.{Did, accepted}
use Rattle.ds_rule.specs.Whole.{OfParts}
use Rattle.ds_mean.specs.Send.{IsTurnCause, ShowsWhy}
use Rattle.ds_send.specs.Causes.{CauseOf}

-- the steps of a batch that was sent show why, where some descriptors were known before; and a failure is the store's turn,
-- with what happened up to the last step
abbrev pub SentCause : ℕ → Store → Asking → List Timed → List JournalStep → Outcome → Type 0
SentCause budget p q ts steps o =
    ShowsWhy budget q (map Did steps) o × IsTurnCause p q (up_to_last_step (woven 1 ts steps)) o × ((known : List RangeDesc) × CauseOf budget q known (map Did steps) o)

-- a batch that breaks a rule is answered with the first such rule, and one that its transaction refuses with that refusal,
-- each without a step; any other is sent
abbrev pub WhyBatch : Option Illegal → Option Outcome → ℕ → Store → Asking → List Timed → List JournalStep → Outcome → Type 0
WhyBatch (Some i) refusal budget p q ts steps o = (o ≡ Outcome.Illegal i) × (steps ≡ [])
WhyBatch None (Some r) budget p q ts steps o = (o ≡ r) × (steps ≡ [])
WhyBatch None None budget p q ts steps o = SentCause budget p q ts steps o

-- an Ok answer's replies are gathered of what was accepted, and what must lie in one range was served part by part
abbrev pub OkGathers : Asking → List JournalStep → Outcome → Type 0
OkGathers q steps (Outcome.Ok replies) = Gathered (accepted (map Did steps)) q.items replies × OfParts q (map Did steps)
OkGathers q steps o = Unit {0}
