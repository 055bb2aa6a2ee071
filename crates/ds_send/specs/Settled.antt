-- What a batch is answered where its parts ended so.
use Rattle.std.specs.Prelude.{◌≡◌, ℕ, zero, suc, refl}
use Rattle.ds_kind.specs.declared.reply.Failure.{Failure}
use Rattle.ds_retry.specs.Counted.{Counts, first_counts}
use Rattle.ds_retry.specs.declared.outcome.PartOutcome.{PartOutcome}
use Rattle.ds_retry.specs.declared.outcome.PartOutcome.TheVariants as Part
use Rattle.ds_rule.specs.declared.answer.Outcome.{Outcome}

-- a failure as it is answered, where so many sends were lost at risk; a record that is found committed leaves it in doubt
abbrev pub failed_as : ℕ → Failure → Outcome
failed_as risky (Failure.Condition i v) = Outcome.ConditionFailed i v
failed_as risky (Failure.TooOld i k t) = Outcome.WriteTooOld i k t
failed_as risky (Failure.NotInteger i) = Outcome.NotInteger i
failed_as risky (Failure.Overflow i) = Outcome.Overflow i
failed_as risky Failure.Aborted = Outcome.TxnAborted
failed_as risky Failure.Committed = Outcome.Ambiguous risky

-- a budget that is used up leaves the batch in doubt where a send was lost at risk
abbrev pub exhausted_as : ℕ → ℕ → ℕ → Outcome
exhausted_as zero refused lost = Outcome.RetryExhausted refused lost
exhausted_as (suc n) refused lost = Outcome.Ambiguous (suc n)

abbrev pub settled_as : Counts → PartOutcome → Outcome
settled_as c (Part.Done replies rest) = Outcome.Ok replies
settled_as c (Part.NotWhole desc) = Outcome.OpRequiresTxn desc
settled_as c (Part.Failed f) = failed_as c.at_risk f
settled_as c (Part.Ambiguous lost) = Outcome.Ambiguous lost
settled_as c (Part.Exhausted refused lost) = exhausted_as c.at_risk refused lost

used_up : settled_as (first_counts 3) (Part.Exhausted 2 1) ≡ Outcome.RetryExhausted 2 1
used_up = refl

not_where_a_commit_was_lost : settled_as (record (first_counts 3) { at_risk = 1 }) (Part.Exhausted 2 1) ≡ Outcome.Ambiguous 1
not_where_a_commit_was_lost = refl
