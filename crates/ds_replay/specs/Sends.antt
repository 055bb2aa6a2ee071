-- What a sender's call did, and how its block ends.
use Rattle.std.specs.Prelude.{◌≡◌, ℕ, List, Option, Some, None}
use Rattle.ds_base.specs.Counts.{Rose}
use Rattle.ds_desc.specs.declared.desc.RangeDesc.{RangeDesc}
use Rattle.ds_kind.specs.declared.illegal.Illegal.{Illegal}
use Rattle.ds_rule.specs.declared.answer.Outcome.{Outcome}
use Rattle.ds_rule.specs.Asking.{Asking}
use Rattle.ds_rule.specs.Clauses.{Stands}
use Rattle.ds_rule.specs.Path.{LosesOnly}
use Rattle.ds_rule.specs.Pieces.{Each}
use Rattle.ds_rule.specs.Whole.{OfParts}
use Rattle.ds_mean.specs.Send.{DidSend}
use Rattle.ds_send.specs.Causes.{CauseOf}

-- what the law of a sender speaks of; a step is lost only where the wire's count of losses rose; what must lie in one range
-- goes part by part, each in one piece; and the steps show why, where some descriptors were known before
pub record SentBy (budget : ℕ) (q : Asking) (a b : Stands) (o : Outcome) : Type 0 where
  pub did : DidSend budget q a b o
  pub losses : Each (LosesOnly (Rose a.lost b.lost)) did.added
  pub parts : OfParts q did.added
  pub known : List RangeDesc
  pub cause : CauseOf budget q known did.added o

-- a batch that breaks a rule, or that its transaction refuses, is answered so without a step; any other is sent
abbrev pub DoneBy : Option Illegal → Option Outcome → ℕ → Asking → Stands → Stands → Outcome → Type 0
DoneBy (Some i) refusal budget q a b o = (o ≡ Outcome.Illegal i) × (b ≡ a)
DoneBy None (Some r) budget q a b o = (o ≡ r) × (b ≡ a)
DoneBy None None budget q a b o = SentBy budget q a b o
