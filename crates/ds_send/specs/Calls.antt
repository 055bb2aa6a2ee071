-- What one call of a sender over ranges that may move did.
use Rattle.std.specs.Prelude.{◌≡◌, ℕ, List, ◌++◌, map, Option, Some, None}
use Rattle.ds_base.specs.Counts.{Rose}
use Rattle.ds_desc.specs.declared.desc.RangeDesc.{RangeDesc}
use Rattle.ds_kind.specs.declared.illegal.Illegal.{Illegal}
use Rattle.ds_cache.specs.Entries.{Entry}
use Rattle.ds_retry.specs.Counted.{Counts, first_counts}
use Rattle.ds_retry.specs.declared.outcome.PartOutcome.{PartOutcome}
use Rattle.ds_rule.specs.declared.answer.Outcome.{Outcome}
use Rattle.ds_rule.specs.Asking.{Asking}
use Rattle.ds_rule.specs.Clauses.{Stands}
use Rattle.ds_rule.specs.Journal.{Happening}
use Rattle.ds_rule.specs.Path.{LosesOnly}
use Rattle.ds_rule.specs.Pieces.{Each}
use Rattle.ds_rule.specs.Whole.{OfParts, whole_of}
use Rattle.ds_flight.specs.Causes.{AllGoOn}
use Rattle.ds_flight.specs.Goes.{Goes, known_after}
use Rattle.ds_flight.specs.Picks.{TookPicks}
use Rattle.ds_flight.specs.Ran.{AreKnown, RefusesOnly}
use Rattle.ds_flight.specs.Searches.{course}
use Rattle.ds_send.specs.Batched.{BatchBegun, BatchEnded}
use Rattle.ds_send.specs.Causes.{CauseOf}
use Rattle.ds_send.specs.Settled.{settled_as}

-- ---- a batch that breaks a rule

-- it is answered with the first such rule, and nothing is done
abbrev pub Ruled : Option Illegal → Outcome → Stands → Stands → Type 0
Ruled (Some i) o a b = (o ≡ Outcome.Illegal i) × (b ≡ a)
Ruled None o a b = Unit {0}

-- it leaves a sender, or its cache, as it was
abbrev pub StaysIf : {X : Type 0} → Option Illegal → X → X → Type 0
StaysIf (Some i) s t = t ≡ s
StaysIf None s t = Unit {0}

-- ---- any other

-- so it is for the batch as it is asked, where it breaks no rule
abbrev pub WhereAsked : Option Illegal → Option Asking → (Asking → Type 0) → Type 0
WhereAsked illegal asked P = illegal ≡ None → (q : Asking) → asked ≡ Some q → P q

-- the batch's parts were flown, with nothing counted before, whatever is known beside the cache's descriptors; and the answer
-- is what they came to
pub record Flew (budget : ℕ) (q : Asking) (a b : Stands) (es fs : List Entry) (o : Outcome) : Type 0 where
  pub came : PartOutcome
  pub counts : Counts
  pub answer : o ≡ settled_as counts came
  pub ended :
      (known : List RangeDesc) → AreKnown known es
      → (hs : List Happening) × BatchEnded q (whole_of q) known (course a es (first_counts budget)) (course b fs counts) hs came

-- memory was wanting on the way
pub record Broke (budget : ℕ) (q : Asking) (a b : Stands) (es fs : List Entry) : Type 0 where
  pub counts : Counts
  pub begun :
      (known : List RangeDesc) → AreKnown known es
      → (hs : List Happening) × BatchBegun q (whole_of q) known (course a es (first_counts budget)) (course b fs counts) hs

-- what was done, by the answer
abbrev pub FlewOrBroke : ℕ → Asking → Stands → Stands → List Entry → List Entry → Outcome → Type 0
FlewOrBroke budget q a b es fs Outcome.OutOfMemory = Broke budget q a b es fs
FlewOrBroke budget q a b es fs o = Flew budget q a b es fs o

-- ---- what of it a caller asks

abbrev pub descs_in : List Entry → List RangeDesc
descs_in es = map (λ e. e.1.desc) es

-- what happened shows why it was answered so. There were tries left before each step, and each send took a pick and went where
-- the cache, a lookup or a mismatch said; what must lie in one range went part by part; a step was refused or lost only
-- where the wire's own count rose
pub record Shows (budget : ℕ) (q : Asking) (a b : Stands) (es : List Entry) (hs : List Happening) (o : Outcome) : Type 0 where
  pub cause : CauseOf budget q (descs_in es) hs o
  pub went_on : AllGoOn (first_counts budget) hs
  pub picks : TookPicks a.ahead b.ahead hs
  pub goes : Goes None (descs_in es) hs
  pub parts : OfParts q hs
  pub refuses : Each (RefusesOnly (Rose a.refused b.refused)) hs
  pub loses : Each (LosesOnly (Rose a.lost b.lost)) hs

-- so does what the wire added
abbrev pub IsShown : ℕ → Asking → Stands → Stands → List Entry → Outcome → Type 0
IsShown budget q a b es o = (hs : List Happening) → b.past ≡ a.past ++ hs → Shows budget q a b es hs o

-- each descriptor of the cache stood there before, or what the wire added told it
abbrev pub Learned : Stands → Stands → List Entry → List Entry → Type 0
Learned a b es fs = (hs : List Happening) → b.past ≡ a.past ++ hs → AreKnown (known_after (descs_in es) hs) fs
