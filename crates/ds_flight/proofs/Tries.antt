-- The step that used up the budget was a miss.
use Rattle.std.proofs.Common.{◌≡◌, ◌⊎◌, ℕ, ◌<◌, ◌≤◌, nat_lt, true, false, List, [], ◌∷◌, map, inl, inr, refl, ap, subst, arith}
use Rattle.ds_base.proofs.SmallFacts.{ge_of, lt_of}
use Rattle.ds_desc.specs.declared.meta.Looked.TheVariants as Looked
use Rattle.ds_retry.specs.Counted.{Counts}
use Rattle.ds_rule.specs.declared.answer.Answer.TheVariants.{Done, Failed, Refused, Lost}
use Rattle.ds_rule.specs.declared.event.Event.{Event}
use Rattle.ds_rule.specs.declared.journal.JournalStep.{JournalStep}
use Rattle.ds_rule.specs.declared.journal.JournalStep.TheVariants.{Look, Send}
use Rattle.ds_rule.specs.Clauses.{IsLost, IsRefused}
use Rattle.ds_rule.specs.Journal.{Happening, Moved, Did}
use Rattle.ds_flight.specs.Causes.{failed_sum, AllGoOn, GoesOn, LastMissed}
use Rattle.ds_flight.specs.Counting.{counted, counted_step}

not-both : {G : Type 0} (n b : ℕ) → n < b → b ≤ n → G
not-both n b low high = absurd (omega (arith, low, high))

at-least : (n b : ℕ) → n ≡ b → b ≤ n
at-least n b same = omega (arith, same)

missed-later : (h : Happening) (hs : List Happening) → LastMissed hs → LastMissed (h ∷ hs)
missed-later h hs l = record {
  before = h ∷ l.before;
  step = l.step;
  moves = l.moves;
  last = ap (λ zs. h ∷ zs) l.last;
  missed = l.missed;
}

missed-here : (s : JournalStep) (ms : List Event) (hs : List Happening) → hs ≡ map Moved ms → IsRefused s ⊎ IsLost s → LastMissed (Did s ∷ hs)
missed-here s ms hs moves missed = record {
  before = [];
  step = s;
  moves = ms;
  last = ap (λ zs. Did s ∷ zs) moves;
  missed = missed;
}

-- the step that uses it up is refused or lost
uses-up : (c : Counts) (s : JournalStep) → GoesOn c → (counted_step c s).budget ≤ failed_sum (counted_step c s) → IsRefused s ⊎ IsLost s
uses-up c (Look k d (Looked.Rows is)) on high = not-both (failed_sum c) c.budget on high
uses-up c (Look k d Looked.Lost) on high = inr tt
uses-up c (Send n p (Done rs)) on high = not-both (failed_sum c) c.budget on high
uses-up c (Send n p (Failed f)) on high = not-both (failed_sum c) c.budget on high
uses-up c (Send n p (Refused r)) on high = inl tt
uses-up c (Send n p Lost) on high = inr tt

-- no step comes after it
moves-alone : (c : Counts) (hs : List Happening) → c.budget ≤ failed_sum c → AllGoOn c hs → (ms : List Event) × (hs ≡ map Moved ms)
moves-alone c [] high on = ([], refl)
moves-alone c (Moved e ∷ hs) high on = let more = moves-alone c hs high on in (e ∷ more.0, ap (λ zs. Moved e ∷ zs) more.1)
moves-alone c (Did s ∷ hs) high on = not-both (failed_sum c) c.budget on.0 high

used-by : (c : Counts) (hs : List Happening) → GoesOn c → AllGoOn c hs → failed_sum (counted c hs) ≡ (counted c hs).budget → LastMissed hs
used-by c [] low on spent = not-both (failed_sum c) c.budget low (at-least (failed_sum c) c.budget spent)
used-by c (Moved e ∷ hs) low on spent = missed-later (Moved e) hs (used-by c hs low on spent)
used-by c (Did s ∷ hs) low on spent =
    let d = counted_step c s in
    elim (nat_lt (failed_sum d) d.budget) as (λ t. nat_lt (failed_sum d) d.budget ≡ t → LastMissed (Did s ∷ hs)) [
      | true ↦ λ e. missed-later (Did s) hs (used-by d hs (lt_of (failed_sum d) d.budget e) on.1 spent)
      | false ↦ λ e.
          let high = ge_of (failed_sum d) d.budget e in
          let moves = moves-alone d hs high on.1 in
          missed-here s moves.0 hs moves.1 (uses-up c s low high)
    ] refl

-- the last step was a miss, where each was made in time and the budget is used up now
pub spent-missed : (c d : Counts) (hs : List Happening) → GoesOn c → d ≡ counted c hs → AllGoOn c hs → failed_sum d ≡ d.budget → LastMissed hs
spent-missed c d hs low counts on spent = used-by c hs low on (subst (λ (n : Counts). failed_sum n ≡ n.budget) counts spent)
