-- Cases that must not hold.
use Rattle.std.proofs.Common.{◌≡◌, ◌⊎◌, ℕ, ◌<◌, nat_eq, Bool, true, false, List, [], ◌∷◌, ◌++◌, map, Option, Some, None, inl, inr, refl, sym, subst, arith}
use Rattle.ds_base.proofs.TestFacts.{differs}
use Rattle.ds_base.specs.Order.{key_le}
use Rattle.ds_desc.specs.declared.desc.RangeDesc.{RangeDesc}
use Rattle.ds_kind.specs.Request.{span_of}
use Rattle.ds_kind.specs.declared.batch.Item.{Item}
use Rattle.ds_kind.specs.declared.reply.Failure.{Failure}
use Rattle.ds_rule.specs.declared.answer.Answer.TheVariants.{Done, Failed, Lost}
use Rattle.ds_rule.specs.declared.event.Event.{Event}
use Rattle.ds_rule.specs.declared.journal.JournalStep.{JournalStep}
use Rattle.ds_rule.specs.declared.journal.JournalStep.TheVariants.{Send}
use Rattle.ds_rule.specs.Clauses.{IsLost, IsRefused}
use Rattle.ds_rule.specs.Journal.{Happening, Moved, Did}
use Rattle.ds_flight.specs.Causes.{its_refusal, one_of, GoesOn, IsDone, IsExhausted, LastMissed, LastSend}
use Rattle.ds_flight.specs.Counting.{a_get, piece_of}
use Rattle.ds_flight.specs.Ends.{EndsNot, NoneEnds}
use Rattle.ds_flight.specs.Flights.{Flight, PieceOfPart, one_scan, its_front}
use Rattle.ds_flight.specs.Flown.{Begun}
use Rattle.ds_flight.specs.Ran.{Course}
use Rattle.ds_flight.proofs.Joins.{ran-none}

-- what must lie in one range isn't cut
abbrev ends_in_b : List Item → Bool
ends_in_b [] = false
ends_in_b (i ∷ is) = key_le (span_of i.request).end (98 ∷ [])

pub not_where_it_must_lie_in_one : PieceOfPart (one_scan (Some (record { start = 97 ∷ []; end = 99 ∷ [] }))) None its_front → ⊥
not_where_it_must_lie_in_one h = differs h.of.all (λ is. ends_in_b is) refl refl

pub not_below_the_budget : IsExhausted (one_of 2) its_refusal 1 0 → ⊥
not_below_the_budget h = differs h.spent (λ n. nat_eq n 1) refl refl

pub not_done_at_the_budget : IsDone (one_scan None) None (one_of 1) [] [] None → ⊥
not_done_at_the_budget h = let low : 1 < 1 = h.goes_on in omega (arith, low)

-- a send after a failure is not the last of a flight

abbrev its_failure : Happening
its_failure = Did (Send 1 (piece_of None a_get) (Failed Failure.Aborted))

abbrev its_loss : Happening
its_loss = Did (Send 1 (piece_of None a_get) Lost)

pub a_send_may_be_lost_before_it_fails : LastSend (piece_of None a_get) (Failed Failure.Aborted) (its_loss ∷ its_failure ∷ [])
a_send_may_be_lost_before_it_fails = record { before = its_loss ∷ []; node = 1; last = refl; unended = (refl, tt) }

pub not_after_a_failure : LastSend (piece_of None a_get) Lost (its_failure ∷ its_loss ∷ []) → ⊥
not_after_a_failure h = by h.before h.node h.last h.unended
  where
    by : (before : List Happening) (n : ℕ) → its_failure ∷ its_loss ∷ [] ≡ before ++ Did (Send n (piece_of None a_get) Lost) ∷ [] → NoneEnds before → ⊥
    by [] n last none = cc
    by (x ∷ xs) n last none =
        let same : its_failure ≡ x = cc in
        let bad : true ≡ false = subst EndsNot (sym same) none.0 in
        cc

-- nothing was refused or lost

abbrev its_reply : JournalStep
its_reply = Send 1 (piece_of None a_get) (Done [])

never-nothing : (before : List Happening) (s : JournalStep) (ms : List Event) → [] ≡ before ++ Did s ∷ map Moved ms → ⊥
never-nothing [] s ms is = cc
never-nothing (x ∷ xs) s ms is = cc

pub not_where_it_was_answered : LastMissed (Did its_reply ∷ []) → ⊥
not_where_it_was_answered h = by h.before h.step h.moves h.last h.missed
  where
    by : (before : List Happening) (s : JournalStep) (ms : List Event) → Did its_reply ∷ [] ≡ before ++ Did s ∷ map Moved ms → IsRefused s ⊎ IsLost s → ⊥
    by [] s ms last missed =
        let same : its_reply ≡ s = cc in
        elim (subst (λ t. IsRefused t ⊎ IsLost t) (sym same) missed) [ inl e ↦ e | inr e ↦ e ]
    by (x ∷ xs) s ms last missed = never-nothing xs s ms cc

-- before memory was wanted nothing may have happened yet, but the budget isn't used up

pub nothing_began : (f : Flight) (known : List RangeDesc) (left : Option ℕ) (a : Course) → GoesOn a.counts → Begun f known left a a []
nothing_began f known left a on = record {
  ran = ran-none f known left a;
  covers = tt;
  picks = inl refl;
  unended = tt;
  goes_on = on;
}

pub not_at_the_budget :
    (f : Flight) (known : List RangeDesc) (left : Option ℕ) (a b : Course) (hs : List Happening) → b.counts ≡ record { refused = 1; lost = 1; at_risk = 0; budget = 2 } → Begun f known left a b hs → ⊥
not_at_the_budget f known left a b hs is begun = let low : 2 < 2 = subst GoesOn is begun.goes_on in omega (arith, low)
