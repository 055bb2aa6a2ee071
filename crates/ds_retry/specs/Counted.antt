-- How refusals and losses are counted.
use Rattle.std.specs.Prelude.{◌≡◌, ℕ, ◌+◌, ◌==◌, Bool, true, false, if◌then◌else◌, refl}

-- sends that were refused, lookups and sends that were lost, those of the lost sends that may have
-- acted, and how many refusals and losses there may be
pub record Counts : Type 0 where
  pub refused : ℕ
  pub lost : ℕ
  pub at_risk : ℕ
  pub budget : ℕ

abbrev pub first_counts : ℕ → Counts
first_counts budget = record { refused = 0; lost = 0; at_risk = 0; budget = budget }

abbrev pub one_refused : Counts → Counts
one_refused c = record { refused = c.refused + 1; lost = c.lost; at_risk = c.at_risk; budget = c.budget }

-- a loss is at risk where nobody knows whether what was lost acted
abbrev pub one_lost : Bool → Counts → Counts
one_lost risky c = record { refused = c.refused; lost = c.lost + 1; at_risk = c.at_risk + (if risky then 1 else 0); budget = c.budget }

-- the budget is used up
abbrev pub is_spent : Counts → Bool
is_spent c = (c.refused + c.lost) == c.budget

a_risky_loss : one_lost true (one_refused (first_counts 5)) ≡ record { refused = 1; lost = 1; at_risk = 1; budget = 5 }
a_risky_loss = refl

a_loss_without_risk : one_lost false (first_counts 5) ≡ record { refused = 0; lost = 1; at_risk = 0; budget = 5 }
a_loss_without_risk = refl

one_of_each_of_two : is_spent (one_lost false (one_refused (first_counts 2))) ≡ true
one_of_each_of_two = refl

not_of_three : is_spent (one_lost false (one_refused (first_counts 3))) ≡ false
not_of_three = refl
