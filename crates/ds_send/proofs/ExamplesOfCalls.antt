-- Worked examples of what one call of a sender did and why it was answered so, some that hold and some that must not.
use Rattle.std.proofs.Common.{◌≡◌, ℕ, List, [], ◌∷◌, Some, None, inl, refl, subst, arith}
use Rattle.ds_base.specs.declared.value.Dir.TheVariants.{Forward}
use Rattle.ds_cache.specs.Entries.{Entry}
use Rattle.ds_desc.specs.declared.meta.Looked.TheVariants as Looked
use Rattle.ds_desc.specs.declared.refusal.Refusal.TheVariants.{NotFound}
use Rattle.ds_kind.specs.declared.illegal.Illegal.TheVariants.{Empty}
use Rattle.ds_kind.specs.declared.batch.Piece.{Piece}
use Rattle.ds_rule.specs.declared.answer.Answer.TheVariants.{Lost, Refused}
use Rattle.ds_rule.specs.declared.answer.Outcome.TheVariants as Outcome
use Rattle.ds_rule.specs.declared.journal.JournalStep.TheVariants.{Look, Send}
use Rattle.ds_rule.specs.Asking.{Asking}
use Rattle.ds_rule.specs.Journal.{Happening, Did}
use Rattle.ds_flight.specs.Goes.{known_after}
use Rattle.ds_flight.specs.Ran.{AreKnown}
use Rattle.ds_rule.proofs.Examples.{alone_at, asked_by, get, key_a, low, piece, put}
use Rattle.ds_rule.proofs.ExamplesOfJournals.{get_piece, wire}
use Rattle.ds_send.specs.Asked.{last_in}
use Rattle.ds_send.specs.Calls.{FlewOrBroke, Learned, StaysIf}
use Rattle.ds_send.specs.Causes.{CauseOf}
use Rattle.ds_send.proofs.Calling.{broke-none}
use Rattle.ds_send.proofs.Showing.{shown-by}

-- a get of a, and a put there, at a stamp
abbrev a_get : Asking
a_get = asked_by (alone_at 20) (get key_a ∷ [])

abbrev a_put : Asking
a_put = asked_by (alone_at 20) (put key_a 5 ∷ [])

-- ---- causes

-- its lookup is lost, its send is refused, and lost
abbrev three_missed : List Happening
three_missed = Did (Look key_a Forward Looked.Lost) ∷ Did (Send 1 get_piece (Refused NotFound)) ∷ Did (Send 1 get_piece Lost) ∷ []

three_use_up_a_budget_of_three : CauseOf 3 a_get [] three_missed (Outcome.RetryExhausted 1 2)
three_use_up_a_budget_of_three = (
  refl,
  record {
    none_failed = refl;
    used = record { refusals = refl; losses = refl; sum = refl };
    left = (key_a, 0, [], refl);
  },
)

not_of_four : CauseOf 4 a_get [] three_missed (Outcome.RetryExhausted 1 2) → ⊥
not_of_four h = let sum : 3 ≡ 4 = h.1.used.sum in omega (arith, sum)

not_two_refusals : CauseOf 3 a_get [] three_missed (Outcome.RetryExhausted 2 1) → ⊥
not_two_refusals h = let one : 1 ≡ 2 = h.1.used.refusals in omega (arith, one)

a_get_is_never_in_doubt_by_a_loss : CauseOf 3 a_get [] three_missed (Outcome.Ambiguous 1) → ⊥
a_get_is_never_in_doubt_by_a_loss h = let none : 1 ≡ 0 = h.lost_is in omega (arith, none)

-- a put whose send is lost
abbrev put_piece : Piece
put_piece = piece (alone_at 20) 1 (put key_a 5 ∷ [])

abbrev a_loss : List Happening
a_loss = Did (Send 1 put_piece Lost) ∷ []

a_put_is_in_doubt_by_its_loss : CauseOf 3 a_put [] a_loss (Outcome.Ambiguous 1)
a_put_is_in_doubt_by_its_loss = record {
  lost_is = refl;
  why = inl (record {
    none_failed = refl;
    within = omega arith;
    at_risk = record { piece = put_piece; risky = refl; alone = refl; last = record { before = []; node = 1; last = refl; unended = tt } };
    left = (key_a, 0, [], refl);
  });
}

not_by_two : CauseOf 3 a_put [] a_loss (Outcome.Ambiguous 2) → ⊥
not_by_two h = let one : 2 ≡ 1 = h.lost_is in omega (arith, one)

it_has_not_used_up_its_budget : CauseOf 1 a_put [] a_loss (Outcome.RetryExhausted 0 1) → ⊥
it_has_not_used_up_its_budget h = let one : 1 ≡ 0 = h.0 in omega (arith, one)

-- ---- calls

-- memory may be wanting before anything is sent
nothing_is_sent_without_memory : FlewOrBroke 3 a_get wire wire [] [] Outcome.OutOfMemory
nothing_is_sent_without_memory = broke-none 3 a_get wire [] (omega arith)

-- but no budget is used up by nothing
no_budget_is_used_up_by_nothing : FlewOrBroke 3 a_get wire wire [] [] (Outcome.RetryExhausted 0 0) → ⊥
no_budget_is_used_up_by_nothing h =
    let why = (shown-by 3 a_get wire wire [] [] (Outcome.RetryExhausted 0 0) tt h [] refl).cause in
    let sum : 0 ≡ 3 = why.1.used.sum in
    omega (arith, sum)

-- a cache learns what a lookup tells, and nothing that wasn't told

abbrev an_entry : Entry
an_entry = (1, low.info)

abbrev a_lookup : Happening
a_lookup = Did (Look key_a Forward (Looked.Rows (low.info ∷ [])))

a_cache_learns_what_a_lookup_tells : Learned wire (record wire { past = a_lookup ∷ [] }) [] (an_entry ∷ [])
a_cache_learns_what_a_lookup_tells hs grown = subst (λ z. AreKnown (known_after [] z) (an_entry ∷ [])) grown (inl refl, tt)

nothing_else : Learned wire wire [] (an_entry ∷ []) → ⊥
nothing_else h = (h [] refl).0

-- a batch that breaks a rule leaves a sender as it was

nothing_changes : StaysIf {X = ℕ} (Some Empty) 5 5
nothing_changes = refl

not_the_sender : StaysIf {X = ℕ} (Some Empty) 5 6 → ⊥
not_the_sender h = omega (arith, h)

-- a batch with a stamp is numbered from the beginning, one of the transaction after the last number given
with_a_stamp_from_the_beginning : last_in (Some (record { 0 = 20 })) None ≡ record { 0 = 0 }
with_a_stamp_from_the_beginning = refl

after_the_last_number : last_in None (Some (record { number = record { 0 = 1 }; stamp = record { 0 = 10 }; epoch = 0; last = record { 0 = 4 } })) ≡ record { 0 = 4 }
after_the_last_number = refl
