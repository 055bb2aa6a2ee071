-- Worked examples of records by their numbers, some that hold and some that must not.
use Rattle.std.proofs.Common.{◌≡◌, ◌<◌, true, not, List, [], ◌∷◌, Some, refl, arith}
use Rattle.std.specs.Option.{is_some}
use Rattle.ds_rule.specs.declared.record.RecordStatus.TheVariants.{Pending, Committed, Aborted}
use Rattle.ds_rule.specs.declared.record.TxnRecord.{TxnRecord}
use Rattle.ds_rule.specs.Records.{record_of, with_record, with_status, RisesIf}
use Rattle.ds_rule.proofs.Examples.{differs, txn_record}

abbrev three : List TxnRecord
three = txn_record 1 Pending ∷ txn_record 3 Aborted ∷ txn_record 4 Pending ∷ []

abbrev twice : List TxnRecord
twice = txn_record 5 Pending ∷ txn_record 5 Aborted ∷ []

a_record_is_found_by_its_number : record_of 3 three ≡ Some (txn_record 3 Aborted)
a_record_is_found_by_its_number = refl

the_first_of_two_is_found : record_of 5 twice ≡ Some (txn_record 5 Pending)
the_first_of_two_is_found = refl

the_next_isnt_found_in_its_place : record_of 2 three ≡ Some (txn_record 3 Aborted) → ⊥
the_next_isnt_found_in_its_place h = differs h (λ t. not (is_some t)) refl refl

one_record_gets_the_status : with_record 1 (with_status Committed) three ≡ txn_record 1 Committed ∷ txn_record 3 Aborted ∷ txn_record 4 Pending ∷ []
one_record_gets_the_status = refl

the_first_of_two_gets_it : with_record 5 (with_status Committed) twice ≡ txn_record 5 Committed ∷ txn_record 5 Aborted ∷ []
the_first_of_two_gets_it = refl

without_a_record_nothing_changes : with_record 2 (with_status Committed) three ≡ three
without_a_record_nothing_changes = refl

these_numbers_rise : RisesIf true three
these_numbers_rise = ((omega arith, (omega arith, tt)), ((omega arith, tt), (tt, tt)))

what_stands_twice_doesnt_rise : RisesIf true twice → ⊥
what_stands_twice_doesnt_rise h = let low : 5 < 5 = h.0.0 in omega arith
