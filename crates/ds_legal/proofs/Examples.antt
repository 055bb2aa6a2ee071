-- Worked examples of the definitions, some that hold and some that must not.
use Rattle.std.proofs.Common.{◌≡◌, ℕ, Bool, true, false, List, [], ◌∷◌, refl, Some, None, map, pos}
use Rattle.ds_base.specs.declared.value.Seq.{Seq}
use Rattle.ds_base.specs.declared.value.Value.TheVariants.{Int}
use Rattle.ds_kind.specs.declared.batch.Batch.{Batch}
use Rattle.ds_kind.specs.declared.request.Request.{Request}
use Rattle.ds_kind.specs.declared.request.Request.TheVariants.{Get, Scan, ReverseScan, Put, EndTxn}
use Rattle.ds_kind.specs.declared.illegal.Illegal.TheVariants as Breaks
use Rattle.ds_kind.specs.Numbers.{numbers_from}
use Rattle.ds_kind.specs.Parts.{parts_of}
use Rattle.ds_legal.specs.Rules.{first_illegal, empty, too_many, bad_span, end_txn_place, needs_a_txn, inconsistent_txn, inconsistent_write, limit_kind, limit_mixed, limit_order, no_txn_parts}

abbrev get_a : Request
get_a = Get (record { key = 97 ∷ [] })

abbrev put_b : Request
put_b = Put (record { key = 98 ∷ []; value = Int (pos 1) })

abbrev scan_all : Request
scan_all = Scan (record { start = []; end = 255 ∷ 255 ∷ [] })

abbrev scan_none : Request
scan_none = Scan (record { start = 98 ∷ []; end = 98 ∷ [] })

abbrev scan_back : Request
scan_back = ReverseScan (record { start = 97 ∷ []; end = 122 ∷ [] })

abbrev commit : Request
commit = EndTxn (record { key = []; commit = true; one_phase = false; parallel = false; in_flight = [] })

abbrev of_txn : List Request → Batch
of_txn requests = record { at = None; consistent = true; limit = None; requests = requests }

abbrev seq : ℕ → Seq
seq n = record { 0 = n }

-- a get takes the number before it
put_get_put : numbers_from 4 (put_b ∷ get_a ∷ put_b ∷ []) ≡ seq 5 ∷ seq 5 ∷ seq 6 ∷ []
put_get_put = refl

-- the positions of each part
abbrev positions : Bool → List Request → List (List ℕ)
positions split_end requests = map (λ p. map (λ i. i.pos) p.items) (parts_of split_end requests (numbers_from 0 requests))

end_beside_its_put : positions false (get_a ∷ put_b ∷ commit ∷ []) ≡ (0 ∷ []) ∷ (1 ∷ 2 ∷ []) ∷ []
end_beside_its_put = refl

end_split_off : positions true (get_a ∷ put_b ∷ commit ∷ []) ≡ (0 ∷ []) ∷ (1 ∷ []) ∷ (2 ∷ []) ∷ []
end_split_off = refl

two_ways : positions false (get_a ∷ scan_all ∷ scan_back ∷ []) ≡ (0 ∷ 1 ∷ []) ∷ (2 ∷ []) ∷ []
two_ways = refl

no_request : first_illegal (of_txn []) ≡ Some Breaks.Empty
unfolding empty too_many bad_span end_txn_place needs_a_txn inconsistent_txn inconsistent_write limit_kind limit_mixed limit_order no_txn_parts
no_request = refl

-- the first of two empty spans
empty_span : first_illegal (of_txn (get_a ∷ scan_none ∷ scan_none ∷ [])) ≡ Some (Breaks.BadSpan 1)
unfolding empty too_many bad_span end_txn_place needs_a_txn inconsistent_txn inconsistent_write limit_kind limit_mixed limit_order no_txn_parts
empty_span = refl

end_before_put : first_illegal (of_txn (commit ∷ put_b ∷ [])) ≡ Some (Breaks.EndTxnPlace 0)
unfolding empty too_many bad_span end_txn_place needs_a_txn inconsistent_txn inconsistent_write limit_kind limit_mixed limit_order no_txn_parts
end_before_put = refl

-- a put and a commit break no rule
put_and_commit : first_illegal (of_txn (put_b ∷ commit ∷ [])) ≡ None
unfolding empty too_many bad_span end_txn_place needs_a_txn inconsistent_txn inconsistent_write limit_kind limit_mixed limit_order no_txn_parts
put_and_commit = refl

-- but under a limit the put does
put_under_limit : first_illegal (record { at = None; consistent = true; limit = Some 1; requests = get_a ∷ put_b ∷ [] }) ≡ Some (Breaks.LimitKind 1)
unfolding empty too_many bad_span end_txn_place needs_a_txn inconsistent_txn inconsistent_write limit_kind limit_mixed limit_order no_txn_parts
put_under_limit = refl

-- a put at a stamp of its own is fine alone, and not beside a get
put_at_stamp : first_illegal (record { at = Some (record { 0 = 5 }); consistent = true; limit = None; requests = put_b ∷ [] }) ≡ None
unfolding empty too_many bad_span end_txn_place needs_a_txn inconsistent_txn inconsistent_write limit_kind limit_mixed limit_order no_txn_parts
put_at_stamp = refl

put_and_get_at_stamp : first_illegal (record { at = Some (record { 0 = 5 }); consistent = true; limit = None; requests = get_a ∷ put_b ∷ [] }) ≡ Some Breaks.NoTxnParts
unfolding empty too_many bad_span end_txn_place needs_a_txn inconsistent_txn inconsistent_write limit_kind limit_mixed limit_order no_txn_parts
put_and_get_at_stamp = refl
