-- Worked cases at one key, and of a batch's failures, some that hold and some that must not.
use Rattle.std.proofs.Common.{◌≡◌, ℕ, ◌<◌, inl, inr, List, [], ◌∷◌, Some, None, refl, pos, arith}
use Rattle.ds_base.specs.declared.value.Value.TheVariants.{Int}
use Rattle.ds_kind.specs.declared.batch.Head.{Head}
use Rattle.ds_kind.specs.declared.batch.Item.{Item}
use Rattle.ds_kind.specs.declared.reply.Failure.TheVariants as Failure
use Rattle.ds_rule.specs.Asking.{Fails, ask_all}
use Rattle.ds_kind.specs.declared.request.Request.TheVariants.{Get, Put}
use Rattle.ds_cell.specs.declared.entry.At.{At}
use Rattle.ds_cell.specs.declared.entry.Version.{Version}
use Rattle.ds_cell.specs.declared.verdict.Bit.TheVariants.{Nothing, Value as Shown}
use Rattle.ds_cell.specs.declared.verdict.ActFault.TheVariants.{TooOld}
use Rattle.ds_cell.specs.Content.{Content, no_content}
use Rattle.ds_rule.specs.Turn.{TurnFails, TurnGives, after_items, turn_of}
use Rattle.ds_turn.specs.Course.{ByBatch, ByOther, Course, batch_items, course_after, course_turn, foreign_writes, with_versions}
use Rattle.ds_turn.specs.Cuts.{ActsAs}
use Rattle.ds_turn.specs.KeyIs.{KeyIs}
use Rattle.ds_turn.specs.Partway.{NumbersInOrder}
use Rattle.ds_turn.specs.Progress.{GoesTo}
use Rattle.ds_turn.specs.Settling.{piece_after}

-- a transaction at the stamp 5, and no transaction at the same stamp
abbrev of_txn : At
of_txn = record { stamp = record { 0 = 5 }; txn = record { 0 = 1 }; seq = record { 0 = 0 }; epoch = 0 }

abbrev of_none : At
of_none = record { stamp = record { 0 = 5 }; txn = record { 0 = 0 }; seq = record { 0 = 0 }; epoch = 0 }

abbrev puts : ℕ → ℕ → Item
puts p n = record { pos = p; seq = record { 0 = n }; request = Put (record { key = 97 ∷ []; value = Int (pos n) }) }

abbrev gets : ℕ → ℕ → Item
gets p n = record { pos = p; seq = record { 0 = n }; request = Get (record { key = 97 ∷ [] }) }

abbrev foreign : ℕ → Version
foreign s = record { stamp = record { 0 = s }; value = Some (Int (pos 99)) }

-- a foreign write beside the intent waits, and the items answer as they do alone
abbrev one_course : Course
one_course = ByBatch (puts 0 1) ∷ ByOther (foreign 7) ∷ ByBatch (gets 1 1) ∷ ByBatch (puts 2 2) ∷ []

beside : course_turn of_txn one_course no_content ≡ turn_of of_txn (batch_items one_course) no_content
beside = refl

it_waits : (course_after of_txn one_course no_content).waiting ≡ foreign 7 ∷ []
it_waits = refl

-- a foreign write first: too old, and alone it would not be
abbrev too_late : Course
too_late = ByBatch (gets 0 0) ∷ ByOther (foreign 7) ∷ ByBatch (puts 1 1) ∷ ByOther (foreign 9) ∷ []

refused_in_the_world : course_turn of_txn too_late no_content ≡ TurnFails 1 (TooOld (record { 0 = 7 }))
refused_in_the_world = refl

refused_after_the_writes_so_far : turn_of of_txn (batch_items too_late) (with_versions (foreign 7 ∷ []) no_content) ≡ TurnFails 1 (TooOld (record { 0 = 7 }))
refused_after_the_writes_so_far = refl

not_refused_alone : turn_of of_txn (batch_items too_late) no_content ≡ TurnFails 1 (TooOld (record { 0 = 7 })) → ⊥
not_refused_alone h = cc

-- with all foreign writes of the course, also those after the refusal, another stamp would be named
another_stamp : turn_of of_txn (batch_items too_late) (with_versions (foreign_writes too_late) no_content) ≡ TurnFails 1 (TooOld (record { 0 = 9 }))
another_stamp = refl

-- what was accepted before a foreign write would be refused after it: so foreign writes at other keys must not come first
accepted_before : course_turn of_txn one_course no_content ≡ TurnGives ((0, Nothing) ∷ (1, Shown (Some (Int (pos 1)))) ∷ (2, Nothing) ∷ []) (record { seq = record { 0 = 1 }; value = Some (Int (pos 1)) } ∷ record { seq = record { 0 = 2 }; value = Some (Int (pos 2)) } ∷ [])
accepted_before = refl

refused_after : turn_of of_txn (batch_items one_course) (with_versions (foreign_writes one_course) no_content) ≡ TurnFails 0 (TooOld (record { 0 = 7 }))
refused_after = refl

-- where stamps don't rise, what waits in the world stands in the way there and not in the store
abbrev another_intent : Content
another_intent = record { versions = foreign 9 ∷ foreign 1 ∷ []; owner = 2; epoch = 0; history = record { seq = record { 0 = 1 }; value = None } ∷ []; waiting = foreign 7 ∷ [] }

refused_in_disorder : course_turn of_txn (ByBatch (puts 0 1) ∷ []) another_intent ≡ TurnFails 0 (TooOld (record { 0 = 7 }))
refused_in_disorder = refl

not_in_the_store : turn_of of_txn (puts 0 1 ∷ []) (with_versions (foreign 7 ∷ []) (record another_intent { waiting = [] })) ≡ TurnFails 0 (TooOld (record { 0 = 7 })) → ⊥
not_in_the_store h = cc

-- a piece without a transaction that is asked again, after it was settled, finds its own version in its way
settled_and_again : turn_of of_none (puts 0 1 ∷ []) (piece_after of_none (puts 0 1 ∷ []) no_content) ≡ TurnFails 0 (TooOld (record { 0 = 5 }))
settled_and_again = refl

-- two requests of one number: a read that comes before the write under its number sees that write when it is asked again
read_first : turn_of of_txn (gets 0 1 ∷ []) no_content ≡ TurnGives ((0, Shown None) ∷ []) []
read_first = refl

read_again : turn_of of_txn (gets 0 1 ∷ []) (after_items of_txn (gets 0 1 ∷ puts 1 1 ∷ []) no_content) ≡ TurnGives ((0, Shown (Some (Int (pos 1)))) ∷ []) []
read_again = refl

-- two keys, each with a foreign write after the first item acted at 97 and before the second acts at 98: with both made
-- first, the batch fails at the first item; with that of 98 alone, it fails as in the world
abbrev two_keys : List Item
two_keys = record { pos = 0; seq = record { 0 = 1 }; request = Put (record { key = 97 ∷ []; value = Int (pos 1) }) } ∷ record { pos = 1; seq = record { 0 = 2 }; request = Put (record { key = 98 ∷ []; value = Int (pos 2) }) } ∷ []

abbrev of_head : Head
of_head = record { at = record { 0 = 5 }; txn = Some (record { 0 = 1 }); left = None; epoch = 0 }

fails_at_the_first : ask_all of_head two_keys ((97 ∷ [], with_versions (foreign 7 ∷ []) no_content) ∷ (98 ∷ [], with_versions (foreign 7 ∷ []) no_content) ∷ []) ≡ Fails (Failure.TooOld 0 (97 ∷ []) (record { 0 = 7 }))
fails_at_the_first = refl

fails_at_the_second : ask_all of_head two_keys ((98 ∷ [], with_versions (foreign 7 ∷ []) no_content) ∷ []) ≡ Fails (Failure.TooOld 1 (98 ∷ []) (record { 0 = 7 }))
fails_at_the_second = refl

-- what stands at a key in the world, with a write that waits, and in the store

abbrev waits_at : ℕ → Content
waits_at s = record { versions = foreign 3 ∷ []; owner = 1; epoch = 0; history = record { seq = record { 0 = 1 }; value = None } ∷ []; waiting = foreign s ∷ [] }

abbrev made_at : ℕ → Content
made_at s = record { versions = foreign 3 ∷ foreign s ∷ []; owner = 1; epoch = 0; history = record { seq = record { 0 = 1 }; value = None } ∷ []; waiting = [] }

-- above the stamp, what waits in the world is a version in the store
stands_for_it : KeyIs 5 (waits_at 7) (made_at 7)
stands_for_it = record {
  rises = (tt, tt);
  versions = refl;
  none_waits = refl;
  history = refl;
  whose = inr (refl, refl);
  waits = λ e. cc;
  above = (omega arith, tt);
}

-- at the stamp or below it must not wait, and in the store nothing waits
too_low : KeyIs 5 (waits_at 4) (made_at 4) → ⊥
too_low h = let low : 5 < 4 = h.above.0 in omega (arith, low)

still_waiting : KeyIs 5 (waits_at 7) (waits_at 7) → ⊥
still_waiting h = let same : foreign 7 ∷ [] ≡ [] = h.none_waits in cc

-- a read may share its number with the write before it, but not with the write after it
write_then_read : NumbersInOrder (puts 0 1 ∷ gets 1 1 ∷ puts 2 2 ∷ [])
write_then_read = ((λ e. cc, (λ e. omega arith, tt)), ((λ e. omega arith, tt), (tt, tt)))

read_then_write : NumbersInOrder (gets 0 1 ∷ puts 1 1 ∷ []) → ⊥
read_then_write h = let low : 1 < 1 = h.0.0 refl in omega (arith, low)

-- a put whose reply was lost acts again, with a foreign write between, and then the get acts
lost_and_again : GoesTo (ByBatch (puts 0 1) ∷ ByOther (foreign 7) ∷ ByBatch (puts 0 1) ∷ ByBatch (gets 1 1) ∷ []) [] (puts 0 1 ∷ gets 1 1 ∷ []) (puts 0 1 ∷ gets 1 1 ∷ [])
lost_and_again =
    let same : (i : Item) → ActsAs i i = λ i. record { position = refl; number = refl; deed = refl } in
    inr (same (puts 0 1), inl (record { first = puts 0 1; one = inl refl; same = same (puts 0 1) }, inr (same (gets 1 1), refl)))

-- the get may not act before the put
not_yet : GoesTo (ByBatch (gets 1 1) ∷ []) [] (puts 0 1 ∷ gets 1 1 ∷ []) (gets 1 1 ∷ []) → ⊥
not_yet (inl again) = again.0.one
not_yet (inr next) = let same : ◌≡◌ {A = ℕ} 1 0 = next.0.position in cc
