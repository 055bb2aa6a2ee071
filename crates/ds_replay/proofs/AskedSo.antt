-- A batch is answered in its block, as its calls do it one after another.
use Rattle.std.proofs.Common.{◌≡◌, ℕ, List, [], ◌∷◌, ◌++◌, Option, Some, None, Result, Ok, Err, OnOk, IfOk, refl, sym, ap, ◌∙◌, subst}
use Rattle.std.specs.declared.alloc.AllocError.{AllocError}
use Rattle.ds_base.proofs.SmallFacts.{some_same}
use Rattle.ds_base.specs.declared.value.Stamp.{Stamp}
use Rattle.ds_kind.specs.declared.batch.Batch.{Batch}
use Rattle.ds_kind.specs.declared.illegal.Illegal.{Illegal}
use Rattle.ds_legal.specs.Rules.{first_illegal}
use Rattle.ds_cell.specs.Store.{Asker}
use Rattle.ds_coord.specs.declared.txn.Txn.{Txn}
use Rattle.ds_coord.specs.Client.{asker_in, noted, refusal_by}
use Rattle.ds_rule.specs.declared.answer.Outcome.{Outcome}
use Rattle.ds_rule.specs.declared.event.Block.{Block}
use Rattle.ds_rule.specs.declared.journal.Entry.{Entry}
use Rattle.ds_rule.specs.declared.journal.Entry.TheVariants as entries
use Rattle.ds_rule.specs.declared.journal.JournalStep.{JournalStep}
use Rattle.ds_rule.specs.Asking.{Asking, asking}
use Rattle.ds_rule.specs.Clauses.{Stands}
use Rattle.ds_rule.specs.Law.{IsGiven}
use Rattle.ds_rule.specs.Plain.{if_of_txn}
use Rattle.ds_cache.specs.Entries as Entries
use Rattle.ds_mean.specs.Send.{DidSend}
use Rattle.ds_send.specs.Calls.{IsShown, Ruled, WhereAsked, descs_in}
use Rattle.ds_sim.specs.State.{Ended}
use Rattle.ds_replay.specs.Asked.{AskedBy, Done, begun_block, refused_as}
use Rattle.ds_replay.specs.Forming.{floor_at, stamp_in}
use Rattle.ds_replay.specs.Sends.{DoneBy, SentBy}

-- ---- what it is answered

-- its transaction refuses it
pub refused-done : (t : Option Txn) (b : Batch) (budget : ℕ) (a : Stands) (o r : Outcome) → Some r ≡ refusal_by b.at b.requests t → o ≡ refused_as (first_illegal b) r → Done t b budget a a o
refused-done t b budget a o r refuses is = λ q asks. by q (first_illegal b) (refusal_by b.at b.requests t) refuses is
  where
    by : (q : Asking) (i : Option Illegal) (x : Option Outcome) → Some r ≡ x → o ≡ refused_as i r → DoneBy i x budget q a a o
    by q (Some i) x h e = (e, refl)
    by q None None h e = cc
    by q None (Some y) h e = (e ∙ some_same r y h, refl)

-- it is sent

sent-by : (budget : ℕ) (q : Asking) (a m : Stands) (es : List Entries.Entry) (o : Outcome) → DidSend budget q a m o → IsShown budget q a m es o → SentBy budget q a m o
sent-by budget q a m es o did shown =
    let s = shown did.added did.grown in
    record {
      did = did;
      losses = s.loses;
      parts = s.parts;
      known = descs_in es;
      cause = s.cause;
    }

pub sent-done :
    (t : Option Txn) (b : Batch) (budget : ℕ) (a m : Stands) (es : List Entries.Entry) (o : Outcome) (x : Option Asker)
    → None ≡ refusal_by b.at b.requests t → x ≡ asker_in t → Ruled (first_illegal b) o a m
    → (IsGiven o → WhereAsked (first_illegal b) (asking x b) (λ q. DidSend budget q a m o))
    → (IsGiven o → WhereAsked (first_illegal b) (asking x b) (λ q. IsShown budget q a m es o)) → IsGiven o → Done t b budget a m o
sent-done t b budget a m es o x admits who ruled did shown given = λ q asks. by q asks (first_illegal b) (refusal_by b.at b.requests t) refl admits ruled
  where
    by : (q : Asking) → asking (asker_in t) b ≡ Some q → (i : Option Illegal) (y : Option Outcome) → first_illegal b ≡ i → None ≡ y → Ruled i o a m → DoneBy i y budget q a m o
    by q asks (Some i) y is h r = r
    by q asks None None is h r =
        let here : asking x b ≡ Some q = subst (λ z. asking z b ≡ Some q) (sym who) asks in
        sent-by budget q a m es o (did given is q here) (shown given is q here)
    by q asks None (Some y) is h r = cc

-- ---- and noted

pub asked-oks : {X : Type 0} (r : Result X AllocError) (a s m c : Stands) (budget : ℕ) (t u : Option Txn) (b : Batch) (block : Block) (n : ℕ) (log after : List Entry) (floor : Stamp) (o given : Outcome) (steps : List JournalStep) → floor.0 ≡ floor_at (stamp_in (asker_in t)) b.at → s ≡ record a { past = []; floor = floor.0; ahead = block.picks; block = block.events } → (IsGiven o → Done t b budget s m o) → given ≡ o → IsGiven given → m.lost ≡ 0 → Ended steps m c → u ≡ if_of_txn b.at (noted given None) t → OnOk r (after ≡ log ++ entries.Batch n steps given ∷ []) → IfOk r (λ _. AskedBy a c budget t u b block n log after)
asked-oks (Err e) a s m c budget t u b block n log after floor o given steps high begun done same sure still ended noted_so logged = tt
asked-oks (Ok x) a s m c budget t u b block n log after floor o given steps high begun done same sure still ended noted_so logged =
    let there : s ≡ begun_block a t b block = begun ∙ ap (λ f. record a { past = []; floor = f; ahead = block.picks; block = block.events }) high in
    record {
      outcome = given;
      steps = steps;
      mid = m;
      given = sure;
      done = subst (λ z. Done t b budget z m given) there (subst (Done t b budget s m) (sym same) (done (subst IsGiven same sure)));
      still = still;
      ended = ended;
      noted_so = noted_so;
      logged = logged;
    }
