-- A wire that begins a batch's block is ready for the batch.
use Rattle.std.proofs.Common.{◌≡◌, ℕ, ◌≤◌, max, Bool, true, false, not, ◌||◌, inr, List, [], ◌∷◌, length, nat_le, nat_lt, Option, Some, None, is_none, refl, sym, subst, arith}
use Rattle.std.specs.List.{list_all, list_any}
use Rattle.std.specs.Option.{option_map}
use Rattle.ds_base.proofs.SmallFacts.{and_first, and_second, lt_of, or_neither}
use Rattle.ds_base.specs.declared.value.Stamp.{Stamp}
use Rattle.ds_kind.specs.Asks.{is_end, is_get_or_scan}
use Rattle.ds_kind.specs.Parts.{requests_of}
use Rattle.ds_kind.specs.declared.batch.Batch.{Batch}
use Rattle.ds_kind.specs.declared.batch.Item.{Item}
use Rattle.ds_kind.specs.declared.request.Request.{Request}
use Rattle.ds_kind.specs.declared.request.Request.TheVariants.{Get, Scan, ReverseScan, Put, ConditionalPut, InitPut, Increment, Delete, DeleteRange, EndTxn, QueryIntent, ResolveIntent, ResolveIntentRange, AdminSplit, AdminTransferLease}
use Rattle.ds_legal.specs.Rules.{first_illegal}
use Rattle.ds_legal.proofs.LegalFacts.{legal_of}
use Rattle.ds_cell.specs.Store.{Asker, Store, StoreTxn}
use Rattle.ds_rule.specs.declared.event.Event.{Event}
use Rattle.ds_rule.specs.declared.event.Event.TheVariants.{Write, Split, Merge, Lease, Move, Stale, Abort, Arrive, LoseRequest, LoseReply, Copy, Restart}
use Rattle.ds_rule.specs.declared.event.Timed.{Timed}
use Rattle.ds_rule.specs.Admitting.{refused_by}
use Rattle.ds_rule.specs.Asking.{Asking, asking, asking_by}
use Rattle.ds_rule.specs.Blocks.{never_fall}
use Rattle.ds_rule.specs.Clauses.{Stands}
use Rattle.ds_rule.specs.Moves.{IsMove}
use Rattle.ds_rule.specs.Pieces.{Each}
use Rattle.ds_rule.specs.Plain.{asker_in}
use Rattle.ds_rule.specs.Serve.{resolves}
use Rattle.ds_rule.specs.StandsFor.{open_stamp}
use Rattle.ds_mean.specs.Means.{Means}
use Rattle.ds_mean.specs.Ready.{KeepsFloor, ReadyFor, goes_beside}
use Rattle.ds_mean.specs.Send.{HasLaw, IsProperBatch}
use Rattle.ds_mean.proofs.Asked.{IsNumbered, is-numbered}
use Rattle.ds_send.specs.Forms.{can_ask, can_send}
use Rattle.ds_replay.specs.Forming.{floor_at, goes_below, is_move, may_happen, stamp_in}
use Rattle.ds_replay.proofs.BlockOver.{IsMade}

-- ---- what happens beside it

pub move-of : (floor : ℕ) (e : Event) → is_move floor e ≡ true → IsMove floor e
move-of floor (Write k s v) h = (lt_of floor s.0 (and_first (nat_lt floor s.0) _ h), and_second (nat_lt floor s.0) _ h)
move-of floor (Split k) h = tt
move-of floor (Merge k) h = tt
move-of floor (Lease k n) h = tt
move-of floor (Move k ns) h = h
move-of floor (Stale k b) h = tt
move-of floor Abort h = tt
move-of floor (Arrive c) h = tt
move-of floor (LoseRequest c) h = cc
move-of floor (LoseReply c) h = cc
move-of floor (Copy c) h = cc
move-of floor (Restart t) h = cc

pub moves-of : (floor : ℕ) (ts : List Timed) → list_all (λ t. is_move floor t.event) ts ≡ true → Each (IsMade floor) ts
moves-of floor [] h = tt
moves-of floor (t ∷ ts) h = (move-of floor t.event (and_first (is_move floor t.event) _ h), moves-of floor ts (and_second (is_move floor t.event) _ h))

-- what a block's events keep
pub record Happens (floor : ℕ) (ts : List Timed) : Type 0 where
  pub rising : never_fall 0 ts ≡ true
  pub moves : Each (IsMade floor) ts
  pub few : nat_le (length ts) 1000 ≡ true

pub happens-of : (floor : ℕ) (ts : List Timed) → may_happen floor ts ≡ true → Happens floor ts
happens-of floor ts h =
    let both = and_second (never_fall 0 ts) _ h in
    record {
      rising = and_first (never_fall 0 ts) _ h;
      moves = moves-of floor ts (and_first (list_all (λ t. is_move floor t.event) ts) _ both);
      few = and_second (list_all (λ t. is_move floor t.event) ts) _ both;
    }

-- ---- the floor

given : (x q : Asking) → Some x ≡ Some q → x ≡ q
given x q h = cc

head-floor : (at : Option Stamp) (t : Option Asker) (b : Batch) (q : Asking) → asking_by at t b ≡ Some q → q.head.at.0 ≤ floor_at (stamp_in t) at
head-floor (Some s) None b q h = subst (λ z. z.head.at.0 ≤ s.0) (given _ q h) (omega arith)
head-floor (Some s) (Some t) b q h = subst (λ z. z.head.at.0 ≤ max t.stamp s.0) (given _ q h) (omega arith)
head-floor None None b q h = cc
head-floor None (Some t) b q h = subst (λ z. z.head.at.0 ≤ t.stamp) (given _ q h) (omega arith)

pub open-floor : (o : Option StoreTxn) (at : Option Stamp) → open_stamp o ≤ floor_at (stamp_in (option_map (λ t. t.asker) o)) at
open-floor None at = omega arith
open-floor (Some t) None = omega arith
open-floor (Some t) (Some s) = omega arith

below-test : (any low : Bool) → (not any || low) ≡ true → any ≡ true → low ≡ true
below-test true low h e = h
below-test false low h e = cc

pub keeps-floor : (at : Option Stamp) (rs : List Request) (o : Option StoreTxn) → goes_below (stamp_in (option_map (λ t. t.asker) o)) at rs ≡ true → KeepsFloor at rs o
keeps-floor None rs o h = tt
keeps-floor (Some s) rs None h = tt
keeps-floor (Some s) rs (Some t) h = (
  and_first (list_all goes_beside rs) _ h,
  λ reads. lt_of s.0 t.asker.stamp (below-test (list_any is_get_or_scan rs) (nat_lt s.0 t.asker.stamp) (and_second (list_all goes_beside rs) _ h) reads),
)

-- ---- the batch

request-law : (at : Option Stamp) (r : Request) → can_ask at r ≡ true → (is_end r ≡ false) × (resolves r ≡ None)
request-law None (Get a) h = (refl, refl)
request-law None (Scan a) h = (refl, refl)
request-law None (ReverseScan a) h = (refl, refl)
request-law None (Put a) h = cc
request-law None (ConditionalPut a) h = cc
request-law None (InitPut a) h = cc
request-law None (Increment a) h = cc
request-law None (Delete a) h = cc
request-law None (DeleteRange a) h = cc
request-law None (EndTxn a) h = cc
request-law None (QueryIntent a) h = cc
request-law None (ResolveIntent a) h = cc
request-law None (ResolveIntentRange a) h = cc
request-law None (AdminSplit a) h = cc
request-law None (AdminTransferLease a) h = cc
request-law (Some s) (Get a) h = (refl, refl)
request-law (Some s) (Scan a) h = (refl, refl)
request-law (Some s) (ReverseScan a) h = (refl, refl)
request-law (Some s) (Put a) h = (refl, refl)
request-law (Some s) (ConditionalPut a) h = (refl, refl)
request-law (Some s) (InitPut a) h = (refl, refl)
request-law (Some s) (Increment a) h = (refl, refl)
request-law (Some s) (Delete a) h = (refl, refl)
request-law (Some s) (DeleteRange a) h = (refl, refl)
request-law (Some s) (EndTxn a) h = cc
request-law (Some s) (QueryIntent a) h = cc
request-law (Some s) (ResolveIntent a) h = cc
request-law (Some s) (ResolveIntentRange a) h = cc
request-law (Some s) (AdminSplit a) h = (refl, refl)
request-law (Some s) (AdminTransferLease a) h = (refl, refl)

no-end : (at : Option Stamp) (rs : List Request) → list_all (can_ask at) rs ≡ true → list_any is_end rs ≡ false
no-end at [] h = refl
no-end at (r ∷ rs) h =
    or_neither (is_end r) (list_any is_end rs) (request-law at r (and_first (can_ask at r) _ h)).0 (no-end at rs (and_second (can_ask at r) _ h))

none-resolve : (at : Option Stamp) (js : List Item) → list_all (can_ask at) (requests_of js) ≡ true → Each (λ i. resolves i.request ≡ None) js
none-resolve at [] h = tt
none-resolve at (j ∷ js) h =
    ((request-law at j.request (and_first (can_ask at j.request) _ h)).1, none-resolve at js (and_second (can_ask at j.request) _ h))

none-limit : (o : Option ℕ) → is_none o ≡ true → o ≡ None
none-limit None h = refl
none-limit (Some n) h = cc

-- all that the law of a sender asks
pub record CanAsk (a : Stands) (p : Store) (b : Batch) (q : Asking) : Type 0 where
  pub proper : IsProperBatch b
  pub law : HasLaw p b q
  pub ready : ReadyFor a p b q

pub can-ask : (a : Stands) (p : Store) (b : Batch) (q : Asking) → first_illegal b ≡ None → can_send b ≡ true → refused_by b.at b.requests p.txn ≡ None → goes_below (stamp_in (asker_in p)) b.at b.requests ≡ true → Means a.world p → a.floor ≡ floor_at (stamp_in (asker_in p)) b.at → asking (asker_in p) b ≡ Some q → CanAsk a p b q
can-ask a p b q none can admits below means floor asks =
    let legal = legal_of b none in
    let all = and_second (is_none b.limit) _ can in
    let n : IsNumbered b.at p.txn b q = is-numbered b.at p.txn b q asks in
    let high = head-floor b.at (asker_in p) b q asks in
    let over = open-floor p.txn b.at in
    record {
      proper = record { some = legal.some; proper = legal.spans };
      law = record {
        unlimited = none-limit b.limit (and_first (is_none b.limit) _ can);
        endless = no-end b.at b.requests all;
        resolved = inr (none-resolve b.at q.items (subst (λ rs. list_all (can_ask b.at) rs ≡ true) (sym n.requests) all));
      };
      ready = record {
        means = means;
        asks = asks;
        admits = admits;
        beside = keeps-floor b.at b.requests p.txn below;
        floor = omega (arith, high, floor);
        open_floor = omega (arith, over, floor);
      };
    }
