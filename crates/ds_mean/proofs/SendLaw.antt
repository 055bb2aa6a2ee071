-- The law of a sender: what one call did means the plain answer.
use Rattle.std.proofs.Common.{◌≡◌, ℕ, ◌<◌, ◌≤◌, Bool, true, false, cond, ◌||◌, ◌⊎◌, inl, inr, List, [], ◌∷◌, ◌++◌, length, Option, Some, None, refl, sym, ap, ◌∙◌, subst, arith}
use Rattle.std.specs.List.{list_all, list_any}
use Rattle.ds_base.proofs.SmallFacts.{none_some}
use Rattle.ds_base.specs.declared.value.Stamp.{Stamp}
use Rattle.ds_kind.specs.Asks.{has_proper_span, is_get_or_scan, takes_number}
use Rattle.ds_kind.specs.Parts.{requests_of}
use Rattle.ds_kind.specs.declared.batch.Batch.{Batch}
use Rattle.ds_kind.specs.declared.batch.Item.{Item}
use Rattle.ds_kind.specs.declared.batch.Piece.{Piece}
use Rattle.ds_kind.specs.declared.reply.Failure.{Failure}
use Rattle.ds_kind.specs.declared.reply.Reply.{Reply}
use Rattle.ds_kind.specs.declared.request.Request.{Request}
use Rattle.ds_cell.specs.Ask.{content_at}
use Rattle.ds_cell.specs.Store.{Store, StoreTxn, Mode, Live, FailedSince, Unknown, OverWith, Pending}
use Rattle.ds_law.proofs.Failing.{nothing-stops, status_of}
use Rattle.ds_rule.specs.declared.answer.Outcome.{Outcome}
use Rattle.ds_rule.specs.Admitting.{refused_by, refused_in}
use Rattle.ds_rule.specs.Asking.{Asking, finished, txn_number, txn_of}
use Rattle.ds_rule.specs.Cause.{IsIdle}
use Rattle.ds_rule.specs.Clauses.{Stands}
use Rattle.ds_rule.specs.Deliver.{is_rollback}
use Rattle.ds_rule.specs.Journal.{Happening, accepted}
use Rattle.ds_rule.specs.Pieces.{Each}
use Rattle.ds_rule.specs.Serve.{resolves}
use Rattle.ds_rule.specs.Plain.{Answered, counted_store, counted_txn, failed_mode, failed_store, failed_txn, finds_pending, if_of_txn, is_pending}
use Rattle.ds_rule.specs.StandsFor.{after_made, open_stamp}
use Rattle.ds_rule.specs.World.{World, cell_of}
use Rattle.ds_turn.specs.Deliveries.{FailsInTurn}
use Rattle.ds_mean.specs.InTurn.{IsLeft, items_of, places_at}
use Rattle.ds_mean.specs.Means.{Means, RecordsFit}
use Rattle.ds_mean.specs.Ready.{KeepsFloor, ReadyFor, goes_beside}
use Rattle.ds_mean.specs.Send.{CameToFail, CameWhole, DidSend, HasLaw, IsAborted, IsOfAll, IsProperBatch, LeadsOn, SendLaw, TurnFailed}
use Rattle.ds_mean.specs.Shows.{txn_after, writes_at}
use Rattle.ds_mean.specs.Told.{IsTold}
use Rattle.ds_mean.proofs.Answering.{OkLeads, settled-answers, txn-both, unsettled-answers}
use Rattle.ds_mean.proofs.Asked.{AsksFor, IsNumbered, StampFor, endless-items, is-numbered}
use Rattle.ds_mean.proofs.Beside.{DoesNothing, IsBeside, beside-answers, beside-fails, beside-reads, beside-stays, beside-still}
use Rattle.ds_mean.proofs.Calls.{BeforeFail, Called, Calling, HasFailed, IsSettled, IsUnsettled, append-some, failed-stays, idle-stays, left-idle, same-call, settled-fail, still-stays, unsettled-fail}
use Rattle.ds_mean.proofs.Ends.{alike-live, alike-none, level, level-above, midway-begins}
use Rattle.ds_mean.proofs.Failing.{IsOfRecord, fail-turn, item-says, record-says, turn-failed}
use Rattle.ds_mean.proofs.Finding.{found-aborted, found-committed, found-pending, later-txn, no-rollback}
use Rattle.ds_mean.proofs.Firsts.{first-served}
use Rattle.ds_mean.proofs.Follows.{follows-counted, follows-failed, follows-itself}
use Rattle.ds_mean.proofs.Splitting.{first-done, idle-accepts, something-left}
use Rattle.ds_mean.proofs.Stilling.{IsStill}
use Rattle.ds_mean.proofs.Stores.{made-txn}
use Rattle.ds_mean.proofs.Turning.{AreResolved, IsOwn}
use Rattle.ds_mean.proofs.Walking.{own-after, resolved-after, unlimited-head}

-- ---- what the transaction's record says of an answer

live-mode : (m : Mode) (rs : List Request) → refused_in m rs ≡ None → is_rollback rs ≡ false → m ≡ Live
live-mode Live rs admits none = refl
live-mode (FailedSince n) rs admits none =
    let refused : Some (Outcome.MustRollBack n) ≡ None = sym (ap (λ t. cond t None (Some (Outcome.MustRollBack n))) none) ∙ admits in cc
live-mode (Unknown ws) rs admits none = cc
live-mode (OverWith t) rs admits none = cc

-- where it asks, it is the open one, and its batches are answered
abbrev IsLiveOwn : Asking → Option StoreTxn → Type 0
IsLiveOwn q o = (t : StoreTxn) × (o ≡ Some t) × IsOwn q (Some t) × (t.mode ≡ Live)

who-asks : (at : Option Stamp) (o : Option StoreTxn) (rs : List Request) (q : Asking) → AsksFor at o q → refused_by at rs o ≡ None → is_rollback rs ≡ false → ((q.head.txn ≡ None) × (finds_pending at rs o ≡ true)) ⊎ IsLiveOwn q o
who-asks (Some s) o rs q who admits none = inl (who, refl)
who-asks None None rs q who admits none = absurd who.2
who-asks None (Some t) rs q who admits none = inr (t, refl, who, live-mode t.mode rs admits none)

record RecordAt (q : Asking) (o : Option StoreTxn) (before : List Happening) (begun : ℕ) (w : World) (j : Piece) : Type 0 where
  head : j.head ≡ q.head
  fits : RecordsFit (txn_after before o) begun w.records

now-of : (q : Asking) (o : Option StoreTxn) (before : List Happening) (begun : ℕ) (w : World) (j : Piece) → RecordAt q o before begun w j → (l : IsLiveOwn q o)
    → (now : StoreTxn) × (txn_after before o ≡ Some now) × IsOwn q (Some now) × (now.mode ≡ Live) × RecordsFit (Some now) begun w.records × (now.fate ≡ Pending → l.0.fate ≡ Pending)
now-of q o before begun w j r l =
    let later = later-txn before l.0 in
    let is : txn_after before o ≡ Some later.now = ap (txn_after before) l.1 ∙ later.is in (
      later.now,
      is,
      subst (IsOwn q) later.is (own-after q before (Some l.0) l.2),
      later.mode ∙ l.3,
      subst (λ z. RecordsFit z begun w.records) is r.fits,
      later.back,
    )

-- no record stops a piece without a transaction
none-stops : (q : Asking) (o : Option StoreTxn) (before : List Happening) (begun : ℕ) (w : World) (j : Piece) (f : Failure) → RecordAt q o before begun w j → q.head.txn ≡ None → status_of w j ≡ Some f → ⊥
none-stops q o before begun w j f r alone h = none_some f (sym (nothing-stops w j r.fits.named (ap txn_of r.head ∙ ap txn_number alone)) ∙ h)

record-aborted : (q : Asking) (o : Option StoreTxn) (before : List Happening) (begun : ℕ) (w : World) (j : Piece) (finds : Type 0) → RecordAt q o before begun w j → ((q.head.txn ≡ None) × finds) ⊎ IsLiveOwn q o → status_of w j ≡ Some Failure.Aborted → IsAborted (txn_after before o)
record-aborted q o before begun w j finds r (inl alone) h = absurd (none-stops q o before begun w j Failure.Aborted r alone.0 h)
record-aborted q o before begun w j finds r (inr own) h =
    let n = now-of q o before begun w j r own in
    subst IsAborted (sym n.1) (found-aborted q n.0 begun w j n.2 n.3 r.head n.4 h)

record-committed : (q : Asking) (o : Option StoreTxn) (before : List Happening) (begun : ℕ) (w : World) (j : Piece) (finds : Type 0) → RecordAt q o before begun w j → ((q.head.txn ≡ None) × finds) ⊎ IsLiveOwn q o → status_of w j ≡ Some Failure.Committed → ⊥
record-committed q o before begun w j finds r (inl alone) h = none-stops q o before begun w j Failure.Committed r alone.0 h
record-committed q o before begun w j finds r (inr own) h =
    let n = now-of q o before begun w j r own in found-committed q n.0 begun w j n.2 n.3 r.head n.4 h

pends : (rs : List Request) (o : Option StoreTxn) (t : StoreTxn) → o ≡ Some t → t.fate ≡ Pending → (at : Option Stamp) → finds_pending at rs o ≡ true
pends rs o t is fate (Some s) = refl
pends rs o t is fate None = ap (finds_pending None rs) is ∙ elim (is_rollback rs) as (λ b. cond b true (is_pending t.fate) ≡ true) [ true ↦ refl | false ↦ ap is_pending fate ]

-- ---- a batch with something to do

some-items : (js : List Item) (rs : List Request) → requests_of js ≡ rs → 0 < length rs → 0 < length js
some-items [] rs e some = absurd (let none : 0 < length (requests_of []) = subst (λ zs. 0 < length zs) (sym e) some in omega (arith, none))
some-items (j ∷ js) rs e some = omega arith

none-takes : (js : List Item) → list_any takes_number (requests_of js) ≡ false → Each IsStill js
none-takes [] h = tt
none-takes (j ∷ js) h = let both = neither (takes_number j.request) (list_any takes_number (requests_of js)) h in (both.0, none-takes js both.1)
  where
    neither : (a b : Bool) → (a || b) ≡ false → (a ≡ false) × (b ≡ false)
    neither true b h = cc
    neither false b h = (refl, h)

alone-if : (at : Option Stamp) (o : Option StoreTxn) (q : Asking) → AsksFor at o q → o ≡ None → q.head.txn ≡ None
alone-if (Some s) o q who none = who
alone-if None None q who none = absurd who.2
alone-if None (Some t) q who none = cc

-- ---- a call of the law

-- it settles nothing, and writes no key or is the open transaction's
record Unsettled (batch : Batch) (q : Asking) (a b : Stands) (p : Store) (hs : List Happening) : Type 0 where
  called : Called q a b.world p hs
  is : IsUnsettled q p
  fails : Each IsStill q.items ⊎ ((batch.at ≡ None) × IsLiveOwn q p.txn)

-- it goes in one piece where none is open
record Settles (q : Asking) (a b : Stands) (p : Store) (hs : List Happening) : Type 0 where
  called : Called q a b.world p hs
  is : IsSettled q p hs

-- or it has a stamp beside an open one
record Besides (batch : Batch) (q : Asking) (a : Stands) (p : Store) : Type 0 where
  stamp : Stamp
  at : batch.at ≡ Some stamp
  is : IsBeside q (open_stamp p.txn) a.floor

abbrev IsClass : Batch → Asking → Stands → Stands → Store → List Happening → Type 0
IsClass batch q a b p hs = Unsettled batch q a b p hs ⊎ (Settles q a b p hs ⊎ Besides batch q a p)

record Case (batch : Batch) (q : Asking) (a b : Stands) (p : Store) (hs : List Happening) : Type 0 where
  ready : ReadyFor a p batch q
  has : HasLaw p batch q
  num : IsNumbered batch.at p.txn batch q
  call : Calling q a b.world p hs
  grown : b.past ≡ a.past ++ hs
  left : IsLeft q.items []
  who : ((q.head.txn ≡ None) × (finds_pending batch.at batch.requests p.txn ≡ true)) ⊎ IsLiveOwn q p.txn
  class : IsClass batch q a b p hs

none-low : (o : Option StoreTxn) (n : ℕ) → o ≡ None → n ≤ level o n
none-low None n none = omega arith
none-low (Some t) n none = cc

class-none : (batch : Batch) (q : Asking) (a b : Stands) (p : Store) (hs : List Happening) → IsNumbered batch.at p.txn batch q → Calling q a b.world p hs → (((q.head.txn ≡ None) × (list_any takes_number (requests_of q.items) ≡ true)) → Each (IsOfAll q) hs) → p.txn ≡ None
    → IsClass batch q a b p hs
class-none batch q a b p hs num c whole none =
    let alone = alone-if batch.at p.txn q num.who none in
    let low = none-low p.txn q.head.at.0 none in
    let called = same-call q a b.world p hs c (λ k. alike-none p.txn q.head.at.0 (cell_of a.world k) (content_at k p.cells) none (c.means.keys k)) in
    elim (list_any takes_number (requests_of q.items)) as (λ t. list_any takes_number (requests_of q.items) ≡ t → IsClass batch q a b p hs) [
      | true ↦ λ takes. inr (inl (record { called = called; is = record { low = low; none = none; alone = alone; whole = whole (alone, takes) } }))
      | false ↦ λ free.
          let still = none-takes q.items free in
          inl (record { called = called; is = record { low = low; resolved = inl (none, alone); leaves = inl still }; fails = inl still })
    ] refl

own-low : (o : Option StoreTxn) (q : Asking) → StampFor None o q → q.head.at.0 ≤ level o q.head.at.0
own-low None q stamp = absurd stamp
own-low (Some t) q stamp = omega (arith, stamp)

class-own : (batch : Batch) (q : Asking) (a b : Stands) (p : Store) (hs : List Happening) → IsNumbered batch.at p.txn batch q → Calling q a b.world p hs → batch.at ≡ None → Each (λ i. resolves i.request ≡ None) q.items → IsLiveOwn q p.txn → IsClass batch q a b p hs
class-own batch q a b p hs num c at resolved own =
    inl (record {
      called = same-call q a b.world p hs c (λ k. alike-live p.txn own.0 q.head.at.0 (cell_of a.world k) (content_at k p.cells) own.1 own.3 (c.means.keys k));
      is = record { low = own-low p.txn q (subst (λ z. StampFor z p.txn q) at num.stamp); resolved = inr resolved; leaves = inr (subst (IsOwn q) (sym own.1) own.2) };
      fails = inr (at, own);
    })

beside-low : (s : Stamp) (t : StoreTxn) (q : Asking) → q.head.at ≡ s → (list_any is_get_or_scan (requests_of q.items) ≡ true → s.0 < t.asker.stamp) → (list_any is_get_or_scan (requests_of q.items) ≡ true) ⊎ Each DoesNothing q.items
    → (q.head.at.0 ≤ t.asker.stamp) ⊎ Each DoesNothing q.items
beside-low s t q same below (inl some) = inl (let low : s.0 < t.asker.stamp = below some in let is : q.head.at.0 ≡ s.0 = ap (λ (z : Stamp). z.0) same in omega (arith, low, is))
beside-low s t q same below (inr none) = inr none

class-beside : (batch : Batch) (q : Asking) (a b : Stands) (p : Store) (hs : List Happening) → ReadyFor a p batch q → IsNumbered batch.at p.txn batch q → Calling q a b.world p hs → (s : Stamp) → batch.at ≡ Some s → (t : StoreTxn) → p.txn ≡ Some t
    → Each (λ i. resolves i.request ≡ None) q.items → IsClass batch q a b p hs
class-beside batch q a b p hs ready num c s at t is resolved =
    let floor : (list_all goes_beside batch.requests ≡ true) × (list_any is_get_or_scan batch.requests ≡ true → s.0 < t.asker.stamp) =
    subst (KeepsFloor (Some s) batch.requests) is (subst (λ z. KeepsFloor z batch.requests p.txn) at ready.beside)
    in
    let all = ap (list_all goes_beside) num.requests ∙ floor.0 in
    let below : list_any is_get_or_scan (requests_of q.items) ≡ true → s.0 < t.asker.stamp = λ some. floor.1 (sym (ap (list_any is_get_or_scan) num.requests) ∙ some) in
    let stamp : open_stamp p.txn ≡ t.asker.stamp = ap open_stamp is in
    inr (inr (record {
      stamp = s;
      at = at;
      is = record {
        alone = subst (λ z. AsksFor z p.txn q) at num.who;
        left = c.asked.left;
        endless = c.asked.endless;
        resolved = resolved;
        still = beside-still q.items all;
        low = subst (λ n. (q.head.at.0 ≤ n) ⊎ Each DoesNothing q.items) (sym stamp) (beside-low s t q (subst (λ z. StampFor z p.txn q) at num.stamp) below (beside-reads q.items all));
        within = ready.floor;
        open_within = ready.open_floor;
      };
    }))

never-own : {G : Type 0} (q : Asking) (o : Option StoreTxn) → q.head.txn ≡ None → IsLiveOwn q o → G
never-own q o alone own = let both = sym alone ∙ own.2.1 in cc

must-own : (q : Asking) (o : Option StoreTxn) (finds : Type 0) → AsksFor None o q → ((q.head.txn ≡ None) × finds) ⊎ IsLiveOwn q o → IsLiveOwn q o
must-own q o finds own (inl alone) = let both = sym alone.0 ∙ own.1 in cc
must-own q o finds own (inr live) = live

open-resolved : (o : Option StoreTxn) (t : StoreTxn) (r : Type 0) → o ≡ Some t → (o ≡ None) ⊎ r → r
open-resolved None t r is h = cc
open-resolved (Some u) t r is (inl none) = cc
open-resolved (Some u) t r is (inr h) = h

class-open : (batch : Batch) (q : Asking) (a b : Stands) (p : Store) (hs : List Happening) → ReadyFor a p batch q → HasLaw p batch q → IsNumbered batch.at p.txn batch q → Calling q a b.world p hs
    → ((q.head.txn ≡ None) × (finds_pending batch.at batch.requests p.txn ≡ true)) ⊎ IsLiveOwn q p.txn → (t : StoreTxn) → p.txn ≡ Some t → IsClass batch q a b p hs
class-open batch q a b p hs ready has num c who t is =
    let resolved = open-resolved p.txn t (Each (λ i. resolves i.request ≡ None) q.items) is has.resolved in
    by batch.at refl resolved
  where
    by : (at : Option Stamp) → batch.at ≡ at → Each (λ i. resolves i.request ≡ None) q.items → IsClass batch q a b p hs
    by None at resolved = class-own batch q a b p hs num c at resolved (must-own q p.txn _ (subst (λ z. AsksFor z p.txn q) at num.who) who)
    by (Some s) at resolved = class-beside batch q a b p hs ready num c s at t is resolved

class-of : (batch : Batch) (q : Asking) (a b : Stands) (p : Store) (hs : List Happening) → ReadyFor a p batch q → HasLaw p batch q → IsNumbered batch.at p.txn batch q → Calling q a b.world p hs
    → ((q.head.txn ≡ None) × (finds_pending batch.at batch.requests p.txn ≡ true)) ⊎ IsLiveOwn q p.txn → (((q.head.txn ≡ None) × (list_any takes_number (requests_of q.items) ≡ true)) → Each (IsOfAll q) hs) → IsClass batch q a b p hs
class-of batch q a b p hs ready has num c who whole = by p.txn refl
  where
    by : (o : Option StoreTxn) → p.txn ≡ o → IsClass batch q a b p hs
    by None is = class-none batch q a b p hs num c whole is
    by (Some t) is = class-open batch q a b p hs ready has num c who t is

case-of : (budget : ℕ) (batch : Batch) (q : Asking) (a b : Stands) (o : Outcome) (p : Store) → IsProperBatch batch → HasLaw p batch q → (did : DidSend budget q a b o) → Each IsTold did.added → ReadyFor a p batch q → Case batch q a b p did.added
case-of budget batch q a b o p proper has did kept ready =
    let num = is-numbered batch.at p.txn batch q ready.asks in
    let call : Calling q a b.world p did.added = record {
      asked = record {
        above = level-above p.txn q.head.at.0 a.floor ready.floor ready.open_floor;
        rises = num.rises;
        numbers = num.numbers;
        left = num.left ∙ has.unlimited;
        endless = endless-items batch.at p.txn batch q num has.endless;
      };
      means = ready.means;
      kept = kept;
      high = did.high;
      of = did.of;
      turns = did.turns;
      runs = did.runs;
    } in
    let who = who-asks batch.at p.txn batch.requests q num.who ready.admits (no-rollback batch.requests has.endless) in
    record {
      ready = ready;
      has = has;
      num = num;
      call = call;
      grown = did.grown;
      left = something-left q.items (some-items q.items batch.requests num.requests proper.some) (ap (list_all has_proper_span) num.requests ∙ proper.proper);
      who = who;
      class = class-of batch q a b p did.added ready has num call who did.whole;
    }

-- ---- an Ok answer

nothing-accepted : {G : Type 0} (q : Asking) (hs : List Happening) (replies : List Reply) → IsLeft q.items [] → CameWhole q hs replies → Each IsIdle hs → G
nothing-accepted q hs replies left came idle =
    absurd (append-some [] left.2 left.1 (sym (ap (λ zs. places_at left.0 (items_of zs)) (idle-accepts hs idle)) ∙ sym (came.all left.0) ∙ left.3))

own-pends : (batch : Batch) (q : Asking) (a b : Stands) (p : Store) (hs : List Happening) (replies : List Reply) → Case batch q a b p hs → Unsettled batch q a b p hs → CameWhole q hs replies → IsLiveOwn q p.txn → finds_pending batch.at batch.requests p.txn ≡ true
own-pends batch q a b p hs replies c u came own = elim (first-done hs) [
  | inl idle ↦ nothing-accepted q hs replies c.left came idle
  | inr sp ↦
      let f = first-served (level p.txn q.head.at.0) a.floor q c.call.asked hs p.txn a.world b.world p u.is.resolved c.call.kept c.call.high c.call.of c.call.runs (midway-begins q p.txn a.world p (follows-itself p.txn) c.call.means u.called.same) sp in
      let n = now-of q p.txn sp.before p.begun f.first sp.piece (record { head = f.head; fits = f.midway.records }) own in
      pends batch.requests p.txn own.0 own.1 (n.5 (found-pending q n.0 p.begun f.first sp.piece n.2 n.3 f.head f.endless n.4 f.goes)) batch.at
]

case-pends : (batch : Batch) (q : Asking) (a b : Stands) (p : Store) (hs : List Happening) (replies : List Reply) → Case batch q a b p hs → CameWhole q hs replies → finds_pending batch.at batch.requests p.txn ≡ true
case-pends batch q a b p hs replies c came = elim c.who [
  | inl alone ↦ alone.1
  | inr own ↦ elim c.class [
    | inl u ↦ own-pends batch q a b p hs replies c u came own
    | inr more ↦ elim more [
      | inl s ↦ never-own q p.txn s.is.alone own
      | inr x ↦ never-own q p.txn x.is.alone own
    ]
  ]
]

-- beside the transaction nothing is counted for it
if-alone : (at : Option Stamp) (s : Stamp) (f : StoreTxn → StoreTxn) (o : Option StoreTxn) → at ≡ Some s → if_of_txn at f o ≡ o
if-alone (Some u) s f o is = refl
if-alone None s f o is = cc

led-ok : (batch : Batch) (q : Asking) (a b : Stands) (p : Store) (hs : List Happening) (replies : List Reply) → Case batch q a b p hs → CameWhole q hs replies → LeadsOn a b p batch (Outcome.Ok replies)
led-ok batch q a b p hs replies c came =
    let o = Outcome.Ok replies in
    let f = follows-counted batch.at batch o p.txn in
    let t = if_of_txn batch.at (counted_txn batch o) p.txn in
    let leads : OkLeads q b.world p hs t replies =
    elim c.class [
      | inl u ↦ unsettled-answers q a b.world p hs t replies u.called u.is came f
      | inr more ↦ elim more [
        | inl s ↦ settled-answers q a b.world p hs t replies s.called s.is c.left came f
        | inr x ↦ subst (λ z. OkLeads q b.world p hs z replies) (sym (if-alone batch.at x.stamp (counted_txn batch o) p.txn x.at)) (beside-answers q a b.world p hs replies c.call x.is came)
      ]
    ]
    in
    record {
      added = hs;
      grown = c.grown;
      next = counted_store batch o (record p { cells = finished q.head leads.writes leads.cells });
      answered = record {
        unlimited = c.has.unlimited;
        pending = case-pends batch q a b p hs replies c came;
        asked = q;
        asks = c.ready.asks;
        cells = leads.cells;
        writes = leads.writes;
        gives = leads.gives;
        next = refl;
      };
      means = leads.means;
    }

-- ---- every other answer

live-fails : (n : ℕ) (m : Mode) → m ≡ Live → failed_mode n m ≡ FailedSince n
live-fails n m live = ap (failed_mode n) live

has-failed : (at : Option Stamp) (o : Option StoreTxn) (u : StoreTxn) (b : Batch) (out : Outcome) → at ≡ None → o ≡ Some u → u.mode ≡ Live → HasFailed (if_of_txn at failed_txn (if_of_txn at (counted_txn b out) o))
has-failed (Some s) o u b out none is live = cc
has-failed None None u b out none is live = cc
has-failed None (Some t) u b out none is live =
    let same : t ≡ u = cc in
    let c = counted_txn b out t in
    (failed_txn c, refl, c.batches, live-fails c.batches t.mode (ap (λ (z : StoreTxn). z.mode) same ∙ live))

led-failed : (batch : Batch) (q : Asking) (a b : Stands) (o : Outcome) (p : Store) (hs : List Happening) → Case batch q a b p hs → IsLeft q.items (items_of (accepted hs)) → Answered p batch o (failed_store batch o p) → LeadsOn a b p batch o
led-failed batch q a b o p hs c left answered =
    let f = follows-failed batch.at batch o p.txn in
    let t = if_of_txn batch.at failed_txn (if_of_txn batch.at (counted_txn batch o) p.txn) in
    let means : Means b.world (after_made hs (record p { txn = t })) =
    elim c.class [
      | inl u ↦ elim u.fails [
        | inl still ↦ still-stays q a b.world p hs t u.called u.is.low u.is.resolved still f
        | inr own ↦ failed-stays q a b.world p hs t u.called u.is.low u.is.resolved (subst (IsOwn q) (sym own.1.1) own.1.2) f (has-failed batch.at p.txn own.1.0 batch o own.0 own.1.1 own.1.3)
      ]
      | inr more ↦ elim more [
        | inl s ↦ idle-stays q a b.world p hs t s.called (left-idle q a b.world p hs s.called s.is left) f
        | inr x ↦
            subst (λ z. Means b.world (after_made hs (record p { txn = z })))
            (sym (if-alone batch.at x.stamp failed_txn (if_of_txn batch.at (counted_txn batch o) p.txn) x.at ∙ if-alone batch.at x.stamp (counted_txn batch o) p.txn x.at))
            (beside-stays q a b.world p hs c.call x.is)
      ]
    ]
    in
    record { added = hs; grown = c.grown; next = failed_store batch o p; answered = answered; means = means }

-- the record before the step that failed, and why it did
record FailedSo (q : Asking) (p : Store) (f : Failure) (before : List Happening) (j : Piece) : Type 0 where
  world : World
  at : RecordAt q p.txn before p.begun world j
  why : (status_of world j ≡ Some f) ⊎ FailsInTurn q (λ k. writes_at k before) p.cells f

failed-before : (q : Asking) (a : Stands) (v : World) (p : Store) (hs : List Happening) (f : Failure) → Called q a v p hs → AreResolved p.txn q → q.head.at.0 ≤ level p.txn q.head.at.0 → (came : CameToFail q hs f) → BeforeFail q p v f hs came.last → FailedSo q p f came.last.before came.last.piece
failed-before q a v p hs f c resolved low came x =
    let asked = c.asked in
    let head = unlimited-head q (accepted came.last.before) came.last.piece asked.left x.of in
    record {
      world = x.world;
      at = record { head = head; fits = x.midway.records };
      why =
          fail-turn (level p.txn q.head.at.0) q x.acted (λ k. writes_at k came.last.before) (txn_after came.last.before p.txn) x.world p (accepted came.last.before) came.last.node came.last.piece f
          low asked.rises asked.numbers x.midway x.reached x.first x.of.cuts head asked.left (resolved-after q came.last.before p.txn resolved) x.answer;
    }

failed-so : (batch : Batch) (q : Asking) (a b : Stands) (p : Store) (hs : List Happening) (f : Failure) → Case batch q a b p hs → (came : CameToFail q hs f) → FailedSo q p f came.last.before came.last.piece
failed-so batch q a b p hs f c came =
    elim c.class [
      | inl u ↦ failed-before q a b.world p hs f u.called u.is.resolved u.is.low came (unsettled-fail q a b.world p f hs came.last u.called u.is)
      | inr more ↦ elim more [
        | inl s ↦ failed-before q a b.world p hs f s.called (inl (s.is.none, s.is.alone)) s.is.low came (settled-fail q a b.world p f hs came.last s.called (left-idle q a b.world p hs s.called s.is came.left))
        | inr n ↦ let x = beside-fails q a b.world p f hs came.last c.call n.is in record { world = x.world; at = record { head = x.head; fits = x.fits }; why = inl x.status }
      ]
    ]

-- an item failed
item-cause : (batch : Batch) (q : Asking) (a b : Stands) (p : Store) (hs : List Happening) (f : Failure) → Case batch q a b p hs → CameToFail q hs f → (IsOfRecord f → ⊥) → TurnFailed q p hs f
item-cause batch q a b p hs f c came item =
    let x = failed-so batch q a b p hs f c came in
    elim x.why [
      | inl status ↦ absurd (item (record-says x.world came.last.piece f status))
      | inr turn ↦ turn-failed q p came.last.before hs _ f came.last.last c.call.means.rising turn
    ]

-- the record was aborted
abort-cause : (batch : Batch) (q : Asking) (a b : Stands) (p : Store) (hs : List Happening) → Case batch q a b p hs → CameToFail q hs Failure.Aborted → IsAborted (after_made hs p).txn
abort-cause batch q a b p hs c came =
    let x = failed-so batch q a b p hs Failure.Aborted c came in
    elim x.why [
      | inl status ↦
          subst IsAborted (sym ((made-txn hs p).0 ∙ ap (λ zs. txn_after zs p.txn) came.last.last ∙ txn-both came.last.before _ p.txn))
          (record-aborted q p.txn came.last.before p.begun x.world came.last.piece _ x.at c.who status)
      | inr turn ↦ absurd (item-says turn.position turn.key turn.fault (subst IsOfRecord turn.says tt))
    ]

-- it is never found committed
never-committed : (batch : Batch) (q : Asking) (a b : Stands) (p : Store) (hs : List Happening) → Case batch q a b p hs → CameToFail q hs Failure.Committed → ⊥
never-committed batch q a b p hs c came =
    let x = failed-so batch q a b p hs Failure.Committed c came in
    elim x.why [
      | inl status ↦ record-committed q p.txn came.last.before p.begun x.world came.last.piece _ x.at c.who status
      | inr turn ↦ item-says turn.position turn.key turn.fault (subst IsOfRecord turn.says tt)
    ]

never-doubted : (batch : Batch) (q : Asking) (a b : Stands) (p : Store) (hs : List Happening) → Case batch q a b p hs → Each IsTold hs → CameToFail q hs Failure.Committed ⊎ (Each IsTold hs → ⊥) → ⊥
never-doubted batch q a b p hs c kept (inl came) = never-committed batch q a b p hs c came
never-doubted batch q a b p hs c kept (inr lost) = lost kept

-- ---- the law

pub send_law : SendLaw
send_law budget batch q a b (Outcome.Ok replies) p proper has given did kept ready =
    (led-ok batch q a b p did.added replies (case-of budget batch q a b (Outcome.Ok replies) p proper has did kept ready) did.shows, tt)
send_law budget batch q a b (Outcome.Illegal i) p proper has given did kept ready = absurd did.shows
send_law budget batch q a b (Outcome.MustRollBack n) p proper has given did kept ready = absurd did.shows
send_law budget batch q a b (Outcome.TxnOver s) p proper has given did kept ready = absurd did.shows
send_law budget batch q a b (Outcome.OpRequiresTxn d) p proper has given did kept ready =
    (led-failed batch q a b (Outcome.OpRequiresTxn d) p did.added (case-of budget batch q a b (Outcome.OpRequiresTxn d) p proper has did kept ready) did.shows refl, tt)
send_law budget batch q a b (Outcome.NotOnePhase d) p proper has given did kept ready =
    (led-failed batch q a b (Outcome.NotOnePhase d) p did.added (case-of budget batch q a b (Outcome.NotOnePhase d) p proper has did kept ready) did.shows refl, tt)
send_law budget batch q a b (Outcome.ConditionFailed i v) p proper has given did kept ready =
    let c = case-of budget batch q a b (Outcome.ConditionFailed i v) p proper has did kept ready in
    (led-failed batch q a b (Outcome.ConditionFailed i v) p did.added c did.shows.left refl, item-cause batch q a b p did.added (Failure.Condition i v) c did.shows (λ of. of))
send_law budget batch q a b (Outcome.WriteTooOld i k s) p proper has given did kept ready =
    let c = case-of budget batch q a b (Outcome.WriteTooOld i k s) p proper has did kept ready in
    (led-failed batch q a b (Outcome.WriteTooOld i k s) p did.added c did.shows.left refl, item-cause batch q a b p did.added (Failure.TooOld i k s) c did.shows (λ of. of))
send_law budget batch q a b (Outcome.NotInteger i) p proper has given did kept ready =
    let c = case-of budget batch q a b (Outcome.NotInteger i) p proper has did kept ready in
    (led-failed batch q a b (Outcome.NotInteger i) p did.added c did.shows.left refl, item-cause batch q a b p did.added (Failure.NotInteger i) c did.shows (λ of. of))
send_law budget batch q a b (Outcome.Overflow i) p proper has given did kept ready =
    let c = case-of budget batch q a b (Outcome.Overflow i) p proper has did kept ready in
    (led-failed batch q a b (Outcome.Overflow i) p did.added c did.shows.left refl, item-cause batch q a b p did.added (Failure.Overflow i) c did.shows (λ of. of))
send_law budget batch q a b Outcome.TxnAborted p proper has given did kept ready =
    let c = case-of budget batch q a b Outcome.TxnAborted p proper has did kept ready in
    (led-failed batch q a b Outcome.TxnAborted p did.added c did.shows.left refl, abort-cause batch q a b p did.added c did.shows)
send_law budget batch q a b (Outcome.Ambiguous lost) p proper has given did kept ready =
    absurd (never-doubted batch q a b p did.added (case-of budget batch q a b (Outcome.Ambiguous lost) p proper has did kept ready) kept did.shows)
send_law budget batch q a b (Outcome.RetryExhausted r l) p proper has given did kept ready =
    (led-failed batch q a b (Outcome.RetryExhausted r l) p did.added (case-of budget batch q a b (Outcome.RetryExhausted r l) p proper has did kept ready) did.shows.0 refl, tt)
send_law budget batch q a b Outcome.OutOfMemory p proper has given did kept ready = absurd given
