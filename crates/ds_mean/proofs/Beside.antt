-- A batch with a stamp beside an open transaction: it reads below the transaction's stamp, or acts on no key.
use Rattle.std.proofs.Common.{◌≡◌, ℕ, ◌<◌, ◌≤◌, Bool, true, false, cond, not, ◌||◌, ◌&&◌, ◌==◌, ◌⊎◌, inl, inr, List, [], ◌∷◌, ◌++◌, Option, Some, None, refl, sym, ap, ◌∙◌, subst, fold, arith, nat_le, is_some}
use Rattle.std.proofs.lemmas.List.{append-nil}
use Rattle.std.specs.List.{list_all, list_any}
use Rattle.ds_base.proofs.SmallFacts.{and_first, and_second}
use Rattle.ds_base.specs.Ordered.{Ascends}
use Rattle.ds_desc.specs.declared.meta.Looked.TheVariants as Looked
use Rattle.ds_kind.specs.Asks.{flags_at, is_end, is_get_or_scan, takes_number}
use Rattle.ds_kind.specs.Parts.{requests_of}
use Rattle.ds_kind.specs.Request.{cut_to}
use Rattle.ds_kind.specs.declared.batch.Head.{Head}
use Rattle.ds_kind.specs.declared.batch.Item.{Item}
use Rattle.ds_kind.specs.declared.batch.Piece.{Piece}
use Rattle.ds_kind.specs.declared.reply.Failure.{Failure}
use Rattle.ds_kind.specs.declared.reply.Reply.{Reply}
use Rattle.ds_kind.specs.declared.request.Request.{Request}
use Rattle.ds_kind.specs.declared.request.Request.TheVariants.{Get, Scan, ReverseScan, Put, ConditionalPut, InitPut, Increment, Delete, DeleteRange, EndTxn, QueryIntent, ResolveIntent, ResolveIntentRange, AdminSplit, AdminTransferLease}
use Rattle.ds_cell.specs.declared.entry.At.{At}
use Rattle.ds_cell.specs.declared.entry.Version.{Version}
use Rattle.ds_cell.specs.declared.entry.Written.{Written}
use Rattle.ds_cell.specs.declared.verdict.Bit.{Bit}
use Rattle.ds_cell.specs.declared.verdict.Bit.TheVariants.{Hit, Nothing as NoBit, Value as Shown}
use Rattle.ds_cell.specs.declared.verdict.Verdict.TheVariants.{Keep}
use Rattle.ds_cell.specs.Ask.{Cells, key_of, content_at}
use Rattle.ds_cell.specs.Change.{made}
use Rattle.ds_cell.specs.Content.{AllAbove, Content, stamp_of}
use Rattle.ds_cell.specs.Deed.{Sight, guarded, sight}
use Rattle.ds_cell.specs.LawProofs.{guarded-keep}
use Rattle.ds_cell.specs.Replies.{body_of}
use Rattle.ds_cell.specs.RepeatProofs.{kept}
use Rattle.ds_cell.specs.RequestProofs.{still_of}
use Rattle.ds_cell.specs.Requests.{ask_request, deed_of}
use Rattle.ds_cell.specs.Seen.{held, newest, own, too_old, under, value_seen, version_at}
use Rattle.ds_cell.specs.Store.{Store, WriteAt, under_number, write_all}
use Rattle.ds_cell.proofs.LaterFacts.{version_at-made}
use Rattle.ds_law.proofs.Failing.{ByItem, ByRecord, Why, runs-cut, status_of, why}
use Rattle.ds_law.proofs.Replacing.{found-fits}
use Rattle.ds_rule.specs.declared.answer.Answer.TheVariants.{Done, Failed, Refused, Lost}
use Rattle.ds_rule.specs.declared.journal.JournalStep.TheVariants.{Look, Send}
use Rattle.ds_rule.specs.Asking.{Asking, Fails, Gives, and_then, ask_all, at_of, finished, made_by, txn_number}
use Rattle.ds_rule.specs.Cause.{LastFails}
use Rattle.ds_rule.specs.Clauses.{Stands}
use Rattle.ds_rule.specs.Journal.{Happening, Moved, Did, Runs, Accepted, accepted, pairs}
use Rattle.ds_rule.specs.Path.{IsHigh}
use Rattle.ds_rule.specs.Pieces.{Each, IsCut, PieceOf}
use Rattle.ds_rule.specs.Plain.{after_event}
use Rattle.ds_rule.specs.Sending.{AllOf, left_of}
use Rattle.ds_rule.specs.Serve.{resolves, serve}
use Rattle.ds_rule.specs.StandsFor.{after_made, open_stamp}
use Rattle.ds_rule.specs.Turn.{after_item, and_turn, asks_as, items_at, speaks_of, turn_of, verdict}
use Rattle.ds_rule.specs.World.{World, cell_of, has_id}
use Rattle.ds_rule.proofs.Eachs.{each-append, each-left}
use Rattle.ds_rule.proofs.Passing.{told}
use Rattle.ds_rule.proofs.Service.{service}
use Rattle.ds_turn.specs.Course.{NoneRefused, with_versions}
use Rattle.ds_turn.specs.Deliveries.{IsTurnReply}
use Rattle.ds_turn.specs.Replies.{Answers}
use Rattle.ds_turn.proofs.Deliveries.{replies_in_turn, serves_asked}
use Rattle.ds_turn.proofs.Failing.{at-false, at-true}
use Rattle.ds_turn.proofs.KeyFacts.{empty_if}
use Rattle.ds_turn.proofs.Keys.{IsDone, gives_at_keys, keys_give, made-parts, request-done}
use Rattle.ds_turn.proofs.Replies.{cut_answers, gathered_asks, rest-given}
use Rattle.ds_mean.specs.Means.{KeyStands, Means, RecordsFit}
use Rattle.ds_mean.specs.Ready.{goes_beside}
use Rattle.ds_mean.specs.Send.{CameWhole}
use Rattle.ds_mean.specs.Serving.{Served}
use Rattle.ds_mean.specs.Shows.{Shows, txn_after, writes_at, writes_by}
use Rattle.ds_mean.specs.Told.{IsTold}
use Rattle.ds_mean.proofs.Agreeing.{of-versions}
use Rattle.ds_mean.proofs.Answering.{OkLeads, store-free}
use Rattle.ds_mean.proofs.Calls.{Calling}
use Rattle.ds_mean.proofs.Lifetimes.{moves_mean}
use Rattle.ds_mean.proofs.Middle.{failed-not-done, look-shows, refused-not-done, undone-stays}
use Rattle.ds_mean.proofs.Serving.{served-shows}
use Rattle.ds_mean.proofs.Settling.{finished-ascends}
use Rattle.ds_mean.proofs.Splitting.{of-first, of-later}
use Rattle.ds_mean.proofs.Stilling.{IsStill, cuts-keep, cuts-still, each-at, items-stay, none-held, request-stays}
use Rattle.ds_mean.proofs.Stores.{event-above, event-stamp, event-txn, made-cells, made-txn}
use Rattle.ds_mean.proofs.Turning.{cut-resolves, still-unsettled}
use Rattle.ds_mean.proofs.Walking.{piece-endless, unlimited-head}

-- ---- its requests

-- it acts on no key
abbrev pub does_nothing : Request → Bool
does_nothing r = (flags_at r).alone || not (flags_at r).txn

abbrev pub DoesNothing : Item → Type 0
DoesNothing i = does_nothing i.request ≡ true

goes-still : (r : Request) → goes_beside r ≡ true → takes_number r ≡ false
goes-still (Get a) h = refl
goes-still (Scan a) h = refl
goes-still (ReverseScan a) h = refl
goes-still (Put a) h = cc
goes-still (ConditionalPut a) h = cc
goes-still (InitPut a) h = cc
goes-still (Increment a) h = cc
goes-still (Delete a) h = cc
goes-still (DeleteRange a) h = cc
goes-still (EndTxn a) h = refl
goes-still (QueryIntent a) h = refl
goes-still (ResolveIntent a) h = refl
goes-still (ResolveIntentRange a) h = refl
goes-still (AdminSplit a) h = refl
goes-still (AdminTransferLease a) h = refl

goes-nothing : (r : Request) → goes_beside r ≡ true → is_get_or_scan r ≡ false → does_nothing r ≡ true
goes-nothing (Get a) h g = cc
goes-nothing (Scan a) h g = cc
goes-nothing (ReverseScan a) h g = cc
goes-nothing (Put a) h g = cc
goes-nothing (ConditionalPut a) h g = cc
goes-nothing (InitPut a) h g = cc
goes-nothing (Increment a) h g = cc
goes-nothing (Delete a) h g = cc
goes-nothing (DeleteRange a) h g = cc
goes-nothing (EndTxn a) h g = refl
goes-nothing (QueryIntent a) h g = cc
goes-nothing (ResolveIntent a) h g = refl
goes-nothing (ResolveIntentRange a) h g = refl
goes-nothing (AdminSplit a) h g = refl
goes-nothing (AdminTransferLease a) h g = refl

pub beside-still : (js : List Item) → list_all goes_beside (requests_of js) ≡ true → Each IsStill js
beside-still [] h = tt
beside-still (j ∷ js) h = (goes-still j.request (and_first _ _ h), beside-still js (and_second (goes_beside j.request) _ h))

-- some request reads, or none acts on a key
pub beside-reads : (js : List Item) → list_all goes_beside (requests_of js) ≡ true → (list_any is_get_or_scan (requests_of js) ≡ true) ⊎ Each DoesNothing js
beside-reads [] h = inr tt
beside-reads (j ∷ js) h = by (is_get_or_scan j.request) refl (beside-reads js (and_second (goes_beside j.request) _ h))
  where
    by : (t : Bool) → is_get_or_scan j.request ≡ t → (list_any is_get_or_scan (requests_of js) ≡ true) ⊎ Each DoesNothing js → (list_any is_get_or_scan (requests_of (j ∷ js)) ≡ true) ⊎ Each DoesNothing (j ∷ js)
    by true e rest = inl (ap (λ t. t || list_any is_get_or_scan (requests_of js)) e)
    by false e (inl some) = inl (ap (λ t. t || list_any is_get_or_scan (requests_of js)) e ∙ some)
    by false e (inr none) = inr (goes-nothing j.request (and_first _ _ h) e, none)

cut-nothing : (s e : List ℕ) (r : Request) → does_nothing (cut_to s e r) ≡ does_nothing r
cut-nothing s e (Get a) = refl
cut-nothing s e (Scan a) = refl
cut-nothing s e (ReverseScan a) = refl
cut-nothing s e (Put a) = refl
cut-nothing s e (ConditionalPut a) = refl
cut-nothing s e (InitPut a) = refl
cut-nothing s e (Increment a) = refl
cut-nothing s e (Delete a) = refl
cut-nothing s e (DeleteRange a) = refl
cut-nothing s e (EndTxn a) = refl
cut-nothing s e (QueryIntent a) = refl
cut-nothing s e (ResolveIntent a) = refl
cut-nothing s e (ResolveIntentRange a) = refl
cut-nothing s e (AdminSplit a) = refl
cut-nothing s e (AdminTransferLease a) = refl

-- ---- what one sees

-- what is seen by those own writes and that version
sight_by : ℕ → List Written → Option Version → Sight
sight_by n h v = record { value = value_seen (newest n h) v; found = λ m. nat_le m n && is_some (under m h) }

same-sight : (at : At) (n : ℕ) (c d : Content) → own at c ≡ own at d → version_at at.stamp.0 c.versions ≡ version_at at.stamp.0 d.versions → sight at n c ≡ sight at n d
unfolding sight_by
same-sight at n c d writes version = ap (λ h. sight_by n h (version_at at.stamp.0 c.versions)) writes ∙ ap (sight_by n (own at d)) version

same-judged : (at : At) (c d : Content) (f : Sight → Bit) → own at c ≡ own at d → version_at at.stamp.0 c.versions ≡ version_at at.stamp.0 d.versions → guarded (too_old at c) (Keep (f (sight at at.seq.0 c))) ≡ guarded (too_old at d) (Keep (f (sight at at.seq.0 d)))
same-judged at c d f writes version =
    guarded-keep (too_old at c) (f (sight at at.seq.0 c)) ∙ ap (λ g. Keep (f g)) (same-sight at at.seq.0 c d writes version) ∙ sym (guarded-keep (too_old at d) (f (sight at at.seq.0 d)))

-- a request that writes no key answers the same where it sees the same
same-read : (r : Request) → takes_number r ≡ false → (at : At) (c d : Content) → own at c ≡ own at d → version_at at.stamp.0 c.versions ≡ version_at at.stamp.0 d.versions → deed_of r at c ≡ deed_of r at d
same-read (Get a) none at c d w v = same-judged at c d (λ g. Shown g.value) w v
same-read (Scan a) none at c d w v = same-judged at c d (λ g. Shown g.value) w v
same-read (ReverseScan a) none at c d w v = same-judged at c d (λ g. Shown g.value) w v
same-read (Put a) none at c d w v = cc
same-read (ConditionalPut a) none at c d w v = cc
same-read (InitPut a) none at c d w v = cc
same-read (Increment a) none at c d w v = cc
same-read (Delete a) none at c d w v = cc
same-read (DeleteRange a) none at c d w v = cc
same-read (EndTxn a) none at c d w v = same-judged at c d (λ g. NoBit) w v
same-read (QueryIntent a) none at c d w v = same-judged at c d (λ g. cond (g.found a.seq.0) Hit NoBit) w v
same-read (ResolveIntent a) none at c d w v = same-judged at c d (λ g. NoBit) w v
same-read (ResolveIntentRange a) none at c d w v = same-judged at c d (λ g. NoBit) w v
same-read (AdminSplit a) none at c d w v = same-judged at c d (λ g. NoBit) w v
same-read (AdminTransferLease a) none at c d w v = same-judged at c d (λ g. NoBit) w v

-- it is never refused
keeps-some : (r : Request) → takes_number r ≡ false → (at : At) (c : Content) → (b : Bit) × (deed_of r at c ≡ Keep b)
keeps-some (Get a) none at c = (_, guarded-keep (too_old at c) _)
keeps-some (Scan a) none at c = (_, guarded-keep (too_old at c) _)
keeps-some (ReverseScan a) none at c = (_, guarded-keep (too_old at c) _)
keeps-some (Put a) none at c = cc
keeps-some (ConditionalPut a) none at c = cc
keeps-some (InitPut a) none at c = cc
keeps-some (Increment a) none at c = cc
keeps-some (Delete a) none at c = cc
keeps-some (DeleteRange a) none at c = cc
keeps-some (EndTxn a) none at c = (_, guarded-keep (too_old at c) _)
keeps-some (QueryIntent a) none at c = (_, guarded-keep (too_old at c) _)
keeps-some (ResolveIntent a) none at c = (_, guarded-keep (too_old at c) _)
keeps-some (ResolveIntentRange a) none at c = (_, guarded-keep (too_old at c) _)
keeps-some (AdminSplit a) none at c = (_, guarded-keep (too_old at c) _)
keeps-some (AdminTransferLease a) none at c = (_, guarded-keep (too_old at c) _)

none-refused : (a : At) (js : List Item) (c : Content) → Each IsStill js → NoneRefused a js c
none-refused a [] c all = record { bits = []; writes = []; gives = refl }
none-refused a (j ∷ js) c all =
    let rest = none-refused a js (after_item a j c) all.1 in
    let one = keeps-some j.request all.0 (asks_as a j) c in
    record {
      bits = (j.pos, one.0) ∷ rest.bits;
      writes = rest.writes;
      gives = ap (λ v. and_turn j v (turn_of a js (after_item a j c))) one.1 ∙ ap (and_turn j (Keep one.0)) rest.gives;
    }

never-both : (out : Cells) (ws : List WriteAt) (rs : List Reply) (f : Failure) → Gives out ws rs ≡ Fails f → ⊥
never-both out ws rs f h = cc

never-fails : (h : Head) (js : List Item) (x : Cells) (f : Failure) → Ascends key_of x → Each IsStill js → ask_all h js x ≡ Fails f → ⊥
never-fails h js x f asc all e =
    let given = keys_give h js x asc (λ k. none-refused (at_of h 0) (items_at k js) (content_at k x) (each-at IsStill k js all)) in
    never-both given.0 given.1 given.2 f (sym given.3 ∙ e)

-- ---- its replies

-- what its items answer on the one content and on the other
abbrev SaysSame : Head → (Item → Type 0) → Content → Content → Type 0
SaysSame h fine c d = (j : Item) → fine j → verdict (at_of h 0) j c ≡ verdict (at_of h 0) j d

cons-none : {G : Type 0} (j : Item) (js : List Item) → ◌≡◌ {A = List Item} (j ∷ js) [] → G
cons-none j js h = cc

first-says : (h : Head) (fine : Item → Type 0) (j : Item) (js : List Item) (c d : Content) (k : List ℕ) → speaks_of k j ≡ true → (items_at k (j ∷ js) ≡ []) ⊎ SaysSame h fine c d → SaysSame h fine c d
first-says h fine j js c d k here (inl none) = cons-none j (items_at k js) (sym (at-true k j js here) ∙ none)
first-says h fine j js c d k here (inr says) = says

rest-none : (k : List ℕ) (j : Item) (js : List Item) → items_at k (j ∷ js) ≡ [] → items_at k js ≡ []
rest-none k j js none = by (speaks_of k j) refl
  where
    by : (t : Bool) → speaks_of k j ≡ t → items_at k js ≡ []
    by true here = cons-none j (items_at k js) (sym (at-true k j js here) ∙ none)
    by false far = sym (at-false k j js far) ∙ none

still-next : (h : Head) (j : Item) (x next : Cells) (k : List ℕ) (t : Bool) → IsStill j → IsDone j.request (at_of h j.seq.0) x next k t → content_at k next ≡ content_at k x
still-next h j x next k true still done = done.1 ∙ request-stays j.request still (at_of h j.seq.0) (content_at k x)
still-next h j x next k false still done = done

still-replies : (q : Asking) (cells : Cells) (fine : Item → Type 0) → Each IsStill q.items → (js : List Item) (x out : Cells) (ws : List WriteAt) (rs : List Reply) → Ascends key_of x → Ascends key_of cells → Each IsStill js → Each fine js
    → ((k : List ℕ) → (items_at k js ≡ []) ⊎ SaysSame q.head fine (content_at k x) (content_at k cells)) → ask_all q.head js x ≡ Gives out ws rs → Each (IsTurnReply q cells) (pairs q.head js rs)
still-replies q cells fine whole [] x out ws rs asc ascends still all at e = tt
still-replies q cells fine whole (j ∷ js) x out ws rs asc ascends still all at e =
    let a = at_of q.head j.seq.0 in
    let parts = made-parts q.head j (ask_request j.request a x) x js out ws rs e in
    let reply : Reply = record { body = body_of j.request parts.0; resume = None } in
    let rest = rest-given (under_number a parts.1) reply (ask_all q.head js (write_all a parts.1 x)) out ws rs (sym (ap (λ b. and_then (made_by q.head j b x) (ask_all q.head js)) parts.2) ∙ e) in
    let done = request-done j.request a x parts.0 parts.1 asc parts.2 in
    let ans : Answers q.head j x reply.body = record { bits = parts.0; writes = parts.1; gave = parts.2; is = refl } in
    let first : IsTurnReply q cells (record { head = q.head; item = j; reply = reply }) =
    λ front i back y us ts is same before.
    let keys = gives_at_keys q.head front cells y us ts ascends before in
    cut_answers q.head j x y reply.body asc keys.0 ans
    (λ k here.
    ap kept
    (first-says q.head fine j js (content_at k x) (content_at k cells) k here (at k) j all.0
    ∙ ap (verdict (at_of q.head 0) j) (sym ((keys.1 k).1 ∙ items-stay (at_of q.head 0) (items_at k front) (content_at k cells) (each-at IsStill k front (each-left IsStill front (i ∷ back) (subst (Each IsStill) is whole)))))))
    in
    let later : (k : List ℕ) → (items_at k js ≡ []) ⊎ SaysSame q.head fine (content_at k (write_all a parts.1 x)) (content_at k cells) =
    λ k.
    elim (at k) [
      | inl none ↦ inl (rest-none k j js none)
      | inr says ↦ inr (subst (λ c. SaysSame q.head fine c (content_at k cells)) (sym (still-next q.head j x (write_all a parts.1 x) k (speaks_of k j) still.0 (done.1 k))) says)
    ]
    in
    subst (λ zs. Each (IsTurnReply q cells) (pairs q.head (j ∷ js) zs)) (sym rest.3) (first, still-replies q cells fine whole js (write_all a parts.1 x) out rest.0 rest.1 done.0 ascends still.1 all.1 later rest.2)

-- ---- what it sees of the world

above-less : (m n : ℕ) (vs : List Version) → m ≤ n → AllAbove stamp_of n vs → AllAbove stamp_of m vs
above-less m n [] low all = tt
above-less m n (v ∷ vs) low all = (let high : n < stamp_of v = all.0 in omega (arith, low, high), above-less m n vs low all.1)

version-after : (s : ℕ) (us vs : List Version) → AllAbove stamp_of s vs → version_at s (fold made us vs) ≡ version_at s us
version-after s us [] all = refl
version-after s us (v ∷ vs) all = version-after s (made us v) vs all.1 ∙ version_at-made s us v all.0

no-own : (at : At) (c : Content) → at.txn.0 ≡ 0 → held 0 c ≡ [] → own at c ≡ []
no-own at c zero none = ap (λ n. cond (c.epoch == at.epoch) (held n c) []) zero ∙ ap (λ h. cond (c.epoch == at.epoch) h []) none ∙ empty_if (c.epoch == at.epoch)

-- it reads below the stamp, or acts on no key
abbrev IsFine : ℕ → ℕ → Item → Type 0
IsFine s t j = IsStill j × ((s ≤ t) ⊎ DoesNothing j)

-- the same versions up to the stamp
abbrev SeesAs : ℕ → Store → Store → Type 0
SeesAs s p first = (k : List ℕ) → version_at s (content_at k p.cells).versions ≡ version_at s (content_at k first.cells).versions

says-same : (q : Asking) (w : World) (p first : Store) (t : ℕ) (k : List ℕ) → q.head.txn ≡ None → Means w p → open_stamp p.txn ≡ t → SeesAs q.head.at.0 p first → held 0 (content_at k first.cells) ≡ [] → SaysSame q.head (IsFine q.head.at.0 t) (cell_of w k) (content_at k first.cells)
says-same q w p first t k alone m stamp sees free j fine = by fine.1
  where
    by : (q.head.at.0 ≤ t) ⊎ DoesNothing j → verdict (at_of q.head 0) j (cell_of w k) ≡ verdict (at_of q.head 0) j (content_at k first.cells)
    by (inr nothing) = still_of j.request (asks_as (at_of q.head 0) j) (cell_of w k) nothing ∙ sym (still_of j.request (asks_as (at_of q.head 0) j) (content_at k first.cells) nothing)
    by (inl low) =
        let same = of-versions p.txn (cell_of w k) (content_at k p.cells) (m.keys k).same in
        let zero = ap txn_number alone in
        let up : AllAbove stamp_of q.head.at.0 (cell_of w k).waiting = above-less q.head.at.0 (open_stamp p.txn) (cell_of w k).waiting (subst (λ n. q.head.at.0 ≤ n) (sym stamp) low) same.above in
        same-read j.request fine.0 (asks_as (at_of q.head 0) j) (cell_of w k) (content_at k first.cells)
        (no-own (asks_as (at_of q.head 0) j) (cell_of w k) zero (none-held p.txn p.begun w.records (cell_of w k) m.records (m.keys k).intent) ∙ sym (no-own (asks_as (at_of q.head 0) j) (content_at k first.cells) zero free))
        (sym (version-after q.head.at.0 (cell_of w k).versions (cell_of w k).waiting up) ∙ ap (version_at q.head.at.0) (sym same.versions) ∙ sees k)

-- ---- through a call

means-shown : (w v : World) (p : Store) → Shows (λ k. []) w.records w v → Means w p → Means v p
means-shown w v p shows m = record {
  keeps = shows.keeps;
  rising = m.rising;
  keys = λ k. subst (λ c. KeyStands p.txn c (content_at k p.cells)) (sym (shows.cells k)) (m.keys k);
  records = subst (RecordsFit p.txn p.begun) (sym shows.records) m.records;
  copies = shows.copies ∙ m.copies;
}

piece-shows : (q : Asking) (w v : World) (p : Store) (j : Piece) (rs : List Reply) → Means w p → Each IsStill j.items → j.head ≡ q.head → (sv : Served w v j rs) → ask_all q.head j.items sv.held ≡ Gives sv.out sv.writes rs → Shows (λ k. []) w.records w v
piece-shows q w v p j rs m still head sv gives = record {
  keeps = sv.keeps;
  cells = λ k. elim (sv.at k) [
    | inl here ↦
        here.now ∙ ap (λ h. content_at k (finished h sv.writes sv.out)) head
        ∙ still-unsettled q.head q.head.txn j.items sv.held sv.out sv.writes rs k sv.ascends gives still (ap (held 0) here.there ∙ none-held p.txn p.begun w.records (cell_of w k) m.records (m.keys k).intent)
        ∙ ((gives_at_keys q.head j.items sv.held sv.out sv.writes rs sv.ascends gives).1 k).1
        ∙ items-stay (at_of q.head 0) (items_at k j.items) (content_at k sv.held) (each-at IsStill k j.items still)
        ∙ here.there
    | inr far ↦ far.same
  ];
  records = sv.records;
  copies = sv.copies;
}

-- the batch, where the transaction has the stamp t
pub record IsBeside (q : Asking) (t floor : ℕ) : Type 0 where
  pub alone : q.head.txn ≡ None
  pub left : q.head.left ≡ None
  pub endless : Each (λ i. is_end i.request ≡ false) q.items
  pub resolved : Each (λ i. resolves i.request ≡ None) q.items
  pub still : Each IsStill q.items
  pub low : (q.head.at.0 ≤ t) ⊎ Each DoesNothing q.items
  pub within : q.head.at.0 ≤ floor
  pub open_within : t ≤ floor

each-with : (s t : ℕ) (js : List Item) → Each IsStill js → (s ≤ t) ⊎ Each DoesNothing js → Each (IsFine s t) js
each-with s t [] still low = tt
each-with s t (j ∷ js) still (inl low) = ((still.0, inl low), each-with s t js still.1 (inl low))
each-with s t (j ∷ js) still (inr all) = ((still.0, inr all.0), each-with s t js still.1 (inr all.1))

record Through (q : Asking) (v : World) (p first : Store) (hs : List Happening) : Type 0 where
  means : Means v (after_made hs p)
  replies : Each (IsTurnReply q first.cells) (accepted hs)

asked-beside : (q : Asking) (t floor : ℕ) (w v : World) (j : Piece) (rs : List Reply) → IsBeside q t floor → Each (IsCut q.items) j.items → j.head ≡ q.head → (x : Cells) → serve w.records j.head j.head.left j.items x ≡ ask_all q.head j.items x
asked-beside q t floor w v j rs b cuts head x =
    ap (λ h. serve w.records h h.left j.items x) head ∙ ap (λ l. serve w.records q.head l j.items x) b.left
    ∙ serves_asked w.records q.head j.items x (cuts-keep resolves cut-resolves None q.items j.items b.resolved cuts)

low-cuts : (q : Asking) (t : ℕ) (js : List Item) → (q.head.at.0 ≤ t) ⊎ Each DoesNothing q.items → Each (IsCut q.items) js → (q.head.at.0 ≤ t) ⊎ Each DoesNothing js
low-cuts q t js (inl low) cuts = inl low
low-cuts q t js (inr all) cuts = inr (cuts-keep does_nothing cut-nothing true q.items js all cuts)

through : (q : Asking) (t floor : ℕ) → IsBeside q t floor → (first : Store) → Ascends key_of first.cells → ((k : List ℕ) → held 0 (content_at k first.cells) ≡ []) → (hs : List Happening) (got : List Accepted) (w v : World) (p : Store)
    → open_stamp p.txn ≡ t → SeesAs q.head.at.0 p first → Each IsTold hs → Each (IsHigh floor) hs → AllOf q got hs → Runs w hs v → Means w p → Through q v p first hs
through q t floor b first asc free [] got w v p stamp sees kept high of runs m = record { means = subst (λ z. Means z p) (sym runs) m; replies = tt }
through q t floor b first asc free (Moved e ∷ hs) got w v p stamp sees kept high of runs m =
    let now = subst (λ z. Means z (after_event e p)) (sym runs.1) (moves_mean w p e floor high.0 (subst (λ n. n ≤ floor) (sym stamp) b.open_within) m) in
    let cells = made-cells (Moved e ∷ []) p m.rising in
    let txn = event-txn e p in
    let r = through q t floor b first asc free hs got runs.0 v (after_event e p) (ap open_stamp txn.0 ∙ event-stamp e p.txn ∙ stamp)
    (λ k. ap (λ (c : Content). version_at q.head.at.0 c.versions) (cells.1 k ∙ ap (λ us. with_versions us (content_at k p.cells)) (append-nil (writes_by k e))) ∙ version-after q.head.at.0 (content_at k p.cells).versions (writes_by k e) (event-above q.head.at.0 floor e k high.0 b.within) ∙ sees k)
    kept.1 high.1 of runs.2 now in
    record { means = r.means; replies = r.replies }
through q t floor b first asc free (Did (Look k d (Looked.Rows infos)) ∷ hs) got w v p stamp sees kept high of runs m =
    let r = through q t floor b first asc free hs (got ++ []) runs.0 v p stamp sees kept.1 high.1 of.1 runs.2 (means-shown w runs.0 p (look-shows w runs.0 k d (told w (Look k d (Looked.Rows infos)) runs.0 runs.1).1 m.keeps) m) in
    record { means = r.means; replies = r.replies }
through q t floor b first asc free (Did (Look k d Looked.Lost) ∷ hs) got w v p stamp sees kept high of runs m =
    let r = through q t floor b first asc free hs (got ++ []) runs.0 v p stamp sees kept.1 high.1 of.1 runs.2 (subst (λ z. Means z p) (sym (told w (Look k d Looked.Lost) runs.0 runs.1).0) m) in
    record { means = r.means; replies = r.replies }
through q t floor b first asc free (Did (Send n j (Done rs)) ∷ hs) got w v p stamp sees kept high of runs m =
    let x = told w (Send n j (Done rs)) runs.0 runs.1 in
    let head = unlimited-head q got j b.left of.0 in
    let still = cuts-still q.items j.items b.still of.0.cuts in
    let sv = served-shows w runs.0 n j rs (piece-endless q (left_of q got) j b.endless of.0) m.keeps (service w n j rs x.0) x.1 in
    let gives = sym (asked-beside q t floor w runs.0 j rs b of.0.cuts head sv.held) ∙ sv.gives in
    let says : (k : List ℕ) → (items_at k j.items ≡ []) ⊎ SaysSame q.head (IsFine q.head.at.0 t) (content_at k sv.held) (content_at k first.cells) =
    λ k. elim (sv.at k) [
      | inl here ↦ inr (subst (λ c. SaysSame q.head (IsFine q.head.at.0 t) c (content_at k first.cells)) (sym here.there) (says-same q w p first t k b.alone m stamp sees (free k)))
      | inr far ↦ inl far.none
    ]
    in
    let r = through q t floor b first asc free hs (got ++ pairs j.head j.items rs) runs.0 v p stamp sees kept.1 high.1 of.1 runs.2 (means-shown w runs.0 p (piece-shows q w runs.0 p j rs m still head sv gives) m) in
    record {
      means = r.means;
      replies = each-append (IsTurnReply q first.cells) (pairs j.head j.items rs) (accepted hs)
          (subst (λ h. Each (IsTurnReply q first.cells) (pairs h j.items rs)) (sym head)
          (still-replies q first.cells (IsFine q.head.at.0 t) b.still j.items sv.held sv.out sv.writes rs sv.ascends asc still (each-with q.head.at.0 t j.items still (low-cuts q t j.items b.low of.0.cuts)) says gives)) r.replies;
    }
through q t floor b first asc free (Did (Send n j (Failed f)) ∷ hs) got w v p stamp sees kept high of runs m =
    let x = told w (Send n j (Failed f)) runs.0 runs.1 in
    let r = through q t floor b first asc free hs (got ++ []) runs.0 v p stamp sees kept.1 high.1 of.1 runs.2 (subst (λ z. Means z p) (undone-stays w runs.0 n j (Failed f) (failed-not-done f) x.0 x.1) m) in
    record { means = r.means; replies = r.replies }
through q t floor b first asc free (Did (Send n j (Refused f)) ∷ hs) got w v p stamp sees kept high of runs m =
    let x = told w (Send n j (Refused f)) runs.0 runs.1 in
    let r = through q t floor b first asc free hs (got ++ []) runs.0 v p stamp sees kept.1 high.1 of.1 runs.2 (subst (λ z. Means z p) (undone-stays w runs.0 n j (Refused f) (refused-not-done f) x.0 x.1) m) in
    record { means = r.means; replies = r.replies }
through q t floor b first asc free (Did (Send n j Lost) ∷ hs) got w v p stamp sees kept high of runs m = absurd kept.0

-- from the store that the world means
through-call : (q : Asking) (a : Stands) (v : World) (p : Store) (hs : List Happening) → Calling q a v p hs → IsBeside q (open_stamp p.txn) a.floor → Through q v p p hs
through-call q a v p hs c b = through q (open_stamp p.txn) a.floor b p c.means.rising (store-free a.world p c.means) hs [] a.world v p refl (λ k. refl) c.kept c.high c.of c.runs c.means

-- ---- what it is answered

pub beside-stays : (q : Asking) (a : Stands) (v : World) (p : Store) (hs : List Happening) → Calling q a v p hs → IsBeside q (open_stamp p.txn) a.floor → Means v (after_made hs p)
beside-stays q a v p hs c b = (through-call q a v p hs c b).means

-- other cells with the same at each key
means-cells : (hs : List Happening) (v : World) (p : Store) (cells : Cells) → Ascends key_of p.cells → Ascends key_of cells → ((k : List ℕ) → content_at k cells ≡ content_at k p.cells) → Means v (after_made hs p) → Means v (after_made hs (record p { cells = cells }))
means-cells hs v p cells asc ascends same m =
    let old = made-cells hs p asc in
    let new = made-cells hs (record p { cells = cells }) ascends in
    let txn = (made-txn hs p).0 ∙ sym (made-txn hs (record p { cells = cells })).0 in
    let begun = (made-txn hs p).1 ∙ sym (made-txn hs (record p { cells = cells })).1 in
    record {
      keeps = m.keeps;
      rising = new.0;
      keys = λ k.
          subst (λ o. KeyStands o (cell_of v k) (content_at k (after_made hs (record p { cells = cells })).cells)) txn
          (subst (KeyStands (after_made hs p).txn (cell_of v k)) (old.1 k ∙ ap (with_versions (writes_at k hs)) (sym (same k)) ∙ sym (new.1 k)) (m.keys k));
      records = subst (λ o. RecordsFit o (after_made hs (record p { cells = cells })).begun v.records) txn (subst (λ n. RecordsFit (after_made hs p).txn n v.records) begun m.records);
      copies = m.copies;
    }

pub beside-answers : (q : Asking) (a : Stands) (v : World) (p : Store) (hs : List Happening) (replies : List Reply) → Calling q a v p hs → IsBeside q (open_stamp p.txn) a.floor → CameWhole q hs replies → OkLeads q v p hs p.txn replies
beside-answers q a v p hs replies c b came =
    let r = through-call q a v p hs c b in
    let asc = c.means.rising in
    let given = keys_give q.head q.items p.cells asc (λ k. none-refused (at_of q.head 0) (items_at k q.items) (content_at k p.cells) (each-at IsStill k q.items b.still)) in
    let keys = gives_at_keys q.head q.items p.cells given.0 given.1 given.2 asc given.3 in
    let same : replies ≡ given.2 = gathered_asks q.head q.items p.cells given.0 given.1 given.2 replies (accepted hs) asc given.3 (replies_in_turn q p.cells (accepted hs) r.replies) came.gathered in
    record {
      cells = given.0;
      writes = given.1;
      gives = given.3 ∙ ap (Gives given.0 given.1) (sym same);
      means =
          means-cells hs v p (finished q.head given.1 given.0) asc (finished-ascends q.head q.head.txn given.1 given.0 keys.0)
          (λ k.
          still-unsettled q.head q.head.txn q.items p.cells given.0 given.1 given.2 k asc given.3 b.still (store-free a.world p c.means k) ∙ (keys.1 k).1
          ∙ items-stay (at_of q.head 0) (items_at k q.items) (content_at k p.cells) (each-at IsStill k q.items b.still))
          r.means;
    }

-- before a step that failed, which it did by the record
pub record BesideFails (q : Asking) (p : Store) (f : Failure) (hs : List Happening) (l : LastFails f hs) : Type 0 where
  pub world : World
  pub fits : RecordsFit (txn_after l.before p.txn) p.begun world.records
  pub head : l.piece.head ≡ q.head
  pub status : status_of world l.piece ≡ Some f

pub beside-fails : (q : Asking) (a : Stands) (v : World) (p : Store) (f : Failure) (hs : List Happening) (l : LastFails f hs) → Calling q a v p hs → IsBeside q (open_stamp p.txn) a.floor → BesideFails q p f hs l
beside-fails q a v p f hs l c b = record {
  world = cut.0;
  fits = subst (λ o. RecordsFit o p.begun cut.0.records) (made-txn l.before p).0 (subst (λ n. RecordsFit (after_made l.before p).txn n cut.0.records) (made-txn l.before p).1 means.records);
  head = head;
  status = by (why cut.0 l.node l.piece f (told cut.0 (Send l.node l.piece (Failed f)) cut.2.0 cut.2.1).0);
}
  where
    step : List Happening
    step = Did (Send l.node l.piece (Failed f)) ∷ []

    all : AllOf q [] (l.before ++ step)
    all = subst (AllOf q []) l.last c.of

    cut : (m : World) × Runs a.world l.before m × Runs m step v
    cut = runs-cut a.world v l.before step (subst (λ zs. Runs a.world zs v) l.last c.runs)

    means : Means cut.0 (after_made l.before p)
    means = (through q (open_stamp p.txn) a.floor b p c.means.rising (store-free a.world p c.means) l.before [] a.world cut.0 p refl (λ k. refl)
        (each-left IsTold l.before step (subst (Each IsTold) l.last c.kept)) (each-left (IsHigh a.floor) l.before step (subst (Each (IsHigh a.floor)) l.last c.high)) (of-first q l.before step [] all) cut.1 c.means).means

    of : PieceOf q (left_of q ([] ++ accepted l.before)) l.piece
    of = (of-later q l.before step [] all).0

    head : l.piece.head ≡ q.head
    head = unlimited-head q ([] ++ accepted l.before) l.piece b.left of

    by : Why cut.0 l.node l.piece f → status_of cut.0 l.piece ≡ Some f
    by (ByRecord is) = is
    by (ByItem r found goes fails) =
        let asc : Ascends key_of r.cells = (found-fits (has_id l.piece.range) [] cut.0.ranges r means.keeps.tiled found).rising in
        absurd (never-fails q.head l.piece.items r.cells f asc (cuts-still q.items l.piece.items b.still of.cuts) (sym (asked-beside q (open_stamp p.txn) a.floor cut.0 v l.piece [] b of.cuts head r.cells) ∙ fails))
