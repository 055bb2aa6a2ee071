-- What a delivered piece makes of a batch under way.
use Rattle.std.proofs.Common.{◌≡◌, ℕ, ◌<◌, ◌≤◌, ◌⊎◌, inl, inr, Bool, true, false, cond, List, [], ◌∷◌, ◌++◌, map, None, refl, sym, ap, ◌∙◌, subst, arith}
use Rattle.std.proofs.lemmas.Bool.{eqb-true}
use Rattle.std.proofs.lemmas.List.{append-nil}
use Rattle.ds_base.specs.Order.{key_lt}
use Rattle.ds_base.specs.Ordered.{Ascends}
use Rattle.ds_kind.specs.Request.{span_of}
use Rattle.ds_kind.specs.declared.batch.Head.{Head}
use Rattle.ds_kind.specs.declared.request.Request.{Request}
use Rattle.ds_kind.specs.declared.batch.Item.{Item}
use Rattle.ds_kind.specs.declared.reply.Failure.{Failure}
use Rattle.ds_kind.specs.declared.reply.Reply.{Reply}
use Rattle.ds_cell.specs.declared.entry.At.{At}
use Rattle.ds_cell.specs.declared.entry.Version.{Version}
use Rattle.ds_cell.specs.declared.verdict.ActFault.{ActFault}
use Rattle.ds_cell.specs.declared.verdict.Verdict.TheVariants.{Refuse}
use Rattle.ds_cell.specs.Ask.{Cells, key_of, Asked, Failed, Gave, content_at}
use Rattle.ds_cell.specs.Content.{Content, AllAbove, Rises}
use Rattle.ds_cell.specs.Deed.{IsBitOf}
use Rattle.ds_cell.specs.Replies.{body_of}
use Rattle.ds_cell.specs.RepeatProofs.{kept}
use Rattle.ds_cell.specs.Requests.{ask_request}
use Rattle.ds_cell.specs.Store.{WriteAt, write_all, under_number}
use Rattle.ds_rule.specs.Asking.{Asking, Made, Gives, Fails, and_before, and_then, made_by, ask_item, ask_all, at_of, failure_of}
use Rattle.ds_rule.specs.Serve.{resolves, resolved_for, and_left, serve}
use Rattle.ds_rule.specs.declared.record.TxnRecord.{TxnRecord}
use Rattle.ds_rule.specs.Gathered.{begins_at, put_by_start, by_start, is_at, at_position}
use Rattle.ds_rule.specs.Journal.{Accepted, pairs}
use Rattle.ds_rule.specs.Pieces.{Each, position_of}
use Rattle.ds_rule.specs.Turn.{TurnFails, IsNoRefusal, speaks_of, items_at, verdict, after_item, after_items, turn_of}
use Rattle.ds_turn.specs.Alone.{IsTooOld}
use Rattle.ds_turn.specs.Course.{ByBatch, Course, CourseGives, course_after, foreign_writes, with_versions}
use Rattle.ds_turn.specs.Deliveries.{ServesAsked, BatchAnswers, FailsInTurn, IsTurnReply, PieceFails, PieceGoes, PieceReplies, RepliesInTurn, Serves}
use Rattle.ds_turn.specs.Partway.{NumbersInOrder, Partway}
use Rattle.ds_turn.specs.Progress.{BatchPartway, GoesTo, IsAgain}
use Rattle.ds_turn.specs.Replies.{Answers, ComesAt}
use Rattle.ds_turn.proofs.Again.{partway_again}
use Rattle.ds_turn.proofs.Parts.{part-verdict, rise-held}
use Rattle.ds_turn.proofs.Failing.{at-true, at-false, first-item, stands_at}
use Rattle.ds_turn.proofs.Keys.{failed-failure, IsDone, request-done, request-refused, before-fails, gives_at_keys, made-parts}
use Rattle.ds_turn.proofs.Progress.{batch_ends, again-still, next-acts, one-more, placed, goes-rest, put-there, progress_kept}
use Rattle.ds_turn.proofs.Refusing.{acts-turn, acts-course, acts-writes, acts-foreign, partway_refused}
use Rattle.ds_turn.proofs.Replies.{gathered_asks, answers_in_turn, cut_answers, rest-given}

-- served as a store is asked

asked-step : (records : List TxnRecord) (h : Head) (r : Request) (js : List Item) (m : Made) → resolves r ≡ None → ((x : Cells) → serve records h None js x ≡ ask_all h js x)
    → and_left records None r m (λ rest now. serve records h rest js now) ≡ and_then m (ask_all h js)
asked-step records h r js (Fails f) none later = refl
asked-step records h r js (Gives out ws rs) none later =
    ap (and_before ws rs) (ap (λ o. serve records h None js (resolved_for records (span_of r) o out)) none ∙ later out)

pub serves_asked : ServesAsked
serves_asked records h [] x none = refl
serves_asked records h (j ∷ js) x none = asked-step records h j.request js (ask_item h j x) none.0 (λ out. serves_asked records h js out none.1)

-- a list whose positions rise is split in one way at a position

above-in : (m : ℕ) (us : List Item) (w : Item) (vs : List Item) → AllAbove position_of m (us ++ w ∷ vs) → m < w.pos
above-in m [] w vs all = all.0
above-in m (u ∷ us) w vs all = above-in m us w vs all.1

split-one : (xs : List Item) (i : Item) (ys us : List Item) (w : Item) (vs : List Item) → Rises position_of (xs ++ i ∷ ys) → xs ++ i ∷ ys ≡ us ++ w ∷ vs → i.pos ≡ w.pos → (xs ≡ us) × (i ≡ w)
split-one [] i ys [] w vs r e same = (refl, (first-item i w ys vs e).0)
split-one [] i ys (u ∷ us) w vs r e same =
    let both = first-item i u ys (us ++ w ∷ vs) e in
    let low : i.pos < w.pos = above-in i.pos us w vs (subst (AllAbove position_of i.pos) both.1 r.0) in
    absurd (omega (arith, low, same))
split-one (x ∷ xs) i ys [] w vs r e same =
    let both = first-item x w (xs ++ i ∷ ys) vs e in
    let low : x.pos < i.pos = above-in x.pos xs i ys r.0 in
    let here : x.pos ≡ w.pos = ap position_of both.0 in
    absurd (omega (arith, low, same, here))
split-one (x ∷ xs) i ys (u ∷ us) w vs r e same =
    let both = first-item x u (xs ++ i ∷ ys) (us ++ w ∷ vs) e in
    let rest = split-one xs i ys us w vs r.1 both.1 same in
    (ap (λ z. z ∷ xs) both.0 ∙ ap (λ zs. u ∷ zs) rest.0, rest.1)

-- one key, as the piece's items act there one after another

pub record StandsNow (s : ℕ) (a : At) (items js : List Item) (vs : List Version) (c d : Content) : Type 0 where
  pub acted : List Item
  pub rest : List Item
  pub after : List Item
  pub partway : Partway s a acted vs c d
  pub all : items ≡ acted ++ rest
  pub goes : GoesTo (map ByBatch js) acted rest after

comes-of : (j : Item) (bs : Course) (acted rest after : List Item) → GoesTo (ByBatch j ∷ bs) acted rest after → ComesAt acted rest j
comes-of j bs acted [] after goes = goes.0
comes-of j bs acted (i ∷ rest) after (inl again) = inl again.0
comes-of j bs acted (i ∷ rest) after (inr next) = inr next.0

next-stands : (s : ℕ) (a : At) (items : List Item) (j : Item) (js : List Item) (vs : List Version) (c d : Content) → a.stamp.0 ≤ s → NumbersInOrder items → IsNoRefusal (verdict a j c) → StandsNow s a items (j ∷ js) vs c d → StandsNow s a items js vs (after_item a j c) d
next-stands s a items j js vs c d low numbers fine h = by h.acted h.rest h.after h.partway h.all h.goes
  where
    again : (acted rest after : List Item) → Partway s a acted vs c d → items ≡ acted ++ rest → IsAgain acted j → GoesTo (map ByBatch js) acted rest after → StandsNow s a items js vs (after_item a j c) d
    again acted rest after m all one goes = record {
      acted = acted;
      rest = rest;
      after = after;
      partway = subst (λ e. Partway s a acted vs e d) (sym (again-still s a j acted vs c d m low one)) m;
      all = all;
      goes = goes;
    }

    by : (acted rest after : List Item) → Partway s a acted vs c d → items ≡ acted ++ rest → GoesTo (ByBatch j ∷ map ByBatch js) acted rest after → StandsNow s a items js vs (after_item a j c) d
    by acted [] after m all goes = again acted [] after m all goes.0 goes.1
    by acted (i ∷ rest) after m all (inl one) = again acted (i ∷ rest) after m all one.0 one.1
    by acted (i ∷ rest) after m all (inr next) = record {
      acted = acted ++ i ∷ [];
      rest = rest;
      after = after;
      partway = next-acts s a j i acted rest vs c d m low (subst NumbersInOrder all numbers) next.0 fine;
      all = all ∙ one-more acted i rest;
      goes = next.1;
    }

-- all keys

abbrev StandsAll : ℕ → Asking → (List ℕ → List Version) → Cells → List Item → Cells → Type 0
StandsAll s q vs cells js x =
    (k : List ℕ) → (items_at k js ≡ []) ⊎ StandsNow s (at_of q.head 0) (items_at k q.items) (items_at k js) (vs k) (content_at k x) (content_at k cells)

cons-nil : {G : Type 0} (j : Item) (js : List Item) → ◌≡◌ {A = List Item} (j ∷ js) [] → G
cons-nil j js h = cc

-- at a key that the first item holds
first-stands : (s : ℕ) (q : Asking) (vs : List ℕ → List Version) (cells : Cells) (j : Item) (js : List Item) (x : Cells) → StandsAll s q vs cells (j ∷ js) x → (k : List ℕ) → speaks_of k j ≡ true
    → StandsNow s (at_of q.head 0) (items_at k q.items) (j ∷ items_at k js) (vs k) (content_at k x) (content_at k cells)
first-stands s q vs cells j js x all k here =
    elim (all k) [
      | inl none ↦ cons-nil j (items_at k js) (sym (at-true k j js here) ∙ none)
      | inr stands ↦ subst (λ zs. StandsNow s (at_of q.head 0) (items_at k q.items) zs (vs k) (content_at k x) (content_at k cells)) (at-true k j js here) stands
    ]

rest-stand : (s : ℕ) (q : Asking) (vs : List ℕ → List Version) (cells : Cells) (j : Item) (js : List Item) (x next : Cells) → q.head.at.0 ≤ s → NumbersInOrder q.items
    → ((k : List ℕ) → IsDone j.request (at_of q.head j.seq.0) x next k (speaks_of k j)) → StandsAll s q vs cells (j ∷ js) x → StandsAll s q vs cells js next
rest-stand s q vs cells j js x next low numbers done all k = by (speaks_of k j) refl (done k)
  where
    by : (t : Bool) → speaks_of k j ≡ t → IsDone j.request (at_of q.head j.seq.0) x next k t → (items_at k js ≡ []) ⊎ StandsNow s (at_of q.head 0) (items_at k q.items) (items_at k js) (vs k) (content_at k next) (content_at k cells)
    by true here one =
        inr (subst (λ c. StandsNow s (at_of q.head 0) (items_at k q.items) (items_at k js) (vs k) c (content_at k cells)) (sym one.1)
        (next-stands s (at_of q.head 0) (items_at k q.items) j (items_at k js) (vs k) (content_at k x) (content_at k cells) low (rise-held k q.items numbers) one.0
        (first-stands s q vs cells j js x all k here)))
    by false here one =
        elim (all k) [
          | inl none ↦ inl (sym (at-false k j js here) ∙ none)
          | inr stands ↦
              inr (subst (λ c. StandsNow s (at_of q.head 0) (items_at k q.items) (items_at k js) (vs k) c (content_at k cells)) (sym one)
              (subst (λ zs. StandsNow s (at_of q.head 0) (items_at k q.items) zs (vs k) (content_at k x) (content_at k cells)) (at-false k j js here) stands))
        ]

-- the items before one at a key are those of the batch before it that hold the key
front-at : (k : List ℕ) (items front : List Item) (i : Item) (back xs : List Item) (w : Item) (ys : List Item) → Rises position_of items → items ≡ front ++ i ∷ back
    → items_at k items ≡ xs ++ w ∷ ys → i.pos ≡ w.pos → xs ≡ items_at k front
front-at k items front i back xs w ys rises is here same =
    let place = stands_at k items xs w ys here in
    let one : front ≡ place.front = (split-one front i back place.front w place.back (subst (Rises position_of) is rises) (sym is ∙ place.is) same).0 in
    sym place.before ∙ ap (items_at k) (sym one)

-- the first item's answer at a key is that of its turn
turn-at : (s : ℕ) (q : Asking) (vs : List Version) (j : Item) (js : List Item) (c d : Content) (k : List ℕ) → q.head.at.0 ≤ s → Rises position_of q.items → NumbersInOrder q.items
    → StandsNow s (at_of q.head 0) (items_at k q.items) (j ∷ js) vs c d → IsNoRefusal (verdict (at_of q.head 0) j c)
    → (front : List Item) (i : Item) (back : List Item) → q.items ≡ front ++ i ∷ back → i.pos ≡ j.pos
    → kept (verdict (at_of q.head 0) j c) ≡ kept (verdict (at_of q.head 0) j (after_items (at_of q.head 0) (items_at k front) d))
turn-at s q vs j js c d k low rises numbers h fine front i back is same =
    let a = at_of q.head 0 in
    let t = answers_in_turn s a h.acted h.rest vs c d j h.partway low (subst NumbersInOrder h.all (rise-held k q.items numbers)) (comes-of j (map ByBatch js) h.acted h.rest h.after h.goes) fine in
    let mine : verdict a j (after_items a t.front d) ≡ verdict a t.item (after_items a t.front d) = part-verdict a j t.item (after_items a t.front d) t.same in
    let there : t.front ≡ items_at k front = front-at k q.items front i back t.front t.item t.back rises is (h.all ∙ t.is) (same ∙ t.same.position) in
    let turned : kept (verdict a j c) ≡ kept (verdict a j (after_items a t.front d)) = t.answers ∙ ap kept (sym mine) in
    turned ∙ ap (λ zs. kept (verdict a j (after_items a zs d))) there

first_reply : (s : ℕ) (q : Asking) (vs : List ℕ → List Version) (cells : Cells) (j : Item) (js : List Item) (x : Cells) (r : Reply) → q.head.at.0 ≤ s → Rises position_of q.items → NumbersInOrder q.items → Ascends key_of x → Ascends key_of cells
    → StandsAll s q vs cells (j ∷ js) x → (ans : Answers q.head j x r.body) → IsTurnReply q cells (record { head = q.head; item = j; reply = r })
first_reply s q vs cells j js x r low rises numbers asc ascends all ans front i back y us ts is same before =
    let a = at_of q.head 0 in
    let done = request-done j.request (at_of q.head j.seq.0) x ans.bits ans.writes asc ans.gave in
    let keys = gives_at_keys q.head front cells y us ts ascends before in
    cut_answers q.head j x y r.body asc keys.0 ans
    (λ k here.
    let one : IsDone j.request (at_of q.head j.seq.0) x (write_all (at_of q.head j.seq.0) ans.writes x) k true = subst (IsDone j.request (at_of q.head j.seq.0) x (write_all (at_of q.head j.seq.0) ans.writes x) k) here (done.1 k) in
    turn-at s q (vs k) j (items_at k js) (content_at k x) (content_at k cells) k low rises numbers (first-stands s q vs cells j js x all k here) one.0 front i back is same
    ∙ ap (λ c. kept (verdict a j c)) (sym (keys.1 k).1))

replies-from : (s : ℕ) (q : Asking) (vs : List ℕ → List Version) (cells : Cells) (js : List Item) (x out : Cells) (ws : List WriteAt) (rs : List Reply) → q.head.at.0 ≤ s → Rises position_of q.items → NumbersInOrder q.items → Ascends key_of x → Ascends key_of cells
    → StandsAll s q vs cells js x → ask_all q.head js x ≡ Gives out ws rs → Each (IsTurnReply q cells) (pairs q.head js rs)
replies-from s q vs cells [] x out ws rs low rises numbers asc ascends all e = tt
replies-from s q vs cells (j ∷ js) x out ws rs low rises numbers asc ascends all e =
    let at = at_of q.head j.seq.0 in
    let parts = made-parts q.head j (ask_request j.request at x) x js out ws rs e in
    let reply : Reply = record { body = body_of j.request parts.0; resume = None } in
    let rest = rest-given (under_number at parts.1) reply (ask_all q.head js (write_all at parts.1 x)) out ws rs (sym (ap (λ a. and_then (made_by q.head j a x) (ask_all q.head js)) parts.2) ∙ e) in
    let done = request-done j.request at x parts.0 parts.1 asc parts.2 in
    let first : Answers q.head j x reply.body = record { bits = parts.0; writes = parts.1; gave = parts.2; is = refl } in
    subst (λ zs. Each (IsTurnReply q cells) (pairs q.head (j ∷ js) zs)) (sym rest.3) (
      first_reply s q vs cells j js x reply low rises numbers asc ascends all first,
      replies-from s q vs cells js (write_all at parts.1 x) out rest.0 rest.1 low rises numbers done.0 ascends (rest-stand s q vs cells j js x (write_all at parts.1 x) low numbers done.1 all) rest.2,
    )

pub piece_goes : PieceGoes
piece_goes s q acted after vs world now cells b low numbers js x out ws rs serves e leaves = record {
  ascends = b.ascends;
  at = λ k. (arrives k).0;
  rest = λ k. (arrives k).1;
  front = λ k. (arrives k).2;
}
  where
    a : At
    a = at_of q.head 0

    Arrives : List ℕ → Type 0
    Arrives k = Partway s a (after k) (vs k) (now k) (content_at k cells) × (more : List Item) × (items_at k q.items ≡ after k ++ more)

    still : (k : List ℕ) → items_at k js ≡ [] → now k ≡ world k → Arrives k
    still k none same =
        let goes : acted k ≡ after k = subst (λ zs. GoesTo (map ByBatch zs) (acted k) (b.rest k) (after k)) none (serves.goes k) in (
          subst (λ zs. Partway s a zs (vs k) (now k) (content_at k cells)) goes (subst (λ c. Partway s a (acted k) (vs k) c (content_at k cells)) (sym same) (b.at k)),
          b.rest k,
          b.front k ∙ ap (λ zs. zs ++ b.rest k) goes,
        )

    served : (k : List ℕ) → content_at k x ≡ world k → now k ≡ content_at k out → Arrives k
    served k there left =
        let keys = (gives_at_keys q.head js x out ws rs serves.ascends e).1 k in
        let zs = items_at k js in
        let numbered : NumbersInOrder (acted k ++ b.rest k) = subst NumbersInOrder (b.front k) (rise-held k q.items numbers) in
        let gives : CourseGives a (map ByBatch zs) (world k) = record { bits = keys.0.bits; writes = keys.0.writes; gives = acts-turn a zs (world k) ∙ ap (turn_of a zs) (sym there) ∙ keys.0.gives } in
        let moved = progress_kept s a (map ByBatch zs) (acted k) (b.rest k) (after k) (vs k) (world k) (content_at k cells) (b.at k) low (acts-foreign s zs) numbered (serves.goes k) gives in
        let there-now : course_after a (map ByBatch zs) (world k) ≡ now k = acts-course a zs (world k) ∙ ap (after_items a zs) (sym there) ∙ sym keys.1 ∙ sym left in
        let rest = goes-rest (map ByBatch zs) (acted k) (b.rest k) (after k) (serves.goes k) in (
          subst (λ us. Partway s a (after k) us (now k) (content_at k cells)) (ap (λ us. vs k ++ us) (acts-writes zs) ∙ append-nil (vs k))
              (subst (λ c. Partway s a (after k) (vs k ++ foreign_writes (map ByBatch zs)) c (content_at k cells)) there-now moved),
          rest.0,
          b.front k ∙ rest.1,
        )

    arrives : (k : List ℕ) → Arrives k
    arrives k = elim (leaves k) [
      | inl none ↦ still k none.0 none.1
      | inr there ↦ served k there.0 there.1
    ]

-- a failure

refused-now : (s : ℕ) (a : At) (items : List Item) (j : Item) (js : List Item) (vs : List Version) (c d : Content) (f : ActFault) → a.stamp.0 ≤ s → StandsNow s a items (j ∷ js) vs c d → verdict a j c ≡ Refuse f
    → ((IsTooOld f → ⊥) → turn_of a items d ≡ TurnFails j.pos f) × (IsTooOld f → turn_of a items (with_versions vs d) ≡ TurnFails j.pos f)
refused-now s a items j js vs c d f low h refused = by h.acted h.rest h.partway h.all (comes-of j (map ByBatch js) h.acted h.rest h.after h.goes)
  where
    Fails-so : Type 0
    Fails-so = ((IsTooOld f → ⊥) → turn_of a items d ≡ TurnFails j.pos f) × (IsTooOld f → turn_of a items (with_versions vs d) ≡ TurnFails j.pos f)

    not-again : (acted : List Item) → Partway s a acted vs c d → IsAgain acted j → ⊥
    not-again acted m again =
        let p = placed acted again.first again.one in
        let bit = (partway_again s a acted vs c d p.front again.first p.back m low p.is).0 in
        subst (λ v. IsBitOf v bit.0) (sym (part-verdict a j again.first c again.same) ∙ refused) bit.2

    by : (acted rest : List Item) → Partway s a acted vs c d → items ≡ acted ++ rest → ComesAt acted rest j → Fails-so
    by acted [] m all again = absurd (not-again acted m again)
    by acted (i ∷ rest) m all (inl again) = absurd (not-again acted m again)
    by acted (i ∷ rest) m all (inr next) =
        let parts = partway_refused s a acted vs c d i rest f m low (sym (part-verdict a j i c next) ∙ refused) in (
          λ young. ap (λ zs. turn_of a zs d) all ∙ parts.0 young ∙ ap (λ n. TurnFails n f) (sym next.position),
          λ old. ap (λ zs. turn_of a zs (with_versions vs d)) all ∙ parts.1 old ∙ ap (λ n. TurnFails n f) (sym next.position),
        )

fails-from : (s : ℕ) (q : Asking) (vs : List ℕ → List Version) (cells : Cells) (js : List Item) (x : Cells) (failure : Failure) → q.head.at.0 ≤ s → NumbersInOrder q.items → Ascends key_of x → Ascends key_of cells
    → StandsAll s q vs cells js x → ask_all q.head js x ≡ Fails failure → FailsInTurn q vs cells failure
fails-from s q vs cells [] x failure low numbers asc ascends all e = cc
fails-from s q vs cells (j ∷ js) x failure low numbers asc ascends all e =
    by (λ next up stand rest. fails-from s q vs cells js next failure low numbers up ascends stand rest) (ask_request j.request (at_of q.head j.seq.0) x) refl
  where
    by : ((next : Cells) → Ascends key_of next → StandsAll s q vs cells js next → ask_all q.head js next ≡ Fails failure → FailsInTurn q vs cells failure) → (a : Asked) → ask_request j.request (at_of q.head j.seq.0) x ≡ a → FailsInTurn q vs cells failure
    by again (Failed k f) is =
        let there = request-refused j.request (at_of q.head j.seq.0) x k f asc is in
        let parts = refused-now s (at_of q.head 0) (items_at k q.items) j (items_at k js) (vs k) (content_at k x) (content_at k cells) f low (first-stands s q vs cells j js x all k there.0) there.1 in
        record {
          key = k;
          position = j.pos;
          fault = f;
          says = failed-failure (failure_of j.pos k f) failure (sym (ap (λ a. and_then (made_by q.head j a x) (ask_all q.head js)) is) ∙ e);
          young = parts.0;
          old = λ t. ap (turn_of (at_of q.head 0) (items_at k q.items)) (put-there k (with_versions (vs k)) cells ascends) ∙ parts.1 t;
        }
    by again (Gave bs us) is =
        let next = write_all (at_of q.head j.seq.0) us x in
        let done = request-done j.request (at_of q.head j.seq.0) x bs us asc is in
        again next done.0 (rest-stand s q vs cells j js x next low numbers done.1 all)
        (before-fails (under_number (at_of q.head j.seq.0) us) (record { body = body_of j.request bs; resume = None } ∷ []) (ask_all q.head js next) failure (sym (ap (λ a. and_then (made_by q.head j a x) (ask_all q.head js)) is) ∙ e))

stands-first : (s : ℕ) (q : Asking) (acted after : List ℕ → List Item) (vs : List ℕ → List Version) (world : List ℕ → Content) (cells : Cells) (b : BatchPartway s q acted vs world cells) (js : List Item) (x : Cells)
    → Serves q acted b.rest after world js x → StandsAll s q vs cells js x
stands-first s q acted after vs world cells b js x serves k = elim (serves.there k) [
  | inl none ↦ inl none
  | inr same ↦ inr (record {
    acted = acted k;
    rest = b.rest k;
    after = after k;
    partway = subst (λ c. Partway s (at_of q.head 0) (acted k) (vs k) c (content_at k cells)) (sym same) (b.at k);
    all = b.front k;
    goes = serves.goes k;
  })
]

pub piece_fails : PieceFails
piece_fails s q acted after vs world cells b low numbers js x failure serves e =
    fails-from s q vs cells js x failure low numbers serves.ascends b.ascends (stands-first s q acted after vs world cells b js x serves) e

pub piece_replies : PieceReplies
piece_replies s q acted after vs world cells b low rises numbers js x out ws rs serves e =
    replies-from s q vs cells js x out ws rs low rises numbers serves.ascends b.ascends (stands-first s q acted after vs world cells b js x serves) e

-- what holds of all holds of those at a position, in any order

each-put : (P : Accepted → Type 0) (a : Accepted) (xs : List Accepted) → P a → Each P xs → Each P (put_by_start a xs)
each-put P a [] here all = (here, tt)
each-put P a (b ∷ bs) here all =
    elim (key_lt (begins_at b) (begins_at a)) as (λ t. Each P (cond t (b ∷ put_by_start a bs) (a ∷ b ∷ bs))) [
      | true ↦ (all.0, each-put P a bs here all.1)
      | false ↦ (here, all)
    ]

each-sorted : (P : Accepted → Type 0) (xs : List Accepted) → Each P xs → Each P (by_start xs)
each-sorted P [] all = tt
each-sorted P (a ∷ xs) all = each-put P a (by_start xs) all.0 (each-sorted P xs all.1)

each-turn : (q : Asking) (cells : Cells) (got : List Accepted) → Each (IsTurnReply q cells) got
    → (front : List Item) (i : Item) (back : List Item) (y : Cells) (us : List WriteAt) (ts : List Reply) → q.items ≡ front ++ i ∷ back → ask_all q.head front cells ≡ Gives y us ts
    → Each (λ a. Answers q.head a.item y a.reply.body) (at_position i.pos got)
each-turn q cells [] all front i back y us ts is before = tt
each-turn q cells (a ∷ got) all front i back y us ts is before =
    let rest = each-turn q cells got all.1 front i back y us ts is before in
    elim (is_at i.pos a) as (λ t. is_at i.pos a ≡ t → Each (λ a. Answers q.head a.item y a.reply.body) (cond t (a ∷ at_position i.pos got) (at_position i.pos got))) [
      | true ↦ λ h. (all.0 front i back y us ts is (sym (eqb-true _ _ h)) before, rest)
      | false ↦ λ h. rest
    ] refl

pub replies_in_turn : RepliesInTurn
replies_in_turn q cells got all front i back y us ts is before =
    each-sorted (λ a. Answers q.head a.item y a.reply.body) (at_position i.pos got) (each-turn q cells got all front i back y us ts is before)

pub batch_answers : BatchAnswers
batch_answers s q vs world cells got replies b all g =
    let ends = batch_ends s q vs world cells b in
    let same : replies ≡ ends.2 = gathered_asks q.head q.items cells ends.0 ends.1 ends.2 replies got b.ascends ends.3 (replies_in_turn q cells got all) g in
    (ends.0, ends.1, ends.3 ∙ ap (Gives ends.0 ends.1) (sym same), ends.4, ends.5)
