-- One call, from a world that means a store: what stands at its end where the store's contents stay, and before its last
-- step where that failed.
use Rattle.std.proofs.Common.{◌≡◌, ℕ, ◌≤◌, ◌⊎◌, inl, inr, List, [], ◌∷◌, ◌++◌, Option, Some, None, refl, sym, ap, ◌∙◌, subst, append_assoc}
use Rattle.std.proofs.lemmas.List.{append-nil}
use Rattle.ds_kind.specs.declared.batch.Item.{Item}
use Rattle.ds_kind.specs.declared.reply.Failure.{Failure}
use Rattle.ds_cell.specs.Ask.{content_at}
use Rattle.ds_cell.specs.Content.{Content}
use Rattle.ds_cell.specs.Store.{FailedSince, Store, StoreTxn}
use Rattle.ds_law.proofs.Failing.{runs-cut}
use Rattle.ds_rule.specs.declared.answer.Answer.TheVariants.{Done, Failed}
use Rattle.ds_rule.specs.declared.journal.JournalStep.TheVariants.{Send}
use Rattle.ds_rule.specs.Asking.{Asking, at_of}
use Rattle.ds_rule.specs.Cause.{IsIdle, LastFails}
use Rattle.ds_rule.specs.Clauses.{Stands}
use Rattle.ds_rule.specs.Deliver.{deliver_answer}
use Rattle.ds_rule.specs.Journal.{Happening, Did, Runs, accepted}
use Rattle.ds_rule.specs.Path.{IsHigh}
use Rattle.ds_rule.specs.Pieces.{Each, PieceOf}
use Rattle.ds_rule.specs.Sending.{AllOf, left_of}
use Rattle.ds_rule.specs.StandsFor.{after_made}
use Rattle.ds_rule.specs.Turn.{after_items, items_at}
use Rattle.ds_rule.specs.World.{World, cell_of}
use Rattle.ds_rule.proofs.Eachs.{each-left, each-right}
use Rattle.ds_rule.proofs.Passing.{told}
use Rattle.ds_turn.specs.Course.{with_versions}
use Rattle.ds_turn.specs.KeyIs.{KeyIs}
use Rattle.ds_mean.specs.InTurn.{AllInTurn, AreFirst, IsLeft, items_of, places_at}
use Rattle.ds_mean.specs.Means.{KeyAgrees, Means, SameVersions}
use Rattle.ds_mean.specs.Midway.{Midway}
use Rattle.ds_mean.specs.Send.{IsOfAll}
use Rattle.ds_mean.specs.Shows.{txn_after, writes_at}
use Rattle.ds_mean.specs.Told.{IsTold}
use Rattle.ds_mean.proofs.Coming.{Reached, after-front, places-both}
use Rattle.ds_mean.proofs.Agreeing.{KeyEnds, same-without}
use Rattle.ds_mean.proofs.Ends.{key-given, level, means-after, midway-begins}
use Rattle.ds_mean.proofs.Stores.{after-intent}
use Rattle.ds_mean.proofs.Firsts.{first-accepted, first-served}
use Rattle.ds_mean.proofs.Follows.{Follows, follows-intent, follows-itself, follows-none, follows-own}
use Rattle.ds_mean.proofs.Middle.{midway-idle}
use Rattle.ds_mean.proofs.Splitting.{Split, first-done, idle-accepts, of-first, of-later, turn-first, turn-later}
use Rattle.ds_mean.proofs.Stilling.{IsStill, each-at, items-stay}
use Rattle.ds_mean.proofs.Turning.{AreResolved, IsOwn, LeavesIntents}
use Rattle.ds_mean.proofs.Walking.{IsAsked, Walked, walk}

-- ---- a call

-- of such a batch, from a world that means the store
pub record Calling (q : Asking) (a : Stands) (v : World) (p : Store) (hs : List Happening) : Type 0 where
  pub asked : IsAsked (level p.txn q.head.at.0) a.floor q
  pub means : Means a.world p
  pub kept : Each IsTold hs
  pub high : Each (IsHigh a.floor) hs
  pub of : AllOf q [] hs
  pub turns : AllInTurn q.items [] hs
  pub runs : Runs a.world hs v

-- and where the two hold the same at each key
pub record Called (q : Asking) (a : Stands) (v : World) (p : Store) (hs : List Happening) : Type 0 where
  pub asked : IsAsked (level p.txn q.head.at.0) a.floor q
  pub means : Means a.world p
  pub same : (k : List ℕ) → KeyIs (level p.txn q.head.at.0) (cell_of a.world k) (content_at k p.cells)
  pub kept : Each IsTold hs
  pub high : Each (IsHigh a.floor) hs
  pub of : AllOf q [] hs
  pub turns : AllInTurn q.items [] hs
  pub runs : Runs a.world hs v

pub same-call : (q : Asking) (a : Stands) (v : World) (p : Store) (hs : List Happening) → Calling q a v p hs → ((k : List ℕ) → KeyIs (level p.txn q.head.at.0) (cell_of a.world k) (content_at k p.cells)) → Called q a v p hs
same-call q a v p hs c same = record { asked = c.asked; means = c.means; same = same; kept = c.kept; high = c.high; of = c.of; turns = c.turns; runs = c.runs }

-- the front of a call, and the world then
pub called-first : (q : Asking) (a : Stands) (v : World) (p : Store) (xs ys : List Happening) → Called q a v p (xs ++ ys) → (m : World) × Called q a m p xs × Runs m ys v
called-first q a v p xs ys c =
    let cut = runs-cut a.world v xs ys c.runs in (
      cut.0,
      record {
        asked = c.asked;
        means = c.means;
        same = c.same;
        kept = each-left IsTold xs ys c.kept;
        high = each-left (IsHigh a.floor) xs ys c.high;
        of = of-first q xs ys [] c.of;
        turns = turn-first q xs ys [] c.turns;
        runs = cut.1;
      },
      cut.2,
    )

-- it settles nothing, or goes in one piece where no transaction is open
pub record IsUnsettled (q : Asking) (p : Store) : Type 0 where
  pub low : q.head.at.0 ≤ level p.txn q.head.at.0
  pub resolved : AreResolved p.txn q
  pub leaves : LeavesIntents q p.txn

pub record IsSettled (q : Asking) (p : Store) (hs : List Happening) : Type 0 where
  pub low : q.head.at.0 ≤ level p.txn q.head.at.0
  pub none : p.txn ≡ None
  pub alone : q.head.txn ≡ None
  pub whole : Each (IsOfAll q) hs

-- ---- through the call

pub walked : (q : Asking) (a : Stands) (v : World) (p : Store) (hs : List Happening) (t : Option StoreTxn) → Called q a v p hs → q.head.at.0 ≤ level p.txn q.head.at.0 → Follows p.txn t → AreResolved t q → LeavesIntents q t
    → Walked (level p.txn q.head.at.0) q (λ k. []) t v p [] hs
walked q a v p hs t c low f resolved leaves =
    walk (level p.txn q.head.at.0) a.floor q c.asked low hs [] (λ k. []) (λ k. []) t a.world v p resolved leaves c.kept c.high c.of c.turns c.runs (midway-begins q t a.world p f c.means c.same) (λ k. refl)

pub idled : (q : Asking) (a : Stands) (v : World) (p : Store) (hs : List Happening) (t : Option StoreTxn) → Called q a v p hs → Follows p.txn t → Each IsIdle hs
    → Midway (level p.txn q.head.at.0) q (λ k. []) (λ k. writes_at k hs) (txn_after hs t) v p
idled q a v p hs t c f idle =
    midway-idle (level p.txn q.head.at.0) a.floor q (λ k. []) hs (λ k. []) t a.world v p idle c.kept c.high c.asked.above c.runs (midway-begins q t a.world p f c.means c.same)

pub follows-level : (o t : Option StoreTxn) (n : ℕ) → Follows o t → level t n ≡ level o n
follows-level None None n f = refl
follows-level None (Some u) n f = absurd f
follows-level (Some t) None n f = absurd f
follows-level (Some t) (Some u) n f = f.stamp

-- the transaction is one whose batch failed
abbrev pub HasFailed : Option StoreTxn → Type 0
HasFailed o = (t : StoreTxn) × (o ≡ Some t) × (n : ℕ) × (t.mode ≡ FailedSince n)

failed-ends : (o : Option StoreTxn) (n : ℕ) (c d : Content) → HasFailed o → SameVersions (level o n) c d → KeyEnds o n c d
failed-ends None n c d failed same = let never = failed.1 in cc
failed-ends (Some u) n c d failed same =
    let is : u ≡ failed.0 = (let one = failed.1 in cc) in
    subst (λ m. KeyAgrees m u.asker.stamp c d) (sym (ap (λ (z : StoreTxn). z.mode) is ∙ failed.3)) same

-- what stands at its end, where the store holds what it held: what acted in the world is dropped, or did nothing
stays-by : (q : Asking) (w v : World) (p : Store) (hs : List Happening) (t : Option StoreTxn) (acted : List ℕ → List Item) → Means w p → Follows p.txn t → Midway (level p.txn q.head.at.0) q acted (λ k. writes_at k hs) (txn_after hs t) v p
    → HasFailed t ⊎ ((k : List ℕ) → after_items (at_of q.head 0) (acted k) (content_at k p.cells) ≡ content_at k p.cells) → Means v (after_made hs (record p { txn = t }))
stays-by q w v p hs t acted means f m so =
    means-after hs q.head.at.0 v (record p { txn = t }) m.partway.ascends (λ k. ends so k) m.intents
    (λ k. after-intent hs t (content_at k p.cells) (follows-intent p.txn t (content_at k p.cells) f (means.keys k).intent_too)) m.records m.keeps m.copies
  where
    ends : HasFailed t ⊎ ((k : List ℕ) → after_items (at_of q.head 0) (acted k) (content_at k p.cells) ≡ content_at k p.cells) → (k : List ℕ) → KeyEnds t q.head.at.0 (cell_of v k) (with_versions (writes_at k hs) (content_at k p.cells))
    ends (inl failed) k =
        failed-ends t q.head.at.0 (cell_of v k) (with_versions (writes_at k hs) (content_at k p.cells)) failed
        (subst (λ s. SameVersions s (cell_of v k) (with_versions (writes_at k hs) (content_at k p.cells))) (sym (follows-level p.txn t q.head.at.0 f))
        (same-without (level p.txn q.head.at.0) (at_of q.head 0) (acted k) (writes_at k hs) (cell_of v k) (content_at k p.cells) (m.partway.at k).key))
    ends (inr same) k =
        key-given t q.head.at.0 (cell_of v k) (with_versions (writes_at k hs) (content_at k p.cells))
        (subst (λ s. KeyIs s (cell_of v k) (with_versions (writes_at k hs) (content_at k p.cells))) (sym (follows-level p.txn t q.head.at.0 f))
        (subst (λ d. KeyIs (level p.txn q.head.at.0) (cell_of v k) (with_versions (writes_at k hs) d)) (same k) (m.partway.at k).key))

still-acted : (items acted rest : List Item) (k : List ℕ) → Each IsStill items → items_at k items ≡ acted ++ rest → Each IsStill acted
still-acted items acted rest k still front = each-left IsStill acted rest (subst (Each IsStill) front (each-at IsStill k items still))

pub follows-resolved : (q : Asking) (o t : Option StoreTxn) → Follows o t → AreResolved o q → AreResolved t q
follows-resolved q o t f (inl none) = inl (follows-none o t f none.0, none.1)
follows-resolved q o t f (inr free) = inr free

pub still-stays : (q : Asking) (a : Stands) (v : World) (p : Store) (hs : List Happening) (t : Option StoreTxn) → Called q a v p hs → q.head.at.0 ≤ level p.txn q.head.at.0 → AreResolved p.txn q → Each IsStill q.items → Follows p.txn t → Means v (after_made hs (record p { txn = t }))
still-stays q a v p hs t c low resolved still f =
    let r = walked q a v p hs t c low f (follows-resolved q p.txn t f resolved) (inl still) in
    stays-by q a.world v p hs t r.acted c.means f r.midway (inr (λ k. items-stay (at_of q.head 0) (r.acted k) (content_at k p.cells) (still-acted q.items (r.acted k) (r.midway.partway.rest k) k still (r.midway.partway.front k))))

pub idle-stays : (q : Asking) (a : Stands) (v : World) (p : Store) (hs : List Happening) (t : Option StoreTxn) → Called q a v p hs → Each IsIdle hs → Follows p.txn t → Means v (after_made hs (record p { txn = t }))
idle-stays q a v p hs t c idle f = stays-by q a.world v p hs t (λ k. []) c.means f (idled q a v p hs t c f idle) (inr (λ k. refl))

-- and where the transaction's batch failed, whatever it wrote
pub failed-stays : (q : Asking) (a : Stands) (v : World) (p : Store) (hs : List Happening) (t : Option StoreTxn) → Called q a v p hs → q.head.at.0 ≤ level p.txn q.head.at.0 → AreResolved p.txn q → IsOwn q p.txn → Follows p.txn t → HasFailed t → Means v (after_made hs (record p { txn = t }))
failed-stays q a v p hs t c low resolved own f failed =
    let r = walked q a v p hs t c low f (follows-resolved q p.txn t f resolved) (inr (follows-own q p.txn t f own)) in
    stays-by q a.world v p hs t r.acted c.means f r.midway (inl failed)

-- ---- where something is left of a batch that goes in one piece, nothing was served

pub append-some : (xs ys : List ℕ) (n : ℕ) → [] ≡ xs ++ n ∷ ys → ⊥
append-some [] ys n h = cc
append-some (x ∷ xs) ys n h = cc

pub is-of-all : (q : Asking) (hs : List Happening) (sp : Split hs) → Each (IsOfAll q) hs → sp.piece.items ≡ q.items
is-of-all q hs sp whole = (each-right (IsOfAll q) sp.before (Did (Send sp.node sp.piece (Done sp.replies)) ∷ sp.later) (subst (Each (IsOfAll q)) sp.is whole)).0

none-left : (items js more : List Item) → js ≡ items ++ more → IsLeft items js → ⊥
none-left items js more is left =
    let k = left.0 in
    let longer : places_at k items ++ [] ≡ places_at k items ++ (places_at k more ++ left.1 ∷ left.2) =
    append-nil (places_at k items) ∙ left.3 ∙ ap (λ ns. ns ++ left.1 ∷ left.2) (ap (places_at k) is ∙ places-both k items more) ∙ append_assoc (places_at k items) (places_at k more) (left.1 ∷ left.2)
    in
    append-some (places_at k more) left.2 left.1 (after-front (places_at k items) [] (places_at k more ++ left.1 ∷ left.2) longer)

pub left-idle : (q : Asking) (a : Stands) (v : World) (p : Store) (hs : List Happening) → Called q a v p hs → IsSettled q p hs → IsLeft q.items (items_of (accepted hs)) → Each IsIdle hs
left-idle q a v p hs c settled left = by (first-done hs)
  where
    by : Each IsIdle hs ⊎ Split hs → Each IsIdle hs
    by (inl idle) = idle
    by (inr sp) =
        let f = first-served (level p.txn q.head.at.0) a.floor q c.asked hs p.txn a.world v p (inl (settled.none, settled.alone)) c.kept c.high c.of c.runs (midway-begins q p.txn a.world p (follows-itself p.txn) c.means c.same) sp in
        let all = first-accepted (level p.txn q.head.at.0) q p.txn v p hs sp f in
        absurd (none-left q.items (items_of (accepted hs)) (items_of (accepted sp.later)) (all.1 ∙ ap (λ zs. zs ++ items_of (accepted sp.later)) (is-of-all q hs sp settled.whole)) left)

-- ---- before a step that failed

pub record BeforeFail (q : Asking) (p : Store) (v : World) (f : Failure) (hs : List Happening) (l : LastFails f hs) : Type 0 where
  pub world : World
  pub acted : List ℕ → List Item
  pub midway : Midway (level p.txn q.head.at.0) q acted (λ k. writes_at k l.before) (txn_after l.before p.txn) world p
  pub reached : Reached (accepted l.before) acted
  pub first : AreFirst q.items (items_of (accepted l.before) ++ l.piece.items)
  pub of : PieceOf q (left_of q (accepted l.before)) l.piece
  pub answer : Failed f ≡ deliver_answer world l.node l.piece

before-by : (q : Asking) (a : Stands) (v : World) (p : Store) (f : Failure) (hs : List Happening) (l : LastFails f hs) → Called q a v p hs
    → ((m : World) → Called q a m p l.before → (acted : List ℕ → List Item) × Midway (level p.txn q.head.at.0) q acted (λ k. writes_at k l.before) (txn_after l.before p.txn) m p × Reached (accepted l.before) acted)
    → BeforeFail q p v f hs l
before-by q a v p f hs l c at =
    let step = Did (Send l.node l.piece (Failed f)) ∷ [] in
    let cut = called-first q a v p l.before step (subst (Called q a v p) l.last c) in
    let x = at cut.0 cut.1 in
    record {
      world = cut.0;
      acted = x.0;
      midway = x.1;
      reached = x.2;
      first = (turn-later q l.before step [] (subst (AllInTurn q.items []) l.last c.turns)).0;
      of = (of-later q l.before step [] (subst (AllOf q []) l.last c.of)).0;
      answer = (told cut.0 (Send l.node l.piece (Failed f)) cut.2.0 cut.2.1).0;
    }

pub unsettled-fail : (q : Asking) (a : Stands) (v : World) (p : Store) (f : Failure) (hs : List Happening) (l : LastFails f hs) → Called q a v p hs → IsUnsettled q p → BeforeFail q p v f hs l
unsettled-fail q a v p f hs l c u =
    before-by q a v p f hs l c (λ m front. let r = walked q a m p l.before p.txn front u.low (follows-itself p.txn) u.resolved u.leaves in (r.acted, r.midway, r.reached))

pub settled-fail : (q : Asking) (a : Stands) (v : World) (p : Store) (f : Failure) (hs : List Happening) (l : LastFails f hs) → Called q a v p hs → Each IsIdle hs → BeforeFail q p v f hs l
settled-fail q a v p f hs l c idle =
    let step = Did (Send l.node l.piece (Failed f)) ∷ [] in
    let before = each-left IsIdle l.before step (subst (Each IsIdle) l.last idle) in
    before-by q a v p f hs l c (λ m front. (λ k. [], idled q a m p l.before p.txn front (follows-itself p.txn) before, λ k. sym (ap (λ zs. places_at k (items_of zs)) (idle-accepts l.before before))))
