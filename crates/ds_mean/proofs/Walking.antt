-- A batch that leaves intents as they are, through all that a call did.
use Rattle.std.proofs.Common.{◌≡◌, ℕ, ◌≤◌, false, ◌||◌, inl, inr, List, [], ◌∷◌, ◌++◌, map, Option, Some, None, refl, sym, ap, ◌∙◌, subst, append_assoc}
use Rattle.std.specs.List.{list_any}
use Rattle.std.proofs.lemmas.List.{append-nil}
use Rattle.ds_desc.specs.declared.meta.Looked.TheVariants as Looked
use Rattle.ds_kind.specs.Asks.{is_end}
use Rattle.ds_kind.specs.Left.{left_after}
use Rattle.ds_kind.specs.Parts.{requests_of}
use Rattle.ds_kind.specs.Request.{cut_to}
use Rattle.ds_kind.specs.declared.batch.Item.{Item}
use Rattle.ds_kind.specs.declared.batch.Piece.{Piece}
use Rattle.ds_kind.specs.declared.request.Request.{Request}
use Rattle.ds_kind.specs.declared.request.Request.TheVariants.{Get, Scan, ReverseScan, Put, ConditionalPut, InitPut, Increment, Delete, DeleteRange, EndTxn, QueryIntent, ResolveIntent, ResolveIntentRange, AdminSplit, AdminTransferLease}
use Rattle.ds_cell.specs.declared.entry.Version.{Version}
use Rattle.ds_cell.specs.Content.{Rises}
use Rattle.ds_cell.specs.Store.{Store, StoreTxn}
use Rattle.ds_rule.specs.declared.answer.Answer.TheVariants.{Done, Failed, Refused, Lost}
use Rattle.ds_rule.specs.declared.event.Event.{Event}
use Rattle.ds_rule.specs.declared.journal.JournalStep.TheVariants.{Look, Send}
use Rattle.ds_rule.specs.Asking.{Asking}
use Rattle.ds_rule.specs.Journal.{Happening, Moved, Did, Runs, Accepted, accepted, pairs}
use Rattle.ds_rule.specs.Path.{IsHigh}
use Rattle.ds_rule.specs.Pieces.{Each, PieceOf, position_of}
use Rattle.ds_rule.specs.Sending.{AllOf, left_of}
use Rattle.ds_rule.specs.World.{World}
use Rattle.ds_rule.proofs.Eachs.{each-append}
use Rattle.ds_rule.proofs.Passing.{told}
use Rattle.ds_rule.proofs.Service.{service}
use Rattle.ds_turn.specs.Deliveries.{IsTurnReply}
use Rattle.ds_turn.specs.Partway.{NumbersInOrder}
use Rattle.ds_mean.specs.InTurn.{AllInTurn}
use Rattle.ds_mean.specs.Midway.{Midway}
use Rattle.ds_mean.specs.Shows.{txn_after, txn_by, writes_at, writes_by}
use Rattle.ds_mean.specs.Told.{IsTold}
use Rattle.ds_mean.proofs.Coming.{Reached}
use Rattle.ds_mean.proofs.Middle.{failed-not-done, look-shows, midway-moved, midway-so, midway-stays, refused-not-done, undone-stays}
use Rattle.ds_mean.proofs.Serving.{served-shows}
use Rattle.ds_mean.proofs.Stilling.{cuts-keep}
use Rattle.ds_mean.proofs.Turning.{AreResolved, IsOwn, LeavesIntents, turn-unsettled}

-- ---- a piece of the batch

cut-ends : (s e : List ℕ) (r : Request) → is_end (cut_to s e r) ≡ is_end r
cut-ends s e (Get a) = refl
cut-ends s e (Scan a) = refl
cut-ends s e (ReverseScan a) = refl
cut-ends s e (Put a) = refl
cut-ends s e (ConditionalPut a) = refl
cut-ends s e (InitPut a) = refl
cut-ends s e (Increment a) = refl
cut-ends s e (Delete a) = refl
cut-ends s e (DeleteRange a) = refl
cut-ends s e (EndTxn a) = refl
cut-ends s e (QueryIntent a) = refl
cut-ends s e (ResolveIntent a) = refl
cut-ends s e (ResolveIntentRange a) = refl
cut-ends s e (AdminSplit a) = refl
cut-ends s e (AdminTransferLease a) = refl

none-ends : (js : List Item) → Each (λ j. is_end j.request ≡ false) js → list_any is_end (requests_of js) ≡ false
none-ends [] all = refl
none-ends (j ∷ js) all = ap (λ t. t || list_any is_end (requests_of js)) all.0 ∙ none-ends js all.1

-- a piece of a batch without a limit has the batch's head
pub unlimited-head : (q : Asking) (got : List Accepted) (j : Piece) → q.head.left ≡ None → PieceOf q (left_of q got) j → j.head ≡ q.head
unlimited-head q got j none of = of.head ∙ ap (λ (l : Option ℕ). record (q.head) { left = left_after l (map (λ a. a.reply) got) }) none ∙ sym (ap (λ (l : Option ℕ). record (q.head) { left = l }) none)

-- and ends no transaction where the batch ends none
pub piece-endless : (q : Asking) (left : Option ℕ) (j : Piece) → Each (λ i. is_end i.request ≡ false) q.items → PieceOf q left j → list_any is_end (requests_of j.items) ≡ false
piece-endless q left j none of = none-ends j.items (cuts-keep is_end cut-ends false q.items j.items none of.cuts)

-- ---- what is so of the transaction stays so

own-moved : (q : Asking) (e : Event) (o : Option StoreTxn) → IsOwn q o → IsOwn q (txn_by e o)
own-moved q (Event.Write k s v) o own = own
own-moved q Event.Abort None own = own
own-moved q Event.Abort (Some t) own = own
own-moved q (Event.Split k) o own = own
own-moved q (Event.Merge k) o own = own
own-moved q (Event.Lease k n) o own = own
own-moved q (Event.Move k ns) o own = own
own-moved q (Event.Stale k b) o own = own
own-moved q (Event.Arrive c) o own = own
own-moved q (Event.LoseRequest c) o own = own
own-moved q (Event.LoseReply c) o own = own
own-moved q (Event.Copy c) o own = own
own-moved q (Event.Restart t) o own = own

pub none-moved : (e : Event) → txn_by e None ≡ None
none-moved (Event.Write k s v) = refl
none-moved Event.Abort = refl
none-moved (Event.Split k) = refl
none-moved (Event.Merge k) = refl
none-moved (Event.Lease k n) = refl
none-moved (Event.Move k ns) = refl
none-moved (Event.Stale k b) = refl
none-moved (Event.Arrive c) = refl
none-moved (Event.LoseRequest c) = refl
none-moved (Event.LoseReply c) = refl
none-moved (Event.Copy c) = refl
none-moved (Event.Restart t) = refl

leaves-moved : (q : Asking) (e : Event) (o : Option StoreTxn) → LeavesIntents q o → LeavesIntents q (txn_by e o)
leaves-moved q e o (inl still) = inl still
leaves-moved q e o (inr own) = inr (own-moved q e o own)

pub resolved-moved : (q : Asking) (e : Event) (o : Option StoreTxn) → AreResolved o q → AreResolved (txn_by e o) q
resolved-moved q e o (inl none) = inl (ap (txn_by e) none.0 ∙ none-moved e, none.1)
resolved-moved q e o (inr free) = inr free

pub resolved-after : (q : Asking) (hs : List Happening) (o : Option StoreTxn) → AreResolved o q → AreResolved (txn_after hs o) q
resolved-after q [] o r = r
resolved-after q (Moved e ∷ hs) o r = resolved-after q hs (txn_by e o) (resolved-moved q e o r)
resolved-after q (Did s ∷ hs) o r = resolved-after q hs o r

pub own-after : (q : Asking) (hs : List Happening) (o : Option StoreTxn) → IsOwn q o → IsOwn q (txn_after hs o)
own-after q [] o own = own
own-after q (Moved e ∷ hs) o own = own-after q hs (txn_by e o) (own-moved q e o own)
own-after q (Did s ∷ hs) o own = own-after q hs o own

-- ---- the batch, as it is asked

pub record IsAsked (s floor : ℕ) (q : Asking) : Type 0 where
  pub above : s ≤ floor
  pub rises : Rises position_of q.items
  pub numbers : NumbersInOrder q.items
  pub left : q.head.left ≡ None
  pub endless : Each (λ i. is_end i.request ≡ false) q.items

pub record Walked (s : ℕ) (q : Asking) (vs : List ℕ → List Version) (o : Option StoreTxn) (v : World) (p : Store) (got : List Accepted) (hs : List Happening) : Type 0 where
  pub acted : List ℕ → List Item
  pub midway : Midway s q acted (λ k. vs k ++ writes_at k hs) (txn_after hs o) v p
  pub reached : Reached (got ++ accepted hs) acted
  pub replies : Each (IsTurnReply q p.cells) (accepted hs)

walked-more : (s : ℕ) (q : Asking) (vs : List ℕ → List Version) (o : Option StoreTxn) (v : World) (p : Store) (got more : List Accepted) (hs : List Happening) → Each (IsTurnReply q p.cells) more → (w : Walked s q vs o v p (got ++ more) hs)
    → (acted : List ℕ → List Item) × Midway s q acted (λ k. vs k ++ writes_at k hs) (txn_after hs o) v p × Reached (got ++ (more ++ accepted hs)) acted × Each (IsTurnReply q p.cells) (more ++ accepted hs)
walked-more s q vs o v p got more hs replies w =
    (w.acted, w.midway, subst (λ zs. Reached zs w.acted) (append_assoc got more (accepted hs)) w.reached, each-append (IsTurnReply q p.cells) more (accepted hs) replies w.replies)

pub walk : (s floor : ℕ) (q : Asking) → IsAsked s floor q → q.head.at.0 ≤ s → (hs : List Happening) (got : List Accepted) (acted : List ℕ → List Item) (vs : List ℕ → List Version) (o : Option StoreTxn) (w v : World) (p : Store)
    → AreResolved o q → LeavesIntents q o → Each IsTold hs → Each (IsHigh floor) hs → AllOf q got hs → AllInTurn q.items got hs → Runs w hs v → Midway s q acted vs o w p → Reached got acted
    → Walked s q vs o v p got hs
walk s floor q asked low [] got acted vs o w v p resolved leaves kept high of turns runs m reached = record {
  acted = acted;
  midway = subst (λ z. Midway s q acted (λ k. vs k ++ []) o z p) (sym runs) (midway-so s q acted vs (λ k. vs k ++ []) o w p (λ k. sym (append-nil (vs k))) m);
  reached = subst (λ zs. Reached zs acted) (sym (append-nil got)) reached;
  replies = tt;
}
walk s floor q asked low (Moved e ∷ hs) got acted vs o w v p resolved leaves kept high of turns runs m reached =
    let r = walk s floor q asked low hs got acted (λ k. vs k ++ writes_by k e) (txn_by e o) runs.0 v p (resolved-moved q e o resolved) (leaves-moved q e o leaves) kept.1 high.1 of turns runs.2
    (subst (λ z. Midway s q acted (λ k. vs k ++ writes_by k e) (txn_by e o) z p) (sym runs.1) (midway-moved s floor q acted vs o w p e high.0 asked.above m)) reached in
    record {
      acted = r.acted;
      midway = midway-so s q r.acted (λ k. (vs k ++ writes_by k e) ++ writes_at k hs) (λ k. vs k ++ (writes_by k e ++ writes_at k hs)) (txn_after hs (txn_by e o)) v p (λ k. append_assoc (vs k) (writes_by k e) (writes_at k hs)) r.midway;
      reached = r.reached;
      replies = r.replies;
    }
walk s floor q asked low (Did (Look k d (Looked.Rows infos)) ∷ hs) got acted vs o w v p resolved leaves kept high of turns runs m reached =
    let r = walk s floor q asked low hs (got ++ []) acted vs o runs.0 v p resolved leaves kept.1 high.1 of.1 turns.1 runs.2
    (midway-stays s q acted vs o w runs.0 p (look-shows w runs.0 k d (told w (Look k d (Looked.Rows infos)) runs.0 runs.1).1 m.keeps) m) (subst (λ zs. Reached zs acted) (sym (append-nil got)) reached) in
    let x = walked-more s q vs o v p got [] hs tt r in
    record { acted = x.0; midway = x.1; reached = x.2; replies = x.3 }
walk s floor q asked low (Did (Look k d Looked.Lost) ∷ hs) got acted vs o w v p resolved leaves kept high of turns runs m reached =
    let r = walk s floor q asked low hs (got ++ []) acted vs o runs.0 v p resolved leaves kept.1 high.1 of.1 turns.1 runs.2
    (subst (λ z. Midway s q acted vs o z p) (sym (told w (Look k d Looked.Lost) runs.0 runs.1).0) m) (subst (λ zs. Reached zs acted) (sym (append-nil got)) reached) in
    let x = walked-more s q vs o v p got [] hs tt r in
    record { acted = x.0; midway = x.1; reached = x.2; replies = x.3 }
walk s floor q asked low (Did (Send n j (Done rs)) ∷ hs) got acted vs o w v p resolved leaves kept high of turns runs m reached =
    let t = told w (Send n j (Done rs)) runs.0 runs.1 in
    let head = unlimited-head q got j asked.left of.0 in
    let sv = served-shows w runs.0 n j rs (piece-endless q (left_of q got) j asked.endless of.0) m.keeps (service w n j rs t.0) t.1 in
    let one = turn-unsettled s q acted vs o w runs.0 p got j rs low asked.rises asked.numbers m reached turns.0 of.0.cuts head asked.left resolved leaves sv in
    let r = walk s floor q asked low hs (got ++ pairs j.head j.items rs) one.acted vs o runs.0 v p resolved leaves kept.1 high.1 of.1 turns.1 runs.2 one.midway one.reached in
    let x = walked-more s q vs o v p got (pairs j.head j.items rs) hs one.replies r in
    record { acted = x.0; midway = x.1; reached = x.2; replies = x.3 }
walk s floor q asked low (Did (Send n j (Failed f)) ∷ hs) got acted vs o w v p resolved leaves kept high of turns runs m reached =
    let t = told w (Send n j (Failed f)) runs.0 runs.1 in
    let r = walk s floor q asked low hs (got ++ []) acted vs o runs.0 v p resolved leaves kept.1 high.1 of.1 turns.1 runs.2
    (subst (λ z. Midway s q acted vs o z p) (undone-stays w runs.0 n j (Failed f) (failed-not-done f) t.0 t.1) m) (subst (λ zs. Reached zs acted) (sym (append-nil got)) reached) in
    let x = walked-more s q vs o v p got [] hs tt r in
    record { acted = x.0; midway = x.1; reached = x.2; replies = x.3 }
walk s floor q asked low (Did (Send n j (Refused f)) ∷ hs) got acted vs o w v p resolved leaves kept high of turns runs m reached =
    let t = told w (Send n j (Refused f)) runs.0 runs.1 in
    let r = walk s floor q asked low hs (got ++ []) acted vs o runs.0 v p resolved leaves kept.1 high.1 of.1 turns.1 runs.2
    (subst (λ z. Midway s q acted vs o z p) (undone-stays w runs.0 n j (Refused f) (refused-not-done f) t.0 t.1) m) (subst (λ zs. Reached zs acted) (sym (append-nil got)) reached) in
    let x = walked-more s q vs o v p got [] hs tt r in
    record { acted = x.0; midway = x.1; reached = x.2; replies = x.3 }
walk s floor q asked low (Did (Send n j Lost) ∷ hs) got acted vs o w v p resolved leaves kept high of turns runs m reached = absurd kept.0
