-- The middle of a batch, through whatever serves no piece.
use Rattle.std.proofs.Common.{◌≡◌, ℕ, ◌≤◌, List, [], ◌∷◌, ◌++◌, Option, Some, None, refl, sym, ◌∙◌, subst, append_assoc}
use Rattle.std.specs.List.{find}
use Rattle.std.proofs.lemmas.List.{append-nil}
use Rattle.ds_base.specs.declared.value.Dir.{Dir}
use Rattle.ds_desc.specs.declared.meta.Looked.TheVariants as Looked
use Rattle.ds_desc.specs.declared.refusal.Refusal.{Refusal}
use Rattle.ds_kind.specs.declared.batch.Item.{Item}
use Rattle.ds_kind.specs.declared.batch.Piece.{Piece}
use Rattle.ds_kind.specs.declared.reply.Failure.{Failure}
use Rattle.ds_kind.specs.declared.reply.Reply.{Reply}
use Rattle.ds_cell.specs.declared.entry.At.{At}
use Rattle.ds_cell.specs.declared.entry.Version.{Version}
use Rattle.ds_cell.specs.Ask.{content_at}
use Rattle.ds_cell.specs.Change.{after_foreign}
use Rattle.ds_cell.specs.Content.{Content, AllAbove, stamp_of}
use Rattle.ds_cell.specs.Store.{Store, StoreTxn}
use Rattle.ds_rule.specs.declared.answer.Answer.{Answer}
use Rattle.ds_rule.specs.declared.answer.Answer.TheVariants.{Done, Failed, Refused, Lost}
use Rattle.ds_rule.specs.declared.event.Event.{Event}
use Rattle.ds_rule.specs.declared.journal.JournalStep.TheVariants.{Look, Send}
use Rattle.ds_rule.specs.declared.record.TxnRecord.{TxnRecord}
use Rattle.ds_rule.specs.Asking.{Asking, Made, Gives, Fails, at_of}
use Rattle.ds_rule.specs.Cause.{IsIdle}
use Rattle.ds_rule.specs.Deliver.{answer_made, world_made, answer_at, world_at, Stop, stops, served, deliver_answer, deliver_answer_to, deliver_world, deliver_world_to}
use Rattle.ds_rule.specs.Journal.{Happening, Moved, Did, Runs}
use Rattle.ds_rule.specs.Keeping.{Keeps}
use Rattle.ds_rule.specs.Moves.{IsMove, moved}
use Rattle.ds_rule.specs.Path.{IsHigh}
use Rattle.ds_rule.specs.Pieces.{Each}
use Rattle.ds_rule.specs.StandsFor.{IsIntentOf}
use Rattle.ds_rule.specs.World.{World, Range, cell_of, has_id, look_world}
use Rattle.ds_rule.proofs.Passing.{told}
use Rattle.ds_world.proofs.Stretches.{keeps-same}
use Rattle.ds_turn.specs.Partway.{Partway}
use Rattle.ds_turn.specs.Settling.{after_foreigns}
use Rattle.ds_turn.proofs.Again.{partway_foreign}
use Rattle.ds_mean.specs.Means.{RecordsFit}
use Rattle.ds_mean.specs.Midway.{Midway}
use Rattle.ds_mean.specs.Shows.{Shows, records_by, txn_after, txn_by, writes_at, writes_by}
use Rattle.ds_mean.specs.Told.{IsTold}
use Rattle.ds_mean.proofs.Events.{event-shows, shows-same}
use Rattle.ds_mean.proofs.Records.{records-moved}
use Rattle.ds_mean.proofs.Stores.{event-above, event-intent, foreigns-intent}

-- other clients' writes join those since the batch began

partway-foreigns : (s : ℕ) (a : At) (acted : List Item) (vs us : List Version) (c d : Content) → Partway s a acted vs c d → AllAbove stamp_of s us → Partway s a acted (vs ++ us) (after_foreigns us c) d
partway-foreigns s a acted vs [] c d m above = subst (λ zs. Partway s a acted zs c d) (sym (append-nil vs)) m
partway-foreigns s a acted vs (u ∷ us) c d m above =
    subst (λ zs. Partway s a acted zs (after_foreigns us (after_foreign u c)) d) (append_assoc vs (u ∷ []) us)
    (partway-foreigns s a acted (vs ++ u ∷ []) us (after_foreign u c) d (partway_foreign s a acted vs c d u m above.0) above.1)

-- the same writes, told otherwise
pub midway-so : (s : ℕ) (q : Asking) (acted : List ℕ → List Item) (vs us : List ℕ → List Version) (o : Option StoreTxn) (w : World) (p : Store) → ((k : List ℕ) → vs k ≡ us k) → Midway s q acted vs o w p → Midway s q acted us o w p
midway-so s q acted vs us o w p same m = record {
  keeps = m.keeps;
  partway = record {
    ascends = m.partway.ascends;
    at = λ k. subst (λ zs. Partway s (at_of q.head 0) (acted k) zs (cell_of w k) (content_at k p.cells)) (same k) (m.partway.at k);
    rest = m.partway.rest;
    front = m.partway.front;
  };
  intents = m.intents;
  records = m.records;
  copies = m.copies;
}

-- what shows such writes
pub midway-shows : (s : ℕ) (q : Asking) (acted : List ℕ → List Item) (vs us : List ℕ → List Version) (o t : Option StoreTxn) (rs : List TxnRecord) (w v : World) (p : Store)
    → ((k : List ℕ) → AllAbove stamp_of s (us k)) → ((c : Content) → IsIntentOf o c → IsIntentOf t c) → RecordsFit t p.begun rs → Shows us rs w v → Midway s q acted vs o w p
    → Midway s q acted (λ k. vs k ++ us k) t v p
midway-shows s q acted vs us o t rs w v p above intents fits shows m = record {
  keeps = shows.keeps;
  partway = record {
    ascends = m.partway.ascends;
    at = λ k. subst (λ c. Partway s (at_of q.head 0) (acted k) (vs k ++ us k) c (content_at k p.cells)) (sym (shows.cells k)) (partway-foreigns s (at_of q.head 0) (acted k) (vs k) (us k) (cell_of w k) (content_at k p.cells) (m.partway.at k) (above k));
    rest = m.partway.rest;
    front = m.partway.front;
  };
  intents = λ k. subst (IsIntentOf t) (sym (shows.cells k)) (intents (after_foreigns (us k) (cell_of w k)) (foreigns-intent o (us k) (cell_of w k) (m.intents k)));
  records = subst (RecordsFit t p.begun) (sym shows.records) fits;
  copies = shows.copies ∙ m.copies;
}

pub midway-moved : (s floor : ℕ) (q : Asking) (acted : List ℕ → List Item) (vs : List ℕ → List Version) (o : Option StoreTxn) (w : World) (p : Store) (e : Event) → IsMove floor e → s ≤ floor → Midway s q acted vs o w p
    → Midway s q acted (λ k. vs k ++ writes_by k e) (txn_by e o) (moved w e) p
midway-moved s floor q acted vs o w p e above low m =
    midway-shows s q acted vs (λ k. writes_by k e) o (txn_by e o) (records_by e w.records) w (moved w e) p
    (λ k. event-above s floor e k above low) (λ c h. event-intent e o c h) (records-moved e o p.begun w.records m.records)
    (event-shows w e floor above m.keeps m.copies) m

-- what shows nothing
pub midway-stays : (s : ℕ) (q : Asking) (acted : List ℕ → List Item) (vs : List ℕ → List Version) (o : Option StoreTxn) (w v : World) (p : Store) → Shows (λ k. []) w.records w v → Midway s q acted vs o w p → Midway s q acted vs o v p
midway-stays s q acted vs o w v p shows m =
    midway-so s q acted (λ k. vs k ++ []) vs o v p (λ k. append-nil (vs k))
    (midway-shows s q acted vs (λ k. []) o o w.records w v p (λ k. tt) (λ c h. h) m.records shows m)

-- a lookup

pub look-shows : (w v : World) (k : List ℕ) (d : Dir) → v ≡ look_world w k d → Keeps w → Shows (λ k. []) w.records w v
look-shows w v k d is keeps = subst (Shows (λ k. []) w.records w) (sym is) (shows-same w (look_world w k d) (keeps-same w (look_world w k d) refl refl keeps) refl refl refl)

-- what isn't answered Done does nothing

abbrev IsNotDone : Answer → Type 0
IsNotDone a = (rs : List Reply) → a ≡ Done rs → ⊥

made-stays : (w : World) (p : Piece) (m : Made) (a : Answer) → IsNotDone a → a ≡ answer_made m → world_made w p m ≡ w
made-stays w p (Fails f) a never h = refl
made-stays w p (Gives cells ws rs) a never h = absurd (never rs h)

at-stays : (w : World) (p : Piece) (r : Range) (o : Option Stop) (a : Answer) → IsNotDone a → a ≡ answer_at w p r o → world_at w p r o ≡ w
at-stays w p r (Some s) a never h = refl
at-stays w p r None a never h = made-stays w p (served w p r) a never h

to-stays : (w : World) (n : ℕ) (p : Piece) (o : Option Range) (a : Answer) → IsNotDone a → a ≡ deliver_answer_to w n p o → deliver_world_to w n p o ≡ w
to-stays w n p None a never h = refl
to-stays w n p (Some r) a never h = at-stays w p r (stops w n p r) a never h

pub undone-stays : (w v : World) (n : ℕ) (p : Piece) (a : Answer) → IsNotDone a → a ≡ deliver_answer w n p → v ≡ deliver_world w n p → w ≡ v
undone-stays w v n p a never h is = sym (is ∙ to-stays w n p (find (has_id p.range) w.ranges) a never h)

pub failed-not-done : (f : Failure) → IsNotDone (Failed f)
failed-not-done f rs h = cc

pub refused-not-done : (r : Refusal) → IsNotDone (Refused r)
refused-not-done r rs h = cc

-- happenings that serve nothing, of which no send is lost
pub midway-idle : (s floor : ℕ) (q : Asking) (acted : List ℕ → List Item) (hs : List Happening) (vs : List ℕ → List Version) (o : Option StoreTxn) (w v : World) (p : Store)
    → Each IsIdle hs → Each IsTold hs → Each (IsHigh floor) hs → s ≤ floor → Runs w hs v → Midway s q acted vs o w p
    → Midway s q acted (λ k. vs k ++ writes_at k hs) (txn_after hs o) v p
midway-idle s floor q acted [] vs o w v p idle kept high low runs m =
    subst (λ z. Midway s q acted (λ k. vs k ++ []) o z p) (sym runs) (midway-so s q acted vs (λ k. vs k ++ []) o w p (λ k. sym (append-nil (vs k))) m)
midway-idle s floor q acted (Moved e ∷ hs) vs o w v p idle kept high low runs m =
    midway-so s q acted (λ k. (vs k ++ writes_by k e) ++ writes_at k hs) (λ k. vs k ++ (writes_by k e ++ writes_at k hs)) (txn_after hs (txn_by e o)) v p (λ k. append_assoc (vs k) (writes_by k e) (writes_at k hs))
    (midway-idle s floor q acted hs (λ k. vs k ++ writes_by k e) (txn_by e o) runs.0 v p idle.1 kept.1 high.1 low runs.2
    (subst (λ z. Midway s q acted (λ k. vs k ++ writes_by k e) (txn_by e o) z p) (sym runs.1) (midway-moved s floor q acted vs o w p e high.0 low m)))
midway-idle s floor q acted (Did (Look k d (Looked.Rows infos)) ∷ hs) vs o w v p idle kept high low runs m =
    midway-idle s floor q acted hs vs o runs.0 v p idle.1 kept.1 high.1 low runs.2
    (midway-stays s q acted vs o w runs.0 p (look-shows w runs.0 k d (told w (Look k d (Looked.Rows infos)) runs.0 runs.1).1 m.keeps) m)
midway-idle s floor q acted (Did (Look k d Looked.Lost) ∷ hs) vs o w v p idle kept high low runs m =
    midway-idle s floor q acted hs vs o runs.0 v p idle.1 kept.1 high.1 low runs.2
    (subst (λ z. Midway s q acted vs o z p) (sym (told w (Look k d Looked.Lost) runs.0 runs.1).0) m)
midway-idle s floor q acted (Did (Send n j (Done rs)) ∷ hs) vs o w v p idle kept high low runs m = absurd idle.0
midway-idle s floor q acted (Did (Send n j (Failed f)) ∷ hs) vs o w v p idle kept high low runs m =
    let t = told w (Send n j (Failed f)) runs.0 runs.1 in
    midway-idle s floor q acted hs vs o runs.0 v p idle.1 kept.1 high.1 low runs.2
    (subst (λ z. Midway s q acted vs o z p) (undone-stays w runs.0 n j (Failed f) (failed-not-done f) t.0 t.1) m)
midway-idle s floor q acted (Did (Send n j (Refused f)) ∷ hs) vs o w v p idle kept high low runs m =
    let t = told w (Send n j (Refused f)) runs.0 runs.1 in
    midway-idle s floor q acted hs vs o runs.0 v p idle.1 kept.1 high.1 low runs.2
    (subst (λ z. Midway s q acted vs o z p) (undone-stays w runs.0 n j (Refused f) (refused-not-done f) t.0 t.1) m)
midway-idle s floor q acted (Did (Send n j Lost) ∷ hs) vs o w v p idle kept high low runs m = absurd kept.0
