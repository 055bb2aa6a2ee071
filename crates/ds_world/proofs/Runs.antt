-- What happens, one after another, keeps what every world keeps, and a served piece takes no more than its limit.
use Rattle.std.proofs.Common.{◌≡◌, ℕ, true, false, List, [], ◌∷◌, ◌++◌, map, inl, inr, ◌⊎◌, Option, Some, None, refl, sym, subst}
use Rattle.ds_desc.specs.declared.meta.Looked.TheVariants as Looked
use Rattle.ds_kind.specs.Left.{LeavesRoom}
use Rattle.ds_kind.specs.declared.batch.Piece.{Piece}
use Rattle.ds_kind.specs.declared.reply.Reply.{Reply}
use Rattle.ds_base.specs.declared.value.Dir.{Dir}
use Rattle.ds_rule.specs.declared.answer.Answer.TheVariants.{Done, Failed, Refused, Lost}
use Rattle.ds_rule.specs.declared.event.Event.{Event}
use Rattle.ds_rule.specs.declared.event.Event.TheVariants.{Write, Split, Merge, Lease, Move, Stale, Abort, Arrive, LoseRequest, LoseReply, Copy, Restart}
use Rattle.ds_rule.specs.declared.journal.JournalStep.{JournalStep}
use Rattle.ds_rule.specs.declared.journal.JournalStep.TheVariants.{Look, Send}
use Rattle.ds_rule.specs.Clauses.{Stands, Steps, and_step}
use Rattle.ds_rule.specs.Deliver.{deliver_world}
use Rattle.ds_rule.specs.Journal.{Does, Happening, Moved, Did, Runs, Takes}
use Rattle.ds_rule.specs.Keeping.{Keeps}
use Rattle.ds_rule.specs.Moves.{IsMove}
use Rattle.ds_rule.specs.Path.{IsHigh}
use Rattle.ds_rule.specs.Pieces.{Each}
use Rattle.ds_rule.specs.World.{World, look_world}
use Rattle.ds_rule.proofs.Passing.{told}
use Rattle.ds_rule.proofs.Taken.{done_within}
use Rattle.ds_world.specs.Laws.{HasReplicas}
use Rattle.ds_world.proofs.Delivers.{deliver-keeps}
use Rattle.ds_world.proofs.Events.{event-keeps}
use Rattle.ds_world.proofs.Stretches.{keeps-same}

-- ---- one that happens

move-replicas : (floor : ℕ) (e : Event) → IsMove floor e → HasReplicas e
move-replicas floor (Write k s v) h = tt
move-replicas floor (Split k) h = tt
move-replicas floor (Merge k) h = tt
move-replicas floor (Lease k n) h = tt
move-replicas floor (Move k ns) h = h
move-replicas floor (Stale k b) h = tt
move-replicas floor Abort h = tt
move-replicas floor (Arrive c) h = tt
move-replicas floor (LoseRequest c) h = tt
move-replicas floor (LoseReply c) h = tt
move-replicas floor (Copy c) h = tt
move-replicas floor (Restart t) h = tt

same-keeps : (w v : World) → v ≡ w → Keeps w → Keeps v
same-keeps w v same keeps = subst Keeps (sym same) keeps

delivered-keeps : (w v : World) (n : ℕ) (p : Piece) → v ≡ deliver_world w n p → Keeps w → Keeps v
delivered-keeps w v n p same keeps = subst Keeps (sym same) (deliver-keeps n p w keeps)

looked-keeps : (w v : World) (k : List ℕ) (d : Dir) → v ≡ look_world w k d → Keeps w → Keeps v
looked-keeps w v k d same keeps = subst Keeps (sym same) (keeps-same w (look_world w k d) refl refl keeps)

pub does-keeps : (w : World) (s : JournalStep) (v : World) → Does w s v → Keeps w → Keeps v
does-keeps w (Look k d (Looked.Rows is)) v h keeps = let t = told w (Look k d (Looked.Rows is)) v h in looked-keeps w v k d t.1 keeps
does-keeps w (Look k d Looked.Lost) v h keeps = let t = told w (Look k d Looked.Lost) v h in same-keeps w v t.0 keeps
does-keeps w (Send n p (Done rs)) v h keeps = let t = told w (Send n p (Done rs)) v h in delivered-keeps w v n p t.1 keeps
does-keeps w (Send n p (Failed f)) v h keeps = let t = told w (Send n p (Failed f)) v h in delivered-keeps w v n p t.1 keeps
does-keeps w (Send n p (Refused r)) v h keeps = let t = told w (Send n p (Refused r)) v h in delivered-keeps w v n p t.1 keeps
does-keeps w (Send n p Lost) v h keeps = elim (told w (Send n p Lost) v h) [
  | inl same ↦ same-keeps w v same keeps
  | inr went ↦ delivered-keeps w v n p went keeps
]

moved-keeps : (floor : ℕ) (w v : World) (e : Event) → IsMove floor e → Takes w (Moved e) v → Keeps w → Keeps v
moved-keeps floor w v e high takes keeps = subst Keeps (sym takes) (event-keeps e w (move-replicas floor e high) keeps)

-- ---- one after another

pub runs-keep : (floor : ℕ) (w v : World) (hs : List Happening) → Each (IsHigh floor) hs → Runs w hs v → Keeps w → Keeps v
runs-keep floor w v [] high runs keeps = same-keeps w v runs keeps
runs-keep floor w v (Moved e ∷ hs) high runs keeps = runs-keep floor runs.0 v hs high.1 runs.2 (moved-keeps floor w runs.0 e high.0 runs.1 keeps)
runs-keep floor w v (Did s ∷ hs) high runs keeps = runs-keep floor runs.0 v hs high.1 runs.2 (does-keeps w s runs.0 runs.1 keeps)

-- ---- a piece that is served

done-room : (floor : ℕ) (w v : World) (moves : List Event) (n : ℕ) (p : Piece) (rs : List Reply) → Each (IsMove floor) moves → Runs w (and_step moves (Send n p (Done rs))) v → Keeps w → LeavesRoom p.head.left rs
done-room floor w v [] n p rs high runs keeps = let t = told w (Send n p (Done rs)) runs.0 runs.1 in done_within [] w n p rs keeps.tiled t.0
done-room floor w v (m ∷ ms) n p rs high runs keeps = done-room floor runs.0 v ms n p rs high.1 runs.2 (moved-keeps floor w runs.0 m high.0 runs.1 keeps)

-- takes at most what is left of its limit
pub step-room : (a b : Stands) (n : ℕ) (p : Piece) (rs : List Reply) → Keeps a.world → Steps a b (Send n p (Done rs)) → LeavesRoom p.head.left rs
step-room a b n p rs keeps steps = done-room a.floor a.world b.world steps.moves n p rs steps.above steps.runs keeps
