-- What the sender that sends no limited batch did, told as every sender's steps are.
use Rattle.std.proofs.Common.{◌≡◌, true, List, [], ◌∷◌, ◌++◌, map, None, sym, ap, ◌∙◌, subst}
use Rattle.ds_base.specs.declared.value.Dir.{Dir}
use Rattle.ds_desc.specs.Contains.{lies_ahead}
use Rattle.ds_desc.specs.declared.meta.Looked.{Looked}
use Rattle.ds_kind.specs.Left.{left_after}
use Rattle.ds_rule.specs.declared.journal.JournalStep.{JournalStep}
use Rattle.ds_rule.specs.declared.journal.JournalStep.TheVariants.{Look, Send}
use Rattle.ds_rule.specs.Asking.{Asking}
use Rattle.ds_rule.specs.Journal.{Happening, Moved, Did, Does, Runs, Accepted, accepted_by}
use Rattle.ds_rule.specs.Path.{IsOf, IsStepOf}
use Rattle.ds_rule.specs.Pieces.{Each, PieceOf}
use Rattle.ds_rule.specs.Sending.{AllOf, StepOf, left_of}
use Rattle.ds_rule.specs.World.{World}
use Rattle.ds_rule.proofs.Passing.{told}

none-left-of : (q : Asking) (got : List Accepted) → q.head.left ≡ None → q.head.left ≡ left_of q got
none-left-of q got none = none ∙ sym (ap (λ o. left_after o (map (λ a. a.reply) got)) none)

look-ahead : (w v : World) (k : List _) (d : Dir) (l : Looked) → Does w (Look k d l) v → lies_ahead d k ≡ true
look-ahead w v k d (Looked.Rows infos) does = (told w (Look k d (Looked.Rows infos)) v does).2
look-ahead w v k d Looked.Lost does = (told w (Look k d Looked.Lost) v does).1

old-sender-step : (q : Asking) (got : List Accepted) (s : JournalStep) (w v : World) → q.head.left ≡ None → Does w s v → IsStepOf q s → StepOf q (left_of q got) s
old-sender-step q got (Look k d l) w v none does of = look-ahead w v k d l does
old-sender-step q got (Send n p a) w v none does of = subst (λ o. PieceOf q o p) (none-left-of q got none) of

-- without a limit each of its pieces has all that is left, which is none; and what was looked up lay ahead, as it was answered
pub old-sender-steps : (q : Asking) (got : List Accepted) (hs : List Happening) (w v : World) → q.head.left ≡ None → Runs w hs v → Each (IsOf q) hs → AllOf q got hs
old-sender-steps q got [] w v none runs of = tt
old-sender-steps q got (Moved e ∷ hs) w v none runs of = old-sender-steps q got hs runs.0 v none runs.2 of.1
old-sender-steps q got (Did s ∷ hs) w v none runs of = (
  old-sender-step q got s w runs.0 none runs.1 of.0,
  old-sender-steps q (got ++ accepted_by s) hs runs.0 v none runs.2 of.1,
)
