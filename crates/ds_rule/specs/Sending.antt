-- Which steps are of a batch, with what its accepted pieces took of its limit.
use Rattle.std.specs.Prelude.{◌≡◌, ℕ, true, List, [], ◌∷◌, ◌++◌, map, Option}
use Rattle.ds_desc.specs.Contains.{lies_ahead}
use Rattle.ds_kind.specs.Left.{left_after}
use Rattle.ds_rule.specs.declared.journal.JournalStep.{JournalStep}
use Rattle.ds_rule.specs.declared.journal.JournalStep.TheVariants.{Look, Send}
use Rattle.ds_rule.specs.Asking.{Asking}
use Rattle.ds_rule.specs.Journal.{Happening, Moved, Did, Accepted, accepted_by}
use Rattle.ds_rule.specs.Pieces.{PieceOf}

-- what is left of the batch's limit after what was accepted
abbrev pub left_of : Asking → List Accepted → Option ℕ
left_of q got = left_after q.head.left (map (λ a. a.reply) got)

-- the step is of the batch, with so much left of its limit: a lookup of a key that has some key of the key space ahead of it, or
-- a send of a piece of the batch
abbrev pub StepOf : Asking → Option ℕ → JournalStep → Type 0
StepOf q left (Look k d l) = lies_ahead d k ≡ true
StepOf q left (Send n p a) = PieceOf q left p

-- each step is of the batch, with what is left after what was accepted before it
abbrev pub AllOf : Asking → List Accepted → List Happening → Type 0
AllOf q got [] = Unit {0}
AllOf q got (Moved e ∷ hs) = AllOf q got hs
AllOf q got (Did s ∷ hs) = StepOf q (left_of q got) s × AllOf q (got ++ accepted_by s) hs
