-- The sends among what happened, and the picks that they take.
use Rattle.std.specs.Prelude.{◌≡◌, ℕ, List, [], ◌∷◌, ◌++◌, None, refl}
use Rattle.ds_base.specs.declared.value.Dir.TheVariants.{Forward}
use Rattle.ds_desc.specs.declared.meta.Looked.TheVariants as Looked
use Rattle.ds_rule.specs.declared.answer.Answer.{Answer}
use Rattle.ds_rule.specs.declared.answer.Answer.TheVariants.{Done, Failed, Refused, Lost}
use Rattle.ds_rule.specs.declared.journal.JournalStep.{JournalStep}
use Rattle.ds_rule.specs.declared.journal.JournalStep.TheVariants.{Look, Send}
use Rattle.ds_rule.specs.Clauses.{later_picks}
use Rattle.ds_rule.specs.Journal.{Happening, Moved, Did}

abbrev pub sends_by : JournalStep → List JournalStep
sends_by (Look k d l) = []
sends_by (Send n p a) = Send n p a ∷ []

-- the sends alone, in order
abbrev pub sends_of : List Happening → List JournalStep
sends_of [] = []
sends_of (Moved e ∷ hs) = sends_of hs
sends_of (Did s ∷ hs) = sends_by s ++ sends_of hs

-- each send takes a pick
abbrev pub picks_after : List ℕ → List JournalStep → List ℕ
picks_after picks [] = picks
picks_after picks (s ∷ sends) = picks_after (later_picks picks) sends

-- these picks were to come before, and those afterwards
abbrev pub TookPicks : List ℕ → List ℕ → List Happening → Type 0
TookPicks before after hs = after ≡ picks_after before (sends_of hs)

-- so they took, and one more was used up, for a send that never came
abbrev pub TookOneMore : List ℕ → List ℕ → List Happening → Type 0
TookOneMore before after hs = after ≡ later_picks (picks_after before (sends_of hs))

-- one send, or none
abbrev pub IsOneAtMost : List JournalStep → Type 0
IsOneAtMost [] = Unit {0}
IsOneAtMost (s ∷ sends) = sends ≡ []

abbrev pub IsDoneAnswer : Answer → Type 0
IsDoneAnswer (Done rs) = Unit {0}
IsDoneAnswer (Failed f) = ⊥
IsDoneAnswer (Refused r) = ⊥
IsDoneAnswer Lost = ⊥

-- a lookup takes no pick, and each of two sends takes one, be they lost or not

abbrev sent : Answer → Happening
sent a = Did (Send 1 (record { head = record { at = record { 0 = 5 }; txn = None; left = None; epoch = 0 }; range = 7; items = []; dir = Forward }) a)

two_picks : TookPicks (4 ∷ 3 ∷ 2 ∷ []) (2 ∷ []) (sent Lost ∷ Did (Look [] Forward Looked.Lost) ∷ sent (Done []) ∷ [])
two_picks = refl

none_are_left : TookPicks (4 ∷ []) [] (sent Lost ∷ sent (Done []) ∷ [])
none_are_left = refl

the_next_send_never_came : TookOneMore (4 ∷ 3 ∷ 2 ∷ []) (2 ∷ []) (sent Lost ∷ [])
the_next_send_never_came = refl

not_two_sends : TookOneMore (4 ∷ 3 ∷ 2 ∷ []) (2 ∷ []) [] → ⊥
not_two_sends h = cc

one_at_most : IsOneAtMost (sends_of (Did (Look [] Forward Looked.Lost) ∷ sent Lost ∷ []))
one_at_most = refl

not_two : IsOneAtMost (sends_of (sent Lost ∷ sent Lost ∷ [])) → ⊥
not_two h = cc
