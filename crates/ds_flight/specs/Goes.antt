-- Which descriptors a sender knows, and where its pieces may go.
use Rattle.std.specs.Prelude.{◌≡◌, ℕ, true, false, List, [], ◌∷◌, ◌++◌, map, Option, Some, None, refl}
use Rattle.std.specs.List.{list_all}
use Rattle.std.proofs.Common.{inl}
use Rattle.ds_base.specs.Order.{Extent}
use Rattle.ds_base.specs.declared.value.Dir.TheVariants.{Forward}
use Rattle.ds_desc.specs.declared.desc.Info.{Info}
use Rattle.ds_desc.specs.declared.desc.RangeDesc.{RangeDesc}
use Rattle.ds_desc.specs.declared.meta.Looked.TheVariants as Looked
use Rattle.ds_desc.specs.declared.refusal.Refusal.TheVariants.{NotFound, NotLease, Mismatch}
use Rattle.ds_kind.specs.Request.{span_of}
use Rattle.ds_kind.specs.declared.batch.Item.{Item}
use Rattle.ds_kind.specs.declared.batch.Piece.{Piece}
use Rattle.ds_kind.specs.declared.request.Request.TheVariants.{Get}
use Rattle.ds_rule.specs.declared.answer.Answer.TheVariants.{Done, Failed, Refused, Lost}
use Rattle.ds_rule.specs.declared.journal.JournalStep.{JournalStep}
use Rattle.ds_rule.specs.declared.journal.JournalStep.TheVariants.{Look, Send}
use Rattle.ds_rule.specs.Journal.{Happening, Moved, Did}
use Rattle.ds_rule.specs.Path.{holds_span}
use Rattle.ds_rule.specs.Pieces.{IsOneOf}
use Rattle.ds_rule.specs.World.{is_replica}

-- ---- what is known

-- the rows that a step tells: a lookup's, and a mismatch's
abbrev pub told_by : JournalStep → List Info
told_by (Look k d (Looked.Rows is)) = is
told_by (Look k d Looked.Lost) = []
told_by (Send n p (Refused (Mismatch is))) = is
told_by (Send n p (Refused NotFound)) = []
told_by (Send n p (Refused (NotLease l))) = []
told_by (Send n p (Done rs)) = []
told_by (Send n p (Failed f)) = []
told_by (Send n p Lost) = []

abbrev pub descs_of : List Info → List RangeDesc
descs_of is = map (λ i. i.desc) is

-- the descriptors that are known after all that happened, where these were known before
abbrev pub known_after : List RangeDesc → List Happening → List RangeDesc
known_after known [] = known
known_after known (Moved e ∷ hs) = known_after known hs
known_after known (Did s ∷ hs) = known_after (known ++ descs_of (told_by s)) hs

-- ---- where a piece goes

-- what must lie in one range lies in this one
abbrev pub InOne : Option Extent → Extent → Type 0
InOne None span = Unit {0}
InOne (Some whole) span = holds_span span whole ≡ true

-- the range's span holds each item
abbrev pub HoldsAll : Extent → List Item → Type 0
HoldsAll span items = list_all (λ i. holds_span span (span_of i.request)) items ≡ true

-- the span that must lie in one range holds each item
abbrev pub WholeHolds : Option Extent → List Item → Type 0
WholeHolds None items = Unit {0}
WholeHolds (Some whole) items = HoldsAll whole items

-- the piece is for the range of this descriptor, and goes to one of its replicas
pub record GoesBy (whole : Option Extent) (desc : RangeDesc) (node : ℕ) (p : Piece) : Type 0 where
  pub replica : is_replica node desc.nodes ≡ true
  pub range : p.range ≡ desc.id
  pub held : HoldsAll desc.span p.items
  pub one : InOne whole desc.span

-- a send goes where one of the known descriptors says
abbrev pub StepGoes : Option Extent → List RangeDesc → JournalStep → Type 0
StepGoes whole known (Look k d l) = Unit {0}
StepGoes whole known (Send n p a) = (desc : RangeDesc) × IsOneOf desc known × GoesBy whole desc n p

-- each send goes where a descriptor says that was known before it
abbrev pub Goes : Option Extent → List RangeDesc → List Happening → Type 0
Goes whole known [] = Unit {0}
Goes whole known (Moved e ∷ hs) = Goes whole known hs
Goes whole known (Did s ∷ hs) = StepGoes whole known s × Goes whole (known ++ descs_of (told_by s)) hs

-- a get of a, and a range on the nodes 1 and 2 that holds a

abbrev a_range : RangeDesc
a_range = record { id = 7; span = record { start = []; end = 98 ∷ [] }; nodes = 1 ∷ 2 ∷ []; generation = 1 }

abbrev a_row : Info
a_row = record { desc = a_range; lease = record { node = 1; number = 1 } }

abbrev a_piece : Piece
a_piece = record {
  head = record { at = record { 0 = 5 }; txn = None; left = None; epoch = 0 };
  range = 7;
  items = record { pos = 0; seq = record { 0 = 0 }; request = Get (record { key = 97 ∷ [] }) } ∷ [];
  dir = Forward;
}

abbrev a_lookup : JournalStep
a_lookup = Look (97 ∷ []) Forward (Looked.Rows (a_row ∷ []))

a_send_after_its_lookup : Goes None [] (Did a_lookup ∷ Did (Send 2 a_piece Lost) ∷ [])
a_send_after_its_lookup = (tt, ((a_range, inl refl, record { replica = refl; range = refl; held = refl; one = tt }), tt))

-- not before it, and not to a node that is no replica
not_before_it : Goes None [] (Did (Send 2 a_piece Lost) ∷ Did a_lookup ∷ []) → ⊥
not_before_it h = h.0.1

not_to_another_node : GoesBy None a_range 3 a_piece → ⊥
not_to_another_node h = let low : false ≡ true = h.replica in cc

not_where_all_must_lie_in_one : GoesBy (Some (record { start = 97 ∷ []; end = 99 ∷ [] })) a_range 1 a_piece → ⊥
not_where_all_must_lie_in_one h = let low : false ≡ true = h.one in cc
