-- What is flown, and which pieces of it may be sent.
use Rattle.std.specs.Prelude.{◌≡◌, ℕ, ◌<◌, true, false, List, [], ◌∷◌, Option, Some, None, length, refl}
use Rattle.std.proofs.Common.{inl, arith}
use Rattle.ds_base.specs.Order.{Extent}
use Rattle.ds_base.specs.declared.value.Dir.TheVariants.{Forward}
use Rattle.ds_desc.specs.Contains.{lies_ahead}
use Rattle.ds_kind.specs.Left.{is_used_up, left_after}
use Rattle.ds_kind.specs.declared.batch.Head.{Head}
use Rattle.ds_kind.specs.declared.batch.Item.{Item}
use Rattle.ds_kind.specs.declared.batch.Part.{Part}
use Rattle.ds_kind.specs.declared.batch.Piece.{Piece}
use Rattle.ds_kind.specs.declared.request.Request.TheVariants.{Scan}
use Rattle.ds_cover.specs.Items.{AreProper}
use Rattle.ds_cover.specs.Origins.{CutsOf}
use Rattle.ds_rule.specs.declared.answer.Answer.TheVariants.{Lost}
use Rattle.ds_rule.specs.declared.journal.JournalStep.{JournalStep}
use Rattle.ds_rule.specs.declared.journal.JournalStep.TheVariants.{Look, Send}
use Rattle.ds_rule.specs.Journal.{Happening, Moved, Did}
use Rattle.ds_flight.specs.Left.{replies_by}

-- a part, who asks, and the span that must lie in one range, if there is one
pub record Flight : Type 0 where
  pub part : Part
  pub head : Head
  pub whole : Option Extent

-- where a span must lie in one range, all items are sent at once
abbrev pub AllAtOnce : Option Extent → List Item → List Item → Type 0
AllAtOnce None all items = Unit {0}
AllAtOnce (Some whole) all items = items ≡ all

-- these are items of the part, cut
pub record AreOfPart (f : Flight) (items : List Item) : Type 0 where
  pub cuts : CutsOf f.part.items items
  pub proper : AreProper items
  pub all : AllAtOnce f.whole f.part.items items

-- the piece is of the part, with so much left of the limit, of which something is left
pub record PieceOfPart (f : Flight) (left : Option ℕ) (p : Piece) : Type 0 where
  pub head : p.head ≡ record (f.head) { left = left }
  pub room : is_used_up left ≡ false
  pub some : 0 < length p.items
  pub of : AreOfPart f p.items
  pub dir : p.dir ≡ f.part.dir

-- the step is of the part: a lookup in its direction, of a key with some key of the key space ahead, or a send of a piece of it
abbrev pub StepOfPart : Flight → Option ℕ → JournalStep → Type 0
StepOfPart f left (Look k d l) = (d ≡ f.part.dir) × (lies_ahead d k ≡ true)
StepOfPart f left (Send n p a) = PieceOfPart f left p

-- each step is of the part, with what is left of the limit after what was accepted before it
abbrev pub AllOfPart : Flight → Option ℕ → List Happening → Type 0
AllOfPart f left [] = Unit {0}
AllOfPart f left (Moved e ∷ hs) = AllOfPart f left hs
AllOfPart f left (Did s ∷ hs) = StepOfPart f left s × AllOfPart f (left_after left (replies_by s)) hs

-- a scan of [a, c), of which a part is sent

abbrev pub scan_to : List ℕ → Item
scan_to e = record { pos = 0; seq = record { 0 = 0 }; request = Scan (record { start = 97 ∷ []; end = e }) }

abbrev pub asker : Head
asker = record { at = record { 0 = 5 }; txn = None; left = None; epoch = 0 }

abbrev pub one_scan : Option Extent → Flight
one_scan whole = record { part = record { items = scan_to (99 ∷ []) ∷ []; dir = Forward }; head = asker; whole = whole }

abbrev pub its_front : Piece
its_front = record { head = asker; range = 7; items = scan_to (98 ∷ []) ∷ []; dir = Forward }

a_part_is_sent : AllOfPart (one_scan None) None (Did (Send 1 its_front Lost) ∷ [])
a_part_is_sent = (record { head = refl; room = refl; some = omega arith; of = record { cuts = inl (record { same = refl; inside = (refl, refl) }, tt); proper = refl; all = tt }; dir = refl }, tt)

not_where_nothing_is_left : PieceOfPart (one_scan None) (Some 0) (record its_front { head = record asker { left = Some 0 } }) → ⊥
not_where_nothing_is_left h = let bad : true ≡ false = h.room in cc
