-- Where all must lie in one range and a rest is left, nothing was done.
use Rattle.std.proofs.Common.{◌≡◌, ℕ, ◌<◌, true, List, [], ◌∷◌, ◌++◌, if◌then◌else◌, map, length, Option, Some, None, inl, inr, refl, sym, subst, arith}
use Rattle.ds_base.proofs.KeyFacts.{le_itself}
use Rattle.ds_base.proofs.SmallFacts.{and_both, and_first}
use Rattle.ds_base.specs.Order.{Extent, key_le}
use Rattle.ds_desc.specs.declared.desc.RangeDesc.{RangeDesc}
use Rattle.ds_kind.proofs.RequestFacts.{proper_some}
use Rattle.ds_kind.specs.Request.{span_of}
use Rattle.ds_kind.specs.declared.batch.Item.{Item}
use Rattle.ds_cover.specs.Coverage.{holds_at, positions_at, AllNone, Covered, Shares}
use Rattle.ds_cover.specs.Items.{AreProper}
use Rattle.ds_kind.specs.Left.{left_after}
use Rattle.ds_rule.specs.declared.answer.Answer.TheVariants.{Done, Failed, Refused, Lost}
use Rattle.ds_rule.specs.declared.journal.JournalStep.TheVariants.{Look, Send}
use Rattle.ds_rule.specs.Journal.{Happening, Moved, Did}
use Rattle.ds_rule.specs.Pieces.{Each}
use Rattle.ds_flight.specs.Causes.{IsIdle, LiesApart}
use Rattle.ds_flight.specs.Fills.{LeavesRest}
use Rattle.ds_flight.specs.Flights.{Flight, AllAtOnce, AllOfPart}
use Rattle.ds_flight.specs.Left.{blocks_of, failures, replies_by}

-- ---- items that stand in two blocks

first-held : (i : Item) (is : List Item) → AreProper (i ∷ is) → positions_at (span_of i.request).start (i ∷ is) ≡ i.pos ∷ positions_at (span_of i.request).start is
first-held i is proper =
    let s = (span_of i.request).start in
    let held : holds_at s i ≡ true = and_both (key_le s s) _ (le_itself s) (proper_some i.request (and_first _ _ proper)) in
    subst (λ t. (if t then i.pos ∷ positions_at s is else positions_at s is) ≡ i.pos ∷ positions_at s is) (sym held) refl

some-none : {G : Type 0} (w : ℕ) (ws : List ℕ) → w ∷ ws ≡ [] → G
some-none w ws h = cc

none-among : (k : List ℕ) (bs : List (List Item)) (c : List Item) (cs : List (List Item)) → AllNone (map (positions_at k) (bs ++ c ∷ cs)) → positions_at k c ≡ []
none-among k [] c cs all = all.0
none-among k (b ∷ bs) c cs all = none-among k bs c cs all.1

twice : {G : Type 0} (w : ℕ) (ws : List ℕ) (k : List ℕ) (b : List Item) (bs : List (List Item)) (c : List Item) (cs : List (List Item))
    → positions_at k b ≡ w ∷ ws → positions_at k c ≡ w ∷ ws → Shares (w ∷ ws) (map (positions_at k) (b ∷ (bs ++ c ∷ cs))) → G
twice w ws k b bs c cs one two (inl h) = some-none w ws (subst (λ xs. xs ≡ []) two (none-among k bs c cs h.1))
twice w ws k b bs c cs one two (inr h) = some-none w ws (subst (λ xs. xs ≡ []) one h.0)

no-two : {G : Type 0} (items : List Item) (b : List Item) (bs : List (List Item)) (c : List Item) (cs : List (List Item))
    → 0 < length items → AreProper items → b ≡ items → c ≡ items → Covered items (b ∷ (bs ++ c ∷ cs)) → G
no-two [] b bs c cs some proper one two covered = absurd (omega (arith, some))
no-two (i ∷ is) b bs c cs some proper one two covered =
    let s = (span_of i.request).start in
    let held = first-held i is proper in
    twice i.pos (positions_at s is) s b bs c cs
    (subst (λ xs. positions_at s xs ≡ i.pos ∷ positions_at s is) (sym one) held)
    (subst (λ xs. positions_at s xs ≡ i.pos ∷ positions_at s is) (sym two) held)
    (subst (λ ws. Shares ws (map (positions_at s) (b ∷ (bs ++ c ∷ cs)))) held (covered s))

-- ---- each block that is done is all of the part

at-once : (o : Option Extent) (w : Extent) (all items : List Item) → o ≡ Some w → AllAtOnce o all items → items ≡ all
at-once o w all items is h = subst (λ x. AllAtOnce x all items) is h

abbrev IsAll : Flight → List Item → Type 0
IsAll f b = b ≡ f.part.items

all-blocks : (f : Flight) (w : Extent) → f.whole ≡ Some w → (left : Option ℕ) (hs : List Happening) → AllOfPart f left hs → Each (IsAll f) (blocks_of hs)
all-blocks f w is left [] of = tt
all-blocks f w is left (Moved e ∷ hs) of = all-blocks f w is left hs of
all-blocks f w is left (Did (Look k d l) ∷ hs) of = all-blocks f w is (left_after left (replies_by (Look k d l))) hs of.1
all-blocks f w is left (Did (Send n p (Done rs)) ∷ hs) of = (at-once f.whole w f.part.items p.items is of.0.of.all, all-blocks f w is (left_after left (replies_by (Send n p (Done rs)))) hs of.1)
all-blocks f w is left (Did (Send n p (Failed x)) ∷ hs) of = all-blocks f w is (left_after left (replies_by (Send n p (Failed x)))) hs of.1
all-blocks f w is left (Did (Send n p (Refused r)) ∷ hs) of = all-blocks f w is (left_after left (replies_by (Send n p (Refused r)))) hs of.1
all-blocks f w is left (Did (Send n p Lost) ∷ hs) of = all-blocks f w is (left_after left (replies_by (Send n p Lost))) hs of.1

none-done : (f : Flight) (known : List RangeDesc) (w : Extent) (bs : List (List Item)) → f.whole ≡ Some w → Each (IsAll f) bs → LeavesRest f known bs → bs ≡ []
none-done f known w [] is all left = refl
none-done f known w (b ∷ bs) is all left =
    let rest = left.underway.each.0.0 in
    let same = at-once f.whole w f.part.items left.rest.items is rest.of.all in
    no-two f.part.items b bs left.rest.items _
    (subst (λ xs. 0 < length xs) same rest.some) (subst AreProper same rest.of.proper) all.0 same left.underway.covered

must-lie : {G : Type 0} (f : Flight) (o : Option Extent) (desc : RangeDesc) → LiesApart f o desc → ((w : Extent) → o ≡ Some w → G) → G
must-lie f None desc apart go = absurd apart
must-lie f (Some w) desc apart go = go w refl

pub idle : (f : Flight) (known : List RangeDesc) (desc : RangeDesc) (left : Option ℕ) (hs : List Happening) → AllOfPart f left hs → failures hs ≡ []
    → LiesApart f f.whole desc → LeavesRest f known (blocks_of hs) → IsIdle hs
idle f known desc left hs of none apart rest =
    must-lie f f.whole desc apart (λ w is. record { blocks = none-done f known w (blocks_of hs) is (all-blocks f w is left hs of) rest; failed = none })
