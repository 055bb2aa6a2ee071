-- Ways that one call of a sender goes, one after the other.
use Rattle.std.proofs.Common.{◌≡◌, ℕ, ◌+◌, ◌≤◌, true, false, nat_lt, List, [], ◌∷◌, ◌++◌, map, Option, Some, None, inl, inr, refl, sym, ap, ◌∙◌, subst, append_assoc, arith}
use Rattle.ds_base.specs.declared.value.Dir.{Dir}
use Rattle.ds_base.specs.declared.value.Dir.TheVariants.{Forward}
use Rattle.ds_base.specs.Counts.{Rose}
use Rattle.ds_base.proofs.SmallFacts.{append_nil}
use Rattle.ds_rule.proofs.Calls.{rose-left, rose-right, runs-append}
use Rattle.ds_rule.proofs.Eachs.{each-append}
use Rattle.ds_desc.specs.declared.desc.Info.{Info}
use Rattle.ds_desc.specs.declared.meta.Looked.TheVariants as Looked
use Rattle.ds_kind.specs.declared.batch.Piece.{Piece}
use Rattle.ds_rule.specs.declared.answer.Answer.{Answer}
use Rattle.ds_rule.specs.declared.event.Event.{Event}
use Rattle.ds_rule.specs.declared.journal.JournalStep.{JournalStep}
use Rattle.ds_rule.specs.declared.journal.JournalStep.TheVariants.{Look, Send}
use Rattle.ds_rule.specs.Asking.{Asking}
use Rattle.ds_rule.specs.Cause.{Trip, refused_in, lost_in, refusals_of, losses_of}
use Rattle.ds_rule.specs.Clauses.{Stands, Steps, IsLost, and_step}
use Rattle.ds_rule.specs.Journal.{Happening, Moved, Did, Runs, Accepted, accepted, accepted_by}
use Rattle.ds_rule.specs.Moves.{IsMove}
use Rattle.ds_rule.specs.Path.{AreRouted, GoesTo, IsHigh, IsOf, IsRouted, IsStepOf, LosesOnly, route_by}
use Rattle.ds_rule.specs.Pieces.{Each, PieceOf}
use Rattle.ds_rule.specs.World.{World}

pub accepted-append : (xs ys : List Happening) → accepted (xs ++ ys) ≡ accepted xs ++ accepted ys
accepted-append [] ys = refl
accepted-append (Moved e ∷ xs) ys = accepted-append xs ys
accepted-append (Did s ∷ xs) ys = ap (λ zs. accepted_by s ++ zs) (accepted-append xs ys) ∙ sym (append_assoc (accepted_by s) (accepted xs) (accepted ys))

plus-assoc : (a b c : ℕ) → a + (b + c) ≡ (a + b) + c
plus-assoc a b c = omega arith

refused-append : (xs ys : List Happening) → refused_in (xs ++ ys) ≡ refused_in xs + refused_in ys
refused-append [] ys = let h : refused_in ys ≡ 0 + refused_in ys = omega arith in h
refused-append (Moved e ∷ xs) ys = refused-append xs ys
refused-append (Did s ∷ xs) ys = ap (λ n. refusals_of s + n) (refused-append xs ys) ∙ plus-assoc (refusals_of s) (refused_in xs) (refused_in ys)

lost-append : (xs ys : List Happening) → lost_in (xs ++ ys) ≡ lost_in xs + lost_in ys
lost-append [] ys = let h : lost_in ys ≡ 0 + lost_in ys = omega arith in h
lost-append (Moved e ∷ xs) ys = lost-append xs ys
lost-append (Did s ∷ xs) ys = ap (λ n. losses_of s + n) (lost-append xs ys) ∙ plus-assoc (losses_of s) (lost_in xs) (lost_in ys)

pub loses-more : (hs : List Happening) (r t : Type 0) → (r → t) → Each (LosesOnly r) hs → Each (LosesOnly t) hs
loses-more [] r t f all = tt
loses-more (Moved e ∷ hs) r t f all = (tt, loses-more hs r t f all.1)
loses-more (Did s ∷ hs) r t f all = ((λ l. f (all.0 l)), loses-more hs r t f all.1)

-- one step

step-accepted : (ms : List Event) (s : JournalStep) → accepted (and_step ms s) ≡ accepted_by s
step-accepted [] s = append_nil (accepted_by s)
step-accepted (m ∷ ms) s = step-accepted ms s

step-high : (floor : ℕ) (ms : List Event) (s : JournalStep) → Each (IsMove floor) ms → Each (IsHigh floor) (and_step ms s)
step-high floor [] s all = (tt, tt)
step-high floor (m ∷ ms) s all = (all.0, step-high floor ms s all.1)

step-of : (q : Asking) (ms : List Event) (s : JournalStep) → IsStepOf q s → Each (IsOf q) (and_step ms s)
step-of q [] s of = (of, tt)
step-of q (m ∷ ms) s of = (tt, step-of q ms s of)

step-loses : (r : Type 0) (ms : List Event) (s : JournalStep) → (IsLost s → r) → Each (LosesOnly r) (and_step ms s)
step-loses r [] s l = (l, tt)
step-loses r (m ∷ ms) s l = (tt, step-loses r ms s l)

plus-none : (n : ℕ) → n + 0 ≡ n
plus-none n = omega arith

step-refused : (ms : List Event) (s : JournalStep) → refused_in (and_step ms s) ≡ refusals_of s
step-refused [] s = plus-none (refusals_of s)
step-refused (m ∷ ms) s = step-refused ms s

step-lost : (ms : List Event) (s : JournalStep) → lost_in (and_step ms s) ≡ losses_of s
step-lost [] s = plus-none (losses_of s)
step-lost (m ∷ ms) s = step-lost ms s

-- routes

pub routed-any : (route : Option Info) (hs : List Happening) → AreRouted None hs → AreRouted route hs
routed-any route [] h = tt
routed-any route (Moved e ∷ hs) h = routed-any route hs h
routed-any route (Did (Look k d l) ∷ hs) h = h
routed-any route (Did (Send n p a) ∷ hs) h = absurd h.0

-- a way after a way, which looks up its own first route
pub routed-append : (route : Option Info) (xs ys : List Happening) → AreRouted route xs → AreRouted None ys → AreRouted route (xs ++ ys)
routed-append route [] ys a b = routed-any route ys b
routed-append route (Moved e ∷ xs) ys a b = routed-append route xs ys a b
routed-append route (Did s ∷ xs) ys a b = (a.0, routed-append (route_by s) xs ys a.1 b)

step-routed : (route : Option Info) (ms : List Event) (s : JournalStep) → IsRouted route s → AreRouted route (and_step ms s)
step-routed route [] s h = (h, tt)
step-routed route (m ∷ ms) s h = step-routed route ms s h

-- a lookup, and a send right after it
sent-routed : (route : Option Info) (ms ns : List Event) (k : List ℕ) (d : Dir) (i : Info) (rest : List Info) (n : ℕ) (p : Piece) (x : Answer) → GoesTo i n p → AreRouted route (and_step ms (Look k d (Looked.Rows (i ∷ rest))) ++ and_step ns (Send n p x))
sent-routed route [] ns k d i rest n p x goes = (tt, step-routed (Some i) ns (Send n p x) goes)
sent-routed route (m ∷ ms) ns k d i rest n p x goes = sent-routed route ms ns k d i rest n p x goes

-- a way but for its routes
record Way (q : Asking) (a b : Stands) (got : List Accepted) (refused lost : ℕ) : Type 0 where
  added : List Happening
  high : Each (IsHigh a.floor) added
  of : Each (IsOf q) added
  loses : Each (LosesOnly (Rose a.lost b.lost)) added
  grown : b.past ≡ a.past ++ added
  runs : Runs a.world added b.world
  floor : b.floor ≡ a.floor
  block : b.block ≡ a.block
  gives : accepted added ≡ got
  refusals : refused_in added ≡ refused
  losses : lost_in added ≡ lost
  rises : a.lost ≤ b.lost

of-trip : (q : Asking) (a b : Stands) (got : List Accepted) (r l : ℕ) → Trip q a b got r l → Way q a b got r l
of-trip q a b got r l t = record {
  added = t.path.added;
  high = t.path.high;
  of = t.path.of;
  loses = t.path.losses;
  grown = t.path.grown;
  runs = t.path.runs;
  floor = t.path.floor;
  block = t.path.block;
  gives = t.path.gives;
  refusals = t.refusals;
  losses = t.losses;
  rises = t.rises;
}

to-trip : (q : Asking) (a b : Stands) (got : List Accepted) (r l : ℕ) (w : Way q a b got r l) → AreRouted None w.added → Trip q a b got r l
to-trip q a b got r l w routed = record {
  path = record { added = w.added; high = w.high; of = w.of; routed = routed; losses = w.loses; grown = w.grown; runs = w.runs; floor = w.floor; block = w.block; gives = w.gives };
  refusals = w.refusals;
  losses = w.losses;
  rises = w.rises;
}

way-step : (q : Asking) (a b : Stands) (s : JournalStep) → IsStepOf q s → Steps a b s → Way q a b (accepted_by s) (refusals_of s) (losses_of s)
way-step q a b s of st = record {
  added = and_step st.moves s;
  high = step-high a.floor st.moves s st.above;
  of = step-of q st.moves s of;
  loses = step-loses (Rose a.lost b.lost) st.moves s st.loses;
  grown = st.grown;
  runs = st.runs;
  floor = st.floor;
  block = st.block;
  gives = step-accepted st.moves s;
  refusals = step-refused st.moves s;
  losses = step-lost st.moves s;
  rises = st.lost;
}

way-then : (q : Asking) (a b c : Stands) (got more : List Accepted) (r1 l1 r2 l2 : ℕ) → Way q a b got r1 l1 → Way q b c more r2 l2 → Way q a c (got ++ more) (r1 + r2) (l1 + l2)
way-then q a b c got more r1 l1 r2 l2 x y = record {
  added = x.added ++ y.added;
  high = each-append (IsHigh a.floor) x.added y.added x.high (subst (λ f. Each (IsHigh f) y.added) x.floor y.high);
  of = each-append (IsOf q) x.added y.added x.of y.of;
  loses = each-append (LosesOnly (Rose a.lost c.lost)) x.added y.added
      (loses-more x.added (Rose a.lost b.lost) (Rose a.lost c.lost) (λ h. rose-left a.lost b.lost c.lost h y.rises) x.loses)
      (loses-more y.added (Rose b.lost c.lost) (Rose a.lost c.lost) (λ h. rose-right a.lost b.lost c.lost x.rises y.rises h) y.loses);
  grown = y.grown ∙ ap (λ hs. hs ++ y.added) x.grown ∙ append_assoc a.past x.added y.added;
  runs = runs-append a.world b.world c.world x.added y.added x.runs y.runs;
  floor = y.floor ∙ x.floor;
  block = y.block ∙ x.block;
  gives = accepted-append x.added y.added ∙ ap (λ xs. xs ++ accepted y.added) x.gives ∙ ap (λ xs. got ++ xs) y.gives;
  refusals = refused-append x.added y.added ∙ ap (λ n. n + refused_in y.added) x.refusals ∙ ap (λ n. r1 + n) y.refusals;
  losses = lost-append x.added y.added ∙ ap (λ n. n + lost_in y.added) x.losses ∙ ap (λ n. l1 + n) y.losses;
  rises = omega (arith, x.rises, y.rises);
}

pub trip-none : (q : Asking) (a : Stands) → Trip q a a [] 0 0
trip-none q a = record {
  path = record { added = []; high = tt; of = tt; routed = tt; losses = tt; grown = sym (append_nil a.past); runs = refl; floor = refl; block = refl; gives = refl };
  refusals = refl;
  losses = refl;
  rises = omega arith;
}

pub trip-step : (q : Asking) (a b : Stands) (s : JournalStep) → IsStepOf q s → IsRouted None s → Steps a b s → Trip q a b (accepted_by s) (refusals_of s) (losses_of s)
unfolding way-step
trip-step q a b s of free st = to-trip q a b _ _ _ (way-step q a b s of st) (step-routed None st.moves s free)

-- a lookup, and a piece of the batch sent where its first row says
pub trip-sent : (q : Asking) (a b c : Stands) (k : List ℕ) (i : Info) (rest : List Info) (n : ℕ) (p : Piece) (x : Answer) → Steps a b (Look k Forward (Looked.Rows (i ∷ rest))) → Steps b c (Send n p x) → PieceOf q q.head.left p → GoesTo i n p → Trip q a c (accepted_by (Send n p x)) (0 + refusals_of (Send n p x)) (0 + losses_of (Send n p x))
unfolding way-then way-step
trip-sent q a b c k i rest n p x look send of goes =
    to-trip q a c _ _ _
    (way-then q a b c [] _ _ _ _ _ (way-step q a b (Look k Forward (Looked.Rows (i ∷ rest))) tt look) (way-step q b c (Send n p x) of send))
    (sent-routed None look.moves send.moves k Forward i rest n p x goes)

pub trip-then : (q : Asking) (a b c : Stands) (got more : List Accepted) (r1 l1 r2 l2 : ℕ) → Trip q a b got r1 l1 → Trip q b c more r2 l2 → Trip q a c (got ++ more) (r1 + r2) (l1 + l2)
unfolding way-then of-trip
trip-then q a b c got more r1 l1 r2 l2 v w =
    to-trip q a c _ _ _
    (way-then q a b c got more r1 l1 r2 l2 (of-trip q a b got r1 l1 v) (of-trip q b c more r2 l2 w))
    (routed-append None v.path.added w.path.added v.path.routed w.path.routed)

-- what a step, and a way after a way, add

pub step-added : (q : Asking) (a b : Stands) (s : JournalStep) (of : IsStepOf q s) (free : IsRouted None s) (st : Steps a b s) → (trip-step q a b s of free st).path.added ≡ map Moved st.moves ++ Did s ∷ []
unfolding trip-step to-trip way-step
step-added q a b s of free st = refl

pub sent-added : (q : Asking) (a b c : Stands) (k : List ℕ) (i : Info) (rest : List Info) (n : ℕ) (p : Piece) (x : Answer) (look : Steps a b (Look k Forward (Looked.Rows (i ∷ rest)))) (send : Steps b c (Send n p x)) (of : PieceOf q q.head.left p) (goes : GoesTo i n p) → (trip-sent q a b c k i rest n p x look send of goes).path.added ≡ and_step look.moves (Look k Forward (Looked.Rows (i ∷ rest))) ++ and_step send.moves (Send n p x)
unfolding trip-sent to-trip way-then way-step
sent-added q a b c k i rest n p x look send of goes = refl

pub then-added : (q : Asking) (a b c : Stands) (got more : List Accepted) (r1 l1 r2 l2 : ℕ) (v : Trip q a b got r1 l1) (w : Trip q b c more r2 l2) → (trip-then q a b c got more r1 l1 r2 l2 v w).path.added ≡ v.path.added ++ w.path.added
unfolding trip-then to-trip way-then of-trip
then-added q a b c got more r1 l1 r2 l2 v w = refl

pub none-added : (q : Asking) (a : Stands) → (trip-none q a).path.added ≡ []
unfolding trip-none
none-added q a = refl
