-- What happened in one call after another.
use Rattle.std.proofs.Common.{◌≡◌, ◌⊎◌, ℕ, ◌≤◌, true, false, nat_lt, List, [], ◌∷◌, ◌++◌, Option, inl, inr, refl, sym, ap, ◌∙◌, subst, append_assoc, arith}
use Rattle.ds_base.specs.Counts.{Rose, last_count}
use Rattle.ds_base.proofs.SmallFacts.{append_nil, ge_of, lt_of}
use Rattle.ds_desc.specs.declared.desc.RangeDesc.{RangeDesc}
use Rattle.ds_kind.specs.Left.{left_after}
use Rattle.ds_base.specs.Order.{Extent}
use Rattle.ds_retry.specs.Counted.{Counts}
use Rattle.ds_rule.proofs.Eachs.{each-append}
use Rattle.ds_rule.specs.Clauses.{later_picks}
use Rattle.ds_rule.specs.declared.journal.JournalStep.{JournalStep}
use Rattle.ds_rule.specs.Journal.{Happening, Moved, Did, Runs}
use Rattle.ds_rule.specs.Path.{IsHigh, LosesOnly}
use Rattle.ds_rule.specs.Pieces.{Each}
use Rattle.ds_rule.specs.World.{World}
use Rattle.ds_flight.specs.Causes.{AllGoOn, LastMissed, LastSend}
use Rattle.ds_flight.specs.Counting.{counted, counted_step}
use Rattle.ds_flight.specs.Ends.{EndsNot, NoneEnds}
use Rattle.ds_flight.specs.Flights.{Flight, AllOfPart}
use Rattle.ds_flight.specs.Goes.{Goes, known_after, descs_of, told_by}
use Rattle.ds_flight.specs.Left.{arrived, arrived_by, block_by, blocks_of, failed_by, failures, left_over, replies_by}
use Rattle.ds_flight.specs.Picks.{picks_after, sends_by, sends_of, TookOneMore, TookPicks}
use Rattle.ds_flight.specs.Ran.{AreKnown, Course, Ran, RefusesOnly}

-- ---- folds over what happened

pub known-append : (known : List RangeDesc) (xs ys : List Happening) → known_after known (xs ++ ys) ≡ known_after (known_after known xs) ys
known-append known [] ys = refl
known-append known (Moved e ∷ xs) ys = known-append known xs ys
known-append known (Did s ∷ xs) ys = known-append (known ++ descs_of (told_by s)) xs ys

pub over-append : (left : Option ℕ) (xs ys : List Happening) → left_over left (xs ++ ys) ≡ left_over (left_over left xs) ys
over-append left [] ys = refl
over-append left (Moved e ∷ xs) ys = over-append left xs ys
over-append left (Did s ∷ xs) ys = over-append (left_after left (replies_by s)) xs ys

pub counted-append : (c : Counts) (xs ys : List Happening) → counted c (xs ++ ys) ≡ counted (counted c xs) ys
counted-append c [] ys = refl
counted-append c (Moved e ∷ xs) ys = counted-append c xs ys
counted-append c (Did s ∷ xs) ys = counted-append (counted_step c s) xs ys

pub blocks-append : (xs ys : List Happening) → blocks_of (xs ++ ys) ≡ blocks_of xs ++ blocks_of ys
blocks-append [] ys = refl
blocks-append (Moved e ∷ xs) ys = blocks-append xs ys
blocks-append (Did s ∷ xs) ys = ap (λ bs. block_by s ++ bs) (blocks-append xs ys) ∙ sym (append_assoc (block_by s) (blocks_of xs) (blocks_of ys))

pub arrived-append : (xs ys : List Happening) → arrived (xs ++ ys) ≡ arrived xs ++ arrived ys
arrived-append [] ys = refl
arrived-append (Moved e ∷ xs) ys = arrived-append xs ys
arrived-append (Did s ∷ xs) ys = ap (λ bs. arrived_by s ++ bs) (arrived-append xs ys) ∙ sym (append_assoc (arrived_by s) (arrived xs) (arrived ys))

pub failures-append : (xs ys : List Happening) → failures (xs ++ ys) ≡ failures xs ++ failures ys
failures-append [] ys = refl
failures-append (Moved e ∷ xs) ys = failures-append xs ys
failures-append (Did s ∷ xs) ys = ap (λ bs. failed_by s ++ bs) (failures-append xs ys) ∙ sym (append_assoc (failed_by s) (failures xs) (failures ys))

pub sends-append : (xs ys : List Happening) → sends_of (xs ++ ys) ≡ sends_of xs ++ sends_of ys
sends-append [] ys = refl
sends-append (Moved e ∷ xs) ys = sends-append xs ys
sends-append (Did s ∷ xs) ys = ap (λ ss. sends_by s ++ ss) (sends-append xs ys) ∙ sym (append_assoc (sends_by s) (sends_of xs) (sends_of ys))

-- picks that one way took after another
pub took-then : (a b c : List ℕ) (xs ys : List Happening) → TookPicks a b xs → TookPicks b c ys → TookPicks a c (xs ++ ys)
took-then a b c xs ys x y = y ∙ ap (λ ps. picks_after ps (sends_of ys)) x ∙ sym (ap (picks_after a) (sends-append xs ys) ∙ after-append a (sends_of xs) (sends_of ys))
  where
    after-append : (ps : List ℕ) (ss ts : List JournalStep) → picks_after ps (ss ++ ts) ≡ picks_after (picks_after ps ss) ts
    after-append ps [] ts = refl
    after-append ps (s ∷ ss) ts = after-append (later_picks ps) ss ts

-- and one more perhaps, for a send that never came
pub took-or-more :
    (a b c : List ℕ) (xs ys : List Happening) → TookPicks a b xs → TookPicks b c ys ⊎ TookOneMore b c ys → TookPicks a c (xs ++ ys) ⊎ TookOneMore a c (xs ++ ys)
took-or-more a b c xs ys x (inl y) = inl (took-then a b c xs ys x y)
took-or-more a b c xs ys x (inr y) = inr (y ∙ ap later_picks (took-then a b (picks_after b (sends_of ys)) xs ys x refl))

pub unended-append : (xs ys : List Happening) → NoneEnds xs → NoneEnds ys → NoneEnds (xs ++ ys)
unended-append xs ys x y = each-append EndsNot xs ys x y

pub last-append : (p : _) (a : _) (xs ys : List Happening) → NoneEnds xs → LastSend p a ys → LastSend p a (xs ++ ys)
last-append p a xs ys none l = record {
  before = xs ++ l.before;
  node = l.node;
  last = ap (λ zs. xs ++ zs) l.last ∙ sym (append_assoc xs l.before _);
  unended = unended-append xs l.before none l.unended;
}

pub missed-append : (xs ys : List Happening) → LastMissed ys → LastMissed (xs ++ ys)
missed-append xs ys l = record {
  before = xs ++ l.before;
  step = l.step;
  moves = l.moves;
  last = ap (λ zs. xs ++ zs) l.last ∙ sym (append_assoc xs l.before _);
  missed = l.missed;
}

-- ---- what holds of each step, by what came before it

pub runs-append : (w m v : World) (xs ys : List Happening) → Runs w xs m → Runs m ys v → Runs w (xs ++ ys) v
runs-append w m v [] ys r q = subst (λ u. Runs u ys v) r q
runs-append w m v (x ∷ xs) ys r q = (r.0, r.1, runs-append r.0 m v xs ys r.2 q)

pub of-append : (f : Flight) (left : Option ℕ) (xs ys : List Happening) → AllOfPart f left xs → AllOfPart f (left_over left xs) ys → AllOfPart f left (xs ++ ys)
of-append f left [] ys a b = b
of-append f left (Moved e ∷ xs) ys a b = of-append f left xs ys a b
of-append f left (Did s ∷ xs) ys a b = (a.0, of-append f (left_after left (replies_by s)) xs ys a.1 b)

pub goes-append : (whole : Option Extent) (known : List RangeDesc) (xs ys : List Happening) → Goes whole known xs → Goes whole (known_after known xs) ys → Goes whole known (xs ++ ys)
goes-append whole known [] ys a b = b
goes-append whole known (Moved e ∷ xs) ys a b = goes-append whole known xs ys a b
goes-append whole known (Did s ∷ xs) ys a b = (a.0, goes-append whole (known ++ descs_of (told_by s)) xs ys a.1 b)

pub go-on-append : (c : Counts) (xs ys : List Happening) → AllGoOn c xs → AllGoOn (counted c xs) ys → AllGoOn c (xs ++ ys)
go-on-append c [] ys a b = b
go-on-append c (Moved e ∷ xs) ys a b = go-on-append c xs ys a b
go-on-append c (Did s ∷ xs) ys a b = (a.0, go-on-append (counted_step c s) xs ys a.1 b)

-- ---- a count rose over a longer way where it rose over a part of it

pub rose-left : (a b c : ℕ) → b ≤ c → Rose a b → Rose a c
rose-left a b c le (inl h) = inl (omega (arith, h, le))
rose-left a b c le (inr h) =
    elim (nat_lt a c) as (λ t. nat_lt a c ≡ t → Rose a c) [
      | true ↦ λ e. inl (lt_of a c e)
      | false ↦ λ e. let low = ge_of a c e in inr (h.0, let same : c ≡ last_count = omega (arith, low, le, h.0, h.1) in same)
    ] refl

pub rose-right : (a b c : ℕ) → a ≤ b → b ≤ c → Rose b c → Rose a c
rose-right a b c le le' (inl h) = inl (omega (arith, h, le))
rose-right a b c le le' (inr h) =
    elim (nat_lt a b) as (λ t. nat_lt a b ≡ t → Rose a c) [
      | true ↦ λ e. let low = lt_of a b e in inl (omega (arith, low, le'))
      | false ↦ λ e. let high = ge_of a b e in let same : a ≡ b = omega (arith, high, le) in inr (same ∙ h.0, h.1)
    ] refl

pub loses-more : (r t : Type 0) (hs : List Happening) → (r → t) → Each (LosesOnly r) hs → Each (LosesOnly t) hs
loses-more r t [] g all = tt
loses-more r t (Moved e ∷ hs) g all = (tt, loses-more r t hs g all.1)
loses-more r t (Did s ∷ hs) g all = ((λ l. g (all.0 l)), loses-more r t hs g all.1)

pub refuses-more : (r t : Type 0) (hs : List Happening) → (r → t) → Each (RefusesOnly r) hs → Each (RefusesOnly t) hs
refuses-more r t [] g all = tt
refuses-more r t (Moved e ∷ hs) g all = (tt, refuses-more r t hs g all.1)
refuses-more r t (Did s ∷ hs) g all = ((λ l. g (all.0 l)), refuses-more r t hs g all.1)

between : (a b c : ℕ) → a ≤ b → b ≤ c → a ≤ c
between a b c x y = omega (arith, x, y)

-- ---- one call after another

pub ran-none : (f : Flight) (known : List RangeDesc) (left : Option ℕ) (a : Course) → Ran f known left a a []
ran-none f known left a = record {
  grown = sym (append_nil a.wire.past);
  runs = refl;
  floor = refl;
  block = refl;
  high = tt;
  of = tt;
  goes = tt;
  counts = refl;
  went_on = tt;
  refused = omega arith;
  lost = omega arith;
  refuses = tt;
  loses = tt;
  entries = λ h. h;
}

pub ran-append :
    (f : Flight) (known : List RangeDesc) (left : Option ℕ) (a b c : Course) (xs ys : List Happening)
    → Ran f known left a b xs → Ran f (known_after known xs) (left_over left xs) b c ys → Ran f known left a c (xs ++ ys)
ran-append f known left a b c xs ys x y = record {
  grown = y.grown ∙ ap (λ zs. zs ++ ys) x.grown ∙ append_assoc a.wire.past xs ys;
  runs = runs-append a.wire.world b.wire.world c.wire.world xs ys x.runs y.runs;
  floor = y.floor ∙ x.floor;
  block = y.block ∙ x.block;
  high = each-append (IsHigh a.wire.floor) xs ys x.high (subst (λ n. Each (IsHigh n) ys) x.floor y.high);
  of = of-append f left xs ys x.of y.of;
  goes = goes-append f.whole known xs ys x.goes y.goes;
  counts = y.counts ∙ ap (λ n. counted n ys) x.counts ∙ sym (counted-append a.counts xs ys);
  went_on = go-on-append a.counts xs ys x.went_on (subst (λ n. AllGoOn n ys) x.counts y.went_on);
  refused = between a.wire.refused b.wire.refused c.wire.refused x.refused y.refused;
  lost = between a.wire.lost b.wire.lost c.wire.lost x.lost y.lost;
  refuses = each-append (RefusesOnly (Rose a.wire.refused c.wire.refused)) xs ys
      (refuses-more (Rose a.wire.refused b.wire.refused) (Rose a.wire.refused c.wire.refused) xs (rose-left a.wire.refused b.wire.refused c.wire.refused y.refused) x.refuses)
      (refuses-more (Rose b.wire.refused c.wire.refused) (Rose a.wire.refused c.wire.refused) ys (rose-right a.wire.refused b.wire.refused c.wire.refused x.refused y.refused) y.refuses);
  loses = each-append (LosesOnly (Rose a.wire.lost c.wire.lost)) xs ys
      (loses-more (Rose a.wire.lost b.wire.lost) (Rose a.wire.lost c.wire.lost) xs (rose-left a.wire.lost b.wire.lost c.wire.lost y.lost) x.loses)
      (loses-more (Rose b.wire.lost c.wire.lost) (Rose a.wire.lost c.wire.lost) ys (rose-right a.wire.lost b.wire.lost c.wire.lost x.lost y.lost) y.loses);
  entries = λ h. subst (λ ds. AreKnown ds c.entries) (sym (known-append known xs ys)) (y.entries (x.entries h));
}
