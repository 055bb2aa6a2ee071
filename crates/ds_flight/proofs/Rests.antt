-- The first rest of the work is taken out and routed, while fewer pieces wait than may.
use Rattle.std.proofs.Common.{◌≡◌, ℕ, ◌+◌, ◌<◌, ◌≤◌, true, false, List, [], ◌∷◌, ◌++◌, length, get_or, Option, Some, Result, Ok, Err, IfOk, refl, sym, ◌∙◌, subst, arith}
use Rattle.std.proofs.lemmas.List.Edits.{length-remove}
use Rattle.std.proofs.lemmas.List.Quantifiers.{position-Some}
use Rattle.std.proofs.lemmas.List.Sorted.{IsPermutation-remove, sum_by-IsPermutation}
use Rattle.std.specs.List.{position, remove}
use Rattle.std.specs.List.Sorted.{IsPermutation}
use Rattle.std.specs.declared.alloc.AllocError.{AllocError}
use Rattle.ds_base.specs.Order.{Extent}
use Rattle.ds_base.specs.declared.value.Dir.{Dir}
use Rattle.ds_kind.specs.declared.batch.Part.{Part}
use Rattle.ds_retry.specs.Counted.{Counts}
use Rattle.ds_rule.specs.Pieces.{Each}
use Rattle.ds_flight.specs.Causes.{GoesOn}
use Rattle.ds_flight.specs.Fills.{rest_left, to_route, tries_left, AddsNone, AddsOne, Fills, IsFilled, FillingCounts, IsReady, Lessens, LessensIfOn, RestsRouted, RestsSought}
use Rattle.ds_flight.specs.Goes.{known_after}
use Rattle.ds_flight.specs.Places.{is_rest, waiting}
use Rattle.ds_flight.specs.Queues.{KeepsQueue}
use Rattle.ds_flight.specs.Ran.{Course}
use Rattle.ds_flight.specs.Routes.{RouteSought}
use Rattle.ds_flight.specs.Works.{items_of, work_left}
use Rattle.ds_flight.specs.declared.fill.Filling.{Filling}
use Rattle.ds_flight.specs.declared.fill.Filling.TheVariants.{On, NotWhole, Spent}
use Rattle.ds_flight.specs.declared.work.Flying.{Flying}
use Rattle.ds_flight.specs.declared.work.Task.{Task}
use Rattle.ds_flight.specs.declared.work.Task.TheVariants.{Rest, Routed}
use Rattle.ds_cover.specs.Measures.{left_in}
use Rattle.ds_flight.proofs.Filling.{rests-then, searched-append}
use Rattle.ds_flight.proofs.Joins.{ran-none}
use Rattle.ds_flight.proofs.Lessening.{left-sum, route-sum}
use Rattle.ds_flight.proofs.Queueing.{queue-first, queue-then}
use Rattle.ds_flight.proofs.Searching.{quiet-none}
use Rattle.ds_flight.proofs.Working.{underway-permuted}

-- ---- the first rest

taken-out : (work mid : List Task) (at : ℕ) (t : Task) → position is_rest work ≡ Some at → t ≡ get_or work at t → mid ≡ remove work at → IsPermutation work (t ∷ mid)
taken-out work mid at t place is out =
    subst (λ m. IsPermutation work (t ∷ m)) (sym out) (IsPermutation-remove work at t (position-Some is_rest work at t place).0 is)

pub not-routed : {G : Type 0} (work : List Task) (at : ℕ) (t : Task) (r : Flying) → position is_rest work ≡ Some at → t ≡ get_or work at t → t ≡ Routed r → G
not-routed work at t r place is routed =
    let rest = subst (λ x. is_rest x ≡ true) (sym is) (position-Some is_rest work at t place).1 in
    let bad : false ≡ true = subst (λ x. is_rest x ≡ true) routed rest in
    cc

pub rest-within : (work mid : List Task) (at : ℕ) (t : Task) → position is_rest work ≡ Some at → mid ≡ remove work at → at ≤ length mid
rest-within work mid at t place out =
    let low : at < length work = (position-Some is_rest work at t place).0 in
    let long : length (remove work at) + 1 ≡ length work = length-remove work at low in
    subst (λ (m : List Task). at ≤ length m) (sym out) (omega (arith, low, long))

pub rest-out : (work mid : List Task) (at : ℕ) (t : Task) (c : Part) → position is_rest work ≡ Some at → t ≡ get_or work at t → mid ≡ remove work at → t ≡ Rest c → IsPermutation work (Rest c ∷ mid)
rest-out work mid at t c place is out rest = subst (λ x. IsPermutation work (x ∷ mid)) rest (taken-out work mid at t place is out)

-- ---- the same work in another order

rests-moved : (d : Dir) (whole : Option Extent) (a b : Course) (old mid new : List Task) (r : Filling) → IsPermutation old mid → RestsRouted d whole a b mid new r → RestsRouted d whole a b old new r
rests-moved d whole a b old mid new r p y = λ f known left done flies all u. y f known left done flies all (underway-permuted f known done old mid p u)

lessens-moved : (m n : Counts) (old mid new : List Task) (r : Filling) → IsPermutation old mid → LessensIfOn m n mid new r → LessensIfOn m n old new r
lessens-moved m n old mid new On p h =
    let routes : to_route mid ≡ to_route old = route-sum mid ∙ sum_by-IsPermutation rest_left old mid p ∙ sym (route-sum old) in
    let left : work_left mid ≡ work_left old = left-sum mid ∙ sum_by-IsPermutation (λ t. left_in (items_of t)) old mid p ∙ sym (left-sum old) in
    let work : work_left new ≤ work_left mid = h.adds_none.work in
    let less : tries_left n + to_route new < tries_left m + to_route mid = h.less in
    record {
      adds_none = record { tries = h.adds_none.tries; work = omega (arith, left, work) };
      less = omega (arith, routes, less);
    }
lessens-moved m n old mid new (NotWhole desc) p h = tt
lessens-moved m n old mid new Spent p h = tt

pub rests-out :
    (d : Dir) (whole : Option Extent) (a b : Course) (old mid new : List Task) (r : Result Filling AllocError)
    → IsPermutation old mid → IfOk r (λ x. RestsRouted d whole a b mid new x) → IfOk r (λ x. RestsRouted d whole a b old new x)
rests-out d whole a b old mid new (Ok x) p h = rests-moved d whole a b old mid new x p h
rests-out d whole a b old mid new (Err e) p h = tt

pub lessens-out :
    (m n : Counts) (old mid new : List Task) (r : Result Filling AllocError)
    → IsPermutation old mid → IfOk r (λ x. LessensIfOn m n mid new x) → IfOk r (λ x. LessensIfOn m n old new x)
lessens-out m n old mid new (Ok x) p h = lessens-moved m n old mid new x p h
lessens-out m n old mid new (Err e) p h = tt

-- ---- one after another

pub adds-none : (m : Counts) (work : List Task) → AddsNone m m work work
adds-none m work = record { tries = omega arith; work = omega arith }

pub adds-then : (m n k : Counts) (old mid new : List Task) → AddsNone m n old mid → AddsNone n k mid new → AddsNone m k old new
adds-then m n k old mid new x y =
    let tries : tries_left n ≤ tries_left m = x.tries in
    let more : tries_left k ≤ tries_left n = y.tries in
    let work : work_left mid ≤ work_left old = x.work in
    let rest : work_left new ≤ work_left mid = y.work in
    record { tries = omega (arith, tries, more); work = omega (arith, work, rest) }

pub sought-then : (d : Dir) (whole : Option Extent) (a b c : Course) (old mid : List Task) → RestsRouted d whole a b old mid On → RouteSought d b c → RestsSought d whole a c old
sought-then d whole a b c old mid x y =
    λ f known left done flies all u.
    let one = x f known left done flies all u in
    let two = y f (known_after known one.0) left flies.dir (one.1.ran.entries all) in (
      one.0 ++ two.0,
      searched-append f known left a b c one.0 two.0 one.1 two.1,
    )

-- ---- what the loop keeps

-- what was routed so far, from one state to another, where so many pieces may wait
pub record SoFar (most : ℕ) (d : Dir) (whole : Option Extent) (a b : Course) (old new : List Task) : Type 0 where
  pub routed : RestsRouted d whole a b old new On
  pub ready : Each (IsReady d) new
  pub goes_on : GoesOn b.counts
  pub adds : AddsNone a.counts b.counts old new
  pub few : waiting old ≤ most → waiting new ≤ most
  pub queue : KeepsQueue d old new On

pub so-first : (most : ℕ) (d : Dir) (whole : Option Extent) (a : Course) (old : List Task) → Each (IsReady d) old → GoesOn a.counts → SoFar most d whole a a old old
so-first most d whole a old ready on = record {
  routed = λ f known left done flies all u. ([], record { ran = ran-none f known left a; quiet = quiet-none; ahead = refl }, u);
  ready = ready;
  goes_on = on;
  adds = adds-none a.counts old;
  few = λ h. h;
  queue = queue-first d old;
}

-- one more rest
pub so-more :
    (most : ℕ) (d : Dir) (whole : Option Extent) (a b c : Course) (old mid new : List Task) (r : Filling)
    → SoFar most d whole a b old mid → r ≡ On → RestsRouted d whole b c mid new r → Each (IsReady d) new → FillingCounts c.counts r → LessensIfOn b.counts c.counts mid new r
    → waiting mid < most → AddsOne mid new → KeepsQueue d mid new r → SoFar most d whole a c old new
so-more most d whole a b c old mid new r so is routed ready counts less room one queue =
    let fewer : Lessens b.counts c.counts mid new = subst (LessensIfOn b.counts c.counts mid new) is less in
    let low : waiting mid < most = room in
    let more : waiting new ≤ waiting mid + 1 = one in
    record {
      routed = rests-then d whole a b c old mid new On so.routed (subst (RestsRouted d whole b c mid new) is routed);
      ready = ready;
      goes_on = subst (FillingCounts c.counts) is counts;
      adds = adds-then a.counts b.counts c.counts old mid new so.adds fewer.adds_none;
      few = λ h. omega (arith, low, more);
      queue = queue-then d old mid new On so.queue (subst (KeepsQueue d mid new) is queue);
    }

pub smaller : (m n : Counts) (mid new : List Task) (r : Filling) → r ≡ On → LessensIfOn m n mid new r → tries_left n + to_route new < tries_left m + to_route mid
smaller m n mid new r is less = (subst (LessensIfOn m n mid new) is less).less

-- routing ended
pub so-ended :
    (most : ℕ) (d : Dir) (whole : Option Extent) (a b c : Course) (old mid new : List Task) (r e : Filling)
    → SoFar most d whole a b old mid → r ≡ e → RestsRouted d whole b c mid new r → RestsRouted d whole a c old new e
so-ended most d whole a b c old mid new r e so is routed = rests-then d whole a b c old mid new e so.routed (subst (RestsRouted d whole b c mid new) is routed)

-- it ended well
pub so-filled : (most : ℕ) (d : Dir) (whole : Option Extent) (a b : Course) (old new : List Task) → SoFar most d whole a b old new → IsFilled most new → Fills most a.counts b.counts old new
so-filled most d whole a b old new so filled = record { adds_none = so.adds; filled = filled; few = so.few }
