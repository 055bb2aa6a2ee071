-- A route is sought in the cache, and else by a lookup.
use Rattle.std.proofs.Common.{◌≡◌, ℕ, ◌-◌, true, false, List, [], ◌∷◌, ◌++◌, map, Option, Some, None, Result, Ok, Err, inl, inr, refl, sym, ap, ◌∙◌, subst, arith}
use Rattle.std.specs.declared.alloc.AllocError.{AllocError}
use Rattle.ds_base.proofs.SmallFacts.{append_nil, some_same}
use Rattle.ds_kind.specs.Left.{left_after}
use Rattle.ds_base.proofs.TestFacts.{never}
use Rattle.ds_base.specs.declared.value.Dir.{Dir}
use Rattle.ds_desc.specs.Contains.{lies_ahead, FirstContains}
use Rattle.ds_desc.specs.declared.desc.RangeDesc.{RangeDesc}
use Rattle.ds_desc.specs.declared.meta.Looked.{Looked}
use Rattle.ds_cache.specs.Entries.{Entry, Cache, found, to_front}
use Rattle.ds_iter.specs.Seek.{Lookups, SoughtBy, BegunBy, FoundWithout, AfterLookup}
use Rattle.ds_iter.specs.declared.sought.Sought.{Sought}
use Rattle.ds_iter.specs.declared.sought.Sought.TheVariants.{Found}
use Rattle.ds_retry.specs.Counted.{Counts, one_lost}
use Rattle.ds_rule.specs.declared.event.Event.{Event}
use Rattle.ds_rule.specs.declared.journal.JournalStep.TheVariants.{Look}
use Rattle.ds_rule.specs.Clauses.{Stands, Stays, Steps, Looks, and_step}
use Rattle.ds_rule.specs.Journal.{Happening, Moved}
use Rattle.ds_rule.specs.Pieces.{IsOneOf}
use Rattle.ds_flight.specs.Causes.{GoesOn}
use Rattle.ds_flight.specs.Flights.{Flight}
use Rattle.ds_flight.specs.Goes.{descs_of}
use Rattle.ds_flight.specs.Ran.{AreKnown, Ran}
use Rattle.ds_flight.specs.Searches.{course, Quiet, Searched, SearchedTo}
use Rattle.ds_flight.proofs.Caching.{each-found, front-known, known-begun, known-told}
use Rattle.ds_flight.proofs.Stepping.{ran-stays, ran-step, step-arrived, step-blocks, step-failures, step-known, step-left, step-sends}
use Rattle.ds_flight.proofs.Working.{of-right}

-- ---- nothing but lookups

pub quiet-none : Quiet []
quiet-none = record { sends = refl; blocks = refl; arrived_none = refl; none_failed = refl; left = λ l. refl }

pub left-none : (l : Option ℕ) → left_after l [] ≡ l
left-none None = refl
left-none (Some n) = ap Some (nothing n)
  where
    nothing : (n : ℕ) → n - 0 ≡ n
    nothing n = omega arith

look-quiet : (ms : List Event) (k : List ℕ) (d : Dir) (l : Looked) → Quiet (and_step ms (Look k d l))
look-quiet ms k d l = record {
  sends = step-sends ms (Look k d l);
  blocks = step-blocks ms (Look k d l);
  arrived_none = step-arrived ms (Look k d l);
  none_failed = step-failures ms (Look k d l);
  left = λ r. step-left r ms (Look k d l) ∙ left-none r;
}

-- the entries alone changed
ran-same : (f : Flight) (known : List RangeDesc) (left : Option ℕ) (c : Counts) (a : Stands) (es fs : List Entry) → (AreKnown known es → AreKnown known fs) → Ran f known left (course a es c) (course a fs c) []
ran-same f known left c a es fs entries = record {
  grown = sym (append_nil a.past);
  runs = refl;
  floor = refl;
  block = refl;
  high = tt;
  of = tt;
  goes = tt;
  counts = refl;
  went_on = tt;
  refused = omega arith;
  lost = omega arith;
  refuses = tt;
  loses = tt;
  entries = entries;
}

-- ---- what was sought

-- a state of the wire as it is told, and what one lookup does to it
abbrev pub LooksBy : {M : Type 0} → Lookups M → (M → Stands) → Type 0
LooksBy {M = M} looked state = (a b : M) (k : List ℕ) (d : Dir) (r : Result Looked AllocError) → looked a b k d r → Looks (state a) (state b) k d r

found-here :
    {M : Type 0} (state : M → Stands) (f : Flight) (known : List RangeDesc) (left : Option ℕ) (c : Counts) (e : Entry) (old new : Cache) (before after : M) (s : Sought)
    → IsOneOf e.1.desc known → FoundWithout e old before s new after → SearchedTo f known left c (state before) (state after) old.entries new.entries s
found-here state f known left c e old new before after s one h =
    let here : SearchedTo f known left c (state before) (state before) old.entries (to_front (Some e) old.entries) (Found e.1 e.0) =
    ([], record { ran = ran-same f known left c (state before) old.entries (to_front (Some e) old.entries) (λ all. front-known known (Some e) old.entries (λ x is. subst (λ y. IsOneOf y.1.desc known) (some_same e x is) one) all); quiet = quiet-none; ahead = refl }, one) in
    subst (λ m. SearchedTo f known left c (state before) (state m) old.entries new.entries s) (sym h.2)
    (subst (λ n. SearchedTo f known left c (state before) (state before) old.entries n.entries s) (sym h.1)
    (subst (SearchedTo f known left c (state before) (state before) old.entries (to_front (Some e) old.entries)) (sym h.0) here))

looked-up :
    (f : Flight) (known : List RangeDesc) (left : Option ℕ) (c : Counts) (d : Dir) (k : List ℕ) (old new : Cache) (a b : Stands) (l : Looked) (s : Sought)
    → GoesOn c → d ≡ f.part.dir → lies_ahead d k ≡ true → Steps a b (Look k d l) → FirstContains d k l → AfterLookup l old s new → SearchedTo f known left c a b old.entries new.entries s
looked-up f known left c d k old new a b (Looked.Rows []) s on dir ahead steps first after = never first
looked-up f known left c d k old new a b (Looked.Rows (i ∷ is)) s on dir ahead steps first after =
    let step = Look k d (Looked.Rows (i ∷ is)) in
    subst (SearchedTo f known left c a b old.entries new.entries) (sym after.0) (
      and_step steps.moves step,
      record {
        ran = ran-step f known left (course a old.entries c) (course b new.entries c) step on (dir, ahead) tt refl (known-told known (i ∷ is) old new after.1) steps;
        quiet = look-quiet steps.moves k d (Looked.Rows (i ∷ is));
        ahead = steps.ahead;
      },
      subst (IsOneOf i.desc) (sym (step-known known steps.moves step)) (of-right i.desc known (descs_of (i ∷ is)) (inl refl)),
    )
looked-up f known left c d k old new a b Looked.Lost s on dir ahead steps first after =
    let step = Look k d Looked.Lost in
    subst (SearchedTo f known left c a b old.entries new.entries) (sym after.0) (
      and_step steps.moves step,
      record {
        ran = ran-step f known left (course a old.entries c) (course b new.entries (one_lost false c)) step on (dir, ahead) tt refl
            (λ all. subst (λ n. AreKnown (known ++ []) n.entries) (sym after.1) (subst (λ ds. AreKnown ds old.entries) (sym (append_nil known)) all)) steps;
        quiet = look-quiet steps.moves k d Looked.Lost;
        ahead = steps.ahead;
      },
    )

sought-by :
    {M : Type 0} (looked : Lookups M) (state : M → Stands) → LooksBy looked state → (f : Flight) (known : List RangeDesc) (left : Option ℕ) (c : Counts) (d : Dir) (k : List ℕ) (o : Option Entry)
    (old new : Cache) (before after : M) (s : Sought) → GoesOn c → ((e : Entry) → o ≡ Some e → IsOneOf e.1.desc known) → d ≡ f.part.dir → lies_ahead d k ≡ true
    → SoughtBy looked d k o old before s new after → SearchedTo f known left c (state before) (state after) old.entries new.entries s
sought-by looked state law f known left c d k (Some e) old new before after s on one dir ahead h = found-here state f known left c e old new before after s (one e refl) h
sought-by looked state law f known left c d k None old new before after s on one dir ahead h =
    looked-up f known left c d k old new (state before) (state after) h.0 s on dir ahead (law before after k d (Ok h.0) h.1) h.2 h.3

pub sought :
    {M : Type 0} (looked : Lookups M) (state : M → Stands) → LooksBy looked state → (f : Flight) (known : List RangeDesc) (left : Option ℕ) (c : Counts) (d : Dir) (k : List ℕ)
    (old new : Cache) (before after : M) (s : Sought) → GoesOn c → AreKnown known old.entries → d ≡ f.part.dir → lies_ahead d k ≡ true
    → SoughtBy looked d k (found d k old.entries) old before s new after → SearchedTo f known left c (state before) (state after) old.entries new.entries s
sought looked state law f known left c d k old new before after s on all dir ahead h =
    sought-by looked state law f known left c d k (found d k old.entries) old new before after s on (λ e is. each-found (λ x. IsOneOf x.1.desc known) _ old.entries e is all) dir ahead h

-- ---- memory was wanting

begun-by :
    {M : Type 0} (looked : Lookups M) (state : M → Stands) → LooksBy looked state → (f : Flight) (known : List RangeDesc) (left : Option ℕ) (c : Counts) (d : Dir) (k : List ℕ) (o : Option Entry)
    (old new : Cache) (before after : M) → GoesOn c → ((e : Entry) → o ≡ Some e → IsOneOf e.1.desc known) → d ≡ f.part.dir → lies_ahead d k ≡ true
    → BegunBy looked d k o old before new after → (hs : List Happening) × Searched f known left (course (state before) old.entries c) (course (state after) new.entries c) hs
begun-by looked state law f known left c d k (Some e) old new before after on one dir ahead h =
    let went = found-here state f known left c e old new before after (Found e.1 e.0) (one e refl) (refl, h.0, h.1) in (went.0, went.1)
begun-by looked state law f known left c d k None old new before after on one dir ahead (inl h) =
    let stays : Stays (state before) (state after) = law before after k d (Err h.0) h.1 in (
      map Moved stays.moves,
      record {
        ran = ran-stays f known left (course (state before) old.entries c) (course (state after) new.entries c) refl (λ all. subst (λ n. AreKnown known n.entries) (sym h.2) all) stays;
        quiet = moves-quiet stays.moves;
        ahead = stays.ahead;
      },
    )
  where
    moves-quiet : (ms : List Event) → Quiet (map Moved ms)
    moves-quiet [] = quiet-none
    moves-quiet (m ∷ ms) = let q = moves-quiet ms in record { sends = q.sends; blocks = q.blocks; arrived_none = q.arrived_none; none_failed = q.none_failed; left = q.left }
begun-by looked state law f known left c d k None old new before after on one dir ahead (inr h) =
    let step = Look k d (Looked.Rows h.0) in
    let steps : Steps (state before) (state after) step = law before after k d (Ok (Looked.Rows h.0)) h.1 in (
      and_step steps.moves step,
      record {
        ran = ran-step f known left (course (state before) old.entries c) (course (state after) new.entries c) step on (dir, ahead) tt refl (known-begun known h.0 old new h.3) steps;
        quiet = look-quiet steps.moves k d (Looked.Rows h.0);
        ahead = steps.ahead;
      },
    )

pub begun :
    {M : Type 0} (looked : Lookups M) (state : M → Stands) → LooksBy looked state → (f : Flight) (known : List RangeDesc) (left : Option ℕ) (c : Counts) (d : Dir) (k : List ℕ)
    (old new : Cache) (before after : M) → GoesOn c → AreKnown known old.entries → d ≡ f.part.dir → lies_ahead d k ≡ true
    → BegunBy looked d k (found d k old.entries) old before new after → (hs : List Happening) × Searched f known left (course (state before) old.entries c) (course (state after) new.entries c) hs
begun looked state law f known left c d k old new before after on all dir ahead h =
    begun-by looked state law f known left c d k (found d k old.entries) old new before after on (λ e is. each-found (λ x. IsOneOf x.1.desc known) _ old.entries e is all) dir ahead h
