-- The parts of a batch are flown one after another.
use Rattle.std.proofs.Common.{◌≡◌, ℕ, zero, suc, ◌+◌, ◌<◌, ◌≤◌, true, false, ◌||◌, List, [], ◌∷◌, ◌++◌, map, length, take, drop, get_or, Option, Some, None, inl, refl, sym, ap, ◌∙◌, subst, arith}
use Rattle.std.specs.List.{list_any}
use Rattle.std.proofs.lemmas.List.{map-append, take_more, take_all}
use Rattle.std.proofs.lemmas.List.Concat.{flat_map-append}
use Rattle.ds_base.specs.Order.{Extent}
use Rattle.ds_base.proofs.SmallFacts.{or_first, or_second}
use Rattle.ds_desc.specs.declared.desc.RangeDesc.{RangeDesc}
use Rattle.ds_kind.specs.Asks.{is_end}
use Rattle.ds_kind.specs.Parts.{all_fit, all_items, requests_of}
use Rattle.ds_kind.specs.declared.batch.Head.{Head}
use Rattle.ds_kind.specs.declared.batch.Item.{Item}
use Rattle.ds_kind.specs.declared.batch.Part.{Part}
use Rattle.ds_kind.specs.declared.reply.Reply.{Reply}
use Rattle.ds_kind.specs.declared.request.Request.{Request}
use Rattle.ds_retry.specs.declared.outcome.PartOutcome.{PartOutcome}
use Rattle.ds_retry.specs.declared.outcome.PartOutcome.TheVariants as Outcome
use Rattle.ds_rule.specs.Asking.{Asking}
use Rattle.ds_rule.specs.Journal.{Happening, accepted}
use Rattle.ds_rule.specs.Pieces.{Each}
use Rattle.ds_flight.specs.Causes.{GoesOn}
use Rattle.ds_flight.specs.Flights.{Flight}
use Rattle.ds_flight.specs.Flown.{Began, Flown, flight}
use Rattle.ds_flight.specs.Goes.{known_after}
use Rattle.ds_flight.specs.Ran.{AreKnown, Course}
use Rattle.ds_flight.proofs.Caching.{entries-first}
use Rattle.ds_flight.proofs.Joins.{took-or-more, unended-append}
use Rattle.ds_send.specs.Batched.{ArePartsOf, IsFlyable, NextFlown, PartsBegan, PartsFlown}
use Rattle.ds_send.proofs.BatchRuns.{PartsDone, all-done, more-ran, of-none, part-ended, parts-first, parts-more}
use Rattle.ds_send.proofs.PartSteps.{IsPartOf}

-- ---- a part at its place

each-at : {X : Type 0} (P : X → Type 0) (xs : List X) (i : ℕ) (d : X) → i < length xs → Each P xs → P (get_or xs i d)
each-at P [] i d low all = absurd (omega (arith, low))
each-at P (x ∷ xs) zero d low all = all.0
each-at P (x ∷ xs) (suc i) d low all = each-at P xs i d (omega (arith, low)) all.1

split-next : {X : Type 0} (xs : List X) (i : ℕ) (d : X) → i < length xs → xs ≡ take i xs ++ get_or xs i d ∷ drop (suc i) xs
split-next [] i d low = absurd (omega (arith, low))
split-next (x ∷ xs) zero d low = refl
split-next (x ∷ xs) (suc i) d low = ap (λ ys. x ∷ ys) (split-next xs i d (omega (arith, low)))

one-on : (i : ℕ) → suc i ≡ i + 1
one-on i = omega arith

split-at : {X : Type 0} (xs : List X) (i : ℕ) (d : X) → i < length xs → xs ≡ take i xs ++ get_or xs i d ∷ drop (i + 1) xs
split-at xs i d low = subst (λ n. xs ≡ take i xs ++ get_or xs i d ∷ drop n xs) (one-on i) (split-next xs i d low)

any-left : (xs ys : List Request) → list_any is_end (xs ++ ys) ≡ false → list_any is_end xs ≡ false
any-left [] ys h = refl
any-left (x ∷ xs) ys h = ap (λ t. t || list_any is_end xs) (or_first (is_end x) (list_any is_end (xs ++ ys)) h) ∙ any-left xs ys (or_second (is_end x) (list_any is_end (xs ++ ys)) h)

any-right : (xs ys : List Request) → list_any is_end (xs ++ ys) ≡ false → list_any is_end ys ≡ false
any-right [] ys h = h
any-right (x ∷ xs) ys h = any-right xs ys (or_second (is_end x) (list_any is_end (xs ++ ys)) h)

items-of-all : (before later : List Part) (p : Part) → all_items (before ++ p ∷ later) ≡ all_items before ++ (p.items ++ all_items later)
items-of-all before later p = flat_map-append (λ (t : Part). t.items) before (p ∷ later)

-- the i-th part is one of the batch's
pub part-at : (q : Asking) (head : Head) (whole : Option Extent) (parts : List Part) (i : ℕ) (d p : Part) → ArePartsOf q head parts → i < length parts → p ≡ get_or parts i d → IsPartOf q (flight p head whole)
part-at q head whole parts i d p h low is =
    let split : parts ≡ take i parts ++ p ∷ drop (i + 1) parts = subst (λ x. parts ≡ take i parts ++ x ∷ drop (i + 1) parts) (sym is) (split-at parts i d low) in
    let items : q.items ≡ all_items (take i parts) ++ (p.items ++ all_items (drop (i + 1) parts)) = sym h.joined ∙ ap all_items split ∙ items-of-all (take i parts) (drop (i + 1) parts) p in
    let requests : requests_of q.items ≡ requests_of (all_items (take i parts)) ++ (requests_of p.items ++ requests_of (all_items (drop (i + 1) parts))) =
    ap requests_of items
    ∙ map-append (λ (x : Item). x.request) (all_items (take i parts)) (p.items ++ all_items (drop (i + 1) parts))
    ∙ ap (λ z. requests_of (all_items (take i parts)) ++ z) (map-append (λ (x : Item). x.request) p.items (all_items (drop (i + 1) parts))) in
    let endless : list_any is_end (requests_of (all_items (take i parts)) ++ (requests_of p.items ++ requests_of (all_items (drop (i + 1) parts)))) ≡ false = subst (λ z. list_any is_end z ≡ false) requests h.endless in
    record {
      head = h.head_is;
      before = take i parts;
      later = drop (i + 1) parts;
      parts = sym h.parts_are ∙ split;
      items = items;
      rise = h.rise;
      fit = subst (λ x. all_fit (requests_of x.items) ≡ true) (sym is) (each-at (λ x. all_fit (requests_of x.items) ≡ true) parts i d low h.fit);
      endless = any-left (requests_of p.items) (requests_of (all_items (drop (i + 1) parts))) (any-right (requests_of (all_items (take i parts))) (requests_of p.items ++ requests_of (all_items (drop (i + 1) parts))) endless);
    }

-- ---- one part after another

-- so many parts were done, and these are their replies
abbrev pub DoneSo : Head → Option Extent → List Part → ℕ → Course → Course → List Reply → Type 0
DoneSo head whole parts i a b replies =
    (q : Asking) (known : List RangeDesc) → ArePartsOf q head parts → AreKnown known a.entries → (hs : List Happening) × PartsDone q whole (take i parts) known a b hs replies

pub done-first : (head : Head) (whole : Option Extent) (parts : List Part) (a : Course) (replies : List Reply) → replies ≡ [] → DoneSo head whole parts 0 a a replies
done-first head whole parts a replies none q known h all = ([], subst (PartsDone q whole [] known a a []) (sym none) (parts-first q whole known a))

goes-on : (f : Flight) (a b : Course) (replies : List Reply) (rest : Option ℕ) → Flown f None a b (Outcome.Done replies rest) → GoesOn b.counts
goes-on f a b replies rest flown = (flown (map (λ e. e.1.desc) a.entries) (entries-first a.entries)).1.cause.goes_on

-- what is kept from part to part
pub record Keeps (head : Head) (whole : Option Extent) (parts : List Part) (i : ℕ) (a b : Course) (replies : List Reply) : Type 0 where
  pub done : DoneSo head whole parts i a b replies
  pub within : i ≤ length parts
  pub goes_on : GoesOn b.counts

pub keeps-more :
    (head : Head) (whole : Option Extent) (parts : List Part) (i : ℕ) (p : Part) (a b c : Course) (us vs : List Reply)
    → Keeps head whole parts i a b us → i < length parts → p ≡ get_or parts i p → Each (IsFlyable whole) parts
    → NextFlown (flight p head whole) b c us vs None → Keeps head whole parts (i + 1) a c vs
unfolding part-at
keeps-more head whole parts i p a b c us vs k low is each n = record {
  done = λ q known h all.
      let so = k.done q known h all in
      let part = part-at q head whole parts i p p h low is in
      let flyable : IsFlyable whole p = subst (IsFlyable whole) (sym is) (each-at (IsFlyable whole) parts i p low each) in
      let flown = n.3 (known_after known so.0) (so.1.ran.entries all) in (
        so.0 ++ flown.0,
        subst (λ z. PartsDone q whole z known a c (so.0 ++ flown.0) vs) (sym (take_more parts i p low ∙ ap (λ x. take i parts ++ x ∷ []) (sym is)))
            (subst (PartsDone q whole (take i parts ++ p ∷ []) known a c (so.0 ++ flown.0)) (sym n.2)
            (parts-more q (flight p head whole) known a b c so.0 flown.0 us n.0 n.1 part h.unlimited flyable.proper so.1 flown.1)),
      );
  within = omega (arith, low);
  goes_on = goes-on (flight p head whole) b c n.0 n.1 n.3;
}

-- all parts were done
pub keeps-all :
    (head : Head) (whole : Option Extent) (parts : List Part) (i : ℕ) (a b : Course) (replies : List Reply) (rest : Option ℕ)
    → Keeps head whole parts i a b replies → length parts ≤ i → PartsFlown head whole parts a b (Outcome.Done replies rest)
keeps-all head whole parts i a b replies rest k all q known h entries =
    let so = k.done q known h entries in
    (so.0, all-done q whole (take i parts) known a b so.0 replies rest (ap all_items (take_all i parts all) ∙ h.joined) k.goes_on so.1)

-- one part ended otherwise
pub keeps-ended :
    (head : Head) (whole : Option Extent) (parts : List Part) (i : ℕ) (p : Part) (a b c : Course) (us vs : List Reply) (o : PartOutcome)
    → Keeps head whole parts i a b us → i < length parts → p ≡ get_or parts i p → NextFlown (flight p head whole) b c us vs (Some o) → PartsFlown head whole parts a c o
unfolding part-at
keeps-ended head whole parts i p a b c us vs o k low is n q known h entries =
    let so = k.done q known h entries in
    let part = part-at q head whole parts i p p h low is in
    let flown = n.1 (known_after known so.0) (so.1.ran.entries entries) in
    (so.0 ++ flown.0, part-ended q (flight p head whole) known None a b c so.0 flown.0 us o part (of-none q (accepted so.0) h.unlimited) n.0 so.1 flown.1)

-- memory was wanting in one part
pub keeps-began :
    (head : Head) (whole : Option Extent) (parts : List Part) (i : ℕ) (p : Part) (a b c : Course) (us : List Reply)
    → Keeps head whole parts i a b us → i < length parts → p ≡ get_or parts i p → Began (flight p head whole) None b c → PartsBegan head whole parts a c
unfolding part-at
keeps-began head whole parts i p a b c us k low is n q known h entries =
    let so = k.done q known h entries in
    let part = part-at q head whole parts i p p h low is in
    let begun = n (known_after known so.0) (so.1.ran.entries entries) in (
      so.0 ++ begun.0,
      record {
        ran = more-ran q (flight p head whole) known None a b c so.0 begun.0 us part (of-none q (accepted so.0) h.unlimited) so.1 begun.1.ran begun.1.covers;
        picks = took-or-more a.wire.ahead b.wire.ahead c.wire.ahead so.0 begun.0 so.1.picks begun.1.picks;
        unended = unended-append so.0 begun.0 so.1.unended begun.1.unended;
        goes_on = begun.1.goes_on;
      },
    )

-- what was done had begun
pub done-began : (f : Flight) (left : Option ℕ) (a b : Course) (replies : List Reply) (rest : Option ℕ) (o : PartOutcome) → o ≡ Outcome.Done replies rest → Flown f left a b o → Began f left a b
done-began f left a b replies rest o is flown known all =
    let done : Flown f left a b (Outcome.Done replies rest) = subst (Flown f left a b) is flown in
    let e = done known all in (
      e.0,
      record {
        ran = e.1.ran;
        covers = e.1.covers;
        picks = inl e.1.picks;
        unended = e.1.cause.unended;
        goes_on = e.1.cause.goes_on;
      },
    )

-- ---- as the calls have it

pub flown-as : (f : Flight) (left : Option ℕ) (a b : Course) (x o : PartOutcome) → left ≡ None → x ≡ o → Flown f left a b x → Flown f None a b o
flown-as f left a b x o none is flown = subst (Flown f None a b) is (subst (λ l. Flown f l a b x) none flown)

pub began-as : (f : Flight) (left : Option ℕ) (a b : Course) → left ≡ None → Began f left a b → Began f None a b
began-as f left a b none began = subst (λ l. Began f l a b) none began

pub next-done :
    (f : Flight) (left : Option ℕ) (a b : Course) (us vs more : List Reply) (rest : Option ℕ) (x : PartOutcome)
    → left ≡ None → x ≡ Outcome.Done more rest → vs ≡ us ++ more → Flown f left a b x → NextFlown f a b us vs None
next-done f left a b us vs more rest x none is put flown = (more, rest, put, flown-as f left a b x (Outcome.Done more rest) none is flown)

pub first-keeps :
    (head : Head) (whole : Option Extent) (parts : List Part) (a : Course) (replies : List Reply) → replies ≡ [] → GoesOn a.counts → Keeps head whole parts 0 a a replies
first-keeps head whole parts a replies none on = record { done = done-first head whole parts a replies none; within = omega arith; goes_on = on }

pub as-ended :
    (head : Head) (whole : Option Extent) (all parts : List Part) (i : ℕ) (p : Part) (a b c : Course) (us vs : List Reply) (o : PartOutcome) (e : Option PartOutcome)
    → all ≡ parts → Keeps head whole all i a b us → i < length all → p ≡ get_or all i p → e ≡ Some o → NextFlown (flight p head whole) b c us vs e → PartsFlown head whole parts a c o
as-ended head whole all parts i p a b c us vs o e same k low is some n =
    subst (λ z. PartsFlown head whole z a c o) same
    (keeps-ended head whole all i p a b c us vs o k low is (subst (NextFlown (flight p head whole) b c us vs) some n))

pub as-began :
    (head : Head) (whole : Option Extent) (all parts : List Part) (i : ℕ) (p : Part) (a b c : Course) (us : List Reply)
    → all ≡ parts → Keeps head whole all i a b us → i < length all → p ≡ get_or all i p → Began (flight p head whole) None b c → PartsBegan head whole parts a c
as-began head whole all parts i p a b c us same k low is began = subst (λ z. PartsBegan head whole z a c) same (keeps-began head whole all i p a b c us k low is began)

not-some : (e : Option PartOutcome) → ((o : PartOutcome) → e ≡ Some o → ⊥) → e ≡ None
not-some None h = refl
not-some (Some o) h = absurd (h o refl)

pub as-more :
    (head : Head) (whole : Option Extent) (all parts : List Part) (i : ℕ) (p : Part) (a b c : Course) (us vs : List Reply) (e : Option PartOutcome)
    → all ≡ parts → Keeps head whole all i a b us → i < length all → p ≡ get_or all i p → Each (IsFlyable whole) parts → ((o : PartOutcome) → e ≡ Some o → ⊥)
    → NextFlown (flight p head whole) b c us vs e → Keeps head whole all (i + 1) a c vs
as-more head whole all parts i p a b c us vs e same k low is each not n =
    keeps-more head whole all i p a b c us vs k low is (subst (Each (IsFlyable whole)) (sym same) each) (subst (NextFlown (flight p head whole) b c us vs) (not-some e not) n)

pub as-done :
    (head : Head) (whole : Option Extent) (all parts : List Part) (i : ℕ) (a b : Course) (replies : List Reply) (rest : Option ℕ)
    → all ≡ parts → Keeps head whole all i a b replies → length all ≤ i → PartsFlown head whole parts a b (Outcome.Done replies rest)
as-done head whole all parts i a b replies rest same k done = subst (λ z. PartsFlown head whole z a b (Outcome.Done replies rest)) same (keeps-all head whole all i a b replies rest k done)
