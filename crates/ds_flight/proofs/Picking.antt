-- The piece that a pick names, taken out of the work and sent.
use Rattle.std.proofs.Common.{◌≡◌, ℕ, zero, suc, ◌+◌, ◌<◌, ◌≤◌, List, [], ◌∷◌, get_or, length, Option, Some, None, Result, Ok, Err, IfOk, OnErr, OnOk, refl, sym, ap, ◌∙◌, subst, arith}
use Rattle.std.proofs.Math.Nat.{mod-lt}
use Rattle.std.proofs.lemmas.List.Edits.{length-remove}
use Rattle.std.proofs.lemmas.List.Sorted.{IsPermutation-remove, sum_by-IsPermutation}
use Rattle.std.proofs.lemmas.Option.{get_or_from_slice_get, slice_get_within}
use Rattle.std.proofs.lemmas.List.Sums.{sum_by-cons}
use Rattle.std.specs.List.{remove, slice_get, sum_by}
use Rattle.std.specs.List.Sorted.{IsPermutation}
use Rattle.std.specs.declared.alloc.AllocError.{AllocError}
use Rattle.ds_base.proofs.ListFacts.{found_at}
use Rattle.ds_base.proofs.SmallFacts.{none_some, some_none, some_same}
use Rattle.ds_desc.specs.declared.desc.RangeDesc.{RangeDesc}
use Rattle.ds_kind.specs.declared.batch.Head.{Head}
use Rattle.ds_kind.specs.declared.batch.Part.{Part}
use Rattle.ds_cache.specs.Entries.{Entry}
use Rattle.ds_cover.specs.Measures.{left_in}
use Rattle.ds_gather.specs.Gathering.{Gathering}
use Rattle.ds_retry.specs.Counted.{Counts}
use Rattle.ds_rule.specs.Clauses.{Stands, later_picks, next_pick}
use Rattle.ds_rule.specs.Journal.{Happening}
use Rattle.ds_rule.specs.Pieces.{Each}
use Rattle.ds_rule.proofs.Eachs.{each-of, of-get}
use Rattle.ds_flight.specs.Fills.{tries_left}
use Rattle.ds_flight.specs.Flights.{Flight}
use Rattle.ds_flight.specs.Places.{nth_routed, one_if_routed, routed_from, waiting}
use Rattle.ds_flight.specs.Ran.{Course, Ran}
use Rattle.ds_flight.specs.Searches.{course}
use Rattle.ds_flight.specs.Sends.{asked_by, load, IsSendable, LessensIfGoing, PieceRan, PieceSent, RoutedSent, Sendable, TakenNext}
use Rattle.ds_flight.specs.Works.{items_of, work_left}
use Rattle.ds_flight.specs.declared.sent.Sent.{Sent}
use Rattle.ds_flight.specs.declared.sent.Sent.TheVariants.{On, Ended}
use Rattle.ds_flight.specs.declared.work.Flying.{Flying}
use Rattle.ds_flight.specs.declared.work.Task.{Task}
use Rattle.ds_flight.specs.declared.work.Task.TheVariants.{Rest, Routed}
use Rattle.ds_flight.proofs.Lessening.{left-sum}
use Rattle.ds_flight.proofs.Working.{underway-permuted}

-- ---- the n-th of those that wait

-- there are as many places as pieces that wait
places-count : (at : ℕ) (work : List Task) → length (routed_from at work) ≡ waiting work
places-count at [] = refl
places-count at (Rest c ∷ ts) =
    let more : length (routed_from (at + 1) ts) ≡ waiting ts = places-count (at + 1) ts in
    let one : waiting (Rest c ∷ ts) ≡ 0 + waiting ts = sum_by-cons one_if_routed (Rest c) ts in
    omega (arith, more, one)
places-count at (Routed r ∷ ts) =
    let more : length (routed_from (at + 1) ts) ≡ waiting ts = places-count (at + 1) ts in
    let one : waiting (Routed r ∷ ts) ≡ 1 + waiting ts = sum_by-cons one_if_routed (Routed r) ts in
    omega (arith, more, one)

pub never-none : {G : Type 0} (n : ℕ) (work : List Task) → n < waiting work → nth_routed n work ≡ None → G
never-none n work low none =
    let long : length (routed_from 0 work) ≡ waiting work = places-count 0 work in
    let within : n < length (routed_from 0 work) = omega (arith, low, long) in
    let one = found_at (routed_from 0 work) n within in
    some_none one.0 (sym one.1 ∙ none)

-- the place is one of a piece that waits
record StandsAt (from at : ℕ) (work : List Task) : Type 0 where
  flying : Flying
  place : ℕ
  is : at ≡ from + place
  there : slice_get work place ≡ Some (Routed flying)

later-place : (from at m : ℕ) → at ≡ from + 1 + m → at ≡ from + suc m
later-place from at m h = omega (arith, h)

stands-at : (from n at : ℕ) (work : List Task) → slice_get (routed_from from work) n ≡ Some at → StandsAt from at work
stands-at from n at [] is = none_some at is
stands-at from n at (Rest c ∷ ts) is =
    let s = stands-at (from + 1) n at ts is in
    record { flying = s.flying; place = suc s.place; is = later-place from at s.place s.is; there = s.there }
stands-at from zero at (Routed r ∷ ts) is =
    let same : from ≡ at = some_same from at is in
    record { flying = r; place = 0; is = let here : from ≡ at = same in omega (arith, here); there = refl }
stands-at from (suc n) at (Routed r ∷ ts) is =
    let s = stands-at (from + 1) n at ts is in
    record { flying = s.flying; place = suc s.place; is = later-place from at s.place s.is; there = s.there }

found-flying : (n at : ℕ) (work : List Task) → nth_routed n work ≡ Some at → (r : Flying) × (slice_get work at ≡ Some (Routed r))
found-flying n at work is =
    let s = stands-at 0 n at work is in
    let place : at ≡ 0 + s.place = s.is in
    let same : s.place ≡ at = omega (arith, place) in
    (s.flying, subst (λ m. slice_get work m ≡ Some (Routed s.flying)) same s.there)

pub found-within : (n at : ℕ) (work : List Task) → nth_routed n work ≡ Some at → at < length work
found-within n at work is = let it = found-flying n at work is in slice_get_within work at (Routed it.0) it.1

-- so what is taken out there is one of them

taken-is : (n at : ℕ) (work : List Task) (t : Task) (is : nth_routed n work ≡ Some at) → t ≡ get_or work at t → t ≡ Routed (found-flying n at work is).0
taken-is n at work t is value = value ∙ get_or_from_slice_get work at (Routed (found-flying n at work is).0) t (found-flying n at work is).1

pub never-rest : {G : Type 0} (n at : ℕ) (work : List Task) (t : Task) (c : Part) → nth_routed n work ≡ Some at → t ≡ get_or work at t → t ≡ Rest c → G
never-rest n at work t c is value rest =
    let bad : Rest c ≡ Routed (found-flying n at work is).0 = sym rest ∙ taken-is n at work t is value in
    cc

pub taken-next :
    (picks : List ℕ) (old new : List Task) (n at : ℕ) (t : Task) (r : Flying) → n ≡ next_pick picks (waiting old) → nth_routed n old ≡ Some at → t ≡ get_or old at t → new ≡ remove old at → t ≡ Routed r
    → TakenNext picks old new at r
taken-next picks old new n at t r pick is value work routed =
    let it = found-flying n at old is in
    record {
      nth = subst (λ m. nth_routed m old ≡ Some at) pick is;
      there = it.1 ∙ ap Some (sym (taken-is n at old t is value) ∙ routed);
      work = work;
    }

pub pick-low : (picks : List ℕ) (n : ℕ) → 0 < n → next_pick picks n < n
pick-low [] n some = some
pick-low (p ∷ ps) n some = mod-lt p some

-- ---- the work without it

pub taken-place : (picks : List ℕ) (old new : List Task) (at : ℕ) (r : Flying) → TakenNext picks old new at r → at ≤ length new
taken-place picks old new at r t =
    let low : at < length old = slice_get_within old at (Routed r) t.there in
    let long : length (remove old at) + 1 ≡ length old = length-remove old at low in
    subst (λ (m : List Task). at ≤ length m) (sym t.work) (omega (arith, low, long))

pub taken-ready : (picks : List ℕ) (old new : List Task) (at : ℕ) (r : Flying) → TakenNext picks old new at r → Each IsSendable old → Sendable r
taken-ready picks old new at r t ready = each-of IsSendable (Routed r) old ready (of-get (Routed r) old at t.there)

taken-out : (picks : List ℕ) (old new : List Task) (at : ℕ) (r : Flying) → TakenNext picks old new at r → IsPermutation old (Routed r ∷ new)
taken-out picks old new at r t =
    subst (λ m. IsPermutation old (Routed r ∷ m)) (sym t.work)
    (IsPermutation-remove old at (Routed r) (slice_get_within old at (Routed r) t.there) (sym (get_or_from_slice_get old at (Routed r) (Routed r) t.there)))

-- ---- what its sending comes to

picked-ran :
    (f : Flight) (known : List RangeDesc) (left : Option ℕ) (a m : Stands) (b : Course) (es : List Entry) (c : Counts) (picks : List ℕ) (hs : List Happening)
    → m ≡ record a { ahead = picks } → Ran f known left (course m es c) b hs → Ran f known left (course a es c) b hs
picked-ran f known left a m b es c picks hs same ran =
    let r = subst (λ x. Ran f known left (course x es c) b hs) same ran in
    record {
      grown = r.grown;
      runs = r.runs;
      floor = r.floor;
      block = r.block;
      high = r.high;
      of = r.of;
      goes = r.goes;
      counts = r.counts;
      went_on = r.went_on;
      refused = r.refused;
      lost = r.lost;
      refuses = r.refuses;
      loses = r.loses;
      entries = r.entries;
    }

next-sent :
    (head : Head) (a m b : Stands) (es fs : List Entry) (c d : Counts) (old mid new : List Task) (got more : Gathering) (left rest : Option ℕ) (at : ℕ) (r : Flying) (s : Sent)
    → m ≡ record a { ahead = later_picks a.ahead } → TakenNext a.ahead old mid at r → b.ahead ≡ m.ahead
    → RoutedSent head (course m es c) (course b fs d) (load mid got left) (load new more rest) r s
    → PieceSent head (course a es c) (course b fs d) (load old got left) (load new more rest) s
next-sent head a m b es fs c d old mid new got more left rest at r s picked t ahead sent = λ f known done same all room u.
    let went = sent f known done same all room (underway-permuted f known done old (Routed r ∷ mid) (taken-out a.ahead old mid at r t) u) in (
      went.0,
      record {
        ran = picked-ran f known left a m (course b fs d) es c (later_picks a.ahead) went.0 picked went.1.ran;
        got = went.1.got;
        left = went.1.left;
        to = went.1.to;
        next = record {
          at = at;
          flying = r;
          nth = t.nth;
          there = t.there;
          piece = asked_by f.head left r.piece;
          answer = went.1.was.answer;
          sent = went.1.was.sent;
          items = refl;
          later = ahead ∙ ap (λ (x : Stands). x.ahead) picked;
          left = λ is. went.1.was.left is ∙ t.work;
        };
      },
    )

pub next-oks :
    (head : Head) (a m b : Stands) (es fs : List Entry) (c d : Counts) (old mid new : List Task) (got more : Gathering) (left rest : Option ℕ) (at : ℕ) (r : Flying) (res : Result Sent AllocError)
    → m ≡ record a { ahead = later_picks a.ahead } → TakenNext a.ahead old mid at r → b.ahead ≡ m.ahead
    → IfOk res (λ s. RoutedSent head (course m es c) (course b fs d) (load mid got left) (load new more rest) r s)
    → IfOk res (λ s. PieceSent head (course a es c) (course b fs d) (load old got left) (load new more rest) s)
next-oks head a m b es fs c d old mid new got more left rest at r (Ok s) picked t ahead sent = next-sent head a m b es fs c d old mid new got more left rest at r s picked t ahead sent
next-oks head a m b es fs c d old mid new got more left rest at r (Err e) picked t ahead sent = tt

next-ran :
    (head : Head) (a m : Stands) (b : Course) (es : List Entry) (c : Counts) (old mid : List Task) (left : Option ℕ) (at : ℕ) (r : Flying)
    → m ≡ record a { ahead = later_picks a.ahead } → TakenNext a.ahead old mid at r
    → PieceRan head (course m es c) b left (Routed r ∷ mid) → PieceRan head (course a es c) b left old
next-ran head a m b es c old mid left at r picked t ran = λ f known done same all room u.
    let went = ran f known done same all room (underway-permuted f known done old (Routed r ∷ mid) (taken-out a.ahead old mid at r t) u) in
    (went.0, record { ran = picked-ran f known left a m b es c (later_picks a.ahead) went.0 picked went.1.ran; covers = went.1.covers; sent = went.1.sent; unended = went.1.unended })

pub next-errs :
    (head : Head) (a m : Stands) (b : Course) (es : List Entry) (c : Counts) (old mid : List Task) (left : Option ℕ) (at : ℕ) (r : Flying) (res : Result Sent AllocError)
    → m ≡ record a { ahead = later_picks a.ahead } → TakenNext a.ahead old mid at r
    → OnErr res (PieceRan head (course m es c) b left (Routed r ∷ mid)) → OnErr res (PieceRan head (course a es c) b left old)
next-errs head a m b es c old mid left at r (Ok s) picked t ran = tt
next-errs head a m b es c old mid left at r (Err e) picked t ran = next-ran head a m b es c old mid left at r picked t ran

next-less : (c d : Counts) (picks : List ℕ) (old mid new : List Task) (at : ℕ) (r : Flying) (s : Sent) → TakenNext picks old mid at r → LessensIfGoing c d (Routed r ∷ mid) new s → LessensIfGoing c d old new s
next-less c d picks old mid new at r On t less =
    let same : sum_by (λ x. left_in (items_of x)) (Routed r ∷ mid) ≡ sum_by (λ x. left_in (items_of x)) old = sum_by-IsPermutation (λ x. left_in (items_of x)) old (Routed r ∷ mid) (taken-out picks old mid at r t) in
    let left : work_left (Routed r ∷ mid) ≡ work_left old = left-sum (Routed r ∷ mid) ∙ same ∙ sym (left-sum old) in
    subst (λ n. tries_left d + work_left new < tries_left c + n) left less
next-less c d picks old mid new at r (Ended o) t less = tt

pub next-lessens :
    (c d : Counts) (picks : List ℕ) (old mid new : List Task) (at : ℕ) (r : Flying) (res : Result Sent AllocError)
    → TakenNext picks old mid at r → IfOk res (λ s. LessensIfGoing c d (Routed r ∷ mid) new s) → IfOk res (λ s. LessensIfGoing c d old new s)
next-lessens c d picks old mid new at r (Ok s) t less = next-less c d picks old mid new at r s t less
next-lessens c d picks old mid new at r (Err e) t less = tt

pub next-few :
    (picks : List ℕ) (old mid new : List Task) (at : ℕ) (r : Flying) (res : Result Sent AllocError)
    → TakenNext picks old mid at r → OnOk res (waiting new ≤ waiting (Routed r ∷ mid)) → OnOk res (waiting new ≤ waiting old)
next-few picks old mid new at r (Ok s) t few = subst (λ n. waiting new ≤ n) (sum_by-IsPermutation one_if_routed old (Routed r ∷ mid) (taken-out picks old mid at r t)) few
next-few picks old mid new at r (Err e) t few = tt
