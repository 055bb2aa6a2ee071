-- Each pick takes the piece that it names, while none is turned away.
use Rattle.std.proofs.Common.{◌≡◌, ℕ, zero, suc, ◌+◌, ◌<◌, ◌≤◌, min, nat_lt, true, false, cond, List, [], ◌∷◌, ◌++◌, get_or, slice_get, length, Option, Some, None, inl, inr, refl, sym, ap, ◌∙◌, subst, append_assoc, arith}
use Rattle.std.proofs.lemmas.Bool.Decides.{nat_tests}
use Rattle.std.proofs.lemmas.List.{length-append}
use Rattle.std.proofs.lemmas.List.Edits.{remove-append_left}
use Rattle.std.proofs.lemmas.List.Sums.{sum_by-cons, sum_by-remove}
use Rattle.std.proofs.lemmas.Option.{slice_get-get_or, slice_get_within}
use Rattle.std.specs.List.{position, position_or_len, remove}
use Rattle.ds_base.proofs.SmallFacts.{append_nil, none_some, some_none, some_same}
use Rattle.ds_base.specs.declared.value.Dir.{Dir}
use Rattle.ds_kind.specs.declared.batch.Item.{Item}
use Rattle.ds_kind.specs.declared.batch.Part.{Part}
use Rattle.ds_kind.specs.declared.batch.Piece.{Piece}
use Rattle.ds_rule.specs.declared.answer.Answer.{Answer}
use Rattle.ds_rule.specs.declared.answer.Answer.TheVariants.{Done, Failed, Refused, Lost}
use Rattle.ds_rule.specs.declared.journal.JournalStep.{JournalStep}
use Rattle.ds_rule.specs.declared.journal.JournalStep.TheVariants.{Look, Send}
use Rattle.ds_rule.specs.Clauses.{later_picks, next_pick}
use Rattle.ds_rule.specs.Journal.{Happening, Moved, Did}
use Rattle.ds_rule.specs.Pieces.{Each}
use Rattle.ds_flight.specs.Fills.{IsFilled}
use Rattle.ds_flight.specs.Left.{block_by, blocks_of}
use Rattle.ds_flight.specs.Picked.{picked_place, AllDone, InTurn, IsDoneStep, IsMetBefore, TakenBy}
use Rattle.ds_flight.specs.Picks.{sends_of, IsDoneAnswer}
use Rattle.ds_flight.specs.Places.{is_rest, one_if_routed, routed_from, waiting}
use Rattle.ds_flight.specs.Queues.{pieces_in, rests_in, IsQueue, KeepsQueue}
use Rattle.ds_flight.specs.Sends.{SentNext}
use Rattle.ds_flight.specs.declared.fill.Filling.TheVariants.{On}
use Rattle.ds_flight.specs.declared.work.Flying.{Flying}
use Rattle.ds_flight.specs.declared.work.Task.{Task}
use Rattle.ds_flight.specs.declared.work.Task.TheVariants.{Rest, Routed}
use Rattle.ds_flight.proofs.Joins.{sends-append}

-- ---- sends that were all answered Done

pub done-first : (xs ys : List Happening) → AllDone (xs ++ ys) → AllDone xs
done-first xs ys all = front (sends_of xs) (sends_of ys) (subst (Each IsDoneStep) (sends-append xs ys) all)
  where
    front : (ss ts : List JournalStep) → Each IsDoneStep (ss ++ ts) → Each IsDoneStep ss
    front [] ts all = tt
    front (s ∷ ss) ts all = (all.0, front ss ts all.1)

pub done-later : (xs ys : List Happening) → AllDone (xs ++ ys) → AllDone ys
done-later xs ys all = back (sends_of xs) (sends_of ys) (subst (Each IsDoneStep) (sends-append xs ys) all)
  where
    back : (ss ts : List JournalStep) → Each IsDoneStep (ss ++ ts) → Each IsDoneStep ts
    back [] ts all = all
    back (s ∷ ss) ts all = back ss ts all.1

-- the blocks that steps in turn leave
abbrev blocks_by : List JournalStep → List (List Item)
blocks_by [] = []
blocks_by (s ∷ ss) = block_by s ++ blocks_by ss

blocks-sends : (hs : List Happening) → blocks_of hs ≡ blocks_by (sends_of hs)
blocks-sends [] = refl
blocks-sends (Moved e ∷ hs) = blocks-sends hs
blocks-sends (Did (Look k d l) ∷ hs) = blocks-sends hs
blocks-sends (Did (Send n p a) ∷ hs) = ap (λ bs. block_by (Send n p a) ++ bs) (blocks-sends hs)

block-done : (n : ℕ) (p : Piece) (a : Answer) → IsDoneAnswer a → block_by (Send n p a) ≡ p.items ∷ []
block-done n p (Done rs) done = refl
block-done n p (Failed f) done = absurd done
block-done n p (Refused r) done = absurd done
block-done n p Lost done = absurd done

blocks-one : (hs : List Happening) (n : ℕ) (p : Piece) (a : Answer) → sends_of hs ≡ Send n p a ∷ [] → IsDoneAnswer a → blocks_of hs ≡ p.items ∷ []
blocks-one hs n p a one done = blocks-sends hs ∙ ap blocks_by one ∙ append_nil (block_by (Send n p a)) ∙ block-done n p a done

-- ---- picks, one after another

-- these picks took these blocks of all, and left these
abbrev TakesTo : ℕ → List ℕ → List ℕ → List (List Item) → List (List Item) → List (List Item) → Type 0
TakesTo most a l all [] left = (a ≡ l) × (all ≡ left)
TakesTo most a l all (b ∷ bs) left = (slice_get all (picked_place most a all) ≡ Some b) × TakesTo most (later_picks a) l (remove all (picked_place most a all)) bs left

takes-more : (most : ℕ) (a l : List ℕ) (all sent left : List (List Item)) (b : List Item) → TakesTo most a l all sent left → slice_get left (picked_place most l left) ≡ Some b
    → TakesTo most a (later_picks l) all (sent ++ b ∷ []) (remove left (picked_place most l left))
takes-more most a l all [] left b so next =
    let picks : a ≡ l = so.0 in
    let same : all ≡ left = so.1 in
    subst (λ p. TakesTo most p (later_picks l) all (b ∷ []) (remove left (picked_place most l left))) (sym picks)
    (subst (λ xs. TakesTo most l (later_picks l) xs (b ∷ []) (remove left (picked_place most l left))) (sym same) (next, (refl, refl)))
takes-more most a l all (x ∷ xs) left b so next = (so.0, takes-more most (later_picks a) l (remove all (picked_place most a all)) xs left b so.1 next)

takes-all : (most : ℕ) (a l : List ℕ) (all sent : List (List Item)) → TakesTo most a l all sent [] → TakenBy most a all sent
takes-all most a l all [] so = so.1
takes-all most a l all (x ∷ xs) so = (so.0, takes-all most (later_picks a) l (remove all (picked_place most a all)) xs so.1)

-- ---- the pieces of a queue

pieces-waiting : (work : List Task) → length (pieces_in work) ≡ waiting work
pieces-waiting [] = refl
pieces-waiting (Rest c ∷ ts) = let more : waiting (Rest c ∷ ts) ≡ 0 + waiting ts = sum_by-cons one_if_routed (Rest c) ts in let rest = pieces-waiting ts in omega (arith, more, rest)
pieces-waiting (Routed r ∷ ts) = let more : waiting (Routed r ∷ ts) ≡ 1 + waiting ts = sum_by-cons one_if_routed (Routed r) ts in let rest = pieces-waiting ts in omega (arith, more, rest)

queue-nth : (k : ℕ) (work : List Task) (n at : ℕ) → IsQueue work → slice_get (routed_from k work) n ≡ Some at → at ≡ k + n
queue-nth k [] n at queue there = none_some at there
queue-nth k (Rest c ∷ ts) n at queue there = none_some at (subst (λ us. slice_get (routed_from (k + 1) us) n ≡ Some at) queue there)
queue-nth k (Routed r ∷ ts) zero at queue there = let same : k ≡ at = some_same k at there in omega (arith, same)
queue-nth k (Routed r ∷ ts) (suc n) at queue there = let later : at ≡ (k + 1) + n = queue-nth (k + 1) ts n at queue there in omega (arith, later)

-- a piece taken out of a queue
record TakenOut (r : Flying) (n : ℕ) (work : List Task) : Type 0 where
  piece : slice_get (pieces_in work) n ≡ Some r.piece.items
  pieces : pieces_in (remove work n) ≡ remove (pieces_in work) n
  rests : rests_in (remove work n) ≡ rests_in work
  queue : IsQueue (remove work n)

same-items : (x r : Flying) → Routed x ≡ Routed r → x.piece.items ≡ r.piece.items
same-items x r same = let e : x ≡ r = cc in ap (λ (y : Flying). y.piece.items) e

queue-take : (work : List Task) (n : ℕ) (r : Flying) → IsQueue work → slice_get work n ≡ Some (Routed r) → TakenOut r n work
queue-take [] n r queue there = none_some (Routed r) there
queue-take (Rest c ∷ ts) zero r queue there = let bad : Rest c ≡ Routed r = some_same _ _ there in cc
queue-take (Rest c ∷ ts) (suc n) r queue there = none_some (Routed r) (subst (λ us. slice_get us n ≡ Some (Routed r)) queue there)
queue-take (Routed x ∷ ts) zero r queue there = record { piece = ap Some (same-items x r (some_same _ _ there)); pieces = refl; rests = refl; queue = queue }
queue-take (Routed x ∷ ts) (suc n) r queue there =
    let later = queue-take ts n r queue there in
    record { piece = later.piece; pieces = ap (λ bs. x.piece.items ∷ bs) later.pieces; rests = later.rests; queue = later.queue }

-- ---- no rest is left

pub rest-first : {G : Type 0} (c : Part) (ts : List Task) → position is_rest (Rest c ∷ ts) ≡ None → G
rest-first c ts h =
    let low : 0 < length (Rest c ∷ ts) = omega arith in
    let below : nat_lt (position_or_len is_rest (Rest c ∷ ts)) (length (Rest c ∷ ts)) ≡ true = lt_test 0 (length (Rest c ∷ ts)) low in
    some_none 0 (subst (λ t. cond {A = Option ℕ} t (Some 0) None ≡ None) below h)
  where
    lt_test : (m n : ℕ) → m < n → nat_lt m n ≡ true
    lt_test m n h = grind (arith, nat_tests)

tail-none : (r : Flying) (ts : List Task) → position is_rest (Routed r ∷ ts) ≡ None → position is_rest ts ≡ None
tail-none r ts h =
    let a = position_or_len is_rest ts in
    let b = length ts in
    elim (nat_lt a b) as (λ t. nat_lt a b ≡ t → cond {A = Option ℕ} t (Some a) None ≡ None) [
      | true ↦ λ e. some_none (1 + a) (subst (λ t. cond {A = Option ℕ} t (Some (1 + a)) None ≡ None) (step a b e) h)
      | false ↦ λ e. refl
    ] refl
  where
    step : (a b : ℕ) → nat_lt a b ≡ true → nat_lt (1 + a) (suc b) ≡ true
    step a b h = grind (arith, nat_tests)

none-rests : (work : List Task) → position is_rest work ≡ None → rests_in work ≡ []
none-rests [] h = refl
none-rests (Rest c ∷ ts) h = rest-first c ts h
none-rests (Routed r ∷ ts) h = none-rests ts (tail-none r ts h)

-- ---- a queue, and the picks so far

-- all pieces that were cut so far, in turn, with the rest after them; and whichever will be cut later, the picks so far took
-- those that were sent, and left those that wait
pub record Queue (most : ℕ) (d : Dir) (a l : List ℕ) (sent : List (List Item)) (work : List Task) : Type 0 where
  pub cut : List (List Item)
  pub queue : IsQueue work
  pub turn : InTurn d (cut ++ rests_in work)
  pub taken : (more : List (List Item)) → (rests_in work ≡ [] → more ≡ []) → TakesTo most a l (cut ++ more) sent (pieces_in work ++ more)

pub queue-begins : (most : ℕ) (d : Dir) (a : List ℕ) (c : Part) → Queue most d a a [] (Rest c ∷ [])
queue-begins most d a c = record { cut = []; queue = refl; turn = (tt, tt); taken = λ more h. (refl, refl) }

pub queue-filled : (most : ℕ) (d : Dir) (a l : List ℕ) (sent : List (List Item)) (work new : List Task) → Queue most d a l sent work → KeepsQueue d work new On → Queue most d a l sent new
queue-filled most d a l sent work new q keeps =
    let y = keeps q.cut q.queue q.turn in
    record {
      cut = q.cut ++ y.more;
      queue = y.queue;
      turn = y.turn;
      taken = λ more h.
          let so = q.taken (y.more ++ more) (λ none. let n = y.none none in ap (λ ms. ms ++ more) n.0 ∙ h n.1) in
          subst (λ xs. TakesTo most a l ((q.cut ++ y.more) ++ more) sent (xs ++ more)) (sym y.pieces)
          (subst (λ xs. TakesTo most a l ((q.cut ++ y.more) ++ more) sent xs) (sym (append_assoc (pieces_in work) y.more more))
          (subst (λ xs. TakesTo most a l xs sent (pieces_in work ++ (y.more ++ more))) (sym (append_assoc q.cut y.more more)) so));
    }

-- so many wait as may, or all that is left
window : (most : ℕ) (work : List Task) (more : List (List Item)) → IsFilled most work → waiting work ≤ most → (rests_in work ≡ [] → more ≡ []) → min most (length (pieces_in work ++ more)) ≡ waiting work
window most work more (inl full) few h =
    let all : length (pieces_in work ++ more) ≡ length (pieces_in work) + length more = length-append (pieces_in work) more in
    let here = pieces-waiting work in
    let same : waiting work ≡ most = omega (arith, full, few) in
    least most (length (pieces_in work ++ more)) (omega (arith, all, here, full)) ∙ sym same
  where
    least : (m n : ℕ) → m ≤ n → min m n ≡ m
    least m n h = omega (arith, h)
window most work more (inr none) few h =
    let rests = h (none-rests work none) in
    ap (λ ms. min most (length (pieces_in work ++ ms))) rests ∙ ap (λ bs. min most (length bs)) (append_nil (pieces_in work)) ∙ ap (min most) (pieces-waiting work) ∙ least (waiting work) most few
  where
    least : (n m : ℕ) → n ≤ m → min m n ≡ n
    least n m h = omega (arith, h)

get-left : (xs ys : List (List Item)) (n : ℕ) (b : List Item) → slice_get xs n ≡ Some b → slice_get (xs ++ ys) n ≡ Some b
get-left [] ys n b h = none_some b h
get-left (x ∷ xs) ys zero b h = h
get-left (x ∷ xs) ys (suc n) b h = get-left xs ys n b h

-- the piece that the next pick names is sent, and done
pub queue-sent :
    (most : ℕ) (d : Dir) (a l m : List ℕ) (sent : List (List Item)) (work new : List Task) (hs : List Happening) → Queue most d a l sent work → IsFilled most work → waiting work ≤ most
    → SentNext l m work new hs → AllDone hs → Queue most d a m (sent ++ blocks_of hs) new × (waiting new < most)
queue-sent most d a l m sent work new hs q filled few next done =
    let r = next.flying in
    let n = next_pick l (waiting work) in
    let answered : IsDoneAnswer next.answer = (subst (Each IsDoneStep) next.sent done).0 in
    let place : next.at ≡ n = queue-nth 0 work n next.at q.queue next.nth ∙ zero-first n in
    let out = queue-take work n r q.queue (subst (λ i. slice_get work i ≡ Some (Routed r)) place next.there) in
    let left : new ≡ remove work n = next.left answered ∙ ap (remove work) place in
    let block : blocks_of hs ≡ r.piece.items ∷ [] = blocks-one hs r.node next.piece next.answer next.sent answered ∙ ap (λ b. b ∷ []) next.items in
    let within = slice_get_within (pieces_in work) n r.piece.items out.piece in
    let taken : (more : List (List Item)) → (rests_in work ≡ [] → more ≡ []) → TakesTo most a (later_picks l) (q.cut ++ more) (sent ++ r.piece.items ∷ []) (remove (pieces_in work) n ++ more) =
    λ more h.
    let here : picked_place most l (pieces_in work ++ more) ≡ n = ap (next_pick l) (window most work more filled few h) in
    let next_is : slice_get (pieces_in work ++ more) (picked_place most l (pieces_in work ++ more)) ≡ Some r.piece.items =
    subst (λ i. slice_get (pieces_in work ++ more) i ≡ Some r.piece.items) (sym here) (get-left (pieces_in work) more n r.piece.items out.piece) in
    subst (TakesTo most a (later_picks l) (q.cut ++ more) (sent ++ r.piece.items ∷ [])) (ap (remove (pieces_in work ++ more)) here ∙ remove-append_left (pieces_in work) more n within)
    (takes-more most a l (q.cut ++ more) sent (pieces_in work ++ more) r.piece.items (q.taken more h) next_is) in
    let so : Queue most d a (later_picks l) (sent ++ r.piece.items ∷ []) (remove work n) = record {
      cut = q.cut;
      queue = out.queue;
      turn = subst (λ rs. InTurn d (q.cut ++ rs)) (sym out.rests) q.turn;
      taken = λ more h. subst (λ ps. TakesTo most a (later_picks l) (q.cut ++ more) (sent ++ r.piece.items ∷ []) (ps ++ more)) (sym out.pieces) (taken more (subst (λ rs. rs ≡ [] → more ≡ []) out.rests h));
    } in (
      subst (λ p. Queue most d a p (sent ++ blocks_of hs) new) (sym next.later)
          (subst (λ bs. Queue most d a (later_picks l) (sent ++ bs) new) (sym block) (subst (Queue most d a (later_picks l) (sent ++ r.piece.items ∷ [])) (sym left) so)),
      fewer next.there (next.left answered) few,
    )
  where
    zero-first : (n : ℕ) → 0 + n ≡ n
    zero-first n = omega arith

    fewer : slice_get work next.at ≡ Some (Routed next.flying) → new ≡ remove work next.at → waiting work ≤ most → waiting new < most
    fewer there left few =
        let t = Routed next.flying in
        let within = slice_get_within work next.at t there in
        let same : get_or work next.at t ≡ t = some_same (get_or work next.at t) t (sym (slice_get-get_or work next.at t within) ∙ there) in
        let one : one_if_routed (get_or work next.at t) ≡ 1 = ap one_if_routed same in
        let all : waiting (remove work next.at) + one_if_routed (get_or work next.at t) ≡ waiting work = sum_by-remove one_if_routed work next.at t within in
        let now : waiting new ≡ waiting (remove work next.at) = ap waiting left in
        omega (arith, one, all, now, few)

-- ---- the end

each-front : (d : Dir) (b : List Item) (xs ys : List (List Item)) → Each (IsMetBefore d b) (xs ++ ys) → Each (IsMetBefore d b) (xs ++ [])
each-front d b [] ys all = tt
each-front d b (x ∷ xs) ys all = (all.0, each-front d b xs ys all.1)

turn-front : (d : Dir) (xs ys : List (List Item)) → InTurn d (xs ++ ys) → InTurn d (xs ++ [])
turn-front d [] ys turn = tt
turn-front d (x ∷ xs) ys turn = (each-front d x xs ys turn.0, turn-front d xs ys turn.1)

-- where no piece waits, those that were cut are those that were sent
pub queue-ends : (most : ℕ) (d : Dir) (a l : List ℕ) (sent : List (List Item)) (work : List Task) → Queue most d a l sent work → waiting work ≡ 0 → (blocks : List (List Item)) × InTurn d blocks × TakenBy most a blocks sent
queue-ends most d a l sent work q none =
    let so = q.taken [] (λ h. refl) in
    let nothing : pieces_in work ≡ [] = empty (pieces_in work) (pieces-waiting work ∙ none) in
    let left : pieces_in work ++ [] ≡ [] = append_nil (pieces_in work) ∙ nothing in
    (q.cut ++ [], turn-front d q.cut (rests_in work) q.turn, takes-all most a l (q.cut ++ []) sent (subst (TakesTo most a l (q.cut ++ []) sent) left so))
  where
    empty : (bs : List (List Item)) → length bs ≡ 0 → bs ≡ []
    empty [] h = refl
    empty (b ∷ bs) h = absurd (omega (arith, h))
