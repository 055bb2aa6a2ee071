-- What happens in a block: its events among its steps.
use Rattle.std.proofs.Common.{◌≡◌, ℕ, suc, ◌+◌, ◌≤◌, ◌<◌, Bool, true, false, cond, ◌&&◌, ◌==◌, List, [], ◌∷◌, ◌++◌, length, map, find, Option, Some, None, refl, sym, ap, ◌∙◌, subst, append_assoc, nat_le, arith}
use Rattle.std.specs.List.{filter}
use Rattle.ds_base.proofs.SmallFacts.{append_nil, gt_of, le_of}
use Rattle.ds_rule.specs.declared.event.Event.{Event}
use Rattle.ds_rule.specs.declared.event.Event.TheVariants.{Write, Split, Merge, Lease, Move, Stale, Abort, Arrive, LoseRequest, LoseReply, Copy, Restart}
use Rattle.ds_rule.specs.declared.event.Timed.{Timed}
use Rattle.ds_rule.specs.declared.journal.JournalStep.{JournalStep}
use Rattle.ds_rule.specs.Asking.{Asking}
use Rattle.ds_rule.specs.Blocks.{BlockPlays, all_copies, all_made, all_moved, copies_at, due, is_loss, later, least_from, lost_copies, loss_at, more_copies, names, passage_at, passage_of, woven}
use Rattle.ds_rule.specs.Clauses.{IsLost}
use Rattle.ds_rule.specs.Journal.{Happening, Moved, Did, Runs, Accepted, accepted_by, BothWays, IsAnswered, step_world}
use Rattle.ds_rule.specs.Moves.{IsMove, moved}
use Rattle.ds_rule.specs.Pieces.{Each}
use Rattle.ds_rule.specs.Sending.{AllOf, StepOf, left_of}
use Rattle.ds_rule.specs.World.{World}
use Rattle.ds_rule.proofs.Calls.{runs-split}
use Rattle.ds_rule.proofs.Passing.{kept_both}

-- ---- which events are due

-- the event is due before step n
abbrev pub IsBy : ℕ → Timed → Type 0
IsBy n t = t.at ≤ n

-- it isn't due before step n or a later one
abbrev pub IsFrom : ℕ → Timed → Type 0
IsFrom n t = n ≤ t.at

by-test : (n : ℕ) (t : Timed) → t.at ≤ n → nat_le t.at n ≡ true
by-test n t low =
    elim (nat_le t.at n) as (λ b. nat_le t.at n ≡ b → b ≡ true) [
      | true ↦ λ e. refl
      | false ↦ λ e. let high : n < t.at = gt_of t.at n e in absurd (omega (arith, low, high))
    ] refl

not-by-test : (n : ℕ) (t : Timed) → n < t.at → nat_le t.at n ≡ false
not-by-test n t high =
    elim (nat_le t.at n) as (λ b. nat_le t.at n ≡ b → b ≡ false) [
      | true ↦ λ e. let low : t.at ≤ n = le_of t.at n e in absurd (omega (arith, low, high))
      | false ↦ λ e. refl
    ] refl

from-test : (n : ℕ) (t : Timed) → n ≤ t.at → nat_le n t.at ≡ true
from-test n t low =
    elim (nat_le n t.at) as (λ b. nat_le n t.at ≡ b → b ≡ true) [
      | true ↦ λ e. refl
      | false ↦ λ e. let high : t.at < n = gt_of n t.at e in absurd (omega (arith, low, high))
    ] refl

not-from-test : (n : ℕ) (t : Timed) → t.at < n → nat_le n t.at ≡ false
not-from-test n t high =
    elim (nat_le n t.at) as (λ b. nat_le n t.at ≡ b → b ≡ false) [
      | true ↦ λ e. let low : n ≤ t.at = le_of n t.at e in absurd (omega (arith, low, high))
      | false ↦ λ e. refl
    ] refl

-- events that are all due
all-due : (n : ℕ) (ts : List Timed) → Each (IsBy n) ts → due n ts ≡ ts
all-due n [] all = refl
all-due n (t ∷ ts) all = ap (λ b. cond b (t ∷ due n ts) (due n ts)) (by-test n t all.0) ∙ ap (λ us. t ∷ us) (all-due n ts all.1)

none-later : (n : ℕ) (ts : List Timed) → Each (IsBy n) ts → later n ts ≡ []
none-later n [] all = refl
none-later n (t ∷ ts) all =
    let low : t.at ≤ n = all.0 in
    let before : t.at < n + 1 = omega (arith, low) in
    ap (λ b. cond b (t ∷ later n ts) (later n ts)) (not-from-test (n + 1) t before) ∙ none-later n ts all.1

-- what is due by m stays so among those that come later
later-by : (n m : ℕ) (ts : List Timed) → Each (IsBy m) ts → Each (IsBy m) (later n ts)
later-by n m [] all = tt
later-by n m (t ∷ ts) all =
    elim (nat_le (n + 1) t.at) as (λ b. Each (IsBy m) (cond b (t ∷ later n ts) (later n ts))) [
      | true ↦ (all.0, later-by n m ts all.1)
      | false ↦ later-by n m ts all.1
    ]

-- events behind these that come later
due-before : (n : ℕ) (ts es : List Timed) → Each (IsFrom (n + 1)) es → due n (ts ++ es) ≡ due n ts
due-before n [] [] all = refl
due-before n [] (e ∷ es) all =
    let low : n + 1 ≤ e.at = all.0 in
    let after : n < e.at = omega (arith, low) in
    ap (λ b. cond b (e ∷ due n es) (due n es)) (not-by-test n e after) ∙ due-before n [] es all.1
due-before n (t ∷ ts) es all = ap (λ us. cond (nat_le t.at n) (t ∷ us) us) (due-before n ts es all)

later-before : (n : ℕ) (ts es : List Timed) → Each (IsFrom (n + 1)) es → later n (ts ++ es) ≡ later n ts ++ es
later-before n [] [] all = refl
later-before n [] (e ∷ es) all = ap (λ b. cond b (e ∷ later n es) (later n es)) (from-test (n + 1) e all.0) ∙ ap (λ us. e ∷ us) (later-before n [] es all.1)
later-before n (t ∷ ts) es all =
    ap (λ us. cond (nat_le (n + 1) t.at) (t ∷ us) us) (later-before n ts es all) ∙ over (nat_le (n + 1) t.at)
  where
    over : (b : Bool) → cond b (t ∷ (later n ts ++ es)) (later n ts ++ es) ≡ cond b (t ∷ later n ts) (later n ts) ++ es
    over true = refl
    over false = refl

from-less : (m n : ℕ) (ts : List Timed) → m ≤ n → Each (IsFrom n) ts → Each (IsFrom m) ts
from-less m n [] le all = tt
from-less m n (t ∷ ts) le all = let low : n ≤ t.at = all.0 in ((let less : m ≤ t.at = omega (arith, le, low) in less), from-less m n ts le all.1)

-- ---- a block grows

all_made-append : (ts es : List Timed) → all_made (ts ++ es) ≡ all_made ts ++ all_made es
all_made-append [] es = refl
all_made-append (t ∷ ts) es = ap (λ hs. Moved t.event ∷ hs) (all_made-append ts es)

least-less : (n : ℕ) (s : JournalStep) (ss : List JournalStep) → least_from (n + 1) ss ≤ n + length (s ∷ ss)
least-less n s [] = omega arith
least-less n s (r ∷ ss) = omega arith

-- by events that are due before none of its steps
pub woven-more : (n : ℕ) (ts es : List Timed) (ss : List JournalStep) → Each (IsFrom (least_from n ss)) es → woven n (ts ++ es) ss ≡ woven n ts ss ++ all_made es
woven-more n ts es [] all = all_made-append ts es
woven-more n ts es (s ∷ ss) all =
    let here : Each (IsFrom (n + 1)) es = from-less (n + 1) (n + length (s ∷ ss)) es (omega arith) all in
    let rest : Each (IsFrom (least_from (n + 1) ss)) es = from-less (least_from (n + 1) ss) (n + length (s ∷ ss)) es (least-less n s ss) all in
    ap (λ us. all_made us ++ Did s ∷ woven (n + 1) (later n (ts ++ es)) ss) (due-before n ts es here)
    ∙ ap (λ us. all_made (due n ts) ++ Did s ∷ woven (n + 1) us ss) (later-before n ts es here)
    ∙ ap (λ hs. all_made (due n ts) ++ Did s ∷ hs) (woven-more (n + 1) (later n ts) es ss rest)
    ∙ sym (append_assoc (all_made (due n ts)) (Did s ∷ woven (n + 1) (later n ts) ss) (all_made es))

-- by a step before which all of its events are due
pub woven-step : (n : ℕ) (ts : List Timed) (ss : List JournalStep) (s : JournalStep) → Each (IsBy (n + length ss)) ts → woven n ts (ss ++ s ∷ []) ≡ woven n ts ss ++ Did s ∷ []
woven-step n ts [] s all =
    let here : Each (IsBy n) ts = subst (λ m. Each (IsBy m) ts) (let same : n + 0 ≡ n = omega arith in same) all in
    ap (λ us. all_made us ++ Did s ∷ all_made (later n ts)) (all-due n ts here)
    ∙ ap (λ us. all_made ts ++ Did s ∷ all_made us) (none-later n ts here)
woven-step n ts (r ∷ ss) s all =
    let rest : Each (IsBy ((n + 1) + length ss)) (later n ts) = later-by n ((n + 1) + length ss) ts (subst (λ m. Each (IsBy m) ts) (let same : n + length (r ∷ ss) ≡ (n + 1) + length ss = omega arith in same) all) in
    ap (λ hs. all_made (due n ts) ++ Did r ∷ hs) (woven-step (n + 1) (later n ts) ss s rest)
    ∙ sym (append_assoc (all_made (due n ts)) (Did r ∷ woven (n + 1) (later n ts) ss) (Did s ∷ []))

-- a block without events is its steps
pub woven-none : (n : ℕ) (ss : List JournalStep) → woven n [] ss ≡ map Did ss
woven-none n [] = refl
woven-none n (s ∷ ss) = ap (λ hs. Did s ∷ hs) (woven-none (n + 1) ss)

-- ---- and is played

runs-made : (ts : List Timed) (w v : World) → Runs w (all_made ts) v → v ≡ all_moved w ts
runs-made [] w v r = r
runs-made (t ∷ ts) w v r = runs-made ts r.0 v r.2 ∙ ap (λ u. all_moved u ts) r.1

made-runs : (ts : List Timed) (w : World) → Runs w (all_made ts) (all_moved w ts)
made-runs [] w = refl
made-runs (t ∷ ts) w = (moved w t.event, refl, made-runs ts (moved w t.event))

of-made : (q : Asking) (got : List Accepted) (ts : List Timed) (hs : List Happening) → AllOf q got (all_made ts ++ hs) → AllOf q got hs
of-made q got [] hs of = of
of-made q got (t ∷ ts) hs of = of-made q got ts hs of

-- an event that a wire may make by itself names no step

abbrev pub IsMade : ℕ → Timed → Type 0
IsMade floor t = IsMove floor t.event

not-loss : (floor : ℕ) (e : Event) → IsMove floor e → is_loss e ≡ false
not-loss floor (Write k s v) h = refl
not-loss floor (Split k) h = refl
not-loss floor (Merge k) h = refl
not-loss floor (Lease k n) h = refl
not-loss floor (Move k ns) h = refl
not-loss floor (Stale k b) h = refl
not-loss floor Abort h = refl
not-loss floor (Arrive c) h = refl
not-loss floor (LoseRequest c) h = absurd h
not-loss floor (LoseReply c) h = absurd h
not-loss floor (Copy c) h = refl
not-loss floor (Restart t) h = refl

no-copy : (floor : ℕ) (e : Event) → IsMove floor e → more_copies e ≡ []
no-copy floor (Write k s v) h = refl
no-copy floor (Split k) h = refl
no-copy floor (Merge k) h = refl
no-copy floor (Lease k n) h = refl
no-copy floor (Move k ns) h = refl
no-copy floor (Stale k b) h = refl
no-copy floor Abort h = refl
no-copy floor (Arrive c) h = refl
no-copy floor (LoseRequest c) h = refl
no-copy floor (LoseReply c) h = refl
no-copy floor (Copy c) h = absurd h
no-copy floor (Restart t) h = refl

none-lost : (floor n : ℕ) (ts : List Timed) → Each (IsMade floor) ts → loss_at n ts ≡ None
none-lost floor n [] all = refl
none-lost floor n (t ∷ ts) all =
    ap (λ b. cond (names n t && b) (Some t) (loss_at n ts)) (not-loss floor t.event all.0) ∙ skipped (names n t) ∙ none-lost floor n ts all.1
  where
    skipped : (b : Bool) → cond (b && false) (Some t) (loss_at n ts) ≡ loss_at n ts
    skipped true = refl
    skipped false = refl

none-copied : (floor n : ℕ) (ts : List Timed) → Each (IsMade floor) ts → all_copies n ts ≡ []
none-copied floor n [] all = refl
none-copied floor n (t ∷ ts) all =
    ap (λ cs. cond (names n t) cs [] ++ all_copies n ts) (no-copy floor t.event all.0) ∙ either (names n t) ∙ none-copied floor n ts all.1
  where
    either : (b : Bool) → cond b [] [] ++ all_copies n ts ≡ all_copies n ts
    either true = refl
    either false = refl

both-ways : (floor n : ℕ) (ts : List Timed) → Each (IsMade floor) ts → passage_at n ts ≡ BothWays
both-ways floor n ts all = ap passage_of (none-lost floor n ts all)

no-copies : (floor n : ℕ) (ts : List Timed) → Each (IsMade floor) ts → copies_at n ts ≡ []
no-copies floor n ts all = ap (λ o. lost_copies o ++ all_copies n ts) (none-lost floor n ts all) ∙ none-copied floor n ts all

later-made : (floor n : ℕ) (ts : List Timed) → Each (IsMade floor) ts → Each (IsMade floor) (later n ts)
later-made floor n [] all = tt
later-made floor n (t ∷ ts) all =
    elim (nat_le (n + 1) t.at) as (λ b. Each (IsMade floor) (cond b (t ∷ later n ts) (later n ts))) [
      | true ↦ (all.0, later-made floor n ts all.1)
      | false ↦ later-made floor n ts all.1
    ]

-- where what happened in a block is a way of the world, each of its steps is of the batch, none was lost, and its events are
-- ones that a wire may make by itself, the block plays so
pub woven-plays : (floor : ℕ) (q : Asking) (got : List Accepted) (n : ℕ) (ts : List Timed) (ss : List JournalStep) (w v : World) → Each (IsMade floor) ts → Each (λ s. IsLost s → ⊥) ss → AllOf q got (woven n ts ss) → Runs w (woven n ts ss) v → BlockPlays q got n ts w ss v
woven-plays floor q got n ts [] w v moves kept of runs = runs-made ts w v runs
woven-plays floor q got n ts (s ∷ ss) w v moves kept of runs =
    let split = runs-split w v (all_made (due n ts)) (Did s ∷ woven (n + 1) (later n ts) ss) runs in
    let m : World = all_moved w (due n ts) in
    let rest = subst (λ u. Runs u (Did s ∷ woven (n + 1) (later n ts) ss) v) (runs-made (due n ts) w split.0 split.1) split.2 in
    let told = kept_both m s rest.0 kept.0 rest.1 in
    let here = of-made q got (due n ts) (Did s ∷ woven (n + 1) (later n ts) ss) of in (
      here.0,
      subst (λ p. IsAnswered p m s) (sym (both-ways floor n ts moves)) told.0,
      subst (λ p. BlockPlays q (got ++ accepted_by s) (n + 1) (later n ts) (step_world p (copies_at n ts) m s) ss v) (sym (both-ways floor n ts moves))
          (subst (λ cs. BlockPlays q (got ++ accepted_by s) (n + 1) (later n ts) (step_world BothWays cs m s) ss v) (sym (no-copies floor n ts moves))
          (woven-plays floor q (got ++ accepted_by s) (n + 1) (later n ts) ss (step_world BothWays [] m s) v (later-made floor n ts moves) kept.1 here.1
          (subst (λ u. Runs u (woven (n + 1) (later n ts) ss) v) told.1 rest.2))),
    )
