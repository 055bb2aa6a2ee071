-- What happened in a block that is over: its events in their order, and its steps.
use Rattle.std.proofs.Common.{◌≡◌, ℕ, ◌+◌, ◌≤◌, ◌<◌, true, false, cond, List, [], ◌∷◌, ◌++◌, map, nat_le, refl, sym, ap, ◌∙◌, arith}
use Rattle.std.proofs.lemmas.Bool.Decides.{nat_tests}
use Rattle.ds_base.proofs.SmallFacts.{and_both, and_first, and_second, le_of, gt_of}
use Rattle.ds_cell.specs.Store.{Store}
use Rattle.ds_rule.specs.declared.event.Timed.{Timed}
use Rattle.ds_rule.specs.declared.journal.JournalStep.{JournalStep}
use Rattle.ds_rule.specs.Asking.{Asking}
use Rattle.ds_rule.specs.Blocks.{all_made, all_moved, before_step, due, later, never_fall, up_to_last_step, woven}
use Rattle.ds_rule.specs.Journal.{Happening, Moved, Did, Runs, Accepted, accepted, accepted_by, steps_of}
use Rattle.ds_rule.specs.Moves.{moved}
use Rattle.ds_rule.specs.Pieces.{Each}
use Rattle.ds_rule.specs.Plain.{after_event, after_events}
use Rattle.ds_rule.specs.Sending.{AllOf}
use Rattle.ds_rule.specs.StandsFor.{after_made}
use Rattle.ds_rule.specs.World.{World}

-- ---- events behind what happened

pub made-runs : (ts : List Timed) (w : World) → Runs w (all_made ts) (all_moved w ts)
made-runs [] w = refl
made-runs (t ∷ ts) w = (moved w t.event, refl, made-runs ts (moved w t.event))

made-alone : (q : Asking) (got : List Accepted) (ts : List Timed) → AllOf q got (all_made ts)
made-alone q got [] = tt
made-alone q got (t ∷ ts) = made-alone q got ts

pub made-of : (q : Asking) (hs : List Happening) (got : List Accepted) (ts : List Timed) → AllOf q got hs → AllOf q got (hs ++ all_made ts)
made-of q [] got ts of = made-alone q got ts
made-of q (Moved e ∷ hs) got ts of = made-of q hs got ts of
made-of q (Did s ∷ hs) got ts of = (of.0, made-of q hs (got ++ accepted_by s) ts of.1)

-- ---- what they make of a store

pub made-events : (ts : List Timed) (p : Store) → after_made (all_made ts) p ≡ after_events ts p
made-events [] p = refl
made-events (t ∷ ts) p = made-events ts (after_event t.event p)

pub made-append : (hs ks : List Happening) (p : Store) → after_made (hs ++ ks) p ≡ after_made ks (after_made hs p)
made-append [] ks p = refl
made-append (Moved e ∷ hs) ks p = made-append hs ks (after_event e p)
made-append (Did s ∷ hs) ks p = made-append hs ks p

events-append : (ts us : List Timed) (p : Store) → after_events (ts ++ us) p ≡ after_events us (after_events ts p)
events-append [] us p = refl
events-append (t ∷ ts) us p = events-append ts us (after_event t.event p)

-- ---- events whose steps never fall: those that are due, and then those that come later

le-test : (n m : ℕ) → n ≤ m → nat_le n m ≡ true
le-test n m h = grind (arith, nat_tests)

not-le : (n m : ℕ) → m < n → nat_le n m ≡ false
not-le n m h = grind (arith, nat_tests)

less-fall : (ts : List Timed) (l m : ℕ) → l ≤ m → never_fall m ts ≡ true → never_fall l ts ≡ true
less-fall [] l m le h = refl
less-fall (t ∷ ts) l m le h =
    let up : m ≤ t.at = le_of m t.at (and_first (nat_le m t.at) (never_fall t.at ts) h) in
    and_both (nat_le l t.at) (never_fall t.at ts) (le-test l t.at (omega (arith, le, up))) (and_second (nat_le m t.at) (never_fall t.at ts) h)

none-due : (ts : List Timed) (n m : ℕ) → n < m → never_fall m ts ≡ true → due n ts ≡ []
none-due [] n m low h = refl
none-due (t ∷ ts) n m low h =
    let up : m ≤ t.at = le_of m t.at (and_first (nat_le m t.at) (never_fall t.at ts) h) in
    let over : n < t.at = omega (arith, low, up) in
    ap (λ b. cond b (t ∷ due n ts) (due n ts)) (not-le t.at n over) ∙ none-due ts n t.at over (and_second (nat_le m t.at) (never_fall t.at ts) h)

all-later : (ts : List Timed) (n m : ℕ) → n < m → never_fall m ts ≡ true → later n ts ≡ ts
all-later [] n m low h = refl
all-later (t ∷ ts) n m low h =
    let up : m ≤ t.at = le_of m t.at (and_first (nat_le m t.at) (never_fall t.at ts) h) in
    let over : n < t.at = omega (arith, low, up) in
    ap (λ b. cond b (t ∷ later n ts) (later n ts)) (le-test (n + 1) t.at (omega (arith, over)))
    ∙ ap (λ us. t ∷ us) (all-later ts n t.at over (and_second (nat_le m t.at) (never_fall t.at ts) h))

split-due : (ts : List Timed) (n m : ℕ) → never_fall m ts ≡ true → due n ts ++ later n ts ≡ ts
split-due [] n m h = refl
split-due (t ∷ ts) n m h =
    let rest = and_second (nat_le m t.at) (never_fall t.at ts) h in
    elim (nat_le t.at n) as (λ b. nat_le t.at n ≡ b → due n (t ∷ ts) ++ later n (t ∷ ts) ≡ t ∷ ts) [
      | true ↦ λ e.
          let low : t.at ≤ n = le_of t.at n e in
          let before : t.at < n + 1 = omega (arith, low) in
          ap (λ b. cond b (t ∷ due n ts) (due n ts) ++ later n (t ∷ ts)) e
          ∙ ap (λ b. t ∷ (due n ts ++ cond b (t ∷ later n ts) (later n ts))) (not-le (n + 1) t.at before)
          ∙ ap (λ us. t ∷ us) (split-due ts n t.at rest)
      | false ↦ λ e.
          let over : n < t.at = gt_of t.at n e in
          ap (λ b. cond b (t ∷ due n ts) (due n ts) ++ later n (t ∷ ts)) e
          ∙ ap (λ us. us ++ later n (t ∷ ts)) (none-due ts n t.at over rest)
          ∙ ap (λ b. cond b (t ∷ later n ts) (later n ts)) (le-test (n + 1) t.at (omega (arith, over)))
          ∙ ap (λ us. t ∷ us) (all-later ts n t.at over rest)
    ] refl

later-fall : (ts : List Timed) (n m : ℕ) → never_fall m ts ≡ true → never_fall m (later n ts) ≡ true
later-fall [] n m h = refl
later-fall (t ∷ ts) n m h =
    let up = and_first (nat_le m t.at) (never_fall t.at ts) h in
    let rest = later-fall ts n t.at (and_second (nat_le m t.at) (never_fall t.at ts) h) in
    elim (nat_le (n + 1) t.at) as (λ b. never_fall m (cond b (t ∷ later n ts) (later n ts)) ≡ true) [
      | true ↦ and_both (nat_le m t.at) (never_fall t.at (later n ts)) up rest
      | false ↦ less-fall (later n ts) m t.at (le_of m t.at up) rest
    ]

-- what happened in a block makes of a store what its events make of it, in their order
pub woven-events : (ss : List JournalStep) (n m : ℕ) (ts : List Timed) (p : Store) → never_fall m ts ≡ true → after_made (woven n ts ss) p ≡ after_events ts p
woven-events [] n m ts p h = made-events ts p
woven-events (s ∷ ss) n m ts p h =
    made-append (all_made (due n ts)) (Did s ∷ woven (n + 1) (later n ts) ss) p
    ∙ woven-events ss (n + 1) m (later n ts) (after_made (all_made (due n ts)) p) (later-fall ts n m h)
    ∙ ap (after_events (later n ts)) (made-events (due n ts) p)
    ∙ sym (events-append (due n ts) (later n ts) p)
    ∙ ap (λ us. after_events us p) (split-due ts n m h)

-- ---- the steps of a block

-- its steps alone
abbrev pub alone : List Happening → List Happening
alone hs = map Did (steps_of hs)

steps-made : (ts : List Timed) (hs : List Happening) → steps_of (all_made ts ++ hs) ≡ steps_of hs
steps-made [] hs = refl
steps-made (t ∷ ts) hs = steps-made ts hs

no-steps : (ts : List Timed) → steps_of (all_made ts) ≡ []
no-steps [] = refl
no-steps (t ∷ ts) = no-steps ts

pub woven-steps : (ss : List JournalStep) (n : ℕ) (ts : List Timed) → steps_of (woven n ts ss) ≡ ss
woven-steps [] n ts = no-steps ts
woven-steps (s ∷ ss) n ts = steps-made (due n ts) (Did s ∷ woven (n + 1) (later n ts) ss) ∙ ap (λ rs. s ∷ rs) (woven-steps ss (n + 1) (later n ts))

pub woven-alone : (ss : List JournalStep) (n : ℕ) (ts : List Timed) → alone (woven n ts ss) ≡ map Did ss
woven-alone ss n ts = ap (map Did) (woven-steps ss n ts)

pub each-alone : (P : Happening → Type 0) (hs : List Happening) → Each P hs → Each P (alone hs)
each-alone P [] all = tt
each-alone P (Moved e ∷ hs) all = each-alone P hs all.1
each-alone P (Did s ∷ hs) all = (all.0, each-alone P hs all.1)

pub accepted-alone : (hs : List Happening) → accepted (alone hs) ≡ accepted hs
accepted-alone [] = refl
accepted-alone (Moved e ∷ hs) = accepted-alone hs
accepted-alone (Did s ∷ hs) = ap (λ xs. accepted_by s ++ xs) (accepted-alone hs)

pub steps-append : (hs ks : List Happening) → steps_of (hs ++ ks) ≡ steps_of hs ++ steps_of ks
steps-append [] ks = refl
steps-append (Moved e ∷ hs) ks = steps-append hs ks
steps-append (Did s ∷ hs) ks = ap (λ rs. s ∷ rs) (steps-append hs ks)

-- ---- what happened up to the last step

none-before : (ts : List Timed) → up_to_last_step (all_made ts) ≡ []
none-before [] = refl
none-before (t ∷ ts) = ap (before_step (Moved t.event)) (none-before ts)

kept-before : (h s : Happening) (hs : List Happening) → before_step h (hs ++ s ∷ []) ≡ h ∷ (hs ++ s ∷ [])
kept-before h s [] = refl
kept-before h s (k ∷ ks) = refl

-- where a step was the last, events behind it are left out
pub up-to-step : (hs : List Happening) (s : JournalStep) (ts : List Timed) → up_to_last_step ((hs ++ Did s ∷ []) ++ all_made ts) ≡ hs ++ Did s ∷ []
up-to-step [] s ts = ap (λ ks. Did s ∷ ks) (none-before ts)
up-to-step (Moved e ∷ hs) s ts = ap (before_step (Moved e)) (up-to-step hs s ts) ∙ kept-before (Moved e) (Did s) hs
up-to-step (Did r ∷ hs) s ts = ap (λ ks. Did r ∷ ks) (up-to-step hs s ts)
