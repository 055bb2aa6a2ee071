-- How many events a batch's block counts.
use Rattle.std.proofs.Common.{◌≡◌, ℕ, ◌+◌, ◌≤◌, ◌<◌, Bool, true, false, cond, List, [], ◌∷◌, ◌++◌, length, nat_le, Option, Some, None, inl, inr, refl, sym, ap, ◌∙◌, subst, arith}
use Rattle.std.proofs.lemmas.Bool.Decides.{nat_tests}
use Rattle.std.specs.List.{find}
use Rattle.ds_base.proofs.SmallFacts.{le_of}
use Rattle.ds_base.specs.declared.value.Stamp.{Stamp}
use Rattle.ds_desc.specs.Descs.{back_from, containing}
use Rattle.ds_desc.specs.declared.desc.RangeDesc.{RangeDesc}
use Rattle.ds_desc.specs.declared.meta.Looked.TheVariants as Looked
use Rattle.ds_kind.specs.declared.batch.Batch.{Batch}
use Rattle.ds_kind.specs.declared.batch.Piece.{Piece}
use Rattle.ds_kind.specs.declared.illegal.Illegal.{Illegal}
use Rattle.ds_legal.specs.Rules.{first_illegal}
use Rattle.ds_cell.specs.Store.{Asker}
use Rattle.ds_coord.specs.declared.txn.Txn.{Txn}
use Rattle.ds_coord.specs.Client.{asker_in, refusal_by}
use Rattle.ds_rule.specs.declared.answer.Answer.TheVariants.{Done, Failed, Refused, Lost}
use Rattle.ds_rule.specs.declared.answer.Outcome.{Outcome}
use Rattle.ds_rule.specs.declared.event.Block.{Block}
use Rattle.ds_rule.specs.declared.event.Event.{Event}
use Rattle.ds_rule.specs.declared.event.Event.TheVariants.{Write, Split, Merge, Lease, Move, Stale, Abort, Arrive, LoseRequest, LoseReply, Copy, Restart}
use Rattle.ds_rule.specs.declared.event.Timed.{Timed}
use Rattle.ds_rule.specs.declared.journal.Entry.{Entry}
use Rattle.ds_rule.specs.declared.journal.JournalStep.{JournalStep}
use Rattle.ds_rule.specs.declared.journal.JournalStep.TheVariants.{Look, Send}
use Rattle.ds_rule.specs.Asking.{Asking, asking, asking_by}
use Rattle.ds_rule.specs.Blocks.{all_made, all_moved, due, later, woven}
use Rattle.ds_rule.specs.Clauses.{Stands}
use Rattle.ds_rule.specs.Deliver.{deliver_world}
use Rattle.ds_rule.specs.Journal.{Happening, Moved, Did, Runs}
use Rattle.ds_rule.specs.Moves.{arrived_as, counted_if, counts, effect, is_copy, moved, without_copy}
use Rattle.ds_rule.specs.Shifts.{arming}
use Rattle.ds_rule.specs.World.{World, Late}
use Rattle.ds_rule.proofs.Passing.{Told, told}
use Rattle.ds_world.proofs.Delivers.{deliver-leaves}
use Rattle.ds_sim.specs.State.{Ended}
use Rattle.ds_replay.specs.Asked.{AskedBy, begun_block}
use Rattle.ds_send.specs.Asked.{IsOpenFor}
use Rattle.ds_replay.specs.Sends.{DoneBy}

-- ---- steps leave the count

deliver-count : (w : World) (n : ℕ) (p : Piece) → (deliver_world w n p).count ≡ w.count
deliver-count w n p = deliver-leaves (λ v. v.count) (λ id cells v. refl) (λ ts v. refl) (λ k v. refl) (λ k m v. refl) w n p

told-count : (w : World) (s : JournalStep) (v : World) → Told w s v → v.count ≡ w.count
told-count w (Look k d (Looked.Rows infos)) v h = ap (λ z. z.count) h.1
told-count w (Look k d Looked.Lost) v h = ap (λ z. z.count) h.0
told-count w (Send n p (Done rs)) v h = ap (λ z. z.count) h.1 ∙ deliver-count w n p
told-count w (Send n p (Failed f)) v h = ap (λ z. z.count) h.1 ∙ deliver-count w n p
told-count w (Send n p (Refused r)) v h = ap (λ z. z.count) h.1 ∙ deliver-count w n p
told-count w (Send n p Lost) v (inl h) = ap (λ z. z.count) h
told-count w (Send n p Lost) v (inr h) = ap (λ z. z.count) h ∙ deliver-count w n p

-- ---- an event raises it by one at most

arming-count : (o : Option RangeDesc) (w : World) → (arming o w).count ≡ w.count
arming-count None w = refl
arming-count (Some d) w = refl

arrived-count : (o : Option Late) (c : ℕ) (w : World) → (arrived_as o c w).count ≡ w.count
arrived-count None c w = refl
arrived-count (Some l) c w = deliver-count (without_copy c w) l.node l.piece

effect-count : (e : Event) (w : World) → (effect e w).count ≡ w.count
effect-count (Write k s v) w = refl
effect-count (Split k) w = refl
effect-count (Merge k) w = refl
effect-count (Lease k m) w = refl
effect-count (Move k ns) w = refl
effect-count (Stale k b) w = arming-count (back_from b (containing k w.descs)) w
effect-count Abort w = refl
effect-count (Arrive c) w = arrived-count (find (is_copy c) w.copies) c w
effect-count (LoseRequest c) w = refl
effect-count (LoseReply c) w = refl
effect-count (Copy c) w = refl
effect-count (Restart t) w = refl

one-more : (b : Bool) (w : World) (n : ℕ) → w.count ≡ n → (counted_if b w).count ≤ n + 1
one-more true w n is = omega (arith, is)
one-more false w n is = omega (arith, is)

pub moved-count : (e : Event) (w : World) → (moved w e).count ≤ w.count + 1
moved-count e w = one-more (counts e) (effect e w) w.count (effect-count e w)

all-moved-count : (ts : List Timed) (w : World) → (all_moved w ts).count ≤ w.count + length ts
all-moved-count [] w = omega arith
all-moved-count (t ∷ ts) w =
    let one = moved-count t.event w in
    let rest = all-moved-count ts (moved w t.event) in
    omega (arith, one, rest)

-- ---- a way counts its events

abbrev pub moves_in : List Happening → ℕ
moves_in [] = 0
moves_in (Moved e ∷ hs) = 1 + moves_in hs
moves_in (Did s ∷ hs) = moves_in hs

runs-count : (hs : List Happening) (w v : World) → Runs w hs v → v.count ≤ w.count + moves_in hs
runs-count [] w v r = let same : v.count ≡ w.count = ap (λ z. z.count) r in omega (arith, same)
runs-count (Moved e ∷ hs) w v r =
    let same : r.0.count ≡ (moved w e).count = ap (λ z. z.count) r.1 in
    let one = moved-count e w in
    let rest = runs-count hs r.0 v r.2 in
    omega (arith, same, one, rest)
runs-count (Did s ∷ hs) w v r =
    let same : r.0.count ≡ w.count = told-count w s r.0 (told w s r.0 r.1) in
    let rest = runs-count hs r.0 v r.2 in
    omega (arith, same, rest)

made-moves : (ts : List Timed) (hs : List Happening) → moves_in (all_made ts ++ hs) ≡ length ts + moves_in hs
made-moves [] hs = omega arith
made-moves (t ∷ ts) hs = let rest = made-moves ts hs in omega (arith, rest)

made-alone : (ts : List Timed) → moves_in (all_made ts) ≡ length ts
made-alone [] = refl
made-alone (t ∷ ts) = let rest = made-alone ts in omega (arith, rest)

-- an event is due before a step, or comes later, and not both
due-later : (n : ℕ) (ts : List Timed) → length (due n ts) + length (later n ts) ≤ length ts
due-later n [] = omega arith
due-later n (t ∷ ts) =
    let rest = due-later n ts in
    elim (nat_le t.at n) as (λ b. nat_le t.at n ≡ b → length (cond b (t ∷ due n ts) (due n ts)) + length (cond (nat_le (n + 1) t.at) (t ∷ later n ts) (later n ts)) ≤ length (t ∷ ts)) [
      | true ↦ λ e.
          let low : t.at ≤ n = le_of t.at n e in
          let not : nat_le (n + 1) t.at ≡ false = over (n + 1) t.at (omega (arith, low)) in
          subst (λ b. length (t ∷ due n ts) + length (cond b (t ∷ later n ts) (later n ts)) ≤ length (t ∷ ts)) (sym not) (omega (arith, rest))
      | false ↦ λ e.
          elim (nat_le (n + 1) t.at) as (λ b. length (due n ts) + length (cond b (t ∷ later n ts) (later n ts)) ≤ length (t ∷ ts)) [
            | true ↦ omega (arith, rest)
            | false ↦ omega (arith, rest)
          ]
    ] refl
  where
    over : (n m : ℕ) → m < n → nat_le n m ≡ false
    over n m h = grind (arith, nat_tests)

woven-moves : (ss : List JournalStep) (n : ℕ) (ts : List Timed) → moves_in (woven n ts ss) ≤ length ts
woven-moves [] n ts = let same = made-alone ts in omega (arith, same)
woven-moves (s ∷ ss) n ts =
    let first = made-moves (due n ts) (Did s ∷ woven (n + 1) (later n ts) ss) in
    let rest = woven-moves ss (n + 1) (later n ts) in
    let both = due-later n ts in
    omega (arith, first, rest, both)

-- ---- a batch

-- a batch that has a transaction or needs none is asked
asked-by : (at : Option Stamp) (t : Option Asker) (b : Batch) → IsOpenFor at t → (q : Asking) × (asking_by at t b ≡ Some q)
asked-by (Some s) t b h = (_, refl)
asked-by None None b h = absurd h
asked-by None (Some t) b h = (_, refl)

pub is-asked : (t : Option Asker) (b : Batch) → IsOpenFor b.at t → (q : Asking) × (asking t b ≡ Some q)
is-asked t b h = asked-by b.at t b h

done-count : (i : Option Illegal) (r : Option Outcome) (budget : ℕ) (q : Asking) (a mid : Stands) (hs : List Happening) (o : Outcome) → a.past ≡ [] → mid.past ≡ hs → DoneBy i r budget q a mid o → (mid.block ≡ a.block) × (mid.world.count ≤ a.world.count + moves_in hs)
done-count (Some i) r budget q a mid hs o none past done = (ap (λ z. z.block) done.1, (let same : mid.world.count ≡ a.world.count = ap (λ z. z.world.count) done.1 in omega (arith, same)))
done-count None (Some r) budget q a mid hs o none past done = (ap (λ z. z.block) done.1, (let same : mid.world.count ≡ a.world.count = ap (λ z. z.world.count) done.1 in omega (arith, same)))
done-count None None budget q a mid hs o none past sent =
    let did = sent.did in
    let same : did.added ≡ hs = sym (did.grown ∙ ap (λ ks. ks ++ did.added) none) ∙ past in
    (did.block, subst (λ ks. mid.world.count ≤ a.world.count + moves_in ks) same (runs-count did.added a.world mid.world did.runs))

ended-count : (steps : List JournalStep) (a mid c : Stands) → mid.block ≡ a.block → (e : Ended steps mid c) → mid.world.count ≤ a.world.count + moves_in (woven 1 e.done steps) → c.world.count ≤ a.world.count + length a.block
ended-count steps a mid c same e low =
    let made = woven-moves steps 1 e.done in
    let left = all-moved-count e.left mid.world in
    let there : c.world.count ≡ (all_moved mid.world e.left).count = ap (λ z. z.world.count) e.state in
    let whole : length a.block ≡ length e.done + length e.left = ap length (sym same ∙ e.block) ∙ both e.done e.left in
    omega (arith, made, left, there, whole, low)
  where
    both : (xs ys : List Timed) → length (xs ++ ys) ≡ length xs + length ys
    both [] ys = omega arith
    both (x ∷ xs) ys = let rest = both xs ys in omega (arith, rest)

-- it counts at most its block's events
pub asked-count : (a c : Stands) (budget : ℕ) (t u : Option Txn) (b : Batch) (block : Block) (n : ℕ) (log after : List Entry) → IsOpenFor b.at (asker_in t) → AskedBy a c budget t u b block n log after → c.world.count ≤ a.world.count + length block.events
asked-count a c budget t u b block n log after who by =
    let k = is-asked (asker_in t) b who in
    let e = by.ended in
    let d = done-count (first_illegal b) (refusal_by b.at b.requests t) budget k.0 (begun_block a t b block) by.mid (woven 1 e.done by.steps) by.outcome refl e.past (by.done k.0 k.1) in
    ended-count by.steps (begun_block a t b block) by.mid c d.0 e d.1

-- and leaves no block under way
pub asked-block : (a c : Stands) (budget : ℕ) (t u : Option Txn) (b : Batch) (block : Block) (n : ℕ) (log after : List Entry) → AskedBy a c budget t u b block n log after → c.block ≡ []
asked-block a c budget t u b block n log after by = ap (λ z. z.block) by.ended.state
