-- The events that are left at a block's end.
use Rattle.std.proofs.Common.{◌≡◌, ℕ, ◌+◌, ◌≤◌, ◌<◌, ◌^◌, Bool, true, false, List, [], ◌∷◌, ◌++◌, ◌-◌, length, take, drop, slice_get, Option, Some, None, refl, sym, ap, ◌∙◌, subst, append_assoc, arith}
use Rattle.std.proofs.lemmas.List.{take-append-drop, take_all}
use Rattle.ds_desc.specs.Descs.{back_from, containing}
use Rattle.ds_desc.specs.declared.desc.RangeDesc.{RangeDesc}
use Rattle.ds_rule.specs.declared.event.Event.{Event}
use Rattle.ds_rule.specs.declared.event.Event.TheVariants.{Write, Split, Merge, Lease, Move, Stale, Abort, Arrive, LoseRequest, LoseReply, Copy, Restart}
use Rattle.ds_rule.specs.declared.event.Timed.{Timed}
use Rattle.ds_rule.specs.declared.journal.JournalStep.{JournalStep}
use Rattle.ds_rule.specs.declared.record.TxnRecord.{TxnRecord}
use Rattle.ds_rule.specs.Blocks.{all_made, all_moved, woven}
use Rattle.ds_rule.specs.Clauses.{Stands}
use Rattle.ds_rule.specs.Moves.{counted_if, counts, effect, moved}
use Rattle.ds_rule.specs.Pieces.{Each}
use Rattle.ds_rule.specs.Shifts.{arming}
use Rattle.ds_rule.specs.World.{World}
use Rattle.ds_rule.proofs.Eachs.{each-of, of-get}
use Rattle.ds_ranges.specs.Layout.{Layout}
use Rattle.ds_sim.specs.State.{Ended, EndedShort, MadeSome, block_over, stands_for, world_of}
use Rattle.ds_sim.specs.UnderWay.{UnderWay}
use Rattle.ds_sim.proofs.UnderWay.{taken-at}

-- ---- events one after another

all-moved-append : (w : World) (ts us : List Timed) → all_moved w (ts ++ us) ≡ all_moved (all_moved w ts) us
all-moved-append w [] us = refl
all-moved-append w (t ∷ ts) us = all-moved-append (moved w t.event) ts us

arming-count : (o : Option RangeDesc) (w : World) → (arming o w).count ≡ w.count
arming-count None w = refl
arming-count (Some d) w = refl

-- an event raises the count of events by one at most
effect-count : (e : Event) (l : Layout) (armed : List RangeDesc) (ts : List TxnRecord) (n : ℕ) → (effect e (world_of l armed ts n)).count ≡ n
effect-count (Write k s v) l armed ts n = refl
effect-count (Split k) l armed ts n = refl
effect-count (Merge k) l armed ts n = refl
effect-count (Lease k m) l armed ts n = refl
effect-count (Move k ns) l armed ts n = refl
effect-count (Stale k b) l armed ts n = arming-count (back_from b (containing k l.descs)) (world_of l armed ts n)
effect-count Abort l armed ts n = refl
effect-count (Arrive c) l armed ts n = refl
effect-count (LoseRequest c) l armed ts n = refl
effect-count (LoseReply c) l armed ts n = refl
effect-count (Copy c) l armed ts n = refl
effect-count (Restart t) l armed ts n = refl

one-more : (b : Bool) (w : World) (n : ℕ) → w.count ≡ n → (counted_if b w).count ≤ n + 1
one-more true w n is = omega (arith, is)
one-more false w n is = omega (arith, is)

pub moved-count : (e : Event) (l : Layout) (armed : List RangeDesc) (ts : List TxnRecord) (n : ℕ) → (moved (world_of l armed ts n) e).count ≤ n + 1
moved-count e l armed ts n = one-more (counts e) (effect e (world_of l armed ts n)) n (effect-count e l armed ts n)

-- ---- a loop over events

-- the first i of these events were made
pub record Making (events : List Timed) (i : ℕ) (a b : Stands) : Type 0 where
  pub state : b ≡ record a { world = all_moved a.world (take i events) }
  pub count : b.world.count ≤ a.world.count + i

pub making-first : (events : List Timed) (a : Stands) → Making events 0 a a
making-first events a = record { state = refl; count = omega arith }

pub making-more : (events : List Timed) (i : ℕ) (t : Timed) (a b : Stands) (l : Layout) (armed : List RangeDesc) (ts : List TxnRecord) (u : UnderWay) (c : ℕ) (picks : List ℕ) → slice_get events i ≡ Some t → b ≡ record (stands_for (world_of l armed ts u.count) u c picks) { world = moved (world_of l armed ts u.count) t.event } → Making events i a (stands_for (world_of l armed ts u.count) u c picks) → Making events (i + 1) a b
making-more events i t a b l armed ts u c picks at is making =
    let w : World = world_of l armed ts u.count in
    let high : (moved w t.event).count ≤ u.count + 1 = moved-count t.event l armed ts u.count in
    let same : b.world.count ≡ (moved w t.event).count = ap (λ z. z.world.count) is in
    let low : u.count ≤ a.world.count + i = making.count in
    record {
      state =
          is ∙ also-moved (stands_for w u c picks) (record a { world = all_moved a.world (take i events) }) making.state
          ∙ ap (λ v. record a { world = v }) (sym (all-moved-append a.world (take i events) (t ∷ [])) ∙ ap (all_moved a.world) (sym (taken-at events i t at)));
      count = omega (arith, high, same, low);
    }
  where
    also-moved : (b d : Stands) → b ≡ d → record b { world = moved b.world t.event } ≡ record d { world = moved d.world t.event }
    also-moved b d same = let f : Stands → Stands = λ z. record z { world = moved z.world t.event } in ap f same

pub making-fits : (events : List Timed) (i : ℕ) (a b : Stands) → i < length events → a.world.count + length a.block + length events < 2 ^ 64 → Making events i a b → b.world.count + length b.block < 2 ^ 64 - 1
making-fits events i a b within few making =
    let low : b.world.count ≤ a.world.count + i = making.count in
    let same : length b.block ≡ length a.block = ap (λ z. length z.block) making.state in
    omega (arith, low, same, within, few)

pub making-all : (events : List Timed) (i : ℕ) (a b : Stands) → length events ≤ i → Making events i a b → b ≡ record a { world = all_moved a.world events }
making-all events i a b high making = making.state ∙ ap (λ ts. record a { world = all_moved a.world ts }) (take_all i events high)

pub making-some : (events : List Timed) (i : ℕ) (a b c : Stands) → c ≡ b → Making events i a b → MadeSome events a c
making-some events i a b c is making = record { some = take i events; rest = drop i events; are = sym (take-append-drop i events); state = is ∙ making.state }

pub each-at : (P : Timed → Type 0) (ts : List Timed) (i : ℕ) (t : Timed) → slice_get ts i ≡ Some t → Each P ts → P t
each-at P ts i t at all = each-of P t ts all (of-get t ts i at)

-- ---- a block ends

pub ended : (l : Layout) (armed : List RangeDesc) (ts : List TxnRecord) (u over : UnderWay) (c : ℕ) (picks none : List ℕ) (left : List Timed) (steps : List JournalStep) (b : Stands) → over ≡ record u { made = []; coming = []; steps = [] } → none ≡ [] → left ≡ u.coming → steps ≡ u.steps → woven 1 (u.made ++ u.coming) u.steps ≡ woven 1 u.made u.steps ++ all_made u.coming → b ≡ record (stands_for (world_of l armed ts over.count) over c none) { world = all_moved (world_of l armed ts over.count) left } → Ended steps (stands_for (world_of l armed ts u.count) u c picks) b
ended l armed ts u over c picks none left steps b is empty are noted all after =
    subst (λ ss. Ended ss (stands_for (world_of l armed ts u.count) u c picks) b) (sym noted) record {
      done = u.made;
      left = u.coming;
      block = refl;
      past = refl;
      all = all;
      state = after ∙ over-as l armed ts u over c picks none left is empty are;
    }
  where
    over-as : (l : Layout) (armed : List RangeDesc) (ts : List TxnRecord) (u over : UnderWay) (c : ℕ) (picks none : List ℕ) (left : List Timed) → over ≡ record u { made = []; coming = []; steps = [] } → none ≡ [] → left ≡ u.coming → record (stands_for (world_of l armed ts over.count) over c none) { world = all_moved (world_of l armed ts over.count) left } ≡ block_over (all_moved (world_of l armed ts u.count) u.coming) (stands_for (world_of l armed ts u.count) u c picks)
    over-as l armed ts u over c picks none left is empty are =
        ap (λ z. record (stands_for (world_of l armed ts z.count) z c none) { world = all_moved (world_of l armed ts z.count) left }) is
        ∙ ap (λ ps. record (stands_for (world_of l armed ts u.count) (record u { made = []; coming = []; steps = [] }) c ps) { world = all_moved (world_of l armed ts u.count) left }) empty
        ∙ ap (λ us. record (stands_for (world_of l armed ts u.count) (record u { made = []; coming = []; steps = [] }) c []) { world = all_moved (world_of l armed ts u.count) us }) are

pub ended-short : (l : Layout) (armed : List RangeDesc) (ts : List TxnRecord) (u over : UnderWay) (c : ℕ) (picks none : List ℕ) (left : List Timed) (b : Stands) → over ≡ record u { made = []; coming = []; steps = [] } → none ≡ [] → left ≡ u.coming → MadeSome left (stands_for (world_of l armed ts over.count) over c none) b → EndedShort (stands_for (world_of l armed ts u.count) u c picks) b
ended-short l armed ts u over c picks none left b is empty are short = record {
  before = u.made;
  some = short.some;
  rest = short.rest;
  block = ap (λ us. u.made ++ us) (sym are ∙ short.are) ∙ sym (append_assoc u.made short.some short.rest);
  state =
      short.state
      ∙ ap (λ z. record (stands_for (world_of l armed ts z.count) z c none) { world = all_moved (world_of l armed ts z.count) short.some }) is
      ∙ ap (λ ps. record (stands_for (world_of l armed ts u.count) (record u { made = []; coming = []; steps = [] }) c ps) { world = all_moved (world_of l armed ts u.count) short.some }) empty;
}
