-- Calls of a wire, one after another.
use Rattle.std.proofs.Common.{◌≡◌, ℕ, ◌≤◌, true, false, nat_lt, List, [], ◌∷◌, ◌++◌, map, inl, inr, refl, sym, ap, ◌∙◌, subst, append_assoc, arith}
use Rattle.ds_base.specs.Counts.{Rose, last_count}
use Rattle.ds_base.proofs.SmallFacts.{ge_of, lt_of}
use Rattle.ds_rule.specs.declared.event.Event.{Event}
use Rattle.ds_rule.specs.declared.journal.JournalStep.{JournalStep}
use Rattle.ds_rule.specs.Clauses.{Stands, Stays, Steps, and_step}
use Rattle.ds_rule.specs.Journal.{Happening, Moved, Runs}
use Rattle.ds_rule.specs.Moves.{IsMove}
use Rattle.ds_rule.specs.Pieces.{Each}
use Rattle.ds_rule.specs.World.{World}
use Rattle.ds_rule.proofs.Eachs.{each-append}

-- ---- one way after another

pub runs-append : (w m v : World) (xs ys : List Happening) → Runs w xs m → Runs m ys v → Runs w (xs ++ ys) v
runs-append w m v [] ys r q = subst (λ u. Runs u ys v) r q
runs-append w m v (x ∷ xs) ys r q = (r.0, r.1, runs-append r.0 m v xs ys r.2 q)

pub runs-split : (w v : World) (xs ys : List Happening) → Runs w (xs ++ ys) v → (m : World) × Runs w xs m × Runs m ys v
runs-split w v [] ys r = (w, refl, r)
runs-split w v (x ∷ xs) ys r =
    let rest = runs-split r.0 v xs ys r.2 in
    (rest.0, (r.0, r.1, rest.1), rest.2)

-- ---- a count rose over a longer way where it rose over a part of it

pub rose-left : (a b c : ℕ) → Rose a b → b ≤ c → Rose a c
rose-left a b c (inl h) le = inl (omega (arith, h, le))
rose-left a b c (inr h) le =
    elim (nat_lt a c) as (λ t. nat_lt a c ≡ t → Rose a c) [
      | true ↦ λ e. inl (lt_of a c e)
      | false ↦ λ e. let low = ge_of a c e in inr (h.0, let same : c ≡ last_count = omega (arith, low, le, h.0, h.1) in same)
    ] refl

pub rose-right : (a b c : ℕ) → a ≤ b → b ≤ c → Rose b c → Rose a c
rose-right a b c le le' (inl h) = inl (omega (arith, h, le))
rose-right a b c le le' (inr h) =
    elim (nat_lt a b) as (λ t. nat_lt a b ≡ t → Rose a c) [
      | true ↦ λ e. let low = lt_of a b e in inl (omega (arith, low, le'))
      | false ↦ λ e. let high = ge_of a b e in let same : a ≡ b = omega (arith, high, le) in inr (same ∙ h.0, h.1)
    ] refl

-- ---- moves of a wire, and then a call

moves-append : (ms ns : List Event) → map Moved (ms ++ ns) ≡ map Moved ms ++ map Moved ns
moves-append [] ns = refl
moves-append (m ∷ ms) ns = ap (λ hs. Moved m ∷ hs) (moves-append ms ns)

moves-step : (ms ns : List Event) (s : JournalStep) → and_step (ms ++ ns) s ≡ map Moved ms ++ and_step ns s
moves-step [] ns s = refl
moves-step (m ∷ ms) ns s = ap (λ hs. Moved m ∷ hs) (moves-step ms ns s)

-- are one call that makes its step
pub steps-after : (a m b : Stands) (s : JournalStep) → Stays a m → Steps m b s → Steps a b s
steps-after a m b s x y = record {
  moves = x.moves ++ y.moves;
  above = each-append (IsMove a.floor) x.moves y.moves x.above (subst (λ n. Each (IsMove n) y.moves) x.floor y.above);
  grown =
      y.grown ∙ ap (λ hs. hs ++ and_step y.moves s) x.grown ∙ append_assoc a.past (map Moved x.moves) (and_step y.moves s)
      ∙ ap (λ hs. a.past ++ hs) (sym (moves-step x.moves y.moves s));
  runs = subst (λ hs. Runs a.world hs b.world) (sym (moves-step x.moves y.moves s)) (runs-append a.world m.world b.world (map Moved x.moves) (and_step y.moves s) x.runs y.runs);
  floor = y.floor ∙ x.floor;
  ahead = y.ahead ∙ x.ahead;
  block = y.block ∙ x.block;
  refused = omega (arith, x.refused, y.refused);
  lost = omega (arith, x.lost, y.lost);
  refuses = λ h. rose-right a.refused m.refused b.refused x.refused y.refused (y.refuses h);
  loses = λ h. rose-right a.lost m.lost b.lost x.lost y.lost (y.loses h);
}

-- or that wants memory
pub stays-after : (a m b : Stands) → Stays a m → Stays m b → Stays a b
stays-after a m b x y = record {
  moves = x.moves ++ y.moves;
  above = each-append (IsMove a.floor) x.moves y.moves x.above (subst (λ n. Each (IsMove n) y.moves) x.floor y.above);
  grown =
      y.grown ∙ ap (λ hs. hs ++ map Moved y.moves) x.grown ∙ append_assoc a.past (map Moved x.moves) (map Moved y.moves)
      ∙ ap (λ hs. a.past ++ hs) (sym (moves-append x.moves y.moves));
  runs = subst (λ hs. Runs a.world hs b.world) (sym (moves-append x.moves y.moves)) (runs-append a.world m.world b.world (map Moved x.moves) (map Moved y.moves) x.runs y.runs);
  floor = y.floor ∙ x.floor;
  ahead = y.ahead ∙ x.ahead;
  block = y.block ∙ x.block;
  refused = omega (arith, x.refused, y.refused);
  lost = omega (arith, x.lost, y.lost);
}
