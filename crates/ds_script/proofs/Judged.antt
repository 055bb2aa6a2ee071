-- What is known of the lines of a script, one after another.
use Rattle.std.proofs.Common.{◌≡◌, ℕ, List, ◌∷◌, Bool, true, false, not, ◌&&◌, is_some, Result, Ok, Err, refl}
use Rattle.ds_fields.specs.declared.fault.FaultKind.{FaultKind}
use Rattle.ds_fields.specs.declared.fault.FaultKind.TheVariants.{Range, Order, LowWrite, TxnOpen}
use Rattle.ds_fields.specs.Fault.{◌>>=◌}
use Rattle.ds_script.specs.declared.line.Line.{Line}
use Rattle.ds_script.specs.declared.line.Numbered.{Numbered}
use Rattle.ds_script.specs.declared.state.State.{State}
use Rattle.ds_script.specs.Limits.{line_fits}
use Rattle.ds_script.specs.Rules.{require, leads, belongs, copies_after, high_enough, may_begin, top, after, turn, judge, walk, start, is_settled, numbers_rise, keeps_rules}

-- what a line that was accepted keeps, and what is known after it
pub record Judged (n : ℕ) (line : Line) (s t : State) : Type 0 where
  pub fits : line_fits (top s.nodes) line ≡ true
  pub leads : leads s.nodes line ≡ true
  pub belongs : belongs s.txn line ≡ true
  pub copies : copies_after n line s.copies ≡ Ok t.copies
  pub high : high_enough s.txn line ≡ true
  pub begins : may_begin s.txn line ≡ true
  pub then : t ≡ after n line s t.copies

-- a step that was gone through
required : {B : Type 0} → (kind : FaultKind) (holds : Bool) (rest : Unit {0} → Result B FaultKind) (b : B)
    → (require kind holds >>= rest) ≡ Ok b → (holds ≡ true) × (rest tt ≡ Ok b)
required kind true rest b e = (refl, e)
required kind false rest b e = absurd cc

bound : {A B : Type 0} → (r : Result A FaultKind) (f : A → Result B FaultKind) (b : B)
    → (r >>= f) ≡ Ok b → (a : A) × (r ≡ Ok a) × (f a ≡ Ok b)
bound (Ok a) f b e = (a, refl, e)
bound (Err k) f b e = absurd cc

both : (a b : Bool) → (a && b) ≡ true → (a ≡ true) × (b ≡ true)
both true b e = (refl, e)
both false b e = absurd cc

pub judged : (n : ℕ) (line : Line) (s t : State) → judge n line s ≡ Ok t → Judged n line s t
unfolding turn
judged n line s t e =
    let fit = required Range (line_fits (top s.nodes) line) _ t e in
    let order = required Order (leads s.nodes line && belongs s.txn line) _ t fit.1 in
    let places = both (leads s.nodes line) (belongs s.txn line) order.0 in
    let claimed = bound (copies_after n line s.copies) _ t order.1 in
    let high = required LowWrite (high_enough s.txn line) _ t claimed.2 in
    let begins = required TxnOpen (may_begin s.txn line) _ t high.1 in
    let then : after n line s claimed.0 ≡ t = cc (begins.1) in
    let same : claimed.0 ≡ t.copies = cc (then) in
    record {
      fits = fit.0;
      leads = places.0;
      belongs = places.1;
      copies = rw (← same) claimed.1;
      high = high.0;
      begins = begins.0;
      then = cc (then, same);
    }

-- the first line of a walk, and the walk of the others
pub walk_first : (l : Numbered) (ls : List Numbered) (s t : State) → walk (l ∷ ls) s ≡ Ok t → (u : State) × (Judged l.number l.line s u) × (walk ls u ≡ Ok t)
walk_first l ls s t e =
    let w = bound (judge l.number l.line s) (walk ls) t e in
    (w.0, judged l.number l.line s w.0 w.1, w.2)

no_more : (b : Bool) → not b ≡ true → b ≡ false
no_more true e = absurd cc
no_more false e = refl

settled_walk : (r : Result State FaultKind) → is_settled r ≡ true → (t : State) × (r ≡ Ok t) × (is_some t.nodes ≡ true) × (is_some t.txn ≡ false)
settled_walk (Ok t) e = let p = both (is_some t.nodes) (not (is_some t.txn)) e in (t, refl, p.0, no_more (is_some t.txn) p.1)
settled_walk (Err k) e = absurd cc

-- a script is walked to its end: a cluster is there, and no transaction is open
pub script_walk : (ls : List Numbered) → keeps_rules ls ≡ true → (t : State) × (walk ls start ≡ Ok t) × (is_some t.nodes ≡ true) × (is_some t.txn ≡ false)
script_walk ls e = settled_walk (walk ls start) (both (numbers_rise 0 ls) (is_settled (walk ls start)) e).1
