-- Scripts line by line: what was read so far, joined with what is still read.
use Rattle.std.proofs.Common.{◌≡◌, ℕ, ◌+◌, ◌<◌, ◌≤◌, append_assoc, List, [], ◌∷◌, ◌++◌, true, false, not, ◌&&◌, nat_lt, Option, Some, None, is_some, Result, Ok, Err, refl, ap, ◌∙◌, arith}
use Rattle.std.proofs.lemmas.Bool.Decides.{nat_tests}
use Rattle.ds_fields.specs.declared.fault.FaultKind.{FaultKind}
use Rattle.ds_fields.specs.Fault.{◌>>=◌}
use Rattle.ds_script.specs.declared.line.Line.{Line}
use Rattle.ds_script.specs.declared.line.Numbered.{Numbered}
use Rattle.ds_script.specs.declared.state.OpenTxn.{OpenTxn}
use Rattle.ds_script.specs.declared.state.State.{State}
use Rattle.ds_script.specs.Rules.{judge, walk, numbers_rise}
use Rattle.ds_script.specs.Script.{Fault, and_then, ended, at, next, numbered, read_from}
use Rattle.ds_script.specs.Split.{is_blank}

abbrev pub joined : List Numbered → Result (List Numbered) Fault → Result (List Numbered) Fault
joined front rest = and_then rest (λ r. Ok (front ++ r))

-- the number of the last line, or what stands before the first
abbrev pub last_number : ℕ → List Numbered → ℕ
last_number last [] = last
last_number last (l ∷ ls) = last_number l.number ls

-- one more line after a walk
walk_step : (r : Result State FaultKind) (ls : List Numbered) (x : Numbered) (t u : State)
    → (r >>= walk ls) ≡ Ok t → judge x.number x.line t ≡ Ok u
    → ((v : State) → walk ls v ≡ Ok t → walk (ls ++ x ∷ []) v ≡ Ok u)
    → (r >>= walk (ls ++ x ∷ [])) ≡ Ok u
walk_step (Ok v) ls x t u e h ih = ih v e
walk_step (Err k) ls x t u e h ih = absurd cc

pub walk_push : (ls : List Numbered) (x : Numbered) (s t u : State) → walk ls s ≡ Ok t → judge x.number x.line t ≡ Ok u → walk (ls ++ x ∷ []) s ≡ Ok u
walk_push [] x s t u e h = let k : s ≡ t = cc in rw (k, h) refl
walk_push (l ∷ ls) x s t u e h = walk_step (judge l.number l.line s) ls x t u e h (λ v e. walk_push ls x v t u e h)

pub rise_push : (last : ℕ) (ls : List Numbered) (x : Numbered) → numbers_rise last ls ≡ true → last_number last ls < x.number → x.number ≤ 20000 → numbers_rise last (ls ++ x ∷ []) ≡ true
rise_push last [] x e h k = grind (arith, nat_tests)
rise_push last (l ∷ ls) x e h k = grind (arith, nat_tests, rise_push l.number ls x)

pub last_push : (last : ℕ) (ls : List Numbered) (x : Numbered) → last_number last (ls ++ x ∷ []) ≡ x.number
last_push last [] x = refl
last_push last (l ∷ ls) x = last_push l.number ls x

pub ended_settled : (nodes : Option ℕ) (txn : Option OpenTxn) → ended nodes txn ≡ Ok tt → (is_some nodes && not (is_some txn)) ≡ true
ended_settled None txn e = absurd cc
ended_settled (Some n) None e = refl
ended_settled (Some n) (Some o) e = absurd cc

push_rest : (front : List Numbered) (x : Numbered) (r : Result (List Numbered) Fault) → joined (front ++ x ∷ []) r ≡ joined front (and_then r (λ rest. Ok (x ∷ rest)))
push_rest front x (Ok rest) = ap Ok (append_assoc front (x ∷ []) rest)
push_rest front x (Err e) = refl

-- a line that says something, and a blank one
pub read_some : (front : List Numbered) (n : ℕ) (s t : State) (l : List ℕ) (ls : List (List ℕ)) (line : Line) (whole : Result (List Numbered) Fault)
    → n ≤ 20000 → is_blank l ≡ false → at n (next n l s) ≡ Ok (line, t)
    → joined front (read_from n s (l ∷ ls)) ≡ whole
    → joined (front ++ numbered n line ∷ []) (read_from (n + 1) t ls) ≡ whole
read_some front n s t l ls line whole few some e h =
    let small : nat_lt 20000 n ≡ false = grind (arith, nat_tests) in
    push_rest front (numbered n line) (read_from (n + 1) t ls) ∙ (rw (small, some, e) at h)

pub read_blank : (front : List Numbered) (n : ℕ) (s : State) (l : List ℕ) (ls : List (List ℕ)) (whole : Result (List Numbered) Fault)
    → n ≤ 20000 → is_blank l ≡ true
    → joined front (read_from n s (l ∷ ls)) ≡ whole
    → joined front (read_from (n + 1) s ls) ≡ whole
read_blank front n s l ls whole few some h =
    let small : nat_lt 20000 n ≡ false = grind (arith, nat_tests) in
    rw (small, some) at h
