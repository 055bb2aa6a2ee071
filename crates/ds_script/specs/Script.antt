-- A script: its lines, each read in its turn.
use Rattle.std.specs.Prelude.{ℕ, ◌+◌, List, [], ◌∷◌, length, nat_lt, if◌then◌else◌, Option, Some, None, Result, Ok, Err}
use Rattle.ds_base.specs.declared.key.Key.{Key}
use Rattle.ds_fields.specs.declared.fault.FaultKind.{FaultKind}
use Rattle.ds_fields.specs.declared.fault.FaultKind.TheVariants.{TooLong, Order, TxnOpen}
use Rattle.ds_fields.specs.Fault.{◌>>=◌}
use Rattle.ds_script.specs.declared.line.Line.{Line}
use Rattle.ds_script.specs.declared.line.Numbered.{Numbered}
use Rattle.ds_script.specs.declared.state.OpenTxn.{OpenTxn}
use Rattle.ds_script.specs.declared.state.State.{State}
use Rattle.ds_script.specs.Lines.{line_under}
use Rattle.ds_script.specs.Rules.{start, top, turn}
use Rattle.ds_script.specs.Split.{lines_of, is_blank, says_nothing}

-- ---- faults

-- the number of the line at fault, 0 for the script, and what is wrong
pub record Fault : Type 0 where
  pub line : ℕ
  pub kind : FaultKind

abbrev pub fault : {A : Type 0} → ℕ → FaultKind → Result A Fault
fault n k = Err (record { line = n; kind = k })

abbrev pub at : {A : Type 0} → ℕ → Result A FaultKind → Result A Fault
at n (Ok x) = Ok x
at n (Err k) = fault n k

abbrev pub and_then : {A B : Type 0} → Result A Fault → (A → Result B Fault) → Result B Fault
and_then (Ok x) f = f x
and_then (Err e) f = Err e

-- ---- the lines in turn

-- the key of an end of the transaction: the anchor of the open one
abbrev pub anchor : Option OpenTxn → Key
anchor None = []
anchor (Some o) = o.anchor

-- line n: what it says, and what is known after it
abbrev pub next : ℕ → List ℕ → State → Result (Line × State) FaultKind
next n bytes s = line_under (anchor s.txn) (top s.nodes) bytes >>= λ line. turn n line s >>= λ t. Ok (line, t)

-- a script begins with a cluster, and leaves no transaction open
abbrev pub ended : Option ℕ → Option OpenTxn → Result (Unit {0}) Fault
ended None txn = fault 1 Order
ended (Some n) None = Ok tt
ended (Some n) (Some o) = fault o.line TxnOpen

abbrev pub numbered : ℕ → Line → Numbered
numbered n line = record { number = n; line = line }

-- the lines from number n on; the first at fault counts
abbrev pub read_from : ℕ → State → List (List ℕ) → Result (List Numbered) Fault
read_from n s [] = and_then (ended s.nodes s.txn) (λ _. Ok [])
read_from n s (l ∷ ls) =
    if nat_lt 20000 n then fault n TooLong
    else (if is_blank l then read_from (n + 1) s ls
    else and_then (at n (next n l s)) (λ p. and_then (read_from (n + 1) p.1 ls) (λ rest. Ok (numbered n p.0 ∷ rest))))

-- how many bytes a script may have: 4 MiB
abbrev pub most_bytes : ℕ
most_bytes = 4194304

-- the script that the bytes are, or its first fault
unfoldable pub script_of : List ℕ → Result (List Numbered) Fault
script_of bytes =
    if nat_lt most_bytes (length bytes) then fault 0 TooLong
    else (if says_nothing bytes then fault 1 Order
    else read_from 1 start (lines_of bytes))
