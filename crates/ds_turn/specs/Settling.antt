-- A key whose intent is settled, and a batch without a transaction, whose writes become versions at its stamp.
use Rattle.std.specs.Prelude.{◌≡◌, ℕ, ◌≤◌, List, ◌++◌, fold, Option, Some, None}
use Rattle.ds_base.specs.declared.value.Stamp.{Stamp}
use Rattle.ds_kind.specs.declared.batch.Item.{Item}
use Rattle.ds_cell.specs.declared.entry.At.{At}
use Rattle.ds_cell.specs.declared.entry.Version.{Version}
use Rattle.ds_cell.specs.declared.entry.Written.{Written}
use Rattle.ds_cell.specs.declared.verdict.Bit.{Bit}
use Rattle.ds_cell.specs.Change.{settled, after_foreign}
use Rattle.ds_cell.specs.Content.{Content, AllAbove, stamp_of}
use Rattle.ds_rule.specs.Turn.{TurnGives, after_items, turn_of}
use Rattle.ds_turn.specs.Course.{with_versions}
use Rattle.ds_turn.specs.KeyIs.{KeyIs}

-- a commit is at the stamp or below
abbrev pub CommitsBy : ℕ → Option Stamp → Type 0
CommitsBy s None = Unit {0}
CommitsBy s (Some t) = t.0 ≤ s

-- settling a transaction's intent on both sides, committed or dropped, keeps the key as it is to the store's
abbrev pub SettlesAlike : Type 0
SettlesAlike =
    (s txn : ℕ) (commit : Option Stamp) (c d : Content) → KeyIs s c d → CommitsBy s commit
    → KeyIs s (settled txn commit c) (settled txn commit d)

-- other clients' writes, one after another, in the world
abbrev pub after_foreigns : List Version → Content → Content
after_foreigns vs c = fold (λ d v. after_foreign v d) c vs

-- a piece without a transaction: its items, and the settling of what they wrote
abbrev pub piece_after : At → List Item → Content → Content
piece_after a is c = settled a.txn.0 (Some a.stamp) (after_items a is c)

-- a piece that acts between foreign writes answers what it answers without them, and leaves the same but for them
abbrev pub PieceAlone : Type 0
PieceAlone =
    (s : ℕ) (a : At) (before : List Version) (is : List Item) (later : List Version) (c d : Content) (bits : List (ℕ × Bit)) (ws : List Written)
    → KeyIs s c d → a.stamp.0 ≤ s → AllAbove stamp_of s before → AllAbove stamp_of s later
    → turn_of a is (after_foreigns before c) ≡ TurnGives bits ws
    → (turn_of a is d ≡ TurnGives bits ws) × KeyIs s (after_foreigns later (piece_after a is (after_foreigns before c))) (with_versions (before ++ later) (piece_after a is d))
