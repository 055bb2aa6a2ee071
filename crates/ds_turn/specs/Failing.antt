-- A batch fails where its turn at a key fails: the item that comes first, and of its keys the least.
use Rattle.std.specs.Prelude.{◌≡◌, ℕ, ◌<◌, ◌⊎◌, List, true}
use Rattle.ds_base.specs.Order.{key_le}
use Rattle.ds_base.specs.Ordered.{Ascends}
use Rattle.ds_kind.specs.declared.reply.Failure.{Failure}
use Rattle.ds_cell.specs.declared.verdict.ActFault.{ActFault}
use Rattle.ds_cell.specs.Ask.{Cells, key_of}
use Rattle.ds_cell.specs.Content.{Rises}
use Rattle.ds_rule.specs.Asking.{Asking, Fails, ask_all, failure_of}
use Rattle.ds_rule.specs.Pieces.{position_of}
use Rattle.ds_rule.specs.Turn.{FailsAt}

-- it fails at the key, at this position; at any other key at a later one, or at the same where that key is not below
pub record FailsFirst (q : Asking) (k : List ℕ) (cells : Cells) (p : ℕ) (f : ActFault) : Type 0 where
  pub here : FailsAt q k cells p f
  pub first : (j : List ℕ) (n : ℕ) (g : ActFault) → FailsAt q j cells n g → (p < n) ⊎ ((p ≡ n) × (key_le k j ≡ true))

-- so the batch asked at once fails
abbrev pub TurnsFail : Type 0
TurnsFail =
    (q : Asking) (k : List ℕ) (cells : Cells) (p : ℕ) (f : ActFault) → Rises position_of q.items → Ascends key_of cells → FailsFirst q k cells p f
    → ask_all q.head q.items cells ≡ Fails (failure_of p k f)

-- and where it failed, asked at once, it failed as the first of its turns
pub record FailedFirst (q : Asking) (cells : Cells) (failure : Failure) : Type 0 where
  pub key : List ℕ
  pub position : ℕ
  pub fault : ActFault
  pub first : FailsFirst q key cells position fault
  pub says : failure ≡ failure_of position key fault

abbrev pub FailsTurn : Type 0
FailsTurn =
    (q : Asking) (cells : Cells) (failure : Failure) → Rises position_of q.items → Ascends key_of cells → ask_all q.head q.items cells ≡ Fails failure
    → FailedFirst q cells failure
