-- A transaction as its client knows it.
use Rattle.std.specs.Prelude.{◌≤◌, Option, Some, None}
use Rattle.std.specs.Option.{option_map}
use Rattle.ds_base.specs.declared.value.Seq.{Seq}
use Rattle.ds_base.specs.declared.value.Stamp.{Stamp}
use Rattle.ds_cell.specs.Store.{Asker}
use Rattle.ds_send.specs.declared.txn.Txn.{Txn}

abbrev pub asker_of : Txn → Asker
asker_of t = record { number = t.number.0; stamp = t.stamp.0; epoch = t.epoch; last = t.last.0 }

abbrev pub asker_in : Option Txn → Option Asker
asker_in t = option_map asker_of t

-- the last number given before the requests of a batch: none is given with a stamp
abbrev pub last_in : Option Stamp → Option Txn → Seq
last_in (Some s) t = record { 0 = 0 }
last_in None (Some t) = t.last
last_in None None = record { 0 = 0 }

-- a batch of the transaction has one, which has numbers left to give
abbrev pub IsOpenFor : Option Stamp → Option Asker → Type 0
IsOpenFor (Some s) t = Unit {0}
IsOpenFor None None = ⊥
IsOpenFor None (Some t) = t.last ≤ 4000000000

not_without_one : IsOpenFor None None → ⊥
not_without_one h = h
