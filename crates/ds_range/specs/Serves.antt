-- What a range does to a piece.
use Rattle.std.specs.Prelude.{◌≡◌, ℕ, List, Option, Some, None}
use Rattle.ds_base.specs.declared.value.TxnNo.{TxnNo}
use Rattle.ds_kind.specs.declared.batch.Head.{Head}
use Rattle.ds_cell.specs.Ask.{Cells}
use Rattle.ds_cell.specs.Store.{WriteAt}
use Rattle.ds_rule.specs.declared.answer.Answer.{Answer}
use Rattle.ds_rule.specs.Asking.{Made, Gives, Fails, finished}
use Rattle.ds_rule.specs.Deliver.{answer_made}
use Rattle.ds_range.specs.Keeps.{settled_at}
use Rattle.ds_range.specs.declared.serve.Tried.{Tried}

-- the contents after a piece that made this of them
abbrev pub after_made : Head → Made → Cells → Cells
after_made h (Fails f) cells = cells
after_made h (Gives now ws rs) cells = finished h ws now

abbrev pub key_of_write : WriteAt → List ℕ
key_of_write w = w.key

abbrev pub finished_by : Head → Option TxnNo → List (List ℕ) → Cells → Cells
finished_by h (Some t) keys cells = cells
finished_by h None keys cells = settled_at 0 (Some h.at) keys cells

-- what was written at these keys is committed, unless the piece is of a transaction
abbrev pub finished_at : Head → List (List ℕ) → Cells → Cells
finished_at h keys cells = finished_by h h.txn keys cells

-- what became of the items, with the contents after the piece
abbrev pub Tries : Head → Made → Cells → Cells → Tried → Type 0
Tries h m old new (Tried.Replied rs) = (Answer.Done rs ≡ answer_made m) × (new ≡ after_made h m old)
Tries h m old new (Tried.Failed f) = m ≡ Fails f
