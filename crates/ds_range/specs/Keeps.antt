-- What a range keeps of its contents, so that a piece can be taken back.
use Rattle.std.specs.Prelude.{◌≡◌, ℕ, List, [], ◌∷◌, map, Option, Some, None, refl}
use Rattle.std.specs.Map.{remove_entry, set_value}
use Rattle.std.specs.BTreeMap.{is_at}
use Rattle.ds_base.specs.Order.{key_cmp}
use Rattle.ds_base.specs.declared.value.Stamp.{Stamp}
use Rattle.ds_cell.specs.Content.{no_content}
use Rattle.ds_cell.specs.Change.{settled}
use Rattle.ds_cell.specs.Taken.{given_back}
use Rattle.ds_cell.specs.declared.taken.Taken.{Taken}
use Rattle.ds_cell.specs.Ask.{Cells, content_at}
use Rattle.ds_cell.specs.Store.{put_cell}

-- a key with what a change took there, or that nothing stood there
abbrev pub Kept : Type 0
Kept = List ℕ × Option Taken

abbrev pub put_back : List ℕ → Option Taken → Cells → Cells
put_back k None cells = remove_entry (is_at (key_cmp k)) cells
put_back k (Some t) cells = set_value (is_at (key_cmp k)) cells (given_back t (content_at k cells))

-- the contents with all that was kept put back, the last kept first
abbrev pub restored : List Kept → Cells → Cells
restored [] cells = cells
restored (p ∷ ps) cells = put_back p.0 p.1 (restored ps cells)

-- the keys, in order
abbrev pub kept_keys : List Kept → List (List ℕ)
kept_keys kept = map (λ p. p.0) kept

-- the contents after the transaction's intents at these keys are settled, one after another
abbrev pub settled_at : ℕ → Option Stamp → List (List ℕ) → Cells → Cells
settled_at txn commit [] cells = cells
settled_at txn commit (k ∷ ks) cells = settled_at txn commit ks (put_cell k (settled txn commit) cells)

-- a key that was begun goes, and one that stood there stays
what_was_begun_goes : restored ((97 ∷ [], None) ∷ []) ((97 ∷ [], no_content) ∷ (98 ∷ [], no_content) ∷ []) ≡ (98 ∷ [], no_content) ∷ []
what_was_begun_goes = refl
