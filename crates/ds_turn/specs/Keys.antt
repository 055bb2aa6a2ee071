-- A batch asked of all contents at once, told by its keys.
use Rattle.std.specs.Prelude.{◌≡◌, ℕ, List, ◌∷◌, ◌++◌, true}
use Rattle.ds_base.specs.Order.{key_lt}
use Rattle.ds_base.specs.Ordered.{Ascends}
use Rattle.ds_kind.specs.declared.batch.Head.{Head}
use Rattle.ds_kind.specs.declared.batch.Item.{Item}
use Rattle.ds_kind.specs.declared.reply.Failure.{Failure}
use Rattle.ds_kind.specs.declared.reply.Reply.{Reply}
use Rattle.ds_cell.specs.declared.verdict.ActFault.{ActFault}
use Rattle.ds_cell.specs.declared.verdict.Verdict.TheVariants.{Refuse}
use Rattle.ds_cell.specs.Ask.{Cells, key_of, content_at}
use Rattle.ds_cell.specs.Store.{WriteAt}
use Rattle.ds_rule.specs.Asking.{Gives, Fails, ask_all, at_of, failure_of}
use Rattle.ds_rule.specs.Turn.{IsNoRefusal, speaks_of, items_at, verdict, after_items}
use Rattle.ds_turn.specs.Course.{NoneRefused}

-- a batch that is not refused is refused at no key, and what it leaves at each is what its items there leave in their order
abbrev pub GivesAtKeys : Type 0
GivesAtKeys =
    (h : Head) (items : List Item) (cells out : Cells) (ws : List WriteAt) (rs : List Reply) → Ascends key_of cells → ask_all h items cells ≡ Gives out ws rs
    → Ascends key_of out
    × ((k : List ℕ) → NoneRefused (at_of h 0) (items_at k items) (content_at k cells) × (content_at k out ≡ after_items (at_of h 0) (items_at k items) (content_at k cells)))

-- and a batch that is refused at no key is not refused
abbrev pub KeysGive : Type 0
KeysGive =
    (h : Head) (items : List Item) (cells : Cells) → Ascends key_of cells → ((k : List ℕ) → NoneRefused (at_of h 0) (items_at k items) (content_at k cells))
    → (out : Cells) × (ws : List WriteAt) × (rs : List Reply) × (ask_all h items cells ≡ Gives out ws rs)

-- the batch fails as its first refused item does, at the least key that refuses it
abbrev pub FirstFails : Type 0
FirstFails =
    (h : Head) (xs : List Item) (i : Item) (ys : List Item) (cells : Cells) (k : List ℕ) (f : ActFault) → Ascends key_of cells
    → ((q : List ℕ) → NoneRefused (at_of h 0) (items_at q xs) (content_at q cells))
    → speaks_of k i ≡ true → verdict (at_of h 0) i (after_items (at_of h 0) (items_at k xs) (content_at k cells)) ≡ Refuse f
    → ((q : List ℕ) → key_lt q k ≡ true → speaks_of q i ≡ true → IsNoRefusal (verdict (at_of h 0) i (after_items (at_of h 0) (items_at q xs) (content_at q cells))))
    → ask_all h (xs ++ i ∷ ys) cells ≡ Fails (failure_of i.pos k f)

-- the place of a failure: an item that is refused at a key, where those before it are refused at none
pub record FailsSomewhere (h : Head) (items : List Item) (cells : Cells) (failure : Failure) : Type 0 where
  pub front : List Item
  pub item : Item
  pub back : List Item
  pub is : items ≡ front ++ item ∷ back
  pub key : List ℕ
  pub fault : ActFault
  pub before : (q : List ℕ) → NoneRefused (at_of h 0) (items_at q front) (content_at q cells)
  pub here : speaks_of key item ≡ true
  pub refused : verdict (at_of h 0) item (after_items (at_of h 0) (items_at key front) (content_at key cells)) ≡ Refuse fault
  pub below : (q : List ℕ) → key_lt q key ≡ true → speaks_of q item ≡ true → IsNoRefusal (verdict (at_of h 0) item (after_items (at_of h 0) (items_at q front) (content_at q cells)))
  pub says : failure ≡ failure_of item.pos key fault

abbrev pub FailsAtKey : Type 0
FailsAtKey =
    (h : Head) (items : List Item) (cells : Cells) (f : Failure) → Ascends key_of cells → ask_all h items cells ≡ Fails f → FailsSomewhere h items cells f
