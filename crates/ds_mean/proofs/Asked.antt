-- A batch as it is asked: its items' positions and numbers, and who asks.
use Rattle.std.proofs.Common.{◌≡◌, ℕ, ◌+◌, ◌<◌, Bool, true, false, ◌||◌, List, [], ◌∷◌, Option, Some, None, refl, ap, ◌∙◌, subst, arith}
use Rattle.std.specs.List.{list_any}
use Rattle.std.specs.Option.{option_map}
use Rattle.ds_base.specs.declared.value.Seq.{Seq}
use Rattle.ds_base.specs.declared.value.Stamp.{Stamp}
use Rattle.ds_kind.specs.Asks.{is_end}
use Rattle.ds_kind.specs.Numbers.{next_number, numbers_from}
use Rattle.ds_kind.specs.Parts.{items_from, requests_of}
use Rattle.ds_kind.specs.declared.batch.Batch.{Batch}
use Rattle.ds_kind.specs.declared.batch.Head.{Head}
use Rattle.ds_kind.specs.declared.batch.Item.{Item}
use Rattle.ds_kind.specs.declared.request.Request.{Request}
use Rattle.ds_cell.specs.Content.{AllAbove, Rises}
use Rattle.ds_cell.specs.Store.{StoreTxn}
use Rattle.ds_rule.specs.Asking.{Asking, asking_by, head_of, numbered}
use Rattle.ds_rule.specs.Pieces.{Each, position_of}
use Rattle.ds_turn.specs.Partway.{NumbersInOrder}
use Rattle.ds_turn.proofs.Parts.{rise-from}
use Rattle.ds_mean.proofs.Turning.{IsOwn}

-- ---- items by rising position

above-from : (n m : ℕ) (rs : List Request) (ss : List Seq) → n < m → AllAbove position_of n (items_from m rs ss)
above-from n m [] ss low = tt
above-from n m (r ∷ rs) [] low = tt
above-from n m (r ∷ rs) (s ∷ ss) low = (low, above-from n (m + 1) rs ss (omega (arith, low)))

rises-from : (n : ℕ) (rs : List Request) (ss : List Seq) → Rises position_of (items_from n rs ss)
rises-from n [] ss = tt
rises-from n (r ∷ rs) [] = tt
rises-from n (r ∷ rs) (s ∷ ss) = (above-from n (n + 1) rs ss (omega arith), rises-from (n + 1) rs ss)

same-requests : (n last : ℕ) (rs : List Request) → requests_of (items_from n rs (numbers_from last rs)) ≡ rs
same-requests n last [] = refl
same-requests n last (r ∷ rs) = ap (λ zs. r ∷ zs) (same-requests (n + 1) (next_number last r) rs)

none-of : (js : List Item) → list_any is_end (requests_of js) ≡ false → Each (λ j. is_end j.request ≡ false) js
none-of [] h = tt
none-of (j ∷ js) h = let both = neither (is_end j.request) (list_any is_end (requests_of js)) h in (both.0, none-of js both.1)
  where
    neither : (a b : Bool) → (a || b) ≡ false → (a ≡ false) × (b ≡ false)
    neither true b h = cc
    neither false b h = (refl, h)

-- ---- who asks

abbrev pub AsksFor : Option Stamp → Option StoreTxn → Asking → Type 0
AsksFor (Some s) o q = q.head.txn ≡ None
AsksFor None o q = IsOwn q o

-- at its own stamp, or at the transaction's
abbrev pub StampFor : Option Stamp → Option StoreTxn → Asking → Type 0
StampFor (Some s) o q = q.head.at ≡ s
StampFor None None q = ⊥
StampFor None (Some t) q = q.head.at.0 ≡ t.asker.stamp

-- the batch's requests under their positions and numbers, with its limit
pub record IsNumbered (at : Option Stamp) (o : Option StoreTxn) (b : Batch) (q : Asking) : Type 0 where
  pub requests : requests_of q.items ≡ b.requests
  pub rises : Rises position_of q.items
  pub numbers : NumbersInOrder q.items
  pub left : q.head.left ≡ b.limit
  pub who : AsksFor at o q
  pub stamp : StampFor at o q

so-numbered : (at : Option Stamp) (o : Option StoreTxn) (b : Batch) (h : Head) (last : ℕ) → h.left ≡ b.limit → AsksFor at o (numbered h last b) → StampFor at o (numbered h last b) → IsNumbered at o b (numbered h last b)
so-numbered at o b h last left who stamp = record {
  requests = same-requests 0 last b.requests;
  rises = rises-from 0 b.requests (numbers_from last b.requests);
  numbers = rise-from last 0 b.requests;
  left = left;
  who = who;
  stamp = stamp;
}

given-some : (x y : Asking) → Some x ≡ Some y → x ≡ y
given-some x y h = cc

pub is-numbered : (at : Option Stamp) (o : Option StoreTxn) (b : Batch) (q : Asking) → asking_by at (option_map (λ t. t.asker) o) b ≡ Some q → IsNumbered at o b q
is-numbered (Some s) o b q h = subst (IsNumbered (Some s) o b) (given-some _ q h) (so-numbered (Some s) o b (record { at = s; txn = None; left = b.limit; epoch = 0 }) 0 refl refl refl)
is-numbered None None b q h = cc
is-numbered None (Some t) b q h = subst (IsNumbered None (Some t) b) (given-some _ q h) (so-numbered None (Some t) b (head_of t.asker b.limit) t.asker.last refl (record { 0 = t.asker.number }, refl, (refl, refl)) refl)

pub endless-items : (at : Option Stamp) (o : Option StoreTxn) (b : Batch) (q : Asking) → IsNumbered at o b q → list_any is_end b.requests ≡ false → Each (λ i. is_end i.request ≡ false) q.items
endless-items at o b q n none = none-of q.items (ap (list_any is_end) n.requests ∙ none)
