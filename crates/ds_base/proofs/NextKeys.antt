-- A key below another, and the key after it.
use Rattle.std.proofs.Common.{◌≡◌, ℕ, true, false, not, List, sym, ap, ◌∙◌}
use Rattle.ds_base.specs.Order.{key_cmp, key_lt, key_le, after}
use Rattle.ds_base.proofs.KeyOrder.{after-above, below-after, key_le_lt-trans, not-key_le}
use Rattle.ds_base.proofs.OrderedFacts.{le_of_lt, le_trans}
use Rattle.ds_base.proofs.SmallFacts.{not_greater}

pub lt_of_not_le : (a b : List ℕ) → key_le a b ≡ false → key_lt b a ≡ true
lt_of_not_le a b h = sym (not-key_le a b) ∙ ap not h

pub next_le : (a b : List ℕ) → key_lt a b ≡ true → key_le (after a) b ≡ true
next_le a b h = not_greater (key_cmp (after a) b) (after-above a b ∙ ap not h)

pub after_le : (a b : List ℕ) → key_le a b ≡ true → key_le (after a) (after b) ≡ true
after_le a b h = next_le a (after b) (key_le_lt-trans a b (after b) h (below-after b))

pub le_after : (a b : List ℕ) → key_le a b ≡ true → key_le a (after b) ≡ true
le_after a b h = le_trans a b (after b) h (le_of_lt b (after b) (below-after b))
