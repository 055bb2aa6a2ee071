-- Objects of one member, and lists of two or three.
use Rattle.std.proofs.Common.{◌≡◌, List, [], ◌∷◌, length, Some, None, String, Global, string_bytes, slice_get, get_or, refl, arith}
use Rattle.serde_json.specs.declared.value.Value.{Value}
use Rattle.serde_json.specs.View.{view, items_view, members_view}
use Rattle.ds_fields.specs.Parts.{sole_member, pair_items, triple_items}

pub pair_other : (vs : List Value) → (length vs ≡ 2 → ⊥) → pair_items (items_view vs) ≡ None
pair_other [] h = refl
pair_other (a ∷ []) h = refl
pair_other (a ∷ b ∷ []) h = absurd (h refl)
pair_other (a ∷ b ∷ c ∷ vs) h = refl

pub pair_two : (vs : List Value) (a b : Value) → length vs ≡ 2 → a ≡ get_or vs 0 a → b ≡ get_or vs 1 b → Some (view a, view b) ≡ pair_items (items_view vs)
pair_two [] a b n h k = absurd (omega arith)
pair_two (x ∷ []) a b n h k = absurd (omega arith)
pair_two (x ∷ y ∷ []) a b n h k = rw (h, k) refl
pair_two (x ∷ y ∷ z ∷ vs) a b n h k = absurd (omega arith)

pub triple_other : (vs : List Value) → (length vs ≡ 3 → ⊥) → triple_items (items_view vs) ≡ None
triple_other [] h = refl
triple_other (a ∷ []) h = refl
triple_other (a ∷ b ∷ []) h = refl
triple_other (a ∷ b ∷ c ∷ []) h = absurd (h refl)
triple_other (a ∷ b ∷ c ∷ d ∷ vs) h = refl

pub triple_three : (vs : List Value) (a b c : Value) → length vs ≡ 3 → a ≡ get_or vs 0 a → b ≡ get_or vs 1 b → c ≡ get_or vs 2 c → Some (view a, view b, view c) ≡ triple_items (items_view vs)
triple_three [] a b c n h k l = absurd (omega arith)
triple_three (x ∷ []) a b c n h k l = absurd (omega arith)
triple_three (x ∷ y ∷ []) a b c n h k l = absurd (omega arith)
triple_three (x ∷ y ∷ z ∷ []) a b c n h k l = rw (h, k, l) refl
triple_three (x ∷ y ∷ z ∷ w ∷ vs) a b c n h k l = absurd (omega arith)

pub sole_other : (es : List (String Global × Value)) → (length es ≡ 1 → ⊥) → sole_member (members_view es) ≡ None
sole_other [] h = refl
sole_other (a ∷ []) h = absurd (h refl)
sole_other (a ∷ b ∷ es) h = refl

pub sole_one : (es : List (String Global × Value)) (k : String Global) (v : Value) → length es ≡ 1 → slice_get es 0 ≡ Some (k, v) → Some (string_bytes k, view v) ≡ sole_member (members_view es)
sole_one [] k v n h = absurd (omega arith)
sole_one (a ∷ []) k v n h = let e : a ≡ (k, v) = cc in rw e refl
sole_one (a ∷ b ∷ es) k v n h = absurd (omega arith)
