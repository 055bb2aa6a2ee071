-- The ranges tile the keys, so that each key lies in one.
use Rattle.std.proofs.Common.{◌≡◌, ℕ, ◌==◌, Bool, true, false, cond, not, ◌&&◌, ◌||◌, List, [], ◌∷◌, ◌++◌, None, refl, sym, ap, ◌∙◌, subst, map, take, reverse}
use Rattle.ds_desc.specs.declared.desc.Info.{Info}
use Rattle.std.specs.List.{list_any}
use Rattle.ds_base.specs.Order.{key_lt, key_le, bound, holds, IsKey}
use Rattle.ds_base.specs.declared.value.Dir.{Dir}
use Rattle.ds_base.specs.declared.value.Dir.TheVariants.{Forward, Reverse}
use Rattle.std.proofs.lemmas.List.{reverse-append}
use Rattle.ds_base.proofs.KeyOrder.{key_le-not_lt}
use Rattle.ds_base.proofs.SmallFacts.{not_greater}
use Rattle.ds_base.proofs.OrderedFacts.{le_of_not_lt, not_lt_of_le, not_le_of_lt}
use Rattle.ds_rule.proofs.Routes.{least}
use Rattle.ds_desc.specs.Contains.{contains, lies_ahead, first_contains}
use Rattle.ds_rule.specs.Keeping.{Keeps}
use Rattle.ds_rule.specs.World.{World, Range, start_of, end_of, Tiles, in_order, from_first, rows_at}
use Rattle.ds_ranges.specs.Layout.{Layout, laid}
use Rattle.ds_ranges.specs.Sound.{bare}

-- going forward, some range contains a key below the bound
some_forward : (s k : List ℕ) (rs : List Range) → Tiles s rs → key_le s k ≡ true → key_lt k bound ≡ true → list_any (λ r. contains Forward k r.info.desc.span) rs ≡ true
some_forward s k [] t low high =
    let no_more : key_lt k bound ≡ false = subst (λ z. key_lt k z ≡ false) t (not_lt_of_le s k low) in cc
some_forward s k (r ∷ rs) t low high =
    elim (key_lt k (end_of r)) as (λ b. key_lt k (end_of r) ≡ b → (holds (start_of r) (end_of r) k || list_any (λ r. contains Forward k r.info.desc.span) rs) ≡ true) [
      | true ↦ λ e. ap (λ b. b || list_any (λ r. contains Forward k r.info.desc.span) rs) (both (key_le (start_of r) k) (key_lt k (end_of r)) (subst (λ z. key_le z k ≡ true) (sym t.0.begins) low) e)
      | false ↦ λ e. later (holds (start_of r) (end_of r) k) _ (some_forward (end_of r) k rs t.1 (le_of_not_lt k (end_of r) e) high)
    ] refl
  where
    both : (a b : Bool) → a ≡ true → b ≡ true → (a && b) ≡ true
    both a b p q = ap (λ t. t && b) p ∙ q

    later : (a b : Bool) → b ≡ true → (a || b) ≡ true
    later true b h = refl
    later false b h = h

-- in reverse, some range contains a key above the least
some_reverse : (s k : List ℕ) (rs : List Range) → Tiles s rs → key_lt s k ≡ true → key_le k bound ≡ true → list_any (λ r. contains Reverse k r.info.desc.span) rs ≡ true
some_reverse s k [] t low high =
    let no_more : key_le k bound ≡ false = subst (λ z. key_le k z ≡ false) t (not_le_of_lt s k low) in cc
some_reverse s k (r ∷ rs) t low high =
    elim (key_le k (end_of r)) as (λ b. key_le k (end_of r) ≡ b → ((key_lt (start_of r) k && b) || list_any (λ r. contains Reverse k r.info.desc.span) rs) ≡ true) [
      | true ↦ λ e. ap (λ b. (b && true) || list_any (λ r. contains Reverse k r.info.desc.span) rs) (subst (λ z. key_lt z k ≡ true) (sym t.0.begins) low)
      | false ↦ λ e. later (key_lt (start_of r) k && false) _ (some_reverse (end_of r) k rs t.1 (above k (end_of r) e) high)
    ] refl
  where
    later : (a b : Bool) → b ≡ true → (a || b) ≡ true
    later true b h = refl
    later false b h = h

    above : (k e : List ℕ) → key_le k e ≡ false → key_lt e k ≡ true
    above k e h = turned (key_lt e k) (sym (key_le_is k e) ∙ h)
      where
        key_le_is : (k e : List ℕ) → key_le k e ≡ not (key_lt e k)
        key_le_is k e = key_le-not_lt k e

        turned : (b : Bool) → not b ≡ false → b ≡ true
        turned true h = refl
        turned false h = sym h

any_append : (p : Range → Bool) (xs ys : List Range) → list_any p (xs ++ ys) ≡ (list_any p xs || list_any p ys)
any_append p [] ys = refl
any_append p (x ∷ xs) ys = ap (λ t. p x || t) (any_append p xs ys) ∙ sym (or_assoc (p x) (list_any p xs) (list_any p ys))
  where
    or_assoc : (a b c : Bool) → ((a || b) || c) ≡ (a || (b || c))
    or_assoc true b c = refl
    or_assoc false b c = refl

or_turned : (a b : Bool) → (a || b) ≡ (b || a)
or_turned true true = refl
or_turned true false = refl
or_turned false true = refl
or_turned false false = refl

or_false : (a : Bool) → (a || false) ≡ a
or_false true = refl
or_false false = refl

any_reverse : (p : Range → Bool) (xs : List Range) → list_any p (reverse xs) ≡ list_any p xs
any_reverse p [] = refl
any_reverse p (x ∷ xs) =
    ap (list_any p) (reverse-append (x ∷ []) xs) ∙ any_append p (reverse xs) (x ∷ [])
    ∙ ap (λ t. t || (p x || false)) (any_reverse p xs) ∙ ap (λ t. list_any p xs || t) (or_false (p x)) ∙ or_turned (list_any p xs) (p x)

some_in_order : (d : Dir) (p : Range → Bool) (xs : List Range) → list_any p xs ≡ true → list_any p (in_order d xs) ≡ true
some_in_order Forward p xs h = h
some_in_order Reverse p xs h = any_reverse p xs ∙ h

first_of_some : (d : Dir) (k : List ℕ) (xs : List Range) → list_any (λ r. contains d k r.info.desc.span) xs ≡ true → first_contains d k (map (λ r. r.info) (take 9 (from_first (λ r. contains d k r.info.desc.span) xs))) ≡ true
first_of_some d k [] h = h
first_of_some d k (x ∷ xs) h =
    elim (contains d k x.info.desc.span) as (λ t. contains d k x.info.desc.span ≡ t → (t || list_any (λ r. contains d k r.info.desc.span) xs) ≡ true → first_contains d k (map (λ r. r.info) (take 9 (cond t (x ∷ xs) (from_first (λ r. contains d k r.info.desc.span) xs)))) ≡ true) [
      | true ↦ λ e g. e
      | false ↦ λ e g. first_of_some d k xs g
    ] refl h

-- a lookup's first row contains the key
pub first_row : (d : Dir) (k : List ℕ) (rs : List Range) → Tiles [] rs → IsKey k → lies_ahead d k ≡ true → first_contains d k (map (λ r. r.info) (take 9 (from_first (λ r. contains d k r.info.desc.span) (in_order d rs)))) ≡ true
first_row Forward k rs t key h = first_of_some Forward k rs (some_forward [] k rs t (least k) h)
first_row Reverse k rs t key h =
    first_of_some Reverse k (reverse rs) (some_in_order Reverse (λ r. contains Reverse k r.info.desc.span) rs (some_reverse [] k rs t h (not_greater _ key.low)))

-- and so it is of the rows that a lookup is answered
pub first-looked : (d : Dir) (k : List ℕ) (l : Layout) (infos : List Info) → Keeps (laid l bare) → IsKey k → lies_ahead d k ≡ true → ((w : World) → infos ≡ rows_at d k (laid l w) None) → first_contains d k infos ≡ true
first-looked d k l infos keeps key h are = subst (λ z. first_contains d k z ≡ true) (sym (are bare)) (first_row d k l.ranges keeps.tiled key h)
