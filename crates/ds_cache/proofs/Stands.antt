-- The entry with the same descriptor, and those that outdate a descriptor.
use Rattle.std.proofs.Common.{◌≡◌, ℕ, true, false, ◌&&◌, List, [], ◌∷◌, Some, None, refl, sym, ap, ◌∙◌, subst, nat_eq, nat_lt, true≢false}
use Rattle.std.specs.Cmp.{nat_eq_equiv}
use Rattle.std.specs.Cmp.Lexicographic.{pointwise}
use Rattle.std.specs.List.{IsDistinct}
use Rattle.std.specs.Map.{lookup, keys_of, set_value}
use Rattle.lru.specs.LruCache.{promoted}
use Rattle.std.specs.BTreeMap.{is_at}
use Rattle.std.proofs.lemmas.Map.Views.{exact_unsigned_eq}
use Rattle.ds_base.specs.Order.{key_cmp}
use Rattle.ds_base.proofs.SmallFacts.{and_first, and_second, some_none, some_same}
use Rattle.ds_desc.specs.declared.desc.Info.{Info}
use Rattle.ds_desc.specs.declared.desc.Lease.{Lease}
use Rattle.ds_desc.specs.declared.desc.RangeDesc.{RangeDesc}
use Rattle.ds_cache.specs.Entries.{Entry, at_serial, without, IsIndex}
use Rattle.ds_desc.specs.Descs.{same_desc}
use Rattle.ds_cache.specs.Insert.{standing, later, with_lease}
use Rattle.ds_cache.specs.Placing.{IsStanding}
use Rattle.ds_cache.proofs.Serials.{is_false, entry_at, find_none, find_only}

pub same_bytes : (a b : List ℕ) → pointwise nat_eq a b ≡ true → a ≡ b
same_bytes [] [] h = refl
same_bytes [] (y ∷ ys) h = cc
same_bytes (x ∷ xs) [] h = cc
same_bytes (x ∷ xs) (y ∷ ys) h = λ i. exact_unsigned_eq x y (and_first _ _ h) i ∷ same_bytes xs ys (and_second (nat_eq x y) _ h) i

same_start : (a b : RangeDesc) → same_desc a b ≡ true → a.span.start ≡ b.span.start
same_start a b h = same_bytes _ _ (and_second (nat_eq a.id b.id && nat_eq a.generation b.generation) _ (and_first _ _ (and_first _ _ h)))

-- ---- the same descriptor

pub stands : (i : Info) (es : List Entry) (m : List (List ℕ × ℕ)) (s : ℕ) (e : Info) → IsDistinct nat_eq (keys_of es) → IsIndex es m → lookup (is_at (key_cmp i.desc.span.start)) m ≡ Some s → at_serial s es ≡ Some e → same_desc i.desc e.desc ≡ true → IsStanding i es s
stands i es m s e d ix at there same = (
  e,
  there,
  find_only (λ x. same_desc i.desc x.1.desc) es d s e there same (λ t j p u.
      some_same t s (sym (ix.each t j p) ∙ ap (λ k. lookup (is_at (key_cmp k)) m) (sym (same_start i.desc j.desc u)) ∙ at)),
)

pub stands_free : (i : Info) (es : List Entry) (m : List (List ℕ × ℕ)) → IsDistinct nat_eq (keys_of es) → IsIndex es m → lookup (is_at (key_cmp i.desc.span.start)) m ≡ None → standing i es ≡ None
stands_free i es m d ix at = find_none (λ x. same_desc i.desc x.1.desc) es d (λ t j p. is_false _ (λ u.
    some_none t (sym (ix.each t j p) ∙ ap (λ k. lookup (is_at (key_cmp k)) m) (sym (same_start i.desc j.desc u)) ∙ at)))

pub stands_other : (i : Info) (es : List Entry) (m : List (List ℕ × ℕ)) (s : ℕ) (e : Info) → IsDistinct nat_eq (keys_of es) → IsIndex es m → lookup (is_at (key_cmp i.desc.span.start)) m ≡ Some s → at_serial s es ≡ Some e → same_desc i.desc e.desc ≡ false → standing i es ≡ None
stands_other i es m s e d ix at there other = find_none (λ x. same_desc i.desc x.1.desc) es d (λ t j p. is_false _ (λ u.
    let ts : t ≡ s = some_same t s (sym (ix.each t j p) ∙ ap (λ k. lookup (is_at (key_cmp k)) m) (sym (same_start i.desc j.desc u)) ∙ at) in
    let je : j ≡ e = some_same j e (sym p ∙ ap (λ x. at_serial x es) ts ∙ there) in
    true≢false (sym u ∙ ap (λ x. same_desc i.desc x.desc) je ∙ other)))

-- ---- a lease written

renewed_entries : (s : ℕ) (e w : Info) (es : List Entry) → at_serial s es ≡ Some e → set_value (nat_eq s) (promoted (nat_eq s) es) w ≡ (s, w) ∷ without s es
renewed_entries s e w es h = rw (entry_at s e es h) (rw (nat_eq_equiv.refl s) refl)

pub renew_then : (s : ℕ) (a e : Info) (l : Lease) (es : List Entry) → at_serial s es ≡ Some a → at_serial s es ≡ Some e → nat_lt a.lease.number l.number ≡ true → set_value (nat_eq s) (promoted (nat_eq s) es) (with_lease l a) ≡ (s, with_lease (later e.lease l) e) ∷ without s es
renew_then s a e l es p q low =
    let same : a ≡ e = some_same a e (sym p ∙ q) in
    renewed_entries s a (with_lease l a) es p ∙ subst (λ x. (s, with_lease l a) ∷ without s es ≡ (s, with_lease (later x.lease l) x) ∷ without s es) same (rw low refl)

pub renew_else : (s : ℕ) (a e : Info) (l : Lease) (es : List Entry) → at_serial s es ≡ Some a → at_serial s es ≡ Some e → nat_lt a.lease.number l.number ≡ false → set_value (nat_eq s) (promoted (nat_eq s) es) a ≡ (s, with_lease (later e.lease l) e) ∷ without s es
renew_else s a e l es p q low =
    let same : a ≡ e = some_same a e (sym p ∙ q) in
    renewed_entries s a a es p ∙ subst (λ x. (s, a) ∷ without s es ≡ (s, with_lease (later x.lease l) x) ∷ without s es) same (rw low refl)
