-- What every cache keeps where an entry has another lease.
use Rattle.std.proofs.Common.{◌≡◌, ℕ, true, false, cond, List, [], ◌∷◌, length, Option, Some, None, IsSome, refl, sym, ap, ◌∙◌, subst, arith, nat_eq, nat_lt}
use Rattle.std.specs.Cmp.{nat_eq_equiv}
use Rattle.std.specs.List.{IsDistinct}
use Rattle.std.specs.Map.{lookup, keys_of, set_value}
use Rattle.std.specs.BTreeMap.{is_at}
use Rattle.std.proofs.lemmas.Map.{lookup-set_value, keys-set_value, length-set_value}
use Rattle.std.proofs.lemmas.Map.Views.{exact_unsigned_eq}
use Rattle.ds_base.specs.Order.{key_cmp, key_lt}
use Rattle.ds_base.proofs.SmallFacts.{some_none, some_same}
use Rattle.ds_desc.specs.declared.desc.Info.{Info}
use Rattle.ds_desc.specs.declared.desc.Lease.{Lease}
use Rattle.ds_desc.specs.Descs.{overlap}
use Rattle.ds_cache.specs.Entries.{Entry, cache, at_serial, without, IsSound, IsIndex}
use Rattle.ds_cache.specs.Insert.{later, with_lease, leased}
use Rattle.ds_cache.proofs.Serials.{at_without, distinct_front, length_front, one}
use Rattle.ds_cache.proofs.Sound.{left_without}

-- the same descriptors under the same serials
pub record Alike (es fs : List Entry) : Type 0 where
  pub there : (q : ℕ) (j : Info) → at_serial q fs ≡ Some j → (k : Info) × (at_serial q es ≡ Some k) × (j.desc ≡ k.desc)
  pub back : (q : ℕ) (k : Info) → at_serial q es ≡ Some k → (j : Info) × (at_serial q fs ≡ Some j) × (j.desc ≡ k.desc)

sound_alike : (es fs : List Entry) (n g : ℕ) → IsSound (cache es n g) → Alike es fs → IsDistinct nat_eq (keys_of fs) → length fs ≡ length es → IsSound (cache fs n g)
sound_alike es fs n g h a d l = record {
  apart = λ s t i j p q o. let x = a.there s i p in let y = a.there t j q in
      h.apart s t x.0 y.0 x.1 y.1 ((λ z. overlap (sym x.2 z).span (sym y.2 z).span) ∙ o);
  spans = λ s i p. let x = a.there s i p in ap (λ b. key_lt b.span.start b.span.end) x.2 ∙ h.spans s x.0 x.1;
  serials = λ s i p. let x = a.there s i p in h.serials s x.0 x.1;
  distinct = d;
  fits = let f = h.fits in omega (arith, l, f);
  some = h.some;
}

pub index_alike : (es fs : List Entry) (m : List (List ℕ × ℕ)) → IsIndex es m → Alike es fs → IsIndex fs m
index_alike es fs m ix a = record {
  only = λ k s p. let on = ix.only k s p in let b = a.back s on.0 on.1 in (b.0, b.1, ap (λ d. d.span.start) b.2 ∙ on.2);
  each = λ s i p. let x = a.there s i p in ap (λ d. lookup (is_at (key_cmp d.span.start)) m) x.2 ∙ ix.each s x.0 x.1;
}

pub alike_front : (s : ℕ) (e w : Info) (es : List Entry) → IsDistinct nat_eq (keys_of es) → at_serial s es ≡ Some e → w.desc ≡ e.desc → Alike es ((s, w) ∷ without s es)
alike_front s e w es d h same = record {
  there = λ q j p.
      (elim (nat_eq q s) as (λ t. nat_eq q s ≡ t → (k : Info) × (at_serial q es ≡ Some k) × (j.desc ≡ k.desc)) [
        | true ↦ λ t. let wj : w ≡ j = some_same w j (rw t at p) in (e, ap (λ x. at_serial x es) (exact_unsigned_eq q s t) ∙ h, ap (λ x. x.desc) (sym wj) ∙ same)
        | false ↦ λ t. (j, (left_without s q j es d (rw t at p)).1, refl)
      ]) refl;
  back = λ q k p.
      (elim (nat_eq q s) as (λ t. nat_eq q s ≡ t → (j : Info) × (at_serial q ((s, w) ∷ without s es) ≡ Some j) × (j.desc ≡ k.desc)) [
        | true ↦ λ t. let ek : e ≡ k = some_same e k (sym h ∙ ap (λ x. at_serial x es) (sym (exact_unsigned_eq q s t)) ∙ p) in (w, rw t refl, same ∙ ap (λ x. x.desc) ek)
        | false ↦ λ t. (k, rw t (at_without s q es d ∙ ap (λ b. cond b None (at_serial q es)) (nat_eq_equiv.symm s q ∙ t) ∙ p), refl)
      ]) refl;
}

pub sound_renewed : (s : ℕ) (e : Info) (l : Lease) (es : List Entry) (n g : ℕ) → IsSound (cache es n g) → at_serial s es ≡ Some e → IsSound (cache ((s, with_lease l e) ∷ without s es) n g)
sound_renewed s e l es n g h there = sound_alike es ((s, with_lease l e) ∷ without s es) n g h (alike_front s e (with_lease l e) es h.distinct there refl) (distinct_front s (with_lease l e) es h.distinct) (length_front s e es there)

pub index_renewed : (s : ℕ) (e : Info) (l : Lease) (es : List Entry) (m : List (List ℕ × ℕ)) → IsDistinct nat_eq (keys_of es) → IsIndex es m → at_serial s es ≡ Some e → IsIndex ((s, with_lease l e) ∷ without s es) m
index_renewed s e l es m d ix there = index_alike es ((s, with_lease l e) ∷ without s es) m ix (alike_front s e (with_lease l e) es d there refl)

-- ---- in its place

leased_set : (s : ℕ) (e : Info) (l : Lease) (es : List Entry) → at_serial s es ≡ Some e → leased s l es ≡ set_value (nat_eq s) es (with_lease (later e.lease l) e)
leased_set s e l [] h = refl
leased_set s e l (f ∷ es) h =
    (elim (nat_eq s f.0) as (λ t. nat_eq s f.0 ≡ t → leased s l (f ∷ es) ≡ set_value (nat_eq s) (f ∷ es) (with_lease (later e.lease l) e)) [
      | true ↦ λ t. let same : f.1 ≡ e = some_same f.1 e (rw t at h) in rw t (ap (λ x. (f.0, with_lease (later x.lease l) x) ∷ es) same)
      | false ↦ λ t. rw t (ap (λ x. f ∷ x) (leased_set s e l es (rw t at h)))
    ]) refl

pub leased_none : (s : ℕ) (l : Lease) (es : List Entry) → at_serial s es ≡ None → leased s l es ≡ es
leased_none s l [] h = refl
leased_none s l (f ∷ es) h =
    (elim (nat_eq s f.0) as (λ t. nat_eq s f.0 ≡ t → leased s l (f ∷ es) ≡ f ∷ es) [
      | true ↦ λ t. absurd (some_none f.1 (rw t at h))
      | false ↦ λ t. rw t (ap (λ x. f ∷ x) (leased_none s l es (rw t at h)))
    ]) refl

pub lease_then : (s : ℕ) (e : Info) (l : Lease) (es : List Entry) → at_serial s es ≡ Some e → nat_lt e.lease.number l.number ≡ true → set_value (nat_eq s) es (with_lease l e) ≡ leased s l es
lease_then s e l es h low = sym (leased_set s e l es h ∙ rw low refl)

pub lease_else : (s : ℕ) (e : Info) (l : Lease) (es : List Entry) → at_serial s es ≡ Some e → nat_lt e.lease.number l.number ≡ false → set_value (nat_eq s) es e ≡ leased s l es
lease_else s e l es h low = sym (leased_set s e l es h ∙ rw low refl)

alike_set : (s : ℕ) (e w : Info) (es : List Entry) → at_serial s es ≡ Some e → w.desc ≡ e.desc → Alike es (set_value (nat_eq s) es w)
alike_set s e w es h same =
    let some : IsSome (lookup (nat_eq s) es) = rw h refl in
    let set : (q : ℕ) → at_serial q (set_value (nat_eq s) es w) ≡ cond (nat_eq s q) (Some w) (at_serial q es) = λ q. lookup-set_value nat_eq_equiv (nat_eq s) (one s) q w es some in
    record {
      there = λ q j p.
          (elim (nat_eq s q) as (λ t. nat_eq s q ≡ t → (k : Info) × (at_serial q es ≡ Some k) × (j.desc ≡ k.desc)) [
            | true ↦ λ t. let wj : w ≡ j = some_same w j (sym (set q ∙ ap (λ b. cond b (Some w) (at_serial q es)) t) ∙ p) in (e, ap (λ x. at_serial x es) (sym (exact_unsigned_eq s q t)) ∙ h, ap (λ x. x.desc) (sym wj) ∙ same)
            | false ↦ λ t. (j, sym (set q ∙ ap (λ b. cond b (Some w) (at_serial q es)) t) ∙ p, refl)
          ]) refl;
      back = λ q k p.
          (elim (nat_eq s q) as (λ t. nat_eq s q ≡ t → (j : Info) × (at_serial q (set_value (nat_eq s) es w) ≡ Some j) × (j.desc ≡ k.desc)) [
            | true ↦ λ t. let ek : e ≡ k = some_same e k (sym h ∙ ap (λ x. at_serial x es) (exact_unsigned_eq s q t) ∙ p) in (w, set q ∙ ap (λ b. cond b (Some w) (at_serial q es)) t, same ∙ ap (λ x. x.desc) ek)
            | false ↦ λ t. (k, set q ∙ ap (λ b. cond b (Some w) (at_serial q es)) t ∙ p, refl)
          ]) refl;
    }

alike_itself : (es : List Entry) → Alike es es
alike_itself es = record { there = λ q j p. (j, p, refl); back = λ q k p. (k, p, refl) }

alike_leased : (s : ℕ) (l : Lease) (es : List Entry) (o : Option Info) → at_serial s es ≡ o → Alike es (leased s l es) × (keys_of (leased s l es) ≡ keys_of es) × (length (leased s l es) ≡ length es)
alike_leased s l es None h = rw (leased_none s l es h) (alike_itself es, refl, refl)
alike_leased s l es (Some e) h =
    rw (leased_set s e l es h) (alike_set s e (with_lease (later e.lease l) e) es h refl, keys-set_value (nat_eq s) es (with_lease (later e.lease l) e), length-set_value (nat_eq s) es (with_lease (later e.lease l) e))

pub sound_leased : (s : ℕ) (l : Lease) (es : List Entry) (n g : ℕ) → IsSound (cache es n g) → IsSound (cache (leased s l es) n g)
sound_leased s l es n g h =
    let a = alike_leased s l es (at_serial s es) refl in
    sound_alike es (leased s l es) n g h a.0 (subst (IsDistinct nat_eq) (sym a.1) h.distinct) a.2

pub index_leased : (s : ℕ) (l : Lease) (es : List Entry) (m : List (List ℕ × ℕ)) → IsIndex es m → IsIndex (leased s l es) m
index_leased s l es m ix = index_alike es (leased s l es) m ix (alike_leased s l es (at_serial s es) refl).0
