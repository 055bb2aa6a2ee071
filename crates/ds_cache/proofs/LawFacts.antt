-- The laws of every cache.
use Rattle.std.proofs.Common.{◌≡◌, ℕ, zero, suc, ◌+◌, ◌-◌, ◌^◌, ◌<◌, ◌≤◌, Bool, true, false, ◌&&◌, List, [], ◌∷◌, take, Option, Some, None, find, refl, sym, ap, ◌∙◌, subst, arith, nat_eq, nat_le, true≢false, ◌⊎◌, inl, inr}
use Rattle.std.specs.List.{IsDistinct}
use Rattle.std.specs.Map.{keys_of}
use Rattle.std.proofs.lemmas.Map.Views.{exact_unsigned_eq}
use Rattle.ds_base.specs.Order.{key_lt}
use Rattle.ds_base.proofs.SmallFacts.{and_first, and_second, none_some, not_true, some_of, some_same}
use Rattle.ds_desc.specs.declared.desc.Info.{Info}
use Rattle.ds_desc.specs.declared.desc.RangeDesc.{RangeDesc}
use Rattle.ds_desc.specs.Descs.{overlap}
use Rattle.ds_cache.specs.Entries.{Entry, Cache, at_serial, IsSound}
use Rattle.ds_desc.specs.Descs.{same_key, same_desc}
use Rattle.ds_cache.specs.Insert.{outdates, newer, standing, later, with_lease, Put, put_new, put_standing, put_newer, clear_of}
use Rattle.ds_cache.specs.declared.inserted.Inserted.TheVariants.{Older, Renewed, Added, Spent}
use Rattle.ds_cache.specs.Laws.{StandingLaw, PutLaw, TokenLaw, FreshLaw, KeptLaw}
use Rattle.ds_cache.proofs.Serials.{is_false, at_head, at_tail, distinct_tail, find_none}
use Rattle.ds_cache.proofs.Added.{at_clear, at_take, sound_added}
use Rattle.ds_cache.proofs.Leases.{alike_front, sound_renewed}
use Rattle.ds_cache.proofs.Outdates.{overlaps_of}
use Rattle.ds_cache.proofs.Placed.{differs}
use Rattle.ds_cache.proofs.Stands.{same_bytes}

-- the entry that a search finds stands under its serial, and passes
found_at : (test : Entry → Bool) (es : List Entry) (e : Entry) → IsDistinct nat_eq (keys_of es) → find test es ≡ Some e → (at_serial e.0 es ≡ Some e.1) × (test e ≡ true)
found_at test [] e d h = none_some e h
found_at test (x ∷ xs) e d h =
    (elim (test x) as (λ u. test x ≡ u → (at_serial e.0 (x ∷ xs) ≡ Some e.1) × (test e ≡ true)) [
      | true ↦ λ u. let same : x ≡ e = some_same x e (rw u at h) in
          (subst (λ y. at_serial y.0 (x ∷ xs) ≡ Some y.1) same (at_head x xs), ap test (sym same) ∙ u)
      | false ↦ λ u. let on = found_at test xs e (distinct_tail x xs d) (rw u at h) in (at_tail x xs d e.0 e.1 on.0, on.1)
    ]) refl

-- the test on descriptors tells two apart
one_desc : (a b : RangeDesc) → same_desc a b ≡ true → a ≡ b
one_desc a b h =
    let h4 = and_first _ _ h in
    let h3 = and_first _ _ h4 in
    let h2 = and_first _ _ h3 in
    let id : a.id ≡ b.id = exact_unsigned_eq _ _ (and_first _ _ h2) in
    let generation : a.generation ≡ b.generation = exact_unsigned_eq _ _ (and_second (nat_eq a.id b.id) _ h2) in
    let start : a.span.start ≡ b.span.start = same_bytes _ _ (and_second (nat_eq a.id b.id && nat_eq a.generation b.generation) _ h3) in
    let end : a.span.end ≡ b.span.end = same_bytes _ _ (and_second (nat_eq a.id b.id && nat_eq a.generation b.generation && same_key a.span.start b.span.start) _ h4) in
    let nodes : a.nodes ≡ b.nodes = same_bytes _ _ (and_second (nat_eq a.id b.id && nat_eq a.generation b.generation && same_key a.span.start b.span.start && same_key a.span.end b.span.end) _ h) in
    λ x. record { id = id x; span = record { start = start x; end = end x }; nodes = nodes x; generation = generation x }

pub standing_law : StandingLaw
standing_law c h i some =
    let e = some_of (standing i c.entries) some in
    let on = found_at (λ x. same_desc i.desc x.1.desc) c.entries e.0 h.distinct e.1 in
    let same : i.desc ≡ e.0.1.desc = one_desc i.desc e.0.1.desc on.1 in
    find_none (λ x. outdates i x.1) c.entries h.distinct (λ t j p. is_false _ (λ o.
    let lap : overlap e.0.1.desc.span j.desc.span ≡ true = ap (λ d. overlap d.span j.desc.span) (sym same) ∙ overlaps_of i j o in
    let st : e.0.0 ≡ t = h.apart e.0.0 t e.0.1 j on.0 p lap in
    let ej : e.0.1 ≡ j = some_same e.0.1 j (sym on.0 ∙ ap (λ x. at_serial x c.entries) st ∙ p) in
    let other : same_desc i.desc j.desc ≡ false = not_true _ (and_second (overlap i.desc.span j.desc.span && nat_le i.desc.generation j.desc.generation) _ o) in
    true≢false (sym on.1 ∙ ap (λ x. same_desc i.desc x.desc) ej ∙ other)))

-- ---- an insertion

older_added : {P : Type 0} (g : ℕ) → Older g ≡ Added → P
older_added g h = cc

renewed_added : {P : Type 0} → Renewed ≡ Added → P
renewed_added h = cc

spent_added : {P : Type 0} → Spent ≡ Added → P
spent_added h = cc

module _ (i : Info) (c : Cache) (h : IsSound c) where
  put_new-sound : key_lt i.desc.span.start i.desc.span.end ≡ true → IsSound (put_new i c).after
  put_new-sound span =
      (elim (nat_eq c.given (2 ^ 64 - 1)) as (λ u. nat_eq c.given (2 ^ 64 - 1) ≡ u → IsSound (put_new i c).after) [
        | true ↦ λ u. rw u h
        | false ↦ λ u. rw u (sound_added (c.given + 1) i c.entries c.capacity c.given h (omega arith) span)
      ]) refl

  put_standing-sound : (o : Option Entry) → standing i c.entries ≡ o → key_lt i.desc.span.start i.desc.span.end ≡ true → IsSound (put_standing i c o).after
  put_standing-sound None e span = put_new-sound span
  put_standing-sound (Some x) e span = sound_renewed x.0 x.1 (later x.1.lease i.lease) c.entries c.capacity c.given h (found_at (λ y. same_desc i.desc y.1.desc) c.entries x h.distinct e).0

  put_newer-sound : (o : Option Entry) → key_lt i.desc.span.start i.desc.span.end ≡ true → IsSound (put_newer i c o).after
  put_newer-sound None span = put_standing-sound (standing i c.entries) refl span
  put_newer-sound (Some x) span = h

  -- the token names no entry, or one with the descriptor
  abbrev Names : Put → Type 0
  Names p = (p.token ≡ 0) ⊎ ((j : Info) × (at_serial p.token p.after.entries ≡ Some j) × (j.desc ≡ i.desc))

  first_taken : (n : ℕ) (e : Entry) (es : List Entry) → 1 ≤ n → at_serial e.0 (take n (e ∷ es)) ≡ Some e.1
  first_taken zero e es low = absurd (omega (arith, low))
  first_taken (suc n) e es low = at_head e (take n es)

  put_new-names : Names (put_new i c)
  put_new-names =
      (elim (nat_eq c.given (2 ^ 64 - 1)) as (λ u. nat_eq c.given (2 ^ 64 - 1) ≡ u → Names (put_new i c)) [
        | true ↦ λ u. rw u (inl refl)
        | false ↦ λ u. rw u (inr (i, first_taken c.capacity (c.given + 1, i) (clear_of i c.entries) h.some, refl))
      ]) refl

  put_standing-names : (o : Option Entry) → standing i c.entries ≡ o → Names (put_standing i c o)
  put_standing-names None e = put_new-names
  put_standing-names (Some x) e =
      let on = found_at (λ y. same_desc i.desc y.1.desc) c.entries x h.distinct e in
      inr (with_lease (later x.1.lease i.lease) x.1, at_head (x.0, with_lease (later x.1.lease i.lease) x.1) _, sym (one_desc i.desc x.1.desc on.1))

  put_newer-names : (o : Option Entry) → Names (put_newer i c o)
  put_newer-names None = put_standing-names (standing i c.entries) refl
  put_newer-names (Some x) = inl refl

  -- an added entry has a new serial
  abbrev Later : Put → Type 0
  Later p = p.inserted ≡ Added → (c.given < p.token) × (p.token ≤ p.after.given)

  put_new-later : Later (put_new i c)
  put_new-later =
      (elim (nat_eq c.given (2 ^ 64 - 1)) as (λ u. nat_eq c.given (2 ^ 64 - 1) ≡ u → Later (put_new i c)) [
        | true ↦ λ u. rw u (λ e. spent_added e)
        | false ↦ λ u. rw u (λ e. (omega arith, omega arith))
      ]) refl

  put_standing-later : (o : Option Entry) → Later (put_standing i c o)
  put_standing-later None = put_new-later
  put_standing-later (Some x) = λ e. renewed_added e

  put_newer-later : (o : Option Entry) → Later (put_newer i c o)
  put_newer-later None = put_standing-later (standing i c.entries)
  put_newer-later (Some x) = λ e. older_added x.1.desc.generation e

  -- the given serials are given still, and keep their descriptors
  abbrev Keeps : Put → Type 0
  Keeps p = (c.given ≤ p.after.given) × ((s : ℕ) (j : Info) → s ≤ c.given → at_serial s p.after.entries ≡ Some j → (e : Info) × (at_serial s c.entries ≡ Some e) × (j.desc ≡ e.desc))

  new-keeps : (s : ℕ) (j : Info) → s ≤ c.given → at_serial s (take c.capacity ((c.given + 1, i) ∷ clear_of i c.entries)) ≡ Some j → (e : Info) × (at_serial s c.entries ≡ Some e) × (j.desc ≡ e.desc)
  new-keeps s j low p =
      let other : nat_eq s (c.given + 1) ≡ false = differs s (c.given + 1) (λ e. omega (arith, e, low)) in
      let there : at_serial s ((c.given + 1, i) ∷ clear_of i c.entries) ≡ Some j = at_take c.capacity s j ((c.given + 1, i) ∷ clear_of i c.entries) p in
      (j, (at_clear i s j c.entries h.distinct (rw other at there)).0, refl)

  put_new-keeps : Keeps (put_new i c)
  put_new-keeps =
      (elim (nat_eq c.given (2 ^ 64 - 1)) as (λ u. nat_eq c.given (2 ^ 64 - 1) ≡ u → Keeps (put_new i c)) [
        | true ↦ λ u. rw u (omega arith, λ s j low p. (j, p, refl))
        | false ↦ λ u. rw u (omega arith, new-keeps)
      ]) refl

  put_standing-keeps : (o : Option Entry) → standing i c.entries ≡ o → Keeps (put_standing i c o)
  put_standing-keeps None e = put_new-keeps
  put_standing-keeps (Some x) e =
      let on = found_at (λ y. same_desc i.desc y.1.desc) c.entries x h.distinct e in
      (omega arith, λ s j low p. (alike_front x.0 x.1 (with_lease (later x.1.lease i.lease) x.1) c.entries h.distinct on.0 refl).there s j p)

  put_newer-keeps : (o : Option Entry) → Keeps (put_newer i c o)
  put_newer-keeps None = put_standing-keeps (standing i c.entries) refl
  put_newer-keeps (Some x) = (omega arith, λ s j low p. (j, p, refl))

pub put_law : PutLaw
put_law c h i span = put_newer-sound i c h (newer i c.entries) span

pub token_law : TokenLaw
token_law c h i = put_newer-names i c h (newer i c.entries)

pub fresh_law : FreshLaw
fresh_law c h i = put_newer-later i c h (newer i c.entries)

pub kept_law : KeptLaw
kept_law c h i = put_newer-keeps i c h (newer i c.entries)
