-- A request over its span, asked again. It stands here since the laws of the trait `Acts` cite it.
use Rattle.std.proofs.Common.{◌≡◌, ℕ, Bool, true, false, not, cond, List, [], ◌∷◌, refl, sym, ap, ◌∙◌, subst, Option, Some, None}
use Rattle.ds_base.specs.Order.{holds}
use Rattle.ds_base.specs.Ordered.{key_eq, Ascends, at_key, between}
use Rattle.ds_base.proofs.OrderedFacts.{eq_same, at-none, ascends-between, at_key-between}
use Rattle.ds_base.specs.declared.value.Value.{Value}
use Rattle.ds_cell.specs.declared.entry.At.{At as Who}
use Rattle.ds_cell.specs.declared.verdict.Verdict.{Verdict}
use Rattle.ds_cell.specs.declared.verdict.Verdict.TheVariants.{Keep, Put, Refuse}
use Rattle.ds_cell.specs.declared.verdict.Bit.{Bit}
use Rattle.ds_cell.specs.declared.verdict.Bit.TheVariants.{Nothing}
use Rattle.ds_cell.specs.Content.{Content, no_content}
use Rattle.ds_cell.specs.Change.{wrote}
use Rattle.ds_cell.specs.Deed.{content_after}
use Rattle.ds_cell.specs.Ask.{Cell, Cells, key_of, Asked, Failed, Gave, one_more, ask_each, ask, content_of, content_at}
use Rattle.ds_cell.specs.Store.{put_cell, write_all}
use Rattle.ds_cell.specs.Replies.{Bits}
use Rattle.ds_cell.specs.Laws.{IsLater, Repeats, KeyRepeats}
use Rattle.ds_cell.specs.StoreProofs.{put-itself, put-other}
use Rattle.ds_cell.specs.KeyProofs.{quiet, told, told_by_key}

-- what is done at a key, nothing where it isn't listed
abbrev pub verdict_by : (Content → Verdict) → Option Cell → Verdict
verdict_by d None = Keep Nothing
verdict_by d (Some p) = d p.1

abbrev verdict_at : (Content → Verdict) → List ℕ → Cells → Verdict
verdict_at d k ps = verdict_by d (at_key key_of k ps)

-- it is no refusal
abbrev Given : Verdict → Type 0
Given (Keep b) = Unit {0}
Given (Put w b) = Unit {0}
Given (Refuse f) = ⊥

-- what one more key gave, taken apart
abbrev Parted : Verdict → Asked → Bits → List (List ℕ × Option Value) → List ℕ → Type 0
Parted (Refuse f) r bs ws k = ⊥
Parted (Keep b) r bs ws k = (cs : Bits) × (r ≡ Gave cs ws) × (bs ≡ (k, b) ∷ cs)
Parted (Put w b) r bs ws k = (cs : Bits) × (vs : List (List ℕ × Option Value)) × (r ≡ Gave cs vs) × (bs ≡ (k, b) ∷ cs) × (ws ≡ (k, w) ∷ vs)

gave_bits : (cs bs : Bits) (us vs : List (List ℕ × Option Value)) → Gave cs us ≡ Gave bs vs → bs ≡ cs
gave_bits cs bs us vs h = cc

gave_writes : (cs bs : Bits) (us vs : List (List ℕ × Option Value)) → Gave cs us ≡ Gave bs vs → vs ≡ us
gave_writes cs bs us vs h = cc

parted : (k : List ℕ) (v : Verdict) (r : Asked) (bs : Bits) (ws : List (List ℕ × Option Value)) → one_more k v r ≡ Gave bs ws → Parted v r bs ws k
parted k (Refuse f) r bs ws h = cc
parted k (Keep b) (Failed q f) bs ws h = cc
parted k (Put w b) (Failed q f) bs ws h = cc
parted k (Keep b) (Gave cs vs) bs ws h = (cs, ap (Gave cs) (sym (gave_writes _ bs vs ws h)), gave_bits _ bs vs ws h)
parted k (Put w b) (Gave cs vs) bs ws h = (cs, vs, refl, gave_bits _ bs _ ws h, gave_writes _ bs _ ws h)

-- no key that is listed refused
pub all-given : (d : Content → Verdict) (k : List ℕ) (ps : Cells) (bs : Bits) (ws : List (List ℕ × Option Value)) → ask_each d ps ≡ Gave bs ws → Given (verdict_at d k ps)
all-given d k [] bs ws h = tt
all-given d k (p ∷ ps) bs ws h =
    elim (d p.1) as (λ v. d p.1 ≡ v → Parted v (ask_each d ps) bs ws p.0 → Given (verdict_at d k (p ∷ ps))) [
      | Refuse f ↦ λ is x. absurd x
      | Keep b ↦ λ is x. at_hand (subst Given (sym is) tt) (all-given d k ps x.0 ws x.1)
      | Put w b ↦ λ is x. at_hand (subst Given (sym is) tt) (all-given d k ps x.0 x.1 x.2)
    ] refl (parted p.0 (d p.1) (ask_each d ps) bs ws h)
  where
    at_hand : Given (d p.1) → Given (verdict_at d k ps) → Given (verdict_at d k (p ∷ ps))
    at_hand here there =
        elim (key_eq p.0 k) as (λ t. Given (verdict_by d (cond t (Some p) (at_key key_of k ps)))) [
          | true ↦ here
          | false ↦ there
        ]

-- what stands at a key after the writes is what was done there
pub written-at : (d : Content → Verdict) (at : Who) (k : List ℕ) (ps : Cells) (bs : Bits) (ws : List (List ℕ × Option Value)) (cells : Cells) → Ascends key_of ps → ask_each d ps ≡ Gave bs ws → content_at k (write_all at ws cells) ≡ content_after at (verdict_at d k ps) (content_at k cells)
written-at d at k [] bs ws cells asc h = ap (λ vs. content_at k (write_all at vs cells)) (gave_writes [] bs [] ws h)
written-at d at k (p ∷ ps) bs ws cells asc h =
    elim (d p.1) as (λ v. d p.1 ≡ v → Parted v (ask_each d ps) bs ws p.0 → content_at k (write_all at ws cells) ≡ content_after at (verdict_at d k (p ∷ ps)) (content_at k cells)) [
      | Refuse f ↦ λ is x. absurd x
      | Keep b ↦ λ is x.
          written-at d at k ps x.0 ws cells asc.1 x.1
          ∙ (elim (key_eq p.0 k) as (λ t. key_eq p.0 k ≡ t → content_after at (verdict_at d k ps) (content_at k cells) ≡ content_after at (verdict_by d (cond t (Some p) (at_key key_of k ps))) (content_at k cells)) [
            | true ↦ λ e. ap (λ v. content_after at v (content_at k cells)) (no_more e) ∙ sym (ap (λ v. content_after at v (content_at k cells)) is)
            | false ↦ λ e. refl
          ] refl)
      | Put w b ↦ λ is x.
          ap (λ vs. content_at k (write_all at vs cells)) x.4
          ∙ written-at d at k ps x.0 x.1 (put_cell p.0 (wrote at w) cells) asc.1 x.2
          ∙ (elim (key_eq p.0 k) as (λ t. key_eq p.0 k ≡ t → content_after at (verdict_at d k ps) (content_at k (put_cell p.0 (wrote at w) cells)) ≡ content_after at (verdict_by d (cond t (Some p) (at_key key_of k ps))) (content_at k cells)) [
            | true ↦ λ e.
                ap (λ v. content_after at v (content_at k (put_cell p.0 (wrote at w) cells))) (no_more e)
                ∙ subst (λ z. content_at z (put_cell p.0 (wrote at w) cells) ≡ wrote at w (content_at z cells)) (eq_same p.0 k e) (put-itself p.0 (wrote at w) cells)
                ∙ sym (ap (λ v. content_after at v (content_at k cells)) is)
            | false ↦ λ e. ap (content_after at (verdict_at d k ps)) (put-other p.0 k (wrote at w) cells e)
          ] refl)
    ] refl (parted p.0 (d p.1) (ask_each d ps) bs ws h)
  where
    no_more : key_eq p.0 k ≡ true → verdict_at d k ps ≡ Keep Nothing
    no_more e = ap (verdict_by d) (subst (λ z. at_key key_of z ps ≡ None) (eq_same p.0 k e) (at-none key_of p.0 ps asc.0))

-- the same answers, and nothing written
abbrev pub kept : Verdict → Verdict
kept (Keep b) = Keep b
kept (Put w b) = Keep b
kept (Refuse f) = Refuse f

kept-more : (k : List ℕ) (v : Verdict) (r t : Asked) (bs : Bits) (ws : List (List ℕ × Option Value)) → one_more k v r ≡ Gave bs ws → ((cs : Bits) (vs : List (List ℕ × Option Value)) → r ≡ Gave cs vs → t ≡ Gave cs []) → one_more k (kept v) t ≡ Gave bs []
kept-more k (Refuse f) r t bs ws h rest = cc
kept-more k (Keep b) (Failed q f) t bs ws h rest = cc
kept-more k (Put w b) (Failed q f) t bs ws h rest = cc
kept-more k (Keep b) (Gave cs vs) t bs ws h rest = ap (one_more k (Keep b)) (rest cs vs refl) ∙ ap (λ xs. Gave xs []) (sym (gave_bits _ bs _ ws h))
kept-more k (Put w b) (Gave cs vs) t bs ws h rest = ap (one_more k (Keep b)) (rest cs vs refl) ∙ ap (λ xs. Gave xs []) (sym (gave_bits _ bs _ ws h))

pub kept-each : (d : Content → Verdict) (ps : Cells) (bs : Bits) (ws : List (List ℕ × Option Value)) → ask_each d ps ≡ Gave bs ws → ask_each (λ c. kept (d c)) ps ≡ Gave bs []
kept-each d [] bs ws h = ap (λ xs. Gave xs []) (sym (gave_bits [] bs [] ws h))
kept-each d (p ∷ ps) bs ws h = kept-more p.0 (d p.1) (ask_each d ps) _ bs ws h (kept-each d ps)

repeats-kept : (v u : Verdict) → Given v → Repeats v u → kept v ≡ u
repeats-kept (Keep b) u given h = sym h
repeats-kept (Put w b) u given h = sym h
repeats-kept (Refuse f) u given h = absurd given

quiet-keeps : (v : Verdict) → quiet v ≡ true → (kept v ≡ v) × Given v × ((at : Who) (c : Content) → content_after at v c ≡ c)
quiet-keeps (Keep b) q = (refl, tt, λ at c. refl)
quiet-keeps (Put w b) q = cc
quiet-keeps (Refuse f) q = cc

-- what is done at a key of the span is what is done to its content, also where nothing stands
span-verdict : (d : Content → Verdict) → quiet (d no_content) ≡ true → (at : Who) (s e k : List ℕ) (cells : Cells) → holds s e k ≡ true → Given (verdict_at d k (between key_of s e cells)) → Given (d (content_at k cells)) × (content_after at (verdict_at d k (between key_of s e cells)) (content_at k cells) ≡ content_after at (d (content_at k cells)) (content_at k cells))
span-verdict d q at s e k cells here given =
    let x = by (at_key key_of k cells) (subst (λ o. Given (verdict_by d o)) listed given) in
    (x.0, ap (λ o. content_after at (verdict_by d o) (content_at k cells)) listed ∙ x.1)
  where
    listed : at_key key_of k (between key_of s e cells) ≡ at_key key_of k cells
    listed = at_key-between key_of s e k cells ∙ ap (λ t. cond t (at_key key_of k cells) None) here

    by : (o : Option Cell) → Given (verdict_by d o) → Given (d (content_of o)) × (content_after at (verdict_by d o) (content_of o) ≡ content_after at (d (content_of o)) (content_of o))
    by None g = let x = quiet-keeps (d no_content) q in (x.1, sym (x.2 at no_content))
    by (Some p) g = (g, refl)

-- over a span, asked again, it tells the same and writes nothing
pub told-again : (d : Who → Content → Verdict) → KeyRepeats d → (at : Who) → quiet (d at no_content) ≡ true → (s e : List ℕ) (cells later : Cells) (bs : Bits) (ws : List (List ℕ × Option Value)) → Ascends key_of cells → Ascends key_of later → ask (d at) s e cells ≡ Gave bs ws
    → ((k : List ℕ) → holds s e k ≡ true → IsLater at (content_at k (write_all at ws cells)) (content_at k later))
    → told (Gave bs []) ≡ told (ask (d at) s e later)
told-again d law at q s e cells later bs ws asc asc_later gave stands =
    ap told (sym (kept-each (d at) (between key_of s e cells) bs ws gave))
    ∙ told_by_key (λ c. kept (d at c)) (d at) (ap quiet (quiet-keeps _ q).0 ∙ q) (quiet-keeps _ q).0 s e cells later asc asc_later same
  where
    same : (k : List ℕ) → holds s e k ≡ true → kept (d at (content_at k cells)) ≡ d at (content_at k later)
    same k here =
        let x = span-verdict (d at) q at s e k cells here (all-given (d at) k (between key_of s e cells) bs ws gave) in
        repeats-kept _ _ x.0
        (law at (content_at k cells) (content_at k later)
        (subst (λ c. IsLater at c (content_at k later))
        (written-at (d at) at k (between key_of s e cells) bs ws cells (ascends-between key_of s e cells asc) gave ∙ x.1)
        (stands k here)))
