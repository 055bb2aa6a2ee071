-- Where the newest descriptor of a range stands.
use Rattle.std.proofs.Common.{◌≡◌, ℕ, zero, suc, ◌<◌, true, false, cond, List, [], ◌∷◌, Some, inl, inr, sym, ap, ◌∙◌, subst, arith}
use Rattle.std.specs.List.{slice_get}
use Rattle.ds_base.specs.declared.value.Dir.TheVariants.{Forward}
use Rattle.ds_base.proofs.SmallFacts.{some_same}
use Rattle.ds_cell.specs.Seen.{last_of}
use Rattle.ds_desc.specs.Contains.{contains}
use Rattle.ds_desc.specs.Descs.{AllNewer, GenerationsRise, Newer, containing}
use Rattle.ds_desc.specs.declared.desc.RangeDesc.{RangeDesc}
use Rattle.ds_lineage.specs.Last.{IsLastAt, IsNewestAt}
use Rattle.ds_rule.specs.Keeping.{IsNewest}
use Rattle.ds_rule.specs.World.{Range}
use Rattle.ds_rule.proofs.Lasts.{last-cases}
use Rattle.ds_world.proofs.Newest.{all-last}

-- nothing newer comes after the last
none-left : (x : RangeDesc) (xs : List RangeDesc) → AllNewer x.generation xs → last_of (x ∷ xs) ≡ Some x → xs ≡ []
none-left x xs all last = elim (last-cases x xs x last) [
  | inl one ↦ one.0
  | inr rest ↦ let less : x.generation < x.generation = all-last x.generation xs x all rest in absurd (omega (arith, less))
]

some-contain : (ds : List RangeDesc) (k : List ℕ) (i : ℕ) (d : RangeDesc) → slice_get ds i ≡ Some d → contains Forward k d.span ≡ true → containing k ds ≡ [] → ⊥
some-contain [] k i d at into none = cc
some-contain (x ∷ ds) k zero d at into none =
    let here : contains Forward k x.span ≡ true = subst (λ z. contains Forward k z.span ≡ true) (sym (some_same x d at)) into in
    let both : x ∷ containing k ds ≡ [] = sym (ap (λ b. cond b (x ∷ containing k ds) (containing k ds)) here) ∙ none in cc
some-contain (x ∷ ds) k (suc i) d at into none =
    elim (contains Forward k x.span) as (λ b. cond b (x ∷ containing k ds) (containing k ds) ≡ [] → ⊥) [
      | true ↦ λ h. let both : x ∷ containing k ds ≡ [] = h in cc
      | false ↦ λ h. some-contain ds k i d at into h
    ] none

-- where generations rise, the last one that contains the key stands at one place alone
is-last : (ds : List RangeDesc) (k : List ℕ) (i : ℕ) (d : RangeDesc) → slice_get ds i ≡ Some d → contains Forward k d.span ≡ true → last_of (containing k ds) ≡ Some d → Newer (containing k ds) → IsLastAt ds k i
is-last [] k i d at into last newer = cc
is-last (x ∷ ds) k zero d at into last newer =
    let same : d ≡ x = sym (some_same x d at) in
    let here : contains Forward k x.span ≡ true = subst (λ z. contains Forward k z.span ≡ true) same into in
    let whole : containing k (x ∷ ds) ≡ x ∷ containing k ds = ap (λ b. cond b (x ∷ containing k ds) (containing k ds)) here in
    let all : Newer (x ∷ containing k ds) = subst Newer whole newer in
    (here, none-left x (containing k ds) all.0 (ap last_of (sym whole) ∙ last ∙ ap Some same))
is-last (x ∷ ds) k (suc i) d at into last newer =
    elim (contains Forward k x.span) as (λ b. last_of (cond b (x ∷ containing k ds) (containing k ds)) ≡ Some d → Newer (cond b (x ∷ containing k ds) (containing k ds)) → IsLastAt ds k i) [
      | true ↦ λ l n. elim (last-cases x (containing k ds) d l) [
        | inl one ↦ absurd (some-contain ds k i d at into one.0)
        | inr rest ↦ is-last ds k i d at into rest n.1
      ]
      | false ↦ λ l n. is-last ds k i d at into l n
    ] last newer

pub newest-stands : (ds : List RangeDesc) (r : Range) (i : ℕ) → GenerationsRise ds → IsNewest ds r → slice_get ds i ≡ Some r.info.desc → IsNewestAt ds r.info.desc i
newest-stands ds r i rise newest at = record {
  there = at;
  last = λ k into. is-last ds k i r.info.desc at into (newest k into) (rise k);
}
