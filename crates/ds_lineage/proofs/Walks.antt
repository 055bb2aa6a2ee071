-- The walk back from place to place, and a node more.
use Rattle.std.proofs.Common.{◌≡◌, ℕ, zero, suc, ◌+◌, ◌-◌, ◌<◌, ◌≤◌, false, List, [], ◌∷◌, ◌++◌, Some, None, refl, sym, ap, ◌∙◌, subst, length, take, append_assoc, arith, ◌⊎◌, inl, inr}
use Rattle.std.specs.Prelude.{max}
use Rattle.std.specs.List.{slice_get}
use Rattle.std.proofs.lemmas.List.{length-map, length-take, map_push, take-append-le, take-map, take-take, take_all}
use Rattle.std.proofs.lemmas.Option.{slice_get_within}
use Rattle.ds_desc.specs.Descs.{back_from, containing, greatest_id, overlap}
use Rattle.ds_desc.specs.declared.desc.RangeDesc.{RangeDesc}
use Rattle.ds_lineage.specs.Last.{IsLastAt, Follows}
use Rattle.ds_lineage.specs.Nodes.{descs, ComesAfter, IsLineage, ContainsAt, IsLastBefore}
use Rattle.ds_lineage.specs.declared.node.After.TheVariants.{One}
use Rattle.ds_lineage.specs.declared.node.Node.{Node}
use Rattle.ds_lineage.proofs.Lasts.{last-stands, last-cut, backwards}
use Rattle.ds_lineage.proofs.Spans.{follows-kept}

-- ---- the walk

-- so many steps of a walk were made, and it stands at this place
pub record Walked (ds : List RangeDesc) (k : List ℕ) (b steps at : ℕ) : Type 0 where
  pub here : ContainsAt ds k at
  pub same : back_from b (containing k ds) ≡ back_from (b - steps) (containing k (take (suc at) ds))

pub walk-first : (ds : List RangeDesc) (k : List ℕ) (b i : ℕ) → IsLastAt ds k i → Walked ds k b 0 i
walk-first ds k b i h = record {
  here = last-stands ds k i h;
  same = let all : b ≡ b - 0 = omega arith in subst (λ n. back_from b (containing k ds) ≡ back_from n (containing k (take (suc i) ds))) all (ap (back_from b) (last-cut ds k i h));
}

-- what is one back, up to this place
one-back : (ds : List RangeDesc) (k : List ℕ) (b steps at : ℕ) → steps < b → Walked ds k b steps at → back_from b (containing k ds) ≡ back_from (b - (steps + 1)) (containing k (take at ds))
one-back ds k b steps at low w =
    let some : b - steps ≡ suc (b - (steps + 1)) = omega arith in
    w.same
    ∙ ap (λ n. back_from n (containing k (take (suc at) ds))) some
    ∙ ap (λ zs. slice_get zs (suc (b - (steps + 1)))) (backwards ds k at w.here.one w.here.there w.here.holds)

front : {X : Type 0} (xs : List X) (n i : ℕ) → i < n → slice_get (take n xs) i ≡ slice_get xs i
front [] zero i low = refl
front [] (suc n) i low = refl
front (x ∷ xs) zero i low = absurd (omega arith)
front (x ∷ xs) (suc n) zero low = refl
front (x ∷ xs) (suc n) (suc i) low = front xs n i (omega (arith, low))

pub walk-more : (ds : List RangeDesc) (k : List ℕ) (b steps at place : ℕ) → steps < b → Walked ds k b steps at → IsLastBefore ds k at (Some place) → Walked ds k b (steps + 1) place
walk-more ds k b steps at place low w h =
    let it : ContainsAt (take at ds) k place = last-stands (take at ds) k place h in
    let inside : place < length (take at ds) = slice_get_within (take at ds) place it.one it.there in
    let before : suc place ≤ at = omega (arith, inside, length-take at ds) in
    record {
      here = record { one = it.one; there = sym (front ds at place before) ∙ it.there; holds = it.holds };
      same = one-back ds k b steps at low w ∙ ap (back_from (b - (steps + 1))) (last-cut (take at ds) k place h ∙ ap (containing k) (take-take (suc place) at ds before));
    }

pub walk-none : (ds : List RangeDesc) (k : List ℕ) (b steps at : ℕ) → steps < b → Walked ds k b steps at → IsLastBefore ds k at None → back_from b (containing k ds) ≡ None
walk-none ds k b steps at low w h = one-back ds k b steps at low w ∙ ap (back_from (b - (steps + 1))) h

pub walk-end : (ds : List RangeDesc) (k : List ℕ) (b steps at : ℕ) → b ≤ steps → Walked ds k b steps at → back_from b (containing k ds) ≡ slice_get ds at
walk-end ds k b steps at all w =
    let none : b - steps ≡ 0 = omega arith in
    w.same
    ∙ ap (λ n. back_from n (containing k (take (suc at) ds))) none
    ∙ ap (λ zs. slice_get zs 0) (backwards ds k at w.here.one w.here.there w.here.holds)
    ∙ sym w.here.there

-- ---- a node more

pub greatest-more : (ds : List RangeDesc) (e : RangeDesc) → greatest_id (ds ++ e ∷ []) ≡ max (greatest_id ds) e.id
greatest-more [] e = omega arith
greatest-more (d ∷ ds) e = omega (arith, greatest-more ds e)

one-of : {X : Type 0} (xs : List X) (y z : X) (i : ℕ) → slice_get (xs ++ y ∷ []) i ≡ Some z → ((i < length xs) × (slice_get xs i ≡ Some z)) ⊎ ((i ≡ length xs) × (y ≡ z))
one-of [] y z zero h = inr (refl, cc)
one-of [] y z (suc i) h = cc
one-of (x ∷ xs) y z zero h = inl (omega arith, h)
one-of (x ∷ xs) y z (suc i) h = elim (one-of xs y z i h) [
  | inl old ↦ inl (let low : i < length xs = old.0 in omega arith, old.1)
  | inr new ↦ inr (ap suc new.0, new.1)
]

pub lineage-more : (ns : List Node) (g : ℕ) (n : Node) → IsLineage ns g → ComesAfter (descs ns) n.desc.span n.after → IsLineage (ns ++ n ∷ []) (max g n.desc.id)
lineage-more ns g n h after = record {
  named = λ i m at. elim (one-of ns n m i at) [
    | inl old ↦
        let low : i ≤ length (descs ns) = omega (arith, old.0, length-map ns (λ (x : Node). x.desc)) in
        subst (λ zs. ComesAfter zs m.desc.span m.after) (sym (ap (take i) whole ∙ take-append-le i (descs ns) (n.desc ∷ []) low)) (h.named i m old.1)
    | inr new ↦
        let all : i ≡ length (descs ns) = new.0 ∙ sym (length-map ns (λ (x : Node). x.desc)) in
        let low : i ≤ length (descs ns) = omega arith in
        let most : length (descs ns) ≤ i = omega arith in
        subst (λ (z : Node). ComesAfter (take i (descs (ns ++ n ∷ []))) z.desc.span z.after) new.1
        (subst (λ zs. ComesAfter zs n.desc.span n.after) (sym (ap (take i) whole ∙ take-append-le i (descs ns) (n.desc ∷ []) low ∙ take_all i (descs ns) most)) after)
  ];
  top = ap (λ t. max t n.desc.id) h.top ∙ sym (ap greatest_id whole ∙ greatest-more (descs ns) n.desc);
}
  where
    whole : descs (ns ++ n ∷ []) ≡ descs ns ++ n.desc ∷ []
    whole = map_push (λ (x : Node). x.desc) ns n

-- the same over what a call says of the lists
pub lineage-added : (old new : List Node) (g top : ℕ) (ds : List RangeDesc) (n : Node) → IsLineage old g → descs old ≡ ds → ComesAfter ds n.desc.span n.after → new ≡ old ++ n ∷ [] → top ≡ max g n.desc.id → IsLineage new top
lineage-added old new g top ds n h view after grown highest =
    let sound : IsLineage (old ++ n ∷ []) (max g n.desc.id) = lineage-more old g n h (subst (λ zs. ComesAfter zs n.desc.span n.after) (sym view) after) in
    subst (λ zs. IsLineage zs top) (sym grown) (subst (λ t. IsLineage (old ++ n ∷ []) t) (sym highest) sound)

-- two nodes more, which don't overlap, after one
pub lineage-parted : (old one new : List Node) (g middle top : ℕ) (ds : List RangeDesc) (d e : RangeDesc) (before : ℕ) → IsLineage old g → descs old ≡ ds → Follows ds d.span before → Follows ds e.span before → overlap d.span e.span ≡ false → one ≡ old ++ (record { desc = d; after = One before }) ∷ [] → new ≡ one ++ (record { desc = e; after = One before }) ∷ [] → middle ≡ max g d.id → top ≡ max middle e.id → IsLineage new top
lineage-parted old one new g middle top ds d e before h view left right apart first second mid highest =
    let is : descs one ≡ ds ++ d ∷ [] = ap descs first ∙ map_push (λ (x : Node). x.desc) old (record { desc = d; after = One before }) ∙ ap (λ zs. zs ++ d ∷ []) view in
    let sound : IsLineage one middle = lineage-added old one g middle ds (record { desc = d; after = One before }) h view left first mid in
    lineage-added one new middle top (ds ++ d ∷ []) (record { desc = e; after = One before }) sound is (follows-kept ds e.span before d apart right) second highest

pub parted-view : (old one new : List Node) (ds : List RangeDesc) (d e : RangeDesc) (before : ℕ) → descs old ≡ ds → one ≡ old ++ (record { desc = d; after = One before }) ∷ [] → new ≡ one ++ (record { desc = e; after = One before }) ∷ [] → descs new ≡ ds ++ d ∷ e ∷ []
parted-view old one new ds d e before view first second =
    ap descs second ∙ map_push (λ (x : Node). x.desc) one (record { desc = e; after = One before })
    ∙ ap (λ zs. zs ++ e ∷ []) (ap descs first ∙ map_push (λ (x : Node). x.desc) old (record { desc = d; after = One before }) ∙ ap (λ zs. zs ++ d ∷ []) view)
    ∙ append_assoc ds (d ∷ []) (e ∷ [])

-- the first nodes alone
pub lineage-cut : (old new : List Node) (g top count : ℕ) → IsLineage old g → new ≡ take count old → top ≡ greatest_id (take count (descs old)) → IsLineage new top
lineage-cut old new g top count h cut highest = record {
  named = λ i n at.
      let there : slice_get (take count old) i ≡ Some n = subst (λ zs. slice_get zs i ≡ Some n) cut at in
      let low : i < length (take count old) = slice_get_within (take count old) i n there in
      let within : i < count = omega (arith, low, length-take count old) in
      let least : i ≤ count = omega arith in
      subst (λ zs. ComesAfter zs n.desc.span n.after) (sym (ap (take i) short ∙ take-take i count (descs old) least)) (h.named i n (sym (front old count i within) ∙ there));
  top = highest ∙ ap greatest_id (sym short);
}
  where
    short : descs new ≡ take count (descs old)
    short = ap descs cut ∙ sym (take-map (λ (x : Node). x.desc) count old)
