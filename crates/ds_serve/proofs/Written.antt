-- The keys of a span that have writes.
use Rattle.std.proofs.Common.{◌≡◌, ℕ, Bool, true, false, cond, not, ◌&&◌, List, [], ◌∷◌, ◌++◌, map, is_some, refl, sym, ap, ◌∙◌, append_assoc}
use Rattle.std.specs.List.{filter}
use Rattle.std.specs.BTreeMap.Range.{entries_between}
use Rattle.std.specs.Ordering.{is_gt, is_lt}
use Rattle.std.specs.declared.ops.Bound.TheVariants.{Included}
use Rattle.std.proofs.lemmas.Cmp.{nat_list_cmp_total, tied_itself}
use Rattle.ds_base.specs.Order.{key_cmp, key_lt, key_le, after, holds}
use Rattle.ds_base.specs.Ordered.{between}
use Rattle.ds_base.proofs.KeyOrder.{after-above}
use Rattle.ds_base.proofs.OrderedFacts.{le_trans, le_of_not_lt, not_lt_of_le}
use Rattle.ds_base.proofs.SmallFacts.{append_nil, less_reversed}
use Rattle.ds_kind.specs.Reach.{At as Point, extent_of}
use Rattle.ds_kind.specs.Request.{reach_of, span_of}
use Rattle.ds_kind.specs.declared.request.Request.{Request}
use Rattle.ds_cell.specs.Content.{Content}
use Rattle.ds_cell.specs.Seen.{last_of}
use Rattle.ds_cell.specs.Ask.{Cell, Cells, key_of}
use Rattle.ds_serve.specs.Writes.{keys_written}

abbrev has_writes : Cell → Bool
has_writes p = is_some (last_of p.1.history)

-- over a span that holds no key there are none

outside : (s e k : List ℕ) → key_lt s e ≡ false → holds s e k ≡ false
outside s e k h =
    elim (key_le s k) as (λ t. key_le s k ≡ t → (t && key_lt k e) ≡ false) [
      | true ↦ λ low. not_lt_of_le e k (le_trans e s k (le_of_not_lt s e h) low)
      | false ↦ λ low. refl
    ] refl

between_none : (s e : List ℕ) (cells : Cells) → key_lt s e ≡ false → between key_of s e cells ≡ []
between_none s e [] h = refl
between_none s e (p ∷ ps) h = ap (λ t. cond t (p ∷ between key_of s e ps) (between key_of s e ps)) (outside s e p.0 h) ∙ between_none s e ps h

pub none_between : (s e : List ℕ) (cells : Cells) → key_lt s e ≡ false → [] ≡ keys_written (between key_of s e cells)
none_between s e cells h = ap keys_written (sym (between_none s e cells h))

-- a map's range of one key

pub le_own : (a b k : List ℕ) → a ≡ k → b ≡ k → is_gt (key_cmp a b) ≡ false
le_own a b k first last = ap (λ z. is_gt (key_cmp z b)) first ∙ ap (λ z. is_gt (key_cmp k z)) last ∙ ap is_gt (tied_itself nat_list_cmp_total k)

below_after : (k q : List ℕ) → key_lt q (after k) ≡ not (key_lt k q)
below_after k q =
    ap is_lt (nat_list_cmp_total.antisymm q (after k)) ∙ less_reversed (key_cmp (after k) q) ∙ after-above k q

pub point_between : (k : List ℕ) (es : Cells) → entries_between key_cmp (Included k) (Included k) es ≡ between key_of k (after k) es
point_between k es = λ i. filter (λ p. key_le k p.0 && sym (below_after k p.0) i) es

pub point_span : (r : Request) (k : List ℕ) (es : Cells) → Point k ≡ reach_of r → between key_of k (after k) es ≡ between key_of (span_of r).start (span_of r).end es
point_span r k es place = ap (λ x. between key_of (extent_of x).start (extent_of x).end es) place

-- the keys with writes, noted one after another

pub one_written : (ks ls : List (List ℕ)) (k : List ℕ) (c : Content) (t : Bool) → t ≡ is_some (last_of c.history) → t ≡ true → ls ≡ ks ++ k ∷ [] → ls ≡ ks ++ keys_written ((k, c) ∷ [])
one_written ks ls k c t is yes_it more = more ∙ ap (λ u. ks ++ map key_of (cond u ((k, c) ∷ []) [])) (sym yes_it ∙ is)

pub none_written : (ks : List (List ℕ)) (k : List ℕ) (c : Content) (t : Bool) → t ≡ is_some (last_of c.history) → t ≡ false → ks ≡ ks ++ keys_written ((k, c) ∷ [])
none_written ks k c t is none = sym (append_nil ks) ∙ ap (λ u. ks ++ map key_of (cond u ((k, c) ∷ []) [])) (sym none ∙ is)

written-append : (p : Cell) (ps : Cells) → keys_written (p ∷ ps) ≡ keys_written (p ∷ []) ++ keys_written ps
written-append p ps =
    elim (is_some (last_of p.1.history)) as (λ t. map key_of (cond t (p ∷ filter has_writes ps) (filter has_writes ps)) ≡ map key_of (cond t (p ∷ []) []) ++ keys_written ps) [
      | true ↦ refl
      | false ↦ refl
    ]

pub written_first : (ks : List (List ℕ)) (all rest : Cells) → ks ≡ [] → rest ≡ all → ks ++ keys_written rest ≡ keys_written all
written_first ks all rest none is = ap (λ z. z ++ keys_written rest) none ∙ ap keys_written is

pub written_more : (ks ls : List (List ℕ)) (p : Cell) (rest ps : Cells) (all : List (List ℕ)) → ks ++ keys_written rest ≡ all → rest ≡ p ∷ ps → ls ≡ ks ++ keys_written (p ∷ []) → ls ++ keys_written ps ≡ all
written_more ks ls p rest ps all so_far is more =
    ap (λ z. z ++ keys_written ps) more ∙ append_assoc ks (keys_written (p ∷ [])) (keys_written ps)
    ∙ ap (λ z. ks ++ z) (sym (written-append p ps)) ∙ ap (λ z. ks ++ keys_written z) (sym is) ∙ so_far

pub written_done : (ks : List (List ℕ)) (rest : Cells) (all : List (List ℕ)) → ks ++ keys_written rest ≡ all → rest ≡ [] → ks ≡ all
written_done ks rest all so_far none = sym (append_nil ks) ∙ ap (λ z. ks ++ keys_written z) (sym none) ∙ so_far
