-- What is cut of cuts of items is cuts of them again.
use Rattle.std.proofs.Common.{◌≡◌, ℕ, ◌<◌, true, false, cond, List, [], ◌∷◌, ◌++◌, refl, sym, ap, ◌∙◌, subst, inl, inr, arith}
use Rattle.ds_base.proofs.OrderedFacts.{le_trans}
use Rattle.ds_base.specs.Order.{Extent, key_lt}
use Rattle.ds_base.specs.declared.value.Dir.{Dir}
use Rattle.ds_base.specs.declared.value.Dir.TheVariants.{Forward, Reverse}
use Rattle.ds_base.proofs.KeyFacts.{max_second, min_second}
use Rattle.ds_kind.specs.Reach.{Reach, At, Over, extent_of}
use Rattle.ds_kind.specs.Request.{cut_to, reach_of, span_of}
use Rattle.ds_kind.specs.declared.batch.Item.{Item}
use Rattle.ds_kind.specs.declared.request.Request.{Request}
use Rattle.ds_kind.specs.declared.request.Request.TheVariants.{Get, Scan, ReverseScan, Put, ConditionalPut, InitPut, Increment, Delete, DeleteRange, EndTxn, QueryIntent, ResolveIntent, ResolveIntentRange, AdminSplit, AdminTransferLease}
use Rattle.ds_kind.specs.CutReach.{cut_reach}
use Rattle.ds_kind.proofs.RequestFacts.{reach_cut, cut_whole}
use Rattle.ds_cover.specs.Cuts.{cut_by, within, from, up_to, cut_items, rest_items}
use Rattle.ds_cover.specs.Items.{PositionsRise, IsOneOf}
use Rattle.ds_cover.specs.Origins.{LiesIn, IsCut, CutsOf}
use Rattle.ds_cover.proofs.Covering.{after-in}
use Rattle.ds_cover.proofs.Tests.{le_itself}

-- requests cut twice, and cut to their own spans

cut-twice : (s e t f : List ℕ) (r : Request) → cut_to s e (cut_to t f r) ≡ cut_to s e r
cut-twice s e t f (Get a) = refl
cut-twice s e t f (Scan a) = refl
cut-twice s e t f (ReverseScan a) = refl
cut-twice s e t f (Put a) = refl
cut-twice s e t f (ConditionalPut a) = refl
cut-twice s e t f (InitPut a) = refl
cut-twice s e t f (Increment a) = refl
cut-twice s e t f (Delete a) = refl
cut-twice s e t f (DeleteRange a) = refl
cut-twice s e t f (EndTxn a) = refl
cut-twice s e t f (QueryIntent a) = refl
cut-twice s e t f (ResolveIntent a) = refl
cut-twice s e t f (ResolveIntentRange a) = refl
cut-twice s e t f (AdminSplit a) = refl
cut-twice s e t f (AdminTransferLease a) = refl

cut-own : (s e : List ℕ) (r : Request) → cut_to s e r ≡ cut_to (span_of (cut_to s e r)).start (span_of (cut_to s e r)).end r
cut-own s e (Get a) = refl
cut-own s e (Scan a) = refl
cut-own s e (ReverseScan a) = refl
cut-own s e (Put a) = refl
cut-own s e (ConditionalPut a) = refl
cut-own s e (InitPut a) = refl
cut-own s e (Increment a) = refl
cut-own s e (Delete a) = refl
cut-own s e (DeleteRange a) = refl
cut-own s e (EndTxn a) = refl
cut-own s e (QueryIntent a) = refl
cut-own s e (ResolveIntent a) = refl
cut-own s e (ResolveIntentRange a) = refl
cut-own s e (AdminSplit a) = refl
cut-own s e (AdminTransferLease a) = refl

pub uncut : (r : Request) → r ≡ cut_to (span_of r).start (span_of r).end r
uncut r = sym (cut_whole r)

-- spans that lie in others

itself-in : (x : Extent) → LiesIn x x
itself-in x = (le_itself x.start, le_itself x.end)

lies-through : (x y z : Extent) → LiesIn x y → LiesIn y z → LiesIn x z
lies-through x y z p q = (le_trans z.start y.start x.start q.0 p.0, le_trans x.end y.end z.end p.1 q.1)

-- a way to cut that takes a part of each span
abbrev Narrows : (Extent → Extent) → Type 0
Narrows f = (x : Extent) → LiesIn (f x) x

within-narrows : (span : Extent) → Narrows (within span)
within-narrows span x = (max_second span.start x.start, min_second span.end x.end)

from-narrows : (m : List ℕ) → Narrows (from m)
from-narrows m x = (max_second m x.start, le_itself x.end)

up_to-narrows : (m : List ℕ) → Narrows (up_to m)
up_to-narrows m x = (le_itself x.start, min_second m x.end)

reach-in : (f : Extent → Extent) → Narrows f → (reach : Reach) → LiesIn (extent_of (cut_reach (f (extent_of reach)).start (f (extent_of reach)).end reach)) (extent_of reach)
reach-in f h (At k) = itself-in (extent_of (At k))
reach-in f h (Over s e) = h (record { start = s; end = e })

request-in : (f : Extent → Extent) → Narrows f → (r : Request) → LiesIn (span_of (cut_to (f (span_of r)).start (f (span_of r)).end r)) (span_of r)
request-in f h r = subst (λ reach. LiesIn (extent_of reach) (span_of r)) (sym (reach_cut (f (span_of r)).start (f (span_of r)).end r)) (reach-in f h (reach_of r))

-- one item

abbrev with_request : Item → Request → Item
with_request i r = record i { request = r }

cut-of-cut : (f : Extent → Extent) → Narrows f → (i c : Item) → IsCut i c → IsCut i (record c { request = cut_to (f (span_of c.request)).start (f (span_of c.request)).end c.request })
cut-of-cut f h i c is =
    let x = span_of c.request in
    let s = (f x).start in
    let e = (f x).end in
    let r : cut_to s e c.request ≡ cut_to s e i.request = ap (λ (d : Item). cut_to s e d.request) is.same ∙ cut-twice s e x.start x.end i.request in
    record {
      same =
          ap (λ (d : Item). with_request d (cut_to s e c.request)) is.same
          ∙ ap (with_request i) (r ∙ cut-own s e i.request)
          ∙ ap (λ q. with_request i (cut_to (span_of q).start (span_of q).end i.request)) (sym r);
      inside = lies-through (span_of (cut_to s e c.request)) x (span_of i.request) (request-in f h c.request) is.inside;
    }

its-own-cut : (i : Item) → IsCut i i
its-own-cut i = record { same = ap (with_request i) (uncut i.request); inside = itself-in (span_of i.request) }

-- items

pub cuts-of-all : (items : List Item) → CutsOf items items
cuts-of-all [] = tt
cuts-of-all (i ∷ is) = inl (its-own-cut i, cuts-of-all is)

one-more : (i : Item) (is cs : List Item) → CutsOf is cs → CutsOf (i ∷ is) cs
one-more i is [] h = tt
one-more i is (c ∷ cs) h = inr h

cuts-again : (f : Extent → Extent) → Narrows f → (items block : List Item) → CutsOf items block → CutsOf items (cut_by f block)
cuts-again f h [] [] is = tt
cuts-again f h [] (c ∷ cs) is = absurd is
cuts-again f h (i ∷ is) [] all = tt
cuts-again f h (i ∷ is) (c ∷ cs) all =
    elim all [
      | inl one ↦
          let x = span_of c.request in
          let cut = record c { request = cut_to (f x).start (f x).end c.request } in
          elim (key_lt (f x).start (f x).end) as (λ t. CutsOf (i ∷ is) (cond t (cut ∷ []) [] ++ cut_by f cs)) [
            | true ↦ inl (cut-of-cut f h i c one.0, cuts-again f h is cs one.1)
            | false ↦ one-more i is (cut_by f cs) (cuts-again f h is cs one.1)
          ]
      | inr more ↦ one-more i is (cut_by f (c ∷ cs)) (cuts-again f h is (c ∷ cs) more)
    ]

pub stay-cuts : (d : Dir) (span : Extent) (items block : List Item) → CutsOf items block → CutsOf items (cut_items span block) × CutsOf items (rest_items d span block)
stay-cuts Forward span items block h = (cuts-again (within span) (within-narrows span) items block h, cuts-again (from span.end) (from-narrows span.end) items block h)
stay-cuts Reverse span items block h = (cuts-again (within span) (within-narrows span) items block h, cuts-again (up_to span.start) (up_to-narrows span.start) items block h)

-- the item that each is a cut of

pub its-item : (items block : List Item) → CutsOf items block → (c : Item) → IsOneOf c block → (i : Item) × IsOneOf i items × IsCut i c
its-item items [] h c there = absurd there
its-item [] (b ∷ bs) h c there = absurd h
its-item (i ∷ is) (b ∷ bs) h c there =
    elim h [
      | inl one ↦ elim there [
        | inl same ↦ (i, inl refl, subst (IsCut i) (sym same) one.0)
        | inr rest ↦ let found = its-item is bs one.1 c rest in (found.0, inr found.1, found.2)
      ]
      | inr more ↦ let found = its-item is (b ∷ bs) more c there in (found.0, inr found.1, found.2)
    ]

apart : {G : Type 0} (n m : ℕ) → n < m → m ≡ n → G
apart n m h e = absurd (omega (arith, h, e))

one-there : (items : List Item) (i j : Item) → PositionsRise items → IsOneOf i items → IsOneOf j items → i.pos ≡ j.pos → i ≡ j
one-there [] i j rise p q e = absurd p
one-there (k ∷ ks) i j rise p q e =
    elim p [
      | inl a ↦ elim q [
        | inl b ↦ a ∙ sym b
        | inr d ↦ apart k.pos j.pos (after-in k.pos ks rise.0 j d) (sym e ∙ ap (λ (z : Item). z.pos) a)
      ]
      | inr c ↦ elim q [
        | inl b ↦ apart k.pos i.pos (after-in k.pos ks rise.0 i c) (e ∙ ap (λ (z : Item). z.pos) b)
        | inr d ↦ one-there ks i j rise.1 c d e
      ]
    ]

pos-kept : (i c : Item) → IsCut i c → i.pos ≡ c.pos
pos-kept i c is = sym (ap (λ (d : Item). d.pos) is.same)

pub cut-at-position : (items block : List Item) → PositionsRise items → CutsOf items block → (c : Item) → IsOneOf c block → (i : Item) → IsOneOf i items → i.pos ≡ c.pos → IsCut i c
cut-at-position items block rise h c there i own same =
    let found = its-item items block h c there in
    subst (λ j. IsCut j c) (one-there items found.0 i rise found.1 own (pos-kept found.0 c found.2 ∙ sym same)) found.2
