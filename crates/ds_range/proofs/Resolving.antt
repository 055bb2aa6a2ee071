-- The intents of a span settled, at the keys of the span that have writes.
use Rattle.std.proofs.Common.{◌≡◌, ℕ, zero, suc, Bool, true, false, cond, ◌||◌, List, [], ◌∷◌, map, take, Option, Some, None, is_some, refl, sym, ap, ◌∙◌, subst, ◌⊎◌, inl, inr, Result, Ok, Err, OnOk}
use Rattle.std.specs.List.{filter}
use Rattle.std.specs.Map.{lookup}
use Rattle.std.specs.BTreeMap.{is_at, insert_entry}
use Rattle.ds_base.specs.Order.{Extent, key_cmp, holds}
use Rattle.ds_base.specs.Ordered.{key_eq, AllOver, Ascends, between}
use Rattle.ds_base.specs.declared.value.Stamp.{Stamp}
use Rattle.ds_base.proofs.OrderedFacts.{eq_same, eq_itself}
use Rattle.ds_base.proofs.SmallFacts.{some_of}
use Rattle.ds_cell.specs.Content.{Content}
use Rattle.ds_cell.specs.Change.{settled}
use Rattle.ds_cell.specs.Seen.{last_of, held}
use Rattle.ds_cell.specs.Ask.{Cell, Cells, key_of}
use Rattle.ds_cell.specs.Store.{put_cell}
use Rattle.ds_rule.specs.Close.{settle_cells}
use Rattle.ds_rule.specs.Pieces.{Each}
use Rattle.ds_rule.specs.Serve.{settle_one, settle_in}
use Rattle.ds_serve.specs.Writes.{keys_written}
use Rattle.ds_serve.proofs.Limits.{Held, held_between}
use Rattle.ds_range.specs.Covers.{has_key, IsNoted, Covers, settled_one, settled_among}
use Rattle.ds_range.specs.Keeps.{settled_at}
use Rattle.ds_range.specs.Resolves.{PartlyAs, PartlySettled, settle_cell}
use Rattle.ds_range.proofs.Covering.{among_all, covers_within, no_writes, none_among, one_more, set_settled, settled_none, settled_noted, settled_twice}
use Rattle.ds_range.proofs.Maps.{content_some, put_there, key_eq_turned}

abbrev has_writes : Cell → Bool
has_writes p = is_some (last_of p.1.history)

-- keys that are there

-- each of these keys is there
abbrev pub AllThere : Cells → List (List ℕ) → Type 0
AllThere es [] = Unit {0}
AllThere es (k ∷ ks) = (has_key k (map key_of es) ≡ true) × AllThere es ks

there_under : (p : Cell) (es : Cells) (ks : List (List ℕ)) → AllThere es ks → AllThere (p ∷ es) ks
there_under p es [] h = tt
there_under p es (k ∷ ks) h = (one_more p.0 (map key_of es) k h.0, there_under p es ks h.1)

there_self : (es : Cells) → AllThere es (map key_of es)
there_self [] = tt
there_self (p ∷ es) = (ap (λ t. t || has_key p.0 (map key_of es)) (eq_itself p.0), there_under p es (map key_of es) (there_self es))

there_filter : (t : Cell → Bool) (es ps : Cells) → AllThere es (map key_of ps) → AllThere es (map key_of (filter t ps))
there_filter t es [] h = tt
there_filter t es (p ∷ ps) h =
    elim (t p) as (λ b. AllThere es (map key_of (cond b (p ∷ filter t ps) (filter t ps)))) [
      | true ↦ (h.0, there_filter t es ps h.1)
      | false ↦ there_filter t es ps h.1
    ]

there_written : (s e : List ℕ) (es : Cells) → AllThere es (keys_written (between key_of s e es))
there_written s e es =
    there_filter has_writes es (between key_of s e es) (there_filter (λ p. holds s e p.0) es es (there_self es))

-- the key is in the map
looked : (k : List ℕ) (es : Cells) → has_key k (map key_of es) ≡ true → is_some (lookup (is_at (key_cmp k)) es) ≡ true
looked k [] h = h
looked k (p ∷ ps) h =
    subst (λ t. is_some (cond t (Some p.1) (lookup (is_at (key_cmp k)) ps)) ≡ true) (sym (key_eq_turned k p.0))
    (elim (key_eq p.0 k) as (λ t. (t || has_key k (map key_of ps)) ≡ true → is_some (cond t (Some p.1) (lookup (is_at (key_cmp k)) ps)) ≡ true) [
      | true ↦ λ g. refl
      | false ↦ λ g. looked k ps g
    ] h)

-- a cell that is there, settled where it stands
put_settled : (txn : ℕ) (commit : Option Stamp) (k : List ℕ) (es : Cells) → Ascends key_of es → has_key k (map key_of es) ≡ true → put_cell k (settled txn commit) es ≡ settled_one txn commit k es
put_settled txn commit k es asc there =
    let found = some_of (lookup (is_at (key_cmp k)) es) (looked k es there) in
    ap (λ z. insert_entry key_cmp es k (settled txn commit z)) (sym (content_some k es found.0 found.1))
    ∙ sym (put_there k (settled txn commit found.0) es found.0 asc found.1)
    ∙ set_settled txn commit k found.0 es asc found.1

-- the keys stay

over_kept : (g : Cell → Content) (k : List ℕ) (es : Cells) → AllOver key_of k es → AllOver key_of k (map (λ p. (p.0, g p)) es)
over_kept g k [] h = tt
over_kept g k (p ∷ ps) h = (h.0, over_kept g k ps h.1)

ascends_kept : (g : Cell → Content) (es : Cells) → Ascends key_of es → Ascends key_of (map (λ p. (p.0, g p)) es)
ascends_kept g [] h = tt
ascends_kept g (p ∷ ps) h = (over_kept g p.0 ps h.0, ascends_kept g ps h.1)

keys_kept : (g : Cell → Content) (es : Cells) → map key_of (map (λ p. (p.0, g p)) es) ≡ map key_of es
keys_kept g [] = refl
keys_kept g (p ∷ ps) = ap (λ ks. p.0 ∷ ks) (keys_kept g ps)

there_kept : (es fs : Cells) (ks : List (List ℕ)) → map key_of fs ≡ map key_of es → AllThere es ks → AllThere fs ks
there_kept es fs [] same h = tt
there_kept es fs (k ∷ ks) same h = (ap (has_key k) same ∙ h.0, there_kept es fs ks same h.1)

-- settled at one key, and then at others

one_then : (txn : ℕ) (commit : Option Stamp) (t u : Bool) (c : Content) → cond u (settled txn commit (cond t (settled txn commit c) c)) (cond t (settled txn commit c) c) ≡ cond (t || u) (settled txn commit c) c
one_then txn commit true true c = settled_twice txn commit c
one_then txn commit true false c = refl
one_then txn commit false true c = refl
one_then txn commit false false c = refl

among_then : (txn : ℕ) (commit : Option Stamp) (k : List ℕ) (ks : List (List ℕ)) (es : Cells) → settled_among txn commit ks (settled_one txn commit k es) ≡ settled_among txn commit (k ∷ ks) es
among_then txn commit k ks [] = refl
among_then txn commit k ks (p ∷ ps) =
    ap (λ c. (p.0, c) ∷ settled_among txn commit ks (settled_one txn commit k ps)) (one_then txn commit (key_eq k p.0) (has_key p.0 ks) p.1)
    ∙ ap (λ qs. (p.0, cond (has_key p.0 (k ∷ ks)) (settled txn commit p.1) p.1) ∷ qs) (among_then txn commit k ks ps)

at_among : (txn : ℕ) (commit : Option Stamp) (ks : List (List ℕ)) (es : Cells) → Ascends key_of es → AllThere es ks → settled_at txn commit ks es ≡ settled_among txn commit ks es
at_among txn commit [] es asc there = sym (none_among txn commit es)
at_among txn commit (k ∷ ks) es asc there =
    let now = settled_one txn commit k es in
    let change : Cell → Content = λ p. cond (key_eq k p.0) (settled txn commit p.1) p.1 in
    ap (settled_at txn commit ks) (put_settled txn commit k es asc there.0)
    ∙ at_among txn commit ks now (ascends_kept change es asc) (there_kept es now ks (keys_kept change es) there.1)
    ∙ among_then txn commit k ks es

-- settled at the keys with writes is settled in the span

pub held_key : (s e : List ℕ) (ks : List (List ℕ)) (k : List ℕ) → Each (Held s e) ks → has_key k ks ≡ true → holds s e k ≡ true
held_key s e [] k all h = let no_key : false ≡ true = h in cc
held_key s e (q ∷ ks) k all h =
    elim (key_eq q k) as (λ t. key_eq q k ≡ t → (t || has_key k ks) ≡ true → holds s e k ≡ true) [
      | true ↦ λ i g. subst (λ z. holds s e z ≡ true) (eq_same q k i) all.0
      | false ↦ λ i g. held_key s e ks k all.1 g
    ] refl h

covers_written : (ps : Cells) → Covers (keys_written ps) ps
covers_written [] = tt
covers_written (p ∷ ps) =
    elim (last_of p.1.history) as (λ o. IsNoted (map key_of (cond (is_some o) (p ∷ filter has_writes ps) (filter has_writes ps))) p.0 o × Covers (map key_of (cond (is_some o) (p ∷ filter has_writes ps) (filter has_writes ps))) ps) [
      | None ↦ (tt, covers_written ps)
      | Some w ↦ (
        ap (λ t. t || has_key p.0 (keys_written ps)) (eq_itself p.0),
        covers_within (keys_written ps) (p.0 ∷ keys_written ps) ps (one_more p.0 (keys_written ps)) (covers_written ps),
      )
    ]

out_of : (s e : List ℕ) (ks : List (List ℕ)) (k : List ℕ) → Each (Held s e) ks → holds s e k ≡ false → has_key k ks ≡ false
out_of s e ks k all out =
    elim (has_key k ks) as (λ t. has_key k ks ≡ t → t ≡ false) [
      | true ↦ λ h. sym (held_key s e ks k all h) ∙ out
      | false ↦ λ h. refl
    ] refl

among_span : (txn : ℕ) (commit : Option Stamp) (x : Extent) (ks : List (List ℕ)) (es : Cells) → Each (Held x.start x.end) ks → Covers ks (between key_of x.start x.end es) → settled_among txn commit ks es ≡ settle_in x txn commit es
among_span txn commit x ks [] all cover = refl
among_span txn commit x ks (p ∷ ps) all cover =
    elim (holds x.start x.end p.0) as (λ t. holds x.start x.end p.0 ≡ t → Covers ks (cond t (p ∷ between key_of x.start x.end ps) (between key_of x.start x.end ps)) → (p.0, cond (has_key p.0 ks) (settled txn commit p.1) p.1) ∷ settled_among txn commit ks ps ≡ cond t (p.0, settled txn commit p.1) p ∷ settle_in x txn commit ps) [
      | true ↦ λ i c.
          ap (λ z. (p.0, z) ∷ settled_among txn commit ks ps) (
          elim (has_key p.0 ks) as (λ t. has_key p.0 ks ≡ t → cond t (settled txn commit p.1) p.1 ≡ settled txn commit p.1) [
            | true ↦ λ e. refl
            | false ↦ λ e. sym (settled_none txn commit p.1 (no_writes (last_of p.1.history) ks p.0 c.0 e))
          ] refl
          )
          ∙ ap (λ qs. (p.0, settled txn commit p.1) ∷ qs) (among_span txn commit x ks ps all c.1)
      | false ↦ λ i c.
          ap (λ t. (p.0, cond t (settled txn commit p.1) p.1) ∷ settled_among txn commit ks ps) (out_of x.start x.end ks p.0 all i)
          ∙ ap (λ qs. p ∷ qs) (among_span txn commit x ks ps all c)
    ] refl cover

pub among_in : (txn : ℕ) (commit : Option Stamp) (x : Extent) (ks : List (List ℕ)) (es now : Cells) → ks ≡ keys_written (between key_of x.start x.end es) → now ≡ settled_among txn commit ks es → now ≡ settle_in x txn commit es
among_in txn commit x ks es now are is =
    is ∙ ap (λ z. settled_among txn commit z es) are
    ∙ among_span txn commit x (keys_written (between key_of x.start x.end es)) es (held_between has_writes x.start x.end es) (covers_written (between key_of x.start x.end es))

pub at_in : (txn : ℕ) (commit : Option Stamp) (x : Extent) (ks : List (List ℕ)) (es now : Cells) → Ascends key_of es → ks ≡ keys_written (between key_of x.start x.end es) → now ≡ settled_at txn commit ks es → now ≡ settle_in x txn commit es
at_in txn commit x ks es now asc are is =
    among_in txn commit x ks es now are
    (is ∙ at_among txn commit ks es asc (subst (AllThere es) (sym are) (there_written x.start x.end es)))

-- settled at some of them

taken_key : (n : ℕ) (ks : List (List ℕ)) (k : List ℕ) → has_key k (take n ks) ≡ true → has_key k ks ≡ true
taken_key zero ks k h = let no_key : false ≡ true = h in cc
taken_key (suc n) [] k h = h
taken_key (suc n) (q ∷ ks) k h =
    elim (key_eq q k) as (λ t. (t || has_key k (take n ks)) ≡ true → (t || has_key k ks) ≡ true) [
      | true ↦ λ g. refl
      | false ↦ λ g. taken_key n ks k g
    ] h

partly : (txn : ℕ) (commit : Option Stamp) (x : Extent) (ks : List (List ℕ)) (es : Cells) → ((k : List ℕ) → has_key k ks ≡ true → holds x.start x.end k ≡ true) → PartlyAs (settle_one x txn commit) es (settled_among txn commit ks es)
partly txn commit x ks [] inside = tt
partly txn commit x ks (p ∷ ps) inside = (
  elim (has_key p.0 ks) as (λ t. has_key p.0 ks ≡ t → ((p.0, cond t (settled txn commit p.1) p.1) ≡ p) ⊎ ((p.0, cond t (settled txn commit p.1) p.1) ≡ settle_one x txn commit p)) [
    | true ↦ λ e. inr (sym (ap (λ t. cond t (p.0, settled txn commit p.1) p) (inside p.0 e)))
    | false ↦ λ e. inl refl
  ] refl,
  partly txn commit x ks ps inside,
)

pub partly_in : (txn : ℕ) (commit : Option Stamp) (x : Extent) (n : ℕ) (ks : List (List ℕ)) (es now : Cells) → ks ≡ keys_written (between key_of x.start x.end es) → now ≡ settled_among txn commit (take n ks) es → PartlySettled x txn (Some commit) es now
partly_in txn commit x n ks es now are is =
    subst (PartlyAs (settle_one x txn commit) es) (sym is)
    (partly txn commit x (take n ks) es (λ k h. held_key x.start x.end (keys_written (between key_of x.start x.end es)) k (held_between has_writes x.start x.end es) (subst (λ z. has_key k z ≡ true) are (taken_key n ks k h))))

pub nothing_partly : (txn : ℕ) (commit : Option Stamp) (x : Extent) (es : Cells) → PartlySettled x txn (Some commit) es es
nothing_partly txn commit x [] = tt
nothing_partly txn commit x (p ∷ ps) = (inl refl, nothing_partly txn commit x ps)

-- the same wherever the transaction has intents

each_partly : (txn : ℕ) (commit : Option Stamp) (ks : List (List ℕ)) (es : Cells) → PartlyAs (settle_cell txn commit) es (settled_among txn commit ks es)
each_partly txn commit ks [] = tt
each_partly txn commit ks (p ∷ ps) = (
  elim (has_key p.0 ks) as (λ t. ((p.0, cond t (settled txn commit p.1) p.1) ≡ p) ⊎ ((p.0, cond t (settled txn commit p.1) p.1) ≡ settle_cell txn commit p)) [
    | true ↦ inr refl
    | false ↦ inl refl
  ],
  each_partly txn commit ks ps,
)

pub partly_all : (txn : ℕ) (commit : Option Stamp) (ks : List (List ℕ)) (es now : Cells) → now ≡ settled_among txn commit ks es → PartlyAs (settle_cell txn commit) es now
partly_all txn commit ks es now is = subst (PartlyAs (settle_cell txn commit) es) (sym is) (each_partly txn commit ks es)

pub none_partly : (txn : ℕ) (commit : Option Stamp) (es : Cells) → PartlyAs (settle_cell txn commit) es es
none_partly txn commit [] = tt
none_partly txn commit (p ∷ ps) = (inl refl, none_partly txn commit ps)

-- settling again settles the rest
again_one : (txn : ℕ) (commit : Option Stamp) (p q : Cell) → (q ≡ p) ⊎ (q ≡ settle_cell txn commit p) → settle_cell txn commit q ≡ settle_cell txn commit p
again_one txn commit p q (inl h) = ap (settle_cell txn commit) h
again_one txn commit p q (inr h) = ap (settle_cell txn commit) h ∙ ap (λ c. (p.0, c)) (settled_twice txn commit p.1)

pub settled_again : (txn : ℕ) (commit : Option Stamp) (old new : Cells) → PartlyAs (settle_cell txn commit) old new → settle_cells txn commit new ≡ settle_cells txn commit old
settled_again txn commit [] [] h = refl
settled_again txn commit [] (q ∷ qs) h = absurd h
settled_again txn commit (p ∷ ps) [] h = absurd h
settled_again txn commit (p ∷ ps) (q ∷ qs) h =
    ap (λ z. z ∷ settle_cells txn commit qs) (again_one txn commit p q h.0) ∙ ap (λ zs. settle_cell txn commit p ∷ zs) (settled_again txn commit ps qs h.1)

-- the keys with writes are among those before

covers_among : (txn : ℕ) (commit : Option Stamp) (ls ks : List (List ℕ)) (es : Cells) → Covers ks es → Covers ks (settled_among txn commit ls es)
covers_among txn commit ls ks [] h = tt
covers_among txn commit ls ks (p ∷ ps) h = (
  elim (has_key p.0 ls) as (λ t. IsNoted ks p.0 (last_of (cond t (settled txn commit p.1) p.1).history)) [
    | true ↦ settled_noted ks p.0 commit (last_of (held txn p.1)) p.1 h.0
    | false ↦ h.0
  ],
  covers_among txn commit ls ks ps h.1,
)

pub covers_still : (txn : ℕ) (commit : Option Stamp) (ls : List (List ℕ)) (es now : Cells) → now ≡ settled_among txn commit ls es → (ks : List (List ℕ)) → Covers ks es → Covers ks now
covers_still txn commit ls es now is ks h = subst (Covers ks) (sym is) (covers_among txn commit ls ks es h)

-- settled at all keys that can have writes, if memory was enough

settled_covers : (txn : ℕ) (commit : Option Stamp) (ls ks : List (List ℕ)) (es now : Cells) → now ≡ settled_among txn commit ls es → Covers ks es → Covers ks now
settled_covers txn commit ls ks es now is h = covers_still txn commit ls es now is ks h

pub each_settled : {U E : Type 0} (txn : ℕ) (commit : Option Stamp) (ks : List (List ℕ)) (es now : Cells) (r : Result U E) → Covers ks es → OnOk r (now ≡ settled_among txn commit ks es) → OnOk r (now ≡ settle_cells txn commit es)
each_settled txn commit ks es now (Ok u) h is = is ∙ among_all txn commit ks es h
each_settled txn commit ks es now (Err e) h is = tt

pub each_covered : {U E : Type 0} (txn : ℕ) (commit : Option Stamp) (ks : List (List ℕ)) (es now : Cells) (r : Result U E) → Covers ks es → OnOk r (now ≡ settled_among txn commit ks es) → OnOk r (Covers ks now)
each_covered txn commit ks es now (Ok u) h is = settled_covers txn commit ks ks es now is h
each_covered txn commit ks es now (Err e) h is = tt
