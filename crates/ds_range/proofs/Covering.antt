-- The keys at which writes can stand: after a change, after it is taken back, and after a transaction's intents are settled.
use Rattle.std.proofs.Common.{◌≡◌, ℕ, ◌+◌, ◌<◌, ◌≤◌, suc, zero, true, false, Bool, cond, List, [], ◌∷◌, ◌++◌, map, length, take, get_or, is_some, Option, Some, None, refl, sym, ap, ◌∙◌, subst, arith, Result, Ok, Err, OnOk, OnErr, IfOk, ◌||◌, ◌==◌}
use Rattle.std.specs.declared.alloc.AllocError.{AllocError}
use Rattle.std.specs.Map.{lookup, remove_entry, set_value}
use Rattle.std.specs.BTreeMap.{is_at, insert_entry}
use Rattle.std.specs.Ordering.{is_eq, match_ordering}
use Rattle.std.specs.declared.cmp.Ordering.TheVariants.{Less, Equal, Greater}
use Rattle.std.proofs.lemmas.List.{take_more}
use Rattle.std.proofs.lemmas.List.Folds.{list_any-append}
use Rattle.ds_base.specs.Order.{key_cmp}
use Rattle.ds_base.specs.Ordered.{key_eq, AllOver, Ascends, at_key}
use Rattle.ds_base.specs.declared.value.Stamp.{Stamp}
use Rattle.ds_base.proofs.OrderedFacts.{eq_same, eq_itself, lt_not_eq}
use Rattle.ds_base.proofs.SmallFacts.{or_right, none_some, some_same}
use Rattle.ds_cell.specs.declared.entry.Version.{Version}
use Rattle.ds_cell.specs.declared.entry.Written.{Written}
use Rattle.ds_cell.specs.declared.taken.Taken.{Taken}
use Rattle.ds_cell.specs.Content.{Content, no_content}
use Rattle.ds_cell.specs.Change.{settled, settled_by, after_foreign, foreign_by}
use Rattle.ds_cell.specs.Seen.{last_of, held}
use Rattle.ds_cell.specs.Taken.{given_back}
use Rattle.ds_cell.specs.Ask.{Cells, key_of, content_of, content_at}
use Rattle.ds_rule.specs.Close.{settle_cells}
use Rattle.ds_range.specs.Covers.{has_key, IsNoted, Covers, CoversIf, settled_one, settled_among}
use Rattle.ds_range.specs.Keeps.{Kept, put_back, restored, kept_keys}
use Rattle.ds_range.proofs.Maps.{missing, key_eq_turned}

-- more keys

abbrev pub Within : List (List ℕ) → List (List ℕ) → Type 0
Within ks ls = (k : List ℕ) → has_key k ks ≡ true → has_key k ls ≡ true

noted_within : (ks ls : List (List ℕ)) (k : List ℕ) (o : Option Written) → Within ks ls → IsNoted ks k o → IsNoted ls k o
noted_within ks ls k None w h = tt
noted_within ks ls k (Some v) w h = w k h

pub covers_within : (ks ls : List (List ℕ)) (es : Cells) → Within ks ls → Covers ks es → Covers ls es
covers_within ks ls [] w h = tt
covers_within ks ls (p ∷ ps) w h = (noted_within ks ls p.0 (last_of p.1.history) w h.0, covers_within ks ls ps w h.1)

pub one_more : (k : List ℕ) (ks : List (List ℕ)) → Within ks (k ∷ ks)
one_more k ks q h = or_right (key_eq k q) (has_key q ks) h

or_moved : (a b c : Bool) → (a || (b || c)) ≡ true → (b || (c || (a || false))) ≡ true
or_moved true true c h = refl
or_moved true false true h = refl
or_moved true false false h = refl
or_moved false true c h = refl
or_moved false false true h = refl
or_moved false false false h = h

-- a key that comes first may as well come last
first_last : (k : List ℕ) (ks ls : List (List ℕ)) → Within (k ∷ ks ++ ls) (ks ++ (ls ++ k ∷ []))
first_last k ks ls q h =
    list_any-append (λ z. key_eq z q) ks (ls ++ k ∷ [])
    ∙ ap (λ t. has_key q ks || t) (list_any-append (λ z. key_eq z q) ls (k ∷ []))
    ∙ or_moved (key_eq k q) (has_key q ks) (has_key q ls) (sym (ap (λ t. key_eq k q || t) (list_any-append (λ z. key_eq z q) ks ls)) ∙ h)

or_swapped : (a b c : Bool) → (b || (a || c)) ≡ true → (a || (b || c)) ≡ true
or_swapped true b c h = refl
or_swapped false b c h = h

middle_first : (k : List ℕ) (ks ls : List (List ℕ)) → Within (ks ++ k ∷ ls) (k ∷ ks ++ ls)
middle_first k ks ls q h =
    ap (λ t. key_eq k q || t) (list_any-append (λ z. key_eq z q) ks ls)
    ∙ or_swapped (key_eq k q) (has_key q ks) (has_key q ls) (sym (list_any-append (λ z. key_eq z q) ks (k ∷ ls)) ∙ h)

-- what is put back

first_noted : (k : List ℕ) (ks : List (List ℕ)) (q : List ℕ) (o : Option Written) → key_eq k q ≡ true → IsNoted (k ∷ ks) q o
first_noted k ks q None h = tt
first_noted k ks q (Some w) h = ap (λ t. t || has_key q ks) h

covers_removed : (k : List ℕ) (ks : List (List ℕ)) (es : Cells) → Covers ks (remove_entry (is_at (key_cmp k)) es) → Covers (k ∷ ks) es
covers_removed k ks [] h = tt
covers_removed k ks (p ∷ ps) h =
    elim (key_eq k p.0) as (λ t. key_eq k p.0 ≡ t → Covers ks (cond t ps (p ∷ remove_entry (is_at (key_cmp k)) ps)) → Covers (k ∷ ks) (p ∷ ps)) [
      | true ↦ λ e g. (first_noted k ks p.0 (last_of p.1.history) e, covers_within ks (k ∷ ks) ps (one_more k ks) g)
      | false ↦ λ e g. (noted_within ks (k ∷ ks) p.0 (last_of p.1.history) (one_more k ks) g.0, covers_removed k ks ps g.1)
    ] refl h

covers_set : (k : List ℕ) (ks : List (List ℕ)) (es : Cells) (c : Content) → Covers ks (set_value (is_at (key_cmp k)) es c) → Covers (k ∷ ks) es
covers_set k ks [] c h = tt
covers_set k ks (p ∷ ps) c h =
    elim (key_eq k p.0) as (λ t. key_eq k p.0 ≡ t → Covers ks (cond t ((p.0, c) ∷ ps) (p ∷ set_value (is_at (key_cmp k)) ps c)) → Covers (k ∷ ks) (p ∷ ps)) [
      | true ↦ λ e g. (first_noted k ks p.0 (last_of p.1.history) e, covers_within ks (k ∷ ks) ps (one_more k ks) g.1)
      | false ↦ λ e g. (noted_within ks (k ∷ ks) p.0 (last_of p.1.history) (one_more k ks) g.0, covers_set k ks ps c g.1)
    ] refl h

covers_back : (k : List ℕ) (o : Option Taken) (ks : List (List ℕ)) (es : Cells) → Covers ks (put_back k o es) → Covers (k ∷ ks) es
covers_back k None ks es h = covers_removed k ks es h
covers_back k (Some t) ks es h = covers_set k ks es (given_back t (content_at k es)) h

-- before all is put back, the keys that were kept may have writes too
pub covers_kept : (us : List Kept) (ks : List (List ℕ)) (es : Cells) → Covers ks (restored us es) → Covers (kept_keys us ++ ks) es
covers_kept [] ks es h = h
covers_kept (u ∷ us) ks es h =
    covers_within (kept_keys us ++ u.0 ∷ ks) (u.0 ∷ kept_keys us ++ ks) es (middle_first u.0 (kept_keys us) ks)
    (covers_kept us (u.0 ∷ ks) es (covers_back u.0 u.1 ks (restored us es) h))

-- a key that has no writes needn't be among them

other_noted : (k : List ℕ) (ks : List (List ℕ)) (q : List ℕ) (o : Option Written) → key_eq k q ≡ false → IsNoted (k ∷ ks) q o → IsNoted ks q o
other_noted k ks q None apart h = tt
other_noted k ks q (Some w) apart h = sym (ap (λ t. t || has_key q ks) apart) ∙ h

covers_over : (k : List ℕ) (ks : List (List ℕ)) (es : Cells) → AllOver key_of k es → Covers (k ∷ ks) es → Covers ks es
covers_over k ks [] all h = tt
covers_over k ks (p ∷ ps) all h = (other_noted k ks p.0 (last_of p.1.history) (lt_not_eq k p.0 all.0) h.0, covers_over k ks ps all.1 h.1)

none_noted : (ks : List (List ℕ)) (q : List ℕ) (o : Option Written) → is_some o ≡ false → IsNoted ks q o
none_noted ks q None h = tt
none_noted ks q (Some w) h = cc

pub covers_less : (k : List ℕ) (ks : List (List ℕ)) (es : Cells) → Ascends key_of es → is_some (last_of (content_at k es).history) ≡ false → Covers (k ∷ ks) es → Covers ks es
covers_less k ks [] asc none h = tt
covers_less k ks (p ∷ ps) asc none h =
    elim (key_eq p.0 k) as (λ t. key_eq p.0 k ≡ t → is_some (last_of (content_of (cond t (Some p) (at_key key_of k ps))).history) ≡ false → Covers ks (p ∷ ps)) [
      | true ↦ λ e g. (none_noted ks p.0 (last_of p.1.history) g, covers_over k ks ps (subst (λ z. AllOver key_of z ps) (eq_same p.0 k e) asc.0) h.1)
      | false ↦ λ e g. (other_noted k ks p.0 (last_of p.1.history) (key_eq_turned k p.0 ∙ e) h.0, covers_less k ks ps asc.1 g h.1)
    ] refl none

-- whether it is noted or not
pub covers_more : (k : List ℕ) (ks ls ms : List (List ℕ)) (es : Cells) → ms ≡ ls ++ k ∷ [] → Covers (k ∷ ks ++ ls) es → Covers (ks ++ ms) es
covers_more k ks ls ms es more h =
    subst (λ z. Covers (ks ++ z) es) (sym more) (covers_within (k ∷ ks ++ ls) (ks ++ (ls ++ k ∷ [])) es (first_last k ks ls) h)

-- a write of another client leaves the writes of transactions

foreign_history : (o : Option Written) (v : Version) (c : Content) → (foreign_by o v c).history ≡ c.history
foreign_history None v c = refl
foreign_history (Some w) v c = refl

pub foreign_leaves : (v : Version) (c d : Content) → {U : Type 0} → (r : Result U AllocError) → OnOk r (d ≡ after_foreign v c) → OnErr r (d ≡ c) → d.history ≡ c.history
foreign_leaves v c d (Ok u) ok err = ap (λ z. z.history) ok ∙ foreign_history (last_of c.history) v c
foreign_leaves v c d (Err e) ok err = ap (λ z. z.history) err

covers_same : (k : List ℕ) (ks : List (List ℕ)) (c d : Content) (es : Cells) → lookup (is_at (key_cmp k)) es ≡ Some c → d.history ≡ c.history → Covers ks es → Covers ks (set_value (is_at (key_cmp k)) es d)
covers_same k ks c d [] there same h = tt
covers_same k ks c d (p ∷ ps) there same h =
    elim (is_eq (key_cmp k p.0)) as (λ t. cond t (Some p.1) (lookup (is_at (key_cmp k)) ps) ≡ Some c → Covers ks (cond t ((p.0, d) ∷ ps) (p ∷ set_value (is_at (key_cmp k)) ps d))) [
      | true ↦ λ g. (subst (λ z. IsNoted ks p.0 (last_of z)) (ap (λ z. z.history) (some_same p.1 c g) ∙ sym same) h.0, h.1)
      | false ↦ λ g. (h.0, covers_same k ks c d ps g same h.1)
    ] there

pub covers_there : (k : List ℕ) (c d : Content) (es after : Cells) → lookup (is_at (key_cmp k)) es ≡ Some c → d.history ≡ c.history → after ≡ set_value (is_at (key_cmp k)) es d → (ks : List (List ℕ)) → Covers ks es → Covers ks after
covers_there k c d es after there same now ks h = subst (Covers ks) (sym now) (covers_same k ks c d es there same h)

covers_begun : (k : List ℕ) (ks : List (List ℕ)) (d : Content) (es : Cells) → d.history ≡ [] → Covers ks es → Covers ks (insert_entry key_cmp es k d)
covers_begun k ks d [] none h = (subst (λ z. IsNoted ks k (last_of z)) (sym none) tt, tt)
covers_begun k ks d (p ∷ ps) none h =
    elim (key_cmp k p.0) as (λ o. Covers ks (match_ordering o ((k, d) ∷ p ∷ ps) ((p.0, d) ∷ ps) (p ∷ insert_entry key_cmp ps k d))) [
      | Less ↦ (subst (λ z. IsNoted ks k (last_of z)) (sym none) tt, h)
      | Equal ↦ (subst (λ z. IsNoted ks p.0 (last_of z)) (sym none) tt, h.1)
      | Greater ↦ (h.0, covers_begun k ks d ps none h.1)
    ]

pub begun_covers : (k : List ℕ) (v : Version) (d : Content) (es after : Cells) → d ≡ after_foreign v no_content → after ≡ insert_entry key_cmp es k d → (ks : List (List ℕ)) → Covers ks es → Covers ks after
begun_covers k v d es after is now ks h = subst (Covers ks) (sym now) (covers_begun k ks d es (ap (λ z. z.history) is) h)

pub covers_if : (o : Option (List (List ℕ))) (old new : Cells) → ((ks : List (List ℕ)) → Covers ks old → Covers ks new) → CoversIf o old → CoversIf o new
covers_if None old new f h = tt
covers_if (Some ks) old new f h = f ks h

-- all keys

all_in : (k : List ℕ) (ks : List (List ℕ)) (es : Cells) → Within (map key_of es) ks → Covers ks es
all_in k ks [] w = tt
all_in k ks (p ∷ ps) w = (
  itself (last_of p.1.history),
  all_in k ks ps (λ q h. w q (or_right (key_eq p.0 q) (has_key q (map key_of ps)) h)),
)
  where
    itself : (o : Option Written) → IsNoted ks p.0 o
    itself None = tt
    itself (Some v) = w p.0 (ap (λ t. t || has_key p.0 (map key_of ps)) (eq_itself p.0))

all_keys : (ks : List (List ℕ)) (es : Cells) → ks ≡ map key_of es → Covers ks es
all_keys ks es are = all_in [] ks es (λ q h. ap (has_key q) are ∙ h)

pub all_keys_if : {E : Type 0} (o : Option (List (List ℕ))) (es : Cells) (r : Result (List (List ℕ)) E) → IfOk r (λ ks. ks ≡ map key_of es) → IfOk r (λ ks. CoversIf o es → Covers ks es)
all_keys_if o es (Ok ks) are = λ _. all_keys ks es are
all_keys_if o es (Err e) are = tt

-- settling

pub settled_none : (txn : ℕ) (commit : Option Stamp) (c : Content) → last_of c.history ≡ None → settled txn commit c ≡ c
settled_none txn commit c none = ap (λ o. settled_by commit o c) (held_none (c.owner == txn))
  where
    held_none : (t : Bool) → last_of (cond t c.history []) ≡ None
    held_none true = none
    held_none false = refl

settled_by_twice : (txn : ℕ) (commit : Option Stamp) (o : Option Written) (c : Content) → last_of (held txn c) ≡ o → settled txn commit (settled_by commit o c) ≡ settled_by commit o c
settled_by_twice txn commit None c is = ap (λ z. settled_by commit z c) is
settled_by_twice txn commit (Some w) c is = settled_none txn commit (settled_by commit (Some w) c) refl

pub settled_twice : (txn : ℕ) (commit : Option Stamp) (c : Content) → settled txn commit (settled txn commit c) ≡ settled txn commit c
settled_twice txn commit c = settled_by_twice txn commit (last_of (held txn c)) c refl

settled_one_none : (txn : ℕ) (commit : Option Stamp) (k : List ℕ) (es : Cells) → lookup (is_at (key_cmp k)) es ≡ None → settled_one txn commit k es ≡ es
settled_one_none txn commit k [] h = refl
settled_one_none txn commit k (p ∷ ps) h =
    elim (key_eq k p.0) as (λ t. cond t (Some p.1) (lookup (is_at (key_cmp k)) ps) ≡ None → (p.0, cond t (settled txn commit p.1) p.1) ∷ settled_one txn commit k ps ≡ p ∷ ps) [
      | true ↦ λ g. none_some p.1 (sym g)
      | false ↦ λ g. ap (λ qs. p ∷ qs) (settled_one_none txn commit k ps g)
    ] h

-- a key that isn't there
pub one_missing : (txn : ℕ) (commit : Option Stamp) (k : List ℕ) (es : Cells) → lookup (is_at (key_cmp k)) es ≡ None → es ≡ settled_one txn commit k es
one_missing txn commit k es none = sym (settled_one_none txn commit k es none)

pub set_settled : (txn : ℕ) (commit : Option Stamp) (k : List ℕ) (c : Content) (es : Cells) → Ascends key_of es → lookup (is_at (key_cmp k)) es ≡ Some c → set_value (is_at (key_cmp k)) es (settled txn commit c) ≡ settled_one txn commit k es
set_settled txn commit k c [] asc h = none_some c h
set_settled txn commit k c (p ∷ ps) asc h =
    elim (key_eq k p.0) as (λ t. key_eq k p.0 ≡ t → cond t (Some p.1) (lookup (is_at (key_cmp k)) ps) ≡ Some c → cond t ((p.0, settled txn commit c) ∷ ps) (p ∷ set_value (is_at (key_cmp k)) ps (settled txn commit c)) ≡ (p.0, cond t (settled txn commit p.1) p.1) ∷ settled_one txn commit k ps) [
      | true ↦ λ e g.
          ap (λ z. (p.0, settled txn commit z) ∷ ps) (sym (some_same p.1 c g))
          ∙ ap (λ qs. (p.0, settled txn commit p.1) ∷ qs) (sym (settled_one_none txn commit k ps (missing k ps (subst (λ z. AllOver key_of z ps) (sym (eq_same k p.0 e)) asc.0))))
      | false ↦ λ e g. ap (λ qs. p ∷ qs) (set_settled txn commit k c ps asc.1 g)
    ] refl h

-- a key that is there
pub one_settled : (txn : ℕ) (commit : Option Stamp) (k : List ℕ) (c d : Content) (es after : Cells) → {U : Type 0} → (r : Result U AllocError) → Ascends key_of es → lookup (is_at (key_cmp k)) es ≡ Some c → OnOk r (d ≡ settled txn commit c) → after ≡ set_value (is_at (key_cmp k)) es d → OnOk r (after ≡ settled_one txn commit k es)
one_settled txn commit k c d es after (Ok u) asc there is now = now ∙ ap (set_value (is_at (key_cmp k)) es) is ∙ set_settled txn commit k c es asc there
one_settled txn commit k c d es after (Err e) asc there is now = tt

one_after : (txn : ℕ) (commit : Option Stamp) (t u : Bool) (c : Content) → cond u (settled txn commit (cond t (settled txn commit c) c)) (cond t (settled txn commit c) c) ≡ cond (t || (u || false)) (settled txn commit c) c
one_after txn commit true true c = settled_twice txn commit c
one_after txn commit true false c = refl
one_after txn commit false true c = refl
one_after txn commit false false c = refl

among_more : (txn : ℕ) (commit : Option Stamp) (ks : List (List ℕ)) (k : List ℕ) (es : Cells) → settled_one txn commit k (settled_among txn commit ks es) ≡ settled_among txn commit (ks ++ k ∷ []) es
among_more txn commit ks k [] = refl
among_more txn commit ks k (p ∷ ps) =
    ap (λ c. (p.0, c) ∷ settled_one txn commit k (settled_among txn commit ks ps)) (
    one_after txn commit (has_key p.0 ks) (key_eq k p.0) p.1
    ∙ ap (λ t. cond t (settled txn commit p.1) p.1) (sym (list_any-append (λ z. key_eq z p.0) ks (k ∷ [])))
    )
    ∙ ap (λ qs. (p.0, cond (has_key p.0 (ks ++ k ∷ [])) (settled txn commit p.1) p.1) ∷ qs) (among_more txn commit ks k ps)

pub none_among : (txn : ℕ) (commit : Option Stamp) (es : Cells) → settled_among txn commit [] es ≡ es
none_among txn commit [] = refl
none_among txn commit (p ∷ ps) = ap (λ qs. p ∷ qs) (none_among txn commit ps)

pub among_first : (txn : ℕ) (commit : Option Stamp) (es : Cells) → es ≡ settled_among txn commit [] es
among_first txn commit es = sym (none_among txn commit es)

-- one key more
pub among_take : (txn : ℕ) (commit : Option Stamp) (ks : List (List ℕ)) (i : ℕ) (k : List ℕ) (old now next : Cells) → now ≡ settled_among txn commit (take i ks) old → i < length ks → k ≡ get_or ks i k → next ≡ settled_one txn commit k now → next ≡ settled_among txn commit (take (i + 1) ks) old
among_take txn commit ks i k old now next so_far low at more =
    more ∙ ap (settled_one txn commit k) so_far ∙ among_more txn commit (take i ks) k old
    ∙ ap (λ qs. settled_among txn commit qs old) (ap (λ z. take i ks ++ z ∷ []) at ∙ sym (take_more ks i k low))

pub among_keys : (txn : ℕ) (commit : Option Stamp) (ks : List (List ℕ)) (es now : Cells) → now ≡ settled_among txn commit ks es → map key_of now ≡ map key_of es
among_keys txn commit ks es now is = ap (map key_of) is ∙ kept es
  where
    kept : (es : Cells) → map key_of (settled_among txn commit ks es) ≡ map key_of es
    kept [] = refl
    kept (p ∷ ps) = ap (λ qs. p.0 ∷ qs) (kept ps)

pub no_writes : (o : Option Written) (ks : List (List ℕ)) (k : List ℕ) → IsNoted ks k o → has_key k ks ≡ false → o ≡ None
no_writes None ks k h out = refl
no_writes (Some w) ks k h out = let both : true ≡ false = sym h ∙ out in cc

-- settled at all keys with writes is settled everywhere
pub among_all : (txn : ℕ) (commit : Option Stamp) (ks : List (List ℕ)) (es : Cells) → Covers ks es → settled_among txn commit ks es ≡ settle_cells txn commit es
among_all txn commit ks [] h = refl
among_all txn commit ks (p ∷ ps) h =
    ap (λ c. (p.0, c) ∷ settled_among txn commit ks ps) (
    elim (has_key p.0 ks) as (λ t. has_key p.0 ks ≡ t → cond t (settled txn commit p.1) p.1 ≡ settled txn commit p.1) [
      | true ↦ λ e. refl
      | false ↦ λ e. sym (settled_none txn commit p.1 (no_writes (last_of p.1.history) ks p.0 h.0 e))
    ] refl
    )
    ∙ ap (λ qs. (p.0, settled txn commit p.1) ∷ qs) (among_all txn commit ks ps h.1)

pub take_whole : (n : ℕ) (ks : List (List ℕ)) → length ks ≤ n → take n ks ≡ ks
take_whole zero [] low = refl
take_whole zero (k ∷ ks) low = absurd (omega arith)
take_whole (suc n) [] low = refl
take_whole (suc n) (k ∷ ks) low = ap (λ qs. k ∷ qs) (take_whole n ks (omega (arith, low)))

pub among_done : (txn : ℕ) (commit : Option Stamp) (ks : List (List ℕ)) (n : ℕ) (es now : Cells) → Covers ks es → length ks ≤ n → now ≡ settled_among txn commit (take n ks) es → now ≡ settle_cells txn commit es
among_done txn commit ks n es now h all is =
    is ∙ ap (λ qs. settled_among txn commit qs es) (take_whole n ks all) ∙ among_all txn commit ks es h

pub settled_noted : (ks : List (List ℕ)) (k : List ℕ) (commit : Option Stamp) (o : Option Written) (c : Content) → IsNoted ks k (last_of c.history) → IsNoted ks k (last_of (settled_by commit o c).history)
settled_noted ks k commit None c h = h
settled_noted ks k commit (Some w) c h = tt

settled_covers : (txn : ℕ) (commit : Option Stamp) (ks : List (List ℕ)) (es : Cells) → Covers ks es → Covers ks (settle_cells txn commit es)
settled_covers txn commit ks [] h = tt
settled_covers txn commit ks (p ∷ ps) h = (settled_noted ks p.0 commit (last_of (held txn p.1)) p.1 h.0, settled_covers txn commit ks ps h.1)

-- the same keys serve afterwards
pub covers_done : (txn : ℕ) (commit : Option Stamp) (ks : List (List ℕ)) (n : ℕ) (es now : Cells) → Covers ks es → length ks ≤ n → now ≡ settled_among txn commit (take n ks) es → Covers ks now
covers_done txn commit ks n es now h all is =
    subst (Covers ks) (sym (among_done txn commit ks n es now h all is)) (settled_covers txn commit ks es h)
