-- Maps of keys, changed and put back.
use Rattle.std.proofs.Common.{◌≡◌, ℕ, true, false, cond, List, [], ◌∷◌, ◌++◌, ◌+◌, ◌<◌, length, take, get_or, map, Option, Some, None, refl, sym, ap, ◌∙◌, subst, Result, Ok, Err, OnOk, OnErr, append_assoc}
use Rattle.std.specs.declared.alloc.AllocError.{AllocError}
use Rattle.std.specs.List.{AllByRecursion}
use Rattle.std.specs.List.Sorted.{IsStrictlySortedBy}
use Rattle.std.specs.Map.{keys_of, lookup, remove_entry, set_value}
use Rattle.std.specs.BTreeMap.{is_at, insert_entry}
use Rattle.std.specs.Ordering.{is_lt, is_eq, match_ordering, ordering_reverse}
use Rattle.std.specs.declared.cmp.Ordering.{Ordering}
use Rattle.std.specs.declared.cmp.Ordering.TheVariants.{Less, Equal, Greater}
use Rattle.std.proofs.lemmas.Cmp.{nat_list_cmp_total, tied_itself}
use Rattle.std.proofs.lemmas.Map.Keys.{sorted_head, sorted_tail}
use Rattle.std.proofs.lemmas.List.{take_more}
use Rattle.std.proofs.lemmas.Map.Steps.{set_value_same}
use Rattle.ds_base.specs.Order.{key_cmp, key_lt}
use Rattle.ds_base.specs.Ordered.{key_eq, AllOver, Ascends, at_key}
use Rattle.ds_base.proofs.KeyOrder.{key_lt-trans}
use Rattle.ds_cell.specs.Content.{Content, no_content}
use Rattle.ds_cell.specs.Ask.{Cells, key_of, content_of, content_at}
use Rattle.ds_cell.specs.Store.{put_cell}
use Rattle.ds_cell.specs.Taken.{given_back}
use Rattle.ds_cell.specs.declared.taken.Taken.{Taken}
use Rattle.ds_base.specs.declared.value.Stamp.{Stamp}
use Rattle.ds_base.specs.declared.value.Value.{Value}
use Rattle.ds_base.proofs.SmallFacts.{less_not_equal, none_some, some_none}
use Rattle.ds_cell.specs.declared.entry.At.{At}
use Rattle.ds_cell.specs.Change.{settled}
use Rattle.ds_range.specs.Asks.{wrote_once, wrote_each}
use Rattle.ds_range.specs.Keeps.{Kept, put_back, restored, kept_keys, settled_at}

-- what is found at a key

abbrev pub content_or : Option Content → Content
content_or None = no_content
content_or (Some c) = c

eq_turned : (o : Ordering) → is_eq (ordering_reverse o) ≡ is_eq o
eq_turned Less = refl
eq_turned Equal = refl
eq_turned Greater = refl

pub key_eq_turned : (k q : List ℕ) → is_eq (key_cmp k q) ≡ key_eq q k
key_eq_turned k q = ap is_eq (nat_list_cmp_total.antisymm k q) ∙ eq_turned (key_cmp q k)

-- what a map has at a key is what stands there
pub lookup_content : (k : List ℕ) (es : Cells) → content_or (lookup (is_at (key_cmp k)) es) ≡ content_at k es
lookup_content k [] = refl
lookup_content k (p ∷ ps) =
    subst (λ t. content_or (cond t (Some p.1) (lookup (is_at (key_cmp k)) ps)) ≡ content_of (cond (key_eq p.0 k) (Some p) (at_key key_of k ps))) (sym (key_eq_turned k p.0))
    (elim (key_eq p.0 k) as (λ t. content_or (cond t (Some p.1) (lookup (is_at (key_cmp k)) ps)) ≡ content_of (cond t (Some p) (at_key key_of k ps))) [
      | true ↦ refl
      | false ↦ lookup_content k ps
    ])

pub content_some : (k : List ℕ) (es : Cells) (c : Content) → lookup (is_at (key_cmp k)) es ≡ Some c → c ≡ content_at k es
content_some k es c h = sym (ap content_or h) ∙ lookup_content k es

pub content_none : (k : List ℕ) (es : Cells) → lookup (is_at (key_cmp k)) es ≡ None → no_content ≡ content_at k es
content_none k es h = sym (ap content_or h) ∙ lookup_content k es

-- the order of a map's keys

over_of : (k : List ℕ) (es : Cells) → AllByRecursion (λ q. key_cmp k q ≡ Less) (keys_of es) → AllOver key_of k es
over_of k [] h = tt
over_of k (p ∷ ps) h = (ap is_lt h.0, over_of k ps h.1)

pub ascends_of : (es : Cells) → IsStrictlySortedBy key_cmp (keys_of es) → Ascends key_of es
ascends_of [] h = tt
ascends_of (p ∷ ps) h = (over_of p.0 ps (sorted_head key_cmp p.0 (keys_of ps) h), ascends_of ps (sorted_tail key_cmp p.0 (keys_of ps) h))

-- nothing is found below all keys
pub missing : (k : List ℕ) (es : Cells) → AllOver key_of k es → lookup (is_at (key_cmp k)) es ≡ None
missing k [] all = refl
missing k (p ∷ ps) all = ap (λ t. cond t (Some p.1) (lookup (is_at (key_cmp k)) ps)) (less_not_equal (key_cmp k p.0) all.0) ∙ missing k ps all.1

pub over_less : (k q : List ℕ) (es : Cells) → key_lt k q ≡ true → AllOver key_of q es → AllOver key_of k es
over_less k q [] low all = tt
over_less k q (p ∷ ps) low all = (key_lt-trans k q p.0 low all.0, over_less k q ps low all.1)

-- what is put in

-- a key that is there takes the value where it stands
pub put_there : (k : List ℕ) (d : Content) (es : Cells) (c : Content) → Ascends key_of es → lookup (is_at (key_cmp k)) es ≡ Some c → set_value (is_at (key_cmp k)) es d ≡ insert_entry key_cmp es k d
put_there k d [] c asc h = none_some c h
put_there k d (p ∷ ps) c asc h =
    elim (key_cmp k p.0) as (λ o. key_cmp k p.0 ≡ o → cond (is_eq o) (Some p.1) (lookup (is_at (key_cmp k)) ps) ≡ Some c → cond (is_eq o) ((p.0, d) ∷ ps) (p ∷ set_value (is_at (key_cmp k)) ps d) ≡ match_ordering o ((k, d) ∷ p ∷ ps) ((p.0, d) ∷ ps) (p ∷ insert_entry key_cmp ps k d)) [
      | Less ↦ λ e g. none_some c (sym (missing k ps (over_less k p.0 ps (ap is_lt e) asc.0)) ∙ g)
      | Equal ↦ λ e g. refl
      | Greater ↦ λ e g. ap (λ qs. p ∷ qs) (put_there k d ps c asc.1 g)
    ] refl h

-- a cell that is there, changed where it stands
pub changed_there : (k : List ℕ) (f : Content → Content) (es after : Cells) (c d : Content) → Ascends key_of es → lookup (is_at (key_cmp k)) es ≡ Some c → d ≡ f c → after ≡ set_value (is_at (key_cmp k)) es d → after ≡ put_cell k f es
changed_there k f es after c d asc there is now =
    now ∙ put_there k d es c asc there ∙ ap (insert_entry key_cmp es k) (is ∙ ap f (content_some k es c there))

-- a cell that is begun
pub changed_new : (k : List ℕ) (f : Content → Content) (es after : Cells) (d : Content) → lookup (is_at (key_cmp k)) es ≡ None → d ≡ f no_content → after ≡ insert_entry key_cmp es k d → after ≡ put_cell k f es
changed_new k f es after d none is now = now ∙ ap (insert_entry key_cmp es k) (is ∙ ap f (content_none k es none))

-- what is put back

back_begun : (k : List ℕ) (d : Content) (es : Cells) → lookup (is_at (key_cmp k)) es ≡ None → remove_entry (is_at (key_cmp k)) (insert_entry key_cmp es k d) ≡ es
back_begun k d [] h = ap (λ t. cond (is_eq t) [] ((k, d) ∷ [])) (tied_itself nat_list_cmp_total k)
back_begun k d (p ∷ ps) h =
    elim (key_cmp k p.0) as (λ o. key_cmp k p.0 ≡ o → cond (is_eq o) (Some p.1) (lookup (is_at (key_cmp k)) ps) ≡ None → remove_entry (is_at (key_cmp k)) (match_ordering o ((k, d) ∷ p ∷ ps) ((p.0, d) ∷ ps) (p ∷ insert_entry key_cmp ps k d)) ≡ p ∷ ps) [
      | Less ↦ λ e g. ap (λ t. cond (is_eq t) (p ∷ ps) ((k, d) ∷ remove_entry (is_at (key_cmp k)) (p ∷ ps))) (tied_itself nat_list_cmp_total k)
      | Equal ↦ λ e g. some_none p.1 g
      | Greater ↦ λ e g.
          ap (λ o. cond (is_eq o) (insert_entry key_cmp ps k d) (p ∷ remove_entry (is_at (key_cmp k)) (insert_entry key_cmp ps k d))) e
          ∙ ap (λ qs. p ∷ qs) (back_begun k d ps g)
    ] refl h

-- a cell that was begun goes
pub begun_back : (k : List ℕ) (d : Content) (es after : Cells) → lookup (is_at (key_cmp k)) es ≡ None → after ≡ insert_entry key_cmp es k d → put_back k None after ≡ es
begun_back k d es after none now = ap (remove_entry (is_at (key_cmp k))) now ∙ back_begun k d es none

-- what is set where a key stands is found there
set_here : (k : List ℕ) (c d : Content) (es : Cells) → lookup (is_at (key_cmp k)) es ≡ Some c → lookup (is_at (key_cmp k)) (set_value (is_at (key_cmp k)) es d) ≡ Some d
set_here k c d [] h = none_some c h
set_here k c d (p ∷ ps) h =
    elim (is_eq (key_cmp k p.0)) as (λ t. is_eq (key_cmp k p.0) ≡ t → cond t (Some p.1) (lookup (is_at (key_cmp k)) ps) ≡ Some c → lookup (is_at (key_cmp k)) (cond t ((p.0, d) ∷ ps) (p ∷ set_value (is_at (key_cmp k)) ps d)) ≡ Some d) [
      | true ↦ λ e g. ap (λ t. cond t (Some d) (lookup (is_at (key_cmp k)) ps)) e
      | false ↦ λ e g. ap (λ t. cond t (Some p.1) (lookup (is_at (key_cmp k)) (set_value (is_at (key_cmp k)) ps d))) e ∙ set_here k c d ps g
    ] refl h

set_twice : (k : List ℕ) (c d : Content) (es : Cells) → set_value (is_at (key_cmp k)) (set_value (is_at (key_cmp k)) es d) c ≡ set_value (is_at (key_cmp k)) es c
set_twice k c d [] = refl
set_twice k c d (p ∷ ps) =
    elim (is_eq (key_cmp k p.0)) as (λ t. is_eq (key_cmp k p.0) ≡ t → set_value (is_at (key_cmp k)) (cond t ((p.0, d) ∷ ps) (p ∷ set_value (is_at (key_cmp k)) ps d)) c ≡ cond t ((p.0, c) ∷ ps) (p ∷ set_value (is_at (key_cmp k)) ps c)) [
      | true ↦ λ e. ap (λ t. cond t ((p.0, c) ∷ ps) ((p.0, d) ∷ set_value (is_at (key_cmp k)) ps c)) e
      | false ↦ λ e.
          ap (λ t. cond t ((p.0, c) ∷ set_value (is_at (key_cmp k)) ps d) (p ∷ set_value (is_at (key_cmp k)) (set_value (is_at (key_cmp k)) ps d) c)) e
          ∙ ap (λ qs. p ∷ qs) (set_twice k c d ps)
    ] refl

-- what a change took where the key stands, given back
pub there_back : (k : List ℕ) (c d : Content) (t : Taken) (es after : Cells) → lookup (is_at (key_cmp k)) es ≡ Some c → given_back t d ≡ c → after ≡ set_value (is_at (key_cmp k)) es d → put_back k (Some t) after ≡ es
there_back k c d t es after there given now =
    let here : content_at k after ≡ d = ap (content_at k) now ∙ sym (content_some k (set_value (is_at (key_cmp k)) es d) d (set_here k c d es there)) in
    ap (λ z. set_value (is_at (key_cmp k)) after (given_back t z)) here
    ∙ ap (λ z. set_value (is_at (key_cmp k)) after z) given
    ∙ ap (λ z. set_value (is_at (key_cmp k)) z c) now
    ∙ set_twice k c d es ∙ set_value_same (is_at (key_cmp k)) es c there

restored-last : (us : List Kept) (u : Kept) (es : Cells) → restored (us ++ u ∷ []) es ≡ restored us (put_back u.0 u.1 es)
restored-last [] u es = refl
restored-last (v ∷ us) u es = ap (put_back v.0 v.1) (restored-last us u es)

-- the last kept goes back first
pub back_last : (us vs : List Kept) (u : Kept) (es : Cells) → vs ≡ us ++ u ∷ [] → restored vs es ≡ restored us (put_back u.0 u.1 es)
back_last us vs u es is = ap (λ zs. restored zs es) is ∙ restored-last us u es

-- one more change, which can be taken back
pub kept_more : (us vs : List Kept) (u : Kept) (old new : Cells) → vs ≡ us ++ u ∷ [] → put_back u.0 u.1 new ≡ old → restored vs new ≡ restored us old
kept_more us vs u old new more back = back_last us vs u new more ∙ ap (restored us) back

-- changes that may want memory

pub changed_ok : (k : List ℕ) (f : Content → Content) (es after : Cells) (c d : Content) → {U : Type 0} → (r : Result U AllocError) → Ascends key_of es → lookup (is_at (key_cmp k)) es ≡ Some c → OnOk r (d ≡ f c) → after ≡ set_value (is_at (key_cmp k)) es d → OnOk r (after ≡ put_cell k f es)
changed_ok k f es after c d (Ok u) asc there is now = changed_there k f es after c d asc there is now
changed_ok k f es after c d (Err e) asc there is now = tt

pub changed_err : (k : List ℕ) (es after : Cells) (c d : Content) → {U : Type 0} → (r : Result U AllocError) → lookup (is_at (key_cmp k)) es ≡ Some c → OnErr r (d ≡ c) → after ≡ set_value (is_at (key_cmp k)) es d → OnErr r (after ≡ es)
changed_err k es after c d (Ok u) there is now = tt
changed_err k es after c d (Err e) there is now = now ∙ ap (set_value (is_at (key_cmp k)) es) is ∙ set_value_same (is_at (key_cmp k)) es c there

-- nothing to put back where nothing stands
pub set_missing : (k : List ℕ) (d : Content) (es : Cells) → lookup (is_at (key_cmp k)) es ≡ None → es ≡ set_value (is_at (key_cmp k)) es d
set_missing k d [] h = refl
set_missing k d (p ∷ ps) h =
    elim (is_eq (key_cmp k p.0)) as (λ t. cond t (Some p.1) (lookup (is_at (key_cmp k)) ps) ≡ None → p ∷ ps ≡ cond t ((p.0, d) ∷ ps) (p ∷ set_value (is_at (key_cmp k)) ps d)) [
      | true ↦ λ g. some_none p.1 g
      | false ↦ λ g. ap (λ qs. p ∷ qs) (set_missing k d ps g)
    ] h

-- what is given back where the key stands
pub set_given : (k : List ℕ) (c d : Content) (t : Taken) (o : Option Taken) (es after : Cells) → o ≡ Some t → lookup (is_at (key_cmp k)) es ≡ Some c → d ≡ given_back t c → after ≡ set_value (is_at (key_cmp k)) es d → after ≡ put_back k o es
set_given k c d t o es after is there given now =
    now
    ∙ ap (set_value (is_at (key_cmp k)) es) (given ∙ ap (given_back t) (content_some k es c there))
    ∙ ap (λ z. put_back k z es) (sym is)

-- one more put back
pub put_more : (us vs : List Kept) (u : Kept) (now after all : Cells) → restored vs now ≡ all → vs ≡ us ++ u ∷ [] → after ≡ put_back u.0 u.1 now → restored us after ≡ all
put_more us vs u now after all inv is back = ap (restored us) back ∙ sym (back_last us vs u now is) ∙ inv

pub wrote_last : (at : At) (ws : List (List ℕ × Option Value)) (w : List ℕ × Option Value) (old now next : Cells) → now ≡ wrote_each at ws old → next ≡ put_cell w.0 (wrote_once at w.1) now → next ≡ wrote_each at (ws ++ w ∷ []) old
wrote_last at [] w old now next so_far more = more ∙ ap (put_cell w.0 (wrote_once at w.1)) so_far
wrote_last at (v ∷ ws) w old now next so_far more = wrote_last at ws w _ now next so_far more

pub settled_last : (txn : ℕ) (commit : Option Stamp) (ks : List (List ℕ)) (k : List ℕ) (old now next : Cells) → now ≡ settled_at txn commit ks old → next ≡ put_cell k (settled txn commit) now → next ≡ settled_at txn commit (ks ++ k ∷ []) old
settled_last txn commit [] k old now next so_far more = more ∙ ap (put_cell k (settled txn commit)) so_far
settled_last txn commit (q ∷ ks) k old now next so_far more = settled_last txn commit ks k _ now next so_far more

-- one key more settled
pub settled_take : (txn : ℕ) (commit : Option Stamp) (ks : List (List ℕ)) (i : ℕ) (k : List ℕ) (old now next : Cells) → now ≡ settled_at txn commit (take i ks) old → i < length ks → k ≡ get_or ks i k → next ≡ put_cell k (settled txn commit) now → next ≡ settled_at txn commit (take (i + 1) ks) old
settled_take txn commit ks i k old now next so_far low at more =
    settled_last txn commit (take i ks) k old now next so_far more
    ∙ ap (λ qs. settled_at txn commit qs old) (ap (λ z. take i ks ++ z ∷ []) at ∙ sym (take_more ks i k low))
