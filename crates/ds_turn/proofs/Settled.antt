-- Settling a key in the world and in the store.
use Rattle.std.proofs.Common.{◌≡◌, ℕ, cond, List, [], ◌∷◌, ◌++◌, Option, Some, None, ◌⊎◌, inl, inr, refl, sym, ap, ◌∙◌, subst, fold, ◌==◌, map}
use Rattle.ds_base.specs.declared.value.Stamp.{Stamp}
use Rattle.ds_kind.specs.declared.batch.Item.{Item}
use Rattle.ds_cell.specs.declared.entry.At.{At}
use Rattle.ds_cell.specs.declared.entry.Version.{Version}
use Rattle.ds_cell.specs.declared.entry.Written.{Written}
use Rattle.ds_cell.specs.Content.{Content, AllAbove, stamp_of}
use Rattle.ds_cell.specs.Seen.{held, last_of}
use Rattle.ds_cell.specs.Change.{made, settling, settled_by, settled, after_foreign}
use Rattle.ds_cell.proofs.RisingFacts.{rises_fold}
use Rattle.ds_rule.specs.Turn.{verdict, after_item, and_turn, after_items, turn_of}
use Rattle.ds_turn.specs.Course.{AllForeignAbove, ByBatch, ByOther, Course, batch_items, course_after, course_turn, foreign_writes, with_versions}
use Rattle.ds_turn.specs.KeyIs.{KeyIs}
use Rattle.ds_turn.specs.Settling.{CommitsBy, PieceAlone, SettlesAlike, after_foreigns, piece_after}
use Rattle.ds_turn.proofs.Courses.{acts_alone}
use Rattle.ds_turn.proofs.KeyFacts.{empty_if, key_foreign}
use Rattle.ds_turn.proofs.Swaps.{fold_swap}

pub held-none : (txn : ℕ) (c : Content) → c.history ≡ [] → held txn c ≡ []
held-none txn c e = ap (λ h. cond (c.owner == txn) h []) e ∙ empty_if (c.owner == txn)

held-by : (txn : ℕ) (c d : Content) → d.history ≡ c.history → (c.history ≡ []) ⊎ ((d.owner ≡ c.owner) × (d.epoch ≡ c.epoch)) → held txn d ≡ held txn c
held-by txn c d e (inl none) = held-none txn d (e ∙ none) ∙ sym (held-none txn c none)
held-by txn c d e (inr same) =
    ap (λ n. cond (n == txn) d.history []) same.0 ∙ ap (λ h. cond (c.owner == txn) h []) e

-- the versions that it becomes, before those that waited
settles : (s : ℕ) (commit : Option Stamp) (w : Written) (vs ws : List Version) → CommitsBy s commit → AllAbove stamp_of s ws
    → fold made (fold made vs ws) (settling commit w []) ≡ fold made vs (settling commit w ws)
settles s None w vs ws by all = refl
settles s (Some t) w vs ws by all = fold_swap s vs ws (record { stamp = t; value = w.value }) by all

settles-by : (s : ℕ) (commit : Option Stamp) (o : Option Written) (c d : Content) → KeyIs s c d → CommitsBy s commit → KeyIs s (settled_by commit o c) (settled_by commit o d)
settles-by s commit None c d k by = k
settles-by s commit (Some w) c d k by = record {
  rises = rises_fold c.versions (settling commit w c.waiting) k.rises;
  versions =
      ap (λ ws. fold made d.versions (settling commit w ws)) k.none_waits
      ∙ ap (λ vs. fold made vs (settling commit w [])) k.versions
      ∙ settles s commit w c.versions c.waiting by k.above;
  none_waits = refl;
  history = refl;
  whose = inl refl;
  waits = λ e. refl;
  above = tt;
}

pub settles_alike : SettlesAlike
settles_alike s txn commit c d k by =
    subst (λ o. KeyIs s (settled txn commit c) (settled_by commit o d)) (ap last_of (sym (held-by txn c d k.history k.whose)))
    (settles-by s commit (last_of (held txn c)) c d k by)

-- a settling does not see versions above the stamp
pub settled-more : (s : ℕ) (commit : Option Stamp) (o : Option Written) (vs : List Version) (e : Content) → CommitsBy s commit → AllAbove stamp_of s vs → e.waiting ≡ []
    → settled_by commit o (with_versions vs e) ≡ with_versions vs (settled_by commit o e)
settled-more s commit None vs e by all none = refl
settled-more s commit (Some w) vs e by all none =
    ap (λ us. record e { versions = us; history = []; waiting = [] })
    (ap (λ ws. fold made (fold made e.versions vs) (settling commit w ws)) none
    ∙ one commit by
    ∙ sym (ap (λ ws. fold made (fold made e.versions (settling commit w ws)) vs) none))
  where
    one : (commit : Option Stamp) → CommitsBy s commit → fold made (fold made e.versions vs) (settling commit w []) ≡ fold made (fold made e.versions (settling commit w [])) vs
    one None by = refl
    one (Some t) by = fold_swap s e.versions vs (record { stamp = t; value = w.value }) by all

-- a piece as a course

abbrev whole : List Version → List Item → Course
whole [] is = map ByBatch is
whole (v ∷ vs) is = ByOther v ∷ whole vs is

whole-acted : (a : At) (vs : List Version) (is : List Item) (c : Content) → course_turn a (whole vs is) c ≡ turn_of a is (after_foreigns vs c)
whole-acted a [] [] c = refl
whole-acted a [] (i ∷ is) c = ap (and_turn i (verdict a i c)) (whole-acted a [] is (after_item a i c))
whole-acted a (v ∷ vs) is c = whole-acted a vs is (after_foreign v c)

whole-after : (a : At) (vs : List Version) (is : List Item) (c : Content) → course_after a (whole vs is) c ≡ after_items a is (after_foreigns vs c)
whole-after a [] [] c = refl
whole-after a [] (i ∷ is) c = whole-after a [] is (after_item a i c)
whole-after a (v ∷ vs) is c = whole-after a vs is (after_foreign v c)

whole-items : (vs : List Version) (is : List Item) → batch_items (whole vs is) ≡ is
whole-items [] [] = refl
whole-items [] (i ∷ is) = ap (λ zs. i ∷ zs) (whole-items [] is)
whole-items (v ∷ vs) is = whole-items vs is

whole-writes : (vs : List Version) (is : List Item) → foreign_writes (whole vs is) ≡ vs
whole-writes [] [] = refl
whole-writes [] (i ∷ is) = whole-writes [] is
whole-writes (v ∷ vs) is = ap (λ zs. v ∷ zs) (whole-writes vs is)

whole-foreign : (s : ℕ) (vs : List Version) (is : List Item) → AllAbove stamp_of s vs → AllForeignAbove s (whole vs is)
whole-foreign s [] [] all = tt
whole-foreign s [] (i ∷ is) all = whole-foreign s [] is all
whole-foreign s (v ∷ vs) is all = (all.0, whole-foreign s vs is all.1)

-- foreign writes, one after another

pub key_foreigns : (s : ℕ) (vs : List Version) (c d : Content) → AllAbove stamp_of s vs → KeyIs s c d → KeyIs s (after_foreigns vs c) (with_versions vs d)
key_foreigns s [] c d all k = k
key_foreigns s (v ∷ vs) c d all k = key_foreigns s vs (after_foreign v c) _ all.1 (key_foreign s v c d all.0 k)

fold-append : (us vs ws : List Version) → fold made (fold made us vs) ws ≡ fold made us (vs ++ ws)
fold-append us [] ws = refl
fold-append us (v ∷ vs) ws = fold-append (made us v) vs ws

pub piece_alone : PieceAlone
piece_alone s a before is later c d bits ws k low all all' did =
    let r = acts_alone s a (whole before is) c d bits ws k low (whole-foreign s before is all) (whole-acted a before is c ∙ did) in
    let e = after_items a is d in
    let items : (js : List Item) → batch_items (whole before is) ≡ js → after_items a (batch_items (whole before is)) d ≡ after_items a js d = λ js h. ap (λ js. after_items a js d) h in
    let at-end : KeyIs s (after_items a is (after_foreigns before c)) (with_versions before e) =
    subst (λ x. KeyIs s x (with_versions before e)) (whole-after a before is c)
    (subst (λ x. KeyIs s (course_after a (whole before is) c) x) (ap (λ vs. with_versions vs (after_items a (batch_items (whole before is)) d)) (whole-writes before is) ∙ ap (with_versions before) (items is (whole-items before is))) r.1)
    in
    let settled-end : KeyIs s (piece_after a is (after_foreigns before c)) (with_versions before (piece_after a is d)) =
    subst (λ x. KeyIs s (piece_after a is (after_foreigns before c)) x)
    (settled-more s (Some a.stamp) (last_of (held a.txn.0 e)) before e low all at-end.none_waits)
    (settles_alike s a.txn.0 (Some a.stamp) _ _ at-end low)
    in (
      ap (λ js. turn_of a js d) (sym (whole-items before is)) ∙ r.0,
      subst (λ x. KeyIs s (after_foreigns later (piece_after a is (after_foreigns before c))) x)
          (ap (λ us. record (piece_after a is d) { versions = us }) (fold-append (piece_after a is d).versions before later))
          (key_foreigns s later _ _ all' settled-end),
    )
