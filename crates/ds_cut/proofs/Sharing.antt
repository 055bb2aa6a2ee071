-- Items handed out one by one, and what is met first of those that are left.
use Rattle.std.proofs.Common.{◌≡◌, ℕ, ◌+◌, ◌≤◌, ◌&&◌, List, [], ◌∷◌, ◌++◌, length, Option, Some, None, refl, sym, ap, ◌∙◌, subst, arith}
use Rattle.std.specs.List.{list_all}
use Rattle.std.proofs.lemmas.List.{append_assoc, length-append}
use Rattle.ds_base.specs.declared.value.Dir.{Dir}
use Rattle.ds_base.proofs.SmallFacts.{and_first, and_second, append_nil}
use Rattle.ds_kind.specs.Asks.{has_proper_span}
use Rattle.ds_kind.specs.Parts.{requests_of}
use Rattle.ds_kind.specs.Request.{reach_of}
use Rattle.ds_kind.specs.declared.batch.Item.{Item}
use Rattle.ds_cover.specs.Items.{AreProper}
use Rattle.ds_cut.specs.declared.fate.Fate.{Fate}
use Rattle.ds_cut.specs.declared.fate.Fate.TheVariants.{Cut, Left, Apart}
use Rattle.ds_cut.specs.Fates.{cut_of, left_of, all_cut, all_left}
use Rattle.ds_cut.specs.Seek.{first_with, first_over}

-- ---- handed out

-- what is still to be handed out, put behind what was, makes all; and there is room for it
pub record Sharing (is : List Item) (fs : List Fate) (cut left : List Item) (cut_room left_room : ℕ) (all_off all_kept : List Item) : Type 0 where
  pub same : length fs ≡ length is
  pub off : cut ++ all_cut fs is ≡ all_off
  pub kept : left ++ all_left fs is ≡ all_kept
  pub room_off : length cut + length is ≤ cut_room
  pub room_kept : length left + length is ≤ left_room

one_cut : (f : Fate) (i : Item) → length (cut_of f i) ≤ 1
one_cut Cut i = omega arith
one_cut Left i = omega arith
one_cut (Apart (Some c) l) i = omega arith
one_cut (Apart None l) i = omega arith

one_left : (f : Fate) (i : Item) → length (left_of f i) ≤ 1
one_left Cut i = omega arith
one_left Left i = omega arith
one_left (Apart c (Some l)) i = omega arith
one_left (Apart c None) i = omega arith

room_after : (old more new rest : List Item) (n room : ℕ) → new ≡ old ++ more → length more ≤ 1 → n ≡ length rest + 1 → length old + n ≤ room → length new + length rest ≤ room
room_after old more new rest n room is few count fits =
    let l : length new ≡ length old + length more = ap length is ∙ length-append old more in
    omega (arith, l, few, count, fits)

pub sharing_more : (is more : List Item) (fs further : List Fate) (i : Item) (f : Fate) (cut left cut2 left2 : List Item) (cr lr cr2 lr2 : ℕ) (off kept : List Item)
    → is ≡ i ∷ more → fs ≡ f ∷ further → cut2 ≡ cut ++ cut_of f i → left2 ≡ left ++ left_of f i → cr ≤ cr2 → lr ≤ lr2
    → Sharing is fs cut left cr lr off kept → Sharing more further cut2 left2 cr2 lr2 off kept
sharing_more is more fs further i f cut left cut2 left2 cr lr cr2 lr2 off kept p q a b x y h =
    let count : length is ≡ length more + 1 = ap length p ∙ omega arith in
    let fates : length fs ≡ length further + 1 = ap length q ∙ omega arith in
    let same = h.same in
    let r1 = room_after cut (cut_of f i) cut2 more (length is) cr a (one_cut f i) count h.room_off in
    let r2 = room_after left (left_of f i) left2 more (length is) lr b (one_left f i) count h.room_kept in
    record {
      same = omega (arith, same, count, fates);
      off = ap (λ z. z ++ all_cut further more) a ∙ append_assoc cut (cut_of f i) (all_cut further more) ∙ ap (λ z. cut ++ z) (sym (ap (λ z. all_cut z is) q ∙ ap (all_cut (f ∷ further)) p)) ∙ h.off;
      kept = ap (λ z. z ++ all_left further more) b ∙ append_assoc left (left_of f i) (all_left further more) ∙ ap (λ z. left ++ z) (sym (ap (λ z. all_left z is) q ∙ ap (all_left (f ∷ further)) p)) ∙ h.kept;
      room_off = omega (arith, r1, x);
      room_kept = omega (arith, r2, y);
    }

none_cut : (fs : List Fate) → all_cut fs [] ≡ []
none_cut [] = refl
none_cut (f ∷ fs) = refl

none_left : (fs : List Fate) → all_left fs [] ≡ []
none_left [] = refl
none_left (f ∷ fs) = refl

pub sharing_end : (is : List Item) (fs : List Fate) (cut left : List Item) (cr lr : ℕ) (off kept : List Item) → is ≡ [] → Sharing is fs cut left cr lr off kept → (cut ≡ off) × (left ≡ kept)
sharing_end is fs cut left cr lr off kept none h = (
  sym (append_nil cut) ∙ ap (λ z. cut ++ z) (sym (ap (all_cut fs) none ∙ none_cut fs)) ∙ h.off,
  sym (append_nil left) ∙ ap (λ z. left ++ z) (sym (ap (all_left fs) none ∙ none_left fs)) ∙ h.kept,
)

pub sharing_room : (is more : List Item) (fs : List Fate) (i : Item) (cut left : List Item) (cr lr : ℕ) (off kept : List Item) → is ≡ i ∷ more → Sharing is fs cut left cr lr off kept → (length cut + 1 ≤ cr) × (length left + 1 ≤ lr)
sharing_room is more fs i cut left cr lr off kept p h =
    let count : length is ≡ length more + 1 = ap length p ∙ omega arith in
    let a = h.room_off in
    let b = h.room_kept in
    (omega (arith, count, a), omega (arith, count, b))

pub sharing_fate : {G : Type 0} (is more : List Item) (fs : List Fate) (i : Item) (cut left : List Item) (cr lr : ℕ) (off kept : List Item) → is ≡ i ∷ more → fs ≡ [] → Sharing is fs cut left cr lr off kept → G
sharing_fate is more fs i cut left cr lr off kept p none h =
    let count : length is ≡ length more + 1 = ap length p ∙ omega arith in
    let zero : length fs ≡ 0 = ap length none in
    let same = h.same in
    absurd (omega (arith, count, zero, same))

-- ---- met first

over_append : (d : Dir) (k : Option (List ℕ)) (xs ys : List Item) → first_over d k (xs ++ ys) ≡ first_over d (first_over d k xs) ys
over_append d k [] ys = refl
over_append d k (x ∷ xs) ys = over_append d (Some (first_with d k (reach_of x.request))) xs ys

proper_first : (xs ys : List Item) → AreProper (xs ++ ys) → AreProper xs
proper_first [] ys h = refl
proper_first (x ∷ xs) ys h = ap (λ t. t && list_all has_proper_span (requests_of xs)) (and_first _ _ h) ∙ proper_first xs ys (and_second (has_proper_span x.request) _ h)

proper_rest : (xs ys : List Item) → AreProper (xs ++ ys) → AreProper ys
proper_rest [] ys h = h
proper_rest (x ∷ xs) ys h = proper_rest xs ys (and_second (has_proper_span x.request) _ h)

-- what is met first so far, with what is left of the items to come, is what is met first of all
pub record Meeting (d : Dir) (so_far : Option (List ℕ)) (is : List Item) (fs : List Fate) (all : Option (List ℕ)) : Type 0 where
  pub near : first_over d so_far (all_left fs is) ≡ all
  pub proper : AreProper (all_left fs is)

pub meeting_proper : (d : Dir) (so_far all : Option (List ℕ)) (is more : List Item) (fs further : List Fate) (i : Item) (f : Fate) → is ≡ i ∷ more → fs ≡ f ∷ further → Meeting d so_far is fs all → AreProper (left_of f i)
meeting_proper d so_far all is more fs further i f p q h = proper_first (left_of f i) (all_left further more) (subst AreProper (ap (λ z. all_left z is) q ∙ ap (all_left (f ∷ further)) p) h.proper)

pub meeting_more : (d : Dir) (so_far next all : Option (List ℕ)) (is more : List Item) (fs further : List Fate) (i : Item) (f : Fate) → is ≡ i ∷ more → fs ≡ f ∷ further → next ≡ first_over d so_far (left_of f i) → Meeting d so_far is fs all → Meeting d next more further all
meeting_more d so_far next all is more fs further i f p q step h =
    let whole = ap (λ z. all_left z is) q ∙ ap (all_left (f ∷ further)) p in
    record {
      near = ap (λ k. first_over d k (all_left further more)) step ∙ sym (over_append d so_far (left_of f i) (all_left further more)) ∙ ap (first_over d so_far) (sym whole) ∙ h.near;
      proper = proper_rest (left_of f i) (all_left further more) (subst AreProper whole h.proper);
    }

pub meeting_end : (d : Dir) (so_far all : Option (List ℕ)) (is : List Item) (fs : List Fate) → is ≡ [] → Meeting d so_far is fs all → so_far ≡ all
meeting_end d so_far all is fs none h = ap (first_over d so_far) (sym (ap (all_left fs) none ∙ none_left fs)) ∙ h.near
