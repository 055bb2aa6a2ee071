-- A batch fails where its turn at a key fails.
use Rattle.std.proofs.Common.{◌≡◌, ℕ, ◌<◌, Bool, true, false, cond, ◌⊎◌, inl, inr, List, [], ◌∷◌, ◌++◌, refl, sym, ap, ◌∙◌, subst, arith}
use Rattle.std.proofs.lemmas.List.Elements.{filter-append}
use Rattle.ds_base.specs.Order.{key_lt, key_le}
use Rattle.ds_base.proofs.OrderedFacts.{le_of_not_lt, not_lt_of_le}
use Rattle.ds_base.proofs.TestFacts.{not_both}
use Rattle.ds_kind.specs.declared.batch.Item.{Item}
use Rattle.ds_kind.specs.declared.reply.Failure.{Failure}
use Rattle.ds_cell.specs.declared.entry.At.{At}
use Rattle.ds_cell.specs.declared.entry.Written.{Written}
use Rattle.ds_cell.specs.declared.verdict.ActFault.{ActFault}
use Rattle.ds_cell.specs.declared.verdict.Bit.{Bit}
use Rattle.ds_cell.specs.declared.verdict.Verdict.{Verdict}
use Rattle.ds_cell.specs.declared.verdict.Verdict.TheVariants.{Keep, Put, Refuse}
use Rattle.ds_cell.specs.Ask.{Cells, content_at}
use Rattle.ds_cell.specs.Content.{Content, AllAbove, Rises}
use Rattle.ds_rule.specs.Asking.{Asking, Fails, ask_all, at_of, failure_of}
use Rattle.ds_rule.specs.Pieces.{IsOneOf, position_of}
use Rattle.ds_rule.specs.Turn.{Turn, TurnFails, TurnGives, IsNoRefusal, verdict, after_item, after_items, turn_of, speaks_of, items_at}
use Rattle.ds_turn.specs.Course.{NoneRefused}
use Rattle.ds_turn.specs.Failing.{FailsFirst, FailsTurn, TurnsFail}
use Rattle.ds_turn.specs.Keys.{FailsSomewhere}
use Rattle.ds_turn.proofs.Courses.{and_turn-fine, and_turn-refused, not-fine}
use Rattle.ds_turn.proofs.Keys.{first_fails, fails_at_key}
use Rattle.ds_turn.proofs.TooOld.{items_refused, more_fine}
use Rattle.ds_turn.proofs.Cuts.{above-all}

-- where a turn failed

pub record FailedIn (a : At) (items : List Item) (d : Content) (p : ℕ) (f : ActFault) : Type 0 where
  pub front : List Item
  pub item : Item
  pub back : List Item
  pub is : items ≡ front ++ item ∷ back
  pub before : NoneRefused a front d
  pub refused : verdict a item (after_items a front d) ≡ Refuse f
  pub position : item.pos ≡ p

gives-fails : {G : Type 0} (p : ℕ) (f : ActFault) (bs : List (ℕ × Bit)) (ws : List Written) → TurnGives bs ws ≡ TurnFails p f → G
gives-fails p f bs ws h = cc

pub failed_in : (a : At) (is : List Item) (d : Content) (p : ℕ) (f : ActFault) → turn_of a is d ≡ TurnFails p f → FailedIn a is d p f
failed_in a [] d p f h = gives-fails p f [] [] h
failed_in a (i ∷ is) d p f h =
    elim (and_turn-refused i (verdict a i d) (turn_of a is (after_item a i d)) p f h) [
      | inl here ↦ record {
        front = [];
        item = i;
        back = is;
        is = refl;
        before = record { bits = []; writes = []; gives = refl };
        refused = here.0;
        position = here.1;
      }
      | inr later ↦
          let r = failed_in a is (after_item a i d) p f later.1 in
          let more = more_fine i (verdict a i d) (turn_of a r.front (after_item a i d)) r.before.bits r.before.writes later.0 r.before.gives in
          record {
            front = i ∷ r.front;
            item = r.item;
            back = r.back;
            is = ap (λ zs. i ∷ zs) r.is;
            before = record { bits = more.0; writes = more.1; gives = more.2 };
            refused = r.refused;
            position = r.position;
          }
    ]

-- a turn gives, or fails
pub turn_cases : (a : At) (is : List Item) (d : Content) → NoneRefused a is d ⊎ ((p : ℕ) × (f : ActFault) × (turn_of a is d ≡ TurnFails p f))
turn_cases a is d = by (turn_of a is d) refl
  where
    by : (t : Turn) → turn_of a is d ≡ t → NoneRefused a is d ⊎ ((p : ℕ) × (f : ActFault) × (turn_of a is d ≡ TurnFails p f))
    by (TurnGives bs ws) e = inl (record { bits = bs; writes = ws; gives = e })
    by (TurnFails p f) e = inr (p, f, e)

-- what failed fails with more items behind it too
pub fails_on : (a : At) (xs ys : List Item) (d : Content) (p : ℕ) (f : ActFault) → turn_of a xs d ≡ TurnFails p f → turn_of a (xs ++ ys) d ≡ TurnFails p f
fails_on a xs ys d p f h =
    let r = failed_in a xs d p f h in
    ap (λ zs. turn_of a (zs ++ ys) d) r.is
    ∙ ap (λ zs. turn_of a zs d) (assoc r.front r.item r.back ys)
    ∙ items_refused a r.front r.item (r.back ++ ys) d r.before.bits r.before.writes f r.before.gives r.refused
    ∙ ap (λ n. TurnFails n f) r.position
  where
    assoc : (xs : List Item) (i : Item) (ys zs : List Item) → (xs ++ i ∷ ys) ++ zs ≡ xs ++ i ∷ (ys ++ zs)
    assoc [] i ys zs = refl
    assoc (x ∷ xs) i ys zs = ap (λ us. x ∷ us) (assoc xs i ys zs)

-- where an item at a key stands among all

pub record StandsAt (k : List ℕ) (items xs : List Item) (i : Item) : Type 0 where
  pub front : List Item
  pub back : List Item
  pub is : items ≡ front ++ i ∷ back
  pub before : items_at k front ≡ xs
  pub here : speaks_of k i ≡ true

pub at-true : (k : List ℕ) (i : Item) (is : List Item) → speaks_of k i ≡ true → items_at k (i ∷ is) ≡ i ∷ items_at k is
at-true k i is h = ap (λ t. cond t (i ∷ items_at k is) (items_at k is)) h

pub at-false : (k : List ℕ) (i : Item) (is : List Item) → speaks_of k i ≡ false → items_at k (i ∷ is) ≡ items_at k is
at-false k i is h = ap (λ t. cond t (i ∷ items_at k is) (items_at k is)) h

pub first-item : (x y : Item) (xs ys : List Item) → ◌≡◌ {A = List Item} (x ∷ xs) (y ∷ ys) → (x ≡ y) × (xs ≡ ys)
first-item x y xs ys h = let a : x ≡ y = cc in let b : xs ≡ ys = cc in (a, b)

pub stands_at : (k : List ℕ) (items xs : List Item) (i : Item) (ys : List Item) → items_at k items ≡ xs ++ i ∷ ys → StandsAt k items xs i
stands_at k [] [] i ys h = cc
stands_at k [] (x ∷ xs) i ys h = cc
stands_at k (j ∷ js) xs i ys h = by (λ zs g. stands_at k js zs i ys g) (speaks_of k j) refl
  where
    found : (xs : List Item) → speaks_of k j ≡ true → j ∷ items_at k js ≡ xs ++ i ∷ ys → ((zs : List Item) → items_at k js ≡ zs ++ i ∷ ys → StandsAt k js zs i) → StandsAt k (j ∷ js) xs i
    found [] here e rest =
        let both = first-item j i (items_at k js) ys e in
        record { front = []; back = js; is = ap (λ z. z ∷ js) both.0; before = refl; here = subst (λ z. speaks_of k z ≡ true) both.0 here }
    found (x ∷ xs) here e rest =
        let both = first-item j x (items_at k js) (xs ++ i ∷ ys) e in
        let r = rest xs both.1 in
        record { front = j ∷ r.front; back = r.back; is = ap (λ zs. j ∷ zs) r.is; before = at-true k j r.front here ∙ ap (λ z. z ∷ items_at k r.front) both.0 ∙ ap (λ zs. x ∷ zs) r.before; here = r.here }

    by : ((zs : List Item) → items_at k js ≡ zs ++ i ∷ ys → StandsAt k js zs i) → (t : Bool) → speaks_of k j ≡ t → StandsAt k (j ∷ js) xs i
    by rest true e = found xs e (sym (at-true k j js e) ∙ h) rest
    by rest false e =
        let r = rest xs (sym (at-false k j js e) ∙ h) in
        record { front = j ∷ r.front; back = r.back; is = ap (λ zs. j ∷ zs) r.is; before = at-false k j r.front e ∙ r.before; here = r.here }

-- and back
pub at_split : (k : List ℕ) (front : List Item) (i : Item) (back : List Item) → speaks_of k i ≡ true → items_at k (front ++ i ∷ back) ≡ items_at k front ++ i ∷ items_at k back
at_split k front i back here = filter-append (speaks_of k) front (i ∷ back) ∙ ap (λ zs. items_at k front ++ zs) (at-true k i back here)

-- positions before another

low-in : (front : List Item) (i : Item) (back : List Item) (x : Item) → Rises position_of (front ++ i ∷ back) → IsOneOf x front → x.pos < i.pos
low-in [] i back x r one = absurd one
low-in (y ∷ ys) i back x r (inl same) = subst (λ z. z.pos < i.pos) (sym same) (above-in y.pos ys i back r.0)
  where
    above-in : (m : ℕ) (ys : List Item) (i : Item) (back : List Item) → AllAbove position_of m (ys ++ i ∷ back) → m < i.pos
    above-in m [] i back all = all.0
    above-in m (z ∷ zs) i back all = above-in m zs i back all.1
low-in (y ∷ ys) i back x r (inr more) = low-in ys i back x r.1 more

in-middle : (xs : List Item) (i : Item) (ys : List Item) → IsOneOf i (xs ++ i ∷ ys)
in-middle [] i ys = inl refl
in-middle (x ∷ xs) i ys = inr (in-middle xs i ys)

-- so an item that fails among the first items stands before the others
fails-low : (a : At) (k : List ℕ) (front : List Item) (i : Item) (back : List Item) (d : Content) (n : ℕ) (g : ActFault)
    → Rises position_of (front ++ i ∷ back) → turn_of a (items_at k front) d ≡ TurnFails n g → n < i.pos
fails-low a k front i back d n g rises h =
    let r = failed_in a (items_at k front) d n g h in
    let s = stands_at k front r.front r.item r.back r.is in
    subst (λ z. z < i.pos) r.position (low-in front i back r.item rises (subst (IsOneOf r.item) (sym s.is) (in-middle s.front r.item s.back)))

never-before : {G : Type 0} (p n : ℕ) (k j : List ℕ) → (p < n) ⊎ ((p ≡ n) × (key_le k j ≡ true)) → n < p → G
never-before p n k j (inl later) low = absurd (omega (arith, later, low))
never-before p n k j (inr same) low = let e : p ≡ n = same.0 in absurd (omega (arith, e, low))

never-below : {G : Type 0} (p : ℕ) (k j : List ℕ) → (p < p) ⊎ ((p ≡ p) × (key_le k j ≡ true)) → key_lt j k ≡ true → G
never-below p k j (inl later) low = absurd (omega (arith, later))
never-below p k j (inr same) low = not_both (key_lt j k) low (not_lt_of_le k j same.1)

verdict-cases : (v : Verdict) → IsNoRefusal v ⊎ ((f : ActFault) × (v ≡ Refuse f))
verdict-cases (Keep b) = inl tt
verdict-cases (Put w b) = inl tt
verdict-cases (Refuse f) = inr (f, refl)

pub turns_fail : TurnsFail
turns_fail q k cells p f rises asc h =
    let a = at_of q.head 0 in
    let r = failed_in a (items_at k q.items) (content_at k cells) p f h.here in
    let s = stands_at k q.items r.front r.item r.back r.is in
    let rises-so : Rises position_of (s.front ++ r.item ∷ s.back) = subst (Rises position_of) s.is rises in
    let none : (j : List ℕ) → NoneRefused a (items_at j s.front) (content_at j cells) =
    λ j. elim (turn_cases a (items_at j s.front) (content_at j cells)) [
      | inl gives ↦ gives
      | inr fails ↦
          never-before p fails.0 k j
          (h.first j fails.0 fails.1
          (ap (λ zs. turn_of a (items_at j zs) (content_at j cells)) s.is
          ∙ ap (λ zs. turn_of a zs (content_at j cells)) (filter-append (speaks_of j) s.front (r.item ∷ s.back))
          ∙ fails_on a (items_at j s.front) (items_at j (r.item ∷ s.back)) (content_at j cells) fails.0 fails.1 fails.2))
          (subst (λ z. fails.0 < z) r.position (fails-low a j s.front r.item s.back (content_at j cells) fails.0 fails.1 rises-so fails.2))
    ]
    in
    let below : (j : List ℕ) → key_lt j k ≡ true → speaks_of j r.item ≡ true → IsNoRefusal (verdict a r.item (after_items a (items_at j s.front) (content_at j cells))) =
    λ j low there. elim (verdict-cases (verdict a r.item (after_items a (items_at j s.front) (content_at j cells)))) [
      | inl fine ↦ fine
      | inr bad ↦
          never-below p k j
          (h.first j p bad.0
          (ap (λ zs. turn_of a (items_at j zs) (content_at j cells)) s.is
          ∙ ap (λ zs. turn_of a zs (content_at j cells)) (at_split j s.front r.item s.back there)
          ∙ items_refused a (items_at j s.front) r.item (items_at j s.back) (content_at j cells) (none j).bits (none j).writes bad.0 (none j).gives bad.1
          ∙ ap (λ n. TurnFails n bad.0) r.position))
          low
    ]
    in
    ap (λ zs. ask_all q.head zs cells) s.is
    ∙ first_fails q.head s.front r.item s.back cells k f asc none s.here (ap (λ zs. verdict a r.item (after_items a zs (content_at k cells))) s.before ∙ r.refused) below
    ∙ ap (λ n. Fails (failure_of n k f)) r.position

-- what fails past items that were not refused, fails on what they left
past-front : (a : At) (xs ys : List Item) (d : Content) (n : ℕ) (g : ActFault) → NoneRefused a xs d → turn_of a (xs ++ ys) d ≡ TurnFails n g → turn_of a ys (after_items a xs d) ≡ TurnFails n g
past-front a [] ys d n g none h = h
past-front a (x ∷ xs) ys d n g none h =
    let parts = and_turn-fine x (verdict a x d) (turn_of a xs (after_item a x d)) none.bits none.writes none.gives in
    elim (and_turn-refused x (verdict a x d) (turn_of a (xs ++ ys) (after_item a x d)) n g h) [
      | inl here ↦ not-fine (verdict a x d) g here.0 parts.0
      | inr later ↦ past-front a xs ys (after_item a x d) n g (record { bits = parts.1; writes = parts.2; gives = parts.3 }) later.1
    ]

rises-right : (xs ys : List Item) → Rises position_of (xs ++ ys) → Rises position_of ys
rises-right [] ys r = r
rises-right (x ∷ xs) ys r = rises-right xs ys r.1

-- what fails from an item on fails at the item, or later
fails-there : (a : At) (k : List ℕ) (i : Item) (back : List Item) (d : Content) (n : ℕ) (g : ActFault)
    → Rises position_of (i ∷ back) → turn_of a (items_at k (i ∷ back)) d ≡ TurnFails n g → (i.pos < n) ⊎ ((i.pos ≡ n) × (speaks_of k i ≡ true) × (verdict a i d ≡ Refuse g))
fails-there a k i back d n g rises h =
    let r = failed_in a (items_at k (i ∷ back)) d n g h in
    let s = stands_at k (i ∷ back) r.front r.item r.back r.is in
    by r.front r.item r.position r.refused s.front s.back s.is s.before s.here
  where
    by : (xs : List Item) (w : Item) → w.pos ≡ n → verdict a w (after_items a xs d) ≡ Refuse g → (us vs : List Item) → i ∷ back ≡ us ++ w ∷ vs → items_at k us ≡ xs → speaks_of k w ≡ true
        → (i.pos < n) ⊎ ((i.pos ≡ n) × (speaks_of k i ≡ true) × (verdict a i d ≡ Refuse g))
    by xs w at refused [] vs is before here =
        let same : i ≡ w = (first-item i w back vs is).0 in
        inr (ap position_of same ∙ at, subst (λ z. speaks_of k z ≡ true) (sym same) here, ap (λ z. verdict a z d) same ∙ ap (λ zs. verdict a w (after_items a zs d)) before ∙ refused)
    by xs w at refused (u ∷ us) vs is before here =
        let later : back ≡ us ++ w ∷ vs = (first-item i u back (us ++ w ∷ vs) is).1 in
        inl (subst (λ z. i.pos < z) at (above-all i.pos back w rises.0 (subst (IsOneOf w) (sym later) (in-middle us w vs))))

not-above : (j k : List ℕ) → (key_lt j k ≡ true → ⊥) → key_le k j ≡ true
not-above j k never =
    elim (key_lt j k) as (λ t. key_lt j k ≡ t → key_le k j ≡ true) [
      | true ↦ λ e. absurd (never e)
      | false ↦ λ e. le_of_not_lt j k e
    ] refl

first-of : (q : Asking) (cells : Cells) (failure : Failure) → Rises position_of q.items → (r : FailsSomewhere q.head q.items cells failure) → FailsFirst q r.key cells r.item.pos r.fault
first-of q cells failure rises r =
    let a = at_of q.head 0 in
    let high : Rises position_of (r.item ∷ r.back) = rises-right r.front (r.item ∷ r.back) (subst (Rises position_of) r.is rises) in
    record {
      here =
          ap (λ zs. turn_of a (items_at r.key zs) (content_at r.key cells)) r.is
          ∙ ap (λ zs. turn_of a zs (content_at r.key cells)) (at_split r.key r.front r.item r.back r.here)
          ∙ items_refused a (items_at r.key r.front) r.item (items_at r.key r.back) (content_at r.key cells) (r.before r.key).bits (r.before r.key).writes r.fault (r.before r.key).gives r.refused;
      first = λ j n g fails.
          elim (fails-there a j r.item r.back (after_items a (items_at j r.front) (content_at j cells)) n g high
          (past-front a (items_at j r.front) (items_at j (r.item ∷ r.back)) (content_at j cells) n g (r.before j)
          (ap (λ zs. turn_of a zs (content_at j cells)) (sym (filter-append (speaks_of j) r.front (r.item ∷ r.back)))
          ∙ ap (λ zs. turn_of a (items_at j zs) (content_at j cells)) (sym r.is)
          ∙ fails))) [
            | inl later ↦ inl later
            | inr same ↦ inr (same.0, not-above j r.key (λ low. not-fine (verdict a r.item (after_items a (items_at j r.front) (content_at j cells))) g same.2 (r.below j low same.1)))
          ];
    }

pub fails_turn : FailsTurn
fails_turn q cells failure rises asc h =
    let r = fails_at_key q.head q.items cells failure asc h in
    record { key = r.key; position = r.item.pos; fault = r.fault; first = first-of q cells failure rises r; says = r.says }
