-- In a list whose numbers rise, the last that passes is the greatest.
use Rattle.std.proofs.Common.{◌≡◌, ℕ, ◌≤◌, ◌<◌, Bool, true, false, cond, List, [], ◌∷◌, ◌++◌, reverse, refl, sym, ap, ◌∙◌, subst, Option, Some, None, ◌⊎◌, inl, inr, arith, nat_le, leb-true, ltb-true, ltb-false, append_assoc, ◌==◌, ◌&&◌, nat_lt}
use Rattle.std.specs.List.{find, Contains, fold}
use Rattle.std.specs.Option.{option_or}
use Rattle.std.proofs.lemmas.List.{reverse-append, append-nil}
use Rattle.std.proofs.lemmas.List.Folds.{find-append}
use Rattle.std.proofs.lemmas.List.Elements.{Contains-append_cases, Contains-append_left, Contains-append_right, Contains-push_cases, Contains-push}
use Rattle.std.proofs.lemmas.Bool.{leb-false}
use Rattle.ds_base.proofs.SmallFacts.{and_first, and_second}
use Rattle.ds_base.specs.declared.value.Stamp.{Stamp}
use Rattle.ds_cell.specs.declared.entry.At.{At}
use Rattle.ds_cell.specs.declared.entry.Version.{Version}
use Rattle.ds_cell.specs.Content.{Content, AllAbove, Rises, IsContent, stamp_of, seq_of}
use Rattle.ds_cell.specs.Seen.{last_where, last_of, held, own, newest, version_at, raised, stamp_from, newest_from, IsLatest, IsNewestFrom}

pub none_in : {X : Type 0} {G : Type 0} (x : X) → Contains [] x → G
none_in x h = let low : h.0 < 0 = h.1 in absurd (omega arith)

one_in : {X : Type 0} (y x : X) → Contains (y ∷ []) x → y ≡ x
one_in y x h = elim (Contains-push_cases [] y x h) [
  | inl none ↦ none_in x none
  | inr same ↦ same
]

cons_cases : {X : Type 0} (y : X) (ys : List X) (x : X) → Contains (y ∷ ys) x → (y ≡ x) ⊎ Contains ys x
cons_cases y ys x h = elim (Contains-append_cases (y ∷ []) ys x h) [
  | inl first ↦ inl (one_in y x first)
  | inr rest ↦ inr rest
]

pub in_first : {X : Type 0} (y : X) (ys : List X) → Contains (y ∷ ys) y
in_first y ys = Contains-append_left (y ∷ []) ys y (Contains-push [] y)

pub in_rest : {X : Type 0} (y : X) (ys : List X) (x : X) → Contains ys x → Contains (y ∷ ys) x
in_rest y ys x h = Contains-append_right (y ∷ []) ys x h

above_all : {X : Type 0} (f : X → ℕ) (m : ℕ) (xs : List X) (x : X) → AllAbove f m xs → Contains xs x → m < f x
above_all f m [] x all h = none_in x h
above_all f m (y ∷ ys) x all h = elim (cons_cases y ys x h) [
  | inl same ↦ subst (λ z. m < f z) same all.0
  | inr rest ↦ above_all f m ys x all.1 rest
]

-- the last that passes, from the front
pub last_where-cons : {X : Type 0} (p : X → Bool) (x : X) (xs : List X) → last_where p (x ∷ xs) ≡ option_or (last_where p xs) (cond (p x) (Some x) None)
last_where-cons p x xs = ap (find p) (reverse-append (x ∷ []) xs) ∙ find-append p (reverse xs) (x ∷ [])

latest_more : {X : Type 0} (f : X → ℕ) (n : ℕ) (x : X) (xs : List X) → AllAbove f (f x) xs → (o : Option X) → IsLatest f n xs o → (t : Bool) → nat_le (f x) n ≡ t → IsLatest f n (x ∷ xs) (option_or o (cond t (Some x) None))
latest_more f n x xs above (Some w) is t e = (
  in_rest x xs w is.0,
  is.1,
  λ y h low. elim (cons_cases x xs y h) [
    | inl same ↦ let high : f x < f w = above_all f (f x) xs w above is.0 in subst (λ z. f z ≤ f w) same (omega arith)
    | inr rest ↦ is.2 y rest low
  ],
)
latest_more f n x xs above None is true e =
    let low : f x ≤ n = leb-true _ _ e in (
      in_first x xs,
      low,
      λ y h under. elim (cons_cases x xs y h) [
        | inl same ↦ subst (λ z. f z ≤ f x) same (omega arith)
        | inr rest ↦ let high : n < f y = is y rest in omega arith
      ],
    )
latest_more f n x xs above None is false e =
    let high : n < f x = leb-false _ _ e in
    λ y h. elim (cons_cases x xs y h) [
      | inl same ↦ subst (λ z. n < f z) same high
      | inr rest ↦ is y rest
    ]

pub latest : {X : Type 0} (f : X → ℕ) (n : ℕ) (xs : List X) → Rises f xs → IsLatest f n xs (last_where (λ x. nat_le (f x) n) xs)
latest f n [] r = λ x h. none_in x h
latest f n (x ∷ xs) r =
    subst (IsLatest f n (x ∷ xs)) (sym (last_where-cons (λ z. nat_le (f z) n) x xs))
    (latest_more f n x xs r.0 _ (latest f n xs r.1) _ refl)

-- a transaction's writes rise with the history
rises_if : {X : Type 0} (f : X → ℕ) (t : Bool) (xs : List X) → Rises f xs → Rises f (cond t xs [])
rises_if f true xs r = r
rises_if f false xs r = tt

pub rises_own : (at : At) (c : Content) → IsContent c → Rises seq_of (own at c)
rises_own at c is =
    rises_if seq_of (c.epoch == at.epoch) (held at.txn.0 c) (rises_if seq_of (c.owner == at.txn.0) c.history is.numbers_rise)

pub latest_write : (at : At) (n : ℕ) (c : Content) → IsContent c → IsLatest seq_of n (own at c) (newest n (own at c))
latest_write at n c is = latest seq_of n (own at c) (rises_own at c is)

pub latest_version : (s : ℕ) (c : Content) → IsContent c → IsLatest stamp_of s c.versions (version_at s c.versions)
latest_version s c is = latest stamp_of s c.versions is.stamps_rise

-- the last of rising versions has the greatest stamp

abbrev pub IsLast : List Version → Option Version → Type 0
IsLast vs None = (v : Version) → Contains vs v → ⊥
IsLast vs (Some w) = Contains vs w × ((v : Version) → Contains vs v → v.stamp.0 ≤ w.stamp.0)

last_more : (v : Version) (vs : List Version) → AllAbove stamp_of v.stamp.0 vs → (o : Option Version) → IsLast vs o → IsLast (v ∷ vs) (option_or o (Some v))
last_more v vs above (Some w) is = (
  in_rest v vs w is.0,
  λ u h. elim (cons_cases v vs u h) [
    | inl same ↦ let high : v.stamp.0 < w.stamp.0 = above_all stamp_of v.stamp.0 vs w above is.0 in subst (λ z. z.stamp.0 ≤ w.stamp.0) same (omega arith)
    | inr rest ↦ is.1 u rest
  ],
)
last_more v vs above None is = (
  in_first v vs,
  λ u h. elim (cons_cases v vs u h) [
    | inl same ↦ subst (λ z. z.stamp.0 ≤ v.stamp.0) same (omega arith)
    | inr rest ↦ absurd (is u rest)
  ],
)

pub last_is : (vs : List Version) → Rises stamp_of vs → IsLast vs (last_of vs)
last_is [] r = λ v h. none_in v h
last_is (v ∷ vs) r = subst (IsLast (v ∷ vs)) (sym (last_where-cons (λ _. true) v vs)) (last_more v vs r.0 _ (last_is vs r.1))

newest_last : (s : ℕ) (vs : List Version) (o : Option Version) → IsLast vs o → IsNewestFrom s vs (stamp_from s o)
newest_last s vs None is = λ v h. absurd (is v h)
newest_last s vs (Some w) is =
    elim (nat_le s w.stamp.0) as (λ t. nat_le s w.stamp.0 ≡ t → IsNewestFrom s vs (cond t (Some w.stamp) None)) [
      | true ↦ λ e. ((w, is.0, refl), leb-true _ _ e, is.1)
      | false ↦ λ e. λ v h. let top : v.stamp.0 ≤ w.stamp.0 = is.1 v h in let low : w.stamp.0 < s = leb-false _ _ e in omega arith
    ] refl

not_above : (s t v : ℕ) → s ≤ t → (nat_le s v && nat_lt t v) ≡ false → v ≤ t
not_above s t v from e =
    elim (nat_le s v) as (λ b. nat_le s v ≡ b → (b && nat_lt t v) ≡ false → v ≤ t) [
      | true ↦ λ d g. ltb-false t v g
      | false ↦ λ d g. let low : v < s = leb-false s v d in omega arith
    ] refl e

newest_more : (s : ℕ) (us : List Version) (o : Option Stamp) (v : Version) → IsNewestFrom s us o → IsNewestFrom s (us ++ v ∷ []) (raised s o v)
newest_more s us None v is =
    elim (nat_le s v.stamp.0) as (λ t. nat_le s v.stamp.0 ≡ t → IsNewestFrom s (us ++ v ∷ []) (cond t (Some v.stamp) None)) [
      | true ↦ λ e. let from : s ≤ v.stamp.0 = leb-true _ _ e in (
        (v, Contains-push us v, refl),
        from,
        λ u h. elim (Contains-push_cases us v u h) [
          | inl old ↦ let low : u.stamp.0 < s = is u old in omega arith
          | inr same ↦ subst (λ z. z.stamp.0 ≤ v.stamp.0) same (omega arith)
        ],
      )
      | false ↦ λ e. let below : v.stamp.0 < s = leb-false _ _ e in
          λ u h. elim (Contains-push_cases us v u h) [
            | inl old ↦ is u old
            | inr same ↦ subst (λ z. z.stamp.0 < s) same below
          ]
    ] refl
newest_more s us (Some t) v is =
    elim (nat_le s v.stamp.0 && nat_lt t.0 v.stamp.0) as (λ b. (nat_le s v.stamp.0 && nat_lt t.0 v.stamp.0) ≡ b → IsNewestFrom s (us ++ v ∷ []) (cond b (Some v.stamp) (Some t))) [
      | true ↦ λ e. let from : s ≤ v.stamp.0 = leb-true _ _ (and_first _ _ e) in let above : t.0 < v.stamp.0 = ltb-true _ _ (and_second (nat_le s v.stamp.0) _ e) in (
        (v, Contains-push us v, refl),
        from,
        λ u h. elim (Contains-push_cases us v u h) [
          | inl old ↦ let low : u.stamp.0 ≤ t.0 = is.2 u old in omega arith
          | inr same ↦ subst (λ z. z.stamp.0 ≤ v.stamp.0) same (omega arith)
        ],
      )
      | false ↦ λ e. let top : v.stamp.0 ≤ t.0 = not_above s t.0 v.stamp.0 is.1 e in (
        (is.0.0, Contains-append_left us (v ∷ []) is.0.0 is.0.1, is.0.2),
        is.1,
        λ u h. elim (Contains-push_cases us v u h) [
          | inl old ↦ is.2 u old
          | inr same ↦ subst (λ z. z.stamp.0 ≤ t.0) same top
        ],
      )
    ] refl

newest_fold : (s : ℕ) (us ws : List Version) (o : Option Stamp) → IsNewestFrom s us o → IsNewestFrom s (us ++ ws) (fold (raised s) o ws)
newest_fold s us [] o is = subst (λ vs. IsNewestFrom s vs o) (sym (append-nil us)) is
newest_fold s us (w ∷ ws) o is =
    subst (λ vs. IsNewestFrom s vs (fold (raised s) (raised s o w) ws)) (append_assoc us (w ∷ []) ws)
    (newest_fold s (us ++ w ∷ []) ws (raised s o w) (newest_more s us o w is))

-- the stamp that `newest_from` names is the greatest
pub newest_is : (s : ℕ) (c : Content) → IsContent c → IsNewestFrom s (c.versions ++ c.waiting) (newest_from s c)
newest_is s c is = newest_fold s c.versions c.waiting _ (newest_last s c.versions _ (last_is c.versions is.stamps_rise))
