-- Places with room for what came, and what is left of the room once it is put in order.
use Rattle.std.proofs.Common.{◌≡◌, ℕ, ◌+◌, ◌≤◌, ◌==◌, Bool, true, false, cond, List, [], ◌∷◌, ◌++◌, map, length, take, drop, refl, sym, ap, ◌∙◌, subst, arith, eq-eqb, ne_eqb, eqb-true}
use Rattle.std.proofs.lemmas.List.{length-append, take-append-drop}
use Rattle.ds_kind.specs.Bodies.{those_at}
use Rattle.ds_kind.specs.declared.reply.Reply.{Reply}
use Rattle.ds_gather.specs.Gathered.{pos_of, rows_in, keys_in, all_rows, all_keys, in_direction}
use Rattle.ds_gather.specs.Places.{Rises, EachPlace, HasRoom, IsFresh, IsReady, wanted_in, change_at, grown}
use Rattle.ds_gather.specs.declared.arrival.Arrival.{Arrival}
use Rattle.ds_gather.specs.declared.place.Place.{Place}
use Rattle.ds_gather.proofs.Joining.{rows_push, keys_push, rows_of_both, keys_of_both, rows_directed, keys_directed}

-- each place

pub each_map : (P Q : Place → Type 0) (g : Place → Place) (ps : List Place) → ((p : Place) → P p → Q (g p)) → EachPlace P ps → EachPlace Q (map g ps)
each_map P Q g [] h all = tt
each_map P Q g (p ∷ ps) h all = (h p all.0, each_map P Q g ps h all.1)

pub each_so : (P Q : Place → Type 0) (ps : List Place) → ((p : Place) → P p → Q p) → EachPlace P ps → EachPlace Q ps
each_so P Q [] h all = tt
each_so P Q (p ∷ ps) h all = (h p all.0, each_so P Q ps h all.1)

pub wanted_changed : (n : ℕ) (f : Place → Place) (ps : List Place) → ((p : Place) → (f p).wanted ≡ p.wanted) → wanted_in (map (change_at n f) ps) ≡ wanted_in ps
wanted_changed n f [] h = refl
wanted_changed n f (p ∷ ps) h =
    ap (λ w. w ∷ wanted_in (map (change_at n f) ps)) (one (p.wanted.pos == n)) ∙ ap (λ ws. p.wanted ∷ ws) (wanted_changed n f ps h)
  where
    one : (t : Bool) → (cond t (f p) p).wanted ≡ p.wanted
    one true = h p
    one false = refl

-- those at a position, of more

pub at_other : (n : ℕ) (a : Arrival) (xs : List Arrival) → (a.pos == n) ≡ false → those_at pos_of n (xs ++ a ∷ []) ≡ those_at pos_of n xs
at_other n a [] e = ap (λ t. cond t (a ∷ []) []) e
at_other n a (x ∷ xs) e = ap (λ zs. cond (x.pos == n) (x ∷ zs) zs) (at_other n a xs e)

pub at_same : (n : ℕ) (a : Arrival) (xs : List Arrival) → (a.pos == n) ≡ true → those_at pos_of n (xs ++ a ∷ []) ≡ those_at pos_of n xs ++ a ∷ []
at_same n a [] e = ap (λ t. cond t (a ∷ []) []) e
at_same n a (x ∷ xs) e =
    ap (λ zs. cond (x.pos == n) (x ∷ zs) zs) (at_same n a xs e) ∙ kept (x.pos == n) x (those_at pos_of n xs) (a ∷ [])
  where
    kept : (t : Bool) (x : Arrival) (xs ys : List Arrival) → cond t (x ∷ (xs ++ ys)) (xs ++ ys) ≡ cond t (x ∷ xs) xs ++ ys
    kept true x xs ys = refl
    kept false x xs ys = refl

pub turned : (m n : ℕ) → (m == n) ≡ (n == m)
turned m n =
    elim (m == n) as (λ t. (m == n) ≡ t → t ≡ (n == m)) [
      | true ↦ λ e. sym (eq-eqb n m (sym (eqb-true m n e)))
      | false ↦ λ e. sym (ne_eqb n m (λ h. no (sym (eq-eqb m n (sym h)) ∙ e)))
    ] refl
  where
    no : true ≡ false → ⊥
    no h = cc

-- room

raised : (n d m e : ℕ) → n + d ≤ m → n + d ≤ m + e
raised n d m e h = omega (arith, h)

raised_both : (n d m e f : ℕ) → n + d ≤ m → f ≡ d + e → n + f ≤ m + e
raised_both n d m e f h is = omega (arith, h, is)

keeps : (got : List Arrival) (r : Reply) (p : Place) → HasRoom got p → HasRoom got (grown r p)
keeps got r p h = record {
  runs = raised _ _ _ 1 h.runs;
  rows = raised _ _ _ (length (rows_in r.body)) h.rows;
  keys = raised _ _ _ (length (keys_in r.body)) h.keys;
  no_rows = h.no_rows;
  no_keys = h.no_keys;
}

pub room_same : (xs ys : List Arrival) (p : Place) → those_at pos_of p.wanted.pos ys ≡ those_at pos_of p.wanted.pos xs → HasRoom xs p → HasRoom ys p
room_same xs ys p is h = record {
  runs = subst (λ z. length p.runs.items + length z ≤ p.runs.size) (sym is) h.runs;
  rows = subst (λ z. length (all_rows p.runs.items) + length (all_rows z) ≤ p.rows.size) (sym is) h.rows;
  keys = subst (λ z. length (all_keys p.runs.items) + length (all_keys z) ≤ p.keys.size) (sym is) h.keys;
  no_rows = h.no_rows;
  no_keys = h.no_keys;
}

room_grown : (got : List Arrival) (a : Arrival) (p : Place) → (a.pos == p.wanted.pos) ≡ true → HasRoom got p → HasRoom (got ++ a ∷ []) (grown a.reply p)
room_grown got a p e h =
    let at = those_at pos_of p.wanted.pos got in
    let is : those_at pos_of p.wanted.pos (got ++ a ∷ []) ≡ at ++ a ∷ [] = at_same p.wanted.pos a got e in
    record {
      runs = raised_both (length p.runs.items) (length at) p.runs.size 1 _ h.runs (ap length is ∙ length-append at (a ∷ []));
      rows = raised_both (length (all_rows p.runs.items)) (length (all_rows at)) p.rows.size (length (rows_in a.reply.body)) _ h.rows (ap (λ z. length (all_rows z)) is ∙ ap length (rows_push at a) ∙ length-append (all_rows at) (rows_in a.reply.body));
      keys = raised_both (length (all_keys p.runs.items)) (length (all_keys at)) p.keys.size (length (keys_in a.reply.body)) _ h.keys (ap (λ z. length (all_keys z)) is ∙ ap length (keys_push at a) ∙ length-append (all_keys at) (keys_in a.reply.body));
      no_rows = h.no_rows;
      no_keys = h.no_keys;
    }

room_pushed : (got : List Arrival) (a : Arrival) (p : Place) → HasRoom got p → HasRoom (got ++ a ∷ []) (change_at a.pos (grown a.reply) p)
room_pushed got a p h =
    elim (p.wanted.pos == a.pos) as (λ t. (p.wanted.pos == a.pos) ≡ t → HasRoom (got ++ a ∷ []) (cond t (grown a.reply p) p)) [
      | true ↦ λ e. room_grown got a p (turned a.pos p.wanted.pos ∙ e) h
      | false ↦ λ e. room_same got (got ++ a ∷ []) p (at_other p.wanted.pos a got (turned a.pos p.wanted.pos ∙ e)) h
    ] refl

fresh_grown : (n : ℕ) (r : Reply) (p : Place) → IsFresh p → IsFresh (change_at n (grown r) p)
fresh_grown n r p h =
    elim (p.wanted.pos == n) as (λ t. IsFresh (cond t (grown r p) p)) [
      | true ↦ h
      | false ↦ h
    ]

room_kept : (n : ℕ) (got : List Arrival) (r : Reply) (p : Place) → HasRoom got p → HasRoom got (change_at n (grown r) p)
room_kept n got r p h =
    elim (p.wanted.pos == n) as (λ t. HasRoom got (cond t (grown r p) p)) [
      | true ↦ keeps got r p h
      | false ↦ h
    ]

same_wanted : (r : Reply) (p : Place) → (grown r p).wanted ≡ p.wanted
same_wanted r p = refl

-- room was made for one more, which may not have come
pub ready_grown : (n : ℕ) (got : List Arrival) (r : Reply) (ps : List Place) → IsReady got ps → IsReady got (map (change_at n (grown r)) ps)
ready_grown n got r ps h = record {
  rise = subst Rises (sym (wanted_changed n (grown r) ps (same_wanted r))) h.rise;
  room = each_map (HasRoom got) (HasRoom got) (change_at n (grown r)) ps (room_kept n got r) h.room;
  fresh = each_map IsFresh IsFresh (change_at n (grown r)) ps (fresh_grown n r) h.fresh;
}

pub ready_pushed : (got : List Arrival) (a : Arrival) (ps : List Place) → IsReady got ps → IsReady (got ++ a ∷ []) (map (change_at a.pos (grown a.reply)) ps)
ready_pushed got a ps h = record {
  rise = subst Rises (sym (wanted_changed a.pos (grown a.reply) ps (same_wanted a.reply))) h.rise;
  room = each_map (HasRoom got) (HasRoom (got ++ a ∷ [])) (change_at a.pos (grown a.reply)) ps (room_pushed got a) h.room;
  fresh = each_map IsFresh IsFresh (change_at a.pos (grown a.reply)) ps (fresh_grown a.pos a.reply) h.fresh;
}

pub grown_wanted : (n : ℕ) (r : Reply) (ps : List Place) → wanted_in (map (change_at n (grown r)) ps) ≡ wanted_in ps
grown_wanted n r ps = wanted_changed n (grown r) ps (same_wanted r)

-- fewer answers

at_append : (n : ℕ) (xs ys : List Arrival) → those_at pos_of n (xs ++ ys) ≡ those_at pos_of n xs ++ those_at pos_of n ys
at_append n [] ys = refl
at_append n (x ∷ xs) ys =
    ap (λ zs. cond (x.pos == n) (x ∷ zs) zs) (at_append n xs ys) ∙ kept (x.pos == n) x (those_at pos_of n xs) (those_at pos_of n ys)
  where
    kept : (t : Bool) (x : Arrival) (xs ys : List Arrival) → cond t (x ∷ (xs ++ ys)) (xs ++ ys) ≡ cond t (x ∷ xs) xs ++ ys
    kept true x xs ys = refl
    kept false x xs ys = refl

part_low : (n d e f m : ℕ) → f ≡ d + e → n + f ≤ m → n + d ≤ m
part_low n d e f m is h = omega (arith, is, h)

part_high : (n d e f m : ℕ) → f ≡ d + e → n + f ≤ m → n + e ≤ m
part_high n d e f m is h = omega (arith, is, h)

room_first : (xs ys : List Arrival) (p : Place) → HasRoom (xs ++ ys) p → HasRoom xs p
room_first xs ys p h =
    let n = p.wanted.pos in
    record {
      runs = part_low (length p.runs.items) (length (those_at pos_of n xs)) (length (those_at pos_of n ys)) _ p.runs.size (ap length (at_append n xs ys) ∙ length-append (those_at pos_of n xs) (those_at pos_of n ys)) h.runs;
      rows = part_low (length (all_rows p.runs.items)) (length (all_rows (those_at pos_of n xs))) (length (all_rows (those_at pos_of n ys))) _ p.rows.size (ap (λ z. length (all_rows z)) (at_append n xs ys) ∙ rows_of_both (those_at pos_of n xs) (those_at pos_of n ys)) h.rows;
      keys = part_low (length (all_keys p.runs.items)) (length (all_keys (those_at pos_of n xs))) (length (all_keys (those_at pos_of n ys))) _ p.keys.size (ap (λ z. length (all_keys z)) (at_append n xs ys) ∙ keys_of_both (those_at pos_of n xs) (those_at pos_of n ys)) h.keys;
      no_rows = h.no_rows;
      no_keys = h.no_keys;
    }

room_last : (xs ys : List Arrival) (p : Place) → HasRoom (xs ++ ys) p → HasRoom ys p
room_last xs ys p h =
    let n = p.wanted.pos in
    record {
      runs = part_high (length p.runs.items) (length (those_at pos_of n xs)) (length (those_at pos_of n ys)) _ p.runs.size (ap length (at_append n xs ys) ∙ length-append (those_at pos_of n xs) (those_at pos_of n ys)) h.runs;
      rows = part_high (length (all_rows p.runs.items)) (length (all_rows (those_at pos_of n xs))) (length (all_rows (those_at pos_of n ys))) _ p.rows.size (ap (λ z. length (all_rows z)) (at_append n xs ys) ∙ rows_of_both (those_at pos_of n xs) (those_at pos_of n ys)) h.rows;
      keys = part_high (length (all_keys p.runs.items)) (length (all_keys (those_at pos_of n xs))) (length (all_keys (those_at pos_of n ys))) _ p.keys.size (ap (λ z. length (all_keys z)) (at_append n xs ys) ∙ keys_of_both (those_at pos_of n xs) (those_at pos_of n ys)) h.keys;
      no_rows = h.no_rows;
      no_keys = h.no_keys;
    }

pub rooms_first : (xs ys : List Arrival) (ps : List Place) → EachPlace (HasRoom (xs ++ ys)) ps → EachPlace (HasRoom xs) ps
rooms_first xs ys ps h = each_so (HasRoom (xs ++ ys)) (HasRoom xs) ps (room_first xs ys) h

pub rooms_last : (xs ys : List Arrival) (ps : List Place) → EachPlace (HasRoom (xs ++ ys)) ps → EachPlace (HasRoom ys) ps
rooms_last xs ys ps h = each_so (HasRoom (xs ++ ys)) (HasRoom ys) ps (room_last xs ys) h

pub ready_first : (xs ys : List Arrival) (ps : List Place) → IsReady (xs ++ ys) ps → IsReady xs ps
ready_first xs ys ps h = record { rise = h.rise; room = rooms_first xs ys ps h.room; fresh = h.fresh }

-- room for all that came, in either direction

none_more : (n d m k : ℕ) → d ≡ n → n + 0 ≤ m → k ≡ 0 → k + d ≤ m
none_more n d m k same h none = omega (arith, same, h, none)

pub rows_room : (p : Place) (xs : List Arrival) → HasRoom [] p → xs ≡ in_direction p.wanted.down p.runs.items → length p.rows.items + length (all_rows xs) ≤ p.rows.size
rows_room p xs h is = none_more (length (all_rows p.runs.items)) (length (all_rows xs)) p.rows.size (length p.rows.items) (ap (λ z. length (all_rows z)) is ∙ rows_directed p.wanted.down p.runs.items) h.rows (ap length h.no_rows)

pub keys_room : (p : Place) (xs : List Arrival) → HasRoom [] p → xs ≡ in_direction p.wanted.down p.runs.items → length p.keys.items + length (all_keys xs) ≤ p.keys.size
keys_room p xs h is = none_more (length (all_keys p.runs.items)) (length (all_keys xs)) p.keys.size (length p.keys.items) (ap (λ z. length (all_keys z)) is ∙ keys_directed p.wanted.down p.runs.items) h.keys (ap length h.no_keys)

pub ready_take : (n : ℕ) (got : List Arrival) (ps : List Place) → IsReady got ps → IsReady (take n got) ps
ready_take n got ps h = ready_first (take n got) (drop n got) ps (subst (λ z. IsReady z ps) (sym (take-append-drop n got)) h)
