-- Arrivals put at their places one after another, and the replies made of them.
use Rattle.std.proofs.Common.{◌≡◌, ℕ, suc, ◌+◌, ◌≤◌, ◌==◌, true, false, cond, List, [], ◌∷◌, ◌++◌, map, length, refl, sym, ap, ◌∙◌, subst, arith}
use Rattle.std.proofs.lemmas.List.{length-append}
use Rattle.ds_base.specs.Order.{key_lt}
use Rattle.ds_kind.specs.Bodies.{put_in_order, in_order, stands_at, those_at}
use Rattle.ds_kind.specs.declared.batch.Item.{Item}
use Rattle.ds_cover.specs.Items.{item_pos, AllAfter, PositionsRise}
use Rattle.ds_gather.specs.Gathered.{wanted, pos_of, start_of, rows_in, keys_in, all_rows, all_keys, gathered, reply_of}
use Rattle.ds_gather.specs.Places.{wanted_pos, Rises, EachPlace, HasRoom, IsFresh, IsReady, wanted_in, change_at, handed, place_for, filled, reply_from}
use Rattle.ds_gather.specs.declared.arrival.Arrival.{Arrival}
use Rattle.ds_gather.specs.declared.place.Place.{Place}
use Rattle.ds_gather.proofs.Joining.{assoc, all_nil, rows_push, keys_push}
use Rattle.ds_gather.proofs.Ranking.{kept_order}
use Rattle.ds_gather.proofs.Ready.{turned, each_map, each_so, room_same, rooms_first, wanted_changed}

-- what is put in order is as much as before

one_more : (n m : ℕ) → n ≡ m → suc n ≡ suc m
one_more n m h = omega (arith, h)

swap_sum : (a b c d : ℕ) → d ≡ a + c → b + d ≡ a + (b + c)
swap_sum a b c d h = omega (arith, h)

length_put : (a : Arrival) (xs : List Arrival) → length (put_in_order start_of a xs) ≡ suc (length xs)
length_put a [] = refl
length_put a (b ∷ bs) =
    elim (key_lt b.start a.start) as (λ t. length (cond t (b ∷ put_in_order start_of a bs) (a ∷ b ∷ bs)) ≡ suc (length (b ∷ bs))) [
      | true ↦ one_more _ _ (length_put a bs)
      | false ↦ refl
    ]

rows_put : (a : Arrival) (xs : List Arrival) → length (all_rows (put_in_order start_of a xs)) ≡ length (all_rows (a ∷ xs))
rows_put a [] = refl
rows_put a (b ∷ bs) =
    elim (key_lt b.start a.start) as (λ t. length (all_rows (cond t (b ∷ put_in_order start_of a bs) (a ∷ b ∷ bs))) ≡ length (all_rows (a ∷ b ∷ bs))) [
      | true ↦
          length-append (rows_in b.reply.body) (all_rows (put_in_order start_of a bs))
          ∙ swap_sum (length (rows_in a.reply.body)) (length (rows_in b.reply.body)) (length (all_rows bs)) _ (rows_put a bs ∙ length-append (rows_in a.reply.body) (all_rows bs))
          ∙ ap (λ n. length (rows_in a.reply.body) + n) (sym (length-append (rows_in b.reply.body) (all_rows bs)))
          ∙ sym (length-append (rows_in a.reply.body) (all_rows (b ∷ bs)))
      | false ↦ refl
    ]

keys_put : (a : Arrival) (xs : List Arrival) → length (all_keys (put_in_order start_of a xs)) ≡ length (all_keys (a ∷ xs))
keys_put a [] = refl
keys_put a (b ∷ bs) =
    elim (key_lt b.start a.start) as (λ t. length (all_keys (cond t (b ∷ put_in_order start_of a bs) (a ∷ b ∷ bs))) ≡ length (all_keys (a ∷ b ∷ bs))) [
      | true ↦
          length-append (keys_in b.reply.body) (all_keys (put_in_order start_of a bs))
          ∙ swap_sum (length (keys_in a.reply.body)) (length (keys_in b.reply.body)) (length (all_keys bs)) _ (keys_put a bs ∙ length-append (keys_in a.reply.body) (all_keys bs))
          ∙ ap (λ n. length (keys_in a.reply.body) + n) (sym (length-append (keys_in b.reply.body) (all_keys bs)))
          ∙ sym (length-append (keys_in a.reply.body) (all_keys (b ∷ bs)))
      | false ↦ refl
    ]

length_order : (xs : List Arrival) → length (in_order start_of xs) ≡ length xs
length_order [] = refl
length_order (x ∷ xs) = length_put x (in_order start_of xs) ∙ one_more _ _ (length_order xs)

rows_order : (xs : List Arrival) → length (all_rows (in_order start_of xs)) ≡ length (all_rows xs)
rows_order [] = refl
rows_order (x ∷ xs) =
    rows_put x (in_order start_of xs) ∙ length-append (rows_in x.reply.body) (all_rows (in_order start_of xs))
    ∙ ap (λ n. length (rows_in x.reply.body) + n) (rows_order xs) ∙ sym (length-append (rows_in x.reply.body) (all_rows xs))

keys_order : (xs : List Arrival) → length (all_keys (in_order start_of xs)) ≡ length (all_keys xs)
keys_order [] = refl
keys_order (x ∷ xs) =
    keys_put x (in_order start_of xs) ∙ length-append (keys_in x.reply.body) (all_keys (in_order start_of xs))
    ∙ ap (λ n. length (keys_in x.reply.body) + n) (keys_order xs) ∙ sym (length-append (keys_in x.reply.body) (all_keys xs))

as_much : (n d e m : ℕ) → d ≡ e → n + e ≤ m → n + d ≤ m
as_much n d e m is h = omega (arith, is, h)

room_ordered : (got : List Arrival) (p : Place) → HasRoom got p → HasRoom (in_order start_of got) p
room_ordered got p h =
    let at = those_at pos_of p.wanted.pos got in
    let is : those_at pos_of p.wanted.pos (in_order start_of got) ≡ in_order start_of at = kept_order start_of (stands_at pos_of p.wanted.pos) got in
    record {
      runs = as_much (length p.runs.items) _ (length at) p.runs.size (ap length is ∙ length_order at) h.runs;
      rows = as_much (length (all_rows p.runs.items)) _ (length (all_rows at)) p.rows.size (ap (λ z. length (all_rows z)) is ∙ rows_order at) h.rows;
      keys = as_much (length (all_keys p.runs.items)) _ (length (all_keys at)) p.keys.size (ap (λ z. length (all_keys z)) is ∙ keys_order at) h.keys;
      no_rows = h.no_rows;
      no_keys = h.no_keys;
    }

rooms_ordered : (got : List Arrival) (ps : List Place) → EachPlace (HasRoom got) ps → EachPlace (HasRoom (in_order start_of got)) ps
rooms_ordered got ps h = each_so (HasRoom got) (HasRoom (in_order start_of got)) ps (room_ordered got) h

pub room_there : (got all : List Arrival) (ps : List Place) → all ≡ in_order start_of got → EachPlace (HasRoom got) ps → EachPlace (HasRoom all) ps
room_there got all ps is h = subst (λ z. EachPlace (HasRoom z) ps) (sym is) (rooms_ordered got ps h)

-- one more put at its place

first_here : (n : ℕ) (a : Arrival) (xs : List Arrival) → (a.pos == n) ≡ true → those_at pos_of n (a ∷ xs) ≡ a ∷ those_at pos_of n xs
first_here n a xs e = ap (λ t. cond t (a ∷ those_at pos_of n xs) (those_at pos_of n xs)) e

first_other : (n : ℕ) (a : Arrival) (xs : List Arrival) → (a.pos == n) ≡ false → those_at pos_of n (a ∷ xs) ≡ those_at pos_of n xs
first_other n a xs e = ap (λ t. cond t (a ∷ those_at pos_of n xs) (those_at pos_of n xs)) e

passed : (n d e f g m : ℕ) → n + f ≤ m → f ≡ d + e → g ≡ n + d → g + e ≤ m
passed n d e f g m h is sum = omega (arith, h, is, sum)

one_and : (n : ℕ) → suc n ≡ 1 + n
one_and n = omega arith

room_handed : (got : List Arrival) (a : Arrival) (p : Place) → (a.pos == p.wanted.pos) ≡ true → HasRoom (a ∷ got) p → HasRoom got (handed a p)
room_handed got a p e h =
    let at = those_at pos_of p.wanted.pos got in
    let xs = p.runs.items in
    let is : those_at pos_of p.wanted.pos (a ∷ got) ≡ a ∷ at = first_here p.wanted.pos a got e in
    record {
      runs = passed (length xs) 1 (length at) _ _ p.runs.size h.runs (ap length is ∙ one_and (length at)) (length-append xs (a ∷ []));
      rows = passed (length (all_rows xs)) (length (rows_in a.reply.body)) (length (all_rows at)) _ _ p.rows.size h.rows (ap (λ z. length (all_rows z)) is ∙ length-append (rows_in a.reply.body) (all_rows at)) (ap length (rows_push xs a) ∙ length-append (all_rows xs) (rows_in a.reply.body));
      keys = passed (length (all_keys xs)) (length (keys_in a.reply.body)) (length (all_keys at)) _ _ p.keys.size h.keys (ap (λ z. length (all_keys z)) is ∙ length-append (keys_in a.reply.body) (all_keys at)) (ap length (keys_push xs a) ∙ length-append (all_keys xs) (keys_in a.reply.body));
      no_rows = h.no_rows;
      no_keys = h.no_keys;
    }

room_left : (got : List Arrival) (a : Arrival) (p : Place) → HasRoom (a ∷ got) p → HasRoom got (change_at a.pos (handed a) p)
room_left got a p h =
    elim (p.wanted.pos == a.pos) as (λ t. (p.wanted.pos == a.pos) ≡ t → HasRoom got (cond t (handed a p) p)) [
      | true ↦ λ e. room_handed got a p (turned a.pos p.wanted.pos ∙ e) h
      | false ↦ λ e. room_same (a ∷ got) got p (sym (first_other p.wanted.pos a got (turned a.pos p.wanted.pos ∙ e))) h
    ] refl

pub rooms_left : (got : List Arrival) (a : Arrival) (ps : List Place) → EachPlace (HasRoom (a ∷ got)) ps → EachPlace (HasRoom got) (map (change_at a.pos (handed a)) ps)
rooms_left got a ps h = each_map (HasRoom (a ∷ got)) (HasRoom got) (change_at a.pos (handed a)) ps (room_left got a) h

same_wanted : (a : Arrival) (p : Place) → (handed a p).wanted ≡ p.wanted
same_wanted a p = refl

pub handed_rise : (a : Arrival) (ps : List Place) → Rises (wanted_in ps) → Rises (wanted_in (map (change_at a.pos (handed a)) ps))
handed_rise a ps r = subst Rises (sym (wanted_changed a.pos (handed a) ps (same_wanted a))) r

-- all put at their places, one after another

abbrev with_runs : Place → List Arrival → Place
with_runs p xs = record { wanted = p.wanted; runs = record { items = xs; size = p.runs.size }; rows = p.rows; keys = p.keys }

filled_one : (got : List Arrival) (a : Arrival) (p : Place) → filled (a ∷ got) p ≡ filled got (change_at a.pos (handed a) p)
filled_one got a p =
    elim (p.wanted.pos == a.pos) as (λ t. (p.wanted.pos == a.pos) ≡ t → filled (a ∷ got) p ≡ filled got (cond t (handed a p) p)) [
      | true ↦ λ e. ap (with_runs p)
          (ap (λ xs. p.runs.items ++ xs) (first_here p.wanted.pos a got (turned a.pos p.wanted.pos ∙ e)) ∙ sym (assoc p.runs.items (a ∷ []) (those_at pos_of p.wanted.pos got)))
      | false ↦ λ e. ap (with_runs p)
          (ap (λ xs. p.runs.items ++ xs) (first_other p.wanted.pos a got (turned a.pos p.wanted.pos ∙ e)))
    ] refl

filled_all : (got : List Arrival) (a : Arrival) (ps : List Place) → map (filled (a ∷ got)) ps ≡ map (filled got) (map (change_at a.pos (handed a)) ps)
filled_all got a [] = refl
filled_all got a (p ∷ ps) = ap (λ q. q ∷ map (filled (a ∷ got)) ps) (filled_one got a p) ∙ ap (λ qs. filled got (change_at a.pos (handed a) p) ∷ qs) (filled_all got a ps)

filled_none : (ps : List Place) → map (filled []) ps ≡ ps
filled_none [] = refl
filled_none (p ∷ ps) = ap (λ q. q ∷ map (filled []) ps) (ap (with_runs p) (all_nil p.runs.items)) ∙ ap (λ qs. p ∷ qs) (filled_none ps)

-- replies

one_reply : (got all : List Arrival) (p : Place) → all ≡ in_order start_of got → IsFresh p → reply_from (filled all p) ≡ reply_of got p.wanted
one_reply got all p is fresh =
    let n = p.wanted.pos in
    let at : p.runs.items ++ those_at pos_of n all ≡ in_order start_of (those_at pos_of n got) =
    ap (λ z. z ++ those_at pos_of n all) fresh ∙ ap (those_at pos_of n) is ∙ kept_order start_of (stands_at pos_of n) got in
    ap (λ xs. reply_from (with_runs p xs)) at

pub all_replies : (got all : List Arrival) (ps : List Place) → all ≡ in_order start_of got → EachPlace IsFresh ps → map reply_from (map (filled all) ps) ≡ gathered (wanted_in ps) got
all_replies got all [] is fresh = refl
all_replies got all (p ∷ ps) is fresh = ap (λ r. r ∷ map reply_from (map (filled all) ps)) (one_reply got all p is fresh.0) ∙ ap (λ rs. reply_of got p.wanted ∷ rs) (all_replies got all ps is fresh.1)

-- the beginning

first_wanted : (is : List Item) → wanted_in (map place_for is) ≡ map wanted is
first_wanted [] = refl
first_wanted (i ∷ is) = ap (λ ws. wanted i ∷ ws) (first_wanted is)

after_items : (n : ℕ) (is : List Item) → AllAfter item_pos n is → AllAfter wanted_pos n (map wanted is)
after_items n [] all = tt
after_items n (i ∷ is) all = (all.0, after_items n is all.1)

rise_items : (is : List Item) → PositionsRise is → Rises (map wanted is)
rise_items [] r = tt
rise_items (i ∷ is) r = (after_items i.pos is r.0, rise_items is r.1)

first_room : (is : List Item) → EachPlace (HasRoom []) (map place_for is)
first_room [] = tt
first_room (i ∷ is) = (record { runs = omega arith; rows = omega arith; keys = omega arith; no_rows = refl; no_keys = refl }, first_room is)

first_fresh : (is : List Item) → EachPlace IsFresh (map place_for is)
first_fresh [] = tt
first_fresh (i ∷ is) = (refl, first_fresh is)

pub ready_first_places : (is : List Item) → PositionsRise is → IsReady [] (map place_for is)
ready_first_places is r = record { rise = subst Rises (sym (first_wanted is)) (rise_items is r); room = first_room is; fresh = first_fresh is }

pub wanted_first : (is : List Item) → wanted_in (map place_for is) ≡ map wanted is
wanted_first is = first_wanted is

-- what is still to be put, and the places so far, make the same as all at first
abbrev pub Spread : List Arrival → List Place → List Arrival → List Place → Type 0
Spread got ps all start = Rises (wanted_in ps) × EachPlace (HasRoom got) ps × (map (filled got) ps ≡ map (filled all) start)

pub spread_more : (all got rest : List Arrival) (start ps qs : List Place) (a : Arrival) → got ≡ a ∷ rest → qs ≡ map (change_at a.pos (handed a)) ps → Spread got ps all start → Spread rest qs all start
spread_more all got rest start ps qs a first is s = (
  subst (λ z. Rises (wanted_in z)) (sym is) (handed_rise a ps s.0),
  subst (EachPlace (HasRoom rest)) (sym is) (rooms_left rest a ps (subst (λ z. EachPlace (HasRoom z) ps) first s.1)),
  ap (map (filled rest)) is ∙ sym (filled_all rest a ps) ∙ ap (λ z. map (filled z) ps) (sym first) ∙ s.2,
)

pub spread_room : (all got rest : List Arrival) (start ps : List Place) (a : Arrival) → got ≡ a ∷ rest → Spread got ps all start → EachPlace (HasRoom (a ∷ [])) ps
spread_room all got rest start ps a first s = rooms_first (a ∷ []) rest ps (subst (λ z. EachPlace (HasRoom z) ps) first s.1)

pub spread_all : (all got : List Arrival) (start ps : List Place) → got ≡ [] → Spread got ps all start → ps ≡ map (filled all) start
spread_all all got start ps none s = sym (filled_none ps) ∙ ap (λ z. map (filled z) ps) (sym none) ∙ s.2

pub spread_end : (all got : List Arrival) (start ps : List Place) → got ≡ [] → Spread got ps all start → EachPlace (HasRoom []) ps
spread_end all got start ps none s = subst (λ z. EachPlace (HasRoom z) ps) none s.1

pub nothing_left : {X : Type 0} (xs : List X) → length xs ≡ 0 → xs ≡ []
nothing_left [] h = refl
nothing_left (x ∷ xs) h = absurd (omega (arith, h))
