-- Items of which a limit lets only a part be asked.
use Rattle.std.proofs.Common.{◌≡◌, ℕ, zero, suc, ◌+◌, ◌-◌, ◌<◌, ◌≤◌, Bool, true, false, cond, List, [], ◌∷◌, ◌++◌, map, reverse, Option, Some, None, refl, sym, ap, ◌∙◌, subst, ◌⊎◌, inl, inr, MatchOption, arith, length}
use Rattle.std.specs.List.{filter, slice_get}
use Rattle.std.proofs.lemmas.List.{length-reverse, reverse-append, map-append}
use Rattle.std.proofs.lemmas.List.Elements.{filter-append}
use Rattle.ds_base.specs.Order.{Extent, after, key_lt, key_le, holds}
use Rattle.ds_base.specs.Ordered.{between}
use Rattle.ds_base.proofs.KeyFacts.{le_itself, own_span}
use Rattle.ds_base.proofs.KeyOrder.{key_lt-irrefl, key_le-antisymm, after-tight}
use Rattle.ds_base.proofs.ListFacts.{last_first}
use Rattle.ds_base.proofs.OrderedFacts.{le_trans, le_of_not_lt, not_le_of_lt}
use Rattle.ds_base.proofs.SmallFacts.{and_first, and_second, append_nil, none_some, some_same}
use Rattle.ds_kind.specs.Asks.{has_room, has_proper_span, is_proper}
use Rattle.ds_kind.specs.Bodies.{empty_body, goes_down}
use Rattle.ds_kind.specs.Left.{taken_in, left_after}
use Rattle.ds_kind.specs.Reach.{Reach, At as Point, Over, extent_of}
use Rattle.ds_kind.specs.Request.{reach_of, span_of}
use Rattle.ds_kind.specs.declared.batch.Head.{Head}
use Rattle.ds_kind.specs.declared.batch.Item.{Item}
use Rattle.ds_kind.specs.declared.reply.Reply.{Reply}
use Rattle.ds_kind.specs.declared.request.Request.{Request}
use Rattle.ds_kind.specs.declared.request.Request.TheVariants.{Get, Scan, ReverseScan, Put, ConditionalPut, InitPut, Increment, Delete, DeleteRange, EndTxn, QueryIntent, ResolveIntent, ResolveIntentRange, AdminSplit, AdminTransferLease}
use Rattle.ds_kind.proofs.RequestFacts.{cut_whole}
use Rattle.ds_cell.specs.declared.entry.At.{At}
use Rattle.ds_cell.specs.Ask.{Cell, Cells, key_of, content_at, places, Asked, Failed, Gave}
use Rattle.ds_cell.specs.Replies.{body_of}
use Rattle.ds_cell.specs.Requests.{deed_of, ask_request}
use Rattle.ds_rule.specs.Asking.{Made, Gives, at_of, made_by, ask_item}
use Rattle.ds_rule.specs.Limited.{takes, in_turn, taken_keys, last_taken, part_to, rest_after, item_in, with_rest, ask_up_to, ask_left}
use Rattle.ds_rule.specs.Pieces.{Each}
use Rattle.ds_rule.proofs.Eachs.{each-append}
use Rattle.ds_serve.specs.Shares.{HasRoom, CanResume, ask_share}
use Rattle.ds_serve.specs.declared.limit.Share.{Share}

-- the keys of these at which the request takes one of the limit
abbrev pub taking : Request → At → Cells → List (List ℕ)
taking r at cells = map key_of (filter (λ p. takes (deed_of r at p.1)) cells)

abbrev pub Held : List ℕ → List ℕ → List ℕ → Type 0
Held s e k = holds s e k ≡ true

abbrev Room : List ℕ → Type 0
Room k = has_room k ≡ true

-- cells in turn

pub turned_last : {X : Type 0} (xs ys : List X) (y : X) → xs ≡ ys ++ y ∷ [] → in_turn true xs ≡ y ∷ in_turn true ys
turned_last xs ys y is = ap reverse is ∙ reverse-append ys (y ∷ [])

pub next_down : {A X : Type 0} (shows : A → X) (xs ys : List X) (r : Option A) → MatchOption r ((xs ≡ []) × (ys ≡ [])) (λ x. xs ≡ ys ++ shows x ∷ []) → MatchOption r (xs ≡ []) (λ p. in_turn true xs ≡ shows p ∷ in_turn true ys)
next_down shows xs ys None h = h.0
next_down shows xs ys (Some p) h = turned_last xs ys (shows p) h

pub next_up : {A X : Type 0} (shows : A → X) (xs ys : List X) (r : Option A) → MatchOption r ((xs ≡ []) × (ys ≡ [])) (λ x. xs ≡ shows x ∷ ys) → MatchOption r (xs ≡ []) (λ p. in_turn false xs ≡ shows p ∷ in_turn false ys)
next_up shows xs ys None h = h.0
next_up shows xs ys (Some p) h = h

taking-append : (r : Request) (at : At) (xs ys : Cells) → taking r at (xs ++ ys) ≡ taking r at xs ++ taking r at ys
taking-append r at xs ys =
    ap (map key_of) (filter-append (λ p. takes (deed_of r at p.1)) xs ys) ∙ map-append key_of (filter (λ p. takes (deed_of r at p.1)) xs) (filter (λ p. takes (deed_of r at p.1)) ys)

taking_one : (r : Request) (at : At) (p : Cell) (xs : Cells) → taking r at (p ∷ xs) ≡ taking r at (p ∷ []) ++ taking r at xs
taking_one r at p xs = taking-append r at (p ∷ []) xs

-- the keys of one cell, turned, are those of one cell
one-turned : (r : Request) (at : At) (p : Cell) (ks : List (List ℕ)) → reverse (taking r at (p ∷ []) ++ ks) ≡ reverse ks ++ taking r at (p ∷ [])
one-turned r at p ks =
    elim (takes (deed_of r at p.1)) as (λ t. reverse (map key_of (cond t (p ∷ []) []) ++ ks) ≡ reverse ks ++ map key_of (cond t (p ∷ []) [])) [
      | true ↦ last_first p.0 ks
      | false ↦ sym (append_nil (reverse ks))
    ]

taking-turned : (r : Request) (at : At) (xs : Cells) → taking r at (reverse xs) ≡ reverse (taking r at xs)
taking-turned r at [] = refl
taking-turned r at (p ∷ xs) =
    ap (taking r at) (last_first p xs) ∙ taking-append r at (reverse xs) (p ∷ [])
    ∙ ap (λ ks. ks ++ taking r at (p ∷ [])) (taking-turned r at xs)
    ∙ sym (one-turned r at p (taking r at xs))
    ∙ ap reverse (sym (taking_one r at p xs))

taking-in_turn : (d : Bool) (r : Request) (at : At) (xs : Cells) → taking r at (in_turn d xs) ≡ in_turn d (taking r at xs)
taking-in_turn true r at xs = taking-turned r at xs
taking-in_turn false r at xs = refl

taken-at : (r : Request) (at : At) (x : Reach) (cells : Cells) → reach_of r ≡ x → taken_keys r at cells ≡ in_turn (goes_down r) (taking r at (places x cells))
taken-at r at x cells is = ap (λ z. in_turn (goes_down r) (taking r at (places z cells))) is

-- none was gone over yet
pub taking_first : (r : Request) (at : At) (d : Bool) (s e : List ℕ) (cells rest : Cells) (n : ℕ) → d ≡ goes_down r → reach_of r ≡ Over s e → rest ≡ between key_of s e cells → slice_get (taking r at (in_turn d rest)) n ≡ last_taken n (taken_keys r at cells)
taking_first r at d s e cells rest n way reach is =
    ap (λ z. slice_get z n) (
    ap (λ z. taking r at (in_turn d z)) is
    ∙ ap (λ z. taking r at (in_turn z (between key_of s e cells))) way
    ∙ taking-in_turn (goes_down r) r at (between key_of s e cells)
    ∙ sym (taken-at r at (Over s e) cells reach)
    )

taking_yes : (r : Request) (at : At) (p : Cell) (ps : Cells) → takes (deed_of r at p.1) ≡ true → taking r at (p ∷ ps) ≡ p.0 ∷ taking r at ps
taking_yes r at p ps h = ap (λ t. map key_of (cond t (p ∷ filter (λ q. takes (deed_of r at q.1)) ps) (filter (λ q. takes (deed_of r at q.1)) ps))) h

taking_no : (r : Request) (at : At) (p : Cell) (ps : Cells) → takes (deed_of r at p.1) ≡ false → taking r at (p ∷ ps) ≡ taking r at ps
taking_no r at p ps h = ap (λ t. map key_of (cond t (p ∷ filter (λ q. takes (deed_of r at q.1)) ps) (filter (λ q. takes (deed_of r at q.1)) ps))) h

get_less : (k : List ℕ) (ks : List (List ℕ)) (n : ℕ) → 0 < n → slice_get (k ∷ ks) n ≡ slice_get ks (n - 1)
get_less k ks zero h = absurd (omega arith)
get_less k ks (suc n) h = let less : n ≡ suc n - 1 = omega arith in ap (slice_get ks) less

-- a key that took none
pub taking_past : (r : Request) (at : At) (all ps : Cells) (p : Cell) (t : Bool) (n : ℕ) (o : Option (List ℕ)) → slice_get (taking r at all) n ≡ o → all ≡ p ∷ ps → t ≡ takes (deed_of r at p.1) → t ≡ false → slice_get (taking r at ps) n ≡ o
taking_past r at all ps p t n o so_far is decided none =
    ap (λ z. slice_get z n) (sym (ap (taking r at) is ∙ taking_no r at p ps (sym decided ∙ none))) ∙ so_far

-- one that took one
pub taking_more : (r : Request) (at : At) (all ps : Cells) (p : Cell) (t : Bool) (n : ℕ) (o : Option (List ℕ)) → slice_get (taking r at all) n ≡ o → all ≡ p ∷ ps → t ≡ takes (deed_of r at p.1) → t ≡ true → 0 < n → slice_get (taking r at ps) (n - 1) ≡ o
taking_more r at all ps p t n o so_far is decided yes_it more =
    sym (ap (λ z. slice_get z n) (ap (taking r at) is ∙ taking_yes r at p ps (sym decided ∙ yes_it)) ∙ get_less p.0 (taking r at ps) n more) ∙ so_far

-- the one at which the limit is used up
pub taking_found : (r : Request) (at : At) (all ps : Cells) (p : Cell) (t : Bool) (n : ℕ) (o : Option (List ℕ)) → slice_get (taking r at all) n ≡ o → all ≡ p ∷ ps → t ≡ takes (deed_of r at p.1) → t ≡ true → n ≡ 0 → Some p.0 ≡ o
taking_found r at all ps p t n o so_far is decided yes_it last =
    sym (ap (λ z. slice_get z n) (ap (taking r at) is ∙ taking_yes r at p ps (sym decided ∙ yes_it)) ∙ ap (slice_get (p.0 ∷ taking r at ps)) last) ∙ so_far

turned_none : (r : Request) (at : At) (d : Bool) → taking r at (in_turn d []) ≡ []
turned_none r at true = refl
turned_none r at false = refl

-- all were gone over
pub taking_done : (r : Request) (at : At) (d : Bool) (rest : Cells) (n : ℕ) (o : Option (List ℕ)) → slice_get (taking r at (in_turn d rest)) n ≡ o → rest ≡ [] → None ≡ o
taking_done r at d rest n o so_far none =
    sym (ap (λ z. slice_get z n) (ap (λ z. taking r at (in_turn d z)) none ∙ turned_none r at d)) ∙ so_far

-- what holds of each key

each-reverse : (P : List ℕ → Type 0) (ks : List (List ℕ)) → Each P ks → Each P (reverse ks)
each-reverse P [] h = tt
each-reverse P (k ∷ ks) h = subst (Each P) (sym (last_first k ks)) (each-append P (reverse ks) (k ∷ []) (each-reverse P ks h.1) (h.0, tt))

each-turned : (P : List ℕ → Type 0) (d : Bool) (ks : List (List ℕ)) → Each P ks → Each P (in_turn d ks)
each-turned P true ks h = each-reverse P ks h
each-turned P false ks h = h

each_got : (P : List ℕ → Type 0) (ks : List (List ℕ)) (n : ℕ) (k : List ℕ) → Each P ks → slice_get ks n ≡ Some k → P k
each_got P [] n k h g = none_some k g
each_got P (q ∷ ks) zero k h g = subst P (some_same q k g) h.0
each_got P (q ∷ ks) (suc n) k h g = each_got P ks n k h.1 g

-- those of a span that pass a test lie in the span
pub held_between : (t : Cell → Bool) (s e : List ℕ) (cells : Cells) → Each (Held s e) (map key_of (filter t (between key_of s e cells)))
held_between t s e [] = tt
held_between t s e (p ∷ ps) =
    elim (holds s e p.0) as (λ b. holds s e p.0 ≡ b → Each (Held s e) (map key_of (filter t (cond b (p ∷ between key_of s e ps) (between key_of s e ps))))) [
      | true ↦ λ h.
          elim (t p) as (λ u. Each (Held s e) (map key_of (cond u (p ∷ filter t (between key_of s e ps)) (filter t (between key_of s e ps))))) [
            | true ↦ (h, held_between t s e ps)
            | false ↦ held_between t s e ps
          ]
      | false ↦ λ h. held_between t s e ps
    ] refl

pub room_between : (s e : List ℕ) (cells : Cells) → Each HasRoom cells → Each HasRoom (between key_of s e cells)
room_between s e [] all = tt
room_between s e (p ∷ ps) all =
    elim (holds s e p.0) as (λ b. Each HasRoom (cond b (p ∷ between key_of s e ps) (between key_of s e ps))) [
      | true ↦ (all.0, room_between s e ps all.1)
      | false ↦ room_between s e ps all.1
    ]

room_filter : (t : Cell → Bool) (ps : Cells) → Each HasRoom ps → Each Room (map key_of (filter t ps))
room_filter t [] all = tt
room_filter t (p ∷ ps) all =
    elim (t p) as (λ u. Each Room (map key_of (cond u (p ∷ filter t ps) (filter t ps)))) [
      | true ↦ (all.0, room_filter t ps all.1)
      | false ↦ room_filter t ps all.1
    ]

taken_so : (P : List ℕ → Type 0) (r : Request) (at : At) (s e : List ℕ) (cells : Cells) (n : ℕ) (k : List ℕ) → reach_of r ≡ Over s e → Each P (taking r at (between key_of s e cells)) → Some k ≡ last_taken n (taken_keys r at cells) → P k
taken_so P r at s e cells n k reach all is =
    each_got P (in_turn (goes_down r) (taking r at (between key_of s e cells))) n k
    (each-turned P (goes_down r) (taking r at (between key_of s e cells)) all)
    (ap (λ z. slice_get z n) (sym (taken-at r at (Over s e) cells reach)) ∙ sym is)

pub taken_inside : (r : Request) (at : At) (s e : List ℕ) (cells : Cells) (n : ℕ) (k : List ℕ) → reach_of r ≡ Over s e → Some k ≡ last_taken n (taken_keys r at cells) → holds s e k ≡ true
taken_inside r at s e cells n k reach is = taken_so (Held s e) r at s e cells n k reach (held_between (λ p. takes (deed_of r at p.1)) s e cells) is

pub taken_room : (r : Request) (at : At) (s e : List ℕ) (cells : Cells) (n : ℕ) (k : List ℕ) → reach_of r ≡ Over s e → Each HasRoom cells → Some k ≡ last_taken n (taken_keys r at cells) → has_room k ≡ true
taken_room r at s e cells n k reach room is =
    taken_so Room r at s e cells n k reach (room_filter (λ p. takes (deed_of r at p.1)) (between key_of s e cells) (room_between s e cells room)) is

-- the part of an item

no-rest : (h : Head) (i : Item) (a : Asked) (cells : Cells) → with_rest None (made_by h i a cells) ≡ made_by h i a cells
no-rest h i (Failed k f) cells = refl
no-rest h i (Gave bits ws) cells = refl

pub nothing_left : (h : Head) (i : Item) (cells : Cells) → with_rest None (ask_item h i cells) ≡ ask_item h i cells
nothing_left h i cells = no-rest h i (ask_request i.request (at_of h i.seq.0) cells) cells

up_to : Head → List ℕ → Item → Cells → Bool → Extent → Made
up_to h k i cells d e = with_rest (rest_after d e k) (ask_item h (item_in (part_to d e k) i) cells)

-- a part, with what is left
pub part_share : (h : Head) (i part : Item) (cells : Cells) (d : Bool) (e rest : Extent) (k : List ℕ) → goes_down i.request ≡ d → span_of i.request ≡ e → part ≡ item_in (part_to d e k) i → rest_after d e k ≡ Some rest → with_rest (Some rest) (ask_item h part cells) ≡ ask_up_to h (Some k) i cells
unfolding up_to
part_share h i part cells d e rest k way span is left =
    ap (λ z. with_rest (Some rest) (ask_item h z cells)) is
    ∙ ap (λ z. with_rest z (ask_item h (item_in (part_to d e k) i) cells)) (sym left)
    ∙ ap (λ z. up_to h k i cells z e) (sym way)
    ∙ ap (up_to h k i cells (goes_down i.request)) (sym span)

-- all of it, with nothing left
pub whole_share : (h : Head) (i : Item) (cells : Cells) (d : Bool) (e : Extent) (k : List ℕ) → goes_down i.request ≡ d → span_of i.request ≡ e → part_to d e k ≡ e → rest_after d e k ≡ None → ask_item h i cells ≡ ask_up_to h (Some k) i cells
unfolding up_to
whole_share h i cells d e k way span is none =
    sym (nothing_left h i cells)
    ∙ ap (λ (r : Request). with_rest None (ask_item h (record i { request = r }) cells)) (sym (cut_whole i.request))
    ∙ ap (λ z. with_rest None (ask_item h (item_in z i) cells)) (span ∙ sym is)
    ∙ ap (λ z. with_rest z (ask_item h (item_in (part_to d e k) i) cells)) (sym none)
    ∙ ap (λ z. up_to h k i cells z e) (sym way)
    ∙ ap (up_to h k i cells (goes_down i.request)) (sym span)

over_span : (r : Request) (s e : List ℕ) → reach_of r ≡ Over s e → span_of r ≡ record { start = s; end = e }
over_span r s e reach = ap extent_of reach

-- the span of a key below e ends within e
ends_within : (k e : List ℕ) → key_lt k e ≡ true → key_le (after k) e ≡ true
ends_within k e below =
    elim (key_lt e (after k)) as (λ t. key_lt e (after k) ≡ t → key_le (after k) e ≡ true) [
      | true ↦ λ h. let both : true ≡ false = sym below ∙ after-tight k e h in cc
      | false ↦ λ h. le_of_not_lt e (after k) h
    ] refl

-- from the lowest key up
pub part_up : (h : Head) (i part : Item) (cells : Cells) (s e k : List ℕ) → goes_down i.request ≡ false → reach_of i.request ≡ Over s e → part ≡ item_in (record { start = s; end = after k }) i → key_lt (after k) e ≡ true → with_rest (Some (record { start = after k; end = e })) (ask_item h part cells) ≡ ask_up_to h (Some k) i cells
part_up h i part cells s e k way reach is more =
    part_share h i part cells false (record { start = s; end = e }) (record { start = after k; end = e }) k way (over_span i.request s e reach) is (ap (λ t. cond t (Some (record { start = after k; end = e })) None) more)

pub whole_up : (h : Head) (i : Item) (cells : Cells) (s e k : List ℕ) → goes_down i.request ≡ false → reach_of i.request ≡ Over s e → holds s e k ≡ true → key_lt (after k) e ≡ false → ask_item h i cells ≡ ask_up_to h (Some k) i cells
whole_up h i cells s e k way reach inside no_more =
    let low : key_le (after k) e ≡ true = ends_within k e (and_second (key_le s k) (key_lt k e) inside) in
    let same : after k ≡ e = key_le-antisymm (after k) e low no_more in
    whole_share h i cells false (record { start = s; end = e }) k way (over_span i.request s e reach) (ap (λ z. record { start = s; end = z }) same) (ap (λ t. cond t (Some (record { start = after k; end = e })) None) no_more)

-- from the highest key down
pub part_down : (h : Head) (i part : Item) (cells : Cells) (s e k : List ℕ) → goes_down i.request ≡ true → reach_of i.request ≡ Over s e → part ≡ item_in (record { start = k; end = e }) i → key_lt s k ≡ true → with_rest (Some (record { start = s; end = k })) (ask_item h part cells) ≡ ask_up_to h (Some k) i cells
part_down h i part cells s e k way reach is more =
    part_share h i part cells true (record { start = s; end = e }) (record { start = s; end = k }) k way (over_span i.request s e reach) is (ap (λ t. cond t (Some (record { start = s; end = k })) None) more)

pub whole_down : (h : Head) (i : Item) (cells : Cells) (s e k : List ℕ) → goes_down i.request ≡ true → reach_of i.request ≡ Over s e → holds s e k ≡ true → key_lt s k ≡ false → ask_item h i cells ≡ ask_up_to h (Some k) i cells
whole_down h i cells s e k way reach inside no_more =
    let same : s ≡ k = key_le-antisymm s k (and_first (key_le s k) (key_lt k e) inside) no_more in
    whole_share h i cells true (record { start = s; end = e }) k way (over_span i.request s e reach) (ap (λ z. record { start = z; end = e }) (sym same)) (ap (λ t. cond t (Some (record { start = s; end = k })) None) no_more)

-- a point is asked whole

point_to : (d : Bool) (k : List ℕ) → part_to d (record { start = k; end = after k }) k ≡ record { start = k; end = after k }
point_to true k = refl
point_to false k = refl

point_rest : (d : Bool) (k : List ℕ) → rest_after d (record { start = k; end = after k }) k ≡ None
point_rest true k = ap (λ t. cond t (Some (record { start = k; end = k })) None) (key_lt-irrefl k)
point_rest false k = ap (λ t. cond t (Some (record { start = after k; end = after k })) None) (key_lt-irrefl (after k))

one_got : (d t : Bool) (p : Cell) (n : ℕ) → (slice_get (in_turn d (map key_of (cond t (p ∷ []) []))) n ≡ None) ⊎ (slice_get (in_turn d (map key_of (cond t (p ∷ []) []))) n ≡ Some p.0)
one_got true true p zero = inr refl
one_got true true p (suc n) = inl refl
one_got true false p n = inl refl
one_got false true p zero = inr refl
one_got false true p (suc n) = inl refl
one_got false false p n = inl refl

at_point : (h : Head) (i : Item) (cells : Cells) (k : List ℕ) (o : Option (List ℕ)) → Point k ≡ reach_of i.request → (o ≡ None) ⊎ (o ≡ Some k) → ask_item h i cells ≡ ask_up_to h o i cells
at_point h i cells k o reach (inl none) = ap (λ z. ask_up_to h z i cells) (sym none)
at_point h i cells k o reach (inr one) =
    whole_share h i cells (goes_down i.request) (record { start = k; end = after k }) k refl (ap extent_of (sym reach)) (point_to (goes_down i.request) k) (point_rest (goes_down i.request) k)
    ∙ ap (λ z. ask_up_to h z i cells) (sym one)

pub point_share : (h : Head) (i : Item) (at : At) (cells : Cells) (k : List ℕ) (n : ℕ) → Point k ≡ reach_of i.request → ask_item h i cells ≡ ask_up_to h (last_taken n (taken_keys i.request at cells)) i cells
point_share h i at cells k n reach =
    let r = i.request in
    let p : Cell = (k, content_at k cells) in
    let keys : taken_keys r at cells ≡ in_turn (goes_down r) (taking r at (p ∷ [])) = taken-at r at (Point k) cells (sym reach) in
    at_point h i cells k (slice_get (in_turn (goes_down r) (taking r at (p ∷ []))) n) reach (one_got (goes_down r) (takes (deed_of r at p.1)) p n)
    ∙ ap (λ z. ask_up_to h (slice_get z n) i cells) (sym keys)

-- what is left of the limit

pub some_left : (i : Item) (at : At) (cells : Cells) (n : ℕ) (s : Share) → 0 < n → ((h : Head) → ask_share h i s cells ≡ ask_up_to h (last_taken (n - 1) (taken_keys i.request at cells)) i cells) → (h : Head) → at ≡ at_of h i.seq.0 → ask_share h i s cells ≡ ask_left h (Some n) i cells
some_left i at cells zero s more asks h is = absurd (omega arith)
some_left i at cells (suc n) s more asks h is =
    let less : suc n - 1 ≡ n = omega arith in
    asks h ∙ ap (λ m. ask_up_to h (last_taken m (taken_keys i.request at cells)) i cells) less
    ∙ ap (λ a. ask_up_to h (last_taken n (taken_keys i.request a cells)) i cells) is

pub none_left : (h : Head) (n : ℕ) (i : Item) (cells : Cells) (rest : Extent) → n ≡ 0 → rest ≡ span_of i.request → Gives cells [] (record { body = empty_body i.request; resume = Some rest } ∷ []) ≡ ask_left h (Some n) i cells
none_left h n i cells rest none is =
    ap (λ z. Gives cells [] (record { body = empty_body i.request; resume = Some z } ∷ [])) is ∙ ap (λ m. ask_left h (Some m) i cells) (sym none)

-- what a resume span asks of the item and of the contents

pub one_proper : (n : ℕ) (i : Item) (cells : Cells) → CanResume (Some n) (i ∷ []) cells → has_proper_span i.request ≡ true
one_proper n i cells h = and_first (has_proper_span i.request) true h.0

pub over_proper : (r : Request) (s e : List ℕ) → has_proper_span r ≡ true → Over s e ≡ reach_of r → key_lt s e ≡ true
over_proper r s e proper is = ap is_proper is ∙ proper

pub no_bits : (r : Request) → body_of r [] ≡ empty_body r
no_bits (Get a) = refl
no_bits (Scan a) = refl
no_bits (ReverseScan a) = refl
no_bits (Put a) = refl
no_bits (ConditionalPut a) = refl
no_bits (InitPut a) = refl
no_bits (Increment a) = refl
no_bits (Delete a) = refl
no_bits (DeleteRange a) = refl
no_bits (EndTxn a) = refl
no_bits (QueryIntent a) = refl
no_bits (ResolveIntent a) = refl
no_bits (ResolveIntentRange a) = refl
no_bits (AdminSplit a) = refl
no_bits (AdminTransferLease a) = refl

pub less_left : (rest taken : ℕ) (r : Reply) → taken ≡ taken_in r.body → Some (rest - taken) ≡ left_after (Some rest) (r ∷ [])
less_left rest taken r is = let one : taken ≡ 0 + taken_in r.body = omega arith in ap (λ z. Some (rest - z)) one

pub used_up : (rest taken : ℕ) (r : Reply) → taken ≡ taken_in r.body → rest ≤ taken → Some 0 ≡ left_after (Some rest) (r ∷ [])
used_up rest taken r is all = let none : 0 ≡ rest - taken = omega arith in ap Some none ∙ less_left rest taken r is

-- the bounds of a part

pub span_from : (r : Request) (s e : List ℕ) → reach_of r ≡ Over s e → key_le (span_of r).start s ≡ true
span_from r s e reach = ap (λ z. key_le (extent_of z).start s) reach ∙ le_itself s

pub span_to : (r : Request) (s e : List ℕ) → reach_of r ≡ Over s e → key_le e (span_of r).end ≡ true
span_to r s e reach = ap (λ z. key_le e (extent_of z).end) reach ∙ le_itself e

pub below_next : (s e k next : List ℕ) → next ≡ after k → holds s e k ≡ true → key_lt s next ≡ true
below_next s e k next is inside =
    ap (key_lt s) is ∙ elim (key_lt s (after k)) as (λ t. key_lt s (after k) ≡ t → t ≡ true) [
      | true ↦ λ h. refl
      | false ↦ λ h.
          let high : key_le (after k) k ≡ true = le_trans (after k) s k (le_of_not_lt s (after k) h) (and_first (key_le s k) (key_lt k e) inside) in
          let low : key_le (after k) k ≡ false = not_le_of_lt k (after k) (and_second (key_le k k) (key_lt k (after k)) (own_span k)) in
          sym low ∙ high
    ] refl

-- one less is left

length-in_turn : (d : Bool) (xs : Cells) → length (in_turn d xs) ≡ length xs
length-in_turn true xs = length-reverse xs
length-in_turn false xs = refl

pub shorter : (d : Bool) (xs ys : Cells) (p : Cell) → in_turn d xs ≡ p ∷ in_turn d ys → length ys < length xs
shorter d xs ys p is =
    let whole : length xs ≡ suc (length ys) = sym (length-in_turn d xs) ∙ ap length is ∙ ap suc (length-in_turn d ys) in omega arith
