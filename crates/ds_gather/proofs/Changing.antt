-- One place changed where it stands, as the code does it.
use Rattle.std.proofs.Common.{◌≡◌, ℕ, zero, suc, ◌+◌, ◌<◌, ◌≤◌, true, false, cond, List, [], ◌∷◌, length, map, get_or, refl, sym, ap, ◌∙◌, subst, arith, nat_lt, Result, Ok, Err, OnOk, OnErr, eq-eqb}
use Rattle.std.specs.List.{prefix_len}
use Rattle.std.specs.declared.alloc.AllocError.{AllocError}
use Rattle.std.proofs.Math.ListN.{set}
use Rattle.std.proofs.lemmas.List.{set-get_or}
use Rattle.ds_kind.specs.Bodies.{those_at}
use Rattle.ds_kind.specs.declared.reply.Reply.{Reply}
use Rattle.ds_gather.specs.Gathered.{pos_of}
use Rattle.ds_gather.specs.Places.{EachPlace, Found, HasRoom, NoneAt, Rises, wanted_in, change_at, grown}
use Rattle.ds_gather.specs.declared.arrival.Arrival.{Arrival}
use Rattle.ds_gather.specs.declared.place.Place.{Place}
use Rattle.ds_gather.proofs.Placing.{changed_there, none_found, at_least, under}

any_default : {X : Type 0} (xs : List X) (i : ℕ) (d e : X) → i < length xs → get_or xs i d ≡ get_or xs i e
any_default [] i d e low = absurd (omega (arith, low))
any_default (x ∷ xs) zero d e low = refl
any_default (x ∷ xs) (suc i) d e low = any_default xs i d e (omega (arith, low))

pub changed_so : (n : ℕ) (f : Place → Place) (ps : List Place) (i : ℕ) (old y : Place) → Found n ps i → old ≡ get_or ps i old → y ≡ f old → set ps i y ≡ map (change_at n f) ps
changed_so n f ps i old y k there is =
    let same : old ≡ get_or ps i y = there ∙ any_default ps i old y k.low in
    changed_there n f ps i y k.rise k.at k.low (k.here y) (is ∙ ap f same)

pub room_ok : (n : ℕ) (r : Reply) (ps : List Place) (i : ℕ) (old y : Place) → {U : Type 0} → (res : Result U AllocError) → Found n ps i → old ≡ get_or ps i old → OnOk res (y ≡ grown r old) → OnOk res (set ps i y ≡ map (change_at n (grown r)) ps)
room_ok n r ps i old y (Ok u) k there is = changed_so n (grown r) ps i old y k there is
room_ok n r ps i old y (Err e) k there is = tt

pub room_err : (ps : List Place) (i : ℕ) (old y : Place) → {U : Type 0} → (res : Result U AllocError) → old ≡ get_or ps i old → OnErr res (y ≡ old) → OnErr res (set ps i y ≡ ps)
room_err ps i old y (Ok u) there is = tt
room_err ps i old y (Err e) there is = ap (set ps i) (is ∙ there) ∙ set-get_or ps i old

each_at : (P : Place → Type 0) (ps : List Place) (i : ℕ) (d : Place) → EachPlace P ps → i < length ps → P (get_or ps i d)
each_at P [] i d all low = absurd (omega (arith, low))
each_at P (p ∷ ps) zero d all low = all.0
each_at P (p ∷ ps) (suc i) d all low = each_at P ps i d all.1 (omega (arith, low))

pub found_room : (a : Arrival) (ps : List Place) (i : ℕ) (old : Place) → Found a.pos ps i → old ≡ get_or ps i old → EachPlace (HasRoom (a ∷ [])) ps → HasRoom (a ∷ []) old
found_room a ps i old k there all = subst (HasRoom (a ∷ [])) (sym there) (each_at (HasRoom (a ∷ [])) ps i old all k.low)

pub found_pos : (n : ℕ) (ps : List Place) (i : ℕ) (old : Place) → Found n ps i → old ≡ get_or ps i old → old.wanted.pos ≡ n
found_pos n ps i old k there = ap (λ p. p.wanted.pos) there ∙ k.here old

pub room_for_one : (a : Arrival) (p : Place) → p.wanted.pos ≡ a.pos → HasRoom (a ∷ []) p → length p.runs.items < p.runs.size
room_for_one a p here h =
    let one : those_at pos_of p.wanted.pos (a ∷ []) ≡ a ∷ [] = ap (λ t. cond t (a ∷ []) []) (eq-eqb a.pos p.wanted.pos (sym here)) in
    low (length p.runs.items) p.runs.size (subst (λ z. length p.runs.items + length z ≤ p.runs.size) one h.runs)
  where
    low : (n m : ℕ) → n + 1 ≤ m → n < m
    low n m h = omega (arith, h)

-- what a search by halving finds

pub found_there : (n : ℕ) (ps : List Place) (i : ℕ) (p : Place) → Rises (wanted_in ps) → i ≡ prefix_len (λ p. nat_lt p.wanted.pos n) ps → true ≡ nat_lt i (length ps) → p ≡ get_or ps i p → p.wanted.pos ≡ n → Found n ps i
found_there n ps i p rise at test there here =
    let low : i < length ps = under (length ps) i (sym test) in
    record {
      rise = rise;
      at = at;
      low = low;
      here = λ d. ap (λ q. q.wanted.pos) (any_default ps i d p low ∙ sym there) ∙ here;
    }

pub other_there : (n : ℕ) (ps : List Place) (i : ℕ) (p : Place) → Rises (wanted_in ps) → i ≡ prefix_len (λ p. nat_lt p.wanted.pos n) ps → p ≡ get_or ps i p → (p.wanted.pos ≡ n → ⊥) → NoneAt n ps
other_there n ps i p rise at there other =
    none_found n ps i rise at (λ d low here. other (ap (λ q. q.wanted.pos) (there ∙ any_default ps i p d low) ∙ here))

pub none_there : (n : ℕ) (ps : List Place) (i : ℕ) → Rises (wanted_in ps) → i ≡ prefix_len (λ p. nat_lt p.wanted.pos n) ps → false ≡ nat_lt i (length ps) → NoneAt n ps
none_there n ps i rise at test =
    none_found n ps i rise at (λ d low here. let high : length ps ≤ i = at_least (length ps) i (sym test) in omega (arith, low, high))
