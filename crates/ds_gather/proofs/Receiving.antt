-- A gatherer from its beginning over each answer to the replies.
use Rattle.std.proofs.Common.{◌≡◌, ℕ, suc, ◌+◌, ◌≤◌, true, false, List, [], ◌∷◌, ◌++◌, map, length, take, drop, refl, sym, ap, ◌∙◌, subst, arith, Result, Ok, Err, OnOk, OnErr}
use Rattle.std.specs.Result.{is_err}
use Rattle.std.specs.declared.alloc.AllocError.{AllocError}
use Rattle.ds_kind.specs.Bodies.{in_order}
use Rattle.ds_kind.specs.Request.{span_of}
use Rattle.ds_cover.specs.Items.{PositionsRise}
use Rattle.ds_kind.specs.declared.batch.Item.{Item}
use Rattle.ds_kind.specs.declared.reply.Reply.{Reply}
use Rattle.ds_gather.specs.Gathered.{wanted, start_of, arrival, arrivals, gathered}
use Rattle.ds_gather.specs.Gathering.{Gathering}
use Rattle.ds_gather.specs.Numbered.{came_in, AreNumbered}
use Rattle.ds_gather.specs.Places.{IsReady, wanted_in, change_at, grown, place_for, filled, reply_from, no_room}
use Rattle.ds_gather.specs.Roomy.{Roomy}
use Rattle.ds_gather.specs.declared.arrival.Arrival.{Arrival}
use Rattle.ds_gather.specs.declared.arrival.Wanted.{Wanted}
use Rattle.ds_gather.specs.declared.came.Came.{Came}
use Rattle.ds_gather.specs.declared.place.Place.{Place}
use Rattle.ds_gather.proofs.Coming.{come_more, come_all, no_replies}
use Rattle.ds_gather.proofs.Filling.{ready_first_places, wanted_first, all_replies}
use Rattle.ds_gather.proofs.Joining.{assoc, all_nil}
use Rattle.ds_gather.proofs.Ranking.{came_push, came_take, numbered_push}
use Rattle.ds_gather.proofs.Ready.{ready_grown, ready_pushed, grown_wanted}

abbrev gathering : List Wanted → List Arrival → Gathering
gathering ws got = record { wanted = ws; got = got }

-- the beginning

pub ready_new : (is : List Item) (ps : List Place) (got : List Arrival) → PositionsRise is → ps ≡ map place_for is → got ≡ [] → IsReady got ps
ready_new is ps got rise places none =
    subst (λ g. IsReady g ps) (sym none) (subst (IsReady []) (sym places) (ready_first_places is rise))

count_places : (is : List Item) → length (map place_for is) ≡ length is
count_places [] = refl
count_places (i ∷ is) = ap (λ n. suc n) (count_places is)

pub replies_none : (old new : Roomy Reply) (n : ℕ) → old ≡ no_room → new ≡ record { items = old.items; size = old.size + n } → new.items ≡ []
replies_none old new n start more = ap (λ r. r.items) more ∙ ap (λ r. r.items) start

at_most : (a b c d : ℕ) → a ≡ b → c ≡ b → d ≡ 0 + c → a ≤ d
at_most a b c d p q r = omega (arith, p, q, r)

pub replies_room : (is : List Item) (ps : List Place) (old new : Roomy Reply) (n : ℕ) → old ≡ no_room → new ≡ record { items = old.items; size = old.size + n } → n ≡ length is → ps ≡ map place_for is → length ps ≤ new.size
replies_room is ps old new n start more count places =
    at_most (length ps) (length is) n new.size (ap length places ∙ count_places is) count (ap (λ r. r.size) more ∙ ap (λ r. r.size + n) start)

pub new_view : (is : List Item) (ps : List Place) (got : List Arrival) → ps ≡ map place_for is → got ≡ [] → gathering (wanted_in ps) got ≡ record { wanted = map wanted is; got = [] }
new_view is ps got places none = ap (λ z. gathering (wanted_in z) got) places ∙ ap (λ w. gathering w got) (wanted_first is) ∙ ap (gathering (map wanted is)) none

pub none_numbered : (got : List Came) → got ≡ [] → AreNumbered got
none_numbered got none = subst AreNumbered (sym none) refl

-- one answer

pub pushed_so : (got now : List Came) (i : Item) (k : List ℕ) (r : Reply) (n : ℕ) → k ≡ (span_of i.request).start → now ≡ got ++ record { number = n; arrival = record { pos = i.pos; start = k; reply = r } } ∷ [] → came_in now ≡ came_in got ++ arrival i r ∷ []
pushed_so got now i k r n key is =
    ap came_in is ∙ came_push got (record { number = n; arrival = from k }) ∙ ap (λ z. came_in got ++ from z ∷ []) key
  where
    from : List ℕ → Arrival
    from z = record { pos = i.pos; start = z; reply = r }

pub pushed_numbered : (got now : List Came) (a : Arrival) (n : ℕ) → now ≡ got ++ record { number = n; arrival = a } ∷ [] → n ≡ length got → AreNumbered got → AreNumbered now
pushed_numbered got now a n is count are = subst AreNumbered (sym is) (numbered_push got (record { number = n; arrival = a }) are count)

pub made_err : (n : ℕ) (r : Reply) (got now : List Arrival) (ps qs : List Place) → qs ≡ map (change_at n (grown r)) ps → now ≡ got → IsReady got ps → IsReady now qs
made_err n r got now ps qs made same h = subst (λ g. IsReady g qs) (sym same) (subst (IsReady got) (sym made) (ready_grown n got r ps h))

pub made_ok : (a : Arrival) (got now : List Arrival) (ps qs : List Place) → qs ≡ map (change_at a.pos (grown a.reply)) ps → now ≡ got ++ a ∷ [] → IsReady got ps → IsReady now qs
made_ok a got now ps qs made pushed h = subst (λ g. IsReady g qs) (sym pushed) (subst (IsReady (got ++ a ∷ [])) (sym made) (ready_pushed got a ps h))

count_changed : (f : Place → Place) (ps : List Place) → length (map f ps) ≡ length ps
count_changed f [] = refl
count_changed f (p ∷ ps) = ap (λ n. suc n) (count_changed f ps)

pub made_length : (n : ℕ) (r : Reply) (ps qs : List Place) (size : ℕ) → qs ≡ map (change_at n (grown r)) ps → length ps ≤ size → length qs ≤ size
made_length n r ps qs size made low = subst (λ m. m ≤ size) (sym (ap length made ∙ count_changed (change_at n (grown r)) ps)) low

pub made_wanted : (n : ℕ) (r : Reply) (ps qs : List Place) → qs ≡ map (change_at n (grown r)) ps → wanted_in qs ≡ wanted_in ps
made_wanted n r ps qs made = ap wanted_in made ∙ grown_wanted n r ps

pub kept_view : (g : Gathering) (ps qs : List Place) (got now : List Arrival) → gathering (wanted_in ps) got ≡ g → wanted_in qs ≡ wanted_in ps → now ≡ got → gathering (wanted_in qs) now ≡ g
kept_view g ps qs got now view same is = ap (λ w. gathering w now) same ∙ ap (gathering (wanted_in ps)) is ∙ view

pub received : (g : Gathering) (ps qs : List Place) (got now : List Arrival) (a : Arrival) → gathering (wanted_in ps) got ≡ g → wanted_in qs ≡ wanted_in ps → now ≡ got ++ a ∷ [] → gathering (wanted_in qs) now ≡ record { wanted = g.wanted; got = g.got ++ a ∷ [] }
received g ps qs got now a view same is =
    ap (λ w. gathering w now) same ∙ ap (gathering (wanted_in ps)) is ∙ ap (λ (h : Gathering). gathering h.wanted (h.got ++ a ∷ [])) view

pub on_err : {U P : Type 0} (res : Result U AllocError) → P → OnErr res P
on_err (Ok u) p = tt
on_err (Err e) p = p

-- the answers of a piece

pub from_ok : {U P : Type 0} (res : Result U AllocError) → false ≡ is_err res → OnOk res P → P
from_ok (Ok u) h p = p
from_ok (Err e) h p = absurd (apart h)
  where
    apart : false ≡ true → ⊥
    apart e = cc

pub come_none : (got : List Arrival) (is : List Item) → got ≡ got ++ arrivals is []
come_none got is = sym (ap (λ z. got ++ z) (no_replies is) ∙ all_nil got)

pub come_step : (first got : List Arrival) (is rest : List Item) (ys : List Reply) (i : Item) (r : Reply) → got ≡ first ++ arrivals is ys → drop (length ys) is ≡ i ∷ rest → got ++ arrival i r ∷ [] ≡ first ++ arrivals is (ys ++ r ∷ [])
come_step first got is rest ys i r h next =
    ap (λ z. z ++ arrival i r ∷ []) h ∙ assoc first (arrivals is ys) (arrival i r ∷ [])
    ∙ ap (λ z. first ++ z) (sym (come_more is ys i rest r next))

pub come_end : (g : Gathering) (ws : List Wanted) (first : List Arrival) (is items : List Item) (ys left all : List Reply) → g.wanted ≡ ws → g.got ≡ first ++ arrivals is ys → drop (length ys) is ≡ [] → ys ++ left ≡ all → is ≡ items → g ≡ record { wanted = ws; got = first ++ arrivals items all }
come_end g ws first is items ys left all w h none whole same =
    ap (λ z. gathering z g.got) w
    ∙ ap (gathering ws) (h ∙ ap (λ z. first ++ z) (sym (come_all is ys left none) ∙ ap (arrivals is) whole ∙ ap (λ z. arrivals z all) same))

pub none_left : (items : List Item) → length items ≡ 0 → items ≡ []
none_left [] h = refl
none_left (i ∷ is) h = absurd (omega (arith, h))

-- the replies

pub taken : (g : Gathering) (got all : List Arrival) (ps qs : List Place) (xs res : List Reply) → gathering (wanted_in ps) got ≡ g → all ≡ in_order start_of got → IsReady got ps → xs ≡ [] → qs ≡ map (filled all) ps → res ≡ xs ++ map reply_from qs → res ≡ gathered g.wanted g.got
taken g got all ps qs xs res view order h none is made =
    made ∙ ap (λ z. z ++ map reply_from qs) none ∙ ap (map reply_from) is ∙ all_replies got all ps order h.fresh
    ∙ ap (λ (h : Gathering). gathered h.wanted h.got) view

pub taken_back : (g : Gathering) (ws : List Wanted) (got now : List Came) (n : ℕ) → gathering ws (came_in got) ≡ g → now ≡ take n got → gathering ws (came_in now) ≡ record { wanted = g.wanted; got = take n g.got }
taken_back g ws got now n view is =
    ap (λ z. gathering ws (came_in z)) is ∙ ap (gathering ws) (came_take n got) ∙ ap (λ (h : Gathering). gathering h.wanted (take n h.got)) view
