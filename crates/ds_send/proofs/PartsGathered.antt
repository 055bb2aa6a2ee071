-- Parts one after another, each of which was done: their replies are gathered of all that was accepted.
use Rattle.std.proofs.Common.{◌≡◌, ℕ, ◌<◌, cond, List, [], ◌∷◌, ◌++◌, refl, sym, ap, ◌∙◌, subst, inl, inr, arith, ne_eqb}
use Rattle.std.proofs.lemmas.List.{append-nil}
use Rattle.std.proofs.lemmas.List.Elements.{filter-append}
use Rattle.ds_kind.specs.Request.{span_of}
use Rattle.ds_kind.specs.declared.batch.Item.{Item}
use Rattle.ds_kind.specs.declared.reply.Reply.{Reply}
use Rattle.ds_cover.specs.Items.{item_pos, AllAfter, PositionsRise}
use Rattle.ds_cover.specs.Items as Items
use Rattle.ds_cover.proofs.Covering.{after-in}
use Rattle.ds_rule.proofs.Eachs.{each-append}
use Rattle.ds_rule.specs.Gathered.{Gathered, IsGathered, Joins, at_position, by_start, is_at}
use Rattle.ds_rule.specs.Journal.{Accepted}
use Rattle.ds_rule.specs.Pieces.{Each}
use Rattle.ds_flight.proofs.Gathers.{AnswersOne}
use Rattle.ds_mean.specs.InTurn.{AreAll, items_of, places_at}
use Rattle.ds_mean.proofs.Coming.{map-both, places-both}

-- ---- nothing came at a position

abbrev pub NoneAt : ℕ → List Accepted → Type 0
NoneAt n got = at_position n got ≡ []

each-so : {X : Type 0} (P Q : X → Type 0) (xs : List X) → ((x : X) → P x → Q x) → Each P xs → Each Q xs
each-so P Q [] f all = tt
each-so P Q (x ∷ xs) f all = (f x all.0, each-so P Q xs f all.1)

at-other : (n : ℕ) (got : List Accepted) → Each (λ a. a.item.pos ≡ n → ⊥) got → NoneAt n got
at-other n [] all = refl
at-other n (a ∷ got) all = ap (λ t. cond t (a ∷ at_position n got) (at_position n got)) (ne_eqb a.item.pos n all.0) ∙ at-other n got all.1

at-both : (n : ℕ) (xs ys : List Accepted) → at_position n (xs ++ ys) ≡ at_position n xs ++ at_position n ys
at-both n xs ys = filter-append (is_at n) xs ys

gathered-right : (xs ys : List Accepted) (i : Item) (r : Reply) → NoneAt i.pos ys → IsGathered xs i r → IsGathered (xs ++ ys) i r
gathered-right xs ys i r none g = record {
  whole = g.whole;
  joins = subst (λ z. Joins i (span_of i.request).start (span_of i.request).end (by_start z) r.body) (sym (at-both i.pos xs ys ∙ ap (λ z. at_position i.pos xs ++ z) none ∙ append-nil (at_position i.pos xs))) g.joins;
}

gathered-left : (xs ys : List Accepted) (i : Item) (r : Reply) → NoneAt i.pos xs → IsGathered ys i r → IsGathered (xs ++ ys) i r
gathered-left xs ys i r none g = record {
  whole = g.whole;
  joins = subst (λ z. Joins i (span_of i.request).start (span_of i.request).end (by_start z) r.body) (sym (at-both i.pos xs ys ∙ ap (λ z. z ++ at_position i.pos ys) none)) g.joins;
}

abbrev NoneOf : List Accepted → Item → Type 0
NoneOf got i = NoneAt i.pos got

all-right : (xs ys : List Accepted) (is : List Item) (rs : List Reply) → Each (NoneOf ys) is → Gathered xs is rs → Gathered (xs ++ ys) is rs
all-right xs ys [] [] none g = tt
all-right xs ys [] (r ∷ rs) none g = absurd g
all-right xs ys (i ∷ is) [] none g = absurd g
all-right xs ys (i ∷ is) (r ∷ rs) none g = (gathered-right xs ys i r none.0 g.0, all-right xs ys is rs none.1 g.1)

all-left : (xs ys : List Accepted) (is : List Item) (rs : List Reply) → Each (NoneOf xs) is → Gathered ys is rs → Gathered (xs ++ ys) is rs
all-left xs ys [] [] none g = tt
all-left xs ys [] (r ∷ rs) none g = absurd g
all-left xs ys (i ∷ is) [] none g = absurd g
all-left xs ys (i ∷ is) (r ∷ rs) none g = (gathered-left xs ys i r none.0 g.0, all-left xs ys is rs none.1 g.1)

gathered-both : (got : List Accepted) (is js : List Item) (us vs : List Reply) → Gathered got is us → Gathered got js vs → Gathered got (is ++ js) (us ++ vs)
gathered-both got [] js [] vs a b = b
gathered-both got [] js (u ∷ us) vs a b = absurd a
gathered-both got (i ∷ is) js [] vs a b = absurd a
gathered-both got (i ∷ is) js (u ∷ us) vs a b = (a.0, gathered-both got is js us vs a.1 b)

-- ---- positions of parts differ

of-left : (i : Item) (xs ys : List Item) → Items.IsOneOf i xs → Items.IsOneOf i (xs ++ ys)
of-left i [] ys h = absurd h
of-left i (x ∷ xs) ys (inl e) = inl e
of-left i (x ∷ xs) ys (inr h) = inr (of-left i xs ys h)

of-right : (i : Item) (xs ys : List Item) → Items.IsOneOf i ys → Items.IsOneOf i (xs ++ ys)
of-right i [] ys h = h
of-right i (x ∷ xs) ys h = inr (of-right i xs ys h)

rises-left : (xs ys : List Item) → PositionsRise (xs ++ ys) → PositionsRise xs
rises-left [] ys h = tt
rises-left (x ∷ xs) ys h = (after-left x.pos xs h.0, rises-left xs ys h.1)
  where
    after-left : (n : ℕ) (zs : List Item) → AllAfter item_pos n (zs ++ ys) → AllAfter item_pos n zs
    after-left n [] a = tt
    after-left n (z ∷ zs) a = (a.0, after-left n zs a.1)

pub rises-right : (xs ys : List Item) → PositionsRise (xs ++ ys) → PositionsRise ys
rises-right [] ys h = h
rises-right (x ∷ xs) ys h = rises-right xs ys h.1

apart : (xs ys : List Item) → PositionsRise (xs ++ ys) → (i j : Item) → Items.IsOneOf i xs → Items.IsOneOf j ys → i.pos < j.pos
apart [] ys rise i j hi hj = absurd hi
apart (x ∷ xs) ys rise i j (inl e) hj = subst (λ z. z.pos < j.pos) (sym e) (after-in x.pos (xs ++ ys) rise.0 j (of-right j xs ys hj))
apart (x ∷ xs) ys rise i j (inr h) hj = apart xs ys rise.1 i j h hj

-- an accepted item has the position of the item that it is a part of
at-its-place : (items : List Item) (a : Accepted) (h : AnswersOne items a) → a.item.pos ≡ h.item.pos
at-its-place items a h = ap (λ z. z.pos) h.cut.same

none-later : (xs ys : List Item) (got : List Accepted) → PositionsRise (xs ++ ys) → Each (AnswersOne ys) got → (is : List Item) → ((i : Item) → Items.IsOneOf i is → Items.IsOneOf i xs) → Each (NoneOf got) is
none-later xs ys got rise all [] there = tt
none-later xs ys got rise all (i ∷ is) there = (
  at-other i.pos got
      (each-so (AnswersOne ys) (λ a. a.item.pos ≡ i.pos → ⊥) got
      (λ a h same.
      let low : i.pos < h.item.pos = apart xs ys rise i h.item (there i (inl refl)) h.there in
      let at : a.item.pos ≡ h.item.pos = at-its-place ys a h in
      omega (arith, low, at, same)) all),
  none-later xs ys got rise all is (λ j h. there j (inr h)),
)

none-before : (xs ys : List Item) (got : List Accepted) → PositionsRise (xs ++ ys) → Each (AnswersOne xs) got → (is : List Item) → ((i : Item) → Items.IsOneOf i is → Items.IsOneOf i ys) → Each (NoneOf got) is
none-before xs ys got rise all [] there = tt
none-before xs ys got rise all (i ∷ is) there = (
  at-other i.pos got
      (each-so (AnswersOne xs) (λ a. a.item.pos ≡ i.pos → ⊥) got
      (λ a h same.
      let low : h.item.pos < i.pos = apart xs ys rise h.item i h.there (there i (inl refl)) in
      let at : a.item.pos ≡ h.item.pos = at-its-place xs a h in
      omega (arith, low, at, same)) all),
  none-before xs ys got rise all is (λ j h. there j (inr h)),
)

wider : (items more : List Item) (a : Accepted) → ((i : Item) → Items.IsOneOf i items → Items.IsOneOf i more) → AnswersOne items a → AnswersOne more a
wider items more a f h = record { item = h.item; there = f h.item h.there; cut = h.cut; body = h.body; whole = h.whole }

-- ---- all parts

-- the items of one part were all done, and these are their replies
pub record PartGives (items : List Item) (got : List Accepted) (rs : List Reply) : Type 0 where
  pub answers : Each (AnswersOne items) got
  pub gathered : Gathered got items rs
  pub all : AreAll items (items_of got)

pub both-give :
    (xs ys : List Item) (got more : List Accepted) (us vs : List Reply) → PositionsRise (xs ++ ys) → PartGives xs got us → PartGives ys more vs
    → PartGives (xs ++ ys) (got ++ more) (us ++ vs)
both-give xs ys got more us vs rise a b = record {
  answers = each-append (AnswersOne (xs ++ ys)) got more
      (each-so (AnswersOne xs) (AnswersOne (xs ++ ys)) got (λ c h. wider xs (xs ++ ys) c (λ i. of-left i xs ys) h) a.answers)
      (each-so (AnswersOne ys) (AnswersOne (xs ++ ys)) more (λ c h. wider ys (xs ++ ys) c (λ i. of-right i xs ys) h) b.answers);
  gathered = gathered-both (got ++ more) xs ys us vs
      (all-right got more xs us (none-later xs ys more rise b.answers xs (λ i h. h)) a.gathered)
      (all-left got more ys vs (none-before xs ys got rise a.answers ys (λ i h. h)) b.gathered);
  all = λ k.
      places-both k xs ys
      ∙ ap (λ z. z ++ places_at k ys) (a.all k)
      ∙ ap (λ z. places_at k (items_of got) ++ z) (b.all k)
      ∙ sym (places-both k (items_of got) (items_of more))
      ∙ ap (places_at k) (sym (map-both (λ (c : Accepted). c.item) got more));
}

pub none-give : PartGives [] [] []
none-give = record { answers = tt; gathered = tt; all = λ k. refl }
