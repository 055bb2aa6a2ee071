-- What is joined of one arrival after another.
use Rattle.std.proofs.Common.{◌≡◌, ℕ, ◌+◌, ◌≤◌, Bool, true, false, List, [], ◌∷◌, ◌++◌, length, reverse, refl, sym, ap, ◌∙◌, subst, Option, Some, None, arith}
use Rattle.std.specs.Option.{option_or}
use Rattle.std.proofs.lemmas.List.{length-append, reverse-append}
use Rattle.ds_base.specs.Order.{Extent}
use Rattle.ds_kind.specs.declared.reply.Body.{Body}
use Rattle.ds_kind.specs.declared.reply.Body.TheVariants.{Got, Rows, Unit as Done, Number, Gone, Ended, Found}
use Rattle.ds_kind.specs.declared.reply.Reply.{Reply}
use Rattle.ds_kind.specs.declared.reply.Row.{Row}
use Rattle.ds_gather.specs.Gathered.{rows_in, keys_in, all_rows, all_keys, first_some, in_direction, given, joined, body_at, resume_at}
use Rattle.ds_gather.specs.Places.{reply_from}
use Rattle.ds_gather.specs.Roomy.{Roomy}
use Rattle.ds_gather.specs.declared.place.Place.{Place}
use Rattle.ds_gather.specs.declared.arrival.Arrival.{Arrival}

or_none : {B : Type 0} (o : Option B) → option_or o None ≡ o
or_none None = refl
or_none (Some b) = refl

or_assoc : {B : Type 0} (o p q : Option B) → option_or o (option_or p q) ≡ option_or (option_or o p) q
or_assoc None p q = refl
or_assoc (Some b) p q = refl

pub some_push : {B : Type 0} (give : Arrival → Option B) (xs : List Arrival) (a : Arrival) → option_or (first_some give xs) (give a) ≡ first_some give (xs ++ a ∷ [])
some_push give [] a = sym (or_none (give a))
some_push give (x ∷ xs) a = sym (or_assoc (give x) (first_some give xs) (give a)) ∙ ap (option_or (give x)) (some_push give xs a)

pub assoc : {B : Type 0} (xs ys zs : List B) → (xs ++ ys) ++ zs ≡ xs ++ (ys ++ zs)
assoc [] ys zs = refl
assoc (x ∷ xs) ys zs = ap (λ z. x ∷ z) (assoc xs ys zs)

-- what is listed of each, one after another
abbrev pub all_of : {B : Type 0} → (Arrival → List B) → List Arrival → List B
all_of f [] = []
all_of f (a ∷ more) = f a ++ all_of f more

all_append : {B : Type 0} (f : Arrival → List B) (xs ys : List Arrival) → all_of f (xs ++ ys) ≡ all_of f xs ++ all_of f ys
all_append f [] ys = refl
all_append f (x ∷ xs) ys = ap (λ z. f x ++ z) (all_append f xs ys) ∙ sym (assoc (f x) (all_of f xs) (all_of f ys))

pub all_nil : {B : Type 0} (xs : List B) → xs ++ [] ≡ xs
all_nil [] = refl
all_nil (x ∷ xs) = ap (λ z. x ∷ z) (all_nil xs)

pub all_push : {B : Type 0} (f : Arrival → List B) (xs : List Arrival) (a : Arrival) → all_of f (xs ++ a ∷ []) ≡ all_of f xs ++ f a
all_push f xs a = all_append f xs (a ∷ []) ∙ ap (λ z. all_of f xs ++ z) (all_nil (f a))

count_reverse : {B : Type 0} (f : Arrival → List B) (xs : List Arrival) → length (all_of f (reverse xs)) ≡ length (all_of f xs)
count_reverse f [] = refl
count_reverse f (x ∷ xs) =
    let turned : reverse (x ∷ xs) ≡ reverse xs ++ x ∷ [] = reverse-append (x ∷ []) xs in
    ap (λ z. length (all_of f z)) turned ∙ ap length (all_push f (reverse xs) x) ∙ length-append (all_of f (reverse xs)) (f x)
    ∙ sum _ _ _ _ (count_reverse f xs) (length-append (f x) (all_of f xs))
  where
    sum : (a b c d : ℕ) → a ≡ b → d ≡ c + b → a + c ≡ d
    sum a b c d p q = omega (arith, p, q)

pub rows_all : (xs : List Arrival) → all_rows xs ≡ all_of (λ a. rows_in a.reply.body) xs
rows_all [] = refl
rows_all (x ∷ xs) = ap (λ z. rows_in x.reply.body ++ z) (rows_all xs)

pub keys_all : (xs : List Arrival) → all_keys xs ≡ all_of (λ a. keys_in a.reply.body) xs
keys_all [] = refl
keys_all (x ∷ xs) = ap (λ z. keys_in x.reply.body ++ z) (keys_all xs)

pub rows_push : (xs : List Arrival) (a : Arrival) → all_rows (xs ++ a ∷ []) ≡ all_rows xs ++ rows_in a.reply.body
rows_push xs a = rows_all (xs ++ a ∷ []) ∙ all_push (λ a. rows_in a.reply.body) xs a ∙ ap (λ z. z ++ rows_in a.reply.body) (sym (rows_all xs))

pub keys_push : (xs : List Arrival) (a : Arrival) → all_keys (xs ++ a ∷ []) ≡ all_keys xs ++ keys_in a.reply.body
keys_push xs a = keys_all (xs ++ a ∷ []) ∙ all_push (λ a. keys_in a.reply.body) xs a ∙ ap (λ z. z ++ keys_in a.reply.body) (sym (keys_all xs))

pub rows_reverse : (xs : List Arrival) → length (all_rows (reverse xs)) ≡ length (all_rows xs)
rows_reverse xs = ap length (rows_all (reverse xs)) ∙ count_reverse (λ a. rows_in a.reply.body) xs ∙ sym (ap length (rows_all xs))

pub keys_reverse : (xs : List Arrival) → length (all_keys (reverse xs)) ≡ length (all_keys xs)
keys_reverse xs = ap length (keys_all (reverse xs)) ∙ count_reverse (λ a. keys_in a.reply.body) xs ∙ sym (ap length (keys_all xs))

-- the lists that are joined, one more at a time

pub more_on : {B : Type 0} (xs ys zs : List B) (all : List B) → all ≡ ys ++ zs → (xs ++ ys) ++ zs ≡ xs ++ all
more_on xs ys zs all h = assoc xs ys zs ∙ ap (λ z. xs ++ z) (sym h)

zero_plus : (n : ℕ) → n ≡ 0 + n
zero_plus n = omega arith

pub rows_of_both : (xs ys : List Arrival) → length (all_rows (xs ++ ys)) ≡ length (all_rows xs) + length (all_rows ys)
rows_of_both [] ys = zero_plus (length (all_rows ys))
rows_of_both (x ∷ xs) ys = length-append (rows_in x.reply.body) (all_rows (xs ++ ys)) ∙ ap (λ n. length (rows_in x.reply.body) + n) (rows_of_both xs ys) ∙ plus_assoc _ _ _ _ (length-append (rows_in x.reply.body) (all_rows xs))
  where
    plus_assoc : (a b c d : ℕ) → d ≡ a + b → a + (b + c) ≡ d + c
    plus_assoc a b c d h = omega (arith, h)

pub keys_of_both : (xs ys : List Arrival) → length (all_keys (xs ++ ys)) ≡ length (all_keys xs) + length (all_keys ys)
keys_of_both [] ys = zero_plus (length (all_keys ys))
keys_of_both (x ∷ xs) ys = length-append (keys_in x.reply.body) (all_keys (xs ++ ys)) ∙ ap (λ n. length (keys_in x.reply.body) + n) (keys_of_both xs ys) ∙ plus_assoc _ _ _ _ (length-append (keys_in x.reply.body) (all_keys xs))
  where
    plus_assoc : (a b c d : ℕ) → d ≡ a + b → a + (b + c) ≡ d + c
    plus_assoc a b c d h = omega (arith, h)

pub rows_directed : (down : Bool) (xs : List Arrival) → length (all_rows (in_direction down xs)) ≡ length (all_rows xs)
rows_directed true xs = rows_reverse xs
rows_directed false xs = refl

pub keys_directed : (down : Bool) (xs : List Arrival) → length (all_keys (in_direction down xs)) ≡ length (all_keys xs)
keys_directed true xs = keys_reverse xs
keys_directed false xs = refl

-- what is left of the arrivals has room

pub left_more : {B : Type 0} (done rest all left : List B) (a : B) → left ≡ a ∷ rest → done ++ left ≡ all → (done ++ a ∷ []) ++ rest ≡ all
left_more done rest all left a next h = assoc done (a ∷ []) rest ∙ ap (λ z. done ++ z) (sym next) ∙ h

fit : (s d r m n l size : ℕ) → l ≡ s + d → n ≡ d + (r + m) → s + n ≤ size → l + r ≤ size
fit s d r m n l size is sum h = omega (arith, is, sum, h)

abbrev roomy : {B : Type 0} → List B → ℕ → Roomy B
roomy xs n = record { items = xs; size = n }

pub rows_fit : (start : List Row) (size : ℕ) (rows : Roomy Row) (done rest all left : List Arrival) (a : Arrival) → rows ≡ record { items = start ++ all_rows done; size = size } → left ≡ a ∷ rest → done ++ left ≡ all → length start + length (all_rows all) ≤ size → length rows.items + length (rows_in a.reply.body) ≤ rows.size
rows_fit start size rows done rest all left a is next h room =
    subst (λ r. length r.items + length (rows_in a.reply.body) ≤ r.size) (sym is)
    (fit (length start) (length (all_rows done)) (length (rows_in a.reply.body)) (length (all_rows rest)) (length (all_rows all)) (length (start ++ all_rows done)) size
    (length-append start (all_rows done))
    (ap (λ z. length (all_rows z)) (sym h ∙ ap (λ z. done ++ z) next) ∙ rows_of_both done (a ∷ rest) ∙ ap (λ n. length (all_rows done) + n) (length-append (rows_in a.reply.body) (all_rows rest)))
    room)

pub keys_fit : (start : List (List ℕ)) (size : ℕ) (keys : Roomy (List ℕ)) (done rest all left : List Arrival) (a : Arrival) → keys ≡ record { items = start ++ all_keys done; size = size } → left ≡ a ∷ rest → done ++ left ≡ all → length start + length (all_keys all) ≤ size → length keys.items + length (keys_in a.reply.body) ≤ keys.size
keys_fit start size keys done rest all left a is next h room =
    subst (λ r. length r.items + length (keys_in a.reply.body) ≤ r.size) (sym is)
    (fit (length start) (length (all_keys done)) (length (keys_in a.reply.body)) (length (all_keys rest)) (length (all_keys all)) (length (start ++ all_keys done)) size
    (length-append start (all_keys done))
    (ap (λ z. length (all_keys z)) (sym h ∙ ap (λ z. done ++ z) next) ∙ keys_of_both done (a ∷ rest) ∙ ap (λ n. length (all_keys done) + n) (length-append (keys_in a.reply.body) (all_keys rest)))
    room)

pub rows_more : (start : List Row) (size : ℕ) (rows new : Roomy Row) (done : List Arrival) (a : Arrival) → rows ≡ record { items = start ++ all_rows done; size = size } → new ≡ record { items = rows.items ++ rows_in a.reply.body; size = rows.size } → new ≡ record { items = start ++ all_rows (done ++ a ∷ []); size = size }
rows_more start size rows new done a h is =
    is ∙ ap (λ (r : Roomy Row). roomy (r.items ++ rows_in a.reply.body) r.size) h
    ∙ ap (λ z. roomy z size) (more_on start (all_rows done) (rows_in a.reply.body) (all_rows (done ++ a ∷ [])) (rows_push done a))

pub keys_more : (start : List (List ℕ)) (size : ℕ) (keys new : Roomy (List ℕ)) (done : List Arrival) (a : Arrival) → keys ≡ record { items = start ++ all_keys done; size = size } → new ≡ record { items = keys.items ++ keys_in a.reply.body; size = keys.size } → new ≡ record { items = start ++ all_keys (done ++ a ∷ []); size = size }
keys_more start size keys new done a h is =
    is ∙ ap (λ (r : Roomy (List ℕ)). roomy (r.items ++ keys_in a.reply.body) r.size) h
    ∙ ap (λ z. roomy z size) (more_on start (all_keys done) (keys_in a.reply.body) (all_keys (done ++ a ∷ [])) (keys_push done a))

-- the first that there is

pub first_more : {B : Type 0} (give : Arrival → Option B) (done : List Arrival) (a : Arrival) (old new : Option B) → old ≡ first_some give done → new ≡ option_or old (give a) → new ≡ first_some give (done ++ a ∷ [])
first_more give done a old new h is = is ∙ ap (λ o. option_or o (give a)) h ∙ some_push give done a

-- a body that is neither rows nor keys is the first that came
pub joined_other : (none : Body) (xs : List Arrival) → ((x : List Row) → none ≡ Rows x → ⊥) → ((x : List (List ℕ)) → none ≡ Gone x → ⊥) → given none (body_at xs) ≡ joined none xs
joined_other (Got a) xs rows keys = refl
joined_other (Rows a) xs rows keys = absurd (rows a refl)
joined_other Done xs rows keys = refl
joined_other (Number a) xs rows keys = refl
joined_other (Gone a) xs rows keys = absurd (keys a refl)
joined_other (Ended a) xs rows keys = refl
joined_other (Found a) xs rows keys = refl

pub other_reply : (p : Place) (xs : List Arrival) (r : Reply) → ((x : List Row) → p.wanted.empty ≡ Rows x → ⊥) → ((x : List (List ℕ)) → p.wanted.empty ≡ Gone x → ⊥) → xs ≡ in_direction p.wanted.down p.runs.items → r ≡ record { body = given p.wanted.empty (body_at xs); resume = resume_at xs } → r ≡ reply_from p
other_reply p xs r rows keys same is =
    is ∙ ap (λ z. replied z (resume_at xs)) (joined_other p.wanted.empty xs rows keys)
    ∙ ap (λ ys. replied (joined p.wanted.empty ys) (resume_at ys)) same
  where
    replied : Body → Option Extent → Reply
    replied b o = record { body = b; resume = o }
