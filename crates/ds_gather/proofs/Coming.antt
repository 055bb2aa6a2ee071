-- The answers of a piece, one after another.
use Rattle.std.proofs.Common.{◌≡◌, List, [], ◌∷◌, ◌++◌, length, drop, refl, sym, ap, ◌∙◌}
use Rattle.ds_base.proofs.ListFacts.{cons_head}
use Rattle.ds_kind.specs.declared.batch.Item.{Item}
use Rattle.ds_kind.specs.declared.reply.Reply.{Reply}
use Rattle.ds_gather.specs.Gathered.{arrival, arrivals}

cons_not_nil : {X : Type 0} {G : Type 0} (x : X) (xs : List X) → [] ≡ x ∷ xs → G
cons_not_nil x xs h = cc

pub no_replies : (is : List Item) → arrivals is [] ≡ []
no_replies [] = refl
no_replies (i ∷ is) = refl

pub come_more : (is : List Item) (ys : List Reply) (i : Item) (rest : List Item) (r : Reply) → drop (length ys) is ≡ i ∷ rest → arrivals is (ys ++ r ∷ []) ≡ arrivals is ys ++ arrival i r ∷ []
come_more [] [] i rest r h = cons_not_nil i rest h
come_more [] (y ∷ ys) i rest r h = cons_not_nil i rest h
come_more (j ∷ is) [] i rest r h = ap (λ z. arrival j r ∷ z) (no_replies is) ∙ ap (λ k. arrival k r ∷ []) (cons_head j i is rest h)
come_more (j ∷ is) (y ∷ ys) i rest r h = ap (λ z. arrival j y ∷ z) (come_more is ys i rest r h)

pub come_all : (is : List Item) (ys zs : List Reply) → drop (length ys) is ≡ [] → arrivals is (ys ++ zs) ≡ arrivals is ys
come_all [] ys zs h = refl
come_all (j ∷ is) [] zs h = cons_not_nil j is (sym h)
come_all (j ∷ is) (y ∷ ys) zs h = ap (λ z. arrival j y ∷ z) (come_all is ys zs h)

pub drop_more : (is : List Item) (ys : List Reply) (i : Item) (rest : List Item) (r : Reply) → drop (length ys) is ≡ i ∷ rest → drop (length (ys ++ r ∷ [])) is ≡ rest
drop_more [] [] i rest r h = cons_not_nil i rest h
drop_more [] (y ∷ ys) i rest r h = cons_not_nil i rest h
drop_more (j ∷ is) [] i rest r h = tails j i is rest h
  where
    tails : (j i : Item) (is rest : List Item) → j ∷ is ≡ i ∷ rest → is ≡ rest
    tails j i is rest h = cc
drop_more (j ∷ is) (y ∷ ys) i rest r h = drop_more is ys i rest r h
