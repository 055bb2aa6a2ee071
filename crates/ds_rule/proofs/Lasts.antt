-- The last of a list.
use Rattle.std.proofs.Common.{◌≡◌, ◌⊎◌, true, List, [], ◌∷◌, Option, Some, None, inl, inr, refl, sym, ap, ◌∙◌}
use Rattle.std.specs.Option.{option_or}
use Rattle.ds_base.proofs.SmallFacts.{some_same}
use Rattle.ds_cell.specs.Seen.{last_of}
use Rattle.ds_cell.proofs.LatestFacts.{last_where-cons}

last-some : {X : Type 0} (o : Option X) (x : X) → option_or o (Some x) ≡ None → ⊥
last-some None x h = cc
last-some (Some y) x h = cc

pub none-last : {X : Type 0} (xs : List X) → last_of xs ≡ None → xs ≡ []
none-last [] h = refl
none-last (x ∷ xs) h = absurd (last-some (last_of xs) x (sym (last_where-cons (λ _. true) x xs) ∙ h))

pub some-last : {X : Type 0} (xs : List X) (x : X) → last_of xs ≡ Some x → xs ≡ [] → ⊥
some-last [] x h e = cc
some-last (y ∷ ys) x h e = cc

-- the last of a list that has more is that of the rest
pub last-cases : {X : Type 0} (t : X) (ts : List X) (x : X) → last_of (t ∷ ts) ≡ Some x → ((ts ≡ []) × (t ≡ x)) ⊎ (last_of ts ≡ Some x)
last-cases t ts x h = by (last_of ts) refl
  where
    by : (o : Option _) → last_of ts ≡ o → ((ts ≡ []) × (t ≡ x)) ⊎ (last_of ts ≡ Some x)
    by None e = inl (none-last ts e, some_same t x (sym (ap (λ o. option_or o (Some t)) e) ∙ sym (last_where-cons (λ _. true) t ts) ∙ h))
    by (Some y) e = inr (e ∙ sym (ap (λ o. option_or o (Some t)) e) ∙ sym (last_where-cons (λ _. true) t ts) ∙ h)
