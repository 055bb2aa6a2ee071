-- A request asked from key to key.
use Rattle.std.proofs.Common.{◌≡◌, ℕ, true, false, cond, ◌&&◌, List, [], ◌∷◌, ◌++◌, Option, Some, None, refl, sym, ap, ◌∙◌, append_assoc}
use Rattle.ds_base.specs.Order.{key_lt, key_le, holds}
use Rattle.ds_base.specs.Ordered.{between}
use Rattle.ds_base.specs.declared.value.Value.{Value}
use Rattle.ds_base.proofs.OrderedFacts.{le_trans, le_of_not_lt, not_lt_of_le}
use Rattle.ds_base.proofs.SmallFacts.{append_nil}
use Rattle.ds_cell.specs.declared.verdict.Verdict.{Verdict}
use Rattle.ds_cell.specs.declared.verdict.Verdict.TheVariants.{Keep, Put, Refuse}
use Rattle.ds_cell.specs.declared.verdict.Bit.{Bit}
use Rattle.ds_cell.specs.declared.verdict.ActFault.{ActFault}
use Rattle.ds_cell.specs.Content.{Content}
use Rattle.ds_cell.specs.Ask.{Cells, key_of, Asked, Failed, Gave, one_more, ask_each, joined}
use Rattle.ds_range.specs.Asks.{with_verdict, unless_refused}

-- asked of one key alone
pub one_alone : (k : List ℕ) (v : Verdict) → with_verdict k v (Gave [] []) ≡ one_more k v (Gave [] [])
one_alone k (Keep b) = refl
one_alone k (Put w b) = refl
one_alone k (Refuse f) = refl

-- what was gathered, with what is still to come
step : (bs : List (List ℕ × Bit)) (ws : List (List ℕ × Option Value)) (k : List ℕ) (v : Verdict) (r : Asked) → joined (Gave bs ws) (one_more k v r) ≡ joined (with_verdict k v (Gave bs ws)) r
step bs ws k (Keep b) (Failed q f) = refl
step bs ws k (Put w b) (Failed q f) = refl
step bs ws k (Refuse g) (Failed q f) = refl
step bs ws k (Refuse g) (Gave cs vs) = refl
step bs ws k (Keep b) (Gave cs vs) = ap (λ xs. Gave xs (ws ++ vs)) (sym (append_assoc bs ((k, b) ∷ []) cs))
step bs ws k (Put w b) (Gave cs vs) =
    ap (λ xs. Gave xs (ws ++ (k, w) ∷ vs)) (sym (append_assoc bs ((k, b) ∷ []) cs))
    ∙ ap (λ ys. Gave ((bs ++ (k, b) ∷ []) ++ cs) ys) (sym (append_assoc ws ((k, w) ∷ []) vs))

-- one more key that gave something
pub asked_more : (d : Content → Verdict) (p : List ℕ × Content) (rest : Cells) (all : Asked) (bs cs : List (List ℕ × Bit)) (ws vs : List (List ℕ × Option Value)) (v : Verdict) → joined (Gave bs ws) (ask_each d (p ∷ rest)) ≡ all → v ≡ d p.1 → unless_refused p.0 None cs vs ≡ with_verdict p.0 v (Gave bs ws) → joined (Gave cs vs) (ask_each d rest) ≡ all
asked_more d p rest all bs cs ws vs v inv is more =
    ap (λ a. joined a (ask_each d rest)) (more ∙ ap (λ z. with_verdict p.0 z (Gave bs ws)) is)
    ∙ sym (step bs ws p.0 (d p.1) (ask_each d rest)) ∙ inv

-- a key that refused
pub asked_refused : (d : Content → Verdict) (p : List ℕ × Content) (rest : Cells) (all : Asked) (bs cs : List (List ℕ × Bit)) (ws vs : List (List ℕ × Option Value)) (v : Verdict) (f : ActFault) → joined (Gave bs ws) (ask_each d (p ∷ rest)) ≡ all → v ≡ d p.1 → unless_refused p.0 (Some f) cs vs ≡ with_verdict p.0 v (Gave bs ws) → Failed p.0 f ≡ all
asked_refused d p rest all bs cs ws vs v f inv is more =
    ap (λ a. joined a (ask_each d rest)) (more ∙ ap (λ z. with_verdict p.0 z (Gave bs ws)) is)
    ∙ sym (step bs ws p.0 (d p.1) (ask_each d rest)) ∙ inv

-- all keys are asked
pub asked_all : (d : Content → Verdict) (rest : Cells) (all : Asked) (bs : List (List ℕ × Bit)) (ws : List (List ℕ × Option Value)) → rest ≡ [] → joined (Gave bs ws) (ask_each d rest) ≡ all → Gave bs ws ≡ all
asked_all d rest all bs ws none inv =
    ap (λ xs. Gave xs ws) (sym (append_nil bs)) ∙ ap (λ ys. Gave (bs ++ []) ys) (sym (append_nil ws))
    ∙ ap (λ cs. joined (Gave bs ws) (ask_each d cs)) (sym none) ∙ inv

-- nothing lies from s up to an end that is not above it
pub none_within : (d : Content → Verdict) (s e : List ℕ) (cells : Cells) → key_lt s e ≡ false → Gave [] [] ≡ ask_each d (between key_of s e cells)
none_within d s e [] h = refl
none_within d s e (p ∷ ps) h =
    none_within d s e ps h ∙ ap (λ t. ask_each d (cond t (p ∷ between key_of s e ps) (between key_of s e ps))) (sym (out p.0))
  where
    out : (k : List ℕ) → holds s e k ≡ false
    out k =
        elim (key_le s k) as (λ t. key_le s k ≡ t → (t && key_lt k e) ≡ false) [
          | true ↦ λ low. not_lt_of_le e k (le_trans e s k (le_of_not_lt s e h) low)
          | false ↦ λ low. refl
        ] refl

-- nothing was gathered yet
pub started : (a : Asked) → joined (Gave [] []) a ≡ a
started (Failed k f) = refl
started (Gave bs ws) = refl

pub asked_first : (d : Content → Verdict) (all rest : Cells) (bs : List (List ℕ × Bit)) (ws : List (List ℕ × Option Value)) → bs ≡ [] → ws ≡ [] → rest ≡ all → joined (Gave bs ws) (ask_each d rest) ≡ ask_each d all
asked_first d all rest bs ws no_bits no_writes is =
    ap (λ xs. joined (Gave xs ws) (ask_each d rest)) no_bits ∙ ap (λ ys. joined (Gave [] ys) (ask_each d rest)) no_writes
    ∙ started (ask_each d rest) ∙ ap (ask_each d) is
