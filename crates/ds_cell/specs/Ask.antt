-- A request over a span: one filter of the keys, in their order.
use Rattle.std.specs.Prelude.{◌≡◌, ℕ, true, List, [], ◌∷◌, ◌++◌, Option, Some, None}
use Rattle.ds_base.specs.Order.{holds}
use Rattle.ds_base.specs.Ordered.{between, at_key}
use Rattle.ds_base.specs.declared.value.Value.{Value}
use Rattle.ds_kind.specs.Reach.{Reach, At, Over}
use Rattle.ds_cell.specs.declared.verdict.Verdict.{Verdict}
use Rattle.ds_cell.specs.declared.verdict.Verdict.TheVariants.{Keep, Put, Refuse}
use Rattle.ds_cell.specs.declared.verdict.Bit.{Bit}
use Rattle.ds_cell.specs.declared.verdict.ActFault.{ActFault}
use Rattle.ds_cell.specs.Content.{Content, no_content}

-- a key with what stands there
abbrev pub Cell : Type 0
Cell = List ℕ × Content

-- contents by key, in the order of the keys
abbrev pub Cells : Type 0
Cells = List Cell

abbrev pub key_of : {X : Type 0} → (List ℕ × X) → List ℕ
key_of p = p.0

-- what a request gave: the key and the fault that it failed with, or its answers and its writes by key
pub data Asked : Type 0 where
  Failed : List ℕ → ActFault → Asked
  Gave : List (List ℕ × Bit) → List (List ℕ × Option Value) → Asked

abbrev pub one_more : List ℕ → Verdict → Asked → Asked
one_more k (Refuse f) r = Failed k f
one_more k (Keep b) (Failed q f) = Failed q f
one_more k (Put w b) (Failed q f) = Failed q f
one_more k (Keep b) (Gave bs ws) = Gave ((k, b) ∷ bs) ws
one_more k (Put w b) (Gave bs ws) = Gave ((k, b) ∷ bs) ((k, w) ∷ ws)

-- asked at each of these keys, by what it does to one
abbrev pub ask_each : (Content → Verdict) → Cells → Asked
ask_each d [] = Gave [] []
ask_each d (p ∷ ps) = one_more p.0 (d p.1) (ask_each d ps)

-- asked on the span from s up to e
abbrev pub ask : (Content → Verdict) → List ℕ → List ℕ → Cells → Asked
ask d s e cells = ask_each d (between key_of s e cells)

-- the one answer after the other; it fails where one of the two fails, and the first before the second
abbrev pub joined : Asked → Asked → Asked
joined (Failed k f) r = Failed k f
joined (Gave bs ws) (Failed k f) = Failed k f
joined (Gave bs ws) (Gave cs vs) = Gave (bs ++ cs) (ws ++ vs)

abbrev pub content_of : Option (List ℕ × Content) → Content
content_of None = no_content
content_of (Some p) = p.1

-- the content at a key
abbrev pub content_at : List ℕ → Cells → Content
content_at k cells = content_of (at_key key_of k cells)

-- the keys, with their contents, at which a request acts: a point at its key, whether anything stands there or not
abbrev pub places : Reach → Cells → Cells
places (At k) cells = (k, content_at k cells) ∷ []
places (Over s e) cells = between key_of s e cells

-- asked where it acts
abbrev pub ask_at : (Content → Verdict) → Reach → Cells → Asked
ask_at d r cells = ask_each d (places r cells)

-- the span holds the key of each of these
abbrev pub AllIn : {X : Type 0} → (X → List ℕ) → List ℕ → List ℕ → List X → Type 0
AllIn f s e [] = Unit {0}
AllIn f s e (x ∷ xs) = (holds s e (f x) ≡ true) × AllIn f s e xs

-- answers, writes and the fault stand at keys of the span
abbrev pub StandsIn : List ℕ → List ℕ → Asked → Type 0
StandsIn s e (Failed k f) = holds s e k ≡ true
StandsIn s e (Gave bs ws) = AllIn key_of s e bs × AllIn key_of s e ws
