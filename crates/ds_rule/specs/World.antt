-- The world: its ranges, and what a lookup answers.
use Rattle.std.specs.Prelude.{◌≡◌, ℕ, Bool, true, List, [], ◌∷◌, ◌++◌, ◌==◌, map, take, find, reverse, Option, Some, None, if◌then◌else◌}
use Rattle.std.specs.List.{list_any}
use Rattle.ds_base.specs.Order.{key_lt, holds, bound}
use Rattle.ds_base.specs.Ordered.{Ascends}
use Rattle.ds_base.specs.declared.value.Dir.{Dir}
use Rattle.ds_base.specs.declared.value.Dir.TheVariants.{Forward, Reverse}
use Rattle.ds_desc.specs.Contains.{contains}
use Rattle.ds_desc.specs.declared.desc.RangeDesc.{RangeDesc}
use Rattle.ds_desc.specs.declared.desc.Info.{Info}
use Rattle.ds_kind.specs.declared.batch.Piece.{Piece}
use Rattle.ds_cell.specs.Content.{Content}
use Rattle.ds_rule.specs.declared.record.TxnRecord.{TxnRecord}
use Rattle.ds_cell.specs.Ask.{AllIn, Cell, key_of, content_at}

-- a range with all that it holds, by key
pub record Range : Type 0 where
  pub info : Info
  pub cells : List Cell

-- a copy of a piece that is still under way to a node
pub record Late : Type 0 where
  pub number : ℕ
  pub node : ℕ
  pub piece : Piece

-- the ranges by rising key; all descriptors so far; the old descriptors that lookups will be answered with;
-- the transactions' records; late copies; and how many events were made
pub record World : Type 0 where
  pub ranges : List Range
  pub descs : List RangeDesc
  pub armed : List RangeDesc
  pub records : List TxnRecord
  pub copies : List Late
  pub count : ℕ

abbrev pub start_of : Range → List ℕ
start_of r = r.info.desc.span.start

abbrev pub end_of : Range → List ℕ
end_of r = r.info.desc.span.end

abbrev pub has_id : ℕ → Range → Bool
has_id id r = r.info.desc.id == id

abbrev pub holds_key : List ℕ → Range → Bool
holds_key k r = holds (start_of r) (end_of r) k

-- the first that passes, changed
abbrev pub replaced : (Range → Bool) → (Range → Range) → List Range → List Range
replaced p f [] = []
replaced p f (r ∷ rs) = if p r then f r ∷ rs else r ∷ replaced p f rs

-- all that the ranges hold, whichever range holds it
abbrev pub contents : List Range → List Cell
contents [] = []
contents (r ∷ rs) = r.cells ++ contents rs

-- what stands at a key, whichever range holds it
abbrev pub cell_of : World → List ℕ → Content
cell_of w k = content_at k (contents w.ranges)

-- all these keys lie in the span
abbrev pub Inside : List ℕ → List ℕ → List Cell → Type 0
Inside s e ps = AllIn key_of s e ps

-- the range begins at s, and holds keys of its own span alone, in their order
pub record Fits (s : List ℕ) (r : Range) : Type 0 where
  pub begins : start_of r ≡ s
  pub some : key_lt s (end_of r) ≡ true
  pub rising : Ascends key_of r.cells
  pub inside : Inside s (end_of r) r.cells

-- the ranges tile the keys from s up to the bound
abbrev pub Tiles : List ℕ → List Range → Type 0
Tiles s [] = s ≡ bound
Tiles s (r ∷ rs) = Fits s r × Tiles (end_of r) rs

abbrev pub from_first : {X : Type 0} → (X → Bool) → List X → List X
from_first p [] = []
from_first p (x ∷ xs) = if p x then x ∷ xs else from_first p xs

abbrev pub without_first : {X : Type 0} → (X → Bool) → List X → List X
without_first p [] = []
without_first p (x ∷ xs) = if p x then xs else x ∷ without_first p xs

abbrev pub in_order : {X : Type 0} → Dir → List X → List X
in_order Forward xs = xs
in_order Reverse xs = reverse xs

abbrev pub first_or : ℕ → List ℕ → ℕ
first_or n [] = n
first_or n (x ∷ xs) = x

-- the first of some nodes, 0 where there is none
abbrev pub first_node : List ℕ → ℕ
first_node ns = first_or 0 ns

-- the node is among these
abbrev pub is_replica : ℕ → List ℕ → Bool
is_replica n ns = list_any (λ m. m == n) ns

-- an old descriptor as a lookup gives it: the lease is with its first node, and has the number 0
abbrev pub armed_row : RangeDesc → Info
armed_row desc = record { desc = desc; lease = record { node = first_node desc.nodes; number = 0 } }

-- the old descriptor answers a lookup of the key
abbrev pub answers_lookup : Dir → List ℕ → RangeDesc → Bool
answers_lookup d k a = contains d k a.span

-- the range that contains the key and up to eight that follow; or an old descriptor alone
abbrev pub rows_at : Dir → List ℕ → World → Option RangeDesc → List Info
rows_at d k w None = map (λ r. r.info) (take 9 (from_first (λ r. contains d k r.info.desc.span) (in_order d w.ranges)))
rows_at d k w (Some desc) = armed_row desc ∷ []

abbrev pub look_rows : World → List ℕ → Dir → List Info
look_rows w k d = rows_at d k w (find (answers_lookup d k) w.armed)

abbrev pub look_world : World → List ℕ → Dir → World
look_world w k d = record w { armed = without_first (answers_lookup d k) w.armed }
