-- The parts of a batch: requests that may be sent together.
use Rattle.std.specs.Prelude.{◌≡◌, ℕ, ◌+◌, ◌-◌, ◌<◌, Bool, true, false, not, ◌&&◌, ◌||◌, List, [], ◌∷◌, map, take, length, if◌then◌else◌}
use Rattle.std.specs.List.{list_any, list_all, flat_map, range_with_len, All}
use Rattle.ds_base.specs.declared.value.Dir.{Dir}
use Rattle.ds_base.specs.declared.value.Dir.TheVariants.{Forward, Reverse}
use Rattle.ds_base.specs.declared.value.Seq.{Seq}
use Rattle.ds_kind.specs.Flags.{fit}
use Rattle.ds_kind.specs.declared.batch.Item.{Item}
use Rattle.ds_kind.specs.declared.batch.Part.{Part}
use Rattle.ds_kind.specs.declared.request.Request.{Request}
use Rattle.ds_kind.specs.Asks.{flags_at, is_alone, is_end, is_reverse_scan, fits_all}
use Rattle.ds_kind.specs.Groups.{groups}

-- a request joins where it may stand with each one there; an end that is not split off joins
-- unless one there stands alone
abbrev pub may_join : Bool → List Request → Request → Bool
may_join split_end rs r = if not split_end && is_end r then not (list_any is_alone rs) else fits_all rs r

-- the requests with their positions and numbers
abbrev pub items_from : ℕ → List Request → List Seq → List Item
items_from pos [] seqs = []
items_from pos (r ∷ rs) [] = []
items_from pos (r ∷ rs) (s ∷ ss) = record { pos = pos; seq = s; request = r } ∷ items_from (pos + 1) rs ss

abbrev pub requests_of : List Item → List Request
requests_of items = map (λ i. i.request) items

abbrev pub dir_of : List Request → Dir
dir_of rs = if list_any is_reverse_scan rs then Reverse else Forward

abbrev pub part_of : List Item → Part
part_of items = record { items = items; dir = dir_of (requests_of items) }

abbrev pub item_may_join : Bool → List Item → Item → Bool
item_may_join split_end items i = may_join split_end (requests_of items) i.request

abbrev pub parts_of : Bool → List Request → List Seq → List Part
parts_of split_end requests seqs = map part_of (groups (item_may_join split_end) (items_from 0 requests seqs))

-- what parts keep

-- the requests before the last
abbrev pub before_last : List Request → List Request
before_last rs = take (length rs - 1) rs

-- each may stand with each later one, ends aside
abbrev pub all_fit : List Request → Bool
all_fit [] = true
all_fit (r ∷ rs) = list_all (λ q. is_end q || fit (flags_at r) (flags_at q)) rs && all_fit rs

-- it stands alone, and is no end that may follow others
abbrev pub is_apart : Bool → Request → Bool
is_apart split_end r = is_alone r && (split_end || not (is_end r))

pub record IsPart (split_end : Bool) (p : Part) : Type 0 where
  -- it has a request
  pub some : 0 < length p.items
  pub fit : all_fit (requests_of p.items) ≡ true
  -- nothing follows a request that stands alone
  pub alone_last : list_any is_alone (before_last (requests_of p.items)) ≡ false
  -- nothing stands before one either, but for an end that is not split off
  pub apart : 1 < length p.items → list_any (is_apart split_end) (requests_of p.items) ≡ false
  pub dir : p.dir ≡ dir_of (requests_of p.items)

abbrev pub all_items : List Part → List Item
all_items ps = flat_map (λ p. p.items) ps

-- the parts, one after another, are the requests in order, at the positions 0, 1, 2 and so on
pub record AreParts (split_end : Bool) (rs : List Request) (ss : List Seq) (ps : List Part) : Type 0 where
  pub requests : requests_of (all_items ps) ≡ rs
  pub positions : map (λ i. i.pos) (all_items ps) ≡ range_with_len 0 (length rs)
  pub numbers : map (λ i. i.seq) (all_items ps) ≡ ss
  pub each : All (IsPart split_end) ps

-- each request of the parts passes the test
abbrev pub EachRequest : (Request → Bool) → List Part → Type 0
EachRequest test ps = All (λ p. list_all test (requests_of p.items) ≡ true) ps
