-- A piece that ends no transaction, as a range served it.
use Rattle.std.proofs.Common.{◌≡◌, ℕ, Bool, true, false, cond, ◌||◌, ◌⊎◌, inl, inr, List, [], ◌∷◌, Option, Some, None, refl, sym, ap, ◌∙◌, subst}
use Rattle.std.specs.List.{find, list_all, list_any}
use Rattle.ds_base.specs.Order.{Extent, holds}
use Rattle.ds_base.specs.Ordered.{at_key, key_eq}
use Rattle.ds_base.proofs.OrderedFacts.{eq_same}
use Rattle.ds_base.proofs.SmallFacts.{and_first, and_second}
use Rattle.ds_kind.specs.Asks.{is_end}
use Rattle.ds_kind.specs.Parts.{requests_of}
use Rattle.ds_kind.specs.declared.batch.Head.{Head}
use Rattle.ds_kind.specs.declared.batch.Item.{Item}
use Rattle.ds_kind.specs.declared.batch.Piece.{Piece}
use Rattle.ds_kind.specs.declared.reply.Reply.{Reply}
use Rattle.ds_kind.specs.declared.request.Request.{Request}
use Rattle.ds_kind.specs.declared.request.Request.TheVariants.{Get, Scan, ReverseScan, Put, ConditionalPut, InitPut, Increment, Delete, DeleteRange, EndTxn, QueryIntent, ResolveIntent, ResolveIntentRange, AdminSplit, AdminTransferLease}
use Rattle.ds_cell.specs.Ask.{Cells, key_of, content_at, content_of}
use Rattle.ds_cell.specs.Content.{no_content}
use Rattle.ds_law.proofs.Alike.{in-range}
use Rattle.ds_law.proofs.Replacing.{found-fits, given-in, given-out, not-both, range-at}
use Rattle.ds_rule.specs.declared.record.TxnRecord.{TxnRecord}
use Rattle.ds_rule.specs.Asking.{finished}
use Rattle.ds_rule.specs.Deliver.{all_done, deliver_world, deliver_world_to, done_by, done_unless, end_of_txn, holds_item, with_cells, world_at, world_made}
use Rattle.ds_rule.specs.Endings.{all_ended, ended_by, ended_unless}
use Rattle.ds_rule.specs.Keeping.{Keeps}
use Rattle.ds_rule.specs.Turn.{items_at, speaks_of}
use Rattle.ds_rule.specs.World.{World, Range, contents, end_of, has_id, replaced, start_of, Inside}
use Rattle.ds_rule.proofs.Delivered.{served_tiles}
use Rattle.ds_rule.proofs.Service.{Service, held}
use Rattle.ds_world.proofs.Delivers.{deliver-keeps, deliver-leaves, done-ends}
use Rattle.ds_world.proofs.Foreign.{keeps-holding}
use Rattle.ds_world.proofs.Shifted.{lease_holds, lease_keeps, split_holds, split_keeps}
use Rattle.ds_world.proofs.Stretches.{keeps-same}
use Rattle.ds_mean.specs.Serving.{Beside, InRange, Served}

-- ---- what it does beside what the range holds

-- neither of two tests passes
neither : (a b : Bool) → (a || b) ≡ false → (a ≡ false) × (b ≡ false)
neither true b h = cc
neither false b h = (refl, h)

by-ended : (h : Head) (q : Request) (ts : List TxnRecord) → is_end q ≡ false → ended_by h q ts ≡ ts
by-ended h (Get a) ts none = refl
by-ended h (Scan a) ts none = refl
by-ended h (ReverseScan a) ts none = refl
by-ended h (Put a) ts none = refl
by-ended h (ConditionalPut a) ts none = refl
by-ended h (InitPut a) ts none = refl
by-ended h (Increment a) ts none = refl
by-ended h (Delete a) ts none = refl
by-ended h (DeleteRange a) ts none = refl
by-ended h (EndTxn a) ts none = cc
by-ended h (QueryIntent a) ts none = refl
by-ended h (ResolveIntent a) ts none = refl
by-ended h (ResolveIntentRange a) ts none = refl
by-ended h (AdminSplit a) ts none = refl
by-ended h (AdminTransferLease a) ts none = refl

unless-ended : (o : Option Extent) (h : Head) (q : Request) (ts : List TxnRecord) → is_end q ≡ false → ended_unless o h q ts ≡ ts
unless-ended None h q ts none = by-ended h q ts none
unless-ended (Some rest) h q ts none = refl

none-ended : (h : Head) (items : List Item) (rs : List Reply) (ts : List TxnRecord) → list_any is_end (requests_of items) ≡ false → all_ended h items rs ts ≡ ts
none-ended h [] rs ts none = refl
none-ended h (i ∷ is) [] ts none = refl
none-ended h (i ∷ is) (r ∷ rs) ts none =
    let both = neither (is_end i.request) (list_any is_end (requests_of is)) none in
    ap (all_ended h is rs) (unless-ended r.resume h i.request ts both.0) ∙ none-ended h is rs ts both.1

-- a world in which every key holds what it held
record Same (w v : World) : Type 0 where
  keeps : Keeps v
  all : contents v.ranges ≡ contents w.ranges

itself : (w : World) → Keeps w → Same w w
itself w k = record { keeps = k; all = refl }

by-same : (h : Head) (q : Request) (w : World) → Keeps w → Same w (done_by h q w)
by-same h (Get a) w k = itself w k
by-same h (Scan a) w k = itself w k
by-same h (ReverseScan a) w k = itself w k
by-same h (Put a) w k = itself w k
by-same h (ConditionalPut a) w k = itself w k
by-same h (InitPut a) w k = itself w k
by-same h (Increment a) w k = itself w k
by-same h (Delete a) w k = itself w k
by-same h (DeleteRange a) w k = itself w k
by-same h (EndTxn a) w k = record { keeps = keeps-same w (end_of_txn h.txn a.commit w) refl refl k; all = refl }
by-same h (QueryIntent a) w k = itself w k
by-same h (ResolveIntent a) w k = itself w k
by-same h (ResolveIntentRange a) w k = itself w k
by-same h (AdminSplit a) w k = record { keeps = split_keeps a.key w k; all = split_holds a.key w k }
by-same h (AdminTransferLease a) w k = record { keeps = lease_keeps a.key a.node w k; all = lease_holds a.key a.node w k }

unless-same : (o : Option Extent) (h : Head) (q : Request) (w : World) → Keeps w → Same w (done_unless o h q w)
unless-same None h q w k = by-same h q w k
unless-same (Some rest) h q w k = itself w k

done-same : (h : Head) (items : List Item) (rs : List Reply) (w : World) → Keeps w → Same w (all_done h items rs w)
done-same h [] rs w k = itself w k
done-same h (i ∷ is) [] w k = itself w k
done-same h (i ∷ is) (r ∷ rs) w k =
    let one = unless-same r.resume h i.request w k in
    let rest = done-same h is rs (done_unless r.resume h i.request w) one.keeps in
    record { keeps = rest.keeps; all = rest.all ∙ one.all }

-- ---- what the range holds

-- the range that was given new cells is found in its place
find-given : (id : ℕ) (cells : Cells) (rs : List Range) (q : Range) → find (has_id id) rs ≡ Some q → find (has_id id) (replaced (has_id id) (λ r. record r { cells = cells }) rs) ≡ Some (record q { cells = cells })
find-given id cells [] q h = cc
find-given id cells (r ∷ rs) q h =
    elim (has_id id r) as (λ b. has_id id r ≡ b → cond b (Some r) (find (has_id id) rs) ≡ Some q → find (has_id id) (cond b (record r { cells = cells } ∷ rs) (r ∷ replaced (has_id id) (λ r. record r { cells = cells }) rs)) ≡ Some (record q { cells = cells })) [
      | true ↦ λ e g.
          let same : r ≡ q = cc in
          ap (λ b. cond b (Some (record r { cells = cells })) (find (has_id id) rs)) e ∙ ap (λ (z : Range). Some (record z { cells = cells })) same
      | false ↦ λ e g. ap (λ b. cond b (Some r) (find (has_id id) (replaced (has_id id) (λ r. record r { cells = cells }) rs))) e ∙ find-given id cells rs q g
    ] refl h

-- and holds nothing outside its span
pub none-far : (s e k : List ℕ) (cells : Cells) → Inside s e cells → holds s e k ≡ false → content_at k cells ≡ no_content
none-far s e k [] lies far = refl
none-far s e k (p ∷ ps) lies far =
    elim (key_eq p.0 k) as (λ t. key_eq p.0 k ≡ t → content_of (cond t (Some p) (at_key key_of k ps)) ≡ no_content) [
      | true ↦ λ h. absurd (not-both (holds s e k) (subst (λ z. holds s e z ≡ true) (eq_same p.0 k h) lies.0) far)
      | false ↦ λ h. none-far s e k ps lies.1 far
    ] refl

-- no item of a piece that a range holds speaks of a key outside
pub none-spoken : (r : Range) (k : List ℕ) (js : List Item) → list_all (holds_item r) js ≡ true → holds (start_of r) (end_of r) k ≡ false → items_at k js ≡ []
none-spoken r k [] all far = refl
none-spoken r k (j ∷ js) all far =
    elim (speaks_of k j) as (λ b. speaks_of k j ≡ b → cond b (j ∷ items_at k js) (items_at k js) ≡ []) [
      | true ↦ λ here. absurd (not-both (holds (start_of r) (end_of r) k) (in-range r j k (and_first (holds_item r j) _ all) here) far)
      | false ↦ λ other. none-spoken r k js (and_second (holds_item r j) _ all) far
    ] refl

served-world : (w : World) (n : ℕ) (p : Piece) (rs : List Reply) → (sv : Service w n p rs) → deliver_world w n p ≡ all_done p.head p.items rs (with_cells p.range (finished p.head sv.writes sv.cells) w)
served-world w n p rs sv =
    ap (deliver_world_to w n p) sv.found ∙ ap (world_at w p sv.range) sv.goes ∙ ap (world_made w p) sv.gives

pub served-shows : (w v : World) (n : ℕ) (p : Piece) (rs : List Reply) → list_any is_end (requests_of p.items) ≡ false → Keeps w → Service w n p rs → v ≡ deliver_world w n p → Served w v p rs
served-shows w v n p rs none keeps sv is = record {
  held = r.cells;
  out = sv.cells;
  writes = sv.writes;
  ascends = (found-fits (has_id p.range) [] w.ranges r keeps.tiled sv.found).rising;
  gives = sv.gives;
  at = at;
  keeps = subst Keeps (sym is) (deliver-keeps n p w keeps);
  records = ap (λ z. z.records) whole ∙ done-ends p.head p.items rs given ∙ none-ended p.head p.items rs w.records none;
  copies = ap (λ z. z.copies) is ∙ deliver-leaves (λ z. z.copies) (λ id cs z. refl) (λ ts z. refl) (λ k z. refl) (λ k m z. refl) w n p;
}
  where
    r : Range
    r = sv.range

    now : Cells
    now = finished p.head sv.writes sv.cells

    given : World
    given = with_cells p.range now w

    whole : v ≡ all_done p.head p.items rs given
    whole = is ∙ served-world w n p rs sv

    given-keeps : Keeps given
    given-keeps = keeps-holding (has_id p.range) (λ r. now) w (served_tiles [] w n p r sv.cells sv.writes rs sv.found sv.goes sv.gives keeps.tiled) keeps

    inside : Inside (start_of r) (end_of r) now
    inside = (found-fits (has_id p.range) [] given.ranges (record r { cells = now }) given-keeps.tiled (find-given p.range now w.ranges r sv.found)).inside

    all : contents v.ranges ≡ contents given.ranges
    all = ap (λ z. contents z.ranges) whole ∙ (done-same p.head p.items rs given given-keeps).all

    at : (k : List ℕ) → InRange w v p r.cells sv.cells sv.writes k ⊎ Beside w v p r.cells k
    at k =
        elim (holds (start_of r) (end_of r) k) as (λ b. holds (start_of r) (end_of r) k ≡ b → InRange w v p r.cells sv.cells sv.writes k ⊎ Beside w v p r.cells k) [
          | true ↦ λ here.
              inl (record {
                there = range-at (has_id p.range) [] w.ranges r k keeps.tiled sv.found here;
                now = ap (content_at k) all ∙ given-in (has_id p.range) [] w.ranges r now k keeps.tiled sv.found here;
              })
          | false ↦ λ far.
              inr (record {
                empty = none-far (start_of r) (end_of r) k r.cells (found-fits (has_id p.range) [] w.ranges r keeps.tiled sv.found).inside far;
                none = none-spoken r k p.items (held w n p r sv.goes) far;
                same = ap (content_at k) all ∙ given-out (has_id p.range) [] w.ranges r now k keeps.tiled sv.found inside far;
              })
        ] refl
