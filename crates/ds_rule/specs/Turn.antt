-- What a batch comes to at one key: its items that hold the key, one after another, on what stands there.
use Rattle.std.specs.Prelude.{◌≡◌, ℕ, Bool, true, List, [], ◌∷◌, filter, Some, None, refl, pos}
use Rattle.ds_base.specs.Order.{holds}
use Rattle.ds_base.specs.declared.value.Value.TheVariants.{Int}
use Rattle.ds_kind.specs.Request.{span_of}
use Rattle.ds_kind.specs.declared.batch.Item.{Item}
use Rattle.ds_kind.specs.declared.request.Request.TheVariants.{Get, Put as PutAt, Scan}
use Rattle.ds_cell.specs.declared.entry.At.{At}
use Rattle.ds_cell.specs.declared.entry.Written.{Written}
use Rattle.ds_cell.specs.declared.verdict.ActFault.{ActFault}
use Rattle.ds_cell.specs.declared.verdict.ActFault.TheVariants.{TooOld}
use Rattle.ds_cell.specs.declared.verdict.Bit.{Bit}
use Rattle.ds_cell.specs.declared.verdict.Bit.TheVariants.{Nothing, Value as Shown}
use Rattle.ds_cell.specs.declared.verdict.Verdict.{Verdict}
use Rattle.ds_cell.specs.declared.verdict.Verdict.TheVariants.{Keep, Put, Refuse}
use Rattle.ds_cell.specs.Ask.{Cells, content_at}
use Rattle.ds_cell.specs.Content.{Content, no_content}
use Rattle.ds_cell.specs.Deed.{content_after}
use Rattle.ds_cell.specs.Requests.{deed_of}
use Rattle.ds_rule.specs.Asking.{Asking, at_of}

-- one item

-- whether the item speaks of the key, and the items that do, in their order
abbrev pub speaks_of : List ℕ → Item → Bool
speaks_of k i = holds (span_of i.request).start (span_of i.request).end k

abbrev pub items_at : List ℕ → List Item → List Item
items_at k items = filter (speaks_of k) items

-- who asks the batch, under the item's own number
abbrev pub asks_as : At → Item → At
asks_as a i = record a { seq = i.seq }

-- what the item does to a content, and the content afterwards
abbrev pub verdict : At → Item → Content → Verdict
verdict a i c = deed_of i.request (asks_as a i) c

abbrev pub after_item : At → Item → Content → Content
after_item a i c = content_after (asks_as a i) (verdict a i c) c

abbrev pub IsNoRefusal : Verdict → Type 0
IsNoRefusal (Keep b) = Unit {0}
IsNoRefusal (Put w b) = Unit {0}
IsNoRefusal (Refuse f) = ⊥

-- items in order

-- what they come to: the position and the fault of the first that is refused; or the answer at each position, and the
-- writes under their numbers
pub data Turn : Type 0 where
  TurnFails : ℕ → ActFault → Turn
  TurnGives : List (ℕ × Bit) → List Written → Turn

-- an item before the others
abbrev pub and_turn : Item → Verdict → Turn → Turn
and_turn i (Refuse f) t = TurnFails i.pos f
and_turn i (Keep b) (TurnFails p f) = TurnFails p f
and_turn i (Put w b) (TurnFails p f) = TurnFails p f
and_turn i (Keep b) (TurnGives bs ws) = TurnGives ((i.pos, b) ∷ bs) ws
and_turn i (Put w b) (TurnGives bs ws) = TurnGives ((i.pos, b) ∷ bs) (record { seq = i.seq; value = w } ∷ ws)

-- each on what those before it left
abbrev pub turn_of : At → List Item → Content → Turn
turn_of a [] c = TurnGives [] []
turn_of a (i ∷ is) c = and_turn i (verdict a i c) (turn_of a is (after_item a i c))

-- the content after them, where a refused item changes nothing
abbrev pub after_items : At → List Item → Content → Content
after_items a [] c = c
after_items a (i ∷ is) c = after_items a is (after_item a i c)

-- the batch

-- what the batch comes to at a key of a store that holds this
abbrev pub turn : Asking → List ℕ → Cells → Turn
turn q k cells = turn_of (at_of q.head 0) (items_at k q.items) (content_at k cells)

-- at the key it fails so, at this position
abbrev pub FailsAt : Asking → List ℕ → Cells → ℕ → ActFault → Type 0
FailsAt q k cells p f = turn q k cells ≡ TurnFails p f

-- examples: a transaction at the stamp 5 puts 7 at "a", reads it there, and scans from "b" on

abbrev three_items : Asking
three_items = record {
  head = record { at = record { 0 = 5 }; txn = Some (record { 0 = 1 }); left = None; epoch = 0 };
  consistent = true;
  items =
      record { pos = 0; seq = record { 0 = 1 }; request = PutAt (record { key = 97 ∷ []; value = Int (pos 7) }) }
      ∷ record { pos = 1; seq = record { 0 = 1 }; request = Get (record { key = 97 ∷ [] }) }
      ∷ record { pos = 2; seq = record { 0 = 1 }; request = Scan (record { start = 98 ∷ []; end = 100 ∷ [] }) }
      ∷ [];
}

-- the put and the get come to "a", in their order, and the get sees what the put wrote
a_write_is_seen : turn three_items (97 ∷ []) [] ≡ TurnGives ((0, Nothing) ∷ (1, Shown (Some (Int (pos 7)))) ∷ []) (record { seq = record { 0 = 1 }; value = Some (Int (pos 7)) } ∷ [])
a_write_is_seen = refl

-- the scan alone comes to "b", and nothing to its end
the_scan_alone : turn three_items (98 ∷ []) [] ≡ TurnGives ((2, Shown None) ∷ []) []
the_scan_alone = refl

nothing_at_its_end : turn three_items (100 ∷ []) [] ≡ TurnGives [] []
nothing_at_its_end = refl

-- a version above the stamp at "a" stands in the put's way, and there alone

abbrev with_newer : Cells
with_newer = (97 ∷ [], record no_content { versions = record { stamp = record { 0 = 9 }; value = None } ∷ [] }) ∷ []

fails_at_a : FailsAt three_items (97 ∷ []) with_newer 0 (TooOld (record { 0 = 9 }))
fails_at_a = refl

not_at_b : FailsAt three_items (98 ∷ []) with_newer 0 (TooOld (record { 0 = 9 })) → ⊥
not_at_b h = cc
