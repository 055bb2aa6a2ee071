-- What acts as a whole item, and the numbers of a batch.
use Rattle.std.proofs.Common.{◌≡◌, ℕ, ◌+◌, ◌≤◌, ◌<◌, Bool, true, false, cond, List, [], ◌∷◌, refl, ap, ◌∙◌, arith}
use Rattle.ds_kind.specs.Asks.{takes_number}
use Rattle.ds_kind.specs.Numbers.{numbers_from, next_number}
use Rattle.ds_kind.specs.Parts.{items_from}
use Rattle.ds_kind.specs.declared.batch.Item.{Item}
use Rattle.ds_kind.specs.declared.request.Request.{Request}
use Rattle.ds_kind.specs.declared.request.Request.TheVariants.{Get, Scan, ReverseScan, Put as PutAt, ConditionalPut, InitPut, Increment, Delete, DeleteRange, EndTxn, QueryIntent, ResolveIntent, ResolveIntentRange, AdminSplit, AdminTransferLease}
use Rattle.ds_cell.specs.declared.entry.At.{At}
use Rattle.ds_cell.specs.Content.{Content}
use Rattle.ds_cell.specs.Deed.{content_after}
use Rattle.ds_cell.specs.Requests.{deed_of}
use Rattle.ds_rule.specs.Turn.{asks_as, verdict, after_item, speaks_of, items_at}
use Rattle.ds_turn.specs.Cuts.{ActsAs, CutDeed}
use Rattle.ds_turn.specs.Partway.{AllLater, BatchNumbers, NumbersInOrder}

pub cut_deed : CutDeed
cut_deed s e (Get a) = refl
cut_deed s e (Scan a) = refl
cut_deed s e (ReverseScan a) = refl
cut_deed s e (PutAt a) = refl
cut_deed s e (ConditionalPut a) = refl
cut_deed s e (InitPut a) = refl
cut_deed s e (Increment a) = refl
cut_deed s e (Delete a) = refl
cut_deed s e (DeleteRange a) = refl
cut_deed s e (EndTxn a) = refl
cut_deed s e (QueryIntent a) = refl
cut_deed s e (ResolveIntent a) = refl
cut_deed s e (ResolveIntentRange a) = refl
cut_deed s e (AdminSplit a) = refl
cut_deed s e (AdminTransferLease a) = refl

-- what acts as an item decides as it does, and leaves the same

pub part-verdict : (a : At) (j i : Item) (c : Content) → ActsAs j i → verdict a j c ≡ verdict a i c
part-verdict a j i c h = ap (λ f. f (asks_as a j) c) h.deed ∙ ap (λ n. deed_of i.request (record a { seq = n }) c) h.number

pub part-after : (a : At) (j i : Item) (c : Content) → ActsAs j i → after_item a j c ≡ after_item a i c
part-after a j i c h =
    ap (λ v. content_after (asks_as a j) v c) (part-verdict a j i c h) ∙ ap (λ n. content_after (record a { seq = n }) (verdict a i c) c) h.number

-- numbers

after-numbers : (i : Item) (n pos : ℕ) (rs : List Request) → i.seq.0 ≤ n → AllLater i (items_from pos rs (numbers_from n rs))
after-numbers i n pos [] low = tt
after-numbers i n pos (r ∷ rs) low = (now (takes_number r), after-numbers i (next_number n r) (pos + 1) rs (not-less (takes_number r)))
  where
    now : (t : Bool) → t ≡ true → i.seq.0 < cond t (n + 1) n
    now true h = omega (arith, low)
    now false h = cc

    not-less : (t : Bool) → i.seq.0 ≤ cond t (n + 1) n
    not-less true = omega (arith, low)
    not-less false = low

pub rise-from : (n pos : ℕ) (rs : List Request) → NumbersInOrder (items_from pos rs (numbers_from n rs))
rise-from n pos [] = tt
rise-from n pos (r ∷ rs) = (after-numbers (record { pos = pos; seq = record { 0 = next_number n r }; request = r }) (next_number n r) (pos + 1) rs (omega arith), rise-from (next_number n r) (pos + 1) rs)

after-held : (k : List ℕ) (i : Item) (is : List Item) → AllLater i is → AllLater i (items_at k is)
after-held k i [] all = tt
after-held k i (j ∷ js) all =
    elim (speaks_of k j) as (λ t. AllLater i (cond t (j ∷ items_at k js) (items_at k js))) [
      | true ↦ (all.0, after-held k i js all.1)
      | false ↦ after-held k i js all.1
    ]

pub rise-held : (k : List ℕ) (is : List Item) → NumbersInOrder is → NumbersInOrder (items_at k is)
rise-held k [] all = tt
rise-held k (i ∷ is) all =
    elim (speaks_of k i) as (λ t. NumbersInOrder (cond t (i ∷ items_at k is) (items_at k is))) [
      | true ↦ (after-held k i is all.0, rise-held k is all.1)
      | false ↦ rise-held k is all.1
    ]

pub batch_numbers : BatchNumbers
batch_numbers last rs k = rise-held k (items_from 0 rs (numbers_from last rs)) (rise-from last 0 rs)
