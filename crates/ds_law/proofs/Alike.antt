-- A batch asked of two contents that are the same where it acts.
use Rattle.std.proofs.Common.{◌≡◌, ℕ, true, false, cond, ◌&&◌, List, [], ◌∷◌, ◌++◌, Option, None, refl, sym, ap, ◌∙◌, subst}
use Rattle.std.specs.List.{list_all}
use Rattle.ds_base.specs.Order.{key_lt, key_le, holds}
use Rattle.ds_base.specs.Ordered.{key_eq, Ascends}
use Rattle.ds_base.specs.declared.value.Stamp.{Stamp}
use Rattle.ds_base.specs.declared.value.Value.{Value}
use Rattle.ds_base.proofs.SmallFacts.{and_first, and_second}
use Rattle.ds_base.proofs.OrderedFacts.{eq_same, le_trans, lt_le_trans}
use Rattle.ds_kind.specs.Request.{span_of}
use Rattle.ds_kind.specs.declared.batch.Head.{Head}
use Rattle.ds_kind.specs.declared.batch.Item.{Item}
use Rattle.ds_kind.specs.declared.reply.Reply.{Reply}
use Rattle.ds_cell.specs.declared.entry.At.{At as Who}
use Rattle.ds_cell.specs.Content.{Content}
use Rattle.ds_cell.specs.Ask.{Cells, key_of, content_at, Asked, Failed, Gave}
use Rattle.ds_cell.specs.Change.{wrote, settled}
use Rattle.ds_cell.specs.Requests.{deed_of, SameAnswer}
use Rattle.ds_cell.specs.Store.{WriteAt, put_cell, write_all, under_number, settle_all}
use Rattle.ds_cell.specs.KeyProofs.{by_key}
use Rattle.ds_rule.specs.Asking.{Made, Gives, Fails, failure_of, and_before, and_then, made_by, ask_item, ask_all, at_of}
use Rattle.ds_rule.specs.Deliver.{holds_item}
use Rattle.ds_rule.specs.World.{Range, start_of, end_of}
use Rattle.ds_rule.proofs.Puts.{put-at}
use Rattle.ds_cell.specs.StoreProofs.{ascends-insert}

-- both rise, and at each key of the span they hold the same
pub record Both (s e : List ℕ) (xs ys : Cells) : Type 0 where
  pub rising : Ascends key_of xs
  pub rising_too : Ascends key_of ys
  pub same : (k : List ℕ) → holds s e k ≡ true → content_at k xs ≡ content_at k ys

-- both failed so, or made the same writes and answers and left the same
abbrev pub Alike : List ℕ → List ℕ → Made → Made → Type 0
Alike s e (Fails f) (Fails g) = f ≡ g
Alike s e (Fails f) (Gives ys vs qs) = ⊥
Alike s e (Gives xs ws rs) (Fails g) = ⊥
Alike s e (Gives xs ws rs) (Gives ys vs qs) = (ws ≡ vs) × (rs ≡ qs) × Both s e xs ys

put-both : (s e k : List ℕ) (f : Content → Content) (xs ys : Cells) → Both s e xs ys → Both s e (put_cell k f xs) (put_cell k f ys)
put-both s e k f xs ys both = record {
  rising = ascends-insert k _ xs both.rising;
  rising_too = ascends-insert k _ ys both.rising_too;
  same = λ q here. put-at k q f xs both.rising ∙ at_key q here ∙ sym (put-at k q f ys both.rising_too);
}
  where
    at_key : (q : List ℕ) → holds s e q ≡ true → cond (key_eq k q) (f (content_at k xs)) (content_at q xs) ≡ cond (key_eq k q) (f (content_at k ys)) (content_at q ys)
    at_key q here =
        elim (key_eq k q) as (λ t. key_eq k q ≡ t → cond t (f (content_at k xs)) (content_at q xs) ≡ cond t (f (content_at k ys)) (content_at q ys)) [
          | true ↦ λ h. ap f (subst (λ z. content_at z xs ≡ content_at z ys) (sym (eq_same k q h)) (both.same q here))
          | false ↦ λ h. both.same q here
        ] refl

write-both : (s e : List ℕ) (at : Who) (ws : List (List ℕ × Option Value)) (xs ys : Cells) → Both s e xs ys → Both s e (write_all at ws xs) (write_all at ws ys)
write-both s e at [] xs ys both = both
write-both s e at (w ∷ ws) xs ys both = write-both s e at ws _ _ (put-both s e w.0 (wrote at w.1) xs ys both)

pub settle-both : (s e : List ℕ) (txn : ℕ) (commit : Option Stamp) (ws : List WriteAt) (xs ys : Cells) → Both s e xs ys → Both s e (settle_all txn commit ws xs) (settle_all txn commit ws ys)
settle-both s e txn commit [] xs ys both = both
settle-both s e txn commit (w ∷ ws) xs ys both = settle-both s e txn commit ws _ _ (put-both s e w.key (settled txn commit) xs ys both)

made-alike : (s e : List ℕ) (h : Head) (i : Item) (a b : Asked) (xs ys : Cells) → SameAnswer i.request a b → Both s e xs ys → Alike s e (made_by h i a xs) (made_by h i b ys)
made-alike s e h i (Failed k f) (Failed q g) xs ys same both = ap (λ k. failure_of i.pos k f) same.0 ∙ ap (failure_of i.pos q) same.1
made-alike s e h i (Failed k f) (Gave cs vs) xs ys same both = absurd same
made-alike s e h i (Gave bs ws) (Failed q g) xs ys same both = absurd same
made-alike s e h i (Gave bs ws) (Gave cs vs) xs ys same both = (
  ap (under_number (at_of h i.seq.0)) same.1,
  ap (λ b. record { body = b; resume = None } ∷ []) same.0,
  subst (λ us. Both s e (write_all (at_of h i.seq.0) ws xs) (write_all (at_of h i.seq.0) us ys)) same.1 (write-both s e (at_of h i.seq.0) ws xs ys both),
)

-- a key of the item's span is one of the range's
pub in-range : (r : Range) (i : Item) (k : List ℕ) → holds_item r i ≡ true → holds (span_of i.request).start (span_of i.request).end k ≡ true → holds (start_of r) (end_of r) k ≡ true
in-range r i k fits here =
    both (le_trans (start_of r) (span_of i.request).start k (and_first _ _ fits) (and_first _ _ here))
    (lt_le_trans k (span_of i.request).end (end_of r) (and_second (key_le (span_of i.request).start k) _ here) (and_second (key_le (start_of r) (span_of i.request).start) _ fits))
  where
    both : key_le (start_of r) k ≡ true → key_lt k (end_of r) ≡ true → (key_le (start_of r) k && key_lt k (end_of r)) ≡ true
    both low high = ap (λ t. t && key_lt k (end_of r)) low ∙ high

item-alike : (r : Range) (h : Head) (i : Item) (xs ys : Cells) → holds_item r i ≡ true → Both (start_of r) (end_of r) xs ys → Alike (start_of r) (end_of r) (ask_item h i xs) (ask_item h i ys)
item-alike r h i xs ys fits both =
    made-alike (start_of r) (end_of r) h i _ _ xs ys
    (by_key i.request (at_of h i.seq.0) xs ys both.rising both.rising_too (λ k here. ap (deed_of i.request (at_of h i.seq.0)) (both.same k (in-range r i k fits here))))
    both

before-alike : (s e : List ℕ) (ws vs : List WriteAt) (rs qs : List Reply) (m n : Made) → ws ≡ vs → rs ≡ qs → Alike s e m n → Alike s e (and_before ws rs m) (and_before vs qs n)
before-alike s e ws vs rs qs (Fails f) (Fails g) w r h = h
before-alike s e ws vs rs qs (Fails f) (Gives ys us ps) w r h = absurd h
before-alike s e ws vs rs qs (Gives xs us ps) (Fails g) w r h = absurd h
before-alike s e ws vs rs qs (Gives xs us ps) (Gives ys ts os) w r h =
    (ap (λ z. z ++ us) w ∙ ap (λ z. vs ++ z) h.0, ap (λ z. z ++ ps) r ∙ ap (λ z. qs ++ z) h.1, h.2)

then-alike : (s e : List ℕ) (m n : Made) (next : Cells → Made) → Alike s e m n → ((xs ys : Cells) → Both s e xs ys → Alike s e (next xs) (next ys)) → Alike s e (and_then m next) (and_then n next)
then-alike s e (Fails f) (Fails g) next h more = h
then-alike s e (Fails f) (Gives ys vs qs) next h more = absurd h
then-alike s e (Gives xs ws rs) (Fails g) next h more = absurd h
then-alike s e (Gives xs ws rs) (Gives ys vs qs) next h more = before-alike s e ws vs rs qs (next xs) (next ys) h.0 h.1 (more xs ys h.2)

-- a range that holds the items' spans answers as all contents do that are the same in its span
pub all-alike : (r : Range) (h : Head) (items : List Item) (xs ys : Cells) → list_all (holds_item r) items ≡ true → Both (start_of r) (end_of r) xs ys → Alike (start_of r) (end_of r) (ask_all h items xs) (ask_all h items ys)
all-alike r h [] xs ys fits both = (refl, refl, both)
all-alike r h (i ∷ is) xs ys fits both =
    then-alike (start_of r) (end_of r) (ask_item h i xs) (ask_item h i ys) (ask_all h is)
    (item-alike r h i xs ys (and_first (holds_item r i) _ fits) both)
    (λ us vs b. all-alike r h is us vs (and_second (holds_item r i) _ fits) b)
