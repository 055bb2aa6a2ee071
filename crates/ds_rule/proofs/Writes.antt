-- Where the writes of a request stand.
use Rattle.std.proofs.Common.{◌≡◌, ℕ, true, false, cond, List, [], ◌∷◌, Option, refl, subst}
use Rattle.ds_base.specs.Order.{key_lt, key_le, holds, after}
use Rattle.ds_base.specs.Ordered.{between}
use Rattle.ds_base.specs.declared.value.Value.{Value}
use Rattle.ds_base.proofs.KeyFacts.{own_span}
use Rattle.ds_base.proofs.SmallFacts.{and_both, and_first, and_second}
use Rattle.ds_base.proofs.OrderedFacts.{le_trans, lt_le_trans}
use Rattle.ds_kind.specs.Reach.{Reach, At as Point, Over, extent_of}
use Rattle.ds_kind.specs.Request.{reach_of, span_of}
use Rattle.ds_kind.specs.declared.batch.Item.{Item}
use Rattle.ds_kind.specs.declared.request.Request.{Request}
use Rattle.ds_cell.specs.declared.entry.At.{At}
use Rattle.ds_cell.specs.declared.verdict.Verdict.{Verdict}
use Rattle.ds_cell.specs.declared.verdict.Verdict.TheVariants.{Keep, Put as Write, Refuse}
use Rattle.ds_cell.specs.declared.verdict.Bit.{Bit}
use Rattle.ds_cell.specs.declared.verdict.ActFault.{ActFault}
use Rattle.ds_cell.specs.Content.{Content}
use Rattle.ds_cell.specs.Ask.{AllIn, Cells, key_of, content_at, Asked, Failed, Gave, one_more, ask_each, ask_at}
use Rattle.ds_cell.specs.Requests.{deed_of, ask_request}
use Rattle.ds_rule.specs.World.{Range, start_of, end_of, holds_key}
use Rattle.ds_rule.specs.Deliver.{holds_item}

-- a request's writes, by key
abbrev pub Puts : Type 0
Puts = List (List ℕ × Option Value)

gave_puts : (bs cs : List (List ℕ × Bit)) (ws vs : Puts) → Gave bs ws ≡ Gave cs vs → ws ≡ vs
gave_puts bs cs ws vs h = cc

failed_gave : {G : Type 0} (k : List ℕ) (f : ActFault) (cs : List (List ℕ × Bit)) (vs : Puts) → Failed k f ≡ Gave cs vs → G
failed_gave k f cs vs h = cc

-- a statement on the writes of what one key more gives
pub more_puts : (P : Puts → Type 0) (k : List ℕ) (v : Verdict) (r : Asked) (cs : List (List ℕ × Bit)) (vs : Puts) → ((bs : List (List ℕ × Bit)) (ws : Puts) → r ≡ Gave bs ws → P ws) → ((bs : List (List ℕ × Bit)) (ws : Puts) (w : Option Value) (b : Bit) → v ≡ Write w b → r ≡ Gave bs ws → P ((k, w) ∷ ws)) → one_more k v r ≡ Gave cs vs → P vs
more_puts P k (Refuse f) r cs vs kept put h = failed_gave k f cs vs h
more_puts P k (Keep b) (Failed q f) cs vs kept put h = failed_gave q f cs vs h
more_puts P k (Write w b) (Failed q f) cs vs kept put h = failed_gave q f cs vs h
more_puts P k (Keep b) (Gave bs ws) cs vs kept put h = subst P (gave_puts _ cs ws vs h) (kept bs ws refl)
more_puts P k (Write w b) (Gave bs ws) cs vs kept put h = subst P (gave_puts _ cs ((k, w) ∷ ws) vs h) (put bs ws w b refl refl)

-- and on those of no key
pub no_puts : (P : Puts → Type 0) (cs : List (List ℕ × Bit)) (vs : Puts) → P [] → Gave [] [] ≡ Gave cs vs → P vs
no_puts P cs vs p h = subst P (gave_puts [] cs [] vs h) p

pub in_between : (s e : List ℕ) (cells : Cells) → AllIn key_of s e (between key_of s e cells)
in_between s e [] = tt
in_between s e (p ∷ ps) =
    elim (holds s e p.0) as (λ t. holds s e p.0 ≡ t → AllIn key_of s e (cond t (p ∷ between key_of s e ps) (between key_of s e ps))) [
      | true ↦ λ h. (h, in_between s e ps)
      | false ↦ λ h. in_between s e ps
    ] refl

puts_in : (d : Content → Verdict) (s e : List ℕ) (ps : Cells) (cs : List (List ℕ × Bit)) (vs : Puts) → AllIn key_of s e ps → ask_each d ps ≡ Gave cs vs → AllIn key_of s e vs
puts_in d s e [] cs vs all h = no_puts (AllIn key_of s e) cs vs tt h
puts_in d s e (p ∷ ps) cs vs all h =
    more_puts (AllIn key_of s e) p.0 (d p.1) (ask_each d ps) cs vs
    (λ bs ws g. puts_in d s e ps bs ws all.1 g)
    (λ bs ws w b is g. (all.0, puts_in d s e ps bs ws all.1 g)) h

puts_in_reach : (d : Content → Verdict) (x : Reach) (cells : Cells) (cs : List (List ℕ × Bit)) (vs : Puts) → ask_at d x cells ≡ Gave cs vs → AllIn key_of (extent_of x).start (extent_of x).end vs
puts_in_reach d (Point k) cells cs vs h = puts_in d k (after k) ((k, content_at k cells) ∷ []) cs vs (own_span k, tt) h
puts_in_reach d (Over s e) cells cs vs h = puts_in d s e (between key_of s e cells) cs vs (in_between s e cells) h

-- a request writes in its span alone
pub puts_in_span : (r : Request) (at : At) (cells : Cells) (cs : List (List ℕ × Bit)) (vs : Puts) → ask_request r at cells ≡ Gave cs vs → AllIn key_of (span_of r).start (span_of r).end vs
puts_in_span r at cells cs vs h = puts_in_reach (deed_of r at) (reach_of r) cells cs vs h

-- the range holds the keys of an item's span that it holds
pub held_key : (r : Range) (i : Item) (k : List ℕ) → holds_item r i ≡ true → holds (span_of i.request).start (span_of i.request).end k ≡ true → holds_key k r ≡ true
held_key r i k h g =
    and_both (key_le (start_of r) k) (key_lt k (end_of r))
    (le_trans (start_of r) (span_of i.request).start k (and_first _ _ h) (and_first _ _ g))
    (lt_le_trans k (span_of i.request).end (end_of r) (and_second (key_le (span_of i.request).start k) _ g) (and_second (key_le (start_of r) (span_of i.request).start) _ h))
