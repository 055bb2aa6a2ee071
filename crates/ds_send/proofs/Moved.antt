-- A batch that is sent part after part did what the law speaks of.
use Rattle.std.proofs.Common.{◌≡◌, ℕ, ◌<◌, ◌&&◌, ◌||◌, Bool, true, false, List, [], ◌∷◌, map, Option, Some, None, is_some, is_none, refl, sym, ap, ◌∙◌, subst, arith}
use Rattle.std.specs.List.{list_all, list_any}
use Rattle.std.proofs.lemmas.List.Folds.{list_all-append}
use Rattle.ds_base.specs.Order.{Extent, key_le}
use Rattle.ds_base.proofs.SmallFacts.{and_both, and_first, and_second}
use Rattle.ds_base.specs.declared.value.TxnNo.{TxnNo}
use Rattle.ds_kind.specs.Asks.{flags_at}
use Rattle.ds_kind.specs.Parts.{all_fit, all_items, requests_of}
use Rattle.ds_kind.specs.Request.{span_of}
use Rattle.ds_kind.specs.WholeSpan.{whole_span}
use Rattle.ds_kind.specs.declared.batch.Head.{Head}
use Rattle.ds_kind.specs.declared.batch.Item.{Item}
use Rattle.ds_kind.specs.declared.batch.Part.{Part}
use Rattle.ds_kind.specs.declared.request.Request.{Request}
use Rattle.ds_retry.specs.Counted.{Counts, first_counts}
use Rattle.ds_retry.specs.declared.outcome.PartOutcome.{PartOutcome}
use Rattle.ds_rule.proofs.Routes.{le_itself}
use Rattle.ds_rule.specs.Asking.{Asking}
use Rattle.ds_rule.specs.Path.{holds_span}
use Rattle.ds_rule.specs.Pieces.{Each}
use Rattle.ds_rule.specs.Whole.{any_transactional, must_be_whole, span_if}
use Rattle.ds_rule.specs.declared.answer.Outcome.{Outcome}
use Rattle.ds_flight.specs.Causes.{GoesOn}
use Rattle.ds_flight.specs.Goes.{HoldsAll}
use Rattle.ds_flight.specs.Ran.{Course}
use Rattle.ds_flight.proofs.Caching.{entries-first}
use Rattle.ds_mean.specs.Send.{DidSend, WritesAlone}
use Rattle.ds_send.specs.Batched.{ArePartsOf, IsFlyable, PartsFlown}
use Rattle.ds_send.specs.Moving.{IsMovable, IsSound}
use Rattle.ds_send.specs.Settled.{settled_as}
use Rattle.ds_send.proofs.DidSends.{GoesWhole, did-send}
use Rattle.ds_send.proofs.WholeSpan.{whole-held}

-- ---- what must lie in one range holds each item

holds-itself : (e : Extent) → holds_span e e ≡ true
holds-itself e = and_both (key_le e.start e.start) (key_le e.end e.end) (le_itself e.start) (le_itself e.end)

held-in : (w : Extent) (parts : List Part) → HoldsAll w (all_items parts) → Each (λ p. HoldsAll w p.items) parts
held-in w [] h = tt
held-in w (p ∷ ps) h =
    let both : (list_all (λ i. holds_span w (span_of i.request)) p.items && list_all (λ i. holds_span w (span_of i.request)) (all_items ps)) ≡ true =
    sym (list_all-append (λ (i : Item). holds_span w (span_of i.request)) p.items (all_items ps)) ∙ h in (
      and_first (list_all (λ i. holds_span w (span_of i.request)) p.items) (list_all (λ i. holds_span w (span_of i.request)) (all_items ps)) both,
      held-in w ps (and_second (list_all (λ i. holds_span w (span_of i.request)) p.items) (list_all (λ i. holds_span w (span_of i.request)) (all_items ps)) both),
    )

each-flyable : (w : Extent) (parts : List Part) → Each IsSound parts → Each (λ p. HoldsAll w p.items) parts → Each (IsFlyable (Some w)) parts
each-flyable w [] sound held = tt
each-flyable w (p ∷ ps) sound held = (record { some = sound.0.some; proper = sound.0.proper; rise = sound.0.rise; holds = held.0 }, each-flyable w ps sound.1 held.1)

each-free : (parts : List Part) → Each IsSound parts → Each (IsFlyable None) parts
each-free [] sound = tt
each-free (p ∷ ps) sound = (record { some = sound.0.some; proper = sound.0.proper; rise = sound.0.rise; holds = tt }, each-free ps sound.1)

all-flyable : (q : Asking) (parts : List Part) (whole : Bool) → IsMovable q parts whole → Each (IsFlyable (span_if whole q.items)) parts
all-flyable q parts true m =
    each-flyable (whole_span q.items) parts m.sound
    (held-in (whole_span q.items) parts
    (subst (HoldsAll (whole_span q.items)) (sym m.joined) (whole-held (whole_span q.items) q.items (holds-itself (whole_span q.items)))))
all-flyable q parts false m = each-free parts m.sound

pub flyable-by : (q : Asking) (parts : List Part) (whole : Bool) (w : Option Extent) → IsMovable q parts whole → w ≡ span_if whole q.items → Each (IsFlyable w) parts
flyable-by q parts whole w m is = subst (λ z. Each (IsFlyable z) parts) (sym is) (all-flyable q parts whole m)

-- ---- what it did

each-fits : (parts : List Part) → Each IsSound parts → Each (λ p. all_fit (requests_of p.items) ≡ true) parts
each-fits [] sound = tt
each-fits (p ∷ ps) sound = (sound.0.fit, each-fits ps sound.1)

pub are-parts : (q : Asking) (parts : List Part) (whole : Bool) → IsMovable q parts whole → ArePartsOf q q.head parts
are-parts q parts whole m = record {
  head_is = refl;
  unlimited = m.unlimited;
  parts_are = m.parts_are;
  joined = m.joined;
  rise = m.rise;
  fit = each-fits parts m.sound;
  endless = m.endless;
}

goes-whole : (q : Asking) (parts : List Part) (whole : Bool) (w : Option Extent) → IsMovable q parts whole → w ≡ span_if whole q.items → WritesAlone q → GoesWhole q w
goes-whole q parts whole w m is writes =
    let one = m.alone writes in
    record {
      span = whole_span q.items;
      is = is ∙ ap (λ b. span_if b q.items) one.is_whole;
      part = one.part;
      one = sym m.parts_are ∙ one.one;
    }

pub moved-so :
    (budget : ℕ) (q : Asking) (parts : List Part) (whole : Bool) (w : Option Extent) (a b : Course) (x : PartOutcome) (o : Outcome)
    → IsMovable q parts whole → w ≡ span_if whole q.items → a.counts ≡ first_counts budget → o ≡ settled_as b.counts x
    → PartsFlown q.head w parts a b x → DidSend budget q a.wire b.wire o
moved-so budget q parts whole w a b x o m is first settles flown =
    let known = map (λ e. e.1.desc) a.entries in
    let ended = flown q known (are-parts q parts whole m) (entries-first a.entries) in
    subst (DidSend budget q a.wire b.wire) (sym settles)
    (did-send budget q w known a b ended.0 x first (ap all_items (sym m.parts_are) ∙ m.joined) (goes-whole q parts whole w m is) ended.1)

-- what must see one state, told by items

any-asked : (g : Request → Bool) (items : List Item) → list_any g (requests_of items) ≡ list_any (λ (i : Item). g i.request) items
any-asked g [] = refl
any-asked g (i ∷ is) = ap (λ t. g i.request || t) (any-asked g is)

pub whole-by : (q : Asking) (r : Bool) → q.consistent ≡ true → is_some q.head.txn ≡ false → r ≡ list_any (λ (i : Item). (flags_at i.request).txn) q.items → r ≡ must_be_whole q
whole-by q r consistent alone is =
    is ∙ sym (any-asked (λ r. (flags_at r).txn) q.items)
    ∙ ap (λ t. t && any_transactional (requests_of q.items)) (sym (and_both q.consistent (is_none q.head.txn) consistent (none-there q.head.txn alone)))
  where
    none-there : (o : Option TxnNo) → is_some o ≡ false → is_none o ≡ true
    none-there None h = refl
    none-there (Some n) h = cc

pub begins-on : (budget : ℕ) (c : Counts) → c ≡ first_counts budget → 0 < budget → GoesOn c
begins-on budget c is some = subst GoesOn (sym is) (omega (arith, some))

-- as the call has it

pub answered-so :
    (budget : ℕ) (q : Asking) (parts : List Part) (whole : Bool) (w : Option Extent) (h : Head) (a b : Course) (x : PartOutcome) (risky : ℕ) (o : Outcome)
    → IsMovable q parts whole → w ≡ span_if whole q.items → h ≡ q.head → a.counts ≡ first_counts budget → risky ≡ b.counts.at_risk
    → ((c : Counts) → c.at_risk ≡ risky → o ≡ settled_as c x) → PartsFlown h w parts a b x → DidSend budget q a.wire b.wire o
answered-so budget q parts whole w h a b x risky o m is head first at settles flown =
    moved-so budget q parts whole w a b x o m is first (settles b.counts (sym at)) (subst (λ z. PartsFlown z w parts a b x) head flown)
