-- What happens beside a sender, done to the store.
use Rattle.std.proofs.Common.{◌≡◌, ℕ, ◌<◌, ◌≤◌, true, false, cond, List, [], ◌∷◌, ◌++◌, Option, Some, None, inl, inr, refl, sym, ap, ◌∙◌, fold, arith}
use Rattle.std.specs.Option.{option_map}
use Rattle.ds_base.specs.Ordered.{Ascends, key_eq}
use Rattle.ds_base.proofs.OrderedFacts.{eq_same}
use Rattle.ds_cell.specs.declared.entry.Version.{Version}
use Rattle.ds_cell.specs.declared.entry.Written.{Written}
use Rattle.ds_cell.specs.Ask.{Cells, key_of, content_at}
use Rattle.ds_cell.specs.Change.{after_foreign, foreign_by, made}
use Rattle.ds_cell.specs.Content.{Content, AllAbove, stamp_of}
use Rattle.ds_cell.specs.Seen.{last_of}
use Rattle.ds_cell.specs.Store.{Store, StoreTxn, put_cell, with_version}
use Rattle.ds_cell.specs.StoreProofs.{ascends-insert}
use Rattle.ds_rule.specs.declared.event.Event.{Event}
use Rattle.ds_rule.specs.Journal.{Happening, Moved, Did}
use Rattle.ds_rule.specs.Moves.{IsMove}
use Rattle.ds_rule.specs.Plain.{abort_txn, after_event}
use Rattle.ds_rule.specs.StandsFor.{IsIntentOf, after_made, open_stamp}
use Rattle.ds_rule.proofs.Puts.{put-at}
use Rattle.ds_turn.specs.Course.{with_versions}
use Rattle.ds_turn.specs.KeyIs.{KeyIs}
use Rattle.ds_turn.specs.Settling.{after_foreigns}
use Rattle.ds_mean.specs.Shows.{txn_after, txn_by, writes_at, writes_by}

-- versions made one after another

pub versions-then : (us vs : List Version) (d : Content) → with_versions (us ++ vs) d ≡ with_versions vs (with_versions us d)
versions-then us vs d = ap (λ (zs : List Version). record d { versions = zs }) (by d.versions us)
  where
    by : (ws us : List Version) → fold made ws (us ++ vs) ≡ fold made (fold made ws us) vs
    by ws [] = refl
    by ws (u ∷ us) = by (made ws u) us

-- the contents

put-versions : (k q : List ℕ) (v : Version) (cells : Cells) → Ascends key_of cells → content_at q (put_cell k (with_version v) cells) ≡ with_versions (cond (key_eq k q) (v ∷ []) []) (content_at q cells)
put-versions k q v cells asc =
    put-at k q (with_version v) cells asc
    ∙ elim (key_eq k q) as (λ t. key_eq k q ≡ t → cond t (with_version v (content_at k cells)) (content_at q cells) ≡ with_versions (cond t (v ∷ []) []) (content_at q cells)) [
      | true ↦ λ same. ap (λ z. with_version v (content_at z cells)) (eq_same k q same)
      | false ↦ λ other. refl
    ] refl

abbrev Wrote : Event → Store → Type 0
Wrote e p = Ascends key_of (after_event e p).cells × ((k : List ℕ) → content_at k (after_event e p).cells ≡ with_versions (writes_by k e) (content_at k p.cells))

event-wrote : (e : Event) (p : Store) → Ascends key_of p.cells → Wrote e p
event-wrote (Event.Write k s v) p asc =
    let u : Version = record { stamp = s; value = v } in
    (ascends-insert k _ p.cells asc, λ q. put-versions k q u p.cells asc)
event-wrote Event.Abort p asc = (asc, λ k. refl)
event-wrote (Event.Split k) p asc = (asc, λ k. refl)
event-wrote (Event.Merge k) p asc = (asc, λ k. refl)
event-wrote (Event.Lease k n) p asc = (asc, λ k. refl)
event-wrote (Event.Move k ns) p asc = (asc, λ k. refl)
event-wrote (Event.Stale k b) p asc = (asc, λ k. refl)
event-wrote (Event.Arrive c) p asc = (asc, λ k. refl)
event-wrote (Event.LoseRequest c) p asc = (asc, λ k. refl)
event-wrote (Event.LoseReply c) p asc = (asc, λ k. refl)
event-wrote (Event.Copy c) p asc = (asc, λ k. refl)
event-wrote (Event.Restart t) p asc = (asc, λ k. refl)

pub made-cells : (hs : List Happening) (p : Store) → Ascends key_of p.cells
    → Ascends key_of (after_made hs p).cells × ((k : List ℕ) → content_at k (after_made hs p).cells ≡ with_versions (writes_at k hs) (content_at k p.cells))
made-cells [] p asc = (asc, λ k. refl)
made-cells (Moved e ∷ hs) p asc =
    let one = event-wrote e p asc in
    let rest = made-cells hs (after_event e p) one.0 in
    (rest.0, λ k. rest.1 k ∙ ap (with_versions (writes_at k hs)) (one.1 k) ∙ sym (versions-then (writes_by k e) (writes_at k hs) (content_at k p.cells)))
made-cells (Did s ∷ hs) p asc = made-cells hs p asc

-- the transaction, and how many have begun

pub event-txn : (e : Event) (p : Store) → ((after_event e p).txn ≡ txn_by e p.txn) × ((after_event e p).begun ≡ p.begun)
event-txn (Event.Write k s v) p = (refl, refl)
event-txn Event.Abort p = (refl, refl)
event-txn (Event.Split k) p = (refl, refl)
event-txn (Event.Merge k) p = (refl, refl)
event-txn (Event.Lease k n) p = (refl, refl)
event-txn (Event.Move k ns) p = (refl, refl)
event-txn (Event.Stale k b) p = (refl, refl)
event-txn (Event.Arrive c) p = (refl, refl)
event-txn (Event.LoseRequest c) p = (refl, refl)
event-txn (Event.LoseReply c) p = (refl, refl)
event-txn (Event.Copy c) p = (refl, refl)
event-txn (Event.Restart t) p = (refl, refl)

pub made-txn : (hs : List Happening) (p : Store) → ((after_made hs p).txn ≡ txn_after hs p.txn) × ((after_made hs p).begun ≡ p.begun)
made-txn [] p = (refl, refl)
made-txn (Moved e ∷ hs) p =
    let one = event-txn e p in
    let rest = made-txn hs (after_event e p) in
    (rest.0 ∙ ap (txn_after hs) one.0, rest.1 ∙ one.1)
made-txn (Did s ∷ hs) p = made-txn hs p

-- its stamp stays

abort-stamp : (o : Option StoreTxn) → open_stamp (option_map abort_txn o) ≡ open_stamp o
abort-stamp None = refl
abort-stamp (Some t) = refl

pub event-stamp : (e : Event) (o : Option StoreTxn) → open_stamp (txn_by e o) ≡ open_stamp o
event-stamp (Event.Write k s v) o = refl
event-stamp Event.Abort o = abort-stamp o
event-stamp (Event.Split k) o = refl
event-stamp (Event.Merge k) o = refl
event-stamp (Event.Lease k n) o = refl
event-stamp (Event.Move k ns) o = refl
event-stamp (Event.Stale k b) o = refl
event-stamp (Event.Arrive c) o = refl
event-stamp (Event.LoseRequest c) o = refl
event-stamp (Event.LoseReply c) o = refl
event-stamp (Event.Copy c) o = refl
event-stamp (Event.Restart t) o = refl

pub after-stamp : (hs : List Happening) (o : Option StoreTxn) → open_stamp (txn_after hs o) ≡ open_stamp o
after-stamp [] o = refl
after-stamp (Moved e ∷ hs) o = after-stamp hs (txn_by e o) ∙ event-stamp e o
after-stamp (Did s ∷ hs) o = after-stamp hs o

-- intents stay the open transaction's

foreign-intent : (o : Option StoreTxn) (w : Option Written) (v : Version) (c : Content) → IsIntentOf o c → IsIntentOf o (foreign_by w v c)
foreign-intent None None v c h = h
foreign-intent None (Some w) v c h = h
foreign-intent (Some t) None v c h = h
foreign-intent (Some t) (Some w) v c h = h

pub foreigns-intent : (o : Option StoreTxn) (vs : List Version) (c : Content) → IsIntentOf o c → IsIntentOf o (after_foreigns vs c)
foreigns-intent o [] c h = h
foreigns-intent o (v ∷ vs) c h = foreigns-intent o vs (after_foreign v c) (foreign-intent o (last_of c.history) v c h)

abort-intent : (o : Option StoreTxn) (c : Content) → IsIntentOf o c → IsIntentOf (option_map abort_txn o) c
abort-intent None c h = h
abort-intent (Some t) c h = h

pub event-intent : (e : Event) (o : Option StoreTxn) (c : Content) → IsIntentOf o c → IsIntentOf (txn_by e o) c
event-intent (Event.Write k s v) o c h = h
event-intent Event.Abort o c h = abort-intent o c h
event-intent (Event.Split k) o c h = h
event-intent (Event.Merge k) o c h = h
event-intent (Event.Lease k n) o c h = h
event-intent (Event.Move k ns) o c h = h
event-intent (Event.Stale k b) o c h = h
event-intent (Event.Arrive n) o c h = h
event-intent (Event.LoseRequest n) o c h = h
event-intent (Event.LoseReply n) o c h = h
event-intent (Event.Copy n) o c h = h
event-intent (Event.Restart t) o c h = h

pub after-intent : (hs : List Happening) (o : Option StoreTxn) (c : Content) → IsIntentOf o c → IsIntentOf (txn_after hs o) c
after-intent [] o c h = h
after-intent (Moved e ∷ hs) o c h = after-intent hs (txn_by e o) c (event-intent e o c h)
after-intent (Did s ∷ hs) o c h = after-intent hs o c h

-- versions that are made leave it

pub versions-intent : (o : Option StoreTxn) (vs : List Version) (d : Content) → IsIntentOf o d → IsIntentOf o (with_versions vs d)
versions-intent None vs d h = h
versions-intent (Some t) vs d h = h

pub intent-versions : (o : Option StoreTxn) (vs : List Version) (d : Content) → IsIntentOf o (with_versions vs d) → IsIntentOf o d
intent-versions None vs d h = h
intent-versions (Some t) vs d h = h

-- the store's is the world's
pub store-intent : (s : ℕ) (o : Option StoreTxn) (c d : Content) → KeyIs s c d → IsIntentOf o c → IsIntentOf o d
store-intent s None c d k h = k.history ∙ h
store-intent s (Some t) c d k (inl none) = inl (k.history ∙ none)
store-intent s (Some t) c d k (inr own) = elim k.whose [
  | inl none ↦ inl (k.history ∙ none)
  | inr same ↦ inr (same.0 ∙ own.0, same.1 ∙ own.1)
]

-- what other clients write is above the floor

one-above : (s : ℕ) (k q : List ℕ) (v : Version) → s < stamp_of v → AllAbove stamp_of s (cond (key_eq k q) (v ∷ []) [])
one-above s k q v high = elim (key_eq k q) as (λ t. AllAbove stamp_of s (cond t (v ∷ []) [])) [ true ↦ (high, tt) | false ↦ tt ]

pub event-above : (s floor : ℕ) (e : Event) (k : List ℕ) → IsMove floor e → s ≤ floor → AllAbove stamp_of s (writes_by k e)
event-above s floor (Event.Write q t v) k above low = one-above s q k (record { stamp = t; value = v }) (let high : floor < t.0 = above.0 in omega (arith, low, high))
event-above s floor Event.Abort k above low = tt
event-above s floor (Event.Split q) k above low = tt
event-above s floor (Event.Merge q) k above low = tt
event-above s floor (Event.Lease q n) k above low = tt
event-above s floor (Event.Move q ns) k above low = tt
event-above s floor (Event.Stale q b) k above low = tt
event-above s floor (Event.Arrive c) k above low = tt
event-above s floor (Event.LoseRequest c) k above low = tt
event-above s floor (Event.LoseReply c) k above low = tt
event-above s floor (Event.Copy c) k above low = tt
event-above s floor (Event.Restart t) k above low = tt
