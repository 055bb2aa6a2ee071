-- Requests that only read.
use Rattle.std.proofs.Common.{◌≡◌, ℕ, ◌<◌, ◌≤◌, true, cond, ◌==◌, List, [], ◌∷◌, ◌++◌, Option, None, refl, sym, ap, ◌∙◌, subst, fold, arith}
use Rattle.ds_base.specs.Order.{after}
use Rattle.ds_base.specs.Ordered.{Ascends, at_key, between}
use Rattle.ds_base.proofs.KeyFacts.{own_span}
use Rattle.ds_base.proofs.OrderedFacts.{at_key-between}
use Rattle.ds_base.specs.declared.value.Value.{Value}
use Rattle.ds_kind.specs.Asks.{is_get_or_scan}
use Rattle.ds_kind.specs.Reach.{Reach, At, Over, extent_of}
use Rattle.ds_kind.specs.Request.{reach_of, cut_to}
use Rattle.ds_kind.specs.declared.request.Request.{Request}
use Rattle.ds_kind.specs.declared.request.Request.TheVariants.{Get, Scan, ReverseScan, Put, ConditionalPut, InitPut, Increment, Delete, DeleteRange, EndTxn, QueryIntent, ResolveIntent, ResolveIntentRange, AdminSplit, AdminTransferLease}
use Rattle.ds_cell.specs.declared.entry.At.{At as Who}
use Rattle.ds_cell.specs.declared.entry.Version.{Version}
use Rattle.ds_cell.specs.declared.verdict.Verdict.{Verdict}
use Rattle.ds_cell.specs.declared.verdict.Verdict.TheVariants.{Keep}
use Rattle.ds_cell.specs.declared.verdict.Bit.TheVariants.{Value as Shown}
use Rattle.ds_cell.specs.Content.{Content, AllAbove, stamp_of}
use Rattle.ds_cell.specs.Seen.{seen, own, held, newest, too_old, value_seen, version_at}
use Rattle.ds_cell.specs.Change.{made}
use Rattle.ds_cell.specs.Ask.{Cells, key_of, content_of, content_at, Gave, one_more, ask_each, places}
use Rattle.ds_cell.specs.LawProofs.{guarded-keep}
use Rattle.ds_cell.specs.Replies.{Bits, body_of}
use Rattle.ds_cell.specs.Requests.{deed_of, ask_request, SameAnswer}
use Rattle.ds_cell.specs.KeyProofs.{by_key}
use Rattle.ds_cell.proofs.LaterFacts.{version_at-made}
use Rattle.ds_rule.specs.StandsFor.{IsAt}

-- a read shows what is seen, whatever stands in the way of a write
pub reads : (r : Request) → is_get_or_scan r ≡ true → (at : Who) (c : Content) → deed_of r at c ≡ Keep (Shown (seen at at.seq.0 c))
reads (Get a) h at c = guarded-keep (too_old at c) _
reads (Scan a) h at c = guarded-keep (too_old at c) _
reads (ReverseScan a) h at c = guarded-keep (too_old at c) _
reads (Put a) h at c = cc
reads (ConditionalPut a) h at c = cc
reads (InitPut a) h at c = cc
reads (Increment a) h at c = cc
reads (Delete a) h at c = cc
reads (DeleteRange a) h at c = cc
reads (EndTxn a) h at c = cc
reads (QueryIntent a) h at c = cc
reads (ResolveIntent a) h at c = cc
reads (ResolveIntentRange a) h at c = cc
reads (AdminSplit a) h at c = cc
reads (AdminTransferLease a) h at c = cc

-- what each key shows
abbrev pub shown_by : (Content → Option Value) → Cells → Bits
shown_by g [] = []
shown_by g (p ∷ ps) = (p.0, Shown (g p.1)) ∷ shown_by g ps

pub reads-each : (d : Content → Verdict) (g : Content → Option Value) → ((c : Content) → d c ≡ Keep (Shown (g c))) → (ps : Cells) → ask_each d ps ≡ Gave (shown_by g ps) []
reads-each d g h [] = refl
reads-each d g h (p ∷ ps) = ap (λ v. one_more p.0 v (ask_each d ps)) (h p.1) ∙ ap (one_more p.0 (Keep (Shown (g p.1)))) (reads-each d g h ps)

-- the answers of a read
abbrev pub read_bits : Request → Who → Cells → Bits
read_bits r at cells = shown_by (seen at at.seq.0) (places (reach_of r) cells)

-- it never fails, and writes nothing
pub reads-give : (r : Request) → is_get_or_scan r ≡ true → (at : Who) (cells : Cells) → ask_request r at cells ≡ Gave (read_bits r at cells) []
reads-give r h at cells = reads-each (deed_of r at) (seen at at.seq.0) (reads r h at) (places (reach_of r) cells)

same-gave : (r : Request) (bs cs : Bits) → SameAnswer r (Gave bs []) (Gave cs []) → body_of r bs ≡ body_of r cs
same-gave r bs cs h = h.0

-- two contents that show the same at each key give a read the same body
pub same-read : (r : Request) → is_get_or_scan r ≡ true → (at : Who) (xs ys : Cells) → Ascends key_of xs → Ascends key_of ys → ((k : List ℕ) → seen at at.seq.0 (content_at k xs) ≡ seen at at.seq.0 (content_at k ys)) → body_of r (read_bits r at xs) ≡ body_of r (read_bits r at ys)
same-read r h at xs ys ax ay same =
    same-gave r _ _
    (subst (λ a. SameAnswer r a (Gave (read_bits r at ys) [])) (reads-give r h at xs)
    (subst (SameAnswer r (ask_request r at xs)) (reads-give r h at ys)
    (by_key r at xs ys ax ay (λ k in_span. reads r h at (content_at k xs) ∙ ap (λ v. Keep (Shown v)) (same k) ∙ sym (reads r h at (content_at k ys))))))

content-span : (k : List ℕ) (cells : Cells) → content_at k (between key_of k (after k) cells) ≡ content_at k cells
content-span k cells = ap content_of (at_key-between key_of k (after k) k cells ∙ ap (λ t. cond t (at_key key_of k cells) None) (own_span k))

-- what holds the same in the span is asked the same
pub same-places : (reach : Reach) (xs ys : Cells) → between key_of (extent_of reach).start (extent_of reach).end xs ≡ between key_of (extent_of reach).start (extent_of reach).end ys → places reach xs ≡ places reach ys
same-places (At k) xs ys h = ap (λ c. (k, c) ∷ []) (sym (content-span k xs) ∙ ap (content_at k) h ∙ content-span k ys)
same-places (Over s e) xs ys h = h

-- what is seen of the world's content and of the store's

version-fold : (s : ℕ) (vs ws : List Version) → AllAbove stamp_of s ws → version_at s (fold made vs ws) ≡ version_at s vs
version-fold s vs [] all = refl
version-fold s vs (w ∷ ws) all = version-fold s (made vs w) ws all.1 ∙ version_at-made s vs w all.0

above-less : (s n : ℕ) (vs : List Version) → s ≤ n → AllAbove stamp_of n vs → AllAbove stamp_of s vs
above-less s n [] h all = tt
above-less s n (v ∷ vs) h all = (let a : n < stamp_of v = all.0 in omega (arith, h, a), above-less s n vs h all.1)

pub seen-same : (at : Who) (n stamp : ℕ) (c d : Content) → at.stamp.0 ≤ stamp → IsAt stamp c d → seen at n c ≡ seen at n d
seen-same at n stamp c d low is =
    ap (λ v. value_seen (newest n (own at c)) v) (sym (version-fold at.stamp.0 c.versions c.waiting (above-less at.stamp.0 stamp c.waiting low is.above)) ∙ ap (version_at at.stamp.0) (sym is.versions))
    ∙ ap (λ e. value_seen (newest n (cond (e == at.epoch) (held at.txn.0 c) [])) (version_at at.stamp.0 d.versions)) (sym is.epoch)
    ∙ ap (λ o. value_seen (newest n (cond (d.epoch == at.epoch) (cond (o == at.txn.0) c.history []) [])) (version_at at.stamp.0 d.versions)) (sym is.owner)
    ∙ ap (λ h. value_seen (newest n (cond (d.epoch == at.epoch) (cond (d.owner == at.txn.0) h []) [])) (version_at at.stamp.0 d.versions)) (sym is.history)

-- with no intent, whatever the stamp
pub seen-settled : (at : Who) (n stamp : ℕ) (c d : Content) → c.history ≡ [] → IsAt stamp c d → seen at n c ≡ seen at n d
seen-settled at n stamp c d none is =
    ap (λ v. value_seen (newest n (own at c)) (version_at at.stamp.0 v)) (sym (ap (fold made c.versions) (is.waits none)) ∙ sym is.versions)
    ∙ ap (λ e. value_seen (newest n (cond (e == at.epoch) (held at.txn.0 c) [])) (version_at at.stamp.0 d.versions)) (sym is.epoch)
    ∙ ap (λ o. value_seen (newest n (cond (d.epoch == at.epoch) (cond (o == at.txn.0) c.history []) [])) (version_at at.stamp.0 d.versions)) (sym is.owner)
    ∙ ap (λ h. value_seen (newest n (cond (d.epoch == at.epoch) (cond (d.owner == at.txn.0) h []) [])) (version_at at.stamp.0 d.versions)) (sym is.history)

-- a body doesn't depend on where its request was cut
pub body-cut : (s e : List ℕ) (r : Request) (bits : Bits) → body_of (cut_to s e r) bits ≡ body_of r bits
body-cut s e (Get a) bits = refl
body-cut s e (Scan a) bits = refl
body-cut s e (ReverseScan a) bits = refl
body-cut s e (Put a) bits = refl
body-cut s e (ConditionalPut a) bits = refl
body-cut s e (InitPut a) bits = refl
body-cut s e (Increment a) bits = refl
body-cut s e (Delete a) bits = refl
body-cut s e (DeleteRange a) bits = refl
body-cut s e (EndTxn a) bits = refl
body-cut s e (QueryIntent a) bits = refl
body-cut s e (ResolveIntent a) bits = refl
body-cut s e (ResolveIntentRange a) bits = refl
body-cut s e (AdminSplit a) bits = refl
body-cut s e (AdminTransferLease a) bits = refl

pub shown-append : (g : Content → Option Value) (xs ys : Cells) → shown_by g (xs ++ ys) ≡ shown_by g xs ++ shown_by g ys
shown-append g [] ys = refl
shown-append g (x ∷ xs) ys = ap (λ bs. (x.0, Shown (g x.1)) ∷ bs) (shown-append g xs ys)
