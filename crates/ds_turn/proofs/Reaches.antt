-- Where a request acts, and what it owes there: one key, or a span of keys.
use Rattle.std.proofs.Common.{◌≡◌, ℕ, true, false, ◌&&◌, cond, ◌⊎◌, inl, inr, List, [], ◌∷◌, reverse, Option, refl, sym, ap, ◌∙◌, subst}
use Rattle.ds_base.specs.Order.{key_lt, key_le, holds}
use Rattle.ds_base.specs.Ordered.{Ascends, between}
use Rattle.ds_base.specs.declared.value.Value.{Value}
use Rattle.ds_base.proofs.KeyFacts.{own_span}
use Rattle.ds_base.proofs.OrderedFacts.{not_lt_of_le}
use Rattle.ds_kind.specs.Bodies.{goes_down, join_bodies}
use Rattle.ds_kind.specs.Flags.{flags_of}
use Rattle.ds_kind.specs.Reach.{At, Over, extent_of}
use Rattle.ds_kind.specs.Request.{cut_to, kind_of, reach_of}
use Rattle.ds_kind.specs.declared.reply.Body.{Body}
use Rattle.ds_kind.specs.declared.reply.Body.TheVariants.{Rows, Gone as Keys}
use Rattle.ds_kind.specs.declared.request.Request.{Request}
use Rattle.ds_kind.specs.declared.request.Request.TheVariants.{Get, Scan, ReverseScan, Put as PutAt, ConditionalPut, InitPut, Increment, Delete, DeleteRange, EndTxn, QueryIntent, ResolveIntent, ResolveIntentRange, AdminSplit, AdminTransferLease}
use Rattle.ds_cell.specs.declared.entry.At.{At as Who}
use Rattle.ds_cell.specs.declared.verdict.Verdict.{Verdict}
use Rattle.ds_cell.specs.declared.verdict.Verdict.TheVariants.{Keep, Put, Refuse}
use Rattle.ds_cell.specs.Ask.{Cells, key_of, Gave, one_more, ask_each, ask, content_at, places}
use Rattle.ds_cell.specs.Content.{Content, no_content}
use Rattle.ds_cell.specs.KeyProofs.{quiet, tell, told, told_by_key, same_answer, rows_told, keys_told, quiet_read, quiet_nothing, quiet_delete}
use Rattle.ds_cell.specs.Replies.{Bits, body_of}
use Rattle.ds_cell.specs.RepeatProofs.{kept, kept-each}
use Rattle.ds_cell.specs.Requests.{deed_of, ask_request}

abbrev Puts : Type 0
Puts = List (List ℕ × Option Value)

-- at one key: no cut changes it, and its body stands whatever is joined to it
pub record ActsAt (r : Request) : Type 0 where
  pub key : List ℕ
  pub reach : reach_of r ≡ At key
  pub whole : (s e : List ℕ) → cut_to s e r ≡ r
  pub alone : (bits : Bits) (b : Body) → join_bodies (goes_down r) (body_of r bits) b ≡ body_of r bits

-- over a span: where nothing stands it leaves no trace, and its body says only what was told
pub record ActsOver (r : Request) : Type 0 where
  pub start : List ℕ
  pub end : List ℕ
  pub reach : reach_of r ≡ Over start end
  pub range : (flags_of (kind_of r)).range ≡ true
  pub cut : (s e : List ℕ) → reach_of (cut_to s e r) ≡ Over s e
  pub still : (at : Who) → quiet (deed_of r at no_content) ≡ true
  pub says : (bits : Bits) → body_of r (tell bits) ≡ body_of r bits

at-key : (r : Request) (k : List ℕ) → reach_of r ≡ At k → ((s e : List ℕ) → cut_to s e r ≡ r) → ((bits : Bits) (b : Body) → join_bodies (goes_down r) (body_of r bits) b ≡ body_of r bits) → ActsAt r ⊎ ActsOver r
at-key r k e whole alone = inl (record { key = k; reach = e; whole = whole; alone = alone })

over-keys : (r : Request) (s e : List ℕ) → reach_of r ≡ Over s e → (flags_of (kind_of r)).range ≡ true → ((s e : List ℕ) → reach_of (cut_to s e r) ≡ Over s e) → ((at : Who) → quiet (deed_of r at no_content) ≡ true) → ((bits : Bits) → body_of r (tell bits) ≡ body_of r bits) → ActsAt r ⊎ ActsOver r
over-keys r s e is range cut still says = inr (record { start = s; end = e; reach = is; range = range; cut = cut; still = still; says = says })

pub acts_where : (r : Request) → ActsAt r ⊎ ActsOver r
acts_where (Get a) = at-key (Get a) a.key refl (λ s e. refl) (λ bits b. refl)
acts_where (Scan a) = over-keys (Scan a) a.start a.end refl refl (λ s e. refl) (λ at. quiet_read at) (λ bits. ap Rows (rows_told bits))
acts_where (ReverseScan a) = over-keys (ReverseScan a) a.start a.end refl refl (λ s e. refl) (λ at. quiet_read at) (λ bits. ap (λ rs. Rows (reverse rs)) (rows_told bits))
acts_where (PutAt a) = at-key (PutAt a) a.key refl (λ s e. refl) (λ bits b. refl)
acts_where (ConditionalPut a) = at-key (ConditionalPut a) a.key refl (λ s e. refl) (λ bits b. refl)
acts_where (InitPut a) = at-key (InitPut a) a.key refl (λ s e. refl) (λ bits b. refl)
acts_where (Increment a) = at-key (Increment a) a.key refl (λ s e. refl) (λ bits b. refl)
acts_where (Delete a) = at-key (Delete a) a.key refl (λ s e. refl) (λ bits b. refl)
acts_where (DeleteRange a) = over-keys (DeleteRange a) a.start a.end refl refl (λ s e. refl) (λ at. quiet_delete at) (λ bits. ap Keys (keys_told bits))
acts_where (EndTxn a) = at-key (EndTxn a) a.key refl (λ s e. refl) (λ bits b. refl)
acts_where (QueryIntent a) = at-key (QueryIntent a) a.key refl (λ s e. refl) (λ bits b. refl)
acts_where (ResolveIntent a) = at-key (ResolveIntent a) a.key refl (λ s e. refl) (λ bits b. refl)
acts_where (ResolveIntentRange a) = over-keys (ResolveIntentRange a) a.start a.end refl refl (λ s e. refl) (λ at. quiet_nothing at) (λ bits. refl)
acts_where (AdminSplit a) = at-key (AdminSplit a) a.key refl (λ s e. refl) (λ bits b. refl)
acts_where (AdminTransferLease a) = at-key (AdminTransferLease a) a.key refl (λ s e. refl) (λ bits b. refl)

-- nothing lies between a key and itself
pub between_nothing : (s : List ℕ) (cells : Cells) → between key_of s s cells ≡ []
between_nothing s [] = refl
between_nothing s (p ∷ ps) =
    ap (λ t. cond t (p ∷ between key_of s s ps) (between key_of s s ps)) (out p.0) ∙ between_nothing s ps
  where
    out : (k : List ℕ) → holds s s k ≡ false
    out k =
        elim (key_le s k) as (λ t. key_le s k ≡ t → (t && key_lt k s) ≡ false) [
          | true ↦ λ low. not_lt_of_le s k low
          | false ↦ λ low. refl
        ] refl

-- asked where it acts

pub ask_point : (r : Request) (at : Who) (cells : Cells) (k : List ℕ) → reach_of r ≡ At k → ask_request r at cells ≡ one_more k (deed_of r at (content_at k cells)) (Gave [] [])
ask_point r at cells k e = ap (λ z. ask_each (deed_of r at) (places z cells)) e

pub ask_over : (r : Request) (at : Who) (cells : Cells) (s e : List ℕ) → reach_of r ≡ Over s e → ask_request r at cells ≡ ask (deed_of r at) s e cells
ask_over r at cells s e is = ap (λ z. ask_each (deed_of r at) (places z cells)) is

gave-bits : (bs cs : Bits) (ws vs : Puts) → Gave bs ws ≡ Gave cs vs → bs ≡ cs
gave-bits bs cs ws vs h = cc

quiet-kept : (v : Verdict) → quiet v ≡ true → quiet (kept v) ≡ true
quiet-kept (Keep b) h = h
quiet-kept (Put w b) h = cc
quiet-kept (Refuse f) h = cc

-- the answers alone decide the body
pub same_body : (r : Request) (at : Who) (xs ys : Cells) (bs cs : Bits) (ws vs : Puts) → Ascends key_of xs → Ascends key_of ys
    → ((k : List ℕ) → holds (extent_of (reach_of r)).start (extent_of (reach_of r)).end k ≡ true → kept (deed_of r at (content_at k xs)) ≡ kept (deed_of r at (content_at k ys)))
    → ask_request r at xs ≡ Gave bs ws → ask_request r at ys ≡ Gave cs vs → body_of r bs ≡ body_of r cs
same_body r at xs ys bs cs ws vs ax ay same hx hy = by (acts_where r)
  where
    d : Content → Verdict
    d c = kept (deed_of r at c)

    by : ActsAt r ⊎ ActsOver r → body_of r bs ≡ body_of r cs
    by (inl p) =
        let here = same p.key (subst (λ z. holds (extent_of z).start (extent_of z).end p.key ≡ true) (sym p.reach) (own_span p.key)) in
        let left : one_more p.key (d (content_at p.key xs)) (Gave [] []) ≡ Gave bs [] = kept-each (deed_of r at) ((p.key, content_at p.key xs) ∷ []) bs ws (sym (ask_point r at xs p.key p.reach) ∙ hx) in
        let right : one_more p.key (d (content_at p.key ys)) (Gave [] []) ≡ Gave cs [] = kept-each (deed_of r at) ((p.key, content_at p.key ys) ∷ []) cs vs (sym (ask_point r at ys p.key p.reach) ∙ hy) in
        ap (body_of r) (gave-bits bs cs [] [] (sym left ∙ ap (λ v. one_more p.key v (Gave [] [])) here ∙ right))
    by (inr o) =
        let left : ask d o.start o.end xs ≡ Gave bs [] = kept-each (deed_of r at) (between key_of o.start o.end xs) bs ws (sym (ask_over r at xs o.start o.end o.reach) ∙ hx) in
        let right : ask d o.start o.end ys ≡ Gave cs [] = kept-each (deed_of r at) (between key_of o.start o.end ys) cs vs (sym (ask_over r at ys o.start o.end o.reach) ∙ hy) in
        (same_answer r o.says (Gave bs []) (Gave cs [])
        (ap told (sym left)
        ∙ told_by_key d d (quiet-kept (deed_of r at no_content) (o.still at)) refl o.start o.end xs ys ax ay
        (λ k here. same k (subst (λ z. holds (extent_of z).start (extent_of z).end k ≡ true) (sym o.reach) here))
        ∙ ap told right)).0
