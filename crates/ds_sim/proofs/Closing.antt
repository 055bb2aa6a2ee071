-- How a block's calls change what a wire stands for.
use Rattle.std.proofs.Common.{◌≡◌, ℕ, true, List, [], ◌∷◌, Some, refl, ap, ◌∙◌}
use Rattle.std.specs.Option.{option_or}
use Rattle.ds_desc.specs.declared.desc.RangeDesc.{RangeDesc}
use Rattle.ds_kind.specs.declared.reply.TxnStatus.{TxnStatus}
use Rattle.ds_kind.specs.declared.reply.TxnStatus.TheVariants as Says
use Rattle.ds_cell.specs.Seen.{last_of}
use Rattle.ds_cell.proofs.LatestFacts.{last_where-cons}
use Rattle.ds_rule.specs.declared.record.RecordStatus.{RecordStatus}
use Rattle.ds_rule.specs.declared.record.RecordStatus.TheVariants as Status
use Rattle.ds_rule.specs.declared.record.TxnRecord.{TxnRecord}
use Rattle.ds_rule.specs.Close.{closed, said_status, settle_by, status_of_last}
use Rattle.ds_rule.specs.Moves.{abort_last, aborted, aborted_status, with_last, with_last_after}
use Rattle.ds_rule.specs.Records.{with_status}
use Rattle.ds_ranges.specs.Layout.{Layout, layout}
use Rattle.ds_sim.specs.State.{ClosesAgain, stands_for, world_of}
use Rattle.ds_sim.specs.UnderWay.{UnderWay}

same-after : (f g : TxnRecord → TxnRecord) (t : TxnRecord) (ts : List TxnRecord) → ((x : TxnRecord) → last_of (t ∷ ts) ≡ Some x → f x ≡ g x) → with_last_after f t ts ≡ with_last_after g t ts
same-after f g t [] same = ap (λ z. z ∷ []) (same t refl)
same-after f g t (u ∷ us) same =
    ap (λ zs. t ∷ zs) (same-after f g u us (λ x e. same x (last_where-cons (λ _. true) t (u ∷ us) ∙ ap (λ o. option_or o (Some t)) e)))

kept-after : (f : TxnRecord → TxnRecord) (t : TxnRecord) (ts : List TxnRecord) → ((x : TxnRecord) → last_of (t ∷ ts) ≡ Some x → x ≡ f x) → t ∷ ts ≡ with_last_after f t ts
kept-after f t [] same = ap (λ z. z ∷ []) (same t refl)
kept-after f t (u ∷ us) same =
    ap (λ zs. t ∷ zs) (kept-after f u us (λ x e. same x (last_where-cons (λ _. true) t (u ∷ us) ∙ ap (λ o. option_or o (Some t)) e)))

-- a record that is committed ends as it stands
pub ends_committed : (ts : List TxnRecord) → Says.Committed ≡ status_of_last (last_of ts) → ts ≡ with_last aborted ts
ends_committed [] says = refl
ends_committed (t ∷ ts) says = kept-after aborted t ts (λ x e. ap (λ s. record x { status = s }) (stays x.status (says ∙ ap status_of_last e)))
  where
    stays : (s : RecordStatus) → Says.Committed ≡ said_status s → s ≡ aborted_status s
    stays Status.Pending h = cc
    stays Status.Committed h = refl
    stays Status.Aborted h = refl
    stays (Status.Staging fs) h = cc

ends_other : (ts : List TxnRecord) (said : TxnStatus) → (said ≡ Says.Committed → ⊥) → said ≡ status_of_last (last_of ts) → with_last (with_status Status.Aborted) ts ≡ with_last aborted ts
ends_other [] said other says = refl
ends_other (t ∷ ts) said other says = same-after (with_status Status.Aborted) aborted t ts (λ x e. ap (λ s. record x { status = s }) (falls x.status (says ∙ ap status_of_last e)))
  where
    falls : (s : RecordStatus) → said ≡ said_status s → Status.Aborted ≡ aborted_status s
    falls Status.Pending h = refl
    falls Status.Committed h = absurd (other h)
    falls Status.Aborted h = refl
    falls (Status.Staging fs) h = refl

-- any other becomes aborted
pub ends_aborted : (ts : List TxnRecord) → Says.Aborted ≡ status_of_last (last_of ts) → with_last (with_status Status.Aborted) ts ≡ with_last aborted ts
ends_aborted ts says = ends_other ts Says.Aborted (λ e. cc) says

pub ends_unknown : (ts : List TxnRecord) → Says.Unknown ≡ status_of_last (last_of ts) → with_last (with_status Status.Aborted) ts ≡ with_last aborted ts
ends_unknown ts says = ends_other ts Says.Unknown (λ e. cc) says

pub ends_staging : (ts : List TxnRecord) → Says.Staging ≡ status_of_last (last_of ts) → with_last (with_status Status.Aborted) ts ≡ with_last aborted ts
ends_staging ts says = ends_other ts Says.Staging (λ e. cc) says

-- the world after the open transaction ended
pub closed_world : (l now : Layout) (armed : List RangeDesc) (records ends : List TxnRecord) (n : ℕ) → now ≡ layout (settle_by (last_of records) l.ranges) l.descs → ends ≡ with_last aborted records → world_of now armed ends n ≡ closed (world_of l armed records n)
closed_world l now armed records ends n settled are =
    ap (λ z. world_of z armed ends n) settled ∙ ap (λ ts. world_of (layout (settle_by (last_of records) l.ranges) l.descs) armed ts n) are

-- the world after some of its intents were settled
pub closes-again : (l now : Layout) (armed : List RangeDesc) (records : List TxnRecord) (u : UnderWay) (c : ℕ) (picks : List ℕ) → settle_by (last_of records) now.ranges ≡ settle_by (last_of records) l.ranges → now.descs ≡ l.descs → ClosesAgain (stands_for (world_of l armed records u.count) u c picks) (stands_for (world_of now armed records u.count) u c picks)
closes-again l now armed records u c picks again descs = record {
  closes = λ i. record (abort_last (world_of l armed records u.count)) { ranges = again i; descs = descs i };
  rest = λ i. stands_for (record (world_of l armed records u.count) { ranges = now.ranges; descs = descs i }) u c picks;
}
