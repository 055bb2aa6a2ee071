-- Facts of requests and their cuts.
use Rattle.std.proofs.Common.{◌≡◌, ℕ, true, List, refl}
use Rattle.ds_base.specs.Order.{key_lt}
use Rattle.ds_base.proofs.KeyOrder.{below-after}
use Rattle.ds_kind.specs.Asks.{is_proper, has_proper_span}
use Rattle.ds_kind.specs.CutReach.{cut_reach}
use Rattle.ds_kind.specs.Reach.{Reach, At, Over, extent_of}
use Rattle.ds_kind.specs.Request.{cut_to, reach_of, span_of}
use Rattle.ds_kind.specs.declared.request.Request.{Request}
use Rattle.ds_kind.specs.declared.request.Request.TheVariants.{Get, Scan, ReverseScan, Put, ConditionalPut, InitPut, Increment, Delete, DeleteRange, EndTxn, QueryIntent, ResolveIntent, ResolveIntentRange, AdminSplit, AdminTransferLease}

-- a request cut to its own span is itself
pub cut_whole : (r : Request) → cut_to (span_of r).start (span_of r).end r ≡ r
cut_whole (Get a) = refl
cut_whole (Scan a) = refl
cut_whole (ReverseScan a) = refl
cut_whole (Put a) = refl
cut_whole (ConditionalPut a) = refl
cut_whole (InitPut a) = refl
cut_whole (Increment a) = refl
cut_whole (Delete a) = refl
cut_whole (DeleteRange a) = refl
cut_whole (EndTxn a) = refl
cut_whole (QueryIntent a) = refl
cut_whole (ResolveIntent a) = refl
cut_whole (ResolveIntentRange a) = refl
cut_whole (AdminSplit a) = refl
cut_whole (AdminTransferLease a) = refl

-- where a cut request acts
pub reach_cut : (s e : List ℕ) (r : Request) → reach_of (cut_to s e r) ≡ cut_reach s e (reach_of r)
reach_cut s e (Get a) = refl
reach_cut s e (Scan a) = refl
reach_cut s e (ReverseScan a) = refl
reach_cut s e (Put a) = refl
reach_cut s e (ConditionalPut a) = refl
reach_cut s e (InitPut a) = refl
reach_cut s e (Increment a) = refl
reach_cut s e (Delete a) = refl
reach_cut s e (DeleteRange a) = refl
reach_cut s e (EndTxn a) = refl
reach_cut s e (QueryIntent a) = refl
reach_cut s e (ResolveIntent a) = refl
reach_cut s e (ResolveIntentRange a) = refl
reach_cut s e (AdminSplit a) = refl
reach_cut s e (AdminTransferLease a) = refl

-- where a proper request acts there is a key
proper_reach : (r : Reach) → is_proper r ≡ true → key_lt (extent_of r).start (extent_of r).end ≡ true
proper_reach (At k) h = below-after k
proper_reach (Over s e) h = h

pub proper_some : (r : Request) → has_proper_span r ≡ true → key_lt (span_of r).start (span_of r).end ≡ true
proper_some r h = proper_reach (reach_of r) h
