-- What a request's kind says of it.
use Rattle.std.specs.Prelude.{◌≡◌, ℕ, List, [], ◌∷◌, refl}
use Rattle.ds_base.specs.Order.{Extent}
use Rattle.ds_kind.specs.Reach.{Reach, At, Over, extent_of}
use Rattle.ds_kind.specs.declared.name.KindName.{KindName}
use Rattle.ds_kind.specs.declared.name.KindName.TheVariants as Name
use Rattle.ds_kind.specs.declared.request.Request.{Request}
use Rattle.ds_kind.specs.declared.request.Request.TheVariants.{Get, Scan, ReverseScan, Put, ConditionalPut, InitPut, Increment, Delete, DeleteRange, EndTxn, QueryIntent, ResolveIntent, ResolveIntentRange, AdminSplit, AdminTransferLease}

abbrev pub kind_of : Request → KindName
kind_of (Get a) = Name.Get
kind_of (Scan a) = Name.Scan
kind_of (ReverseScan a) = Name.ReverseScan
kind_of (Put a) = Name.Put
kind_of (ConditionalPut a) = Name.ConditionalPut
kind_of (InitPut a) = Name.InitPut
kind_of (Increment a) = Name.Increment
kind_of (Delete a) = Name.Delete
kind_of (DeleteRange a) = Name.DeleteRange
kind_of (EndTxn a) = Name.EndTxn
kind_of (QueryIntent a) = Name.QueryIntent
kind_of (ResolveIntent a) = Name.ResolveIntent
kind_of (ResolveIntentRange a) = Name.ResolveIntentRange
kind_of (AdminSplit a) = Name.AdminSplit
kind_of (AdminTransferLease a) = Name.AdminTransferLease

abbrev pub reach_of : Request → Reach
reach_of (Get a) = At a.key
reach_of (Scan a) = Over a.start a.end
reach_of (ReverseScan a) = Over a.start a.end
reach_of (Put a) = At a.key
reach_of (ConditionalPut a) = At a.key
reach_of (InitPut a) = At a.key
reach_of (Increment a) = At a.key
reach_of (Delete a) = At a.key
reach_of (DeleteRange a) = Over a.start a.end
reach_of (EndTxn a) = At a.key
reach_of (QueryIntent a) = At a.key
reach_of (ResolveIntent a) = At a.key
reach_of (ResolveIntentRange a) = Over a.start a.end
reach_of (AdminSplit a) = At a.key
reach_of (AdminTransferLease a) = At a.key

-- the keys that the request speaks of
abbrev pub span_of : Request → Extent
span_of r = extent_of (reach_of r)

-- the request on a part of its span; a point has no other part
abbrev pub cut_to : List ℕ → List ℕ → Request → Request
cut_to s e (Get a) = Get a
cut_to s e (Scan a) = Scan (record { start = s; end = e })
cut_to s e (ReverseScan a) = ReverseScan (record { start = s; end = e })
cut_to s e (Put a) = Put a
cut_to s e (ConditionalPut a) = ConditionalPut a
cut_to s e (InitPut a) = InitPut a
cut_to s e (Increment a) = Increment a
cut_to s e (Delete a) = Delete a
cut_to s e (DeleteRange a) = DeleteRange (record { start = s; end = e })
cut_to s e (EndTxn a) = EndTxn a
cut_to s e (QueryIntent a) = QueryIntent a
cut_to s e (ResolveIntent a) = ResolveIntent a
cut_to s e (ResolveIntentRange a) = ResolveIntentRange (record { start = s; end = e; txn = a.txn })
cut_to s e (AdminSplit a) = AdminSplit a
cut_to s e (AdminTransferLease a) = AdminTransferLease a

-- a scan from a to z cut to [b, c), and a get, which stays whole
a_scan_cut : cut_to (98 ∷ []) (99 ∷ []) (Scan (record { start = 97 ∷ []; end = 122 ∷ [] })) ≡ Scan (record { start = 98 ∷ []; end = 99 ∷ [] })
a_scan_cut = refl

a_get_whole : cut_to (97 ∷ []) (97 ∷ 0 ∷ []) (Get (record { key = 97 ∷ [] })) ≡ Get (record { key = 97 ∷ [] })
a_get_whole = refl
