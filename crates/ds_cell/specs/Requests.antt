-- What a request of any kind does to one key.
use Rattle.std.specs.Prelude.{◌≡◌, ℕ, List, true, false, not, ◌||◌, ◌++◌}
use Rattle.ds_base.specs.Order.{holds}
use Rattle.ds_base.specs.Ordered.{Ascends}
use Rattle.ds_kind.specs.declared.request.Request.{Request}
use Rattle.ds_kind.specs.declared.request.Request.TheVariants.{Get, Scan, ReverseScan, Put, ConditionalPut, InitPut, Increment, Delete, DeleteRange, EndTxn, QueryIntent, ResolveIntent, ResolveIntentRange, AdminSplit, AdminTransferLease}
use Rattle.ds_kind.specs.Bodies.{join_bodies}
use Rattle.ds_kind.specs.Flags.{flags_of}
use Rattle.ds_kind.specs.Request.{kind_of, reach_of, span_of}
use Rattle.ds_cell.specs.declared.entry.At.{At}
use Rattle.ds_cell.specs.declared.verdict.Verdict.{Verdict}
use Rattle.ds_cell.specs.declared.verdict.Verdict.TheVariants.{Keep}
use Rattle.ds_cell.specs.declared.verdict.Bit.TheVariants.{Nothing}
use Rattle.ds_cell.specs.Content.{Content}
use Rattle.ds_cell.specs.Deed.{deed}
use Rattle.ds_cell.specs.Ask.{Cells, key_of, Asked, Failed, Gave, content_at, ask_at}
use Rattle.ds_cell.specs.Kinds.{judge_nothing, judge_read, judge_query, judge_put, judge_conditional, judge_init, judge_increment, judge_delete, judge_delete_range, nothing, shown, gone}
use Rattle.ds_kind.specs.Bodies.{join_bodies}
use Rattle.ds_cell.specs.Replies.{Bits, body_of}
use Rattle.ds_cell.specs.Responses.{Response, respond}

abbrev pub deed_of : Request → At → Content → Verdict
deed_of (Get a) = deed false judge_read nothing
deed_of (Scan a) = deed false judge_read nothing
deed_of (ReverseScan a) = deed false judge_read nothing
deed_of (Put a) = deed true (judge_put a) nothing
deed_of (ConditionalPut a) = deed true (judge_conditional a) nothing
deed_of (InitPut a) = deed true (judge_init a) nothing
deed_of (Increment a) = deed true (judge_increment a) shown
deed_of (Delete a) = deed true judge_delete nothing
deed_of (DeleteRange a) = deed true judge_delete_range gone
deed_of (EndTxn a) = deed false judge_nothing nothing
deed_of (QueryIntent a) = deed false (judge_query a) nothing
deed_of (ResolveIntent a) = deed false judge_nothing nothing
deed_of (ResolveIntentRange a) = deed false judge_nothing nothing
deed_of (AdminSplit a) = deed false judge_nothing nothing
deed_of (AdminTransferLease a) = deed false judge_nothing nothing

-- a request asked over contents by key, over all of its span at once
abbrev pub ask_request : Request → At → Cells → Asked
ask_request r at cells = ask_at (deed_of r at) (reach_of r) cells

-- what it is answered, and what it writes
abbrev pub respond_to : Request → At → Cells → Response
respond_to r at cells = respond (body_of r) (ask_request r at cells)

-- a request over a span has the joined bodies of its two cuts
abbrev pub BodyLaw : Request → Type 0
BodyLaw r =
    (xs ys : Bits) → (flags_of (kind_of r)).range ≡ true
    → body_of r (xs ++ ys) ≡ join_bodies (flags_of (kind_of r)).reverse (body_of r xs) (body_of r ys)

-- what stands alone or is no part of a transaction leaves every key as it is
abbrev pub StillLaw : Request → Type 0
StillLaw r =
    (at : At) (c : Content) → ((flags_of (kind_of r)).alone || not (flags_of (kind_of r)).txn) ≡ true → deed_of r at c ≡ Keep Nothing

-- two answers of a request say the same and write the same
abbrev pub SameAnswer : Request → Asked → Asked → Type 0
SameAnswer r (Failed k f) (Failed q g) = (k ≡ q) × (f ≡ g)
SameAnswer r (Failed k f) (Gave cs vs) = ⊥
SameAnswer r (Gave bs ws) (Failed q g) = ⊥
SameAnswer r (Gave bs ws) (Gave cs vs) = (body_of r bs ≡ body_of r cs) × (ws ≡ vs)

-- a request is decided by what it does at each key that it speaks of
abbrev pub KeysLaw : Request → Type 0
KeysLaw r =
    (at : At) (cells others : Cells) → Ascends key_of cells → Ascends key_of others
    → ((k : List ℕ) → holds (span_of r).start (span_of r).end k ≡ true → deed_of r at (content_at k cells) ≡ deed_of r at (content_at k others))
    → SameAnswer r (ask_request r at cells) (ask_request r at others)
