-- Bodies over two cuts of a span. These proofs stand here since the laws of the trait `Acts` cite them.
use Rattle.std.proofs.Common.{◌≡◌, ℕ, List, [], ◌∷◌, ◌++◌, reverse, refl, ap, ◌∙◌, Some, None}
use Rattle.std.proofs.lemmas.List.{reverse-append}
use Rattle.ds_kind.specs.declared.reply.Row.{Row}
use Rattle.ds_kind.specs.declared.reply.Body.TheVariants.{Rows, Gone as Keys}
use Rattle.ds_kind.specs.declared.request.Request.{Request}
use Rattle.ds_kind.specs.declared.request.Request.TheVariants.{Get, Scan, ReverseScan, Put, ConditionalPut, InitPut, Increment, Delete, DeleteRange, EndTxn, QueryIntent, ResolveIntent, ResolveIntentRange, AdminSplit, AdminTransferLease}
use Rattle.ds_cell.specs.declared.verdict.Bit.{Bit}
use Rattle.ds_cell.specs.declared.verdict.Bit.TheVariants.{Nothing, Value as Shown, Gone, Hit}
use Rattle.ds_cell.specs.Replies.{Bits, with_row, rows_of, with_gone, gone_keys}
use Rattle.ds_cell.specs.Requests.{BodyLaw}

with_row-append : (k : List ℕ) (b : Bit) (rs ss : List Row) → with_row k b (rs ++ ss) ≡ with_row k b rs ++ ss
with_row-append k Nothing rs ss = refl
with_row-append k (Shown None) rs ss = refl
with_row-append k (Shown (Some v)) rs ss = refl
with_row-append k Gone rs ss = refl
with_row-append k Hit rs ss = refl

pub rows_of-append : (xs ys : Bits) → rows_of (xs ++ ys) ≡ rows_of xs ++ rows_of ys
rows_of-append [] ys = refl
rows_of-append (x ∷ xs) ys = ap (with_row x.0 x.1) (rows_of-append xs ys) ∙ with_row-append x.0 x.1 (rows_of xs) (rows_of ys)

with_gone-append : (k : List ℕ) (b : Bit) (rs ss : List (List ℕ)) → with_gone k b (rs ++ ss) ≡ with_gone k b rs ++ ss
with_gone-append k Nothing rs ss = refl
with_gone-append k (Shown v) rs ss = refl
with_gone-append k Gone rs ss = refl
with_gone-append k Hit rs ss = refl

pub gone_keys-append : (xs ys : Bits) → gone_keys (xs ++ ys) ≡ gone_keys xs ++ gone_keys ys
gone_keys-append [] ys = refl
gone_keys-append (x ∷ xs) ys = ap (with_gone x.0 x.1) (gone_keys-append xs ys) ∙ with_gone-append x.0 x.1 (gone_keys xs) (gone_keys ys)

pub bodies_join : (r : Request) → BodyLaw r
bodies_join (Get a) xs ys h = cc
bodies_join (Scan a) xs ys h = ap Rows (rows_of-append xs ys)
bodies_join (ReverseScan a) xs ys h =
    ap (λ rs. Rows (reverse rs)) (rows_of-append xs ys) ∙ ap Rows (reverse-append (rows_of xs) (rows_of ys))
bodies_join (Put a) xs ys h = cc
bodies_join (ConditionalPut a) xs ys h = cc
bodies_join (InitPut a) xs ys h = cc
bodies_join (Increment a) xs ys h = cc
bodies_join (Delete a) xs ys h = cc
bodies_join (DeleteRange a) xs ys h = ap Keys (gone_keys-append xs ys)
bodies_join (EndTxn a) xs ys h = cc
bodies_join (QueryIntent a) xs ys h = cc
bodies_join (ResolveIntent a) xs ys h = cc
bodies_join (ResolveIntentRange a) xs ys h = refl
bodies_join (AdminSplit a) xs ys h = cc
bodies_join (AdminTransferLease a) xs ys h = cc
