-- A reply's rows and keys, gathered answer by answer.
use Rattle.std.proofs.Common.{◌≡◌, ℕ, List, [], ◌∷◌, ◌++◌, ap, sym, ◌∙◌}
use Rattle.ds_kind.specs.declared.reply.Row.{Row}
use Rattle.ds_cell.specs.declared.verdict.Bit.{Bit}
use Rattle.ds_cell.specs.BodyProofs.{rows_of-append, gone_keys-append}
use Rattle.ds_cell.specs.Replies.{Bits, with_row, rows_of, with_gone, gone_keys}

-- one more answer gives the rows one more, or none
pub rows_push : (xs : Bits) (p : List ℕ × Bit) (rows after : List Row) → rows ≡ rows_of xs → after ≡ rows ++ with_row p.0 p.1 [] → after ≡ rows_of (xs ++ p ∷ [])
rows_push xs p rows after so_far more = more ∙ ap (λ rs. rs ++ with_row p.0 p.1 []) so_far ∙ sym (rows_of-append xs (p ∷ []))

-- and the deleted keys
pub gone_push : (xs : Bits) (p : List ℕ × Bit) (keys after : List (List ℕ)) → keys ≡ gone_keys xs → after ≡ keys ++ with_gone p.0 p.1 [] → after ≡ gone_keys (xs ++ p ∷ [])
gone_push xs p keys after so_far more = more ∙ ap (λ ks. ks ++ with_gone p.0 p.1 []) so_far ∙ sym (gone_keys-append xs (p ∷ []))
