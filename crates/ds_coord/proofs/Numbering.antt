-- The last number that a batch's requests got.
use Rattle.std.proofs.Common.{◌≡◌, ℕ, zero, suc, ◌+◌, filter, List, [], ◌∷◌, Some, length, sym, ap, ◌∙◌, arith}
use Rattle.std.specs.List.{count_by, slice_get}
use Rattle.std.proofs.lemmas.List.Sums.{length-filter}
use Rattle.ds_base.specs.declared.value.Seq.{Seq}
use Rattle.ds_kind.specs.declared.request.Request.{Request}
use Rattle.ds_kind.specs.Asks.{takes_number}
use Rattle.ds_kind.specs.Numbers.{last_number}
use Rattle.ds_coord.specs.declared.txn.Txn.{Txn}
use Rattle.ds_coord.specs.Client.{with_numbers}

pub last-at : (n m : ℕ) (s : Seq) (seqs : List Seq) → suc m ≡ length seqs → Some s ≡ slice_get seqs m → s.0 ≡ last_number n seqs
last-at n m s [] e h = absurd (omega (arith, e))
last-at n zero s (x ∷ []) e h = let same : s ≡ x = cc in ap (λ (z : Seq). z.0) same
last-at n zero s (x ∷ y ∷ ys) e h = absurd (omega (arith, e))
last-at n (suc m) s (x ∷ []) e h = absurd (omega (arith, e))
last-at n (suc m) s (x ∷ y ∷ ys) e h = last-at x.0 m s (y ∷ ys) (omega (arith, e)) h

-- the transaction has it
pub numbered-so : (c : Txn) (s : Seq) (rs : List Request) → s.0 ≡ c.last.0 + count_by takes_number rs → record c { last = s } ≡ with_numbers rs c
numbered-so c s rs e =
    let is : s.0 ≡ c.last.0 + length (filter takes_number rs) = e ∙ ap (λ n. c.last.0 + n) (sym (length-filter takes_number rs)) in
    ap (λ (n : ℕ). record c { last = record { 0 = n } }) is
