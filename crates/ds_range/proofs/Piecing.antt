-- Items served one after another, and the contents after them.
use Rattle.std.proofs.Common.{◌≡◌, ℕ, ◌<◌, ◌+◌, List, [], ◌∷◌, ◌++◌, map, drop, length, get_or, Option, Some, None, refl, sym, ap, ◌∙◌, append_assoc, suc, arith, drop-cons}
use Rattle.ds_base.specs.declared.value.Stamp.{Stamp}
use Rattle.ds_base.specs.declared.value.TxnNo.{TxnNo}
use Rattle.ds_base.specs.declared.value.Value.{Value}
use Rattle.ds_kind.specs.declared.batch.Head.{Head}
use Rattle.ds_kind.specs.declared.batch.Item.{Item}
use Rattle.ds_kind.specs.declared.reply.Reply.{Reply}
use Rattle.ds_cell.specs.declared.entry.At.{At}
use Rattle.ds_cell.specs.Ask.{Cells}
use Rattle.ds_cell.specs.Store.{WriteAt, under_number, settle_all}
use Rattle.ds_rule.specs.Asking.{Made, Gives, Fails, and_before, committed_by}
use Rattle.ds_range.specs.Keeps.{settled_at}
use Rattle.ds_range.specs.Serves.{key_of_write, finished_by}

-- one item

pub under_keys : (at : At) (ws : List (List ℕ × Option Value)) → map (λ p. p.0) ws ≡ map key_of_write (under_number at ws)
under_keys at [] = refl
under_keys at (w ∷ ws) = ap (λ ks. w.0 ∷ ks) (under_keys at ws)

pub before_nothing : (m : Made) → and_before [] [] m ≡ m
before_nothing (Fails f) = refl
before_nothing (Gives cells ws rs) = refl

pub twice : (ws vs : List WriteAt) (rs qs : List Reply) (m : Made) → and_before ws rs (and_before vs qs m) ≡ and_before (ws ++ vs) (rs ++ qs) m
twice ws vs rs qs (Fails f) = refl
twice ws vs rs qs (Gives cells more later) =
    ap (λ xs. Gives cells xs (rs ++ (qs ++ later))) (sym (append_assoc ws vs more)) ∙ ap (λ ys. Gives cells ((ws ++ vs) ++ more) ys) (sym (append_assoc rs qs later))

pub map_append : {X Y : Type 0} (f : X → Y) (xs ys : List X) → map f (xs ++ ys) ≡ map f xs ++ map f ys
map_append f [] ys = refl
map_append f (x ∷ xs) ys = ap (λ zs. f x ∷ zs) (map_append f xs ys)

pub dropped : (is : List Item) (n : ℕ) (i : Item) → n < length is → i ≡ get_or is n i → drop n is ≡ i ∷ drop (n + 1) is
dropped is n i low at =
    let next : suc n ≡ n + 1 = omega arith in
    drop-cons is n i low ∙ ap (λ z. z ∷ drop (suc n) is) (sym at) ∙ ap (λ m. i ∷ drop m is) next

-- the contents after them

settled_keys : (txn : ℕ) (commit : Option Stamp) (ws : List WriteAt) (cells : Cells) → settled_at txn commit (map key_of_write ws) cells ≡ settle_all txn commit ws cells
settled_keys txn commit [] cells = refl
settled_keys txn commit (w ∷ ws) cells = settled_keys txn commit ws _

pub finished_keys : (h : Head) (t : Option TxnNo) (ws : List WriteAt) (cells : Cells) → finished_by h t (map key_of_write ws) cells ≡ committed_by h t ws cells
finished_keys h (Some t) ws cells = refl
finished_keys h None ws cells = settled_keys 0 (Some h.at) ws cells
