-- What may stand beside a request's writes without a trace for it.
use Rattle.std.proofs.Common.{◌≡◌, ℕ, ◌≤◌, ◌<◌, Bool, true, false, cond, List, [], ◌∷◌, ◌++◌, take, drop, reverse, refl, sym, ap, ◌∙◌, subst, Option, Some, None, arith, append_assoc, nat_le, nat_lt, ◌==◌}
use Rattle.std.specs.List.{find, insert, list_any}
use Rattle.std.specs.Option.{option_or}
use Rattle.std.proofs.lemmas.List.{reverse-append, take-append-drop}
use Rattle.std.proofs.lemmas.List.Folds.{find-append}
use Rattle.std.proofs.lemmas.Bool.Decides.{nat_tests}
use Rattle.ds_base.specs.Ordered.{Ascends, key_eq}
use Rattle.ds_base.proofs.OrderedFacts.{eq_same}
use Rattle.ds_base.specs.declared.value.Value.{Value}
use Rattle.ds_kind.specs.Reach.{Reach}
use Rattle.ds_cell.specs.declared.entry.At.{At}
use Rattle.ds_cell.specs.declared.entry.Version.{Version}
use Rattle.ds_cell.specs.declared.entry.Written.{Written}
use Rattle.ds_cell.specs.Content.{Content}
use Rattle.ds_cell.specs.Seen.{last_where, last_of, own, held, newest, under, version_at}
use Rattle.ds_cell.specs.Change.{place_before, wrote, made, foreign_by, after_foreign}
use Rattle.ds_cell.specs.Laws.{IsLater, Asks, RepeatLaw, BesideLaw}
use Rattle.ds_cell.specs.LawProofs.{own-wrote}
use Rattle.ds_cell.specs.Ask.{Cells, key_of, content_at}
use Rattle.ds_cell.specs.Store.{put_cell, write_all}
use Rattle.ds_cell.specs.StoreProofs.{ascends-insert, put-itself, put-other}

find-skip : {X : Type 0} (p : X → Bool) (xs : List X) (x : X) (ys : List X) → p x ≡ false → find p (xs ++ x ∷ ys) ≡ find p (xs ++ ys)
find-skip p xs x ys out =
    find-append p xs (x ∷ ys)
    ∙ ap (λ t. option_or (find p xs) (cond t (Some x) (find p ys))) out
    ∙ sym (find-append p xs ys)

-- an insert of what doesn't pass
pub find-insert : {X : Type 0} (p : X → Bool) (xs : List X) (i : ℕ) (x : X) → p x ≡ false → find p (insert xs i x) ≡ find p xs
find-insert p xs i x out = find-skip p (take i xs) x (drop i xs) out ∙ ap (find p) (take-append-drop i xs)

-- an insert of what doesn't pass, seen from the back
pub last_where-insert : {X : Type 0} (p : X → Bool) (xs : List X) (i : ℕ) (x : X) → p x ≡ false → last_where p (insert xs i x) ≡ last_where p xs
last_where-insert p xs i x out =
    ap (find p) (reverse-append (take i xs) (x ∷ drop i xs) ∙ ap (λ zs. zs ++ reverse (take i xs)) (reverse-append (x ∷ []) (drop i xs)))
    ∙ ap (find p) (append_assoc (reverse (drop i xs)) (x ∷ []) (reverse (take i xs)))
    ∙ find-skip p (reverse (drop i xs)) x (reverse (take i xs)) out
    ∙ ap (find p) (sym (reverse-append (take i xs) (drop i xs)) ∙ ap reverse (take-append-drop i xs))

pub later_itself : (at : At) (c : Content) → IsLater at c c
later_itself at c = record { version = refl; writes = λ n low. refl; numbers = λ n low. refl }

pub later_again : (at : At) (c d e : Content) → IsLater at c d → IsLater at d e → IsLater at c e
later_again at c d e p q = record {
  version = q.version ∙ p.version;
  writes = λ n low. q.writes n low ∙ p.writes n low;
  numbers = λ n low. q.numbers n low ∙ p.numbers n low;
}

-- two requests of one transaction and epoch have the same own writes
pub own-same : (at at' : At) (c : Content) → at'.txn.0 ≡ at.txn.0 → at'.epoch ≡ at.epoch → own at' c ≡ own at c
own-same at at' c txn epoch =
    ap (λ t. cond (c.epoch == t) (held at'.txn.0 c) []) epoch
    ∙ ap (λ t. cond (c.epoch == at.epoch) (held t c) []) txn

not_up_to : (n s m : ℕ) → n ≤ s → s < m → nat_le m n ≡ false
not_up_to n s m low above = grind (arith, nat_tests)

not_that : (n s m : ℕ) → n ≤ s → s < m → (m == n) ≡ false
not_that n s m low above = grind (arith, nat_tests)

-- a write of the transaction under a later number
pub later_write : (at at' : At) (w : Option Value) (c : Content) → at'.txn.0 ≡ at.txn.0 → at'.epoch ≡ at.epoch → at.seq.0 < at'.seq.0 → IsLater at c (wrote at' w c)
later_write at at' w c txn epoch above = record {
  version = refl;
  writes = λ n low.
      ap (newest n) (own-wrote at at' w c txn epoch)
      ∙ last_where-insert (λ v. nat_le v.seq.0 n) (own at' c) _ _ (not_up_to n at.seq.0 at'.seq.0 low above)
      ∙ ap (newest n) (own-same at at' c txn epoch);
  numbers = λ n low.
      ap (under n) (own-wrote at at' w c txn epoch)
      ∙ find-insert (λ v. v.seq.0 == n) (own at' c) _ _ (not_that n at.seq.0 at'.seq.0 low above)
      ∙ ap (under n) (own-same at at' c txn epoch);
}

below_stamp : (s t : ℕ) → s < t → nat_le t s ≡ false
below_stamp s t above = grind (arith, nat_tests)

-- a version above the stamp is not the one at the stamp
pub version_at-made : (s : ℕ) (vs : List Version) (v : Version) → s < v.stamp.0 → version_at s (made vs v) ≡ version_at s vs
version_at-made s vs v above =
    elim (list_any (λ u. u.stamp.0 == v.stamp.0) vs) as (λ t. version_at s (cond t vs (insert vs (place_before (λ u. nat_lt v.stamp.0 u.stamp.0) vs) v)) ≡ version_at s vs) [
      | true ↦ refl
      | false ↦ last_where-insert (λ u. nat_le u.stamp.0 s) vs _ v (below_stamp s v.stamp.0 above)
    ]

later_foreign_by : (at : At) (o : Option Written) (v : Version) (c : Content) → at.stamp.0 < v.stamp.0 → IsLater at c (foreign_by o v c)
later_foreign_by at None v c above = record { version = version_at-made at.stamp.0 c.versions v above; writes = λ n low. refl; numbers = λ n low. refl }
later_foreign_by at (Some w) v c above = record { version = refl; writes = λ n low. refl; numbers = λ n low. refl }

-- a foreign write above the stamp
pub later_foreign : (at : At) (v : Version) (c : Content) → at.stamp.0 < v.stamp.0 → IsLater at c (after_foreign v c)
later_foreign at v c above = later_foreign_by at (last_of c.history) v c above

pub ascends-written : (at : At) (ws : List (List ℕ × Option Value)) (cells : Cells) → Ascends key_of cells → Ascends key_of (write_all at ws cells)
ascends-written at [] cells asc = asc
ascends-written at (w ∷ ws) cells asc = ascends-written at ws (put_cell w.0 (wrote at w.1) cells) (ascends-insert w.0 _ cells asc)

-- writes of the transaction under a later number, wherever they stand
later_put : (at next : At) (q k : List ℕ) (w : Option Value) (cells : Cells) → next.txn.0 ≡ at.txn.0 → next.epoch ≡ at.epoch → at.seq.0 < next.seq.0 → IsLater at (content_at k cells) (content_at k (put_cell q (wrote next w) cells))
later_put at next q k w cells txn epoch above =
    elim (key_eq q k) as (λ t. key_eq q k ≡ t → IsLater at (content_at k cells) (content_at k (put_cell q (wrote next w) cells))) [
      | true ↦ λ e.
          subst (λ z. IsLater at (content_at z cells) (content_at z (put_cell q (wrote next w) cells))) (eq_same q k e)
          (subst (IsLater at (content_at q cells)) (sym (put-itself q (wrote next w) cells)) (later_write at next w (content_at q cells) txn epoch above))
      | false ↦ λ e. subst (IsLater at (content_at k cells)) (sym (put-other q k (wrote next w) cells e)) (later_itself at (content_at k cells))
    ] refl

pub later_writes : (at next : At) (k : List ℕ) (vs : List (List ℕ × Option Value)) (cells : Cells) → next.txn.0 ≡ at.txn.0 → next.epoch ≡ at.epoch → at.seq.0 < next.seq.0 → IsLater at (content_at k cells) (content_at k (write_all next vs cells))
later_writes at next k [] cells txn epoch above = later_itself at (content_at k cells)
later_writes at next k (v ∷ vs) cells txn epoch above =
    later_again at _ _ _ (later_put at next v.0 k v.1 cells txn epoch above)
    (later_writes at next k vs (put_cell v.0 (wrote next v.1) cells) txn epoch above)

pub beside_all : {A : Type 0} (reach : A → Reach) (ask : Asks A) (a : A) → RepeatLaw reach ask a → BesideLaw ask a
beside_all reach ask a repeat at next cells b ws vs asc txn epoch above gave =
    repeat at cells (write_all next vs (write_all at ws cells)) b ws asc
    (ascends-written next vs (write_all at ws cells) (ascends-written at ws cells asc)) gave
    (λ k here. later_writes at next k vs (write_all at ws cells) txn epoch above)
