-- What a batch that only reads can fail with: its transaction's record alone.
use Rattle.std.proofs.Common.{◌≡◌, ℕ, ◌<◌, Bool, true, false, cond, not, ◌==◌, List, [], ◌∷◌, ◌++◌, Option, Some, None, refl, sym, ap, ◌∙◌, ne_eqb, arith}
use Rattle.std.specs.List.{find, list_all, list_any}
use Rattle.ds_desc.specs.declared.refusal.Refusal.{Refusal}
use Rattle.ds_desc.specs.declared.refusal.Refusal.TheVariants.{NotFound, NotLease, Mismatch}
use Rattle.ds_kind.specs.declared.batch.Piece.{Piece}
use Rattle.ds_kind.specs.declared.reply.Failure.{Failure}
use Rattle.ds_kind.specs.declared.reply.Reply.{Reply}
use Rattle.ds_cell.specs.Ask.{Cells}
use Rattle.ds_cell.specs.Content.{AllAbove}
use Rattle.ds_rule.specs.declared.answer.Answer.TheVariants.{Failed}
use Rattle.ds_rule.specs.declared.record.TxnRecord.{TxnRecord}
use Rattle.ds_rule.specs.Asking.{Made, Gives, Fails, txn_of}
use Rattle.ds_rule.specs.Deliver.{answer_made, answer_at, stops, Stop, Turned, Ended, stop_answer, served, deliver_answer, deliver_answer_to, holds_item, mismatch_rows, ends, status_stops}
use Rattle.ds_rule.specs.Journal.{Happening, Runs}
use Rattle.ds_rule.specs.Pieces.{Each}
use Rattle.ds_rule.specs.Records.{record_number}
use Rattle.ds_rule.specs.World.{World, Range, has_id}
use Rattle.ds_law.proofs.Truth.{IsRead, served-reads}

-- the record that the piece's transaction has
abbrev pub status_of : World → Piece → Option Failure
status_of w p = status_stops (find (λ t. t.txn.0 == txn_of p.head) w.records) p

-- why a delivered piece failed: its transaction's record, or one of its items
pub data Why (w : World) (node : ℕ) (p : Piece) (f : Failure) : Type 0 where
  ByRecord : status_of w p ≡ Some f → Why w node p f
  ByItem : (r : Range) → find (has_id p.range) w.ranges ≡ Some r → stops w node p r ≡ None → served w p r ≡ Fails f → Why w node p f

failed-made : (m : Made) (f : Failure) → Failed f ≡ answer_made m → m ≡ Fails f
failed-made (Gives cells ws rs) f h = cc
failed-made (Fails g) f h = cc

failed-stop : (s : Stop) (f : Failure) → Failed f ≡ stop_answer s → s ≡ Ended f
failed-stop (Turned r) f h = cc
failed-stop (Ended g) f h = cc

turned-away : (r : Refusal) (f : Failure) → Some (Turned r) ≡ Some (Ended f) → ⊥
turned-away r f h = cc

ended-by : (o : Option Failure) (f : Failure) → ends o ≡ Some (Ended f) → o ≡ Some f
ended-by None f h = cc
ended-by (Some g) f h = cc

past_test : (t : Bool) (r : Refusal) (o : Option Stop) (f : Failure) → cond t (Some (Turned r)) o ≡ Some (Ended f) → o ≡ Some (Ended f)
past_test true r o f h = absurd (turned-away r f h)
past_test false r o f h = h

stopped-by : (w : World) (node : ℕ) (p : Piece) (r : Range) (f : Failure) → stops w node p r ≡ Some (Ended f) → status_of w p ≡ Some f
stopped-by w node p r f h =
    let third = cond (not (list_all (holds_item r) p.items)) (Some (Turned (Mismatch (mismatch_rows w p)))) (ends (status_of w p)) in
    let second = cond (not (r.info.lease.node == node)) (Some (Turned (NotLease r.info.lease))) third in
    ended-by (status_of w p) f
    (past_test (not (list_all (holds_item r) p.items)) (Mismatch (mismatch_rows w p)) (ends (status_of w p)) f
    (past_test (not (r.info.lease.node == node)) (NotLease r.info.lease) third f
    (past_test (not (list_any (λ n. n == node) r.info.desc.nodes)) NotFound second f h)))

why-at : (w : World) (node : ℕ) (p : Piece) (r : Range) (o : Option Stop) (f : Failure) → find (has_id p.range) w.ranges ≡ Some r → stops w node p r ≡ o → Failed f ≡ answer_at w p r o → Why w node p f
why-at w node p r None f found is h = ByItem r found is (failed-made (served w p r) f h)
why-at w node p r (Some s) f found is h = ByRecord (stopped-by w node p r f (is ∙ ap Some (failed-stop s f h)))

pub why : (w : World) (node : ℕ) (p : Piece) (f : Failure) → Failed f ≡ deliver_answer w node p → Why w node p f
why w node p f h =
    elim (find (has_id p.range) w.ranges) as (λ o. find (has_id p.range) w.ranges ≡ o → Failed f ≡ deliver_answer_to w node p o → Why w node p f) [
      | None ↦ λ e d. cc
      | Some r ↦ λ e d. why-at w node p r (stops w node p r) f e refl d
    ] refl h

never-fails : (cells : Cells) (rs : List Reply) (f : Failure) → Gives cells [] rs ≡ Fails f → ⊥
never-fails cells rs f h = cc

-- reads fail by the record alone
pub reads-fail : (w : World) (node : ℕ) (p : Piece) (f : Failure) → p.head.left ≡ None → Each IsRead p.items → Failed f ≡ deliver_answer w node p → status_of w p ≡ Some f
reads-fail w node p f free read h = by (why w node p f h)
  where
    by : Why w node p f → status_of w p ≡ Some f
    by (ByRecord is) = is
    by (ByItem r found goes fails) = absurd (never-fails _ _ f (sym (served-reads w p r free read) ∙ fails))

-- no record has the number 0

pub none-named : (ts : List TxnRecord) → AllAbove record_number 0 ts → find (λ t. t.txn.0 == 0) ts ≡ None
none-named [] all = refl
none-named (t ∷ ts) all =
    ap (λ b. cond b (Some t) (find (λ t. t.txn.0 == 0) ts)) (ne_eqb (record_number t) 0 (λ e. let low : 0 < record_number t = all.0 in omega (arith, e, low)))
    ∙ none-named ts all.1

-- so no record stops a piece without a transaction
pub nothing-stops : (w : World) (p : Piece) → AllAbove record_number 0 w.records → txn_of p.head ≡ 0 → status_of w p ≡ None
nothing-stops w p all is = ap (λ n. status_stops (find (λ t. t.txn.0 == n) w.records) p) is ∙ ap (λ o. status_stops o p) (none-named w.records all)

-- what happened, cut in two
pub runs-cut : (w v : World) (xs ys : List Happening) → Runs w (xs ++ ys) v → (m : World) × Runs w xs m × Runs m ys v
runs-cut w v [] ys r = (w, refl, r)
runs-cut w v (x ∷ xs) ys r = let k = runs-cut r.0 v xs ys r.2 in (k.0, (r.0, r.1, k.1), k.2)
