-- What a delivered piece was served.
use Rattle.std.proofs.Common.{◌≡◌, ℕ, Bool, true, false, cond, not, ◌==◌, List, Option, Some, None, refl}
use Rattle.std.specs.List.{find, list_all, list_any}
use Rattle.ds_base.proofs.TestFacts.{not_false}
use Rattle.ds_desc.specs.declared.refusal.Refusal.TheVariants.{NotFound, NotLease, Mismatch}
use Rattle.ds_kind.specs.declared.batch.Piece.{Piece}
use Rattle.ds_kind.specs.declared.reply.Failure.{Failure}
use Rattle.ds_kind.specs.declared.reply.Reply.{Reply}
use Rattle.ds_cell.specs.Ask.{Cells}
use Rattle.ds_cell.specs.Store.{WriteAt}
use Rattle.ds_rule.specs.declared.answer.Answer.TheVariants.{Done}
use Rattle.ds_rule.specs.Asking.{Made, Gives, Fails, txn_of}
use Rattle.ds_rule.specs.Deliver.{answer_made, answer_at, stops, Stop, Turned, Ended, stop_answer, served, deliver_answer, deliver_answer_to, holds_item, mismatch_rows, ends, status_stops}
use Rattle.ds_rule.specs.World.{World, Range, has_id}

pub record Service (w : World) (node : ℕ) (p : Piece) (rs : List Reply) : Type 0 where
  pub range : Range
  pub found : find (has_id p.range) w.ranges ≡ Some range
  pub goes : stops w node p range ≡ None
  pub cells : Cells
  pub writes : List WriteAt
  pub gives : served w p range ≡ Gives cells writes rs

made_done : (m : Made) (rs : List Reply) → Done rs ≡ answer_made m → (cells : Cells) × (ws : List WriteAt) × (m ≡ Gives cells ws rs)
made_done (Gives cells ws qs) rs h = (cells, ws, cc)
made_done (Fails f) rs h = cc

not_done : (s : Stop) (rs : List Reply) → Done rs ≡ stop_answer s → ⊥
not_done (Turned r) rs h = cc
not_done (Ended f) rs h = cc

at_done : (w : World) (p : Piece) (r : Range) (o : Option Stop) (rs : List Reply) → Done rs ≡ answer_at w p r o → (o ≡ None) × (cells : Cells) × (ws : List WriteAt) × (served w p r ≡ Gives cells ws rs)
at_done w p r None rs h = let m = made_done (served w p r) rs h in (refl, m.0, m.1, m.2)
at_done w p r (Some s) rs h = absurd (not_done s rs h)

-- what a Done says
pub service : (w : World) (node : ℕ) (p : Piece) (rs : List Reply) → Done rs ≡ deliver_answer w node p → Service w node p rs
service w node p rs h =
    elim (find (has_id p.range) w.ranges) as (λ o. find (has_id p.range) w.ranges ≡ o → Done rs ≡ deliver_answer_to w node p o → Service w node p rs) [
      | None ↦ λ e d. cc
      | Some r ↦ λ e d.
          let k = at_done w p r (stops w node p r) rs d in
          record { range = r; found = e; goes = k.0; cells = k.1; writes = k.2; gives = k.3 }
    ] refl h

if_none : (t : Bool) (x : Stop) (o : Option Stop) → cond t (Some x) o ≡ None → (t ≡ false) × (o ≡ None)
if_none true x o h = cc
if_none false x o h = (refl, h)

-- a range that serves a piece holds its items' spans
pub held : (w : World) (node : ℕ) (p : Piece) (r : Range) → stops w node p r ≡ None → list_all (holds_item r) p.items ≡ true
held w node p r h =
    let last = ends (status_stops (find (λ t. t.txn.0 == txn_of p.head) w.records) p) in
    let third = cond (not (list_all (holds_item r) p.items)) (Some (Turned (Mismatch (mismatch_rows w p)))) last in
    let second = cond (not (r.info.lease.node == node)) (Some (Turned (NotLease r.info.lease))) third in
    let a = if_none (not (list_any (λ n. n == node) r.info.desc.nodes)) (Turned NotFound) second h in
    let b = if_none (not (r.info.lease.node == node)) (Turned (NotLease r.info.lease)) third a.1 in
    let c = if_none (not (list_all (holds_item r) p.items)) (Turned (Mismatch (mismatch_rows w p))) last b.1 in
    not_false (list_all (holds_item r) p.items) c.0

free_of : (o : Option Failure) → ends o ≡ None → o ≡ None
free_of None h = refl
free_of (Some f) h = cc

-- and its transaction's record takes pieces
pub takes : (w : World) (node : ℕ) (p : Piece) (r : Range) → stops w node p r ≡ None → status_stops (find (λ t. t.txn.0 == txn_of p.head) w.records) p ≡ None
takes w node p r h =
    let status = status_stops (find (λ t. t.txn.0 == txn_of p.head) w.records) p in
    let third = cond (not (list_all (holds_item r) p.items)) (Some (Turned (Mismatch (mismatch_rows w p)))) (ends status) in
    let second = cond (not (r.info.lease.node == node)) (Some (Turned (NotLease r.info.lease))) third in
    let a = if_none (not (list_any (λ n. n == node) r.info.desc.nodes)) (Turned NotFound) second h in
    let b = if_none (not (r.info.lease.node == node)) (Turned (NotLease r.info.lease)) third a.1 in
    let c = if_none (not (list_all (holds_item r) p.items)) (Turned (Mismatch (mismatch_rows w p))) (ends status) b.1 in
    free_of status c.1
