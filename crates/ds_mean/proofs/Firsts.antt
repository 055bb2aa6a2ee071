-- The first piece of a batch that was served.
use Rattle.std.proofs.Common.{◌≡◌, ℕ, false, List, [], ◌∷◌, ◌++◌, Option, None, ap, ◌∙◌, subst}
use Rattle.std.specs.List.{list_any}
use Rattle.ds_kind.specs.Asks.{is_end}
use Rattle.ds_kind.specs.Parts.{requests_of}
use Rattle.ds_cell.specs.Store.{Store, StoreTxn}
use Rattle.ds_law.proofs.Failing.{runs-cut, status_of}
use Rattle.ds_rule.specs.declared.answer.Answer.TheVariants.{Done}
use Rattle.ds_rule.specs.declared.journal.JournalStep.TheVariants.{Send}
use Rattle.ds_rule.specs.Asking.{Asking, Gives, ask_all}
use Rattle.ds_rule.specs.Journal.{Happening, Did, Runs, accepted, pairs}
use Rattle.ds_rule.specs.Path.{IsHigh}
use Rattle.ds_rule.specs.Pieces.{Each, IsCut}
use Rattle.ds_rule.specs.Sending.{AllOf, left_of}
use Rattle.ds_rule.specs.World.{World}
use Rattle.ds_rule.proofs.Eachs.{each-left}
use Rattle.ds_rule.proofs.Passing.{told}
use Rattle.ds_rule.proofs.Service.{Service, service, takes}
use Rattle.ds_mean.specs.InTurn.{items_of}
use Rattle.ds_mean.specs.Midway.{Midway}
use Rattle.ds_mean.specs.Serving.{Served}
use Rattle.ds_mean.specs.Shows.{txn_after, writes_at}
use Rattle.ds_mean.specs.Told.{IsTold}
use Rattle.ds_mean.proofs.Coming.{map-both}
use Rattle.ds_mean.proofs.Middle.{midway-idle}
use Rattle.ds_mean.proofs.Serving.{served-shows}
use Rattle.ds_mean.proofs.Splitting.{Split, accepted-both, idle-accepts, of-later}
use Rattle.ds_mean.proofs.Turning.{AreResolved, asked-so, pairs-items}
use Rattle.ds_mean.proofs.Walking.{IsAsked, piece-endless, resolved-after, unlimited-head}

pub record FirstServed (s : ℕ) (q : Asking) (o : Option StoreTxn) (v : World) (p : Store) (hs : List Happening) (sp : Split hs) : Type 0 where
  pub first : World
  pub now : World
  pub midway : Midway s q (λ k. []) (λ k. writes_at k sp.before) (txn_after sp.before o) first p
  pub goes : status_of first sp.piece ≡ None
  pub head : sp.piece.head ≡ q.head
  pub cuts : Each (IsCut q.items) sp.piece.items
  pub endless : list_any is_end (requests_of sp.piece.items) ≡ false
  pub served : Served first now sp.piece sp.replies
  pub gives : ask_all q.head sp.piece.items served.held ≡ Gives served.out served.writes sp.replies
  pub runs : Runs now sp.later v

pub first-served : (s floor : ℕ) (q : Asking) → IsAsked s floor q → (hs : List Happening) (o : Option StoreTxn) (w v : World) (p : Store) → AreResolved o q → Each IsTold hs → Each (IsHigh floor) hs → AllOf q [] hs → Runs w hs v
    → Midway s q (λ k. []) (λ k. []) o w p → (sp : Split hs) → FirstServed s q o v p hs sp
first-served s floor q asked hs o w v p resolved kept high of runs m sp = record {
  first = cut.0;
  now = cut.2.0;
  midway = midway;
  goes = takes cut.0 sp.node sp.piece sv.range sv.goes;
  head = head;
  cuts = here.0.cuts;
  endless = endless;
  served = served;
  gives = asked-so s q (λ k. []) (λ k. writes_at k sp.before) (txn_after sp.before o) cut.0 cut.2.0 p sp.piece sp.replies midway here.0.cuts head asked.left (resolved-after q sp.before o resolved) served;
  runs = cut.2.2;
}
  where
    step : List Happening
    step = Did (Send sp.node sp.piece (Done sp.replies)) ∷ sp.later

    cut : (m : World) × Runs w sp.before m × Runs m step v
    cut = runs-cut w v sp.before step (subst (λ zs. Runs w zs v) sp.is runs)

    here : AllOf q ([] ++ accepted sp.before) step
    here = of-later q sp.before step [] (subst (AllOf q []) sp.is of)

    head : sp.piece.head ≡ q.head
    head = unlimited-head q ([] ++ accepted sp.before) sp.piece asked.left here.0

    endless : list_any is_end (requests_of sp.piece.items) ≡ false
    endless = piece-endless q (left_of q ([] ++ accepted sp.before)) sp.piece asked.endless here.0

    midway : Midway s q (λ k. []) (λ k. writes_at k sp.before) (txn_after sp.before o) cut.0 p
    midway = midway-idle s floor q (λ k. []) sp.before (λ k. []) o w cut.0 p sp.idle (each-left IsTold sp.before step (subst (Each IsTold) sp.is kept)) (each-left (IsHigh floor) sp.before step (subst (Each (IsHigh floor)) sp.is high)) asked.above cut.1 m

    sv : Service cut.0 sp.node sp.piece sp.replies
    sv = service cut.0 sp.node sp.piece sp.replies (told cut.0 (Send sp.node sp.piece (Done sp.replies)) cut.2.0 cut.2.1).0

    served : Served cut.0 cut.2.0 sp.piece sp.replies
    served = served-shows cut.0 cut.2.0 sp.node sp.piece sp.replies endless midway.keeps sv (told cut.0 (Send sp.node sp.piece (Done sp.replies)) cut.2.0 cut.2.1).1

-- what was accepted begins with its items
pub first-accepted : (s : ℕ) (q : Asking) (o : Option StoreTxn) (v : World) (p : Store) (hs : List Happening) (sp : Split hs) → FirstServed s q o v p hs sp
    → (accepted hs ≡ pairs sp.piece.head sp.piece.items sp.replies ++ accepted sp.later) × (items_of (accepted hs) ≡ sp.piece.items ++ items_of (accepted sp.later))
first-accepted s q o v p hs sp f =
    let all : accepted hs ≡ pairs sp.piece.head sp.piece.items sp.replies ++ accepted sp.later =
    ap accepted sp.is ∙ accepted-both sp.before (Did (Send sp.node sp.piece (Done sp.replies)) ∷ sp.later) ∙ ap (λ zs. zs ++ (pairs sp.piece.head sp.piece.items sp.replies ++ accepted sp.later)) (idle-accepts sp.before sp.idle)
    in (
      all,
      ap items_of all ∙ map-both (λ a. a.item) (pairs sp.piece.head sp.piece.items sp.replies) (accepted sp.later)
          ∙ ap (λ zs. zs ++ items_of (accepted sp.later)) (pairs-items q.head sp.piece.head sp.piece.items f.served.held f.served.out f.served.writes sp.replies f.gives),
    )
