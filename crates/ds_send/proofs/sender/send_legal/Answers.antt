use Rattle.std.proofs.Common.{◌≡◌, Some, sym, ap, ◌∙◌}
use Rattle.ds_kind.specs.Numbers.{numbers_from}
use Rattle.ds_kind.specs.Parts.{items_from}
use Rattle.ds_rule.specs.Asking.{Asking, asking}
use Rattle.ds_iter.proofs.RowSteps.{on_err}
use Rattle.ds_rule.specs.Pieces.{parts_apart}
use Rattle.ds_send.specs.Asked.{asker_in, last_in}
use Rattle.ds_send.specs.Calls.{Broke}
use Rattle.ds_send.proofs.Calling.{broke-none}
use Rattle.ds_send.proofs.Movable.{movable}
use Rattle.ds_send.proofs.sender.send_legal.Goals as goal

pub returns-in_err-asked-clause-broke : goal.returns-in_err-asked-clause-broke
returns-in_err-asked-clause-broke g c =
    let a = g.W.Wire.state c.args.wire.now in
    let es = c.args.cache.now.entries in
    let broke : (q : Asking) → asking (asker_in c.args.txn) c.args.legal.now ≡ Some q → Broke c.args.budget q a a es es = λ q asks. broke-none c.args.budget q a es c.requires.some_tries in
    on_err _ _ broke

pub returns-in_err-parts-clause-broke : goal.returns-in_err-parts-clause-broke
returns-in_err-parts-clause-broke g c =
    let a = g.W.Wire.state c.args.wire.now in
    let es = c.args.cache.now.entries in
    let broke : (q : Asking) → asking (asker_in c.args.txn) c.args.legal.now ≡ Some q → Broke c.args.budget q a a es es = λ q asks. broke-none c.args.budget q a es c.requires.some_tries in
    on_err _ _ broke

pub send_moving-requires-clause-movable : goal.send_moving-requires-clause-movable
send_moving-requires-clause-movable g c =
    let rs = c.args.legal.now.requests in
    let asks : asking (asker_in c.args.txn) c.args.legal.now ≡ Some c.in-Some.asked = sym c.in_ok-asked.ensures ∙ c.in-Some.is in
    movable c.args.txn c.args.legal.now c.in-Some.asked c.in_ok-parts.parts c.batch.ensures.legal c.requires.can asks
    (c.in_ok-parts.ensures ∙ ap (λ s. parts_apart (items_from 0 rs (numbers_from s.0 rs))) (c.last_before.ensures ∙ ap (λ b. last_in b.at c.args.txn) c.batch.ensures.batch))
