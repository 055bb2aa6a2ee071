use Rattle.std.proofs.Common.{◌≡◌, ◌<◌, length, sym, ap, ◌∙◌, subst}
use Rattle.ds_rule.specs.Clauses.{next_pick}
use Rattle.ds_flight.specs.Places.{nth_routed, waiting}
use Rattle.ds_flight.proofs.Picking.{found-within, never-none, never-rest, pick-low, taken-next}
use Rattle.ds_flight.proofs.sent.take_next.Goals as goal

pub unreachable-requires : goal.unreachable-requires
unreachable-requires g c =
    let waits : c.routed_count-waiting.result ≡ waiting c.args.work.now.items = c.routed_count-waiting.ensures ∙ ap waiting c.as_slice.ensures.value in
    let picked : c.pick-pick.result ≡ next_pick (g.W.Wire.state c.args.wire.now).ahead (waiting c.args.work.now.items) = c.pick-pick.ensures.picked ∙ ap (next_pick (g.W.Wire.state c.args.wire.now).ahead) waits in
    let low : c.pick-pick.result < waiting c.args.work.now.items = subst (λ n. n < waiting c.args.work.now.items) (sym picked) (pick-low _ (waiting c.args.work.now.items) c.requires.some) in
    never-none c.pick-pick.result c.args.work.now.items low (ap (nth_routed c.pick-pick.result) (sym c.as_slice-2.ensures.value) ∙ sym c.nth_routed.ensures ∙ c.in_default.is)

pub remove-requires : goal.remove-requires
remove-requires g c =
    let low = found-within c.pick-pick.result c.in-Some.at c.args.work.now.items (ap (nth_routed c.pick-pick.result) (sym c.as_slice-2.ensures.value) ∙ sym c.nth_routed.ensures ∙ c.in-Some.is) in
    subst (λ n. c.in-Some.at < n) (ap length (sym c.as_slice-2.ensures.value) ∙ c.as_slice-2.ensures.len) low

pub unreachable-requires-in_default-remove : goal.unreachable-requires-in_default-remove
unreachable-requires-in_default-remove g c =
    never-rest c.pick-pick.result c.in-Some.at c.args.work.now.items c.remove.result c.in_default-remove.field-0
    (ap (nth_routed c.pick-pick.result) (sym c.as_slice-2.ensures.value) ∙ sym c.nth_routed.ensures ∙ c.in-Some.is) c.remove.ensures.value c.in_default-remove.is

pub returns-clause-taken : goal.returns-clause-taken
returns-clause-taken g c =
    let waits : c.routed_count-waiting.result ≡ waiting c.args.work.now.items = c.routed_count-waiting.ensures ∙ ap waiting c.as_slice.ensures.value in
    taken-next (g.W.Wire.state c.args.wire.now).ahead c.args.work.now.items c.remove.new.self.items c.pick-pick.result c.in-Some.at c.remove.result c.in-Routed.flying
    (c.pick-pick.ensures.picked ∙ ap (next_pick (g.W.Wire.state c.args.wire.now).ahead) waits)
    (ap (nth_routed c.pick-pick.result) (sym c.as_slice-2.ensures.value) ∙ sym c.nth_routed.ensures ∙ c.in-Some.is) c.remove.ensures.value c.remove.ensures.items c.in-Routed.is
