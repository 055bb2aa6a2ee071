use Rattle.std.proofs.Common.{◌≤◌, sym, ◌∙◌, arith}
use Rattle.std.proofs.lemmas.Iterator.{YieldsList-from_chars}
use Rattle.std.proofs.lemmas.Iterator.Consumers.{YieldsList-turn, YieldsList-end}
use Rattle.ds_fields.proofs.Texts.{latin-other, latin-all, map_same}
use Rattle.ds_fields.proofs.scalars.latin.Goals as goal

pub returns-in_default : goal.returns-in_default
returns-in_default c =
    let t = YieldsList-turn (YieldsList-from_chars c.args.text.now c.utf8.text cc) c.loop-c.yielded _ c.loop-c.yielded_by _ _ c.in-Some.c c.in-Some.is c.next.ensures.steps in
    let big : 256 ≤ c.in-Some.c = omega (arith, c.in_default.ensures) in
    latin-other c.args.text.now _ c.in-Some.c t big

pub returns : goal.returns
returns c =
    let t = YieldsList-end (YieldsList-from_chars c.args.text.now c.utf8.text cc) c.loop-c.yielded _ c.loop-c.yielded_by _ _ c.in-None.is c.next.ensures.steps in
    latin-all c.args.text.now c.loop-c.bytes.items (c.loop-c.invariant.so_far ∙ (sym (map_same c.loop-c.yielded) ∙ t.0)) (rw c.loop-c.invariant.so_far c.loop-c.invariant.fit)
