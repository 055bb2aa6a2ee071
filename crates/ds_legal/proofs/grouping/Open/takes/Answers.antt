use Rattle.std.proofs.Common.{◌≡◌, not, ◌&&◌, false, cond, sym, ap, ◌∙◌}
use Rattle.ds_kind.specs.Asks.{flags_at, is_end}
use Rattle.ds_legal.specs.Mix.{mix_of, mix_fits}
use Rattle.ds_kind.specs.Parts.{requests_of}
use Rattle.ds_legal.proofs.MixFacts.{join_by_mix}
use Rattle.ds_legal.proofs.grouping.Open.takes.Goals as goal

pub returns-else-may_follow : goal.returns-else-may_follow
returns-else-may_follow c =
    let r = c.args.request.now in
    let m = c.self.inside.mix in
    let no : (not c.args.split_end && is_end r) ≡ false = sym c.may_follow.ensures ∙ c.if-may_follow.false in
    let known : m ≡ mix_of (requests_of c.args.self.now) = c.self.invariant ∙ ap (λ is. mix_of (requests_of is)) c.self.view_is in
    c.fits.ensures
    ∙ ap (mix_fits m) c.flags.ensures
    ∙ ap (λ t. cond t (not m.alone) (mix_fits m (flags_at r))) (sym no)
    ∙ sym (join_by_mix c.args.split_end (requests_of c.args.self.now) r m known)
