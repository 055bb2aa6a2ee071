use Rattle.std.proofs.Common.{◌≡◌, false, Some, None, sym, subst, find}
use Rattle.ds_rule.specs.Pieces.{Each}
use Rattle.ds_rule.specs.World.{has_id}
use Rattle.ds_ranges.specs.Layout.{layout}
use Rattle.ds_ranges.specs.Places.{IsFirst}
use Rattle.ds_ranges.specs.Serving.{Applies, HoldsItems}
use Rattle.ds_ranges.proofs.Serving.{applied, applied-none, applied-sound}
use Rattle.ds_ranges.proofs.ranges.Ranges.apply.Goals as goal

pub invariant_of-self-in-Some : goal.invariant_of-self-in-Some
invariant_of-self-in-Some c =
    let p = c.args.piece.now in
    let rs = c.self.inside.items.items in
    let first : IsFirst (has_id c.args.piece.now.range) c.self.inside.items.items c.in-Some.at = subst (λ z. IsFirst (has_id p.range) z c.in-Some.at) c.as_slice-ranges.ensures.value c.in-Some.ensures.place in
    let holds : HoldsItems c.args.piece.now (find (has_id c.args.piece.now.range) c.self.inside.items.items) = subst (λ l. HoldsItems p (find (has_id p.range) l.ranges)) (sym c.self.view_is) c.requires.holds in
    applied-sound p c.args.records.now rs c.apply_at.new.ranges.items c.self.inside.lineage c.self.inside.places.items c.in-Some.at c.self.invariant first holds c.in_ok-apply_at-in-Some.ensures.after

pub returns-in_ok-apply_at-in-Some-clause-ok : goal.returns-in_ok-apply_at-in-Some-clause-ok
returns-in_ok-apply_at-in-Some-clause-ok c =
    let p = c.args.piece.now in
    let rs = c.self.inside.items.items in
    let first : IsFirst (has_id c.args.piece.now.range) c.self.inside.items.items c.in-Some.at = subst (λ z. IsFirst (has_id p.range) z c.in-Some.at) c.as_slice-ranges.ensures.value c.in-Some.ensures.place in
    subst (λ l. Applies p c.args.records.now c.apply_at.new.records l (layout c.apply_at.new.ranges.items c.self.inside.lineage) (Some c.in_ok-apply_at-in-Some.field-0)) c.self.view_is
    (applied p c.args.records.now c.apply_at.new.records rs c.apply_at.new.ranges.items c.self.inside.lineage c.in-Some.at c.in_ok-apply_at-in-Some.field-0 first c.in_ok-apply_at-in-Some.ensures.after c.in_ok-apply_at-in-Some.ensures.ok)

pub returns-in-None-clause-ok : goal.returns-in-None-clause-ok
returns-in-None-clause-ok c =
    let p = c.args.piece.now in
    let none : Each (λ r. has_id c.args.piece.now.range r ≡ false) c.self.inside.items.items = subst (Each (λ r. has_id p.range r ≡ false)) c.as_slice-ranges.ensures.value c.in-None.ensures.place in
    subst (λ l. Applies p c.args.records.now c.args.records.now l l None) c.self.view_is (applied-none p c.args.records.now c.self.inside.items.items c.self.inside.lineage none)
