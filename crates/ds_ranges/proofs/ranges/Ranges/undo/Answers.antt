use Rattle.std.proofs.Common.{◌≡◌, [], false, sym, ap, ◌∙◌, subst}
use Rattle.ds_rule.specs.Pieces.{Each}
use Rattle.ds_rule.specs.World.{Tiles, has_id}
use Rattle.ds_ranges.specs.Layout.{layout}
use Rattle.ds_ranges.specs.Places.{IsFirst}
use Rattle.ds_ranges.specs.Serving.{put_back_at}
use Rattle.ds_ranges.proofs.Serving.{undone, undone-none, undone-sound}
use Rattle.ds_ranges.proofs.ranges.Ranges.undo.Goals as goal

pub invariant_of-self : goal.invariant_of-self
invariant_of-self c =
    let kept = c.args.undo.kept in
    let rs = c.self.inside.items.items in
    let first : IsFirst (has_id c.args.id) c.self.inside.items.items c.in-Some.at = subst (λ z. IsFirst (has_id c.args.id) z c.in-Some.at) c.as_slice-ranges.ensures.value c.in-Some.ensures.place in
    let tiled : Tiles [] (put_back_at c.args.id c.args.undo.kept c.self.inside.items.items) = subst (λ l. Tiles [] (put_back_at c.args.id kept l.ranges)) (sym c.self.view_is) c.requires in
    undone-sound c.args.id kept rs c.undo_at.new.ranges.items c.self.inside.lineage c.self.inside.places.items c.self.invariant tiled
    (undone c.args.id kept rs c.undo_at.new.ranges.items c.in-Some.at first c.undo_at.ensures.ranges)

pub returns-in-Some-clause-ranges : goal.returns-in-Some-clause-ranges
returns-in-Some-clause-ranges c =
    let kept = c.args.undo.kept in
    let rs = c.self.inside.items.items in
    let ds = c.self.inside.lineage in
    let first : IsFirst (has_id c.args.id) c.self.inside.items.items c.in-Some.at = subst (λ z. IsFirst (has_id c.args.id) z c.in-Some.at) c.as_slice-ranges.ensures.value c.in-Some.ensures.place in
    ap (λ zs. layout zs ds) (undone c.args.id kept rs c.undo_at.new.ranges.items c.in-Some.at first c.undo_at.ensures.ranges)
    ∙ ap (λ l. layout (put_back_at c.args.id kept l.ranges) l.descs) c.self.view_is

pub returns-in-None-clause-ranges : goal.returns-in-None-clause-ranges
returns-in-None-clause-ranges c =
    let kept = c.args.undo.kept in
    let ds = c.self.inside.lineage in
    let none : Each (λ r. has_id c.args.id r ≡ false) c.self.inside.items.items = subst (Each (λ r. has_id c.args.id r ≡ false)) c.as_slice-ranges.ensures.value c.in-None.ensures.place in
    sym c.self.view_is ∙ ap (λ zs. layout zs ds) (undone-none c.args.id kept c.self.inside.items.items none) ∙ ap (λ l. layout (put_back_at c.args.id kept l.ranges) l.descs) c.self.view_is
