use Rattle.std.proofs.Common.{◌≡◌, [], length, refl, sym, ◌∙◌, Some}
use Rattle.std.specs.List.{slice_get}
use Rattle.std.proofs.lemmas.Option.{slice_get_read}
use Rattle.ds_rule.specs.World.{has_id, holds_key}
use Rattle.ds_ranges.proofs.Finding.{first-both, none-both, other-id}
use Rattle.ds_ranges.proofs.find.place_from.Goals as goal

pub returns-then-has_id-clause-place : goal.returns-then-has_id-clause-place
returns-then-has_id-clause-place c =
    let ranges = c.args.ranges.now in
    let there : slice_get ranges c.in-Some.at ≡ Some c.index-ranges-at.result = slice_get_read ranges (length ranges) c.in-Some.at c.index-ranges-at.result refl c.in-Some.ensures.within c.index-ranges-at.is in
    first-both (holds_key c.args.key.now) (has_id c.args.id) ranges c.in-Some.at c.index-ranges-at.result c.requires.over c.in-Some.ensures.place there (sym c.has_id.ensures ∙ c.if-has_id.true)

pub returns-else-has_id-clause-place : goal.returns-else-has_id-clause-place
returns-else-has_id-clause-place c =
    let ranges = c.args.ranges.now in
    let there : slice_get ranges c.in-Some.at ≡ Some c.index-ranges-at.result = slice_get_read ranges (length ranges) c.in-Some.at c.index-ranges-at.result refl c.in-Some.ensures.within c.index-ranges-at.is in
    other-id c.args.key.now [] c.args.id ranges c.in-Some.at c.index-ranges-at.result c.requires.tiled c.requires.over c.in-Some.ensures.place there (sym c.has_id.ensures ∙ c.if-has_id.false)

pub returns-in-None-clause-place : goal.returns-in-None-clause-place
returns-in-None-clause-place c = none-both (holds_key c.args.key.now) (has_id c.args.id) c.args.ranges.now c.requires.over c.in-None.ensures.place
