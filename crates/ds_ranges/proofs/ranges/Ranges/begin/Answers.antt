use Rattle.std.proofs.Common.{rules, ◌≡◌, [], ap, ◌∙◌, sym, subst, length, arith}
use Rattle.ds_rule.specs.Begin.{ranges_of}
use Rattle.ds_rule.specs.World.{Tiles}
use Rattle.ds_ranges.specs.Layout.{own_descs}
use Rattle.ds_ranges.proofs.Starting.{begun-sound, first-long, first-tiled}
use Rattle.ds_ranges.proofs.ranges.Ranges.begin.Goals as goal

pub first_lineage-requires : goal.first_lineage-requires
first_lineage-requires c =
    let is : c.as_slice.result.now ≡ ranges_of 1 c.args.ranges.now = search rules in
    subst (Tiles []) (sym is) (first-tiled c.args.ranges.now c.requires.tiled)

pub first_places-requires : goal.first_places-requires
first_places-requires c =
    let is : c.in_ok-items.items.items ≡ ranges_of 1 c.args.ranges.now = search rules in
    let count : c.len.result ≡ length c.in_ok-items.items.items = search rules in
    let long : c.len.result ≡ length c.args.ranges.now = count ∙ ap length is ∙ first-long 1 c.args.ranges.now in
    omega (arith, long, c.requires.few)

pub invariant_of-result : goal.invariant_of-result
invariant_of-result c =
    let is : c.in_ok-items.items.items ≡ ranges_of 1 c.args.ranges.now = search rules in
    let lineage : c.in_ok-lineage.lineage ≡ own_descs c.in_ok-items.items.items = search rules in
    let count : c.len.result ≡ length c.in_ok-items.items.items = search rules in
    begun-sound c.args.ranges.now c.in_ok-items.items.items c.in_ok-lineage.lineage c.in_ok-places.places.items c.len.result c.requires.tiled c.requires.leased is lineage count c.in_ok-places.ensures
