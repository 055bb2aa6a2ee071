use Rattle.std.proofs.Common.{◌≡◌, false, subst}
use Rattle.ds_cell.specs.declared.entry.Version.{Version}
use Rattle.ds_rule.specs.Pieces.{Each}
use Rattle.ds_rule.specs.Shifts.{foreign_at}
use Rattle.ds_rule.specs.World.{holds_key}
use Rattle.ds_ranges.specs.Layout.{Became, layout}
use Rattle.ds_ranges.specs.Places.{IsFirst}
use Rattle.ds_ranges.proofs.Events.{write-became, write-none, write-sound, write-told}
use Rattle.ds_ranges.proofs.ranges.Ranges.write.Goals as goal

pub invariant_of-self-in-Some : goal.invariant_of-self-in-Some
invariant_of-self-in-Some c =
    let k = c.args.key.now in
    let v : Version = record { stamp = c.args.stamp; value = c.args.value } in
    let rs = c.self.inside.items.items in
    let first : IsFirst (holds_key k) c.self.inside.items.items c.in-Some.at = subst (λ z. IsFirst (holds_key k) z c.in-Some.at) c.as_slice.ensures.value c.in-Some.ensures.place in
    write-sound k v rs c.write_at.new.ranges.items c.self.inside.lineage c.self.inside.places.items c.self.invariant
    (write-told k v rs c.write_at.new.ranges.items c.in-Some.at first c.in_ok-write_at-in-Some.ensures.ok)

pub returns-in_ok-write_at-in-Some-clause-ok : goal.returns-in_ok-write_at-in-Some-clause-ok
returns-in_ok-write_at-in-Some-clause-ok c =
    let k = c.args.key.now in
    let v : Version = record { stamp = c.args.stamp; value = c.args.value } in
    let rs = c.self.inside.items.items in
    let first : IsFirst (holds_key k) c.self.inside.items.items c.in-Some.at = subst (λ z. IsFirst (holds_key k) z c.in-Some.at) c.as_slice.ensures.value c.in-Some.ensures.place in
    subst (λ z. Became (foreign_at k v) z (layout c.write_at.new.ranges.items c.self.inside.lineage)) c.self.view_is
    (write-became k v rs c.write_at.new.ranges.items c.self.inside.lineage (write-told k v rs c.write_at.new.ranges.items c.in-Some.at first c.in_ok-write_at-in-Some.ensures.ok))

pub returns-in-None-clause-ok : goal.returns-in-None-clause-ok
returns-in-None-clause-ok c =
    let k = c.args.key.now in
    let v : Version = record { stamp = c.args.stamp; value = c.args.value } in
    let none : Each (λ r. holds_key k r ≡ false) c.self.inside.items.items = subst (Each (λ r. holds_key k r ≡ false)) c.as_slice.ensures.value c.in-None.ensures.place in
    subst (λ z. Became (foreign_at k v) z z) c.self.view_is (write-none k v c.self.inside.items.items c.self.inside.lineage none)
