use Rattle.std.proofs.Common.{◌≡◌, subst, false}
use Rattle.ds_rule.specs.Pieces.{Each}
use Rattle.ds_rule.specs.Shifts.{lease_in, lease_to}
use Rattle.ds_rule.specs.World.{holds_key}
use Rattle.ds_ranges.specs.Layout.{Became, layout}
use Rattle.ds_ranges.specs.Places.{IsFirst}
use Rattle.ds_ranges.proofs.Events.{became-none, lease-became, lease-sound, lease-told}
use Rattle.ds_ranges.proofs.ranges.Ranges.lease.Goals as goal

pub invariant_of-self : goal.invariant_of-self
invariant_of-self c =
    let k = c.args.key.now in
    let n = c.args.node in
    let rs = c.self.inside.items.items in
    let first : IsFirst (holds_key k) c.self.inside.items.items c.in-Some.at = subst (λ z. IsFirst (holds_key k) z c.in-Some.at) c.as_slice.ensures.value c.in-Some.ensures.place in
    lease-sound k n rs c.lease_at.new.ranges.items c.self.inside.lineage c.self.inside.places.items c.self.invariant (lease-told k n rs c.lease_at.new.ranges.items c.in-Some.at first c.lease_at.ensures)

pub returns-in-Some : goal.returns-in-Some
returns-in-Some c =
    let k = c.args.key.now in
    let n = c.args.node in
    let rs = c.self.inside.items.items in
    let first : IsFirst (holds_key k) c.self.inside.items.items c.in-Some.at = subst (λ z. IsFirst (holds_key k) z c.in-Some.at) c.as_slice.ensures.value c.in-Some.ensures.place in
    subst (λ z. Became (lease_to k n) z (layout c.lease_at.new.ranges.items c.self.inside.lineage)) c.self.view_is
    (lease-became k n rs c.lease_at.new.ranges.items c.self.inside.lineage (lease-told k n rs c.lease_at.new.ranges.items c.in-Some.at first c.lease_at.ensures))

pub returns-in-None : goal.returns-in-None
returns-in-None c =
    let k = c.args.key.now in
    let n = c.args.node in
    let none : Each (λ r. holds_key k r ≡ false) c.self.inside.items.items = subst (Each (λ r. holds_key k r ≡ false)) c.as_slice.ensures.value c.in-None.ensures.place in
    subst (λ z. Became (lease_to k n) z z) c.self.view_is (became-none (lease_in n) k c.self.inside.items.items c.self.inside.lineage none)
