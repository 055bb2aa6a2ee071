use Rattle.std.proofs.Common.{◌≡◌, ◌++◌, map}
use Rattle.serde_json.specs.View.{members_view}
use Rattle.ds_fields.specs.Members.{all_named}
use Rattle.ds_fields.proofs.members.all_named.Given as goal

abbrev pub invariant-loop-name : goal.invariant-loop-name
invariant-loop-name l =
    let names = map (λ n. n.now) l.common ++ map (λ n. n.now) l.names in
    all_named names (members_view l.name-iterator) ≡ all_named names (members_view l.members.entries)
