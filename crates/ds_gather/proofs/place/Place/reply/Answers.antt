use Rattle.std.proofs.Common.{rules, ◌≡◌}
use Rattle.ds_gather.specs.Gathered.{in_direction}
use Rattle.ds_gather.proofs.Joining.{other_reply}
use Rattle.ds_gather.proofs.Ready.{rows_room, keys_room}
use Rattle.ds_gather.proofs.place.Place.reply.Goals as goal

pub join_rows-requires : goal.join_rows-requires
join_rows-requires c =
    let is : c.directed-arrivals.result.items ≡ in_direction c.args.self.wanted.down c.args.self.runs.items = search rules in
    rows_room c.args.self c.directed-arrivals.result.items c.requires is

pub join_keys-requires : goal.join_keys-requires
join_keys-requires c =
    let is : c.directed-arrivals.result.items ≡ in_direction c.args.self.wanted.down c.args.self.runs.items = search rules in
    keys_room c.args.self c.directed-arrivals.result.items c.requires is

pub returns-in_default : goal.returns-in_default
returns-in_default c =
    let is : c.directed-arrivals.result.items ≡ in_direction c.args.self.wanted.down c.args.self.runs.items = search rules in
    other_reply c.args.self c.directed-arrivals.result.items c.first_reply.result c.in_default.not-Rows c.in_default.not-Gone is c.first_reply.ensures
