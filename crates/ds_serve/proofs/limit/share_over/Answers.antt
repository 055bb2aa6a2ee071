use Rattle.std.proofs.Common.{rules, ◌≡◌, Some}
use Rattle.ds_rule.specs.Limited.{last_taken, taken_keys}
use Rattle.ds_serve.proofs.Limits.{taken_room}
use Rattle.ds_serve.proofs.limit.share_over.Goals as goal

pub share_to-requires-clause-room : goal.share_to-requires-clause-room
share_to-requires-clause-room c =
    let is : Some c.in-Some.last ≡ last_taken c.args.more (taken_keys c.args.item.now.request c.args.at c.args.cells.now.entries) = search rules in
    taken_room c.args.item.now.request c.args.at c.args.start.now c.args.end.now c.args.cells.now.entries c.args.more c.in-Some.last c.requires.reach c.requires.room is
