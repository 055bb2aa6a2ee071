use Rattle.std.proofs.Common.{rules, ◌≡◌, ◌++◌, ◌∷◌, [], false, is_some}
use Rattle.ds_cell.specs.Ask.{content_at}
use Rattle.ds_cell.specs.Seen.{last_of}
use Rattle.ds_range.proofs.Covering.{covers_less, covers_more}
use Rattle.ds_range.proofs.settle.note.Goals as goal

pub returns-in_ok-push : goal.returns-in_ok-push
returns-in_ok-push c = λ rest h.
    let more : c.push.new.self ≡ c.args.written.now ++ c.args.key.now ∷ [] = search rules in
    covers_more c.args.key.now rest c.args.written.now c.push.new.self c.args.cells.now.entries more h

pub returns-else-has_writes : goal.returns-else-has_writes
returns-else-has_writes c = λ rest h.
    let none : is_some (last_of (content_at c.args.key.now c.args.cells.now.entries).history) ≡ false = search rules in
    covers_less c.args.key.now (rest ++ c.args.written.now) c.args.cells.now.entries c.ordered.ensures none h
