use Rattle.std.proofs.Common.{◌≡◌, [], rules}
use Rattle.ds_cut.specs.Pieces.{piece_with}
use Rattle.ds_cut.proofs.Whole.{IsTaken, all-taken}
use Rattle.ds_cut.proofs.cutter.Cutter.take_all.Goals as goal

taken : (c : goal.After-piece_of) → IsTaken c.args.head.now c.args.desc.now c.args.self.now c.piece_of.result (record { items = c.replace-all.new.dest; dir = c.self.inside.dir })
taken c =
    let is : c.piece_of.result ≡ piece_with c.args.head.now c.args.desc.now.id c.self.inside.dir c.self.inside.rest = search rules in
    let none : c.replace-all.new.dest ≡ [] = search rules in
    all-taken c.args.head.now c.args.desc.now c.args.self.now c.self.inside.rest c.self.inside.dir c.piece_of.result c.replace-all.new.dest
    c.self.view_is c.self.invariant.1 c.requires.seek c.requires.within is none

pub returns-clause-piece : goal.returns-clause-piece
returns-clause-piece c = (taken c).0

pub returns-clause-rest : goal.returns-clause-rest
returns-clause-rest c = (taken c).1

pub returns-clause-meaning : goal.returns-clause-meaning
returns-clause-meaning c = (taken c).2
