use Rattle.std.proofs.Common.{◌≡◌, ◌+◌, ◌∙◌, ap, length, arith}
use Rattle.std.proofs.lemmas.List.{length_push}
use Rattle.ds_ranges.proofs.Parting.{two-noted}
use Rattle.ds_ranges.proofs.shape.note_two.Goals as goal

pub note-requires : goal.note-requires
note-requires c =
    let grown : length c.push_reserved.new.self.items ≡ length c.args.places.now.items + 1 = ap length c.push_reserved.ensures.items ∙ length_push c.args.places.now.items c.args.second in
    omega (arith, grown, c.requires.within)

pub returns : goal.returns
returns c = two-noted c.args.places.now.items c.push_reserved.new.self.items c.note.new.places.items c.args.id c.args.first c.args.second c.requires.within c.push_reserved.ensures.items c.note.ensures
