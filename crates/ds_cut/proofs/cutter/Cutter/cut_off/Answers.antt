use Rattle.std.proofs.Common.{rules, ◌≡◌, ◌∙◌, length, sym, ap, subst}
use Rattle.ds_cover.specs.Cuts.{seek_key, rest_items, cut_items}
use Rattle.ds_cover.specs.Items.{AreProper}
use Rattle.ds_cover.proofs.Proper.{rest-proper}
use Rattle.ds_cut.specs.Fates.{AreFates}
use Rattle.ds_cut.specs.Pieces.{piece_with, cut_piece, rest_part}
use Rattle.ds_cut.proofs.Meaning.{cut-meaning}
use Rattle.ds_cut.proofs.Parting.{fates_same, left_so, kept_so, cut_so_far}
use Rattle.ds_cut.proofs.cutter.Cutter.cut_off.Goals as goal

pub seek_left-requires-clause-same : goal.seek_left-requires-clause-same
seek_left-requires-clause-same c =
    let all : AreFates c.self.inside.dir c.args.desc.now.span c.self.inside.rest c.in_ok-fates.fates.items = subst (λ l. AreFates c.self.inside.dir c.args.desc.now.span l c.in_ok-fates.fates.items) c.as_slice.ensures c.in_ok-fates.ensures in
    ap length c.as_slice-3.ensures.value ∙ fates_same _ _ _ _ all ∙ ap length (sym c.as_slice-2.ensures)

pub seek_left-requires-clause-proper : goal.seek_left-requires-clause-proper
seek_left-requires-clause-proper c =
    let all : AreFates c.self.inside.dir c.args.desc.now.span c.self.inside.rest c.in_ok-fates.fates.items = subst (λ l. AreFates c.self.inside.dir c.args.desc.now.span l c.in_ok-fates.fates.items) c.as_slice.ensures c.in_ok-fates.ensures in
    subst AreProper (sym (left_so _ _ _ _ _ _ all c.as_slice-2.ensures c.as_slice-3.ensures.value)) (rest-proper c.self.inside.dir c.args.desc.now.span c.self.inside.rest c.self.invariant.1)

pub share-requires-clause-same : goal.share-requires-clause-same
share-requires-clause-same c =
    let all : AreFates c.self.inside.dir c.args.desc.now.span c.self.inside.rest c.in_ok-fates.fates.items = subst (λ l. AreFates c.self.inside.dir c.args.desc.now.span l c.in_ok-fates.fates.items) c.as_slice.ensures c.in_ok-fates.ensures in
    let items : c.into_vec.result.items ≡ c.self.inside.rest = search rules in
    fates_same _ _ _ _ all ∙ ap length (sym items)

kept : (c : goal.After-piece_of) → c.from_vec.result ≡ rest_items c.self.inside.dir c.args.desc.now.span c.self.inside.rest
kept c =
    let all : AreFates c.self.inside.dir c.args.desc.now.span c.self.inside.rest c.in_ok-fates.fates.items = subst (λ l. AreFates c.self.inside.dir c.args.desc.now.span l c.in_ok-fates.fates.items) c.as_slice.ensures c.in_ok-fates.ensures in
    let items : c.into_vec.result.items ≡ c.self.inside.rest = search rules in
    c.from_vec.ensures ∙ kept_so _ _ _ _ _ _ _ all items c.in_ok-left.ensures.items c.share.ensures.left

cut : (c : goal.After-piece_of) → c.from_vec-2.result ≡ cut_items c.args.desc.now.span c.self.inside.rest
cut c =
    let all : AreFates c.self.inside.dir c.args.desc.now.span c.self.inside.rest c.in_ok-fates.fates.items = subst (λ l. AreFates c.self.inside.dir c.args.desc.now.span l c.in_ok-fates.fates.items) c.as_slice.ensures c.in_ok-fates.ensures in
    let items : c.into_vec.result.items ≡ c.self.inside.rest = search rules in
    c.from_vec-2.ensures ∙ cut_so_far _ _ _ _ _ _ _ all items c.in_ok-cut.ensures.items c.share.ensures.cut

pub invariant_of-self : goal.invariant_of-self
invariant_of-self c =
    let all : AreFates c.self.inside.dir c.args.desc.now.span c.self.inside.rest c.in_ok-fates.fates.items = subst (λ l. AreFates c.self.inside.dir c.args.desc.now.span l c.in_ok-fates.fates.items) c.as_slice.ensures c.in_ok-fates.ensures in (
      c.in_ok-seek.ensures ∙ ap (seek_key c.self.inside.dir) (left_so _ _ _ _ _ _ all c.as_slice-2.ensures c.as_slice-3.ensures.value ∙ sym (kept c)),
      subst AreProper (sym (kept c)) (rest-proper c.self.inside.dir c.args.desc.now.span c.self.inside.rest c.self.invariant.1),
    )

pub returns-clause-piece : goal.returns-clause-piece
returns-clause-piece c =
    let is : c.piece_of.result ≡ piece_with c.args.head.now c.args.desc.now.id c.self.inside.dir c.from_vec-2.result = search rules in
    is ∙ ap (piece_with c.args.head.now c.args.desc.now.id c.self.inside.dir) (cut c) ∙ ap (cut_piece c.args.head.now c.args.desc.now) c.self.view_is

pub returns-clause-rest : goal.returns-clause-rest
returns-clause-rest c = ap (λ z. record { items = z; dir = c.self.inside.dir }) (kept c) ∙ ap (rest_part c.args.desc.now) c.self.view_is

pub returns-clause-meaning : goal.returns-clause-meaning
returns-clause-meaning c =
    let is : c.piece_of.result ≡ piece_with c.args.head.now c.args.desc.now.id c.self.inside.dir c.from_vec-2.result = search rules in
    cut-meaning c.args.head.now c.args.desc.now c.args.self.now c.self.inside.rest c.self.inside.dir c.from_vec-2.result c.piece_of.result c.from_vec.result
    c.self.view_is c.self.invariant.1 c.requires is (cut c) (kept c)
