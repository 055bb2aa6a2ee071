-- A delivery, told by what the range with the piece's id makes of it.
use Rattle.std.proofs.Common.{◌≡◌, ℕ, true, false, cond, List, [], ◌∷◌, Option, Some, None, refl, sym, ap, ◌∙◌, subst, Result, Ok, Err, IfOk, OnErr}
use Rattle.std.specs.List.{find}
use Rattle.std.specs.Option.{option_map}
use Rattle.std.specs.declared.alloc.AllocError.{AllocError}
use Rattle.ds_base.proofs.SmallFacts.{none_some, some_none, some_same}
use Rattle.ds_desc.specs.declared.refusal.Refusal.TheVariants.{NotFound}
use Rattle.ds_kind.specs.declared.batch.Piece.{Piece}
use Rattle.ds_kind.specs.declared.reply.Reply.{Reply}
use Rattle.ds_range.specs.Evaluates.{answer_to}
use Rattle.ds_range.specs.Keeps.{Kept}
use Rattle.ds_range.specs.Serves.{after_made}
use Rattle.ds_range.specs.declared.piece.Evaluation.{Evaluation}
use Rattle.ds_rule.specs.declared.answer.Answer.{Answer}
use Rattle.ds_rule.specs.declared.answer.Answer.TheVariants.{Done, Failed, Refused}
use Rattle.ds_rule.specs.declared.record.TxnRecord.{TxnRecord}
use Rattle.ds_rule.specs.Asking.{Made, Gives, Fails, finished}
use Rattle.ds_rule.specs.Deliver.{Stop, answer_at, answer_made, deliver_answer_to, deliver_world_to, served, stop_answer, with_cells, world_at, world_made}
use Rattle.ds_rule.specs.Endings.{records_made}
use Rattle.ds_rule.specs.World.{World, Range, Tiles, has_id, replaced}
use Rattle.ds_rule.proofs.Service.{held}
use Rattle.ds_ranges.specs.Layout.{Became, Layout, layout}
use Rattle.ds_ranges.specs.Serving.{Applies, HoldsItems, answered_at, held_at, made_of, put_back_at, records_at}
use Rattle.ds_ranges.specs.Sound.{bare}
use Rattle.ds_sim.specs.Done.{Delivers, having, shift_all, shifts_in, shifts_of, stops_at}
use Rattle.ds_sim.proofs.Done.{all-parts, recorded}

-- ---- turned away

turned-at : (node : ℕ) (p : Piece) (l : Layout) (ts : List TxnRecord) (o : Option Range) (x : Stop) → find (has_id p.range) l.ranges ≡ o → stops_at l ts node p o ≡ Some x → Delivers node p l l ts ts (stop_answer x)
turned-at node p l ts None x found is = none_some x is
turned-at node p l ts (Some r) x found is = record {
  answer = λ w. sym (ap (deliver_answer_to (having l ts w) node p) found ∙ ap (answer_at (having l ts w) p r) is);
  after = λ w. sym (ap (deliver_world_to (having l ts w) node p) found ∙ ap (world_at (having l ts w) p r) is);
}

stopped : (o : Option Stop) (a : Answer) → Some a ≡ option_map stop_answer o → (x : Stop) × (o ≡ Some x) × (a ≡ stop_answer x)
stopped None a h = some_none a h
stopped (Some x) a h = (x, refl, some_same a (stop_answer x) h)

-- the range does not serve the piece
pub turned : (node : ℕ) (p : Piece) (l : Layout) (ts : List TxnRecord) (a : Answer) → Some a ≡ option_map stop_answer (stops_at l ts node p (find (has_id p.range) l.ranges)) → Delivers node p l l ts ts a
turned node p l ts a h =
    let s = stopped (stops_at l ts node p (find (has_id p.range) l.ranges)) a h in
    subst (Delivers node p l l ts ts) (sym s.2) (turned-at node p l ts (find (has_id p.range) l.ranges) s.0 refl s.1)

-- ---- served

not_stopped : (o : Option Stop) → None ≡ option_map stop_answer o → o ≡ None
not_stopped None h = refl
not_stopped (Some x) h = none_some (stop_answer x) h

holds-at : (node : ℕ) (p : Piece) (l : Layout) (ts : List TxnRecord) (o : Option Range) → stops_at l ts node p o ≡ None → HoldsItems p o
holds-at node p l ts None is = tt
holds-at node p l ts (Some r) is = held (having l ts bare) node p r is

-- what isn't turned away lies in the range
pub lies-in : (node : ℕ) (p : Piece) (l : Layout) (ts : List TxnRecord) → None ≡ option_map stop_answer (stops_at l ts node p (find (has_id p.range) l.ranges)) → HoldsItems p (find (has_id p.range) l.ranges)
lies-in node p l ts h = holds-at node p l ts (find (has_id p.range) l.ranges) (not_stopped _ h)

-- no range has the id
none-at : (node : ℕ) (p : Piece) (l m : Layout) (ts us : List TxnRecord) (o : Option Range) → find (has_id p.range) l.ranges ≡ o → None ≡ answered_at ts p o → Became (held_at ts p o) l m → us ≡ records_at ts p o → Delivers node p l m ts us (Refused NotFound)
none-at node p l m ts us (Some r) found answer after records = none_some (answer_made (made_of ts p r)) answer
none-at node p l m ts us None found answer after records = record {
  answer = λ w. sym (ap (deliver_answer_to (having l ts w) node p) found);
  after = λ w. ap (recorded us) (after w) ∙ ap (λ zs. having l zs w) records ∙ sym (ap (deliver_world_to (having l ts w) node p) found);
}

pub not-there : (node : ℕ) (p : Piece) (l m : Layout) (ts us : List TxnRecord) → Applies p ts us l m None → Delivers node p l m ts us (Refused NotFound)
not-there node p l m ts us a = none-at node p l m ts us (find (has_id p.range) l.ranges) refl a.answer a.after a.records

-- a range given what it holds
holds-same : (id : ℕ) (rs : List Range) (r : Range) → find (has_id id) rs ≡ Some r → replaced (has_id id) (λ z. record z { cells = r.cells }) rs ≡ rs
holds-same id [] r found = refl
holds-same id (q ∷ rs) r found =
    elim (has_id id q) as (λ b. cond b (Some q) (find (has_id id) rs) ≡ Some r → cond b (record q { cells = r.cells } ∷ rs) (q ∷ replaced (has_id id) (λ z. record z { cells = r.cells }) rs) ≡ q ∷ rs) [
      | true ↦ λ h. ap (λ z. record q { cells = z.cells } ∷ rs) (sym (some_same q r h))
      | false ↦ λ h. ap (λ zs. q ∷ zs) (holds-same id rs r h)
    ] found

-- the world after what was made, whatever else it has
made-world : (p : Piece) (l m n : Layout) (ts us : List TxnRecord) (e : Evaluation) (r : Range) (made : Made) → find (has_id p.range) l.ranges ≡ Some r → answer_to e ≡ answer_made made → Became (with_cells p.range (after_made p.head made r.cells)) l m → us ≡ records_made p.head p.items made ts → Became (shift_all (shifts_in p e)) m n → (w : World) → having n us w ≡ world_made (having l ts w) p made
made-world p l m n ts us (Evaluation.Failed f) r (Gives cells ws qs) found answer after records shifted w = let no : Failed f ≡ Done qs = answer in cc
made-world p l m n ts us (Evaluation.Served rs undo) r (Fails f) found answer after records shifted w = let no : Done rs ≡ Failed f = answer in cc
made-world p l m n ts us (Evaluation.Failed f) r (Fails g) found answer after records shifted w =
    ap (recorded us) (shifted w ∙ after w) ∙ ap (λ zs. record w { ranges = zs; descs = l.descs; records = us }) (holds-same p.range l.ranges r found)
    ∙ ap (λ zs. having l zs w) records
made-world p l m n ts us (Evaluation.Served rs undo) r (Gives cells ws qs) found answer after records shifted w =
    let same : rs ≡ qs = done_same rs qs answer in
    let v : World = recorded ts w in
    ap (recorded us) (shifted v ∙ ap (shift_all (shifts_of p.items rs)) (after v))
    ∙ ap (λ zs. recorded us (shift_all (shifts_of p.items zs) (with_cells p.range (finished p.head ws cells) (having l ts w)))) same
    ∙ ap (λ zs. recorded zs (shift_all (shifts_of p.items qs) (with_cells p.range (finished p.head ws cells) (having l ts w)))) records
    ∙ sym (all-parts p.head p.items qs (with_cells p.range (finished p.head ws cells) (having l ts w)))
  where
    done_same : (rs qs : List Reply) → Done rs ≡ Done qs → rs ≡ qs
    done_same rs qs h = cc

some-at : (node : ℕ) (p : Piece) (l m n : Layout) (ts us : List TxnRecord) (e : Evaluation) (o : Option Range) → find (has_id p.range) l.ranges ≡ o → stops_at l ts node p o ≡ None → Some (answer_to e) ≡ answered_at ts p o → Became (held_at ts p o) l m → us ≡ records_at ts p o → Became (shift_all (shifts_in p e)) m n → Delivers node p l n ts us (answer_to e)
some-at node p l m n ts us e None found goes answer after records shifted = some_none (answer_to e) answer
some-at node p l m n ts us e (Some r) found goes answer after records shifted =
    let says : answer_to e ≡ answer_made (made_of ts p r) = some_same (answer_to e) (answer_made (made_of ts p r)) answer in
    record {
      answer = λ w. says ∙ sym (ap (deliver_answer_to (having l ts w) node p) found ∙ ap (answer_at (having l ts w) p r) goes);
      after = λ w. made-world p l m n ts us e r (made_of ts p r) found says after records shifted w ∙ sym (ap (deliver_world_to (having l ts w) node p) found ∙ ap (world_at (having l ts w) p r) goes);
    }

-- the range serves the piece, and then the keys lie in ranges as its items say
pub serves : (node : ℕ) (p : Piece) (l m n : Layout) (ts us : List TxnRecord) (e : Evaluation) → None ≡ option_map stop_answer (stops_at l ts node p (find (has_id p.range) l.ranges)) → Applies p ts us l m (Some e) → Became (shift_all (shifts_in p e)) m n → Delivers node p l n ts us (answer_to e)
serves node p l m n ts us e goes a shifted =
    some-at node p l m n ts us e (find (has_id p.range) l.ranges) refl (not_stopped _ goes) a.answer a.after a.records shifted

-- ---- over what the calls say

pub noted-ok : (node : ℕ) (p : Piece) (l m : Layout) (ts us : List TxnRecord) (b : Answer) (r : Result Answer AllocError) → Delivers node p l m ts us b → IfOk r (λ a. a ≡ b) → IfOk r (λ a. Delivers node p l m ts us a)
noted-ok node p l m ts us b (Ok a) d is = subst (Delivers node p l m ts us) (sym is) d
noted-ok node p l m ts us b (Err e) d is = tt

pub on-err : {T X : Type 0} (r : Result T AllocError) → X → OnErr r X
on-err (Ok a) x = tt
on-err (Err e) x = x

-- ---- undone

nothing-back : (id : ℕ) (rs : List Range) → put_back_at id [] rs ≡ rs
nothing-back id [] = refl
nothing-back id (r ∷ rs) =
    elim (has_id id r) as (λ b. cond b (r ∷ rs) (r ∷ put_back_at id [] rs) ≡ r ∷ rs) [
      | true ↦ refl
      | false ↦ ap (λ zs. r ∷ zs) (nothing-back id rs)
    ]

-- a piece that failed changed nothing
pub failed-back : (id : ℕ) (l m : Layout) → layout (put_back_at id [] m.ranges) m.descs ≡ l → m ≡ l
failed-back id l m back = sym (ap (λ zs. layout zs m.descs) (nothing-back id m.ranges)) ∙ back

pub tiled-back : (id : ℕ) (kept : List Kept) (l m n : Layout) → n ≡ m → layout (put_back_at id kept m.ranges) m.descs ≡ l → Tiles [] l.ranges → Tiles [] (put_back_at id kept n.ranges)
tiled-back id kept l m n same back t = subst (λ z. Tiles [] (put_back_at id kept z.ranges)) (sym same) (subst (λ z. Tiles [] z.ranges) (sym back) t)
