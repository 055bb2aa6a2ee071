-- What a step did, told by its answer.
use Rattle.std.proofs.Common.{◌≡◌, ℕ, ◌⊎◌, true, List, [], inl, inr, refl, sym, ap, ◌∙◌, subst}
use Rattle.ds_base.specs.declared.value.Dir.{Dir}
use Rattle.ds_desc.specs.Contains.{lies_ahead}
use Rattle.ds_desc.specs.declared.meta.Looked.TheVariants as Looked
use Rattle.ds_kind.specs.declared.batch.Piece.{Piece}
use Rattle.ds_rule.specs.declared.answer.Answer.{Answer}
use Rattle.ds_rule.specs.declared.answer.Answer.TheVariants.{Done, Failed, Refused, Lost}
use Rattle.ds_rule.specs.declared.journal.JournalStep.{JournalStep}
use Rattle.ds_rule.specs.declared.journal.JournalStep.TheVariants.{Look, Send}
use Rattle.ds_rule.specs.Clauses.{IsLost}
use Rattle.ds_rule.specs.Deliver.{deliver_answer, deliver_world}
use Rattle.ds_rule.specs.Journal.{Passage, BothWays, RequestLost, ReplyLost, Does, DoesSo, unless_refused, with_copies}
use Rattle.ds_rule.specs.World.{World, look_rows, look_world}

-- a lost send may have been delivered or not
abbrev pub Told : World → JournalStep → World → Type 0
Told w (Look k d (Looked.Rows infos)) v = (infos ≡ look_rows w k d) × (v ≡ look_world w k d) × (lies_ahead d k ≡ true)
Told w (Look k d Looked.Lost) v = (v ≡ w) × (lies_ahead d k ≡ true)
Told w (Send n p (Done rs)) v = (Done rs ≡ deliver_answer w n p) × (v ≡ deliver_world w n p)
Told w (Send n p (Failed f)) v = (Failed f ≡ deliver_answer w n p) × (v ≡ deliver_world w n p)
Told w (Send n p (Refused r)) v = (Refused r ≡ deliver_answer w n p) × (v ≡ deliver_world w n p)
Told w (Send n p Lost) v = (v ≡ w) ⊎ (v ≡ deliver_world w n p)

-- what is answered as lost is lost
lost_send : (n : ℕ) (p : Piece) (a : Answer) → a ≡ Lost → IsLost (Send n p a)
lost_send n p a h = subst (λ z. IsLost (Send n p z)) (sym h) tt

-- a step that isn't lost went both ways
kept_so : (f : Passage) (w : World) (s : JournalStep) (v : World) → (IsLost s → ⊥) → DoesSo f [] w s v → DoesSo BothWays [] w s v
kept_so BothWays w s v kept h = h
kept_so RequestLost w (Look k d (Looked.Rows infos)) v kept h = absurd h.0
kept_so RequestLost w (Look k d Looked.Lost) v kept h = absurd (kept tt)
kept_so RequestLost w (Send n p a) v kept h = absurd (kept (lost_send n p a h.0))
kept_so ReplyLost w (Look k d (Looked.Rows infos)) v kept h = absurd h.0
kept_so ReplyLost w (Look k d Looked.Lost) v kept h = absurd (kept tt)
kept_so ReplyLost w (Send n p a) v kept h = absurd (kept (lost_send n p a h.0))

pub kept_both : (w : World) (s : JournalStep) (v : World) → (IsLost s → ⊥) → Does w s v → DoesSo BothWays [] w s v
kept_both w s v kept h = kept_so h.0 w s v kept h.1

lost_so : (f : Passage) (w : World) (n : ℕ) (p : Piece) (v : World) → DoesSo f [] w (Send n p Lost) v → (v ≡ w) ⊎ (v ≡ deliver_world w n p)
lost_so BothWays w n p v h = inr h.1
lost_so RequestLost w n p v h = inl h.1
lost_so ReplyLost w n p v h = inr h.1

told_look : (f : Passage) (w v : World) (k : List ℕ) (d : Dir) → DoesSo f [] w (Look k d Looked.Lost) v → (v ≡ w) × (lies_ahead d k ≡ true)
told_look BothWays w v k d h = absurd h.0
told_look RequestLost w v k d h = (h.1, h.0)
told_look ReplyLost w v k d h = (h.1, h.0)

pub told : (w : World) (s : JournalStep) (v : World) → Does w s v → Told w s v
told w (Look k d (Looked.Rows infos)) v h = let b = kept_both w (Look k d (Looked.Rows infos)) v (λ l. l) h in (b.0.0, b.1, b.0.1)
told w (Look k d Looked.Lost) v h = told_look h.0 w v k d h.1
told w (Send n p (Done rs)) v h = kept_both w (Send n p (Done rs)) v (λ l. l) h
told w (Send n p (Failed f)) v h = kept_both w (Send n p (Failed f)) v (λ l. l) h
told w (Send n p (Refused r)) v h = kept_both w (Send n p (Refused r)) v (λ l. l) h
told w (Send n p Lost) v h = lost_so h.0 w n p v h.1

-- a delivery whose answer comes back leaves no copy of its own
none_left : (a : Answer) → unless_refused a [] ≡ []
none_left (Done rs) = refl
none_left (Failed f) = refl
none_left (Refused r) = refl
none_left Lost = refl

pub send_does : (w v : World) (n : ℕ) (p : Piece) (a : Answer) → a ≡ deliver_answer w n p → v ≡ deliver_world w n p → Does w (Send n p a) v
send_does w v n p a h k = (BothWays, (h, k ∙ ap (λ cs. with_copies n p cs (deliver_world w n p)) (sym (none_left a))))
