-- What a delivery adds to what a wire stands for.
use Rattle.std.proofs.Common.{◌≡◌, ℕ, ◌<◌, ◌≤◌, ◌+◌, ◌-◌, ◌^◌, Bool, true, false, cond, List, [], ◌∷◌, ◌++◌, Option, Some, None, inl, inr, refl, sym, ap, ◌∙◌, subst, nat_lt, arith}
use Rattle.std.specs.List.{find}
use Rattle.ds_base.specs.Counts.{Rose}
use Rattle.ds_base.proofs.SmallFacts.{append_nil, ge_of}
use Rattle.ds_base.specs.declared.value.Dir.{Dir}
use Rattle.ds_desc.specs.Contains.{lies_ahead}
use Rattle.ds_desc.specs.declared.desc.Info.{Info}
use Rattle.ds_desc.specs.declared.meta.Looked.TheVariants as Looked
use Rattle.ds_kind.specs.declared.batch.Piece.{Piece}
use Rattle.ds_rule.specs.declared.answer.Answer.{Answer}
use Rattle.ds_rule.specs.declared.answer.Answer.TheVariants.{Done, Failed, Refused, Lost}
use Rattle.ds_rule.specs.declared.journal.JournalStep.{JournalStep}
use Rattle.ds_rule.specs.declared.journal.JournalStep.TheVariants.{Look, Send}
use Rattle.ds_rule.specs.Asking.{Made, Gives, Fails}
use Rattle.ds_rule.specs.World.{World, Range, has_id, look_rows, look_world}
use Rattle.ds_rule.specs.Deliver.{Stop, Turned, Ended, stops, served, deliver_answer, deliver_world, deliver_answer_to, answer_at, answer_made}
use Rattle.ds_rule.specs.Journal.{BothWays}
use Rattle.ds_rule.specs.Clauses.{Stands, Steps, Stays, IsRefused, IsLost}
use Rattle.ds_rule.proofs.Passing.{send_does}
use Rattle.ds_sim.specs.State.{refused_after, stands_for}
use Rattle.ds_sim.specs.UnderWay.{Notes, UnderWay}

raised : (n : ℕ) → n < 2 ^ 64 → Rose n (cond (nat_lt n (2 ^ 64 - 1)) (n + 1) n)
raised n fits =
    elim (nat_lt n (2 ^ 64 - 1)) as (λ t. nat_lt n (2 ^ 64 - 1) ≡ t → Rose n (cond t (n + 1) n)) [
      | true ↦ λ e. inl (omega arith)
      | false ↦ λ e. let high : 2 ^ 64 - 1 ≤ n = ge_of n (2 ^ 64 - 1) e in let same : n ≡ 2 ^ 64 - 1 = omega arith in inr (same, same)
    ] refl

refuses_of : (n : ℕ) (p : Piece) (a : Answer) (c : ℕ) → c < 2 ^ 64 → IsRefused (Send n p a) → Rose c (refused_after a c)
refuses_of n p (Refused r) c fits h = raised c fits
refuses_of n p (Done rs) c fits h = absurd h
refuses_of n p (Failed f) c fits h = absurd h
refuses_of n p Lost c fits h = absurd h

higher : (t : Bool) (c : ℕ) → c ≤ cond t (c + 1) c
higher true c = omega arith
higher false c = omega arith

refused_rises : (a : Answer) (c : ℕ) → c ≤ refused_after a c
refused_rises (Refused r) c = higher (nat_lt c (2 ^ 64 - 1)) c
refused_rises (Done rs) c = omega arith
refused_rises (Failed f) c = omega arith
refused_rises Lost c = omega arith

not_lost_at : (w : World) (node : ℕ) (p : Piece) (o : Option Stop) (r : Range) → Lost ≡ answer_at w p r o → ⊥
not_lost_at w node p (Some (Turned x)) r h = cc
not_lost_at w node p (Some (Ended f)) r h = cc
not_lost_at w node p None r h = made_not (served w p r) h
  where
    made_not : (m : Made) → Lost ≡ answer_made m → ⊥
    made_not (Gives cells ws rs) h = cc
    made_not (Fails f) h = cc

not_lost : (w : World) (node : ℕ) (p : Piece) → Lost ≡ deliver_answer w node p → ⊥
not_lost w node p h =
    elim (find (has_id p.range) w.ranges) as (λ o. Lost ≡ deliver_answer_to w node p o → ⊥) [
      | None ↦ λ k. cc
      | Some r ↦ λ k. not_lost_at w node p (stops w node p r) r k
    ] h

loses_of : (w : World) (n : ℕ) (p : Piece) (a : Answer) → a ≡ deliver_answer w n p → IsLost (Send n p a) → Rose 0 0
loses_of w n p Lost is h = absurd (not_lost w n p is)
loses_of w n p (Done rs) is h = absurd h
loses_of w n p (Failed f) is h = absurd h
loses_of w n p (Refused r) is h = absurd h

pub send_steps : (w v : World) (old new : UnderWay) (c n : ℕ) (picks : List ℕ) (p : Piece) (a : Answer) → Notes (Send n p a) old new → a ≡ deliver_answer w n p → v ≡ deliver_world w n p → c < 2 ^ 64 → Steps (stands_for w old c picks) (stands_for v new (refused_after a c) picks) (Send n p a)
send_steps w v old new c n picks p a notes is after fits = record {
  moves = [];
  above = tt;
  grown = notes.grown;
  runs = (v, send_does w v n p a is after, refl);
  floor = ap (λ z. z.floor) notes.is;
  ahead = refl;
  block = ap (λ z. z.made ++ z.coming) notes.is;
  refused = refused_rises a c;
  lost = omega arith;
  refuses = refuses_of n p a c fits;
  loses = loses_of w n p a is;
}

-- what a lookup adds, whose rows are the world's
pub look_steps : (w v : World) (old new : UnderWay) (c : ℕ) (picks : List ℕ) (k : List ℕ) (d : Dir) (infos : List Info) → Notes (Look k d (Looked.Rows infos)) old new → infos ≡ look_rows w k d → v ≡ look_world w k d → lies_ahead d k ≡ true → Steps (stands_for w old c picks) (stands_for v new c picks) (Look k d (Looked.Rows infos))
look_steps w v old new c picks k d infos notes rows after ahead = record {
  moves = [];
  above = tt;
  grown = notes.grown;
  runs = (v, (BothWays, ((rows, ahead), after)), refl);
  floor = ap (λ z. z.floor) notes.is;
  ahead = refl;
  block = ap (λ z. z.made ++ z.coming) notes.is;
  refused = omega arith;
  lost = omega arith;
  refuses = λ h. absurd h;
  loses = λ h. absurd h;
}

pub stays_here : (a : Stands) → Stays a a
stays_here a = record {
  moves = [];
  above = tt;
  grown = sym (append_nil a.past);
  runs = refl;
  floor = refl;
  ahead = refl;
  block = refl;
  refused = omega arith;
  lost = omega arith;
}

-- nothing changed
pub stays_same : (a b : Stands) → b ≡ a → Stays a b
stays_same a b is = subst (Stays a) (sym is) (stays_here a)
