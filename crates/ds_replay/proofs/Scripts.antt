-- Whole scripts, one line after another.
use Rattle.std.proofs.Common.{◌≡◌, ℕ, zero, suc, get_or, ◌+◌, ◌*◌, ◌<◌, ◌≤◌, Bool, true, false, ◌&&◌, List, [], ◌∷◌, ◌++◌, length, take, drop, Option, Some, None, IsSome, nat_lt, nat_le, refl, sym, ap, ◌∙◌, subst, arith}
use Rattle.ds_base.proofs.SmallFacts.{and_first, and_second, le_of, lt_of}
use Rattle.ds_cell.specs.Store.{Store, empty_store}
use Rattle.ds_rule.specs.declared.journal.Entry.{Entry}
use Rattle.ds_rule.specs.Clauses.{Stands}
use Rattle.ds_sim.specs.State.{state_of}
use Rattle.ds_script.specs.declared.line.Line.{Line}
use Rattle.ds_script.specs.declared.line.Numbered.{Numbered}
use Rattle.ds_script.specs.Journals.{Played, JournalTurn, first_played, no_asks, LegalJournal}
use Rattle.ds_script.specs.PlainRuns.{PlainRun, PlainTurn}
use Rattle.ds_script.specs.Rules.{keeps_rules, numbers_rise}
use Rattle.ds_script.specs.Runs.{Plays, TakesEntry, has_entry}
use Rattle.ds_replay.specs.declared.state.State.{State}
use Rattle.ds_replay.specs.Built.{Stage, first_unbuilt, goes_on, next_stage, unbuilt_from}
use Rattle.ds_replay.specs.Causes.{CauseTurn, first_told}
use Rattle.ds_replay.specs.Gathers.{AllGathered, GatherTurn}
use Rattle.ds_replay.specs.Stages.{IsCalm, IsWithin, StandsAt, stage_of}
use Rattle.ds_replay.specs.Taken.{Taken, listed}

-- a line after others

takes-more : (b : Bool) (n : ℕ) (log rest ys : List Entry) (e : Option Entry) → TakesEntry b n log e rest → TakesEntry b n (log ++ ys) e (rest ++ ys)
takes-more true n log rest ys (Some e) h = (ap (λ xs. xs ++ ys) h.0, h.1)
takes-more true n log rest ys None h = absurd h
takes-more false n log rest ys (Some e) h = absurd h
takes-more false n log rest ys None h = ap (λ xs. xs ++ ys) h

plays-more : {S : Type 0} (T : S → Line → Option Entry → S → Type 0) (ls : List Numbered) (s m v : S) (log : List Entry) (l : Numbered) (e : Option Entry) → Plays T s ls log m → TakesEntry (has_entry l.line) l.number (listed e) e [] → T m l.line e v → Plays T s (ls ++ l ∷ []) (log ++ listed e) v
plays-more T [] s m v log l e h takes turn = (e, [], v, subst (λ xs. TakesEntry (has_entry l.line) l.number (xs ++ listed e) e []) (sym h.0) takes, subst (λ x. T x l.line e v) h.1 turn, (refl, refl))
plays-more T (l0 ∷ ls) s m v log l e h takes turn =
    (h.0, h.1 ++ listed e, h.2, takes-more (has_entry l0.line) l0.number log h.1 (listed e) h.0 h.3, h.4, plays-more T ls h.2 m v h.1 l e h.5 takes turn)

-- so far

-- after so many lines: what was played, and the plain store
pub record Replaying (budget : ℕ) (done ahead : List Numbered) (n : ℕ) (state : State) (log : List Entry) : Type 0 where
  pub played : Played
  pub store : Store
  pub journal : Plays JournalTurn first_played done log played
  pub gathers : Plays GatherTurn no_asks done log played.asks
  pub plain : Plays PlainTurn empty_store done log store
  pub causes : Plays (CauseTurn budget) first_told done log (record { asks = played.asks; store = store })
  pub stands : StandsAt state played store
  pub within : IsWithin state n
  pub built : unbuilt_from ahead (stage_of state) ≡ None
  pub few : n + length ahead ≤ 20000

rise-few : (last : ℕ) (ls : List Numbered) → numbers_rise last ls ≡ true → last ≤ 20000 → last + length ls ≤ 20000
rise-few last [] h low = omega (arith, low)
rise-few last (l ∷ ls) h low =
    let both = and_first (nat_lt last l.number && nat_le l.number 20000) (numbers_rise l.number ls) h in
    let up : last < l.number = lt_of last l.number (and_first (nat_lt last l.number) (nat_le l.number 20000) both) in
    let top : l.number ≤ 20000 = le_of l.number 20000 (and_second (nat_lt last l.number) (nat_le l.number 20000) both) in
    let more = rise-few l.number ls (and_second (nat_lt last l.number && nat_le l.number 20000) (numbers_rise l.number ls) h) top in
    omega (arith, up, more)

kept-few : (ls : List Numbered) → keeps_rules ls ≡ true → 0 + length ls ≤ 20000
kept-few ls h = rise-few 0 ls (and_first (numbers_rise 0 ls) _ h) (omega arith)

pub replay-first : {budget : ℕ} (lines : List Numbered) → keeps_rules lines ≡ true → first_unbuilt lines ≡ None → Replaying budget [] lines 0 State.Start []
replay-first lines kept built = record {
  played = first_played;
  store = empty_store;
  journal = (refl, refl);
  gathers = (refl, refl);
  plain = (refl, refl);
  causes = (refl, refl);
  stands = (refl, refl);
  within = tt;
  built = built;
  few = kept-few lines kept;
}

goes-some : (o : Option Stage) (n : ℕ) (more : Stage → Option ℕ) → goes_on o n more ≡ None → IsSome o
goes-some None n more h = cc
goes-some (Some s) n more h = refl

pub replay-built : {budget : ℕ} (done ahead : List Numbered) (n : ℕ) (state : State) (log : List Entry) (l : Numbered) → Replaying budget done (l ∷ ahead) n state log → IsSome (next_stage (stage_of state) l.line)
replay-built done ahead n state log l r = goes-some (next_stage (stage_of state) l.line) l.number (unbuilt_from ahead) r.built

calm-more : (a : Stands) (n m : ℕ) → n ≤ m → IsCalm a n → IsCalm a m
calm-more a n m le calm = let low : a.world.count ≤ 1001 * n = calm.count in record { count = omega (arith, le, low); block = calm.block }

within-more : (state : State) (n m : ℕ) → n ≤ m → IsWithin state n → IsWithin state m
within-more State.Start n m le h = tt
within-more (State.Running sim txn begun) n m le h = let a = h.0 in let b = h.1 in (calm-more (state_of sim) n m le a, omega (arith, le, b), h.2)

pub replay-within : {budget : ℕ} (done ahead : List Numbered) (n : ℕ) (state : State) (log : List Entry) (l : Numbered) → Replaying budget done (l ∷ ahead) n state log → IsWithin state 20000
replay-within done ahead n state log l r = let few : n + length (l ∷ ahead) ≤ 20000 = r.few in within-more state n 20000 (omega (arith, few)) r.within

pub replay-more : {budget : ℕ} (done ahead : List Numbered) (n : ℕ) (state new : State) (log after : List Entry) (l : Numbered) → Replaying budget done (l ∷ ahead) n state log → Some (stage_of new) ≡ next_stage (stage_of state) l.line → ((n : ℕ) → IsWithin state n → IsWithin new (n + 1)) → Taken budget state new l log after → Replaying budget (done ++ l ∷ []) ahead (n + 1) new after
replay-more {budget = budget} done ahead n state new log after l r stage within taken =
    let t = taken.line r.played r.store r.stands in
    let few : n + length (l ∷ ahead) ≤ 20000 = r.few in
    record {
      played = t.played;
      store = t.next;
      journal = subst (λ es. Plays JournalTurn first_played (done ++ l ∷ []) es t.played) (sym taken.logged) (plays-more JournalTurn done first_played r.played t.played log l taken.entry r.journal taken.takes t.journal);
      gathers = subst (λ es. Plays GatherTurn no_asks (done ++ l ∷ []) es t.played.asks) (sym taken.logged) (plays-more GatherTurn done no_asks r.played.asks t.played.asks log l taken.entry r.gathers taken.takes t.gathers);
      plain = subst (λ es. Plays PlainTurn empty_store (done ++ l ∷ []) es t.next) (sym taken.logged) (plays-more PlainTurn done empty_store r.store t.next log l taken.entry r.plain taken.takes t.plain);
      causes = subst (λ es. Plays (CauseTurn budget) first_told (done ++ l ∷ []) es (record { asks = t.played.asks; store = t.next })) (sym taken.logged) (plays-more (CauseTurn budget) done first_told (record { asks = r.played.asks; store = r.store }) (record { asks = t.played.asks; store = t.next }) log l taken.entry r.causes taken.takes (t.cause, t.gathers.1, t.plain));
      stands = t.stands;
      within = within n r.within;
      built = subst (λ o. goes_on o l.number (unbuilt_from ahead) ≡ None) (sym stage) r.built;
      few = omega (arith, few);
    }

-- the loop's steps

drop-suc : (i : ℕ) (xs : List Numbered) (x : Numbered) → i < length xs → x ≡ get_or xs i x → drop i xs ≡ x ∷ drop (suc i) xs
drop-suc i [] x low is = absurd (nothing-below i low)
  where
    nothing-below : (i : ℕ) → i < 0 → ⊥
    nothing-below i h = omega (arith, h)
drop-suc zero (y ∷ ys) x low is = ap (λ z. z ∷ ys) (sym is)
drop-suc (suc i) (y ∷ ys) x low is = drop-suc i ys x (omega (arith, low)) is

take-suc : (i : ℕ) (xs : List Numbered) (x : Numbered) → i < length xs → x ≡ get_or xs i x → take (suc i) xs ≡ take i xs ++ x ∷ []
take-suc i [] x low is = absurd (nothing-below i low)
  where
    nothing-below : (i : ℕ) → i < 0 → ⊥
    nothing-below i h = omega (arith, h)
take-suc zero (y ∷ ys) x low is = ap (λ z. z ∷ []) (sym is)
take-suc (suc i) (y ∷ ys) x low is = ap (λ zs. y ∷ zs) (take-suc i ys x (omega (arith, low)) is)

suc-is : (i : ℕ) → suc i ≡ i + 1
suc-is i = omega arith

pub here : {budget : ℕ} (xs : List Numbered) (i : ℕ) (x : Numbered) (state : State) (log : List Entry) → i < length xs → x ≡ get_or xs i x → Replaying budget (take i xs) (drop i xs) i state log → Replaying budget (take i xs) (x ∷ drop (i + 1) xs) i state log
here {budget = budget} xs i x state log low is r =
    subst (λ ahead. Replaying budget (take i xs) ahead i state log) (drop-suc i xs x low is ∙ ap (λ n. x ∷ drop n xs) (suc-is i)) r

pub next-lines : {budget : ℕ} (xs : List Numbered) (i : ℕ) (x : Numbered) (state : State) (log : List Entry) → i < length xs → x ≡ get_or xs i x → Replaying budget (take i xs ++ x ∷ []) (drop (i + 1) xs) (i + 1) state log → Replaying budget (take (i + 1) xs) (drop (i + 1) xs) (i + 1) state log
next-lines {budget = budget} xs i x state log low is r =
    subst (λ done. Replaying budget done (drop (i + 1) xs) (i + 1) state log) (sym (take-suc i xs x low is) ∙ ap (λ n. take n xs) (suc-is i)) r

pub whole-script : {budget : ℕ} (lines xs : List Numbered) (i : ℕ) (state : State) (log : List Entry) → xs ≡ lines → take i xs ≡ xs → Replaying budget (take i xs) (drop i xs) i state log → LegalJournal lines log × AllGathered lines log × PlainRun lines log
whole-script lines xs i state log same all r =
    let done = all ∙ same in (
      (r.played, subst (λ ls. Plays JournalTurn first_played ls log r.played) done r.journal),
      (r.played.asks, subst (λ ls. Plays GatherTurn no_asks ls log r.played.asks) done r.gathers),
      (r.store, subst (λ ls. Plays PlainTurn empty_store ls log r.store) done r.plain),
    )
