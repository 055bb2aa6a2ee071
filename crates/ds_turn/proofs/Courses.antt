-- Courses at one key: beside foreign writes, and alone.
use Rattle.std.proofs.Common.{◌≡◌, ℕ, ◌≤◌, List, [], ◌∷◌, ◌++◌, ◌⊎◌, inl, inr, refl, sym, ap, ◌∙◌, subst, append_assoc}
use Rattle.std.proofs.lemmas.List.{append-nil}
use Rattle.ds_kind.specs.declared.batch.Item.{Item}
use Rattle.ds_cell.specs.declared.entry.At.{At}
use Rattle.ds_cell.specs.declared.entry.Version.{Version}
use Rattle.ds_cell.specs.declared.entry.Written.{Written}
use Rattle.ds_cell.specs.declared.verdict.Verdict.{Verdict}
use Rattle.ds_cell.specs.declared.verdict.Verdict.TheVariants.{Keep, Put, Refuse}
use Rattle.ds_cell.specs.declared.verdict.Bit.{Bit}
use Rattle.ds_cell.specs.declared.verdict.ActFault.{ActFault}
use Rattle.ds_cell.specs.declared.verdict.ActFault.TheVariants.{TooOld}
use Rattle.ds_cell.specs.Content.{Content, AllAbove, Rises, stamp_of}
use Rattle.ds_cell.specs.Change.{after_foreign}
use Rattle.ds_cell.specs.Deed.{content_after}
use Rattle.ds_cell.specs.Store.{with_version}
use Rattle.ds_rule.specs.Turn.{IsNoRefusal, asks_as, verdict, after_item, Turn, TurnFails, TurnGives, and_turn, after_items, turn_of}
use Rattle.ds_turn.proofs.Deeds.{IsEased, eased_deed}
use Rattle.ds_turn.proofs.KeyFacts.{above_more, fold_more, key_verdict, key_item, key_foreign, more_alike, more_old}
use Rattle.ds_cell.proofs.RisingFacts.{rises_fold}
use Rattle.ds_turn.specs.Alone.{ActsAlone, FailsAlone, IsTooOld, SameCourse}
use Rattle.ds_turn.specs.Course.{AllForeignAbove, ByBatch, ByOther, Course, batch_items, course_after, foreign_writes, made_after, made_turn, with_versions}
use Rattle.ds_turn.specs.KeyIs.{KeyIs}

-- the world beside the store that makes each foreign write at once

pub same_course : SameCourse
same_course s a [] c d k low all = (refl, k)
same_course s a (ByBatch i ∷ bs) c d k low all =
    let r = same_course s a bs (after_item a i c) (after_item a i d) (key_item s a i c d k low) low all in
    (ap (λ v. and_turn i v (made_turn a bs (after_item a i d))) (key_verdict s a i c d k low) ∙ ap (and_turn i (verdict a i c)) r.0, r.1)
same_course s a (ByOther v ∷ bs) c d k low all =
    same_course s a bs (after_foreign v c) (with_version v d) (key_foreign s v c d all.0 k) low all.1

-- what one more item did, taken apart

pub and_turn-fine : (i : Item) (v : Verdict) (r : Turn) (bits : List (ℕ × Bit)) (ws : List Written) → and_turn i v r ≡ TurnGives bits ws
    → IsNoRefusal v × (bs : List (ℕ × Bit)) × (us : List Written) × (r ≡ TurnGives bs us)
and_turn-fine i (Refuse f) r bits ws h = cc
and_turn-fine i (Keep b) (TurnFails p f) bits ws h = cc
and_turn-fine i (Put w b) (TurnFails p f) bits ws h = cc
and_turn-fine i (Keep b) (TurnGives bs us) bits ws h = (tt, bs, us, refl)
and_turn-fine i (Put w b) (TurnGives bs us) bits ws h = (tt, bs, us, refl)

pub not-fine : {G : Type 0} (v : Verdict) (f : ActFault) → v ≡ Refuse f → IsNoRefusal v → G
not-fine (Keep b) f e h = cc
not-fine (Put w b) f e h = cc
not-fine (Refuse g) f e h = absurd h

pub eased_fine : (less more : Verdict) → IsEased less more → IsNoRefusal more → less ≡ more
eased_fine less more (inl e) h = e
eased_fine less more (inr old) h = not-fine more (TooOld old.0) old.1 h

-- an item does not see versions above the stamp
pub after_more : (at : At) (v : Verdict) (vs : List Version) (d : Content) → content_after at v (with_versions vs d) ≡ with_versions vs (content_after at v d)
after_more at (Keep b) vs d = refl
after_more at (Put w b) vs d = refl
after_more at (Refuse f) vs d = refl

-- what stays as items act
pub record Stays (d : Content) : Type 0 where
  pub rises : Rises stamp_of d.versions
  pub none_waits : d.waiting ≡ []

pub stays_after : (at : At) (v : Verdict) (d : Content) → Stays d → Stays (content_after at v d)
stays_after at (Keep b) d h = h
stays_after at (Put w b) d h = record { rises = h.rises; none_waits = h.none_waits }
stays_after at (Refuse f) d h = h

pub eased_more : (s : ℕ) (a : At) (i : Item) (vs : List Version) (d : Content) → a.stamp.0 ≤ s → AllAbove stamp_of s vs → Stays d → IsEased (verdict a i d) (verdict a i (with_versions vs d))
eased_more s a i vs d low all h =
    eased_deed i.request (asks_as a i) d (with_versions vs d) (more_alike s (asks_as a i) vs d low all) (more_old (asks_as a i) vs d h.rises h.none_waits)

pub more_version : (v : Version) (vs : List Version) (d : Content) → with_version v (with_versions vs d) ≡ with_versions (vs ++ v ∷ []) d
more_version v vs d = ap (λ us. record d { versions = us }) (sym (fold_more d.versions vs v))

abbrev Alone : At → Course → List Version → Content → List (ℕ × Bit) → List Written → Type 0
Alone a bs vs d bits ws =
    (turn_of a (batch_items bs) d ≡ TurnGives bits ws) × (made_after a bs (with_versions vs d) ≡ with_versions (vs ++ foreign_writes bs) (after_items a (batch_items bs) d))

alone-from : (s : ℕ) (a : At) (bs : Course) (vs : List Version) (d : Content) (bits : List (ℕ × Bit)) (ws : List Written)
    → a.stamp.0 ≤ s → AllAbove stamp_of s vs → AllForeignAbove s bs → Stays d → made_turn a bs (with_versions vs d) ≡ TurnGives bits ws → Alone a bs vs d bits ws
alone-from s a [] vs d bits ws low all foreign h did = (did, ap (λ us. with_versions us d) (sym (append-nil vs)))
alone-from s a (ByOther v ∷ bs) vs d bits ws low all foreign h did =
    let r = alone-from s a bs (vs ++ v ∷ []) d bits ws low (above_more s vs v all foreign.0) foreign.1 h (ap (made_turn a bs) (sym (more_version v vs d)) ∙ did) in (
      r.0,
      ap (made_after a bs) (more_version v vs d)
          ∙ r.1
          ∙ ap (λ us. with_versions us (after_items a (batch_items bs) d)) (append_assoc vs (v ∷ []) (foreign_writes bs)),
    )
alone-from s a (ByBatch i ∷ bs) vs d bits ws low all foreign h did =
    let parts = and_turn-fine i (verdict a i (with_versions vs d)) (made_turn a bs (after_item a i (with_versions vs d))) bits ws did in
    let same : verdict a i d ≡ verdict a i (with_versions vs d) = eased_fine _ _ (eased_more s a i vs d low all h) parts.0 in
    let next : after_item a i (with_versions vs d) ≡ with_versions vs (after_item a i d) = ap (λ v. content_after (asks_as a i) v (with_versions vs d)) (sym same) ∙ after_more (asks_as a i) (verdict a i d) vs d in
    let r = alone-from s a bs vs (after_item a i d) parts.1 parts.2 low all foreign (stays_after (asks_as a i) (verdict a i d) d h) (ap (made_turn a bs) (sym next) ∙ parts.3) in (
      ap (λ v. and_turn i v (turn_of a (batch_items bs) (after_item a i d))) same
          ∙ ap (and_turn i (verdict a i (with_versions vs d))) (r.0 ∙ sym parts.3)
          ∙ did,
      ap (made_after a bs) next ∙ r.1,
    )

pub stays_key : (s : ℕ) (c d : Content) → KeyIs s c d → Stays d
stays_key s c d k = record { rises = subst (λ vs. Rises stamp_of vs) (sym k.versions) (rises_fold c.versions c.waiting k.rises); none_waits = k.none_waits }

pub acts_alone : ActsAlone
acts_alone s a bs c d bits ws k low all did =
    let same = same_course s a bs c d k low all in
    let r = alone-from s a bs [] d bits ws low tt all (stays_key s c d k) (same.0 ∙ did) in
    (r.0, subst (λ e. KeyIs s (course_after a bs c) e) r.1 same.1)

-- refused, but not as too old

pub and_turn-refused : (i : Item) (v : Verdict) (r : Turn) (p : ℕ) (f : ActFault) → and_turn i v r ≡ TurnFails p f
    → ((v ≡ Refuse f) × (i.pos ≡ p)) ⊎ (IsNoRefusal v × (r ≡ TurnFails p f))
and_turn-refused i (Refuse g) r p f h = let e : g ≡ f = cc in let q : i.pos ≡ p = cc in inl (ap Refuse e, q)
and_turn-refused i (Keep b) (TurnFails q g) p f h = inr (tt, h)
and_turn-refused i (Put w b) (TurnFails q g) p f h = inr (tt, h)
and_turn-refused i (Keep b) (TurnGives bs us) p f h = cc
and_turn-refused i (Put w b) (TurnGives bs us) p f h = cc

and_turn-fault : (i : Item) (v w : Verdict) (r : Turn) (f : ActFault) → w ≡ Refuse f → v ≡ w → and_turn i v r ≡ TurnFails i.pos f
and_turn-fault i v w r f e g = ap (λ x. and_turn i x r) (g ∙ e)

pub and_turn-later : (i : Item) (v : Verdict) (r : Turn) (p : ℕ) (f : ActFault) → IsNoRefusal v → r ≡ TurnFails p f → and_turn i v r ≡ TurnFails p f
and_turn-later i (Refuse g) r p f fine e = absurd fine
and_turn-later i (Keep b) r p f fine e = ap (and_turn i (Keep b)) e
and_turn-later i (Put w b) r p f fine e = ap (and_turn i (Put w b)) e

same-fault : (f g : ActFault) → Refuse f ≡ Refuse g → f ≡ g
same-fault f g h = cc

pub eased_refused : (less more : Verdict) (f : ActFault) → IsEased less more → more ≡ Refuse f → (IsTooOld f → ⊥) → less ≡ more
eased_refused less more f (inl e) h young = e
eased_refused less more f (inr old) h young = absurd (young (old.0, same-fault f (TooOld old.0) (sym h ∙ old.1)))

fails-from : (s : ℕ) (a : At) (bs : Course) (vs : List Version) (d : Content) (p : ℕ) (f : ActFault)
    → a.stamp.0 ≤ s → AllAbove stamp_of s vs → AllForeignAbove s bs → Stays d → (IsTooOld f → ⊥) → made_turn a bs (with_versions vs d) ≡ TurnFails p f → turn_of a (batch_items bs) d ≡ TurnFails p f
fails-from s a [] vs d p f low all foreign h young failed = failed
fails-from s a (ByOther v ∷ bs) vs d p f low all foreign h young failed =
    fails-from s a bs (vs ++ v ∷ []) d p f low (above_more s vs v all foreign.0) foreign.1 h young (ap (made_turn a bs) (sym (more_version v vs d)) ∙ failed)
fails-from s a (ByBatch i ∷ bs) vs d p f low all foreign h young failed =
    let eased = eased_more s a i vs d low all h in
    elim (and_turn-refused i (verdict a i (with_versions vs d)) (made_turn a bs (after_item a i (with_versions vs d))) p f failed) [
      | inl here ↦
          subst (λ n. turn_of a (batch_items (ByBatch i ∷ bs)) d ≡ TurnFails n f) here.1
          (and_turn-fault i (verdict a i d) (verdict a i (with_versions vs d)) (turn_of a (batch_items bs) (after_item a i d)) f here.0 (eased_refused _ _ f eased here.0 young))
      | inr later ↦
          let same : verdict a i d ≡ verdict a i (with_versions vs d) = eased_fine _ _ eased later.0 in
          let next : after_item a i (with_versions vs d) ≡ with_versions vs (after_item a i d) = ap (λ v. content_after (asks_as a i) v (with_versions vs d)) (sym same) ∙ after_more (asks_as a i) (verdict a i d) vs d in
          let r = fails-from s a bs vs (after_item a i d) p f low all foreign (stays_after (asks_as a i) (verdict a i d) d h) young (ap (made_turn a bs) (sym next) ∙ later.1) in
          and_turn-later i (verdict a i d) (turn_of a (batch_items bs) (after_item a i d)) p f (subst IsNoRefusal (sym same) later.0) r
    ]

pub fails_alone : FailsAlone
fails_alone s a bs c d p f k low all failed young =
    let same = same_course s a bs c d k low all in
    fails-from s a bs [] d p f low tt all (stays_key s c d k) young (same.0 ∙ failed)
