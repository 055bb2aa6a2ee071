-- What was refused as too old: nothing was written there before it, so it is refused so after the foreign writes.
use Rattle.std.proofs.Common.{◌≡◌, ℕ, ◌≤◌, ◌<◌, List, [], ◌∷◌, ◌++◌, ◌⊎◌, inl, inr, refl, sym, ap, ◌∙◌, subst, arith, Option}
use Rattle.ds_base.specs.declared.value.Value.{Value}
use Rattle.ds_kind.specs.declared.batch.Item.{Item}
use Rattle.ds_cell.specs.declared.entry.At.{At}
use Rattle.ds_cell.specs.declared.entry.Written.{Written}
use Rattle.ds_cell.specs.declared.verdict.Verdict.{Verdict}
use Rattle.ds_cell.specs.declared.verdict.Verdict.TheVariants.{Keep, Put, Refuse}
use Rattle.ds_cell.specs.declared.verdict.Bit.{Bit}
use Rattle.ds_cell.specs.declared.verdict.ActFault.{ActFault}
use Rattle.ds_cell.specs.declared.verdict.ActFault.TheVariants.{TooOld}
use Rattle.ds_cell.specs.Content.{Content, AllAbove, stamp_of}
use Rattle.ds_cell.specs.Seen.{own}
use Rattle.ds_cell.specs.Change.{wrote, after_foreign}
use Rattle.ds_cell.specs.Deed.{content_after}
use Rattle.ds_cell.specs.LawProofs.{own-wrote}
use Rattle.ds_cell.specs.Store.{with_version}
use Rattle.ds_cell.proofs.LaterFacts.{version_at-made}
use Rattle.ds_rule.specs.Turn.{IsNoRefusal, asks_as, verdict, after_item, Turn, TurnFails, TurnGives, and_turn, after_items, turn_of}
use Rattle.ds_turn.specs.Alone.{FailsOld, RefusedAfter}
use Rattle.ds_turn.specs.Course.{AllForeignAbove, ByBatch, ByOther, Course, batch_items, course_after, course_turn, foreign_writes, made_after, made_turn, with_versions}
use Rattle.ds_turn.proofs.Deeds.{Alike, kept_deed, old_deed}
use Rattle.ds_turn.proofs.Courses.{and_turn-fine, and_turn-refused, and_turn-later, same_course}
use Rattle.ds_turn.proofs.KeyFacts.{written_some, key_verdict, more_alike}

-- where the refusal came

pub more_fine : (i : Item) (v : Verdict) (r : Turn) (bs : List (ℕ × Bit)) (us : List Written) → IsNoRefusal v → r ≡ TurnGives bs us → (bits : List (ℕ × Bit)) × (ws : List Written) × (and_turn i v r ≡ TurnGives bits ws)
more_fine i (Refuse f) r bs us fine e = absurd fine
more_fine i (Keep b) r bs us fine e = (_, _, ap (and_turn i (Keep b)) e)
more_fine i (Put w b) r bs us fine e = (_, _, ap (and_turn i (Put w b)) e)

refused-one : (i : Item) (v : Verdict) (p : ℕ) (f : ActFault) → v ≡ Refuse f → i.pos ≡ p → and_turn i v (TurnGives [] []) ≡ TurnFails p f
refused-one i v p f e q = ap (λ x. and_turn i x (TurnGives [] [])) e ∙ ap (λ n. TurnFails n f) q

did-refused : {G : Type 0} (p : ℕ) (f : ActFault) → TurnGives [] [] ≡ TurnFails p f → G
did-refused p f h = cc

pub refused_after : (a : At) (bs : Course) (c : Content) (p : ℕ) (f : ActFault) → course_turn a bs c ≡ TurnFails p f → RefusedAfter a bs c p f
refused_after a [] c p f h = did-refused p f h
refused_after a (ByOther v ∷ bs) c p f h =
    let r = refused_after a bs (after_foreign v c) p f h in
    record {
      front = ByOther v ∷ r.front;
      item = r.item;
      back = r.back;
      is = ap (λ zs. ByOther v ∷ zs) r.is;
      position = r.position;
      bits = r.bits;
      writes = r.writes;
      before = r.before;
      refused = r.refused;
    }
refused_after a (ByBatch i ∷ bs) c p f h =
    elim (and_turn-refused i (verdict a i c) (course_turn a bs (after_item a i c)) p f h) [
      | inl here ↦ record {
        front = [];
        item = i;
        back = bs;
        is = refl;
        position = here.1;
        bits = [];
        writes = [];
        before = refl;
        refused = refused-one i (verdict a i c) p f here.0 here.1;
      }
      | inr later ↦
          let r = refused_after a bs (after_item a i c) p f later.1 in
          let more = more_fine i (verdict a i c) (course_turn a r.front (after_item a i c)) r.bits r.writes later.0 r.before in
          record {
            front = ByBatch i ∷ r.front;
            item = r.item;
            back = r.back;
            is = ap (λ zs. ByBatch i ∷ zs) r.is;
            position = r.position;
            bits = more.0;
            writes = more.1;
            before = more.2;
            refused = r.refused;
          }
    ]

-- own writes stay

put-owns : (at : At) (w : Option Value) (d : Content) → own at (wrote at w d) ≡ [] → ⊥
put-owns at w d e = written_some _ (own at d) (sym (own-wrote at at w d refl refl) ∙ e)

owns-after : (a : At) (i : Item) (v : Verdict) (d : Content) → (own a d ≡ [] → ⊥) → own a (content_after (asks_as a i) v d) ≡ [] → ⊥
owns-after a i (Keep b) d owns e = owns e
owns-after a i (Put w b) d owns e = put-owns (asks_as a i) w d e
owns-after a i (Refuse f) d owns e = owns e

owns-stay : (a : At) (bs : Course) (d : Content) → (own a d ≡ [] → ⊥) → own a (made_after a bs d) ≡ [] → ⊥
owns-stay a [] d owns e = owns e
owns-stay a (ByBatch i ∷ bs) d owns e = owns-stay a bs (after_item a i d) (owns-after a i (verdict a i d) d owns) e
owns-stay a (ByOther v ∷ bs) d owns e = owns-stay a bs (with_version v d) owns e

fine-cases : (a : At) (i : Item) (v : Verdict) (d : Content) → IsNoRefusal v → ((b : Bit) × (v ≡ Keep b)) ⊎ (own a (content_after (asks_as a i) v d) ≡ [] → ⊥)
fine-cases a i (Keep b) d fine = inl (b, refl)
fine-cases a i (Put w b) d fine = inr (put-owns (asks_as a i) w d)
fine-cases a i (Refuse f) d fine = absurd fine

-- so where there are none at the end, each item only answered, and does so on any content alike

did-writes : (bs cs : List (ℕ × Bit)) (us ws : List Written) → TurnGives bs us ≡ TurnGives cs ws → us ≡ ws
did-writes bs cs us ws h = cc

abbrev pub OnlyAnswered : At → Course → Content → Content → List (ℕ × Bit) → List Written → Type 0
OnlyAnswered a bs d g bits ws =
    (turn_of a (batch_items bs) g ≡ TurnGives bits ws) × (ws ≡ []) × (after_items a (batch_items bs) g ≡ g) × (made_after a bs d ≡ with_versions (foreign_writes bs) d)

pub all_kept : (s : ℕ) (a : At) (bs : Course) (d g : Content) (bits : List (ℕ × Bit)) (ws : List Written)
    → a.stamp.0 ≤ s → AllForeignAbove s bs → Alike a d g → own a (made_after a bs d) ≡ [] → made_turn a bs d ≡ TurnGives bits ws → OnlyAnswered a bs d g bits ws
all_kept s a [] d g bits ws low all alike none did = (did, sym (did-writes [] bits [] ws did), refl, refl)
all_kept s a (ByOther v ∷ bs) d g bits ws low all alike none did =
    let high : s < v.stamp.0 = all.0 in
    all_kept s a bs (with_version v d) g bits ws low all.1 (record { own_same = alike.own_same; version = alike.version ∙ sym (version_at-made a.stamp.0 d.versions v (omega (arith, low, high))) }) none did
all_kept s a (ByBatch i ∷ bs) d g bits ws low all alike none did =
    let parts = and_turn-fine i (verdict a i d) (made_turn a bs (after_item a i d)) bits ws did in
    elim (fine-cases a i (verdict a i d) d parts.0) [
      | inl kept ↦
          let same : after_item a i d ≡ d = ap (λ v. content_after (asks_as a i) v d) kept.1 in
          let too : verdict a i g ≡ Keep kept.0 = kept_deed i.request (asks_as a i) d g kept.0 (record { own_same = alike.own_same; version = alike.version }) kept.1 in
          let stays : after_item a i g ≡ g = ap (λ v. content_after (asks_as a i) v g) too in
          let r = all_kept s a bs d g parts.1 parts.2 low all alike (ap (λ e. own a (made_after a bs e)) (sym same) ∙ none) (ap (made_turn a bs) (sym same) ∙ parts.3) in
          let whole : and_turn i (Keep kept.0) (TurnGives parts.1 parts.2) ≡ TurnGives bits ws = ap (λ v. and_turn i v (TurnGives parts.1 parts.2)) (sym kept.1) ∙ ap (and_turn i (verdict a i d)) (sym parts.3) ∙ did in (
            ap (λ v. and_turn i v (turn_of a (batch_items bs) (after_item a i g))) too
                ∙ ap (λ e. and_turn i (Keep kept.0) (turn_of a (batch_items bs) e)) stays
                ∙ ap (and_turn i (Keep kept.0)) r.0
                ∙ whole,
            sym (did-writes _ bits parts.2 ws whole) ∙ r.1,
            ap (after_items a (batch_items bs)) stays ∙ r.2,
            ap (made_after a bs) same ∙ r.3,
          )
      | inr owns ↦ absurd (owns-stay a bs (after_item a i d) owns none)
    ]

-- the items up to the refused one

pub writes-above : (s : ℕ) (bs : Course) → AllForeignAbove s bs → AllAbove stamp_of s (foreign_writes bs)
writes-above s [] all = tt
writes-above s (ByBatch i ∷ bs) all = writes-above s bs all
writes-above s (ByOther v ∷ bs) all = (all.0, writes-above s bs all.1)

items-append : (xs ys : Course) → batch_items (xs ++ ys) ≡ batch_items xs ++ batch_items ys
items-append [] ys = refl
items-append (ByBatch i ∷ xs) ys = ap (λ zs. i ∷ zs) (items-append xs ys)
items-append (ByOther v ∷ xs) ys = items-append xs ys

pub foreign_front : (s : ℕ) (xs ys : Course) → AllForeignAbove s (xs ++ ys) → AllForeignAbove s xs
foreign_front s [] ys all = tt
foreign_front s (ByBatch i ∷ xs) ys all = foreign_front s xs ys all
foreign_front s (ByOther v ∷ xs) ys all = (all.0, foreign_front s xs ys all.1)

pub items_refused : (a : At) (is : List Item) (j : Item) (js : List Item) (g : Content) (bits : List (ℕ × Bit)) (ws : List Written) (f : ActFault)
    → turn_of a is g ≡ TurnGives bits ws → verdict a j (after_items a is g) ≡ Refuse f → turn_of a (is ++ j ∷ js) g ≡ TurnFails j.pos f
items_refused a [] j js g bits ws f did e = ap (λ v. and_turn j v (turn_of a js (after_item a j g))) e
items_refused a (i ∷ is) j js g bits ws f did e =
    let parts = and_turn-fine i (verdict a i g) (turn_of a is (after_item a i g)) bits ws did in
    and_turn-later i (verdict a i g) (turn_of a (is ++ j ∷ js) (after_item a i g)) j.pos f parts.0
    (items_refused a is j js (after_item a i g) parts.1 parts.2 f parts.3 e)

alone-refused : (i : Item) (v : Verdict) (p : ℕ) (f : ActFault) → and_turn i v (TurnGives [] []) ≡ TurnFails p f → v ≡ Refuse f
alone-refused i v p f h = elim (and_turn-refused i v (TurnGives [] []) p f h) [
  | inl here ↦ here.0
  | inr later ↦ did-refused p f later.1
]

pub fails_old : FailsOld
fails_old s a bs c d p t k low all failed =
    let r = refused_after a bs c p (TooOld t) failed in
    let foreign : AllForeignAbove s r.front = foreign_front s r.front (ByBatch r.item ∷ r.back) (subst (AllForeignAbove s) r.is all) in
    let same = same_course s a r.front c d k low foreign in
    let here : verdict a r.item (made_after a r.front d) ≡ Refuse (TooOld t) =
    key_verdict s a r.item (course_after a r.front c) (made_after a r.front d) same.1 low ∙ alone-refused r.item _ p (TooOld t) r.refused
    in
    let none : own a (made_after a r.front d) ≡ [] = old_deed r.item.request (asks_as a r.item) (made_after a r.front d) t here in
    let g = with_versions (foreign_writes r.front) d in
    let only = all_kept s a r.front d g r.bits r.writes low foreign (more_alike s a (foreign_writes r.front) d low (writes-above s r.front foreign)) none (same.0 ∙ r.before) in (
      r,
      only.1,
      ap (λ bs. turn_of a (batch_items bs) g) r.is
          ∙ ap (λ is. turn_of a is g) (items-append r.front (ByBatch r.item ∷ r.back))
          ∙ items_refused a (batch_items r.front) r.item (batch_items r.back) g r.bits r.writes (TooOld t) only.0 (ap (verdict a r.item) (only.2 ∙ sym only.3) ∙ here)
          ∙ ap (λ n. TurnFails n (TooOld t)) r.position,
    )
