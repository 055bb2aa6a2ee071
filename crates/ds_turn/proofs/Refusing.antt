-- The next item in the middle of a batch is refused.
use Rattle.std.proofs.Common.{◌≡◌, ℕ, List, [], ◌∷◌, map, refl, sym, ap, ◌∙◌}
use Rattle.ds_kind.specs.declared.batch.Item.{Item}
use Rattle.ds_cell.specs.declared.entry.At.{At}
use Rattle.ds_cell.specs.declared.verdict.Verdict.TheVariants.{Refuse}
use Rattle.ds_cell.specs.Content.{Content}
use Rattle.ds_cell.specs.Seen.{own}
use Rattle.ds_rule.specs.Turn.{and_turn, asks_as, verdict, after_item, after_items, turn_of}
use Rattle.ds_turn.specs.Course.{AllForeignAbove, ByBatch, batch_items, course_after, course_turn, foreign_writes, made_after, made_turn, with_versions}
use Rattle.ds_turn.specs.Partway.{PartwayRefused}
use Rattle.ds_turn.proofs.Again.{stays_items}
use Rattle.ds_turn.proofs.Deeds.{old_deed}
use Rattle.ds_turn.proofs.Courses.{eased_more, eased_refused}
use Rattle.ds_turn.proofs.KeyFacts.{key_verdict, more_alike}
use Rattle.ds_turn.proofs.TooOld.{all_kept, items_refused}

-- items as a course

acts-acted : (a : At) (is : List Item) (d : Content) → made_turn a (map ByBatch is) d ≡ turn_of a is d
acts-acted a [] d = refl
acts-acted a (i ∷ is) d = ap (and_turn i (verdict a i d)) (acts-acted a is (after_item a i d))

acts-after : (a : At) (is : List Item) (d : Content) → made_after a (map ByBatch is) d ≡ after_items a is d
acts-after a [] d = refl
acts-after a (i ∷ is) d = acts-after a is (after_item a i d)

acts-items : (is : List Item) → batch_items (map ByBatch is) ≡ is
acts-items [] = refl
acts-items (i ∷ is) = ap (λ zs. i ∷ zs) (acts-items is)

pub acts-writes : (is : List Item) → foreign_writes (map ByBatch is) ≡ []
acts-writes [] = refl
acts-writes (i ∷ is) = acts-writes is

pub acts-foreign : (s : ℕ) (is : List Item) → AllForeignAbove s (map ByBatch is)
acts-foreign s [] = tt
acts-foreign s (i ∷ is) = acts-foreign s is

-- in the world too
pub acts-turn : (a : At) (is : List Item) (c : Content) → course_turn a (map ByBatch is) c ≡ turn_of a is c
acts-turn a [] c = refl
acts-turn a (i ∷ is) c = ap (and_turn i (verdict a i c)) (acts-turn a is (after_item a i c))

pub acts-course : (a : At) (is : List Item) (c : Content) → course_after a (map ByBatch is) c ≡ after_items a is c
acts-course a [] c = refl
acts-course a (i ∷ is) c = acts-course a is (after_item a i c)

pub partway_refused : PartwayRefused
partway_refused s a acted vs c d i later f m low refused =
    let is = acted in
    let e = after_items a is d in
    let here : verdict a i (with_versions vs e) ≡ Refuse f = key_verdict s a i c (with_versions vs e) m.key low ∙ refused in (
      λ young.
          items_refused a is i later d m.none_refused.bits m.none_refused.writes f m.none_refused.gives
          (eased_refused _ _ f (eased_more s a i vs e low m.above (stays_items a is d m.stamps_rise m.key.none_waits)) here young ∙ here),
      λ old.
          let none : own a (made_after a (map ByBatch is) d) ≡ [] = ap (own a) (acts-after a is d) ∙ old_deed i.request (asks_as a i) (with_versions vs e) old.0 (here ∙ ap Refuse old.1) in
          let g = with_versions vs d in
          let only = all_kept s a (map ByBatch is) d g m.none_refused.bits m.none_refused.writes low (acts-foreign s is) (more_alike s a vs d low m.above) none (acts-acted a is d ∙ m.none_refused.gives) in
          let still : e ≡ d = sym (acts-after a is d) ∙ only.3 ∙ ap (λ us. with_versions us d) (acts-writes is) in
          items_refused a is i later g m.none_refused.bits m.none_refused.writes f
          (ap (λ js. turn_of a js g) (sym (acts-items is)) ∙ only.0)
          (ap (verdict a i) (ap (λ js. after_items a js g) (sym (acts-items is)) ∙ only.2 ∙ sym (ap (with_versions vs) still)) ∙ here),
    )
