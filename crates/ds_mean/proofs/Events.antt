-- What each event shows.
use Rattle.std.proofs.Common.{◌≡◌, ℕ, Bool, true, false, cond, List, [], ◌∷◌, refl, sym, ap, ◌∙◌, subst}
use Rattle.std.specs.List.{find}
use Rattle.ds_base.specs.Order.{key_lt, bound}
use Rattle.ds_base.specs.Ordered.{key_eq}
use Rattle.ds_base.proofs.OrderedFacts.{eq_same}
use Rattle.ds_base.proofs.SmallFacts.{and_second}
use Rattle.ds_cell.specs.declared.entry.Version.{Version}
use Rattle.ds_cell.specs.Ask.{content_at}
use Rattle.ds_cell.specs.Change.{after_foreign}
use Rattle.ds_rule.specs.declared.event.Event.{Event}
use Rattle.ds_rule.specs.Keeping.{Keeps}
use Rattle.ds_rule.specs.Moves.{IsMove, arrived, arrived_as, counted, is_copy, moved}
use Rattle.ds_rule.specs.Shifts.{foreign_at, lease_to, merge_at, move_to, split_at, stale_by}
use Rattle.ds_rule.specs.World.{World, contents, cell_of}
use Rattle.ds_rule.proofs.Puts.{put-at}
use Rattle.ds_rule.proofs.Routes.{contents-ascend}
use Rattle.ds_world.proofs.Foreign.{foreign-contents, foreign-keeps}
use Rattle.ds_world.proofs.Shifted.{lease_holds, lease_keeps, merge_holds, merge_keeps, move_holds, move_keeps, split_holds, split_keeps, stale_keeps, stale_rest}
use Rattle.ds_world.proofs.Stretches.{keeps-same}
use Rattle.ds_turn.specs.Settling.{after_foreigns}
use Rattle.ds_mean.specs.Means.{CopiesStand}
use Rattle.ds_mean.specs.Shows.{Shows, records_by, writes_by}

-- what leaves all contents shows nothing
pub shows-same : (w v : World) → Keeps v → contents v.ranges ≡ contents w.ranges → v.records ≡ w.records → v.copies ≡ w.copies → Shows (λ k. []) w.records w v
shows-same w v keeps all records copies = record { keeps = keeps; cells = λ k. ap (content_at k) all; records = records; copies = copies }

shift-shows : (w v : World) → Keeps v → contents v.ranges ≡ contents w.ranges → v.records ≡ w.records → v.copies ≡ w.copies → Shows (λ k. []) w.records w (counted v)
shift-shows w v keeps all records copies = shows-same w (counted v) (keeps-same v (counted v) refl refl keeps) all records copies

stale-shows : (w : World) (k : List ℕ) (b : ℕ) → Keeps w → Shows (λ k. []) w.records w (counted (stale_by k b w))
stale-shows w k b keeps =
    let rest = stale_rest k b w in
    shift-shows w (stale_by k b w) (stale_keeps k b w keeps) (ap (λ z. contents z.ranges) rest) (ap (λ z. z.records) rest) (ap (λ z. z.copies) rest)

-- where no copy is under way, none arrives
none-arrives : (w : World) (c : ℕ) → CopiesStand w.copies → w ≡ arrived c w
none-arrives w c none = sym (ap (λ ls. arrived_as (find (is_copy c) ls) c w) none)

arrive-shows : (w : World) (c : ℕ) → Keeps w → CopiesStand w.copies → Shows (λ k. []) w.records w (counted (arrived c w))
arrive-shows w c keeps none = subst (λ v. Shows (λ k. []) w.records w (counted v)) (none-arrives w c none) (shift-shows w w keeps refl refl refl)

-- at the written key, and at every other one
written-at : (k q : List ℕ) (v : Version) (w : World) (t : Bool) → key_eq k q ≡ t → cond t (after_foreign v (cell_of w k)) (cell_of w q) ≡ after_foreigns (cond t (v ∷ []) []) (cell_of w q)
written-at k q v w true same = ap (λ z. after_foreign v (cell_of w z)) (eq_same k q same)
written-at k q v w false same = refl

write-shows : (w : World) (k : List ℕ) (v : Version) → key_lt k bound ≡ true → Keeps w → Shows (λ q. cond (key_eq k q) (v ∷ []) []) w.records w (counted (foreign_at k v w))
write-shows w k v key keeps = record {
  keeps = keeps-same (foreign_at k v w) (counted (foreign_at k v w)) refl refl (foreign-keeps k v w keeps);
  cells = λ q.
      ap (content_at q) (foreign-contents k v w keeps key)
      ∙ put-at k q (after_foreign v) (contents w.ranges) (contents-ascend [] w.ranges keeps.tiled)
      ∙ written-at k q v w (key_eq k q) refl;
  records = refl;
  copies = refl;
}

pub event-shows : (w : World) (e : Event) (floor : ℕ) → IsMove floor e → Keeps w → CopiesStand w.copies → Shows (λ k. writes_by k e) (records_by e w.records) w (moved w e)
event-shows w (Event.Write k s v) floor above keeps none = write-shows w k (record { stamp = s; value = v }) (and_second _ _ above.1) keeps
event-shows w Event.Abort floor above keeps none = record { keeps = keeps-same w (moved w Event.Abort) refl refl keeps; cells = λ k. refl; records = refl; copies = refl }
event-shows w (Event.Split k) floor above keeps none = shift-shows w (split_at k w) (split_keeps k w keeps) (split_holds k w keeps) refl refl
event-shows w (Event.Merge k) floor above keeps none = shift-shows w (merge_at k w) (merge_keeps k w keeps) (merge_holds k w keeps) refl refl
event-shows w (Event.Lease k n) floor above keeps none = shift-shows w (lease_to k n w) (lease_keeps k n w keeps) (lease_holds k n w keeps) refl refl
event-shows w (Event.Move k ns) floor above keeps none = shift-shows w (move_to k ns w) (move_keeps k ns w above keeps) (move_holds k ns w above keeps) refl refl
event-shows w (Event.Stale k b) floor above keeps none = stale-shows w k b keeps
event-shows w (Event.Arrive c) floor above keeps none = arrive-shows w c keeps none
event-shows w (Event.LoseRequest c) floor above keeps none = absurd above
event-shows w (Event.LoseReply c) floor above keeps none = absurd above
event-shows w (Event.Copy c) floor above keeps none = absurd above
event-shows w (Event.Restart t) floor above keeps none = absurd above
