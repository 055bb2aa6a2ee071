-- Each key that stands in a range has room for one more byte, after each change.
use Rattle.std.proofs.Common.{◌≡◌, ℕ, Bool, true, false, cond, List, [], ◌∷◌, ◌++◌, Option, Some, None, refl, sym, subst, Result, Ok, Err, OnOk, OnErr, ◌⊎◌, inl, inr}
use Rattle.std.specs.List.{filter, list_all}
use Rattle.std.specs.Map.{remove_entry, set_value}
use Rattle.std.specs.BTreeMap.{is_at}
use Rattle.ds_base.specs.Order.{Extent, holds, key_cmp}
use Rattle.ds_base.specs.declared.value.Stamp.{Stamp}
use Rattle.ds_kind.specs.Asks.{has_proper_span, has_room}
use Rattle.ds_kind.specs.Parts.{requests_of}
use Rattle.ds_kind.specs.declared.batch.Item.{Item}
use Rattle.ds_cell.specs.Ask.{Cell, Cells, content_at}
use Rattle.ds_cell.specs.Change.{settled}
use Rattle.ds_cell.specs.Content.{Content}
use Rattle.ds_cell.specs.Store.{put_cell}
use Rattle.ds_cell.specs.Taken.{given_back}
use Rattle.ds_cell.specs.declared.taken.Taken.{Taken}
use Rattle.ds_rule.specs.Pieces.{Each}
use Rattle.ds_rule.specs.Serve.{settle_as, settle_one}
use Rattle.ds_rule.proofs.Eachs.{each-append}
use Rattle.ds_serve.specs.Shares.{CanResume, HasRoom}
use Rattle.ds_serve.proofs.Rooms.{room_as, room_put}
use Rattle.ds_range.specs.Keeps.{Kept, put_back, restored}
use Rattle.ds_range.specs.Resolves.{PartlyAs, PartlySettled, settle_cell}

-- a piece may have a limit
pub can_resume : (left : Option ℕ) (is : List Item) (cells : Cells) → list_all has_proper_span (requests_of is) ≡ true → Each HasRoom cells → CanResume left is cells
can_resume None is cells proper all = tt
can_resume (Some n) is cells proper all = (proper, all)

-- parts of the contents, and two contents together

pub room_part : (t : Cell → Bool) (ps : Cells) → Each HasRoom ps → Each HasRoom (filter t ps)
room_part t [] all = tt
room_part t (p ∷ ps) all =
    elim (t p) as (λ b. Each HasRoom (cond b (p ∷ filter t ps) (filter t ps))) [
      | true ↦ (all.0, room_part t ps all.1)
      | false ↦ room_part t ps all.1
    ]

pub room_both : (xs ys : Cells) → Each HasRoom xs → Each HasRoom ys → Each HasRoom (xs ++ ys)
room_both xs ys a b = each-append HasRoom xs ys a b

-- what was kept, put back

room_removed : (t : List ℕ → Bool) (ps : Cells) → Each HasRoom ps → Each HasRoom (remove_entry t ps)
room_removed t [] all = tt
room_removed t (p ∷ ps) all =
    elim (t p.0) as (λ b. Each HasRoom (cond b ps (p ∷ remove_entry t ps))) [
      | true ↦ all.1
      | false ↦ (all.0, room_removed t ps all.1)
    ]

room_set : (t : List ℕ → Bool) (c : Content) (ps : Cells) → Each HasRoom ps → Each HasRoom (set_value t ps c)
room_set t c [] all = tt
room_set t c (p ∷ ps) all =
    elim (t p.0) as (λ b. Each HasRoom (cond b ((p.0, c) ∷ ps) (p ∷ set_value t ps c))) [
      | true ↦ all
      | false ↦ (all.0, room_set t c ps all.1)
    ]

room_back : (k : List ℕ) (o : Option Taken) (es : Cells) → Each HasRoom es → Each HasRoom (put_back k o es)
room_back k None es all = room_removed (is_at (key_cmp k)) es all
room_back k (Some t) es all = room_set (is_at (key_cmp k)) (given_back t (content_at k es)) es all

room_restored : (us : List Kept) (es : Cells) → Each HasRoom es → Each HasRoom (restored us es)
room_restored [] es all = all
room_restored (u ∷ us) es all = room_back u.0 u.1 (restored us es) (room_restored us es all)

pub room_undone : (us : List Kept) (es now : Cells) → now ≡ restored us es → Each HasRoom es → Each HasRoom now
room_undone us es now is all = subst (Each HasRoom) (sym is) (room_restored us es all)

-- changes that may want memory

pub room_foreign : {U E : Type 0} (k : List ℕ) (f : Content → Content) (es now : Cells) (r : Result U E) → has_room k ≡ true → OnOk r (now ≡ put_cell k f es) → OnErr r (now ≡ es) → Each HasRoom es → Each HasRoom now
room_foreign k f es now (Ok u) room is same all = subst (Each HasRoom) (sym is) (room_put k (f (content_at k es)) es room all)
room_foreign k f es now (Err e) room is same all = subst (Each HasRoom) (sym same) all

partly_room : (f : Cell → Cell) (old new : Cells) → ((p : Cell) → HasRoom p → HasRoom (f p)) → PartlyAs f old new → Each HasRoom old → Each HasRoom new
partly_room f [] [] keeps h all = tt
partly_room f [] (q ∷ qs) keeps h all = absurd h
partly_room f (p ∷ ps) [] keeps h all = absurd h
partly_room f (p ∷ ps) (q ∷ qs) keeps h all = (one h.0, partly_room f ps qs keeps h.1 all.1)
  where
    one : (q ≡ p) ⊎ (q ≡ f p) → HasRoom q
    one (inl e) = subst HasRoom (sym e) all.0
    one (inr e) = subst HasRoom (sym e) (keeps p all.0)

settled_room : (x : Extent) (txn : ℕ) (commit : Option Stamp) (p : Cell) → HasRoom p → HasRoom (settle_one x txn commit p)
settled_room x txn commit p room =
    elim (holds x.start x.end p.0) as (λ b. HasRoom (cond b (p.0, settled txn commit p.1) p)) [
      | true ↦ room
      | false ↦ room
    ]

pub room_resolved : {U E : Type 0} (x : Extent) (txn : ℕ) (o : Option (Option Stamp)) (old new : Cells) (r : Result U E) → OnOk r (new ≡ settle_as x txn o old) → OnErr r (PartlySettled x txn o old new) → Each HasRoom old → Each HasRoom new
room_resolved x txn o old new (Ok u) is partly all = subst (Each HasRoom) (sym is) (room_as x txn o old all)
room_resolved x txn None old new (Err e) is partly all = subst (Each HasRoom) (sym partly) all
room_resolved x txn (Some commit) old new (Err e) is partly all = partly_room (settle_one x txn commit) old new (settled_room x txn commit) partly all

pub room_settled : (txn : ℕ) (commit : Option Stamp) (old new : Cells) → PartlyAs (settle_cell txn commit) old new → Each HasRoom old → Each HasRoom new
room_settled txn commit old new h all = partly_room (settle_cell txn commit) old new (λ p room. room) h all
