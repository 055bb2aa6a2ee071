-- The pieces that wait in turn, while rests are routed.
use Rattle.std.proofs.Common.{◌≡◌, ℕ, zero, suc, ◌<◌, true, List, [], ◌∷◌, ◌++◌, get_or, slice_get, length, Option, Some, None, Result, Ok, Err, IfOk, inl, inr, refl, sym, ap, ◌∙◌, subst, append_assoc}
use Rattle.std.proofs.lemmas.List.Quantifiers.{position-Some}
use Rattle.std.proofs.lemmas.Option.{slice_get-get_or}
use Rattle.std.specs.List.{insert, position, remove}
use Rattle.std.specs.declared.alloc.AllocError.{AllocError}
use Rattle.ds_base.proofs.KeyOrder.{key_lt-trans}
use Rattle.ds_base.proofs.SmallFacts.{append_nil, none_some, some_same}
use Rattle.ds_base.specs.declared.value.Dir.{Dir}
use Rattle.ds_base.specs.declared.value.Dir.TheVariants.{Forward, Reverse}
use Rattle.ds_kind.specs.declared.batch.Item.{Item}
use Rattle.ds_kind.specs.declared.batch.Part.{Part}
use Rattle.ds_cover.proofs.Cutting.{cut-near}
use Rattle.ds_cover.specs.Cuts.{seek_key}
use Rattle.ds_cut.specs.Pieces.{rest_part}
use Rattle.ds_rule.specs.Pieces.{Each}
use Rattle.ds_flight.specs.Picked.{comes_first, InTurn, IsMetBefore}
use Rattle.ds_flight.specs.Places.{is_rest, placed, rest_if}
use Rattle.ds_flight.specs.Queues.{pieces_in, rests_in, IsCutAt, IsQueue, KeepsQueue, Queued, RestPlaced}
use Rattle.ds_flight.specs.declared.fill.Filling.{Filling}
use Rattle.ds_flight.specs.declared.fill.Filling.TheVariants.{On, NotWhole, Spent}
use Rattle.ds_flight.specs.declared.work.Flying.{Flying}
use Rattle.ds_flight.specs.declared.work.Task.{Task}
use Rattle.ds_flight.specs.declared.work.Task.TheVariants.{Rest, Routed}
use Rattle.ds_flight.proofs.Filling.{seeks}
use Rattle.ds_flight.proofs.Seeking.{cut-sought, rest-sought}

-- ---- blocks in turn

first-then : (d : Dir) (a b c : List ℕ) → comes_first d a b ≡ true → comes_first d b c ≡ true → comes_first d a c ≡ true
first-then Forward a b c x y = key_lt-trans a b c x y
first-then Reverse a b c x y = key_lt-trans c b a y x

-- the one in place of the other, and a block after it
met-cut : (d : Dir) (b old piece : List Item) (s : List ℕ) → seek_key d old ≡ Some s → seek_key d piece ≡ Some s → IsMetBefore d b old → IsMetBefore d b piece
met-cut d b old piece s old_is piece_is met =
    let same : met.later ≡ s = some_same met.later s (sym met.later_is ∙ old_is) in
    record { first = met.first; later = s; first_is = met.first_is; later_is = piece_is; before = subst (λ k. comes_first d met.first k ≡ true) same met.before }

met-rest : (d : Dir) (b old rest : List Item) (s t : List ℕ) → seek_key d old ≡ Some s → seek_key d rest ≡ Some t → comes_first d s t ≡ true → IsMetBefore d b old → IsMetBefore d b rest
met-rest d b old rest s t old_is rest_is later met =
    let same : met.later ≡ s = some_same met.later s (sym met.later_is ∙ old_is) in
    record { first = met.first; later = t; first_is = met.first_is; later_is = rest_is; before = first-then d met.first s t (subst (λ k. comes_first d met.first k ≡ true) same met.before) later }

each-cut : (d : Dir) (b old piece : List Item) (rests : List (List Item)) (s : List ℕ) → seek_key d old ≡ Some s → seek_key d piece ≡ Some s → (IsMetBefore d b old → Each (IsMetBefore d b) rests)
    → (cut : List (List Item)) → Each (IsMetBefore d b) (cut ++ old ∷ []) → Each (IsMetBefore d b) ((cut ++ piece ∷ []) ++ rests)
each-cut d b old piece rests s old_is piece_is later [] all = (met-cut d b old piece s old_is piece_is all.0, later all.0)
each-cut d b old piece rests s old_is piece_is later (x ∷ xs) all = (all.0, each-cut d b old piece rests s old_is piece_is later xs all.1)

turn-cut : (d : Dir) (old piece : List Item) (rests : List (List Item)) (s : List ℕ) → seek_key d old ≡ Some s → seek_key d piece ≡ Some s → ((b : List Item) → IsMetBefore d b old → Each (IsMetBefore d b) rests)
    → Each (IsMetBefore d piece) rests → InTurn d rests → (cut : List (List Item)) → InTurn d (cut ++ old ∷ []) → InTurn d ((cut ++ piece ∷ []) ++ rests)
turn-cut d old piece rests s old_is piece_is later after turn [] all = (after, turn)
turn-cut d old piece rests s old_is piece_is later after turn (x ∷ xs) all =
    (each-cut d x old piece rests s old_is piece_is (later x) xs all.0, turn-cut d old piece rests s old_is piece_is later after turn xs all.1)

-- ---- the first rest of a queue

-- what is left of a rest as a list of blocks
abbrev left_blocks : Option (List ℕ) → Part → List (List Item)
left_blocks None c = []
left_blocks (Some k) c = c.items ∷ []

-- the rest of the queue is replaced by a piece and what is left
pub record Replaced (piece : List Item) (rests : List (List Item)) (old new : List Task) : Type 0 where
  pub queue : IsQueue new
  pub pieces : pieces_in new ≡ pieces_in old ++ piece ∷ []
  pub rests_are : rests_in new ≡ rests

rest-end : (work : List Task) (c : Part) (at : ℕ) → IsQueue work → slice_get work at ≡ Some (Rest c) → rests_in work ≡ c.items ∷ []
rest-end [] c at queue there = none_some (Rest c) there
rest-end (Rest x ∷ ts) c zero queue there =
    let same : Rest x ≡ Rest c = some_same _ _ there in
    ap (λ us. x.items ∷ rests_in us) queue ∙ rest-items x c same
  where
    rest-items : (x c : Part) → Rest x ≡ Rest c → x.items ∷ [] ≡ c.items ∷ []
    rest-items x c same = let e : x ≡ c = cc in ap (λ (y : Part). y.items ∷ []) e
rest-end (Rest x ∷ ts) c (suc n) queue there = none_some (Rest c) (subst (λ us. slice_get us n ≡ Some (Rest c)) queue there)
rest-end (Routed r ∷ ts) c zero queue there = let bad : Routed r ≡ Rest c = some_same _ _ there in cc
rest-end (Routed r ∷ ts) c (suc n) queue there = rest-end ts c n queue there

placed-after : (o : Option (List ℕ)) (r x : Flying) (p : Part) (n : ℕ) (ts : List Task) → insert (rest_if o p (suc n) (Routed x ∷ ts)) (suc n) (Routed r) ≡ Routed x ∷ insert (rest_if o p n ts) n (Routed r)
placed-after None r x p n ts = refl
placed-after (Some k) r x p n ts = refl

queue-placed :
    (o : Option (List ℕ)) (r : Flying) (p : Part) (work : List Task) (c : Part) (at : ℕ) → IsQueue work → slice_get work at ≡ Some (Rest c)
    → Replaced r.piece.items (left_blocks o p) work (insert (rest_if o p at (remove work at)) at (Routed r))
queue-placed o r p [] c at queue there = none_some (Rest c) there
queue-placed o r p (Rest x ∷ ts) c zero queue there =
    subst (λ us. Replaced r.piece.items (left_blocks o p) (Rest x ∷ us) (insert (rest_if o p 0 us) 0 (Routed r))) (sym queue) (one-again o)
  where
    one-again : (o : Option (List ℕ)) → Replaced r.piece.items (left_blocks o p) (Rest x ∷ []) (insert (rest_if o p 0 []) 0 (Routed r))
    one-again None = record { queue = tt; pieces = refl; rests_are = refl }
    one-again (Some k) = record { queue = refl; pieces = refl; rests_are = refl }
queue-placed o r p (Rest x ∷ ts) c (suc n) queue there = none_some (Rest c) (subst (λ us. slice_get us n ≡ Some (Rest c)) queue there)
queue-placed o r p (Routed x ∷ ts) c zero queue there = let bad : Routed x ≡ Rest c = some_same _ _ there in cc
queue-placed o r p (Routed x ∷ ts) c (suc n) queue there =
    let later = queue-placed o r p ts c n queue there in
    subst (Replaced r.piece.items (left_blocks o p) (Routed x ∷ ts)) (sym (placed-after o r x p n (remove ts n)))
    (record { queue = later.queue; pieces = ap (λ bs. x.piece.items ∷ bs) later.pieces; rests_are = later.rests_are })

-- ---- it is cut

rests-later : (d : Dir) (b old : List Item) (c : Part) (s : List ℕ) → seek_key d old ≡ Some s → ((t : List ℕ) → seek_key d c.items ≡ Some t → comes_first d s t ≡ true) → (o : Option (List ℕ)) → seek_key d c.items ≡ o → IsMetBefore d b old → Each (IsMetBefore d b) (left_blocks o c)
rests-later d b old c s old_is later None is met = tt
rests-later d b old c s old_is later (Some t) is met = (met-rest d b old c.items s t old_is is (later t is) met, tt)

rests-after : (d : Dir) (piece : List Item) (c : Part) (s : List ℕ) → seek_key d piece ≡ Some s → ((t : List ℕ) → seek_key d c.items ≡ Some t → comes_first d s t ≡ true) → (o : Option (List ℕ)) → seek_key d c.items ≡ o → Each (IsMetBefore d piece) (left_blocks o c)
rests-after d piece c s piece_is later None is = tt
rests-after d piece c s piece_is later (Some t) is = (record { first = s; later = t; first_is = piece_is; later_is = is; before = later t is }, tt)

rests-turn : (d : Dir) (o : Option (List ℕ)) (c : Part) → InTurn d (left_blocks o c)
rests-turn d None c = tt
rests-turn d (Some k) c = (tt, tt)

-- the place of the first rest, and what stands there
rest-there : (work : List Task) (at : ℕ) (t : Task) → position is_rest work ≡ Some at → t ≡ get_or work at t → slice_get work at ≡ Some t
rest-there work at t place is = slice_get-get_or work at t (position-Some is_rest work at t place).0 ∙ ap Some (sym is)

no-rests : {G : Type 0} (b : List Item) (rests : List (List Item)) → rests ≡ b ∷ [] → rests ≡ [] → G
no-rests b rests one none = let bad : b ∷ [] ≡ [] = sym one ∙ none in cc

queue-cut : (c : Part) (at : ℕ) (work new : List Task) → 0 < length c.items → slice_get work at ≡ Some (Rest c) → IsCutAt c at (remove work at) new → KeepsQueue c.dir work new On
queue-cut c at work new some there x =
    λ cut queue turn.
    let left = rest_part x.desc c in
    let piece = x.flying.piece.items in
    let s = seeks c.dir c.items some in
    let o = seek_key c.dir left.items in
    let in_it = x.seek s.0 s.1 in
    let piece_is : seek_key c.dir piece ≡ Some s.0 =
    subst (λ is. seek_key c.dir is ≡ Some s.0) (sym x.items) (cut-sought c.dir x.desc.span s.0 c.items s.1 in_it (cut-near c.dir x.desc.span c.items x.seek) x.spans) in
    let later : (t : List ℕ) → seek_key c.dir left.items ≡ Some t → comes_first c.dir s.0 t ≡ true = λ t h. rest-sought c.dir x.desc.span s.0 t c.items in_it h in
    let replaced : Replaced piece (left_blocks o left) work new = subst (Replaced piece (left_blocks o left) work) (sym x.work) (queue-placed o x.flying left work c at queue there) in
    let only = rest-end work c at queue there in
    record {
      queue = replaced.queue;
      more = piece ∷ [];
      pieces = replaced.pieces;
      turn = subst (λ rs. InTurn c.dir ((cut ++ piece ∷ []) ++ rs)) (sym replaced.rests_are)
          (turn-cut c.dir c.items piece (left_blocks o left) s.0 s.1 piece_is
          (λ b met. rests-later c.dir b c.items left s.0 s.1 later o refl met) (rests-after c.dir piece left s.0 piece_is later o refl) (rests-turn c.dir o left)
          cut (subst (λ rs. InTurn c.dir (cut ++ rs)) only turn));
      none = λ none. no-rests c.items (rests_in work) only none;
    }

-- ---- nothing changes

put-back : (work : List Task) (at : ℕ) (t : Task) → slice_get work at ≡ Some t → insert (remove work at) at t ≡ work
put-back [] at t there = none_some t there
put-back (x ∷ xs) zero t there = ap (λ y. y ∷ xs) (sym (some_same x t there))
put-back (x ∷ xs) (suc n) t there = ap (λ ys. x ∷ ys) (put-back xs n t there)

queue-same : (d : Dir) (work new : List Task) → new ≡ work → KeepsQueue d work new On
queue-same d work new same =
    λ cut queue turn. subst (Queued d cut work) (sym same) (record {
      queue = queue;
      more = [];
      pieces = sym (append_nil (pieces_in work));
      turn = subst (λ bs. InTurn d (bs ++ rests_in work)) (sym (append_nil cut)) turn;
      none = λ none. (refl, none);
    })

-- ---- a rest is routed, or its lookup was lost

at-rest : (d : Dir) (c : Part) (at : ℕ) (work new : List Task) (r : Filling) → c.dir ≡ d → 0 < length c.items → slice_get work at ≡ Some (Rest c) → RestPlaced c at (remove work at) new r → KeepsQueue d work new r
at-rest d c at work new On dir some there (inl x) = subst (λ e. KeepsQueue e work new On) dir (queue-cut c at work new some there x)
at-rest d c at work new On dir some there (inr again) = queue-same d work new (again ∙ put-back work at (Rest c) there)
at-rest d c at work new (NotWhole desc) dir some there x = tt
at-rest d c at work new Spent dir some there x = tt

pub queue-routed :
    (d : Dir) (c : Part) (at : ℕ) (work mid new : List Task) (t : Task) (r : Result Filling AllocError)
    → position is_rest work ≡ Some at → t ≡ get_or work at t → mid ≡ remove work at → t ≡ Rest c → (0 < length c.items) × (c.dir ≡ d)
    → IfOk r (RestPlaced c at mid new) → IfOk r (KeepsQueue d work new)
queue-routed d c at work mid new t (Ok x) place is out rest ready placed =
    at-rest d c at work new x ready.1 ready.0 (subst (λ y. slice_get work at ≡ Some y) rest (rest-there work at t place is)) (subst (λ m. RestPlaced c at m new x) out placed)
queue-routed d c at work mid new t (Err e) place is out rest ready placed = tt

-- ---- one after another

pub queue-then : (d : Dir) (old mid new : List Task) (r : Filling) → KeepsQueue d old mid On → KeepsQueue d mid new r → KeepsQueue d old new r
queue-then d old mid new On x y =
    λ cut queue turn.
    let one = x cut queue turn in
    let two = y (cut ++ one.more) one.queue one.turn in
    record {
      queue = two.queue;
      more = one.more ++ two.more;
      pieces = two.pieces ∙ ap (λ ps. ps ++ two.more) one.pieces ∙ append_assoc (pieces_in old) one.more two.more;
      turn = subst (λ bs. InTurn d (bs ++ rests_in new)) (append_assoc cut one.more two.more) two.turn;
      none = λ none.
          let first = one.none none in
          let then = two.none first.1 in
          (ap (λ ms. ms ++ two.more) first.0 ∙ then.0, then.1);
    }
queue-then d old mid new (NotWhole desc) x y = tt
queue-then d old mid new Spent x y = tt

pub queue-first : (d : Dir) (work : List Task) → KeepsQueue d work work On
queue-first d work = queue-same d work work refl
