-- A world stays steady at each line that is built, and in it no routed piece is refused.
use Rattle.std.proofs.Common.{◌≡◌, ℕ, ◌+◌, ◌<◌, Bool, true, false, not, cond, ◌&&◌, ◌||◌, ◌==◌, List, [], ◌∷◌, map, take, Option, Some, None, inl, inr, refl, sym, ap, ◌∙◌, subst, eq-eqb, ne_eqb, arith}
use Rattle.std.specs.List.{find, list_any, list_all}
use Rattle.ds_base.specs.declared.value.Dir.{Dir}
use Rattle.ds_base.specs.declared.value.Dir.TheVariants.{Forward, Reverse}
use Rattle.ds_base.specs.declared.value.Stamp.{Stamp}
use Rattle.ds_base.specs.declared.value.Value.{Value}
use Rattle.ds_base.proofs.SmallFacts.{and_first, and_second}
use Rattle.ds_desc.specs.Contains.{contains}
use Rattle.ds_desc.specs.declared.desc.Info.{Info}
use Rattle.ds_desc.specs.declared.meta.Looked.TheVariants as Looked
use Rattle.ds_desc.specs.declared.refusal.Refusal.{Refusal}
use Rattle.ds_desc.specs.declared.refusal.Refusal.TheVariants.{NotFound, NotLease, Mismatch}
use Rattle.ds_kind.specs.declared.batch.Piece.{Piece}
use Rattle.ds_kind.specs.declared.reply.Failure.{Failure}
use Rattle.ds_cell.specs.Ask.{Cells}
use Rattle.ds_cell.specs.Store.{Asker}
use Rattle.ds_rule.specs.declared.answer.Answer.TheVariants.{Done, Failed, Refused, Lost}
use Rattle.ds_rule.specs.declared.cluster.ClusterRange.{ClusterRange}
use Rattle.ds_rule.specs.declared.event.Event.TheVariants.{Write}
use Rattle.ds_rule.specs.declared.journal.JournalStep.TheVariants.{Look, Send}
use Rattle.ds_rule.specs.declared.record.TxnRecord.{TxnRecord}
use Rattle.ds_rule.specs.Asking.{Made, Gives, Fails}
use Rattle.ds_rule.specs.Begin.{first_world, is_leased}
use Rattle.ds_rule.specs.Cause.{UsedUp, refused_in, lost_in}
use Rattle.ds_rule.specs.Close.{closed, settle_by, with_begin}
use Rattle.ds_rule.specs.Deliver.{Turned, answer_at, answer_made, deliver_answer, deliver_answer_to, deliver_world, ends, holds_item, mismatch_rows, served, stops}
use Rattle.ds_rule.specs.Journal.{Happening, Moved, Did, Runs}
use Rattle.ds_rule.specs.Law.{IsQuiet}
use Rattle.ds_rule.specs.Moves.{moved}
use Rattle.ds_rule.specs.Path.{AreRouted, GoesTo, IsRouted, route_by}
use Rattle.ds_rule.specs.Pieces.{Each, IsOneOf}
use Rattle.ds_rule.specs.Steady.{Steady, has_lease, ids_differ, infos_in}
use Rattle.ds_rule.specs.World.{World, Range, from_first, in_order, look_rows, look_world, rows_at, without_first, has_id, holds_key, replaced}
use Rattle.ds_world.proofs.First.{first-ids, first-leases}
use Rattle.ds_rule.proofs.Eachs.{of-reverse}
use Rattle.ds_rule.proofs.Passing.{told}
use Rattle.ds_law.proofs.Failing.{status_of}
use Rattle.ds_world.proofs.Settled.{settled-infos}
use Rattle.ds_rule.specs.Keeping.{Keeps}
use Rattle.ds_world.proofs.Delivers.{deliver-keeps, deliver-leaves}
use Rattle.ds_world.proofs.Stretches.{keeps-same}

-- at first

pub first-steady : (rs : List ClusterRange) → list_all is_leased rs ≡ true → Steady (first_world rs)
first-steady rs h = record { current = refl; ids = first-ids 1 rs; leases = first-leases 1 rs h }

-- and afterwards, as long as the ranges stay as they are

pub still-steady : (w v : World) → infos_in v ≡ infos_in w → v.armed ≡ [] → Steady w → Steady v
still-steady w v infos armed s = record {
  current = armed;
  ids = ap ids_differ infos ∙ s.ids;
  leases = ap (list_all has_lease) infos ∙ s.leases;
}

same-infos : (p : Range → Bool) (cells : Range → Cells) (rs : List Range) → map (λ r. r.info) (replaced p (λ r. record r { cells = cells r }) rs) ≡ map (λ r. r.info) rs
same-infos p cells [] = refl
same-infos p cells (r ∷ rs) =
    elim (p r) as (λ b. map (λ r. r.info) (cond b (record r { cells = cells r } ∷ rs) (r ∷ replaced p (λ r. record r { cells = cells r }) rs)) ≡ r.info ∷ map (λ r. r.info) rs) [
      | true ↦ refl
      | false ↦ ap (λ is. r.info ∷ is) (same-infos p cells rs)
    ]

pub write-steady : (w : World) (k : List ℕ) (s : Stamp) (v : Option Value) → Steady w → Steady (moved w (Write k s v))
write-steady w k s v st = still-steady w (moved w (Write k s v)) (same-infos (holds_key k) _ w.ranges) st.current st

pub begin-steady : (w : World) (t : Asker) → Steady w → Steady (with_begin t w)
begin-steady w t st = record { current = st.current; ids = st.ids; leases = st.leases }

closed-infos : (o : Option TxnRecord) (rs : List Range) → map (λ r. r.info) (settle_by o rs) ≡ map (λ r. r.info) rs
closed-infos None rs = refl
closed-infos (Some t) rs = settled-infos t.txn.0 _ rs

pub close-steady : (w : World) → Steady w → Steady (closed w)
close-steady w st = still-steady w (closed w) (closed-infos _ w.ranges) st.current st

-- a step of a sender

look-steady : (w : World) (k : List ℕ) (d : Dir) → Steady w → Steady (look_world w k d)
look-steady w k d st = still-steady w (look_world w k d) refl (ap (without_first _) st.current) st

-- what every world keeps is what a steady one wants, but for armed rows
abbrev pub Both : World → Type 0
Both w = Keeps w × Steady w

pub keeps-steady : (w : World) → Keeps w → w.armed ≡ [] → Steady w
keeps-steady w k none = record { current = none; ids = k.ids; leases = k.leases }

look-both : (w : World) (k : List ℕ) (d : Dir) → Both w → Both (look_world w k d)
look-both w k d both = (keeps-same w (look_world w k d) refl refl both.0, look-steady w k d both.1)

deliver-both : (w : World) (n : ℕ) (p : Piece) → Both w → Both (deliver_world w n p)
deliver-both w n p both =
    let keeps = deliver-keeps n p w both.0 in
    (keeps, keeps-steady (deliver_world w n p) keeps (deliver-leaves (λ v. v.armed) (λ id cells v. refl) (λ ts v. refl) (λ k v. refl) (λ k m v. refl) w n p ∙ both.1.current))

-- and so a call that meets nothing but its own steps
quiet-both : (hs : List Happening) (w v : World) → Each IsQuiet hs → Runs w hs v → Both w → Both v
quiet-both [] w v quiet r st = subst Both (sym r) st
quiet-both (Moved e ∷ hs) w v quiet r st = absurd quiet.0
quiet-both (Did (Look k d (Looked.Rows infos)) ∷ hs) w v quiet r st = quiet-both hs r.0 v quiet.1 r.2 (subst Both (sym (told w (Look k d (Looked.Rows infos)) r.0 r.1).1) (look-both w k d st))
quiet-both (Did (Look k d Looked.Lost) ∷ hs) w v quiet r st = absurd (quiet.0 tt)
quiet-both (Did (Send n p (Done rs)) ∷ hs) w v quiet r st = quiet-both hs r.0 v quiet.1 r.2 (subst Both (sym (told w (Send n p (Done rs)) r.0 r.1).1) (deliver-both w n p st))
quiet-both (Did (Send n p (Failed f)) ∷ hs) w v quiet r st = quiet-both hs r.0 v quiet.1 r.2 (subst Both (sym (told w (Send n p (Failed f)) r.0 r.1).1) (deliver-both w n p st))
quiet-both (Did (Send n p (Refused f)) ∷ hs) w v quiet r st = quiet-both hs r.0 v quiet.1 r.2 (subst Both (sym (told w (Send n p (Refused f)) r.0 r.1).1) (deliver-both w n p st))
quiet-both (Did (Send n p Lost) ∷ hs) w v quiet r st = absurd (quiet.0 tt)

pub quiet-steady : (hs : List Happening) (w v : World) → Each IsQuiet hs → Runs w hs v → Keeps w → Steady w → Steady v
quiet-steady hs w v quiet r keeps st = (quiet-both hs w v quiet r (keeps, st)).1

-- a lookup's first row is of a range

of-order : (d : Dir) (r : Range) (rs : List Range) → IsOneOf r (in_order d rs) → IsOneOf r rs
of-order Forward r rs h = h
of-order Reverse r rs h = of-reverse r rs h

of-first : {X : Type 0} (p : X → Bool) (x : X) (xs : List X) → IsOneOf x (from_first p xs) → IsOneOf x xs
of-first p x [] h = h
of-first p x (y ∷ ys) h =
    elim (p y) as (λ b. IsOneOf x (cond b (y ∷ ys) (from_first p ys)) → IsOneOf x (y ∷ ys)) [
      | true ↦ λ g. g
      | false ↦ λ g. inr (of-first p x ys g)
    ] h

of-infos : (r : Range) (rs : List Range) → IsOneOf r rs → IsOneOf r.info (map (λ r. r.info) rs)
of-infos r [] h = h
of-infos r (q ∷ qs) (inl same) = inl (ap (λ z. z.info) same)
of-infos r (q ∷ qs) (inr more) = inr (of-infos r qs more)

-- where rows are of ranges, the first one is
first-row : (i : Info) (rest : List Info) (rs : List Range) → i ∷ rest ≡ map (λ r. r.info) (take 9 rs) → (r : Range) × (i ≡ r.info) × IsOneOf r rs
first-row i rest [] h = cc
first-row i rest (r ∷ rs) h = (r, cc, inl refl)

pub found-row : (w : World) (k : List ℕ) (d : Dir) (i : Info) (rest : List Info) → Steady w → i ∷ rest ≡ look_rows w k d → IsOneOf i (infos_in w)
found-row w k d i rest st h =
    let f = first-row i rest (from_first (λ r. contains d k r.info.desc.span) (in_order d w.ranges)) (h ∙ ap (λ descs. rows_at d k w (find (λ a. contains d k a.span) descs)) st.current) in
    subst (λ z. IsOneOf z (infos_in w)) (sym f.1) (of-infos f.0 w.ranges (of-order d f.0 w.ranges (of-first (λ r. contains d k r.info.desc.span) f.0 (in_order d w.ranges) f.2)))

-- the range of a row is the one with its id

other-row : (i : Info) (n : ℕ) (is : List Info) → IsOneOf i is → list_any (λ j. j.desc.id == n) is ≡ false → n ≡ i.desc.id → ⊥
other-row i n [] one h e = one
other-row i n (j ∷ js) (inl same) h e =
    let hit : (j.desc.id == n) ≡ true = eq-eqb j.desc.id n (ap (λ z. z.desc.id) (sym same) ∙ sym e) in
    never (sym (ap (λ t. t || list_any (λ j. j.desc.id == n) js) hit) ∙ h)
  where
    never : true ≡ false → ⊥
    never h = cc
other-row i n (j ∷ js) (inr more) h e = other-row i n js more (or_right (j.desc.id == n) _ h) e
  where
    or_right : (a b : Bool) → (a || b) ≡ false → b ≡ false
    or_right true b h = cc
    or_right false b h = h

-- the range that a row is of
record Of (i : Info) (rs : List Range) : Type 0 where
  range : Range
  found : find (has_id i.desc.id) rs ≡ Some range
  is : range.info ≡ i

of-row : (i : Info) (rs : List Range) → ids_differ (map (λ r. r.info) rs) ≡ true → IsOneOf i (map (λ r. r.info) rs) → Of i rs
of-row i [] differ one = absurd one
of-row i (r ∷ rs) differ (inl same) = record {
  range = r;
  found = ap (λ t. cond t (Some r) (find (has_id i.desc.id) rs)) (eq-eqb r.info.desc.id i.desc.id (ap (λ z. z.desc.id) (sym same)));
  is = sym same;
}
of-row i (r ∷ rs) differ (inr more) =
    let none = first_not (list_any (λ j. j.desc.id == r.info.desc.id) (map (λ r. r.info) rs)) _ differ in
    let o = of-row i rs (and_second (not (list_any (λ j. j.desc.id == r.info.desc.id) (map (λ r. r.info) rs))) _ differ) more in
    record {
      range = o.range;
      found = ap (λ t. cond t (Some r) (find (has_id i.desc.id) rs)) (ne_eqb r.info.desc.id i.desc.id (other-row i r.info.desc.id (map (λ r. r.info) rs) more none)) ∙ o.found;
      is = o.is;
    }
  where
    first_not : (a b : Bool) → (not a && b) ≡ true → a ≡ false
    first_not true b h = sym h
    first_not false b h = refl

leased : (i : Info) (is : List Info) → IsOneOf i is → list_all has_lease is ≡ true → has_lease i ≡ true
leased i [] one h = absurd one
leased i (j ∷ js) (inl same) h = ap has_lease same ∙ and_first (has_lease j) _ h
leased i (j ∷ js) (inr more) h = leased i js more (and_second (has_lease j) _ h)

-- so a piece that goes where a row says is turned away by nobody

goes-on : (w : World) (n : ℕ) (p : Piece) (r : Range) → has_lease r.info ≡ true → GoesTo r.info n p → stops w n p r ≡ ends (status_of w p)
goes-on w n p r lease goes =
    let third = cond (not (list_all (holds_item r) p.items)) (Some (Turned (Mismatch (mismatch_rows w p)))) (ends (status_of w p)) in
    let second = cond (not (r.info.lease.node == n)) (Some (Turned (NotLease r.info.lease))) third in
    ap (λ t. cond (not t) (Some (Turned NotFound)) second) (ap (λ m. list_any (λ n. n == m) r.info.desc.nodes) goes.lease ∙ lease)
    ∙ ap (λ t. cond (not t) (Some (Turned (NotLease r.info.lease))) third) (eq-eqb r.info.lease.node n (sym goes.lease))
    ∙ ap (λ t. cond (not t) (Some (Turned (Mismatch (mismatch_rows w p)))) (ends (status_of w p))) goes.held

made-answers : (m : Made) (f : Refusal) → Refused f ≡ answer_made m → ⊥
made-answers (Gives cells ws rs) f h = cc
made-answers (Fails g) f h = cc

ends-answers : (w : World) (p : Piece) (r : Range) (o : Option Failure) (f : Refusal) → Refused f ≡ answer_at w p r (ends o) → ⊥
ends-answers w p r None f h = made-answers (served w p r) f h
ends-answers w p r (Some g) f h = cc

pub not-refused : (w : World) (i : Info) (n : ℕ) (p : Piece) (f : Refusal) → Steady w → IsOneOf i (infos_in w) → GoesTo i n p → Refused f ≡ deliver_answer w n p → ⊥
not-refused w i n p f st one goes h =
    let o = of-row i w.ranges st.ids one in
    let found : find (has_id p.range) w.ranges ≡ Some o.range = ap (λ id. find (has_id id) w.ranges) goes.range ∙ o.found in
    let on = goes-on w n p o.range (ap has_lease o.is ∙ leased i (infos_in w) one st.leases) (subst (λ z. GoesTo z n p) (sym o.is) goes) in
    ends-answers w p o.range (status_of w p) f (h ∙ ap (deliver_answer_to w n p) found ∙ ap (answer_at w p o.range) on)

-- and nothing is refused or lost on a way that meets nothing but its own steps

-- the route was found in this world
abbrev pub IsFound : Option Info → World → Type 0
IsFound None w = Unit {0}
IsFound (Some i) w = IsOneOf i (infos_in w)

pub record AllTaken (hs : List Happening) : Type 0 where
  pub refusals : refused_in hs ≡ 0
  pub losses : lost_in hs ≡ 0

one-taken : (hs : List Happening) (r l : ℕ) → AllTaken hs → r ≡ 0 + refused_in hs → l ≡ 0 + lost_in hs → (r ≡ 0) × (l ≡ 0)
one-taken hs r l all e f = (let x = all.refusals in omega (arith, x, e), let y = all.losses in omega (arith, y, f))

found-by : (w : World) (k : List ℕ) (d : Dir) (infos : List Info) → Steady w → infos ≡ look_rows w k d → IsFound (route_by (Look k d (Looked.Rows infos))) (look_world w k d)
found-by w k d [] st h = tt
found-by w k d (i ∷ is) st h = found-row w k d i is st h

refused-never : (w : World) (route : Option Info) (n : ℕ) (p : Piece) (f : Refusal) → Steady w → IsFound route w → IsRouted route (Send n p (Refused f)) → Refused f ≡ deliver_answer w n p → ⊥
refused-never w None n p f st found goes h = goes
refused-never w (Some i) n p f st found goes h = not-refused w i n p f st found goes h

pub all-taken : (hs : List Happening) (route : Option Info) (w v : World) → Both w → IsFound route w → AreRouted route hs → Each IsQuiet hs → Runs w hs v → AllTaken hs
all-taken [] route w v st found routed quiet r = record { refusals = refl; losses = refl }
all-taken (Moved e ∷ hs) route w v st found routed quiet r = absurd quiet.0
all-taken (Did (Look k d (Looked.Rows infos)) ∷ hs) route w v st found routed quiet r =
    let after : r.0 ≡ look_world w k d = (told w (Look k d (Looked.Rows infos)) r.0 r.1).1 in
    let more = all-taken hs (route_by (Look k d (Looked.Rows infos))) r.0 v (subst Both (sym after) (look-both w k d st)) (subst (IsFound (route_by (Look k d (Looked.Rows infos)))) (sym after) (found-by w k d infos st.1 (told w (Look k d (Looked.Rows infos)) r.0 r.1).0)) routed.1 quiet.1 r.2 in
    let sums = one-taken hs _ _ more refl refl in
    record { refusals = sums.0; losses = sums.1 }
all-taken (Did (Look k d Looked.Lost) ∷ hs) route w v st found routed quiet r = absurd (quiet.0 tt)
all-taken (Did (Send n p (Done rs)) ∷ hs) route w v st found routed quiet r =
    let more = all-taken hs None r.0 v (subst Both (sym (told w (Send n p (Done rs)) r.0 r.1).1) (deliver-both w n p st)) tt routed.1 quiet.1 r.2 in
    let sums = one-taken hs _ _ more refl refl in
    record { refusals = sums.0; losses = sums.1 }
all-taken (Did (Send n p (Failed f)) ∷ hs) route w v st found routed quiet r =
    let more = all-taken hs None r.0 v (subst Both (sym (told w (Send n p (Failed f)) r.0 r.1).1) (deliver-both w n p st)) tt routed.1 quiet.1 r.2 in
    let sums = one-taken hs _ _ more refl refl in
    record { refusals = sums.0; losses = sums.1 }
all-taken (Did (Send n p (Refused f)) ∷ hs) route w v st found routed quiet r = absurd (refused-never w route n p f st.1 found routed.0 (told w (Send n p (Refused f)) r.0 r.1).0)
all-taken (Did (Send n p Lost) ∷ hs) route w v st found routed quiet r = absurd (quiet.0 tt)

-- a budget of some tries is never used up where none is spent
pub never-used-up : (budget r l : ℕ) (hs : List Happening) → 0 < budget → AllTaken hs → UsedUp budget r l hs → ⊥
never-used-up budget r l hs some all used = let a = all.refusals in let b = all.losses in let c = used.refusals in let d = used.losses in let s = used.sum in omega (arith, some, a, b, c, d, s)
