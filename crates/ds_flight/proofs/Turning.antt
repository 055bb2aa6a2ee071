-- What a refusal or a loss leads to.
use Rattle.std.proofs.Common.{◌≡◌, ℕ, ◌+◌, Bool, true, false, cond, List, ◌++◌, Some, None, refl, sym, ap, ◌∙◌, subst}
use Rattle.std.proofs.lemmas.Bool.{eqb-true}
use Rattle.ds_cache.specs.Entries.{Cache, without}
use Rattle.ds_cache.specs.Insert.{put_all, PutFrom}
use Rattle.ds_desc.specs.declared.desc.Info.{Info}
use Rattle.ds_desc.specs.declared.desc.RangeDesc.{RangeDesc}
use Rattle.ds_desc.specs.declared.refusal.Refusal.{Refusal}
use Rattle.ds_desc.specs.declared.refusal.Refusal.TheVariants.{NotFound, NotLease, Mismatch}
use Rattle.ds_lease.specs.Turns.{Places, is_among, next_of}
use Rattle.ds_desc.specs.declared.desc.Lease.{Lease}
use Rattle.ds_retry.specs.Counted.{Counts, is_spent}
use Rattle.ds_retry.specs.Steps.{given_up, leaseholder_step, or_relook, order_after, step_after, step_of, IsKnown}
use Rattle.ds_retry.specs.declared.step.Step.{Step}
use Rattle.ds_retry.specs.declared.step.Step.TheVariants.{SameRoute, Relook, Recut, Exhausted}
use Rattle.ds_flight.specs.Causes.{failed_sum}
use Rattle.ds_flight.specs.Goes.{descs_of}
use Rattle.ds_flight.specs.Ran.{AreKnown}
use Rattle.ds_flight.specs.Sends.{evicted, learned, sent_after, told_rows, turned_work, unrouted, LearnsFrom, TurnedAway}
use Rattle.ds_flight.specs.declared.sent.Sent.{Sent}
use Rattle.ds_flight.specs.declared.work.Flying.{Flying}
use Rattle.ds_flight.specs.declared.work.Task.{Task}
use Rattle.ds_flight.proofs.Caching.{entries-more, known-begun, known-leased, known-told, known-without}

-- ---- what is known of the cache

learned-known : (known : List RangeDesc) (t : ℕ) (x : Refusal) (c : Cache) → AreKnown known c.entries → AreKnown known (learned t x c).entries
learned-known known t NotFound c all = all
learned-known known t (NotLease l) c all = known-leased known t l c.entries all
learned-known known t (Mismatch is) c all = all

-- the lease that was told was kept, and no more
pub learns-lease : (t : ℕ) (x : Refusal) (before after : Cache) → after ≡ learned t x before → LearnsFrom x before after
learns-lease t x before after same = λ known all.
    subst (λ c. AreKnown (known ++ descs_of (told_rows x)) c.entries) (sym same)
    (entries-more known (descs_of (told_rows x)) (learned t x before).entries (learned-known known t x before all))

-- the route was given up then
pub learns-evicted : (t : ℕ) (x : Refusal) (before mid after : Cache) → mid ≡ learned t x before → after ≡ evicted t mid → LearnsFrom x before after
learns-evicted t x before mid after same gone = λ known all.
    subst (λ c. AreKnown (known ++ descs_of (told_rows x)) c.entries) (sym (gone ∙ ap (evicted t) same))
    (entries-more known (descs_of (told_rows x)) (without t (learned t x before).entries) (known-without known t (learned t x before).entries (learned-known known t x before all)))

-- and the rows that were told came in its place, all of them or the last ones
pub learns-rows : (t : ℕ) (x : Refusal) (is : List Info) (before mid after : Cache) → x ≡ Mismatch is → mid ≡ learned t x before → after ≡ put_all is (evicted t mid) → LearnsFrom x before after
learns-rows t x is before mid after told same rows = λ known all.
    subst (λ y. AreKnown (known ++ descs_of (told_rows y)) after.entries) (sym told)
    (known-told known is (evicted t mid) after rows
    (known-without known t mid.entries (subst (λ c. AreKnown known c.entries) (sym same) (learned-known known t x before all))))

pub learns-begun : (t : ℕ) (x : Refusal) (is : List Info) (before mid after : Cache) → x ≡ Mismatch is → mid ≡ learned t x before → PutFrom is (evicted t mid) after → LearnsFrom x before after
learns-begun t x is before mid after told same from = λ known all.
    subst (λ y. AreKnown (known ++ descs_of (told_rows y)) after.entries) (sym told)
    (known-begun known is (evicted t mid) after from
    (known-without known t mid.entries (subst (λ c. AreKnown known c.entries) (sym same) (learned-known known t x before all))))

pub all-put : (is : List Info) (c d : Cache) → d ≡ put_all is c → PutFrom is c d
all-put is c d same = (0, same)

-- ---- what it leads to

-- by the step that comes after it
pub turned-so :
    (x : Refusal) (r : Flying) (c : Counts) (at : ℕ) (before after : Cache) (old new : List Task) (s : Sent) (e : Step)
    → e ≡ step_after c r.order x → s ≡ sent_after e → new ≡ turned_work e r (order_after c r.order x) at old → after ≡ unrouted e r.token x (learned r.token x before) → IsKnown r.order e
    → TurnedAway x r c at before after old new s
turned-so x r c at before after old new s e is sent work cached known = record {
  sent = subst (λ y. s ≡ sent_after y) is sent;
  work = subst (λ y. new ≡ turned_work y r (order_after c r.order x) at old) is work;
  cache = subst (λ y. after ≡ unrouted y r.token x (learned r.token x before)) is cached;
  known = subst (IsKnown r.order) is known;
}

-- a new cut is wanted only where rows were told

abbrev is_recut : Step → Bool
is_recut (SameRoute n) = false
is_recut Relook = false
is_recut Recut = true
is_recut (Exhausted refused lost) = false

found-recut : (c : Counts) (o : Places) → is_recut (step_after c o NotFound) ≡ false
found-recut c o = elim (is_spent c) as (λ t. is_recut (cond {A = Step} t (given_up c) (or_relook (next_of o))) ≡ false) [
  | true ↦ refl
  | false ↦ elim (next_of o) as (λ n. is_recut (or_relook n) ≡ false) [ None ↦ refl | Some n ↦ refl ]
]

lease-recut : (c : Counts) (o : Places) (l : Lease) → is_recut (step_after c o (NotLease l)) ≡ false
lease-recut c o l = elim (is_spent c) as (λ t. is_recut (cond {A = Step} t (given_up c) (leaseholder_step l.node o)) ≡ false) [
  | true ↦ refl
  | false ↦ elim (is_among l.node o.replicas) as (λ t. is_recut (cond {A = Step} t (SameRoute l.node) Relook) ≡ false) [ true ↦ refl | false ↦ refl ]
]

pub not-found : {G : Type 0} (c : Counts) (o : Places) (e : Step) (x : Refusal) → e ≡ step_after c o x → e ≡ Recut → x ≡ NotFound → G
not-found c o e x is recut told =
    let bad : true ≡ false = ap is_recut (sym recut ∙ is ∙ ap (step_after c o) told) ∙ found-recut c o in
    cc

pub not-lease : {G : Type 0} (c : Counts) (o : Places) (e : Step) (x : Refusal) (l : Lease) → e ≡ step_after c o x → e ≡ Recut → x ≡ NotLease l → G
not-lease c o e x l is recut told =
    let bad : true ≡ false = ap is_recut (sym recut ∙ is ∙ ap (step_after c o) told) ∙ lease-recut c o l in
    cc

-- the budget is used up only so

abbrev pub IsSpentStep : Counts → Step → Type 0
IsSpentStep c (SameRoute n) = Unit {0}
IsSpentStep c Relook = Unit {0}
IsSpentStep c Recut = Unit {0}
IsSpentStep c (Exhausted refused lost) = (failed_sum c ≡ c.budget) × (refused ≡ c.refused) × (lost ≡ c.lost)

pub spent-of : (c : Counts) → is_spent c ≡ true → failed_sum c ≡ c.budget
spent-of c h = eqb-true (c.refused + c.lost) c.budget h

step-spent : (c : Counts) (o : Places) (x : Refusal) → IsSpentStep c (step_of o x)
step-spent c o NotFound = elim (next_of o) as (λ n. IsSpentStep c (or_relook n)) [ None ↦ tt | Some n ↦ tt ]
step-spent c o (NotLease l) = elim (is_among l.node o.replicas) as (λ t. IsSpentStep c (cond {A = Step} t (SameRoute l.node) Relook)) [ true ↦ tt | false ↦ tt ]
step-spent c o (Mismatch is) = tt

pub after-spent : (c : Counts) (o : Places) (x : Refusal) → IsSpentStep c (step_after c o x)
after-spent c o x = elim (is_spent c) as (λ t. is_spent c ≡ t → IsSpentStep c (cond {A = Step} t (given_up c) (step_of o x))) [
  | true ↦ λ h. (spent-of c h, refl, refl)
  | false ↦ λ h. step-spent c o x
] refl
