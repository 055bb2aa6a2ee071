-- A routed piece sent, and what becomes of it after a refusal or a loss.
use Rattle.std.proofs.Common.{◌≡◌, ℕ, ◌<◌, Bool, length, true, false, cond, List, [], ◌∷◌, ◌++◌, Option, refl, sym, ap, ◌∙◌, subst}
use Rattle.ds_base.proofs.SmallFacts.{append_nil}
use Rattle.ds_cache.specs.Entries.{Entry, Cache, cache, without}
use Rattle.ds_cache.specs.Insert.{leased, put_all, PutFrom}
use Rattle.ds_desc.specs.declared.desc.Info.{Info}
use Rattle.ds_desc.specs.declared.desc.Lease.{Lease}
use Rattle.ds_desc.specs.declared.desc.RangeDesc.{RangeDesc}
use Rattle.ds_desc.specs.declared.refusal.Refusal.{Refusal}
use Rattle.ds_desc.specs.declared.refusal.Refusal.TheVariants.{NotFound, NotLease, Mismatch}
use Rattle.ds_kind.specs.Left.{is_used_up}
use Rattle.ds_kind.specs.declared.batch.Piece.{Piece}
use Rattle.ds_cover.specs.Measures.{AllSpans}
use Rattle.ds_lease.specs.Turns.{Places, is_among, advanced, fronted, without_node}
use Rattle.ds_retry.specs.Counted.{Counts}
use Rattle.ds_retry.specs.Steps.{turned, leaseholder_taken}
use Rattle.ds_rule.specs.declared.answer.Answer.{Answer}
use Rattle.ds_rule.specs.declared.journal.JournalStep.TheVariants.{Send}
use Rattle.ds_rule.specs.Clauses.{Stands, Steps, and_step}
use Rattle.ds_flight.specs.Causes.{GoesOn}
use Rattle.ds_flight.specs.Counting.{counted_step}
use Rattle.ds_flight.specs.Flights.{Flight, AreOfPart}
use Rattle.ds_flight.specs.Goes.{HoldsAll, descs_of, told_by}
use Rattle.ds_flight.specs.Ran.{AreKnown, Ran}
use Rattle.ds_flight.specs.Searches.{course}
use Rattle.ds_flight.specs.Works.{IsFlying}
use Rattle.ds_flight.specs.declared.work.Flying.{Flying}
use Rattle.ds_flight.proofs.Caching.{known-begun, known-leased, known-told, known-without}
use Rattle.ds_flight.proofs.Stepping.{ran-step}
use Rattle.ds_flight.proofs.Working.{flying-goes}

-- ---- one send

pub sent-ran :
    (f : Flight) (known : List RangeDesc) (left : Option ℕ) (a b : Stands) (es fs : List Entry) (c d : Counts) (r : Flying) (p : Piece) (x : Answer)
    → GoesOn c → is_used_up left ≡ false → p ≡ record (r.piece) { head = record (f.head) { left = left } } → IsFlying f known r → d ≡ counted_step c (Send r.node p x)
    → (AreKnown known es → AreKnown (known ++ descs_of (told_by (Send r.node p x))) fs)
    → (steps : Steps a b (Send r.node p x)) → Ran f known left (course a es c) (course b fs d) (and_step steps.moves (Send r.node p x))
sent-ran f known left a b es fs c d r p x on room same flies counts entries steps =
    let goes = flying-goes f known r left p x room same flies in
    ran-step f known left (course a es c) (course b fs d) (Send r.node p x) on goes.0 goes.1 counts entries steps

-- where no rows are told, what is known stays
pub none-told : (known : List RangeDesc) (es fs : List Entry) → (AreKnown known es → AreKnown known fs) → AreKnown known es → AreKnown (known ++ []) fs
none-told known es fs keeps all = subst (λ ds. AreKnown ds fs) (sym (append_nil known)) (keeps all)

-- ---- the same route

fronted-replicas : (n : ℕ) (o : Places) → (fronted n o).replicas ≡ o.replicas
fronted-replicas n o =
    elim (is_among n o.replicas) as (λ t. (cond {A = Places} t (record { replicas = o.replicas; waiting = n ∷ without_node n o.waiting }) o).replicas ≡ o.replicas) [ true ↦ refl | false ↦ refl ]

taken-replicas : (n : ℕ) (o : Places) → (leaseholder_taken n o).replicas ≡ o.replicas
taken-replicas n o =
    elim (is_among n o.replicas) as (λ t. (cond {A = Places} t (advanced (fronted n o)) o).replicas ≡ o.replicas) [ true ↦ fronted-replicas n o | false ↦ refl ]

turned-replicas : (o : Places) (x : Refusal) → (turned o x).replicas ≡ o.replicas
turned-replicas o NotFound = refl
turned-replicas o (NotLease l) = taken-replicas l.node o
turned-replicas o (Mismatch infos) = refl

pub after-replicas : (spent : Bool) (o : Places) (x : Refusal) → (cond {A = Places} spent o (turned o x)).replicas ≡ o.replicas
after-replicas true o x = refl
after-replicas false o x = turned-replicas o x

-- the piece flies on to another replica
pub flying-turned :
    (f : Flight) (known : List RangeDesc) (r n : Flying) → n.piece ≡ r.piece → n.order.replicas ≡ r.order.replicas → is_among n.node r.order.replicas ≡ true → IsFlying f known r → IsFlying f known n
flying-turned f known r n piece order node is =
    let to : (x : Piece) → n.piece ≡ x → IsFlying f known (record r { piece = x }) → IsFlying f known n =
    λ x same flies. record {
      some = subst (λ (y : Piece). 0 < length y.items) (sym same) flies.some;
      of = subst (λ (y : Piece). AreOfPart f y.items) (sym same) flies.of;
      spans = subst (λ (y : Piece). AllSpans y.items) (sym same) flies.spans;
      dir = ap (λ (y : Piece). y.dir) same ∙ flies.dir;
      desc = flies.desc;
      is_known = flies.is_known;
      by = record {
        replicas = order ∙ flies.by.replicas;
        node = subst (λ ns. is_among n.node ns ≡ true) flies.by.replicas node;
        range = ap (λ (y : Piece). y.range) same ∙ flies.by.range;
        held = subst (λ (y : Piece). HoldsAll flies.desc.span y.items) (sym same) flies.by.held;
        one = flies.by.one;
      };
    } in
    to r.piece piece is

-- ---- what a refusal does to the cache

pub refused-lease : (known : List RangeDesc) (t : ℕ) (l : Lease) (old new : Cache) → new ≡ cache (leased t l old.entries) old.capacity old.given → AreKnown known old.entries → AreKnown known new.entries
refused-lease known t l old new same all = subst (λ x. AreKnown known x.entries) (sym same) (known-leased known t l old.entries all)

pub refused-evicted : (known : List RangeDesc) (t : ℕ) (old new : Cache) → new ≡ cache (without t old.entries) old.capacity old.given → AreKnown known old.entries → AreKnown known new.entries
refused-evicted known t old new same all = subst (λ x. AreKnown known x.entries) (sym same) (known-without known t old.entries all)

pub refused-replaced : (known : List RangeDesc) (t : ℕ) (is : List Info) (old new : Cache) → new ≡ put_all is (cache (without t old.entries) old.capacity old.given) → AreKnown known old.entries → AreKnown (known ++ descs_of is) new.entries
refused-replaced known t is old new same all = known-told known is (cache (without t old.entries) old.capacity old.given) new same (known-without known t old.entries all)

pub refused-begun : (known : List RangeDesc) (t : ℕ) (is : List Info) (old new : Cache) → PutFrom is (cache (without t old.entries) old.capacity old.given) new → AreKnown known old.entries → AreKnown (known ++ descs_of is) new.entries
refused-begun known t is old new from all = known-begun known is (cache (without t old.entries) old.capacity old.given) new from (known-without known t old.entries all)
