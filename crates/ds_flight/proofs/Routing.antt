-- What a search for a route comes to, for any part and whatever is known.
use Rattle.std.proofs.Common.{◌≡◌, ℕ, true, false, List, sym, subst}
use Rattle.ds_base.specs.declared.value.Dir.{Dir}
use Rattle.ds_desc.specs.Contains.{lies_ahead}
use Rattle.ds_desc.specs.declared.desc.Info.{Info}
use Rattle.ds_cache.specs.Entries.{Cache, found}
use Rattle.ds_iter.specs.Seek.{Lookups, SoughtBy, BegunBy}
use Rattle.ds_iter.specs.declared.sought.Sought.{Sought}
use Rattle.ds_retry.specs.Counted.{Counts, one_lost}
use Rattle.ds_rule.specs.Clauses.{Stands}
use Rattle.ds_flight.specs.Causes.{GoesOn}
use Rattle.ds_flight.specs.Routes.{RouteFound, RouteSought}
use Rattle.ds_flight.specs.Searches.{course, Searched}
use Rattle.ds_flight.specs.declared.route.Routing.TheVariants.{Found, Again}
use Rattle.ds_flight.proofs.Searching.{begun, sought, LooksBy}

pub route-found :
    {M : Type 0} (looked : Lookups M) (state : M → Stands) → LooksBy looked state → (d : Dir) (c : Counts) (k : List ℕ) (old new : Cache) (before after : M) (s : Sought) (i : Info) (t : ℕ)
    → GoesOn c → lies_ahead d k ≡ true → s ≡ Sought.Found i t → SoughtBy looked d k (found d k old.entries) old before s new after
    → RouteFound d (course (state before) old.entries c) (course (state after) new.entries c) (Found i t)
route-found looked state law d c k old new before after s i t on ahead is h =
    λ f known left dir all. sought looked state law f known left c d k old new before after (Sought.Found i t) on all dir ahead
    (subst (λ x. SoughtBy looked d k (found d k old.entries) old before x new after) is h)

pub route-again :
    {M : Type 0} (looked : Lookups M) (state : M → Stands) → LooksBy looked state → (d : Dir) (c n : Counts) (k : List ℕ) (old new : Cache) (before after : M) (s : Sought)
    → GoesOn c → lies_ahead d k ≡ true → s ≡ Sought.Lost → n ≡ one_lost false c → SoughtBy looked d k (found d k old.entries) old before s new after
    → RouteFound d (course (state before) old.entries c) (course (state after) new.entries n) Again
route-again looked state law d c n k old new before after s on ahead is counts h =
    λ f known left dir all.
    let went = sought looked state law f known left c d k old new before after Sought.Lost on all dir ahead (subst (λ x. SoughtBy looked d k (found d k old.entries) old before x new after) is h) in
    (went.0, subst (λ m. Searched f known left (course (state before) old.entries c) (course (state after) new.entries m) went.0) (sym counts) went.1, tt)

pub route-sought :
    {M : Type 0} (looked : Lookups M) (state : M → Stands) → LooksBy looked state → (d : Dir) (c : Counts) (k : List ℕ) (old new : Cache) (before after : M)
    → GoesOn c → lies_ahead d k ≡ true → BegunBy looked d k (found d k old.entries) old before new after
    → RouteSought d (course (state before) old.entries c) (course (state after) new.entries c)
route-sought looked state law d c k old new before after on ahead h =
    λ f known left dir all. begun looked state law f known left c d k old new before after on all dir ahead h
