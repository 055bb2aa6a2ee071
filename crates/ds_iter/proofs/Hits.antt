-- What a seek finds in the cache.
use Rattle.std.proofs.Common.{◌≡◌, ℕ, Bool, true, false, List, [], ◌∷◌, Some, None, Result, Ok, Err, IfOk, option_map, find, refl, sym, ap, ◌∙◌, subst}
use Rattle.std.specs.Cmp.{nat_eq_equiv}
use Rattle.std.specs.declared.alloc.AllocError.{AllocError}
use Rattle.ds_base.proofs.SmallFacts.{none_some, some_none, some_same}
use Rattle.ds_base.specs.declared.value.Dir.{Dir}
use Rattle.ds_desc.specs.Contains.{contains}
use Rattle.ds_desc.specs.declared.desc.Info.{Info}
use Rattle.ds_cache.specs.Entries.{Entry, Cache, cache, found, to_front, at_serial}
use Rattle.ds_iter.specs.Seek.{Lookups, SoughtBy, ContainsKey}
use Rattle.ds_iter.specs.declared.sought.Sought.{Sought}
use Rattle.ds_iter.specs.declared.sought.Sought.TheVariants.{Found, Lost}

-- what a search finds passes
passes : {X : Type 0} (test : X → Bool) (xs : List X) (x : X) → find test xs ≡ Some x → test x ≡ true
passes test [] x h = none_some x h
passes test (y ∷ ys) x h =
    (elim (test y) as (λ u. test y ≡ u → test x ≡ true) [
      | true ↦ λ u. ap test (sym (some_same y x (rw u at h))) ∙ u
      | false ↦ λ u. passes test ys x (rw u at h)
    ]) refl

-- the entry that was found, and the answer that names it
pub record Hit (d : Dir) (k : List ℕ) (old new : Cache) (r : Result Sought AllocError) : Type 0 where
  pub entry : Entry
  pub here : found d k old.entries ≡ Some entry
  pub front : new ≡ cache (to_front (Some entry) old.entries) old.capacity old.given
  pub answer : IfOk r (λ s. s ≡ Found entry.1 entry.0)

pub hit : (d : Dir) (k : List ℕ) (old new : Cache) (t : ℕ) (r : Result Sought AllocError) → Some t ≡ option_map (λ e. e.0) (found d k old.entries) → new ≡ cache (to_front (found d k old.entries) old.entries) old.capacity old.given → ((i : Info) → at_serial t new.entries ≡ Some i → IfOk r (λ s. s ≡ Found i t)) → Hit d k old new r
hit d k old new t r token front copied =
    (elim (found d k old.entries) as (λ o. found d k old.entries ≡ o → Hit d k old new r) [
      | None ↦ λ u. some_none t (token ∙ ap (option_map (λ e. e.0)) u)
      | Some e ↦ λ u.
          let same : t ≡ e.0 = some_same t e.0 (token ∙ ap (option_map (λ x. x.0)) u) in
          let first : new ≡ cache (to_front (Some e) old.entries) old.capacity old.given = front ∙ ap (λ o. cache (to_front o old.entries) old.capacity old.given) u in
          let there : at_serial e.0 new.entries ≡ Some e.1 = ap (λ c. at_serial e.0 c.entries) first ∙ rw (nat_eq_equiv.refl e.0) refl in
          record {
            entry = e;
            here = u;
            front = first;
            answer = subst (λ x. IfOk r (λ s. s ≡ Found e.1 x)) same (copied e.1 (ap (λ x. at_serial x new.entries) same ∙ there));
          }
    ]) refl

if_ok : {X : Type 0} {E : Type 0} {P : X → Type 0} {Q : X → Type 0} (r : Result X E) → ((x : X) → P x → Q x) → IfOk r P → IfOk r Q
if_ok (Ok x) f h = f x h
if_ok (Err e) f h = tt

pub hit_sought : {M : Type 0} (looked : Lookups M) (d : Dir) (k : List ℕ) (old new : Cache) (m : M) (r : Result Sought AllocError) → Hit d k old new r → IfOk r (λ s. SoughtBy looked d k (found d k old.entries) old m s new m)
hit_sought looked d k old new m r h = if_ok r (λ s is. subst (λ o. SoughtBy looked d k o old m s new m) (sym h.here) (is, h.front, refl)) h.answer

pub hit_contains : (d : Dir) (k : List ℕ) (old new : Cache) (r : Result Sought AllocError) → Hit d k old new r → IfOk r (λ s. ContainsKey d k s)
hit_contains d k old new r h = if_ok r (λ s is. subst (ContainsKey d k) (sym is) (passes (λ e. contains d k e.1.desc.span) old.entries h.entry h.here)) h.answer

-- it isn't lost
pub hit_kept : (G : Type 0) (d : Dir) (k : List ℕ) (old new : Cache) (r : Result Sought AllocError) → Hit d k old new r → IfOk r (λ s. s ≡ Lost → G)
hit_kept G d k old new r h = if_ok r (λ s is lost. never _ _ (sym is ∙ lost)) h.answer
  where
    never : {G : Type 0} (i : Info) (t : ℕ) → Found i t ≡ Lost → G
    never i t h = cc
