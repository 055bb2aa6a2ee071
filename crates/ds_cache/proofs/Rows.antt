-- Rows inserted, the last first.
use Rattle.std.proofs.Common.{◌≡◌, ℕ, zero, suc, ◌+◌, ◌≤◌, List, [], ◌∷◌, length, drop, slice_get, Some, refl, sym, ap, ◌∙◌, arith}
use Rattle.ds_base.proofs.SmallFacts.{none_some, some_same}
use Rattle.ds_desc.specs.declared.desc.Info.{Info}
use Rattle.ds_cache.specs.Entries.{Cache}
use Rattle.ds_cache.specs.Insert.{put_in, put_all}

pub record Putting (i : ℕ) (is : List Info) (old now : Cache) : Type 0 where
  pub within : i ≤ length is
  pub done : now ≡ put_all (drop i is) old

drop_end : (is : List Info) → drop (length is) is ≡ []
drop_end [] = refl
drop_end (i ∷ is) = drop_end is

pub putting_first : (n : ℕ) (is : List Info) (c : Cache) → n ≡ length is → Putting n is c c
putting_first n is c h = record {
  within = omega (arith, h);
  done = sym (ap (λ l. put_all l c) (ap (λ k. drop k is) h ∙ drop_end is));
}

drop_at : (i : ℕ) (is : List Info) (x : Info) → slice_get is i ≡ Some x → drop i is ≡ x ∷ drop (suc i) is
drop_at i [] x h = none_some x h
drop_at zero (y ∷ ys) x h = ap (λ z. z ∷ ys) (some_same y x h)
drop_at (suc i) (y ∷ ys) x h = drop_at i ys x h

pub putting_more : (i j : ℕ) (is : List Info) (x : Info) (old c d : Cache) → j ≡ i + 1 → Putting j is old c → slice_get is i ≡ Some x → d ≡ (put_in x c).after → Putting i is old d
putting_more i j is x old c d ij h at put = record {
  within = let w = h.within in omega (arith, ij, w);
  done = put ∙ ap (λ b. (put_in x b).after) (h.done ∙ ap (λ k. put_all (drop k is) old) (ij ∙ plus_one i)) ∙ sym (ap (λ l. put_all l old) (drop_at i is x at));
}
  where
    plus_one : (i : ℕ) → i + 1 ≡ suc i
    plus_one i = omega arith
