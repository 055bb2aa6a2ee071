-- Rows taken from the end of a list and inserted, one after another.
use Rattle.std.proofs.Common.{◌≡◌, List, [], ◌∷◌, ◌++◌, length, drop, Result, Ok, Err, OnErr, refl, sym, ap, ◌∙◌}
use Rattle.std.proofs.Math.Seq.{drop-append_seam}
use Rattle.ds_desc.specs.declared.desc.Info.{Info}
use Rattle.ds_cache.specs.Entries.{Cache}
use Rattle.ds_cache.specs.Insert.{put_in, put_all, PutFrom}

-- some rows are left, and those behind them are inserted
pub record Inserting (all left : List Info) (old now : Cache) : Type 0 where
  pub behind : List Info
  pub whole : all ≡ left ++ behind
  pub done : now ≡ put_all behind old

append_none : (is : List Info) → is ++ [] ≡ is
append_none [] = refl
append_none (i ∷ is) = ap (λ l. i ∷ l) (append_none is)

append_moved : (is js : List Info) (x : Info) → (is ++ x ∷ []) ++ js ≡ is ++ (x ∷ js)
append_moved [] js x = refl
append_moved (i ∷ is) js x = ap (λ l. i ∷ l) (append_moved is js x)

pub inserting_first : (is : List Info) (c : Cache) → Inserting is is c c
inserting_first is c = record { behind = []; whole = sym (append_none is); done = refl }

pub inserting_more : (all left rest : List Info) (x : Info) (old c d : Cache) → Inserting all left old c → left ≡ rest ++ x ∷ [] → d ≡ (put_in x c).after → Inserting all rest old d
inserting_more all left rest x old c d h cut put = record {
  behind = x ∷ h.behind;
  whole = h.whole ∙ ap (λ l. l ++ h.behind) cut ∙ append_moved rest h.behind x;
  done = put ∙ ap (λ b. (put_in x b).after) h.done;
}

-- memory was wanting
pub inserting_stops : (all left : List Info) (old c d : Cache) → Inserting all left old c → d ≡ c → PutFrom all old d
inserting_stops all left old c d h same = (length left, same ∙ h.done ∙ ap (λ l. put_all l old) (sym (ap (drop (length left)) h.whole ∙ drop-append_seam left h.behind)))

pub on_err : {X : Type 0} {E : Type 0} (r : Result X E) (P : Type 0) → P → OnErr r P
on_err (Ok x) P h = tt
on_err (Err e) P h = h
