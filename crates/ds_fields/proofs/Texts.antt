-- UTF-8, and lists of names.
use Rattle.std.proofs.Common.{◌≡◌, ℕ, ◌<◌, ◌≤◌, List, [], ◌∷◌, ◌++◌, length, map, Bool, true, false, ◌||◌, nat_lt, get_or, Bor, Some, None, refl, sym, ap, arith}
use Rattle.std.specs.List.{list_any}
use Rattle.std.proofs.lemmas.List.Folds.{list_all_at}
use Rattle.std.specs.Str.{IsUtf8, chars}
use Rattle.std.proofs.lemmas.Str.{utf8_valid_len-IsUtf8}
use Rattle.std.proofs.lemmas.Bool.Decides.{nat_tests}
use Rattle.serde_json.specs.Read.{read}
use Rattle.ds_fields.specs.Members.{text_of}
use Rattle.ds_fields.specs.Scalars.{latin, are_bytes}

pub text_of-utf8 : (bs : List ℕ) → IsUtf8 bs → text_of bs ≡ read bs
text_of-utf8 bs u = let e = utf8_valid_len-IsUtf8 bs u in rw e (grind (arith, nat_tests))

-- the names behind the references
pub list_any-now : (p : List ℕ → Bool) (ns : List (Bor (List ℕ))) → list_any (λ n. p n.now) ns ≡ list_any p (map (λ n. n.now) ns)
list_any-now p [] = refl
list_any-now p (n ∷ ns) = ap (λ b. p n.now || b) (list_any-now p ns)

-- named in one list or in the other
pub list_any-append : (p : List ℕ → Bool) (xs ys : List (List ℕ)) → list_any p (xs ++ ys) ≡ (list_any p xs || list_any p ys)
list_any-append p [] ys = refl
list_any-append p (x ∷ xs) ys = grind (arith, list_any-append p xs ys)

-- a text one of whose characters stands for no byte
pub latin-other : (text : List ℕ) (i c : ℕ) → (i < length (chars text)) × (c ≡ get_or (chars text) i c) → 256 ≤ c → latin text ≡ None
latin-other text i c at h =
    let out : are_bytes (chars text) ≡ false = list_all_at (λ c. nat_lt c 256) (chars text) i c at.0 (rw (sym at.1) (grind (arith, nat_tests))) in
    rw out

pub latin-all : (text cs : List ℕ) → cs ≡ chars text → are_bytes cs ≡ true → latin text ≡ Some cs
latin-all text cs e h = rw (sym e, h)

pub map_same : (xs : List ℕ) → map (λ x. x) xs ≡ xs
map_same [] = refl
map_same (x ∷ xs) = ap (λ ys. x ∷ ys) (map_same xs)
