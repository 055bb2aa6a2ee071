-- Lines that are printed one after another, and read back.
use Rattle.std.proofs.Common.{◌≡◌, ℕ, zero, suc, ◌+◌, ◌-◌, ◌<◌, ◌≤◌, ◌==◌, List, [], ◌∷◌, ◌++◌, length, map, take, get_or, false, Some, refl, sym, ap, ap₂, ◌∙◌, append_assoc, append-nil, add-zero, length-take, subst, arith}
use Rattle.std.proofs.lemmas.Bool.Decides.{nat_tests}
use Rattle.std.proofs.lemmas.Grind.{flat_map-append}
use Rattle.std.proofs.lemmas.List.{take_more}
use Rattle.std.specs.List.{AllByRecursion, slice_split, enumerate_from}
use Rattle.std.specs.Str.Lines.{lines, lines_of_parts, strip_carriage_return}
use Rattle.serde_json.specs.Data.{Data}
use Rattle.serde_json.specs.Read.{read}
use Rattle.serde_json.specs.Written.{compact_text}
use Rattle.ds_rule.specs.declared.journal.JournalStep.{JournalStep}
use Rattle.ds_rule.specs.declared.journal.Entry.{Entry}
use Rattle.ds_text.specs.Lines.{step_data}
use Rattle.ds_text.specs.Log.{line_text, lines_text, objects_of, log_objects, steps_objects}
use Rattle.ds_text.specs.Prints.{ReadsBack, Prints}
use Rattle.ds_text.proofs.Visible.{Visible, text_visible}

-- ---- one print after another

pub prints_none : (a : List ℕ) → Prints a [] a
prints_none a = record { text = sym (append-nil a); reads = tt }

read_both : (xs ys : List Data) → AllByRecursion ReadsBack xs → AllByRecursion ReadsBack ys → AllByRecursion ReadsBack (xs ++ ys)
read_both [] ys p q = q
read_both (x ∷ xs) ys p q = (p.0, read_both xs ys p.1 q)

pub prints_then : {a b c : List ℕ} (xs ys : List Data) → Prints a xs b → Prints b ys c → Prints a (xs ++ ys) c
prints_then {a} xs ys p q = record {
  text = q.text ∙ (ap (λ bs. bs ++ lines_text ys) p.text ∙ (append_assoc a (lines_text xs) (lines_text ys) ∙ ap (λ bs. a ++ bs) (sym (flat_map-append line_text xs ys))));
  reads = read_both xs ys p.reads q.reads;
}

pub prints_one : (a line : List ℕ) (d : Data) → line ≡ compact_text d → read line ≡ Some d → Prints a (d ∷ []) ((a ++ line) ++ 10 ∷ [])
prints_one a line d text reads = record {
  text = append_assoc a line (10 ∷ []) ∙ ap (λ bs. a ++ (bs ++ 10 ∷ [])) text ∙ ap (λ bs. a ++ bs) (sym (append-nil (line_text d)));
  reads = (ap read (sym text) ∙ reads, tt);
}

-- ---- the steps, numbered

enumerate_push : {A : Type 0} (n : ℕ) (xs : List A) (y : A) → enumerate_from n (xs ++ y ∷ []) ≡ enumerate_from n xs ++ (n + length xs, y) ∷ []
enumerate_push n [] y = ap (λ k. (k, y) ∷ []) (sym (add-zero n))
enumerate_push n (x ∷ xs) y =
    let e : n + 1 + length xs ≡ n + suc (length xs) = omega arith in
    ap (λ ps. (n, x) ∷ ps) (enumerate_push (n + 1) xs y ∙ ap (λ k. enumerate_from (n + 1) xs ++ (k, y) ∷ []) e)

map_push : {A B : Type 0} (f : A → B) (xs : List A) (y : A) → map f (xs ++ y ∷ []) ≡ map f xs ++ f y ∷ []
map_push f [] y = refl
map_push f (x ∷ xs) y = ap (λ ys. f x ∷ ys) (map_push f xs y)

pub steps_more : (line : ℕ) (xs : List JournalStep) (i : ℕ) (d : JournalStep) → i < length xs
    → steps_objects line (take (i + 1) xs) ≡ steps_objects line (take i xs) ++ step_data line (i + 1) (get_or xs i d) ∷ []
steps_more line xs i d h =
    let f : ℕ × JournalStep → Data = λ p. step_data line p.0 p.1 in
    let y = get_or xs i d in
    let number : 1 + length (take i xs) ≡ i + 1 = grind (arith, length-take) in
    ap (λ ys. map f (enumerate_from 1 ys)) (take_more xs i d h)
    ∙ (ap (map f) (enumerate_push 1 (take i xs) y)
    ∙ (map_push f (enumerate_from 1 (take i xs)) (1 + length (take i xs), y) ∙ ap (λ k. steps_objects line (take i xs) ++ step_data line k y ∷ []) number))

pub log_more : (xs : List Entry) (i : ℕ) (d : Entry) → i < length xs → log_objects (take (i + 1) xs) ≡ log_objects (take i xs) ++ objects_of (get_or xs i d)
log_more xs i d h = ap log_objects (take_more xs i d h) ∙ (flat_map-append objects_of (take i xs) (get_or xs i d ∷ []) ∙ ap (λ ds. log_objects (take i xs) ++ ds) (append-nil (objects_of (get_or xs i d))))

-- ---- the lines of the text

split_line : (c rest : List ℕ) → Visible c → slice_split (λ b. b == 10) (c ++ 10 ∷ rest) ≡ c ∷ slice_split (λ b. b == 10) rest
split_line [] rest h = refl
split_line (x ∷ xs) rest h =
    let no_newline : (x == 10) ≡ false = grind (arith, nat_tests, h.0) in
    rw no_newline (rw (split_line xs rest h.1) refl)

is_line : (x : ℕ) → 32 ≤ x → (x == 13) ≡ false
is_line x h = grind (arith, nat_tests)

no_return : (c : List ℕ) (i : ℕ) → Visible c → (get_or c i 0 == 13) ≡ false
no_return [] i h = refl
no_return (x ∷ xs) zero h = is_line x h.0
no_return (x ∷ xs) (suc i) h = no_return xs i h.1

stripped : (c : List ℕ) → Visible c → strip_carriage_return c ≡ c
stripped c h = rw (no_return c (length c - 1) h) refl

parts : (ds : List Data) → slice_split (λ b. b == 10) (lines_text ds) ≡ map compact_text ds ++ [] ∷ []
parts [] = refl
parts (d ∷ ds) = ap (slice_split (λ b. b == 10)) (append_assoc (compact_text d) (10 ∷ []) (lines_text ds)) ∙ (split_line (compact_text d) (lines_text ds) (text_visible d) ∙ ap (λ ps. compact_text d ∷ ps) (parts ds))

lines_parts : (ds : List Data) → lines_of_parts (map compact_text ds ++ [] ∷ []) ≡ map compact_text ds
lines_parts [] = refl
lines_parts (d ∷ []) = ap (λ c. c ∷ []) (stripped (compact_text d) (text_visible d))
lines_parts (d ∷ e ∷ ds) = ap₂ (λ c cs. c ∷ cs) (stripped (compact_text d) (text_visible d)) (lines_parts (e ∷ ds))

reads_each : (ds : List Data) → AllByRecursion ReadsBack ds → map read (map compact_text ds) ≡ map Some ds
reads_each [] h = refl
reads_each (d ∷ ds) h = ap₂ (λ o os. o ∷ os) h.0 (reads_each ds h.1)

-- the lines of what was printed from nothing read as the objects
pub prints_read : (ds : List Data) (text : List ℕ) → Prints [] ds text → map read (lines text) ≡ map Some ds
prints_read ds text p = ap (λ t. map read (lines t)) p.text ∙ (ap (λ ps. map read (lines_of_parts ps)) (parts ds) ∙ (ap (map read) (lines_parts ds) ∙ reads_each ds p.reads))

-- one line, printed from nothing
pub prints_from_new : {a b : List ℕ} {d e : Data} → a ≡ [] → d ≡ e → Prints a (d ∷ []) b → Prints [] (e ∷ []) b
prints_from_new {a = a} {b = b} {e = e} none same p = subst (λ xs. Prints xs (e ∷ []) b) none (subst (λ x. Prints a (x ∷ []) b) same p)

pub one_text : {b : List ℕ} (d : Data) → Prints [] (d ∷ []) b → b ≡ line_text d
one_text d p = p.text ∙ append-nil (line_text d)
