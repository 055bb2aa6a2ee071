-- JSON without spaces has no control byte, so that a newline ends it.
use Rattle.std.proofs.Common.{◌≡◌, ℕ, zero, suc, ◌+◌, ◌≤◌, ◌/◌, ◌%◌, ◌==◌, pos, negsuc, List, [], ◌∷◌, ◌++◌, Bool, true, false, cond, ◌||◌, nat_lt, decimal, refl, lit≤, arith}
use Rattle.std.proofs.lemmas.Bool.Decides.{nat_tests}
use Rattle.std.specs.List.{AllByRecursion}
use Rattle.std.specs.Fmt.{digits, digits_onto, digit_glyph}
use Rattle.std.specs.Char.{digit_char}
use Rattle.json.specs.Print.{escape_letter, escape_byte, escape, quoted}
use Rattle.serde_json.specs.Data.{Num, unsigned, negative, float, Data, null, boolean, number, string, array, object, Items, no_items, item, Members, no_members, member}
use Rattle.serde_json.specs.Written.{number_text, compact_text, items_text, members_text, comma_if}

-- no byte is a control byte
abbrev pub Visible : List ℕ → Type 0
Visible bs = AllByRecursion (λ b. 32 ≤ b) bs

both : (xs ys : List ℕ) → Visible xs → Visible ys → Visible (xs ++ ys)
both [] ys p q = q
both (x ∷ xs) ys p q = (p.0, both xs ys p.1 q)

either : (b : Bool) (x y : ℕ) → 32 ≤ x → 32 ≤ y → 32 ≤ cond b x y
either true x y p q = p
either false x y p q = q

glyph_visible : (d : ℕ) → 32 ≤ digit_glyph false d
glyph_visible d = either (nat_lt d 10) (48 + d) (87 + d) (omega arith) (omega arith)

char_visible : (d : ℕ) → 32 ≤ digit_char d
char_visible d = either (nat_lt d 10) (48 + d) (87 + d) (omega arith) (omega arith)

one_list : (b : Bool) (xs ys : List ℕ) → Visible xs → Visible ys → Visible (cond b xs ys)
one_list true xs ys p q = p
one_list false xs ys p q = q

digits_visible : (k n : ℕ) (acc : List ℕ) → Visible acc → Visible (digits_onto k 10 false n acc)
digits_visible zero n acc p = p
digits_visible (suc k) n acc p =
    let d = digit_glyph false (n % 10) in
    let more : Visible (d ∷ acc) = (glyph_visible (n % 10), p) in
    one_list (n / 10 == 0) (d ∷ acc) (digits_onto k 10 false (n / 10) (d ∷ acc)) more (digits_visible k (n / 10) (d ∷ acc) more)

decimal_visible : (n : ℕ) → Visible (decimal n)
unfolding digits
decimal_visible n = digits_visible 64 n [] tt

number_visible : (n : Num) → Visible (number_text n)
number_visible (unsigned n) = decimal_visible n
number_visible (negative (pos n)) = decimal_visible n
number_visible (negative (negsuc n)) = (lit≤ tt, decimal_visible (suc n))
number_visible (float x) = tt

-- a byte of a string: a short escape, a long one or itself
escaped : (short long : Bool) (letter x : ℕ) → (short ≡ true → 32 ≤ letter) → (long ≡ false → 32 ≤ x)
    → Visible (cond short (92 ∷ letter ∷ []) (cond long (92 ∷ 117 ∷ 48 ∷ 48 ∷ digit_char (x / 16) ∷ digit_char (x % 16) ∷ []) (x ∷ [])))
escaped true long letter x p q = (lit≤ tt, (p refl, tt))
escaped false true letter x p q = (lit≤ tt, (lit≤ tt, (lit≤ tt, (lit≤ tt, (char_visible (x / 16), (char_visible (x % 16), tt))))))
escaped false false letter x p q = (q refl, tt)

letter_visible : (self b f n r t : Bool) (x : ℕ) → (self ≡ true → 32 ≤ x)
    → nat_lt 0 (cond self x (cond b 98 (cond f 102 (cond n 110 (cond r 114 (cond t 116 0)))))) ≡ true → 32 ≤ cond self x (cond b 98 (cond f 102 (cond n 110 (cond r 114 (cond t 116 0)))))
letter_visible true b f n r t x p h = p refl
letter_visible false true f n r t x p h = lit≤ tt
letter_visible false false true n r t x p h = lit≤ tt
letter_visible false false false true r t x p h = lit≤ tt
letter_visible false false false false true t x p h = lit≤ tt
letter_visible false false false false false true x p h = lit≤ tt
letter_visible false false false false false false x p h = cc

quote_or_slash : (x : ℕ) → ((x == 34) || (x == 92)) ≡ true → 32 ≤ x
quote_or_slash x h = grind (arith, nat_tests)

byte_visible : (x : ℕ) → Visible (escape_byte x)
unfolding escape_byte
byte_visible x =
    escaped (nat_lt 0 (escape_letter x)) (nat_lt x 32) (escape_letter x) x (letter_visible ((x == 34) || (x == 92)) (x == 8) (x == 12) (x == 10) (x == 13) (x == 9) x (quote_or_slash x)) (λ h. grind (arith, nat_tests))

escape_visible : (s : List ℕ) → Visible (escape s)
escape_visible [] = tt
escape_visible (x ∷ xs) = both (escape_byte x) (escape xs) (byte_visible x) (escape_visible xs)

quoted_visible : (s : List ℕ) → Visible (quoted s)
quoted_visible s = (lit≤ tt, both (escape s) (34 ∷ []) (escape_visible s) (lit≤ tt, tt))

comma_visible : (later : Bool) → Visible (comma_if later)
comma_visible true = (lit≤ tt, tt)
comma_visible false = tt

mutual
  pub text_visible : (d : Data) → Visible (compact_text d)
  text_visible null = (lit≤ tt, (lit≤ tt, (lit≤ tt, (lit≤ tt, tt))))
  text_visible (boolean true) = (lit≤ tt, (lit≤ tt, (lit≤ tt, (lit≤ tt, tt))))
  text_visible (boolean false) = (lit≤ tt, (lit≤ tt, (lit≤ tt, (lit≤ tt, (lit≤ tt, tt)))))
  text_visible (number n) = number_visible n
  text_visible (string s) = quoted_visible s
  text_visible (array ds) = (lit≤ tt, items_visible false ds)
  text_visible (object ms) = (lit≤ tt, members_visible false ms)

  items_visible : (later : Bool) (ds : Items) → Visible (items_text later ds)
  items_visible later no_items = (lit≤ tt, tt)
  items_visible later (item d ds) = both (comma_if later) _ (comma_visible later) (both (compact_text d) _ (text_visible d) (items_visible true ds))

  members_visible : (later : Bool) (ms : Members) → Visible (members_text later ms)
  members_visible later no_members = (lit≤ tt, tt)
  members_visible later (member k d ms) =
      let value = both (compact_text d) _ (text_visible d) (members_visible true ms) in
      both (comma_if later) _ (comma_visible later) (both (quoted k) _ (quoted_visible k) (lit≤ tt, value))
