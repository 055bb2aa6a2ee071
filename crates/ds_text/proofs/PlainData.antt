-- When JSON has no float and nests no deeper than n.
use Rattle.std.proofs.Common.{◌≡◌, ℕ, suc, ◌≤◌, ℤ, pos, negsuc, List, [], ◌∷◌, map, Bool, false, Option, Some, None, option_map, Ordering, Less, Equal, Greater, refl, arith}
use Rattle.std.proofs.lemmas.Bool.{or_parts}
use Rattle.std.specs.Ordering.{match_ordering, nat_cmp}
use Rattle.std.specs.Cmp.Lexicographic.{slice_cmp}
use Rattle.ds_base.proofs.SmallFacts.{or_neither}
use Rattle.serde_json.specs.Data.{Data, boolean, number, string, array, object, Items, item, no_items, Members, member, no_members, items_depth, members_depth, put}
use Rattle.serde_json.specs.Find.{of_integer}
use Rattle.serde_json.specs.View.{items_of}
use Rattle.serde_json.specs.Written.{items_have_float, members_have_float}
use Rattle.ds_text.specs.Simple.{nat, option_data, with_member}
use Rattle.ds_text.specs.Prints.{Plain}

pub record PlainItems (n : ℕ) (ds : Items) : Type 0 where
  pub no_float : items_have_float ds ≡ false
  pub shallow : items_depth ds ≤ n

pub record PlainMembers (n : ℕ) (ms : Members) : Type 0 where
  pub no_float : members_have_float ms ≡ false
  pub shallow : members_depth ms ≤ n

pub deeper : {m n : ℕ} {d : Data} → Plain m d → m ≤ n → Plain n d
deeper p h = record { no_float = p.no_float; shallow = omega (arith, p.shallow, h) }

pub nat_plain : (n m : ℕ) → Plain n (nat m)
nat_plain n m = record { no_float = refl; shallow = omega arith }

pub string_plain : (n : ℕ) (s : List ℕ) → Plain n (string s)
string_plain n s = record { no_float = refl; shallow = omega arith }

pub boolean_plain : (n : ℕ) (b : Bool) → Plain n (boolean b)
boolean_plain n b = record { no_float = refl; shallow = omega arith }

pub integer_plain : (n : ℕ) (z : ℤ) → Plain n (number (of_integer z))
integer_plain n (pos m) = record { no_float = refl; shallow = omega arith }
integer_plain n (negsuc m) = record { no_float = refl; shallow = omega arith }

pub last_plain : (n : ℕ) → PlainItems n no_items
last_plain n = record { no_float = refl; shallow = omega arith }

pub item_plain : {n : ℕ} {d : Data} {ds : Items} → Plain n d → PlainItems n ds → PlainItems n (item d ds)
item_plain p q = record { no_float = or_neither _ _ p.no_float q.no_float; shallow = omega (arith, p.shallow, q.shallow) }

pub array_plain : {n : ℕ} {ds : Items} → PlainItems n ds → Plain (suc n) (array ds)
array_plain p = record { no_float = p.no_float; shallow = omega (arith, p.shallow) }

pub items_plain : {A : Type 0} (n : ℕ) (f : A → Data) → ((x : A) → Plain n (f x)) → (xs : List A) → PlainItems n (items_of (map f xs))
items_plain n f h [] = last_plain n
items_plain n f h (x ∷ xs) = item_plain (h x) (items_plain n f h xs)

pub list_plain : {A : Type 0} (n : ℕ) (f : A → Data) → ((x : A) → Plain n (f x)) → (xs : List A) → Plain (suc n) (array (items_of (map f xs)))
list_plain n f h xs = array_plain (items_plain n f h xs)

pub option_plain : {A : Type 0} (n : ℕ) (f : A → Data) → ((x : A) → Plain n (f x)) → (o : Option A) → Plain n (option_data f o)
option_plain n f h None = record { no_float = refl; shallow = omega arith }
option_plain n f h (Some x) = h x

pub none_plain : (n : ℕ) → PlainMembers n no_members
none_plain n = record { no_float = refl; shallow = omega arith }

pub member_plain : {n : ℕ} {k : List ℕ} {d : Data} {ms : Members} → Plain n d → PlainMembers n ms → PlainMembers n (member k d ms)
member_plain p q = record { no_float = or_neither _ _ p.no_float q.no_float; shallow = omega (arith, p.shallow, q.shallow) }

pub lone_plain : {n : ℕ} {k : List ℕ} {d : Data} → Plain n d → PlainMembers n (member k d no_members)
lone_plain {n} p = member_plain p (none_plain n)

pub object_plain : {n : ℕ} {ms : Members} → PlainMembers n ms → Plain (suc n) (object ms)
object_plain p = record { no_float = p.no_float; shallow = omega (arith, p.shallow) }

first : {n : ℕ} {k : List ℕ} {d : Data} {ms : Members} → PlainMembers n (member k d ms) → Plain n d
first {d = d} p = record { no_float = (or_parts _ _ p.no_float).0; shallow = omega (arith, p.shallow) }

rest : {n : ℕ} {k : List ℕ} {d : Data} {ms : Members} → PlainMembers n (member k d ms) → PlainMembers n ms
rest {d = d} p = record { no_float = (or_parts _ _ p.no_float).1; shallow = omega (arith, p.shallow) }

one_of : (o : Ordering) {n : ℕ} {a b c : Members} → PlainMembers n a → PlainMembers n b → PlainMembers n c → PlainMembers n (match_ordering o a b c)
one_of Less p q r = p
one_of Equal p q r = q
one_of Greater p q r = r

pub put_plain : {n : ℕ} (k : List ℕ) {d : Data} (ms : Members) → Plain n d → PlainMembers n ms → PlainMembers n (put k d ms)
put_plain k no_members p q = lone_plain p
put_plain k (member l e ms) p q = one_of (slice_cmp nat_cmp k l) (member_plain p q) (member_plain p (rest q)) (member_plain (first q) (put_plain k ms p (rest q)))

pub with_member_plain : {A : Type 0} (n : ℕ) (k : List ℕ) (f : A → Data) → ((x : A) → Plain n (f x)) → (o : Option A) (ms : Members) → PlainMembers n ms → PlainMembers n (with_member k (option_map f o) ms)
with_member_plain n k f h None ms q = q
with_member_plain n k f h (Some x) ms q = put_plain k ms (h x) q
