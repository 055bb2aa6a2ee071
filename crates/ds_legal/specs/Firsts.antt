-- What it means to be the first place at which a test holds.
use Rattle.std.specs.Prelude.{◌≡◌, ℕ, ◌<◌, Bool, true, false, List, Some, None, length, take, slice_index_or}
use Rattle.ds_kind.specs.Groups.{first_where}

-- the element at i, beside those before it, gives this answer
abbrev pub Answers : {A : Type 0} → (List A → A → Bool) → List A → ℕ → Bool → Type 0
Answers {A = A} test xs i answer = (d : A) → test (take i xs) (slice_index_or xs i d) ≡ answer

-- the test holds at i and at no place before it
pub record IsFirst {A : Type 0} (test : List A → A → Bool) (xs : List A) (i : ℕ) : Type 0 where
  pub within : i < length xs
  pub here : Answers test xs i true
  pub none_before : (k : ℕ) → k < i → Answers test xs k false

-- a search finds the first place, and finds none only where the test holds nowhere
pub record FindsFirst {A : Type 0} (test : List A → A → Bool) (xs : List A) : Type 0 where
  pub found : (i : ℕ) → first_where test xs ≡ Some i → IsFirst test xs i
  pub none : first_where test xs ≡ None → (k : ℕ) → k < length xs → Answers test xs k false
