-- Steps that may find a fault, and what a function that takes memory says of them.
use Rattle.std.specs.Prelude.{◌≡◌, Option, Some, None, Result, Ok, Err}
use Rattle.ds_fields.specs.declared.fault.FaultKind.{FaultKind}
use Rattle.ds_fields.specs.declared.fault.FaultKind.TheVariants.{Shape}
use Rattle.ds_fields.specs.declared.fault.LineFault.{LineFault}
use Rattle.ds_fields.specs.declared.fault.LineFault.TheVariants as faults

-- one step after another; the first fault counts
infixl 10 ◌>>=◌
abbrev pub ◌>>=◌ : {A B : Type 0} → Result A FaultKind → (A → Result B FaultKind) → Result B FaultKind
(Ok x) >>= f = f x
(Err e) >>= f = Err e

-- what must be there has another shape where it isn't
abbrev pub need : {A : Type 0} → Option A → Result A FaultKind
need None = Err Shape
need (Some a) = Ok a

-- What a step found, seen through `view`, is what the definition gives. Want of memory is free.
abbrev pub Fails : {Y : Type 0} → LineFault → Result Y FaultKind → Type 0
Fails (faults.Bad k) read = read ≡ Err k
Fails (faults.Memory e) read = Unit {0}

abbrev pub Gives : {X Y : Type 0} → (X → Y) → Result X LineFault → Result Y FaultKind → Type 0
Gives view (Ok x) read = read ≡ Ok (view x)
Gives view (Err e) read = Fails e read

-- the same, of what is its own view
abbrev pub Reads : {X : Type 0} → Result X LineFault → Result X FaultKind → Type 0
Reads result read = Gives (λ x. x) result read

-- what is made of parts that are all within what their types can hold
abbrev pub map1 : {A B : Type 0} → (A → B) → Option A → Option B
map1 f (Some a) = Some (f a)
map1 f None = None

abbrev pub map2 : {A B C : Type 0} → (A → B → C) → Option A → Option B → Option C
map2 f (Some a) (Some b) = Some (f a b)
map2 f _ _ = None

abbrev pub map3 : {A B C D : Type 0} → (A → B → C → D) → Option A → Option B → Option C → Option D
map3 f (Some a) (Some b) (Some c) = Some (f a b c)
map3 f _ _ _ = None

abbrev pub map4 : {A B C D E : Type 0} → (A → B → C → D → E) → Option A → Option B → Option C → Option D → Option E
map4 f (Some a) (Some b) (Some c) (Some d) = Some (f a b c d)
map4 f _ _ _ _ = None
