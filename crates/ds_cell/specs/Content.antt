-- What a cell holds.
use Rattle.std.specs.Prelude.{ℕ, ◌<◌, List, [], ◌∷◌}
use Rattle.ds_cell.specs.declared.entry.Version.{Version}
use Rattle.ds_cell.specs.declared.entry.Written.{Written}

-- one key's committed versions, the writes of one transaction in one epoch, and the foreign writes that wait for them
pub record Content : Type 0 where
  pub versions : List Version
  pub owner : ℕ
  pub epoch : ℕ
  pub history : List Written
  pub waiting : List Version

-- a key of which nothing is known
abbrev pub no_content : Content
no_content = record { versions = []; owner = 0; epoch = 0; history = []; waiting = [] }

abbrev pub AllAbove : {X : Type 0} → (X → ℕ) → ℕ → List X → Type 0
AllAbove f n [] = Unit {0}
AllAbove f n (x ∷ xs) = (n < f x) × AllAbove f n xs

-- each number is below all later ones
abbrev pub Rises : {X : Type 0} → (X → ℕ) → List X → Type 0
Rises f [] = Unit {0}
Rises f (x ∷ xs) = AllAbove f (f x) xs × Rises f xs

abbrev pub stamp_of : Version → ℕ
stamp_of v = v.stamp.0

abbrev pub seq_of : Written → ℕ
seq_of w = w.seq.0

-- what every cell keeps: stamps and numbers rise, so that none stands twice
pub record IsContent (c : Content) : Type 0 where
  pub stamps_rise : Rises stamp_of c.versions
  pub numbers_rise : Rises seq_of c.history
