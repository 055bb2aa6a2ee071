-- What a writer of lines adds to a text; for private clauses.
use Rattle.std.specs.Prelude.{◌≡◌, ◌≤◌, ℕ, List, ◌++◌, Some, false}
use Rattle.std.specs.List.{AllByRecursion}
use Rattle.serde_json.specs.Data.{Data, depth}
use Rattle.serde_json.specs.Read.{read}
use Rattle.serde_json.specs.Written.{compact_text, has_float}
use Rattle.ds_text.specs.Log.{lines_text}

abbrev pub ReadsBack : Data → Type 0
ReadsBack d = read (compact_text d) ≡ Some d

-- the lines of these objects came after the old text, and each of them reads back
pub record Prints (old : List ℕ) (ds : List Data) (new : List ℕ) : Type 0 where
  pub text : new ≡ old ++ lines_text ds
  pub reads : AllByRecursion ReadsBack ds

-- the object has no float, and nests no deeper than n
pub record Plain (n : ℕ) (d : Data) : Type 0 where
  pub no_float : has_float d ≡ false
  pub shallow : depth d ≤ n
