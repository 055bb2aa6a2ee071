-- Cuts of a batch's items: at each of its keys a cut does what the whole item does there.
use Rattle.std.specs.Prelude.{◌≡◌, ℕ, List}
use Rattle.ds_kind.specs.Request.{cut_to}
use Rattle.ds_kind.specs.declared.batch.Item.{Item}
use Rattle.ds_kind.specs.declared.request.Request.{Request}
use Rattle.ds_cell.specs.Requests.{deed_of}

-- j is i, on whatever part of its span: under its position and its number, doing the same at each key
pub record ActsAs (j i : Item) : Type 0 where
  pub position : j.pos ≡ i.pos
  pub number : j.seq ≡ i.seq
  pub deed : deed_of j.request ≡ deed_of i.request

-- a request cut to a span does the same at each key
abbrev pub CutDeed : Type 0
CutDeed = (s e : List ℕ) (r : Request) → deed_of (cut_to s e r) ≡ deed_of r
