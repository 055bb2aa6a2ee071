-- Batches that can be sent over ranges that may move.
use Rattle.std.specs.Prelude.{◌≡◌, ◌<◌, Bool, true, false, List, [], ◌∷◌, length, None}
use Rattle.std.specs.List.{list_all, list_any}
use Rattle.ds_kind.specs.Asks.{has_proper_span, is_end}
use Rattle.ds_kind.specs.Parts.{all_fit, all_items, requests_of}
use Rattle.ds_kind.specs.declared.batch.Part.{Part}
use Rattle.ds_cover.specs.Items.{AreProper, PositionsRise}
use Rattle.ds_rule.specs.Asking.{Asking}
use Rattle.ds_rule.specs.Pieces.{Each, parts_apart}
use Rattle.ds_mean.specs.Send.{WritesAlone}

-- a part with an item, each proper, by rising position, of kinds that may stand together
pub record IsSound (p : Part) : Type 0 where
  pub some : 0 < length p.items
  pub proper : AreProper p.items
  pub rise : PositionsRise p.items
  pub fit : all_fit (requests_of p.items) ≡ true

-- a batch that writes without a transaction is one part, and must lie in one range
pub record GoesAtOnce (parts : List Part) (whole : Bool) : Type 0 where
  pub is_whole : whole ≡ true
  pub part : Part
  pub one : parts ≡ part ∷ []

-- these are the parts of a batch without a limit and without an end of the transaction
pub record IsMovable (q : Asking) (parts : List Part) (whole : Bool) : Type 0 where
  pub unlimited : q.head.left ≡ None
  pub some : 0 < length q.items
  pub proper : list_all has_proper_span (requests_of q.items) ≡ true
  pub rise : PositionsRise q.items
  pub endless : list_any is_end (requests_of q.items) ≡ false
  pub parts_are : parts ≡ parts_apart q.items
  pub joined : all_items parts ≡ q.items
  pub sound : Each IsSound parts
  pub alone : WritesAlone q → GoesAtOnce parts whole
