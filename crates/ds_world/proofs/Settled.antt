-- What every world keeps is kept where the intents of a transaction are settled.
use Rattle.std.proofs.Common.{◌≡◌, ℕ, List, [], ◌∷◌, map, Option, Some, None, refl, ap, ◌∙◌}
use Rattle.std.specs.List.{list_all}
use Rattle.ds_base.specs.Ordered.{AllOver, Ascends}
use Rattle.ds_base.specs.declared.value.Stamp.{Stamp}
use Rattle.ds_desc.specs.declared.desc.RangeDesc.{RangeDesc}
use Rattle.ds_cell.specs.Ask.{Cells, key_of}
use Rattle.ds_cell.specs.Seen.{last_of}
use Rattle.ds_rule.specs.declared.record.TxnRecord.{TxnRecord}
use Rattle.ds_rule.specs.Close.{closed, commit_of, settle_by, settle_cells, settle_range}
use Rattle.ds_rule.specs.Keeping.{IsNewest, Keeps}
use Rattle.ds_rule.specs.Pieces.{Each}
use Rattle.ds_rule.specs.Steady.{has_lease, ids_differ}
use Rattle.ds_rule.specs.World.{World, Range, Inside, Tiles, end_of}
use Rattle.ds_world.proofs.Stretches.{keeps-same}

-- all intents of a transaction settled, in one range and in all

over-settled : (n : ℕ) (c : Option Stamp) (k : List ℕ) (cells : Cells) → AllOver key_of k cells → AllOver key_of k (settle_cells n c cells)
over-settled n c k [] all = tt
over-settled n c k (p ∷ ps) all = (all.0, over-settled n c k ps all.1)

pub ascends-settled : (n : ℕ) (c : Option Stamp) (cells : Cells) → Ascends key_of cells → Ascends key_of (settle_cells n c cells)
ascends-settled n c [] asc = tt
ascends-settled n c (p ∷ ps) asc = (over-settled n c p.0 ps asc.0, ascends-settled n c ps asc.1)

inside-settled : (n : ℕ) (c : Option Stamp) (s e : List ℕ) (cells : Cells) → Inside s e cells → Inside s e (settle_cells n c cells)
inside-settled n c s e [] all = tt
inside-settled n c s e (p ∷ ps) all = (all.0, inside-settled n c s e ps all.1)

tiles-settled : (n : ℕ) (c : Option Stamp) (s : List ℕ) (rs : List Range) → Tiles s rs → Tiles s (map (settle_range n c) rs)
tiles-settled n c s [] t = t
tiles-settled n c s (r ∷ rs) t = (
  record {
    begins = t.0.begins;
    some = t.0.some;
    rising = ascends-settled n c r.cells t.0.rising;
    inside = inside-settled n c s (end_of r) r.cells t.0.inside;
  },
  tiles-settled n c (end_of r) rs t.1,
)

pub settled-infos : (txn : ℕ) (commit : Option Stamp) (rs : List Range) → map (λ r. r.info) (map (settle_range txn commit) rs) ≡ map (λ r. r.info) rs
settled-infos txn commit [] = refl
settled-infos txn commit (r ∷ rs) = ap (λ is. r.info ∷ is) (settled-infos txn commit rs)

newest-settled : (ds : List RangeDesc) (n : ℕ) (c : Option Stamp) (rs : List Range) → Each (IsNewest ds) rs → Each (IsNewest ds) (map (settle_range n c) rs)
newest-settled ds n c [] new = tt
newest-settled ds n c (r ∷ rs) new = (new.0, newest-settled ds n c rs new.1)

pub keeps-settled : (n : ℕ) (c : Option Stamp) (w : World) → Keeps w → Keeps (record w { ranges = map (settle_range n c) w.ranges })
keeps-settled n c w h = record {
  tiled = tiles-settled n c [] w.ranges h.tiled;
  newest = newest-settled w.descs n c w.ranges h.newest;
  rise = h.rise;
  ids = ap ids_differ (settled-infos n c w.ranges) ∙ h.ids;
  leases = ap (list_all has_lease) (settled-infos n c w.ranges) ∙ h.leases;
}

-- ---- the open transaction ends

by-keeps : (o : Option TxnRecord) (w : World) → Keeps w → Keeps (record w { ranges = settle_by o w.ranges })
by-keeps None w h = h
by-keeps (Some t) w h = keeps-settled t.txn.0 (commit_of t.status t.stamp) w h

pub closed-keeps : (w : World) → Keeps w → Keeps (closed w)
closed-keeps w h = keeps-same (record w { ranges = settle_by (last_of w.records) w.ranges }) (closed w) refl refl (by-keeps (last_of w.records) w h)
