-- What of a list of requests decides which others may stand with all of them.
use Rattle.std.specs.Prelude.{Bool, not, ◌&&◌, ◌||◌, List, if◌then◌else◌}
use Rattle.std.specs.List.{list_any}
use Rattle.ds_kind.specs.declared.flags.Flags.{Flags}
use Rattle.ds_kind.specs.declared.request.Request.{Request}
use Rattle.ds_kind.specs.Asks.{flags_at, is_alone}
use Rattle.ds_legal.specs.declared.mix.Mix.{Mix}

abbrev pub writes : Request → Bool
writes r = (flags_at r).write

abbrev pub reads_only : Request → Bool
reads_only r = not (flags_at r).write

abbrev pub goes_forward : Request → Bool
goes_forward r = (flags_at r).range && not (flags_at r).reverse

abbrev pub goes_back : Request → Bool
goes_back r = (flags_at r).range && (flags_at r).reverse

abbrev pub mix_of : List Request → Mix
mix_of rs = record { alone = list_any is_alone rs; reads = list_any reads_only rs; writes = list_any writes rs; forward = list_any goes_forward rs; reverse = list_any goes_back rs }

-- one more
abbrev pub mix_with : Mix → Flags → Mix
mix_with m f = record { alone = m.alone || f.alone; reads = m.reads || not f.write; writes = m.writes || f.write; forward = m.forward || (f.range && not f.reverse); reverse = m.reverse || (f.range && f.reverse) }

-- whether one with these flags may stand with all
abbrev pub mix_fits : Mix → Flags → Bool
mix_fits m f = not m.alone && not (f.alone && (m.reads || m.writes)) && not (if f.write then m.reads else m.writes) && not (f.range && (if f.reverse then m.forward else m.reverse))
