-- The JSON of descriptors, leases, and what a lookup or a node answers.
use Rattle.std.specs.Prelude.{List, [], ◌∷◌, ◌++◌, codes}
use Rattle.serde_json.specs.Data.{Data, string}
use Rattle.ds_desc.specs.declared.desc.RangeDesc.{RangeDesc}
use Rattle.ds_desc.specs.declared.desc.Lease.{Lease}
use Rattle.ds_desc.specs.declared.desc.Info.{Info}
use Rattle.ds_desc.specs.declared.meta.Looked.{Looked}
use Rattle.ds_desc.specs.declared.meta.Looked.TheVariants.{Rows, Lost}
use Rattle.ds_desc.specs.declared.refusal.Refusal.{Refusal}
use Rattle.ds_desc.specs.declared.refusal.Refusal.TheVariants as refusals
use Rattle.ds_text.specs.Simple.{nat, key_data, list_data, tuple, only}

-- id, start, end, generation and nodes
abbrev pub desc_items : RangeDesc → List Data
desc_items d = nat d.id ∷ key_data d.span.start ∷ key_data d.span.end ∷ nat d.generation ∷ list_data nat d.nodes ∷ []

abbrev pub desc_data : RangeDesc → Data
desc_data d = tuple (desc_items d)

abbrev pub lease_items : Lease → List Data
lease_items l = nat l.node ∷ nat l.number ∷ []

-- a descriptor, then its lease
abbrev pub info_data : Info → Data
info_data i = tuple (desc_items i.desc ++ lease_items i.lease)

abbrev pub looked_data : Looked → Data
looked_data (Rows infos) = list_data info_data infos
looked_data Lost = string (codes "lost")

abbrev pub refusal_data : Refusal → Data
refusal_data refusals.NotFound = string (codes "not_found")
refusal_data (refusals.NotLease lease) = only (codes "lease") (tuple (lease_items lease))
refusal_data (refusals.Mismatch infos) = only (codes "mismatch") (list_data info_data infos)
