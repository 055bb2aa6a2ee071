-- The events of a block.
use Rattle.std.specs.Prelude.{ℕ, List, [], ◌∷◌, ◌++◌, codes, if◌then◌else◌, Option, None, Result, Ok}
use Rattle.std.specs.Str.{bytes_eq}
use Rattle.serde_json.specs.Data.{Data}
use Rattle.serde_json.specs.Find.{get}
use Rattle.ds_rule.specs.declared.event.Event.{Event}
use Rattle.ds_rule.specs.declared.event.Event.TheVariants.{LoseRequest, LoseReply, Copy}
use Rattle.ds_rule.specs.declared.event.Timed.{Timed}
use Rattle.ds_fields.specs.declared.fault.FaultKind.{FaultKind}
use Rattle.ds_fields.specs.Fault.{◌>>=◌, map1, map2}
use Rattle.ds_fields.specs.Members.{only, the, optional, op_of}
use Rattle.ds_fields.specs.Scalars.{number_of, some_number_of}
use Rattle.ds_line.specs.Happenings.{lone_copy_of, happening_of}

-- what every event says: what it is, and before which step it happens
abbrev pub of_event : List (List ℕ)
of_event = codes "op" ∷ codes "at" ∷ []

-- the copy that stays of what is lost, if one does
unfoldable pub kept_copy_of : Data → Result (Option (Option ℕ)) FaultKind
kept_copy_of d = do
  _ ← only (of_event ++ codes "copy" ∷ []) d
  optional some_number_of None (get (codes "copy") d)

unfoldable pub lose_request_of : Data → Result (Option Event) FaultKind
lose_request_of d = do
  copy ← kept_copy_of d
  Ok (map1 LoseRequest copy)

unfoldable pub lose_reply_of : Data → Result (Option Event) FaultKind
lose_reply_of d = do
  copy ← kept_copy_of d
  Ok (map1 LoseReply copy)

unfoldable pub copy_of : Data → Result (Option Event) FaultKind
copy_of d = do
  copy ← lone_copy_of of_event d
  Ok (map1 Copy copy)

-- by the text of `op`
unfoldable pub event_by : List ℕ → Data → Result (Option Event) FaultKind
event_by op d =
    if bytes_eq op (codes "lose_request") then lose_request_of d
    else (if bytes_eq op (codes "lose_reply") then lose_reply_of d
    else (if bytes_eq op (codes "copy") then copy_of d
    else happening_of of_event op d))

abbrev pub timed : ℕ → Event → Timed
timed at e = record { at = at; event = e }

unfoldable pub timed_of : Data → Result (Option Timed) FaultKind
timed_of d = do
  op ← op_of d
  at ← the (codes "at") (number_of 32) d
  event ← event_by op d
  Ok (map2 timed at event)
