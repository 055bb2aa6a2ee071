-- What the parts of a run say, from which its end is put together.
use Rattle.std.specs.Prelude.{◌≡◌, ◌<◌, ◌⊎◌, ℕ, List, [], length, Some, None, Ok}
use Rattle.ds_script.specs.declared.line.Numbered.{Numbered}
use Rattle.ds_script.specs.Script.{Fault, script_of}
use Rattle.ds_replay.specs.Built.{first_unbuilt}
use Rattle.distsend.specs.Ends.{IsReplay, Put, PutFront, PutWhole, Refused}
use Rattle.distsend.specs.Texts.{fault_text, unbuilt}
use Rattle.distsend.specs.declared.status.Status.{Status}
use Rattle.distsend.specs.declared.status.Status.TheVariants.{Done, BadScript, Usage, ReadFault, WriteFault, Memory}

-- what is put for a fault: its text, or nothing
abbrev pub Refuses : Fault → Status → List ℕ → Type 0
Refuses fault Done text = ⊥
Refuses fault BadScript text = text ≡ fault_text fault
Refuses fault Usage text = ⊥
Refuses fault ReadFault text = ⊥
Refuses fault WriteFault text = ⊥
Refuses fault Memory text = text ≡ []

-- what is put for a script that was read: the text of its replay, the fault of a line that isn't built, or nothing
abbrev pub Replayed : List Numbered → Status → List ℕ → Type 0
Replayed script Done text = (first_unbuilt script ≡ None) × IsReplay script text
Replayed script BadScript text = (n : ℕ) × (first_unbuilt script ≡ Some n) × (text ≡ fault_text (unbuilt n))
Replayed script Usage text = ⊥
Replayed script ReadFault text = ⊥
Replayed script WriteFault text = ⊥
Replayed script Memory text = text ≡ []

-- what is put for bytes: the text of their script's replay, the fault that refuses them, or nothing
abbrev pub Judged : List ℕ → Status → List ℕ → Type 0
Judged bytes Done text = (script : List Numbered) × (script_of bytes ≡ Ok script) × (first_unbuilt script ≡ None) × IsReplay script text
Judged bytes BadScript text = (fault : Fault) × Refused bytes fault × (text ≡ fault_text fault)
Judged bytes Usage text = ⊥
Judged bytes ReadFault text = ⊥
Judged bytes WriteFault text = ⊥
Judged bytes Memory text = text ≡ []

-- all of the text was put and the status stays; or there was some, a call of the sink failed, and a front of it was put
abbrev pub Tells : Status → Status → List ℕ → Put → Type 0
Tells status result text k =
    ((result ≡ status) × PutWhole k text) ⊎ ((result ≡ WriteFault) × (0 < length text) × PutFront k text)
