-- How the parts of a run make its end, for each way out.
use Rattle.std.proofs.Common.{◌≡◌, ℕ, ◌<◌, ◌≤◌, ◌+◌, true, List, [], length, Ok, Err, ltb, inl, inr, sym, ap, refl, subst, arith}
use Rattle.std.proofs.lemmas.Bool.Decides.{nat_tests}
use Rattle.std.specs.Io.KnownBytes.{Consumes}
use Rattle.ds_base.specs.Counts.{Rose}
use Rattle.ds_fields.specs.declared.fault.FaultKind.TheVariants.{TooLong}
use Rattle.ds_script.specs.declared.line.Numbered.{Numbered}
use Rattle.ds_script.specs.Script.{Fault, most_bytes, script_of}
use Rattle.distsend.specs.Ends.{Answered, Ends, Faulty, IsAllOrOneMore, IsWhole, Put, PutFront, PutWhole, Took, Unbuilt, command, puts_text}
use Rattle.distsend.specs.Parts.{Judged, Refuses, Replayed, Tells}
use Rattle.distsend.specs.Texts.{unbuilt}
use Rattle.distsend.specs.declared.status.Status.{Status}
use Rattle.distsend.specs.declared.status.Status.TheVariants.{Done, BadScript, Usage, ReadFault, WriteFault, Memory}

-- bytes with a fault
pub refused_bytes : (bytes : List ℕ) (fault : Fault) (status : Status) (text : List ℕ) → script_of bytes ≡ Err fault → Refuses fault status text → Judged bytes status text
refused_bytes bytes fault Done text r h = absurd h
refused_bytes bytes fault BadScript text r h = (fault, Faulty fault r, h)
refused_bytes bytes fault Usage text r h = absurd h
refused_bytes bytes fault ReadFault text r h = absurd h
refused_bytes bytes fault WriteFault text r h = absurd h
refused_bytes bytes fault Memory text r h = h

-- bytes of a script: it is replayed, or has a line that isn't built
pub read_bytes : (bytes : List ℕ) (script : List Numbered) (status : Status) (text : List ℕ) → script_of bytes ≡ Ok script → Replayed script status text → Judged bytes status text
read_bytes bytes script Done text r h = (script, r, h.0, h.1)
read_bytes bytes script BadScript text r h = (unbuilt h.0, Unbuilt script h.0 r h.1, h.2)
read_bytes bytes script Usage text r h = absurd h
read_bytes bytes script ReadFault text r h = absurd h
read_bytes bytes script WriteFault text r h = absurd h
read_bytes bytes script Memory text r h = h

-- the source was read to its end
pub whole_source : (s : Took) (bytes : List ℕ) (status : Status) (text : List ℕ) → IsWhole s bytes → length bytes ≤ most_bytes → Judged bytes status text → Answered status command s text
whole_source s bytes Done text w few h =
    record { words_are = refl; bytes = bytes; whole = w; script = h.0; accepted = h.1; built = h.2; replay = h.3 }
whole_source s bytes BadScript text w few h =
    record { words_are = refl; bytes = bytes; enough = (w.0, inl (w.1, few), w.2); fault = h.0; refused = h.1; text_is = h.2 }
whole_source s bytes Usage text w few h = absurd h
whole_source s bytes ReadFault text w few h = absurd h
whole_source s bytes WriteFault text w few h = absurd h
whole_source s bytes Memory text w few h = h

-- the source has more than a script may have
abbrev pub too_long : Fault
too_long = record { line = 0; kind = TooLong }

too_long-fault : (bytes : List ℕ) → length bytes ≡ most_bytes + 1 → script_of bytes ≡ Err too_long
unfolding script_of
too_long-fault bytes h = let t : ltb 4194304 (length bytes) ≡ true = grind (arith, nat_tests) in rw t refl

pub long_source : (s : Took) (bytes : List ℕ) (status : Status) (text : List ℕ) → length bytes ≡ most_bytes + 1 → Consumes s.left s.left_after bytes → s.faults_after ≡ s.faults → Refuses too_long status text → Answered status command s text
long_source s bytes Done text n w e h = absurd h
long_source s bytes BadScript text n w e h =
    record { words_are = refl; bytes = bytes; enough = (w, inr n, e); fault = too_long; refused = Faulty too_long (too_long-fault bytes n); text_is = h }
long_source s bytes Usage text n w e h = absurd h
long_source s bytes ReadFault text n w e h = absurd h
long_source s bytes WriteFault text n w e h = absurd h
long_source s bytes Memory text n w e h = h

-- all was put: the status stays
told_whole : (status : Status) (words : List (List ℕ)) (s : Took) (text : List ℕ) (k : Put) → Answered status words s text → PutWhole k text → Ends status words s k
told_whole Done words s text k a p = (text, a, p)
told_whole BadScript words s text k a p = (text, a, p)
told_whole Usage words s text k a p = (text, a, p)
told_whole ReadFault words s text k a p = (text, a, p)
told_whole WriteFault words s text k a p = absurd a
told_whole Memory words s text k a p = (text, a, p)

none_put : {G : Type 0} (text : List ℕ) → text ≡ [] → 0 < length text → G
none_put text e h = let none : length text ≡ 0 = ap length e in absurd (omega (arith, none, h))

-- the sink failed: there was some text
told_front : (status : Status) (words : List (List ℕ)) (s : Took) (text : List ℕ) (k : Put) → Answered status words s text → 0 < length text → PutFront k text → Ends WriteFault words s k
told_front Done words s text k a some p = (Done, refl, text, a, p)
told_front BadScript words s text k a some p = (BadScript, refl, text, a, p)
told_front Usage words s text k a some p = (Usage, refl, text, a, p)
told_front ReadFault words s text k a some p = none_put text a.2 some
told_front WriteFault words s text k a some p = absurd a
told_front Memory words s text k a some p = none_put text a some

pub ends : (status result : Status) (words : List (List ℕ)) (s : Took) (text : List ℕ) (k : Put) → Answered status words s text → Tells status result text k → Ends result words s k
ends status result words s text k a told =
    elim told [
      | inl all ↦ let P : Status → Type 0 = λ r. Ends r words s k in subst P (sym all.0) (told_whole status words s text k a all.1)
      | inr front ↦ let P : Status → Type 0 = λ r. Ends r words s k in subst P (sym front.0) (told_front status words s text k a front.1 front.2)
    ]
