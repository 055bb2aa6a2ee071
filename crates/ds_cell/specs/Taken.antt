-- What a change took from a key, and the key after it is given back.
use Rattle.std.specs.Prelude.{◌≡◌, ℕ, Bool, not, List, [], ◌∷◌, None, ◌==◌, refl}
use Rattle.std.specs.List.{filter, list_any}
use Rattle.ds_base.specs.declared.value.Stamp.{Stamp}
use Rattle.ds_cell.specs.declared.entry.Version.{Version}
use Rattle.ds_cell.specs.declared.entry.Written.{Written}
use Rattle.ds_cell.specs.declared.taken.Taken.{Taken}
use Rattle.ds_cell.specs.Content.{Content, no_content}

-- the writes but the one under the number n
abbrev pub without_write : ℕ → List Written → List Written
without_write n h = filter (λ w. not (w.seq.0 == n)) h

abbrev pub is_among : List Stamp → Version → Bool
is_among stamps v = list_any (λ s. s.0 == v.stamp.0) stamps

-- the versions but those at these stamps
abbrev pub without_stamps : List Stamp → List Version → List Version
without_stamps stamps vs = filter (λ v. not (is_among stamps v)) vs

-- the cell with what was taken given back
abbrev pub given_back : Taken → Content → Content
given_back Taken.Nothing c = c
given_back (Taken.Write n) c = record c { history = without_write n.0 c.history }
given_back (Taken.Writes t) c = record t { versions = c.versions; waiting = c.waiting }
given_back (Taken.Intent t stamps) c = record t { versions = without_stamps stamps c.versions }

abbrev at_one : Version
at_one = record { stamp = record { 0 = 1 }; value = None }

abbrev at_two : Version
at_two = record { stamp = record { 0 = 2 }; value = None }

the_version_that_was_made_goes : (given_back (Taken.Intent no_content (record { 0 = 2 } ∷ [])) (record no_content { versions = at_one ∷ at_two ∷ [] })).versions ≡ at_one ∷ []
the_version_that_was_made_goes = refl

the_write_under_the_number_goes : (given_back (Taken.Write (record { 0 = 3 })) (record no_content { history = record { seq = record { 0 = 2 }; value = None } ∷ record { seq = record { 0 = 3 }; value = None } ∷ [] })).history ≡ record { seq = record { 0 = 2 }; value = None } ∷ []
the_write_under_the_number_goes = refl

not_a_write_under_another_number : (given_back (Taken.Write (record { 0 = 3 })) (record no_content { history = record { seq = record { 0 = 2 }; value = None } ∷ [] })).history ≡ [] → ⊥
not_a_write_under_another_number h = cc

nor_a_version_at_another_stamp : (given_back (Taken.Intent no_content (record { 0 = 2 } ∷ [])) (record no_content { versions = at_one ∷ at_two ∷ [] })).versions ≡ [] → ⊥
nor_a_version_at_another_stamp h = cc
