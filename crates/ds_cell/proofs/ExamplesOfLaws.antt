-- Worked examples of what requests are answered over their spans, some that hold and some that must not.
use Rattle.std.proofs.Common.{◌≡◌, true, false, pos, [], ◌∷◌, refl, Some, None}
use Rattle.ds_base.specs.declared.value.Value.TheVariants.{Int}
use Rattle.ds_kind.specs.declared.reply.Body.TheVariants.{Gone as Keys}
use Rattle.ds_kind.specs.declared.request.Request.{Request}
use Rattle.ds_kind.specs.declared.request.Request.TheVariants.{Scan, DeleteRange}
use Rattle.ds_cell.specs.declared.verdict.ActFault.TheVariants.{NotInteger}
use Rattle.ds_cell.specs.Content.{no_content}
use Rattle.ds_cell.specs.Ask.{Cells}
use Rattle.ds_cell.specs.Responses.{Refused, Replied, join_responses, RespondsIn}
use Rattle.ds_cell.specs.Requests.{respond_to}
use Rattle.ds_cell.specs.Store.{write_all}
use Rattle.ds_cell.proofs.Examples.{me, version}

-- a version stands at a
abbrev cells : Cells
cells = (97 ∷ [], record no_content { versions = version 4 7 ∷ [] }) ∷ []

abbrev deletion : Request
deletion = DeleteRange (record { start = 97 ∷ []; end = 122 ∷ [] })

it_deletes : respond_to deletion (me 3) cells ≡ Replied (Keys ((97 ∷ []) ∷ [])) ((97 ∷ [], None) ∷ [])
it_deletes = refl

-- afterwards, with a write under the number 4 at b, where nothing stood
abbrev later : Cells
later = write_all (me 4) ((98 ∷ [], Some (Int (pos 5))) ∷ []) (write_all (me 3) ((97 ∷ [], None) ∷ []) cells)

-- asked again it answers the same and writes nothing; under the number 5 it would not
it_repeats : respond_to deletion (me 3) later ≡ Replied (Keys ((97 ∷ []) ∷ [])) []
it_repeats = refl

another_number_does_not : respond_to deletion (me 5) later ≡ Replied (Keys ((98 ∷ []) ∷ [])) ((98 ∷ [], None) ∷ [])
another_number_does_not = refl

-- the join of its two cuts, and of one that fails
it_joins : respond_to (Scan (record { start = []; end = 122 ∷ [] })) (me 5) later
    ≡ join_responses false (respond_to (Scan (record { start = []; end = 98 ∷ [] })) (me 5) later) (respond_to (Scan (record { start = 98 ∷ []; end = 122 ∷ [] })) (me 5) later)
it_joins = refl

a_fault_remains : join_responses false (Replied (Keys []) []) (Refused (98 ∷ []) NotInteger) ≡ Refused (98 ∷ []) NotInteger
a_fault_remains = refl

-- a key below the span is named by no reply
outside_the_span : RespondsIn (98 ∷ []) (99 ∷ []) (Replied (Keys ((97 ∷ []) ∷ [])) []) → ⊥
outside_the_span h = let out : false ≡ true = h.0.0 in cc
