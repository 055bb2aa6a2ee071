-- Worked examples of the definitions.
use Rattle.std.proofs.Common.{◌≡◌, [], ◌∷◌, ◌++◌, codes, false, Some, None, refl}
use Rattle.std.specs.Fmt.{digits}
use Rattle.serde_json.specs.Data.{member, object, no_members}
use Rattle.serde_json.specs.Written.{compact_text}
use Rattle.serde_json.proofs.OnLiterals.{serde_json_on_literals}
use Rattle.ds_base.specs.declared.value.Dir.TheVariants.{Reverse}
use Rattle.ds_kind.specs.declared.illegal.Illegal.TheVariants.{LimitOrder, NoTxnParts}
use Rattle.ds_kind.specs.declared.reply.TxnStatus.TheVariants.{Aborted}
use Rattle.ds_kind.specs.declared.reply.Body.TheVariants as bodies
use Rattle.ds_kind.specs.declared.request.Request.TheVariants.{Get}
use Rattle.ds_desc.specs.declared.meta.Looked.TheVariants.{Lost}
use Rattle.ds_rule.specs.declared.answer.Outcome.TheVariants.{TxnAborted, OutOfMemory}
use Rattle.ds_rule.specs.declared.journal.JournalStep.TheVariants.{Look}
use Rattle.ds_rule.specs.declared.journal.Entry.TheVariants.{Batch}
use Rattle.ds_text.specs.Simple.{nat, key_data, list_data, span_data}
use Rattle.ds_text.specs.Replies.{reply_data}
use Rattle.ds_text.specs.Lines.{illegal_data, close_line, step_data, answer_line, waits}
use Rattle.ds_text.specs.Log.{line_text, objects_of, has_texts, text_of}

a_close : line_text (close_line 7 Aborted) ≡ codes "{\"close\":\"aborted\",\"line\":7}" ++ 10 ∷ []
unfolding serde_json_on_literals digits
a_close = refl

-- the byte ff is the character U+00FF, in UTF-8 two bytes
a_high_byte : compact_text (key_data (255 ∷ [])) ≡ 34 ∷ 195 ∷ 191 ∷ 34 ∷ []
unfolding serde_json_on_literals
a_high_byte = refl

-- the resume span stands between the keys with their number and what sorts above it
a_rest : reply_data (record { body = bodies.Gone []; resume = Some (record { start = []; end = 98 ∷ [] }) })
    ≡ object (member (codes "keys") (list_data key_data []) (member (codes "num") (nat 0) (member (codes "resume") (span_data (record { start = []; end = 98 ∷ [] })) no_members)))
a_rest = refl

-- without a rest there is no such member
no_rest : reply_data (record { body = bodies.Unit; resume = None }) ≡ object no_members
no_rest = refl

-- a rule that names a position, and one that names none
a_place : illegal_data (LimitOrder 1) ≡ object (member (codes "code") (nat 10) (member (codes "i") (nat 1) no_members))
a_place = refl

no_place : illegal_data NoTxnParts ≡ object (member (codes "code") (nat 11) no_members)
no_place = refl

-- the first step has the number 1, and the answer comes last
a_batch : objects_of (Batch 2 (Look [] Reverse Lost ∷ []) TxnAborted) ≡ step_data 2 1 (Look [] Reverse Lost) ∷ answer_line 2 TxnAborted ∷ []
a_batch = refl

-- want of memory has no text
not_out_of_memory : has_texts (Batch 2 [] OutOfMemory ∷ []) ≡ false
not_out_of_memory = refl

not_a_get : waits (Get (record { key = [] })) ≡ false
not_a_get = refl

nothing_printed : text_of [] ≡ []
unfolding text_of
nothing_printed = refl
