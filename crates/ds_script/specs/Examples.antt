-- Worked examples.
use Rattle.std.specs.Prelude.{◌≡◌, ℕ, List, [], ◌∷◌, codes, true, false, Some, None, Ok, Err, replicate, pos, refl}
use Rattle.serde_json.specs.Data.{Data, unsigned, boolean, number, string, object, no_members, member}
use Rattle.ds_kind.specs.declared.request.Request.{Request}
use Rattle.ds_kind.specs.declared.request.Request.TheVariants.{Get, Put}
use Rattle.ds_base.specs.declared.value.Value.TheVariants.{Int}
use Rattle.ds_rule.specs.declared.event.Event.TheVariants as events
use Rattle.ds_fields.specs.declared.fault.FaultKind.TheVariants.{Shape, Order, LowWrite, TxnOpen}
use Rattle.ds_fields.specs.Members.{op_of}
use Rattle.ds_line.specs.Events.{timed}
use Rattle.ds_line.specs.Happenings.{happening_of}
use Rattle.ds_script.specs.declared.line.Line.{Line}
use Rattle.ds_script.specs.declared.line.Line.TheVariants as lines
use Rattle.ds_script.specs.declared.state.State.{State}
use Rattle.ds_script.specs.Forms.{form_of, line_by, close_of, range, cluster, batch, block, begin, at_of}
use Rattle.ds_script.specs.Limits.{key_fits, stamp_fits, line_fits}
use Rattle.ds_script.specs.Rules.{opened, turn, claims, step}
use Rattle.ds_script.specs.Script.{fault, script_of}
use Rattle.ds_script.specs.Split.{lines_of}

-- ---- forms

op : List ℕ → Data
op name = object (member (codes "op") (string name) no_members)

a_close : form_of [] (op (codes "close")) ≡ Ok (Some lines.Close)
unfolding form_of op_of line_by close_of op
a_close = refl

another_name : form_of [] (op (codes "closed")) ≡ Err Shape
unfolding form_of op_of line_by happening_of op
another_name = refl

-- exactly one of `"txn":true` and `"stamp":n`
of_the_transaction : at_of (Some (boolean true)) None ≡ Ok (Some None)
unfolding at_of
of_the_transaction = refl

not_of_it : at_of (Some (boolean false)) None ≡ Err Shape
unfolding at_of
not_of_it = refl

of_both : at_of (Some (boolean true)) (Some (number (unsigned 1))) ≡ Err Shape
unfolding at_of
of_both = refl

-- ---- limits

long_key : key_fits (replicate 64 97) ≡ true
long_key = refl

too_long_key : key_fits (replicate 65 97) ≡ false
too_long_key = refl

-- the bound is a key, and no point
at_the_bound : line_fits 3 (lines.Split (255 ∷ 255 ∷ [])) ≡ false
at_the_bound = refl

last_stamp : stamp_fits (record { 0 = 1000000000 }) ≡ true
last_stamp = refl

no_stamp : stamp_fits (record { 0 = 0 }) ≡ false
no_stamp = refl

-- a cluster of one range on three nodes, with the lease on one of them
one_range : List ℕ → ℕ → Line
one_range start lease = cluster 3 (range start (1 ∷ 2 ∷ 3 ∷ []) lease ∷ [])

a_cluster : line_fits 64 (one_range [] 1) ≡ true
unfolding one_range
a_cluster = refl

lease_elsewhere : line_fits 64 (one_range [] 4) ≡ false
unfolding one_range
lease_elsewhere = refl

begins_late : line_fits 64 (one_range (97 ∷ []) 1) ≡ false
unfolding one_range
begins_late = refl

-- ---- a line after the others

-- a cluster of three nodes stands on line 1, and a transaction began at stamp 10 on line 2
inside : State
inside = record { nodes = Some 3; txn = Some (opened 2 (record { 0 = 10 }) (97 ∷ [])); copies = [] }

outside : State
outside = record { nodes = Some 3; txn = None; copies = [] }

second_cluster : turn 2 (one_range [] 1) outside ≡ Err Order
unfolding turn outside one_range
second_cluster = refl

close_outside : turn 2 lines.Close outside ≡ Err Order
unfolding turn outside
close_outside = refl

close_inside : turn 3 lines.Close inside ≡ Ok outside
unfolding turn inside outside
close_inside = refl

begin_inside : turn 3 (begin 20 []) inside ≡ Err TxnOpen
unfolding turn inside
begin_inside = refl

-- a write at the transaction's stamp is too low, and above it is none
at_the_floor : turn 3 (lines.Write [] (record { 0 = 10 }) None) inside ≡ Err LowWrite
unfolding turn inside
at_the_floor = refl

above_the_floor : turn 3 (lines.Write [] (record { 0 = 11 }) None) inside ≡ Ok inside
unfolding turn inside
above_the_floor = refl

-- beside the transaction a batch reads below its stamp alone
alone_at : ℕ → Request → Line
alone_at s r = lines.Batch (batch (Some (record { 0 = s })) true None (r ∷ [])) (block [] [])

get_below : turn 3 (alone_at 9 (Get (record { key = [] }))) inside ≡ Ok inside
unfolding turn inside alone_at
get_below = refl

get_at : turn 3 (alone_at 10 (Get (record { key = [] }))) inside ≡ Err Order
unfolding turn inside alone_at
get_at = refl

put_below : turn 3 (alone_at 9 (Put (record { key = []; value = Int (pos 1) }))) inside ≡ Err Order
unfolding turn inside alone_at
put_below = refl

-- ---- numbers of copies

-- of two losses at one step the first counts, so 7 belongs to no step there
first_loss_counts : claims 4 0 (timed 2 (events.LoseReply None) ∷ timed 2 (events.LoseReply (Some 7)) ∷ timed 3 (events.Copy 7) ∷ []) [] ≡ Ok ((7, step 4 3) ∷ [])
first_loss_counts = refl

-- a number twice at one step is no fault, and at two steps it is
twice_at_a_step : claims 4 0 (timed 2 (events.LoseReply (Some 7)) ∷ timed 2 (events.Copy 7) ∷ []) [] ≡ Ok ((7, step 4 2) ∷ [])
twice_at_a_step = refl

at_two_steps : claims 4 0 (timed 2 (events.Copy 7) ∷ timed 3 (events.Copy 7) ∷ []) [] ≡ Err Order
at_two_steps = refl

on_two_lines : claims 4 0 (timed 2 (events.Copy 7) ∷ []) ((7, step 3 2) ∷ []) ≡ Err Order
on_two_lines = refl

-- ---- scripts

two_lines : lines_of (97 ∷ 10 ∷ 98 ∷ []) ≡ (97 ∷ []) ∷ (98 ∷ []) ∷ []
two_lines = refl

-- what follows the last line's end is no line
ended_lines : lines_of (97 ∷ 10 ∷ []) ≡ (97 ∷ []) ∷ []
ended_lines = refl

no_script : script_of [] ≡ fault 1 Order
unfolding script_of
no_script = refl

blank_lines : script_of (32 ∷ 10 ∷ 9 ∷ 13 ∷ 10 ∷ []) ≡ fault 1 Order
unfolding script_of
blank_lines = refl
