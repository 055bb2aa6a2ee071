-- What a request is answered over its span: its reply and its writes, or the fault that it fails with.
use Rattle.std.specs.Prelude.{◌≡◌, ℕ, Bool, true, List, [], ◌++◌, Option}
use Rattle.ds_base.specs.Order.{holds}
use Rattle.ds_base.specs.declared.value.Value.{Value}
use Rattle.ds_kind.specs.declared.reply.Row.{Row}
use Rattle.ds_kind.specs.declared.reply.Body.{Body}
use Rattle.ds_kind.specs.declared.reply.Body.TheVariants.{Got, Rows, Unit as Done, Number, Gone as Keys, Ended, Found}
use Rattle.ds_cell.specs.declared.verdict.ActFault.{ActFault}
use Rattle.ds_cell.specs.Ask.{AllIn, key_of, Asked, Failed, Gave}
use Rattle.ds_kind.specs.Bodies.{join_bodies}
use Rattle.ds_cell.specs.Replies.{Bits}

-- the key and the fault that a request failed with, or its reply's body and its writes by key
pub data Response : Type 0 where
  Refused : List ℕ → ActFault → Response
  Replied : Body → List (List ℕ × Option Value) → Response

-- the response of a request whose body is made so of the answers at the keys
abbrev pub respond : (Bits → Body) → Asked → Response
respond body (Failed k f) = Refused k f
respond body (Gave bits ws) = Replied (body bits) ws

-- the one response after the other, the lower cut first; it fails where one of the two fails, and the first before the second
abbrev pub join_responses : Bool → Response → Response → Response
join_responses down (Refused k f) r = Refused k f
join_responses down (Replied b ws) (Refused k f) = Refused k f
join_responses down (Replied b ws) (Replied c vs) = Replied (join_bodies down b c) (ws ++ vs)

-- the keys that a body names stand in the span
abbrev pub NamesIn : List ℕ → List ℕ → Body → Type 0
NamesIn s e (Got v) = Unit {0}
NamesIn s e (Rows rows) = AllIn (λ (r : Row). r.key) s e rows
NamesIn s e Done = Unit {0}
NamesIn s e (Number n) = Unit {0}
NamesIn s e (Keys keys) = AllIn (λ k. k) s e keys
NamesIn s e (Ended t) = Unit {0}
NamesIn s e (Found t) = Unit {0}

-- the reply's keys, the writes and the fault stand at keys of the span
abbrev pub RespondsIn : List ℕ → List ℕ → Response → Type 0
RespondsIn s e (Refused k f) = holds s e k ≡ true
RespondsIn s e (Replied b ws) = NamesIn s e b × AllIn key_of s e ws

abbrev pub NoWrites : Response → Type 0
NoWrites (Refused k f) = Unit {0}
NoWrites (Replied b ws) = ws ≡ []
