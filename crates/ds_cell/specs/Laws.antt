-- The laws of a kind, stated once for all kinds and requests. Each speaks of what a request is answered and writes where
-- it is asked over its own span.
use Rattle.std.specs.Prelude.{◌≡◌, ℕ, ◌≤◌, ◌<◌, Bool, true, false, List, [], ◌∷◌, Option}
use Rattle.ds_base.specs.Order.{key_le, holds, after}
use Rattle.ds_base.specs.Ordered.{Ascends}
use Rattle.ds_base.specs.declared.value.Value.{Value}
use Rattle.ds_kind.specs.CutReach.{cut_reach}
use Rattle.ds_kind.specs.Reach.{Reach, Over, extent_of}
use Rattle.ds_kind.specs.declared.flags.Flags.{Flags}
use Rattle.ds_kind.specs.declared.reply.Body.{Body}
use Rattle.ds_cell.specs.declared.entry.At.{At as Who}
use Rattle.ds_cell.specs.declared.verdict.Verdict.{Verdict}
use Rattle.ds_cell.specs.declared.verdict.Verdict.TheVariants.{Keep, Put, Refuse}
use Rattle.ds_cell.specs.declared.verdict.Bit.{Bit}
use Rattle.ds_cell.specs.Content.{Content}
use Rattle.ds_cell.specs.Seen.{newest, under, own, version_at}
use Rattle.ds_cell.specs.Deed.{Sight, content_after}
use Rattle.ds_cell.specs.Ask.{Cells, key_of, content_at, Gave, one_more, ask_at}
use Rattle.ds_cell.specs.Replies.{Bits}
use Rattle.ds_cell.specs.Responses.{Response, Replied, respond, join_responses, RespondsIn, NoWrites}
use Rattle.ds_cell.specs.Store.{write_all}

-- what the requests of a kind, given A, are answered over their spans
abbrev pub Asks : Type 0 → Type 0
Asks A = A → Who → Cells → Response

-- the same request on the part of its span from a start up to an end
abbrev pub Cuts : Type 0 → Type 0
Cuts A = List ℕ → List ℕ → A → A

-- the key lies where the request acts
abbrev pub Within : Reach → List ℕ → Type 0
Within r k = holds (extent_of r).start (extent_of r).end k ≡ true

-- a request asked over its span is decided at each key of it, and its reply is made of the answers there
abbrev pub AsksEach : {A : Type 0} → (A → Who → Content → Verdict) → (A → Bits → Body) → (A → Reach) → Asks A → A → Type 0
AsksEach d body reach ask a = (at : Who) (cells : Cells) → ask a at cells ≡ respond (body a) (ask_at (d a at) (reach a) cells)

-- asked over a span, a request is the join of itself on the two cuts, reply and writes
abbrev pub JoinLaw : {A : Type 0} → Bool → (A → Reach) → Cuts A → Asks A → A → Type 0
JoinLaw down reach cut ask a =
    (at : Who) (s m e : List ℕ) (cells : Cells) → reach a ≡ Over s e → Ascends key_of cells → key_le s m ≡ true → key_le m e ≡ true
    → ask a at cells ≡ join_responses down (ask (cut s m a) at cells) (ask (cut m e a) at cells)

-- asked over one key of its span, it is what it does to that key
abbrev pub PointLaw : {A : Type 0} → (A → Who → Content → Verdict) → (A → Bits → Body) → (A → Reach) → Cuts A → Asks A → A → Type 0
PointLaw d body reach cut ask a =
    (at : Who) (k : List ℕ) (c : Content) → Within (reach a) k
    → ask (cut k (after k) a) at ((k, c) ∷ []) ≡ respond (body a) (one_more k (d a at c) (Gave [] []))

-- a cut request does the same at each key, and makes its reply in the same way
abbrev pub CutLaw : {A : Type 0} → (A → Who → Content → Verdict) → (A → Bits → Body) → (A → Reach) → Cuts A → A → Type 0
CutLaw d body reach cut a =
    (s e : List ℕ)
    → ((at : Who) (c : Content) → d (cut s e a) at c ≡ d a at c)
    × ((bits : Bits) → body (cut s e a) bits ≡ body a bits)
    × (reach (cut s e a) ≡ cut_reach s e (reach a))

-- c' is c as a request at `at` may find it later: with the same writes up to its number and the same version at its stamp
pub record IsLater (at : Who) (c c' : Content) : Type 0 where
  pub version : version_at at.stamp.0 c'.versions ≡ version_at at.stamp.0 c.versions
  pub writes : (n : ℕ) → n ≤ at.seq.0 → newest n (own at c') ≡ newest n (own at c)
  pub numbers : (n : ℕ) → n ≤ at.seq.0 → under n (own at c') ≡ under n (own at c)

-- asked again with its number, it writes nothing and answers the same, whatever stands beside its writes by then at each
-- key of its span, as a write under a later number, also where nothing stood
abbrev pub RepeatLaw : {A : Type 0} → (A → Reach) → Asks A → A → Type 0
RepeatLaw reach ask a =
    (at : Who) (cells later : Cells) (b : Body) (ws : List (List ℕ × Option Value)) → Ascends key_of cells → Ascends key_of later
    → ask a at cells ≡ Replied b ws
    → ((k : List ℕ) → Within (reach a) k → IsLater at (content_at k (write_all at ws cells)) (content_at k later))
    → ask a at later ≡ Replied b []

-- so later writes of its transaction, wherever they stand, change nothing for it
abbrev pub BesideLaw : {A : Type 0} → Asks A → A → Type 0
BesideLaw ask a =
    (at next : Who) (cells : Cells) (b : Body) (ws vs : List (List ℕ × Option Value)) → Ascends key_of cells
    → next.txn.0 ≡ at.txn.0 → next.epoch ≡ at.epoch → at.seq.0 < next.seq.0
    → ask a at cells ≡ Replied b ws → ask a at (write_all next vs (write_all at ws cells)) ≡ Replied b []

-- it reads only its span
abbrev pub ReadsLaw : {A : Type 0} → (A → Reach) → Asks A → A → Type 0
ReadsLaw reach ask a =
    (at : Who) (cells others : Cells) → Ascends key_of cells → Ascends key_of others
    → ((k : List ℕ) → Within (reach a) k → content_at k cells ≡ content_at k others)
    → ask a at cells ≡ ask a at others

-- it answers, writes and fails only in its span
abbrev pub StaysLaw : {A : Type 0} → (A → Reach) → Asks A → A → Type 0
StaysLaw reach ask a =
    (at : Who) (cells : Cells) → RespondsIn (extent_of (reach a)).start (extent_of (reach a)).end (ask a at cells)

-- it writes only if flagged so
abbrev pub FlagLaw : {A : Type 0} → Bool → Asks A → A → Type 0
FlagLaw flag ask a = (at : Who) (cells : Cells) → flag ≡ false → NoWrites (ask a at cells)

-- all of these
abbrev pub Lawful : {A : Type 0} → Flags → (A → Who → Content → Verdict) → (A → Bits → Body) → (A → Reach) → Cuts A → Asks A → A → Type 0
Lawful flags d body reach cut ask a =
    AsksEach d body reach ask a × JoinLaw flags.reverse reach cut ask a × PointLaw d body reach cut ask a × CutLaw d body reach cut a
    × RepeatLaw reach ask a × ReadsLaw reach ask a × StaysLaw reach ask a × FlagLaw flags.write ask a

-- what each kind owes: the answer of a write is the answer of its repeat, and it writes only if flagged so
abbrev pub IsCoherent : (Sight → Verdict) → (Option Value → Bit) → Type 0
IsCoherent judge again = (g : Sight) (w : Option Value) (b : Bit) → judge g ≡ Put w b → again w ≡ b

abbrev pub WritesIf : Bool → (Sight → Verdict) → Type 0
WritesIf flag judge = (g : Sight) (w : Option Value) (b : Bit) → judge g ≡ Put w b → flag ≡ true

-- v answers as the first did, and changes nothing
abbrev pub Repeats : Verdict → Verdict → Type 0
Repeats (Keep b) v = v ≡ Keep b
Repeats (Put w b) v = v ≡ Keep b
Repeats (Refuse f) v = Unit {0}

-- so it is at each key
abbrev pub KeyRepeats : (Who → Content → Verdict) → Type 0
KeyRepeats d = (at : Who) (c c' : Content) → IsLater at (content_after at (d at c) c) c' → Repeats (d at c) (d at c')
