-- How replies are made of what the pieces were answered.
use Rattle.std.specs.Prelude.{◌≡◌, ℕ, Bool, true, List, [], ◌∷◌, None}
use Rattle.ds_base.specs.Order.{key_lt}
use Rattle.ds_kind.specs.Bodies.{put_in_order, in_order, stands_at, those_at, goes_down, join_bodies}
use Rattle.ds_kind.specs.Request.{cut_to, span_of}
use Rattle.ds_kind.specs.declared.batch.Item.{Item}
use Rattle.ds_kind.specs.declared.reply.Reply.{Reply}
use Rattle.ds_kind.specs.declared.reply.Body.{Body}
use Rattle.ds_kind.specs.declared.request.Request.{Request}
use Rattle.ds_cell.specs.Replies.{Bits, body_of}
use Rattle.ds_rule.specs.Journal.{Accepted}

-- where an accepted item begins
abbrev pub begins_at : Accepted → List ℕ
begins_at a = (span_of a.item.request).start

abbrev pub put_by_start : Accepted → List Accepted → List Accepted
put_by_start = put_in_order begins_at

-- in key order, whatever the order of arrival
abbrev pub by_start : List Accepted → List Accepted
by_start = in_order begins_at

abbrev pub is_at : ℕ → Accepted → Bool
is_at = stands_at (λ a. a.item.pos)

-- those of the request at a position
abbrev pub at_position : ℕ → List Accepted → List Accepted
at_position = those_at (λ a. a.item.pos)

-- a body that a reply to the request may have
pub record IsBody (r : Request) (b : Body) : Type 0 where
  pub bits : Bits
  pub is : b ≡ body_of r bits

-- one after another these are the request on its span from s to e, under its number, and the body is theirs, joined:
-- so each key of the span stands in exactly one of them
abbrev pub Joins : Item → List ℕ → List ℕ → List Accepted → Body → Type 0
Joins i s e [] body = (s ≡ e) × (body ≡ body_of i.request [])
Joins i s e (a ∷ more) body =
    (m : List ℕ) × (rest : Body) × (key_lt s m ≡ true) × (a.item ≡ record i { request = cut_to s m i.request }) × Joins i m e more rest
    × (body ≡ join_bodies (goes_down i.request) a.reply.body rest)

-- the reply to one request is made of the accepted items at its position
pub record IsGathered (got : List Accepted) (i : Item) (reply : Reply) : Type 0 where
  pub whole : reply.resume ≡ None
  pub joins : Joins i (span_of i.request).start (span_of i.request).end (by_start (at_position i.pos got)) reply.body

-- one reply for each request, in order
abbrev pub Gathered : List Accepted → List Item → List Reply → Type 0
Gathered got [] [] = Unit {0}
Gathered got (i ∷ is) [] = ⊥
Gathered got [] (r ∷ rs) = ⊥
Gathered got (i ∷ is) (r ∷ rs) = IsGathered got i r × Gathered got is rs
