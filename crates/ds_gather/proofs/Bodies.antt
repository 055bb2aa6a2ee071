-- The bodies of a request's answers, joined one by one, are the body that the reply has.
use Rattle.std.proofs.Common.{◌≡◌, ℕ, Bool, true, false, List, [], ◌∷◌, refl, sym, ap, ◌∙◌, reverse}
use Rattle.std.proofs.lemmas.List.{reverse-append}
use Rattle.ds_kind.specs.Bodies.{join_bodies, join_rows, join_keys, empty_body}
use Rattle.ds_kind.specs.declared.reply.Body.{Body}
use Rattle.ds_kind.specs.declared.reply.Body.TheVariants.{Got, Rows, Unit as Done, Number, Gone, Ended, Found}
use Rattle.ds_kind.specs.declared.reply.Row.{Row}
use Rattle.ds_kind.specs.declared.request.Request.TheVariants.{Get, Scan, ReverseScan, Put, ConditionalPut, InitPut, Increment, Delete, DeleteRange, EndTxn, QueryIntent, ResolveIntent, ResolveIntentRange, AdminSplit, AdminTransferLease}
use Rattle.ds_cover.specs.Chains.{joined_over}
use Rattle.ds_gather.specs.Gathered.{rows_in, keys_in, all_rows, all_keys, body_at, given}
use Rattle.ds_gather.specs.Laws.{AllOfKind, BodiesJoined, SameKind}
use Rattle.ds_gather.specs.declared.arrival.Arrival.{Arrival}
use Rattle.ds_gather.proofs.Joining.{rows_push}

same_rows : (none : List Row) (b : Body) → SameKind (Rows none) b → b ≡ Rows (rows_in b)
same_rows none (Got a) k = absurd k
same_rows none (Rows a) k = refl
same_rows none Done k = absurd k
same_rows none (Number a) k = absurd k
same_rows none (Gone a) k = absurd k
same_rows none (Ended a) k = absurd k
same_rows none (Found a) k = absurd k

same_keys : (none : List (List ℕ)) (b : Body) → SameKind (Gone none) b → b ≡ Gone (keys_in b)
same_keys none (Got a) k = absurd k
same_keys none (Rows a) k = absurd k
same_keys none Done k = absurd k
same_keys none (Number a) k = absurd k
same_keys none (Gone a) k = refl
same_keys none (Ended a) k = absurd k
same_keys none (Found a) k = absurd k

abbrev body_of : Arrival → Body
body_of a = a.reply.body

rows_up : (none : List Row) (xs : List Arrival) → none ≡ [] → AllOfKind (Rows none) xs → joined_over body_of (join_bodies false) (Rows none) xs ≡ Rows (all_rows xs)
rows_up none [] e k = ap Rows e
rows_up none (x ∷ xs) e k =
    ap (λ b. join_bodies false b (joined_over body_of (join_bodies false) (Rows none) xs)) (same_rows none x.reply.body k.0)
    ∙ ap (join_rows false (rows_in x.reply.body)) (rows_up none xs e k.1)

rows_down : (none : List Row) (xs : List Arrival) → none ≡ [] → AllOfKind (Rows none) xs → joined_over body_of (join_bodies true) (Rows none) xs ≡ Rows (all_rows (reverse xs))
rows_down none [] e k = ap Rows e
rows_down none (x ∷ xs) e k =
    ap (λ b. join_bodies true b (joined_over body_of (join_bodies true) (Rows none) xs)) (same_rows none x.reply.body k.0)
    ∙ ap (join_rows true (rows_in x.reply.body)) (rows_down none xs e k.1)
    ∙ ap Rows (sym (ap all_rows (reverse-append (x ∷ []) xs) ∙ rows_push (reverse xs) x))

keys_up : (none : List (List ℕ)) (xs : List Arrival) → none ≡ [] → AllOfKind (Gone none) xs → joined_over body_of (join_bodies false) (Gone none) xs ≡ Gone (all_keys xs)
keys_up none [] e k = ap Gone e
keys_up none (x ∷ xs) e k =
    ap (λ b. join_bodies false b (joined_over body_of (join_bodies false) (Gone none) xs)) (same_keys none x.reply.body k.0)
    ∙ ap (join_keys (keys_in x.reply.body)) (keys_up none xs e k.1)

-- neither rows nor keys
abbrev IsOther : Body → Type 0
IsOther (Rows a) = ⊥
IsOther (Gone a) = ⊥
IsOther b = Unit {0}

not_rows : (none : Body) (a : List Row) → IsOther none → SameKind none (Rows a) → ⊥
not_rows (Got b) a o k = k
not_rows (Rows b) a o k = o
not_rows Done a o k = k
not_rows (Number b) a o k = k
not_rows (Gone b) a o k = o
not_rows (Ended b) a o k = k
not_rows (Found b) a o k = k

not_keys : (none : Body) (a : List (List ℕ)) → IsOther none → SameKind none (Gone a) → ⊥
not_keys (Got b) a o k = k
not_keys (Rows b) a o k = o
not_keys Done a o k = k
not_keys (Number b) a o k = k
not_keys (Gone b) a o k = o
not_keys (Ended b) a o k = k
not_keys (Found b) a o k = k

stands : (down : Bool) (none b z : Body) → IsOther none → SameKind none b → join_bodies down b z ≡ b
stands down none (Got a) z o k = refl
stands down none (Rows a) z o k = absurd (not_rows none a o k)
stands down none Done z o k = refl
stands down none (Number a) z o k = refl
stands down none (Gone a) z o k = absurd (not_keys none a o k)
stands down none (Ended a) z o k = refl
stands down none (Found a) z o k = refl

other : (none : Body) (xs : List Arrival) → IsOther none → AllOfKind none xs → joined_over body_of (join_bodies false) none xs ≡ given none (body_at xs)
other none [] o k = refl
other none (x ∷ xs) o k = stands false none x.reply.body (joined_over body_of (join_bodies false) none xs) o k.0

pub bodies_joined : BodiesJoined
bodies_joined (Get a) xs k = other (empty_body (Get a)) xs tt k
bodies_joined (Scan a) xs k = rows_up [] xs refl k
bodies_joined (ReverseScan a) xs k = rows_down [] xs refl k
bodies_joined (Put a) xs k = other (empty_body (Put a)) xs tt k
bodies_joined (ConditionalPut a) xs k = other (empty_body (ConditionalPut a)) xs tt k
bodies_joined (InitPut a) xs k = other (empty_body (InitPut a)) xs tt k
bodies_joined (Increment a) xs k = other (empty_body (Increment a)) xs tt k
bodies_joined (Delete a) xs k = other (empty_body (Delete a)) xs tt k
bodies_joined (DeleteRange a) xs k = keys_up [] xs refl k
bodies_joined (EndTxn a) xs k = other (empty_body (EndTxn a)) xs tt k
bodies_joined (QueryIntent a) xs k = other (empty_body (QueryIntent a)) xs tt k
bodies_joined (ResolveIntent a) xs k = other (empty_body (ResolveIntent a)) xs tt k
bodies_joined (ResolveIntentRange a) xs k = other (empty_body (ResolveIntentRange a)) xs tt k
bodies_joined (AdminSplit a) xs k = other (empty_body (AdminSplit a)) xs tt k
bodies_joined (AdminTransferLease a) xs k = other (empty_body (AdminTransferLease a)) xs tt k
