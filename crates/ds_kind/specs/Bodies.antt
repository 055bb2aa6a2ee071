-- How the bodies of a request's pieces are put in order, and joined.
use Rattle.std.specs.Prelude.{◌≡◌, ℕ, Bool, true, false, List, [], ◌∷◌, ◌++◌, filter, ◌==◌, if◌then◌else◌, pos, None, refl}
use Rattle.ds_base.specs.Order.{key_lt}
use Rattle.ds_base.specs.declared.value.Value.TheVariants.{Int}
use Rattle.ds_kind.specs.Flags.{flags_of}
use Rattle.ds_kind.specs.Request.{kind_of}
use Rattle.ds_kind.specs.declared.reply.Row.{Row}
use Rattle.ds_kind.specs.declared.reply.Body.{Body}
use Rattle.ds_kind.specs.declared.reply.Body.TheVariants.{Got, Rows, Unit as Done, Number, Gone as Keys, Ended, Found}
use Rattle.ds_kind.specs.declared.reply.TxnStatus.TheVariants.{Committed, Aborted}
use Rattle.ds_kind.specs.declared.request.Request.{Request}
use Rattle.ds_kind.specs.declared.request.Request.TheVariants.{Get, Scan, ReverseScan, Put, ConditionalPut, InitPut, Increment, Delete, DeleteRange, EndTxn, QueryIntent, ResolveIntent, ResolveIntentRange, AdminSplit, AdminTransferLease}

-- things with a key each, as where they start, in the order of the keys

abbrev pub put_in_order : {X : Type 0} → (X → List ℕ) → X → List X → List X
put_in_order key a [] = a ∷ []
put_in_order key a (b ∷ bs) = if key_lt (key b) (key a) then b ∷ put_in_order key a bs else a ∷ b ∷ bs

abbrev pub in_order : {X : Type 0} → (X → List ℕ) → List X → List X
in_order key [] = []
in_order key (a ∷ more) = put_in_order key a (in_order key more)

-- things with a position each, those at one position

abbrev pub stands_at : {X : Type 0} → (X → ℕ) → ℕ → X → Bool
stands_at position n x = position x == n

abbrev pub those_at : {X : Type 0} → (X → ℕ) → ℕ → List X → List X
those_at position n xs = filter (stands_at position n) xs

-- bodies

-- whether the kind goes over its span from the end to the start
abbrev pub goes_down : Request → Bool
goes_down r = (flags_of (kind_of r)).reverse

-- the body over a span of the bodies over its two cuts, the lower first
abbrev pub join_rows : Bool → List Row → Body → Body
join_rows down xs (Rows ys) = Rows (if down then ys ++ xs else xs ++ ys)
join_rows down xs _ = Rows xs

abbrev pub join_keys : List (List ℕ) → Body → Body
join_keys xs (Keys ys) = Keys (xs ++ ys)
join_keys xs _ = Keys xs

abbrev pub join_bodies : Bool → Body → Body → Body
join_bodies down (Rows xs) b = join_rows down xs b
join_bodies down (Keys xs) b = join_keys xs b
join_bodies down a b = a

-- what a request is answered over no key
abbrev pub empty_body : Request → Body
empty_body (Get a) = Got None
empty_body (Scan a) = Rows []
empty_body (ReverseScan a) = Rows []
empty_body (Put a) = Done
empty_body (ConditionalPut a) = Done
empty_body (InitPut a) = Done
empty_body (Increment a) = Number (pos 0)
empty_body (Delete a) = Done
empty_body (DeleteRange a) = Keys []
empty_body (EndTxn a) = Ended (if a.commit then Committed else Aborted)
empty_body (QueryIntent a) = Found false
empty_body (ResolveIntent a) = Done
empty_body (ResolveIntentRange a) = Done
empty_body (AdminSplit a) = Done
empty_body (AdminTransferLease a) = Done

-- the lower comes first, whichever came first
the_lower_first : in_order (λ k. k) ((98 ∷ []) ∷ (97 ∷ 0 ∷ []) ∷ (97 ∷ []) ∷ []) ≡ (97 ∷ []) ∷ (97 ∷ 0 ∷ []) ∷ (98 ∷ []) ∷ []
the_lower_first = refl

-- going down, the rows of the higher span come first
the_higher_rows_first : join_bodies true (Rows (record { key = 97 ∷ []; value = Int (pos 1) } ∷ [])) (Rows (record { key = 98 ∷ []; value = Int (pos 2) } ∷ [])) ≡ Rows (record { key = 98 ∷ []; value = Int (pos 2) } ∷ record { key = 97 ∷ []; value = Int (pos 1) } ∷ [])
the_higher_rows_first = refl

-- a body that has no rows and no keys stands as it is
a_number_stays : join_bodies false (Number (pos 4)) (Number (pos 0)) ≡ Number (pos 4)
a_number_stays = refl
