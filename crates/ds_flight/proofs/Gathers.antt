-- What arrived for a part that is covered makes the replies that a journal's accepted items show.
use Rattle.std.proofs.Common.{◌≡◌, ℕ, ◌<◌, Bool, true, false, cond, List, [], ◌∷◌, ◌++◌, map, filter, reverse, None, refl, sym, ap, ◌∙◌, subst, inl, inr, arith, ◌==◌}
use Rattle.std.proofs.lemmas.Bool.{eqb-true}
use Rattle.std.specs.Option.{option_or}
use Rattle.std.proofs.lemmas.List.{append-nil, append_assoc}
use Rattle.ds_base.proofs.ListFacts.{last_first}
use Rattle.ds_base.specs.Order.{Extent, key_lt, key_le}
use Rattle.ds_kind.specs.Bodies.{empty_body, goes_down, in_order, join_bodies, put_in_order}
use Rattle.ds_kind.specs.Request.{cut_to, span_of}
use Rattle.ds_kind.specs.declared.batch.Item.{Item}
use Rattle.ds_kind.specs.declared.reply.Body.{Body}
use Rattle.ds_kind.specs.declared.reply.Body.TheVariants.{Gone, Rows}
use Rattle.ds_kind.specs.declared.reply.Row.{Row}
use Rattle.ds_kind.specs.declared.request.Request.{Request}
use Rattle.ds_kind.specs.declared.request.Request.TheVariants.{Get, Scan, ReverseScan, Put, ConditionalPut, InitPut, Increment, Delete, DeleteRange, EndTxn, QueryIntent, ResolveIntent, ResolveIntentRange, AdminSplit, AdminTransferLease}
use Rattle.ds_cell.specs.Replies.{Bits, body_of}
use Rattle.ds_cell.specs.RequestProofs.{laws_of}
use Rattle.ds_cover.specs.Chains.{Chain, joined_over}
use Rattle.ds_cover.specs.Coverage.{Covered}
use Rattle.ds_cover.specs.Items.{item_pos, item_span, AllSome, AllAfter, PositionsRise}
use Rattle.ds_cover.specs.Items as Items
use Rattle.ds_cover.specs.Laws.{joined as all_items}
use Rattle.ds_cover.specs.Origins.{IsCut}
use Rattle.ds_cover.proofs.Covering.{after-in, covered-chain}
use Rattle.ds_gather.specs.Gathered.{all_keys, all_rows, arrival, arrived, body_at, gathered, given, in_direction, joined, keys_in, pos_of, reply_of, resume_at, rows_in, start_of, wanted}
use Rattle.ds_gather.specs.declared.arrival.Arrival.{Arrival}
use Rattle.ds_rule.proofs.Eachs.{each-append}
use Rattle.ds_rule.specs.Gathered.{Gathered, IsBody, IsGathered, Joins, at_position, begins_at, by_start}
use Rattle.ds_rule.specs.Journal.{Accepted}
use Rattle.ds_rule.specs.Pieces.{Each}

-- ---- what is read of a list, put in order

map-put : {X Y : Type 0} (g : X → Y) (key : Y → List ℕ) (a : X) (xs : List X) → put_in_order key (g a) (map g xs) ≡ map g (put_in_order (λ x. key (g x)) a xs)
map-put g key a [] = refl
map-put g key a (b ∷ bs) =
    elim (key_lt (key (g b)) (key (g a))) as (λ t. cond t (g b ∷ put_in_order key (g a) (map g bs)) (g a ∷ g b ∷ map g bs) ≡ map g (cond t (b ∷ put_in_order (λ x. key (g x)) a bs) (a ∷ b ∷ bs))) [
      | true ↦ ap (λ ys. g b ∷ ys) (map-put g key a bs)
      | false ↦ refl
    ]

map-order : {X Y : Type 0} (g : X → Y) (key : Y → List ℕ) (xs : List X) → in_order key (map g xs) ≡ map g (in_order (λ x. key (g x)) xs)
map-order g key [] = refl
map-order g key (a ∷ more) = ap (put_in_order key (g a)) (map-order g key more) ∙ map-put g key a (in_order (λ x. key (g x)) more)

map-filter : {X Y : Type 0} (g : X → Y) (p : Y → Bool) (xs : List X) → filter p (map g xs) ≡ map g (filter (λ x. p (g x)) xs)
map-filter g p [] = refl
map-filter g p (x ∷ xs) =
    elim (p (g x)) as (λ t. cond t (g x ∷ filter p (map g xs)) (filter p (map g xs)) ≡ map g (cond t (x ∷ filter (λ x. p (g x)) xs) (filter (λ x. p (g x)) xs))) [
      | true ↦ ap (λ ys. g x ∷ ys) (map-filter g p xs)
      | false ↦ map-filter g p xs
    ]

map-chain : {X Y : Type 0} (f : Y → Extent) (g : X → Y) (s e : List ℕ) (xs : List X) → Chain f s e (map g xs) → Chain (λ x. f (g x)) s e xs
map-chain f g s e [] c = c
map-chain f g s e (x ∷ xs) c = (c.0, c.1, map-chain f g (f (g x)).end e xs c.2)

-- ---- what holds of each

each-put : {X : Type 0} (P : X → Type 0) (key : X → List ℕ) (a : X) (xs : List X) → P a → Each P xs → Each P (put_in_order key a xs)
each-put P key a [] one all = (one, all)
each-put P key a (b ∷ bs) one all =
    elim (key_lt (key b) (key a)) as (λ t. Each P (cond t (b ∷ put_in_order key a bs) (a ∷ b ∷ bs))) [
      | true ↦ (all.0, each-put P key a bs one all.1)
      | false ↦ (one, all)
    ]

each-order : {X : Type 0} (P : X → Type 0) (key : X → List ℕ) (xs : List X) → Each P xs → Each P (in_order key xs)
each-order P key [] all = all
each-order P key (a ∷ more) all = each-put P key a (in_order key more) all.0 (each-order P key more all.1)

each-passed : {X : Type 0} (P Q : X → Type 0) (p : X → Bool) (xs : List X) → ((x : X) → P x → p x ≡ true → Q x) → Each P xs → Each Q (filter p xs)
each-passed P Q p [] f all = tt
each-passed P Q p (x ∷ xs) f all =
    elim (p x) as (λ t. p x ≡ t → Each Q (cond t (x ∷ filter p xs) (filter p xs))) [
      | true ↦ λ h. (f x all.0 h, each-passed P Q p xs f all.1)
      | false ↦ λ h. each-passed P Q p xs f all.1
    ] refl

each-so : {X : Type 0} (P Q : X → Type 0) (xs : List X) → ((x : X) → P x → Q x) → Each P xs → Each Q xs
each-so P Q [] f all = tt
each-so P Q (x ∷ xs) f all = (f x all.0, each-so P Q xs f all.1)

-- ---- the answers of one request

-- what came for a gatherer of what was accepted
abbrev pub came_of : Accepted → Arrival
came_of a = arrival a.item a.reply

-- the accepted item is a part of this one, and its reply is of its kind and whole
pub record IsPartOf (i : Item) (a : Accepted) : Type 0 where
  pub same : a.item ≡ record i { request = cut_to (span_of a.item.request).start (span_of a.item.request).end i.request }
  pub body : IsBody i.request a.reply.body
  pub whole : a.reply.resume ≡ None

abbrev span_at : Accepted → Extent
span_at a = span_of a.item.request

abbrev body_from : Accepted → Body
body_from a = a.reply.body

abbrev over : Request → List Accepted → Body
over r xs = joined_over body_from (join_bodies (goes_down r)) (body_of r []) xs

chain-joins : (i : Item) (s e : List ℕ) (xs : List Accepted) → Chain span_at s e xs → Each (IsPartOf i) xs → Joins i s e xs (over i.request xs)
chain-joins i s e [] c all = (c, refl)
chain-joins i s e (a ∷ more) c all = (
  (span_at a).end,
  over i.request more,
  c.1,
  subst (λ z. a.item ≡ record i { request = cut_to z (span_at a).end i.request }) c.0 all.0.same,
  chain-joins i (span_at a).end e more c.2 all.1,
  refl,
)

-- ---- bodies joined one after another

abbrev HasRows : Accepted → Type 0
HasRows a = (rows : List Row) × (a.reply.body ≡ Rows rows)

abbrev HasKeys : Accepted → Type 0
HasKeys a = (keys : List (List ℕ)) × (a.reply.body ≡ Gone keys)

rows-up : (xs : List Accepted) → Each HasRows xs → Rows (all_rows (map came_of xs)) ≡ joined_over body_from (join_bodies false) (Rows []) xs
rows-up [] all = refl
rows-up (a ∷ more) all =
    subst (λ b. Rows (rows_in b ++ all_rows (map came_of more)) ≡ join_bodies false b (Rows (all_rows (map came_of more)))) (sym all.0.1) refl
    ∙ ap (join_bodies false a.reply.body) (rows-up more all.1)

keys-up : (xs : List Accepted) → Each HasKeys xs → Gone (all_keys (map came_of xs)) ≡ joined_over body_from (join_bodies false) (Gone []) xs
keys-up [] all = refl
keys-up (a ∷ more) all =
    subst (λ b. Gone (keys_in b ++ all_keys (map came_of more)) ≡ join_bodies false b (Gone (all_keys (map came_of more)))) (sym all.0.1) refl
    ∙ ap (join_bodies false a.reply.body) (keys-up more all.1)

rows-last : (ys : List Arrival) (a : Arrival) → all_rows (ys ++ a ∷ []) ≡ all_rows ys ++ rows_in a.reply.body
rows-last [] a = append-nil (rows_in a.reply.body)
rows-last (y ∷ ys) a = ap (λ zs. rows_in y.reply.body ++ zs) (rows-last ys a) ∙ sym (append_assoc (rows_in y.reply.body) (all_rows ys) (rows_in a.reply.body))

rows-down : (xs : List Accepted) → Each HasRows xs → Rows (all_rows (reverse (map came_of xs))) ≡ joined_over body_from (join_bodies true) (Rows []) xs
rows-down [] all = refl
rows-down (a ∷ more) all =
    ap (λ ys. Rows (all_rows ys)) (last_first (came_of a) (map came_of more))
    ∙ ap Rows (rows-last (reverse (map came_of more)) (came_of a))
    ∙ subst (λ b. Rows (all_rows (reverse (map came_of more)) ++ rows_in b) ≡ join_bodies true b (Rows (all_rows (reverse (map came_of more))))) (sym all.0.1) refl
    ∙ ap (join_bodies true a.reply.body) (rows-down more all.1)

-- a body to which nothing is joined
abbrev StaysAlone : Bool → Accepted → Type 0
StaysAlone d a = (b : Body) → join_bodies d a.reply.body b ≡ a.reply.body

first-alone : (none : Body) (d : Bool) (xs : List Accepted) → Each (StaysAlone d) xs → given none (body_at (map came_of xs)) ≡ joined_over body_from (join_bodies d) none xs
first-alone none d [] all = refl
first-alone none d (a ∷ more) all = sym (all.0 (joined_over body_from (join_bodies d) none more))

abbrev HasBody : Request → Accepted → Type 0
HasBody r a = IsBody r a.reply.body

alone-by : (r : Request) (d : Bool) (xs : List Accepted) → ((bits : Bits) (b : Body) → join_bodies d (body_of r bits) b ≡ body_of r bits) → Each (HasBody r) xs → Each (StaysAlone d) xs
alone-by r d xs alone all =
    each-so (HasBody r) (StaysAlone d) xs
    (λ a h b. subst (λ z. join_bodies d z b ≡ z) (sym h.is) (alone h.bits b)) all

-- the gatherer's body is that of the bodies joined
joined-over : (r : Request) (xs : List Accepted) → Each (HasBody r) xs → joined (empty_body r) (in_direction (goes_down r) (map came_of xs)) ≡ over r xs
joined-over (Get a) xs all = first-alone (empty_body (Get a)) false xs (alone-by (Get a) false xs (λ bits b. refl) all)
joined-over (Scan a) xs all = rows-up xs (each-so (HasBody (Scan a)) HasRows xs (λ x h. (_, h.is)) all)
joined-over (ReverseScan a) xs all = rows-down xs (each-so (HasBody (ReverseScan a)) HasRows xs (λ x h. (_, h.is)) all)
joined-over (Put a) xs all = first-alone (empty_body (Put a)) false xs (alone-by (Put a) false xs (λ bits b. refl) all)
joined-over (ConditionalPut a) xs all = first-alone (empty_body (ConditionalPut a)) false xs (alone-by (ConditionalPut a) false xs (λ bits b. refl) all)
joined-over (InitPut a) xs all = first-alone (empty_body (InitPut a)) false xs (alone-by (InitPut a) false xs (λ bits b. refl) all)
joined-over (Increment a) xs all = first-alone (empty_body (Increment a)) false xs (alone-by (Increment a) false xs (λ bits b. refl) all)
joined-over (Delete a) xs all = first-alone (empty_body (Delete a)) false xs (alone-by (Delete a) false xs (λ bits b. refl) all)
joined-over (DeleteRange a) xs all = keys-up xs (each-so (HasBody (DeleteRange a)) HasKeys xs (λ x h. (_, h.is)) all)
joined-over (EndTxn a) xs all = first-alone (empty_body (EndTxn a)) false xs (alone-by (EndTxn a) false xs (λ bits b. refl) all)
joined-over (QueryIntent a) xs all = first-alone (empty_body (QueryIntent a)) false xs (alone-by (QueryIntent a) false xs (λ bits b. refl) all)
joined-over (ResolveIntent a) xs all = first-alone (empty_body (ResolveIntent a)) false xs (alone-by (ResolveIntent a) false xs (λ bits b. refl) all)
joined-over (ResolveIntentRange a) xs all = first-alone (empty_body (ResolveIntentRange a)) false xs (alone-by (ResolveIntentRange a) false xs (λ bits b. refl) all)
joined-over (AdminSplit a) xs all = first-alone (empty_body (AdminSplit a)) false xs (alone-by (AdminSplit a) false xs (λ bits b. refl) all)
joined-over (AdminTransferLease a) xs all = first-alone (empty_body (AdminTransferLease a)) false xs (alone-by (AdminTransferLease a) false xs (λ bits b. refl) all)

-- ---- no resume span

abbrev HasNoResume : Arrival → Type 0
HasNoResume a = a.reply.resume ≡ None

each-turned : {X : Type 0} (P : X → Type 0) (xs : List X) → Each P xs → Each P (reverse xs)
each-turned P [] all = tt
each-turned P (x ∷ xs) all = subst (Each P) (sym (last_first x xs)) (each-append P (reverse xs) (x ∷ []) (each-turned P xs all.1) (all.0, tt))

none-resumes : (xs : List Arrival) → Each HasNoResume xs → resume_at xs ≡ None
none-resumes [] all = refl
none-resumes (a ∷ more) all = ap (λ r. option_or r (resume_at more)) all.0 ∙ none-resumes more all.1

each-came : (i : Item) (xs : List Accepted) → Each (IsPartOf i) xs → Each HasNoResume (map came_of xs)
each-came i [] all = tt
each-came i (a ∷ more) all = (all.0.whole, each-came i more all.1)

turned-none : (down : Bool) (xs : List Arrival) → Each HasNoResume xs → resume_at (in_direction down xs) ≡ None
turned-none true xs all = none-resumes (reverse xs) (each-turned HasNoResume xs all)
turned-none false xs all = none-resumes xs all

-- ---- a part

-- it is a part of one of these items, and its reply is of its kind and whole
pub record AnswersOne (items : List Item) (a : Accepted) : Type 0 where
  pub item : Item
  pub there : Items.IsOneOf item items
  pub cut : IsCut item a.item
  pub body : IsBody a.item.request a.reply.body
  pub whole : a.reply.resume ≡ None

-- where positions rise, there is one item at each
one-place : (items : List Item) → PositionsRise items → (i j : Item) → Items.IsOneOf i items → Items.IsOneOf j items → i.pos ≡ j.pos → i ≡ j
one-place [] rise i j hi hj same = absurd hi
one-place (x ∷ xs) rise i j (inl hi) (inl hj) same = hi ∙ sym hj
one-place (x ∷ xs) rise i j (inl hi) (inr hj) same =
    let low : x.pos < j.pos = after-in x.pos xs rise.0 j hj in
    let here : i.pos ≡ x.pos = ap (λ y. y.pos) hi in
    absurd (omega (arith, same, low, here))
one-place (x ∷ xs) rise i j (inr hi) (inl hj) same =
    let low : x.pos < i.pos = after-in x.pos xs rise.0 i hi in
    let here : j.pos ≡ x.pos = ap (λ y. y.pos) hj in
    absurd (omega (arith, same, low, here))
one-place (x ∷ xs) rise i j (inr hi) (inr hj) same = one-place xs rise.1 i j hi hj same

pub body-cut : (s e : List ℕ) (r : Request) (bits : Bits) → body_of (cut_to s e r) bits ≡ body_of r bits
body-cut s e r bits = ((laws_of r).3 s e).1 bits

part-of : (items : List Item) → PositionsRise items → (i : Item) → Items.IsOneOf i items → (a : Accepted) → AnswersOne items a → (a.item.pos == i.pos) ≡ true → IsPartOf i a
part-of items rise i there a h here =
    let at : a.item.pos ≡ i.pos = eqb-true _ _ here in
    let same : h.item ≡ i = one-place items rise h.item i h.there there (sym (ap (λ z. z.pos) h.cut.same) ∙ at) in
    let cut : a.item ≡ record i { request = cut_to (span_at a).start (span_at a).end i.request } =
    subst (λ z. a.item ≡ record z { request = cut_to (span_at a).start (span_at a).end z.request }) same h.cut.same in
    record {
      same = cut;
      body = record { bits = h.body.bits; is = h.body.is ∙ ap (λ z. body_of z.request h.body.bits) cut ∙ body-cut (span_at a).start (span_at a).end i.request h.body.bits };
      whole = h.whole;
    }

sorted-got : (n : ℕ) (got : List Accepted) → in_order start_of (filter (λ a. pos_of a == n) (map came_of got)) ≡ map came_of (by_start (at_position n got))
sorted-got n got = ap (in_order start_of) (map-filter came_of (λ a. pos_of a == n) got) ∙ map-order came_of start_of (at_position n got)

abbrev pub item_from : Accepted → Item
item_from a = a.item

-- the accepted items at a position, in order, are a chain where the part is covered by them
got-chain :
    (items : List Item) (blocks : List (List Item)) (got : List Accepted) → PositionsRise items → Covered items blocks → map item_from got ≡ all_items blocks → AllSome item_span (all_items blocks)
    → (i : Item) → Items.IsOneOf i items → key_le (span_of i.request).start (span_of i.request).end ≡ true
    → Chain span_at (span_of i.request).start (span_of i.request).end (by_start (at_position i.pos got))
got-chain items blocks got rise cov same some i there le =
    let chain = covered-chain items blocks rise cov some i there le in
    let sorted : in_order (λ x. (item_span x).start) (filter (Items.is_at i.pos) (all_items blocks)) ≡ map item_from (by_start (at_position i.pos got)) =
    ap (λ z. in_order (λ x. (item_span x).start) (filter (Items.is_at i.pos) z)) (sym same)
    ∙ ap (in_order (λ x. (item_span x).start)) (map-filter item_from (Items.is_at i.pos) got)
    ∙ map-order item_from (λ x. (item_span x).start) (at_position i.pos got) in
    map-chain item_span item_from (span_of i.request).start (span_of i.request).end (by_start (at_position i.pos got))
    (subst (Chain item_span (span_of i.request).start (span_of i.request).end) sorted chain)

-- each item of the part has a span that isn't turned around
abbrev pub HasSpan : Item → Type 0
HasSpan i = key_le (span_of i.request).start (span_of i.request).end ≡ true

pub one-gathered :
    (items : List Item) (blocks : List (List Item)) (got : List Accepted) → PositionsRise items → Covered items blocks → map item_from got ≡ all_items blocks → AllSome item_span (all_items blocks)
    → Each (AnswersOne items) got → (i : Item) → Items.IsOneOf i items → HasSpan i → IsGathered got i (reply_of (map came_of got) (wanted i))
one-gathered items blocks got rise cov same some answers i there le =
    let parts : Each (IsPartOf i) (at_position i.pos got) = each-passed (AnswersOne items) (IsPartOf i) (λ a. a.item.pos == i.pos) got (λ a h here. part-of items rise i there a h here) answers in
    let sorted : Each (IsPartOf i) (by_start (at_position i.pos got)) = each-order (IsPartOf i) begins_at (at_position i.pos got) parts in
    let xs = by_start (at_position i.pos got) in
    let came : arrived (wanted i) (map came_of got) ≡ in_direction (goes_down i.request) (map came_of xs) = ap (in_direction (goes_down i.request)) (sorted-got i.pos got) in
    let body : joined (empty_body i.request) (arrived (wanted i) (map came_of got)) ≡ over i.request xs =
    ap (joined (empty_body i.request)) came ∙ joined-over i.request xs (each-so (IsPartOf i) (HasBody i.request) xs (λ a h. h.body) sorted) in
    record {
      whole = ap resume_at came ∙ turned-none (goes_down i.request) (map came_of xs) (each-came i xs sorted);
      joins =
          subst (Joins i (span_of i.request).start (span_of i.request).end xs) (sym body)
          (chain-joins i (span_of i.request).start (span_of i.request).end xs (got-chain items blocks got rise cov same some i there le) sorted);
    }

-- the replies of a part that is covered by what was accepted are gathered
pub part-gathered :
    (items : List Item) (blocks : List (List Item)) (got : List Accepted) → PositionsRise items → Each HasSpan items → Covered items blocks → map item_from got ≡ all_items blocks → AllSome item_span (all_items blocks)
    → Each (AnswersOne items) got → Gathered got items (gathered (map wanted items) (map came_of got))
part-gathered items blocks got rise spans cov same some answers = go items spans (λ i h. h)
  where
    go : (more : List Item) → Each HasSpan more → ((i : Item) → Items.IsOneOf i more → Items.IsOneOf i items) → Gathered got more (gathered (map wanted more) (map came_of got))
    go [] all there = tt
    go (i ∷ is) all there = (one-gathered items blocks got rise cov same some answers i (there i (inl refl)) all.0, go is all.1 (λ j h. there j (inr h)))
