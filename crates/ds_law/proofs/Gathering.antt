-- Pieces of one request after another: what is gathered of them.
use Rattle.std.proofs.Common.{◌≡◌, ℕ, ◌<◌, Bool, true, false, cond, List, [], ◌∷◌, ◌++◌, Option, Some, None, refl, sym, ap, ◌∙◌, subst, append_assoc, eq-eqb, ne_eqb, arith}
use Rattle.ds_base.proofs.SmallFacts.{append_nil}
use Rattle.ds_base.specs.Order.{key_lt}
use Rattle.ds_base.proofs.OrderedFacts.{not_lt_of_le, le_of_lt}
use Rattle.ds_kind.specs.Reach.{Reach, At, Over}
use Rattle.ds_kind.specs.Request.{cut_to, reach_of, span_of}
use Rattle.ds_kind.specs.declared.batch.Item.{Item}
use Rattle.ds_kind.specs.declared.reply.Body.{Body}
use Rattle.ds_kind.specs.declared.reply.Reply.{Reply}
use Rattle.ds_kind.specs.declared.reply.Row.{Row}
use Rattle.ds_kind.specs.declared.request.Request.{Request}
use Rattle.ds_kind.specs.declared.request.Request.TheVariants.{Get, Scan, ReverseScan, Put, ConditionalPut, InitPut, Increment, Delete, DeleteRange, EndTxn, QueryIntent, ResolveIntent, ResolveIntentRange, AdminSplit, AdminTransferLease}
use Rattle.ds_kind.specs.Bodies.{goes_down, join_bodies}
use Rattle.ds_cell.specs.Replies.{Bits, body_of}
use Rattle.ds_rule.specs.Gathered.{begins_at, put_by_start, by_start, is_at, at_position, IsBody, Joins, IsGathered, Gathered}
use Rattle.ds_cell.specs.BodyProofs.{bodies_join}
use Rattle.ds_rule.specs.Journal.{Accepted}
use Rattle.ds_rule.specs.Pieces.{Each}
use Rattle.ds_rule.proofs.Routes.{le_itself}

-- joining is the same whichever two are joined first

rows-assoc : (down : Bool) (xs ys : List Row) (c : Body) → join_bodies down (Body.Rows (cond down (ys ++ xs) (xs ++ ys))) c ≡ join_bodies down (Body.Rows xs) (join_bodies down (Body.Rows ys) c)
rows-assoc true xs ys (Body.Rows zs) = ap Body.Rows (sym (append_assoc zs ys xs))
rows-assoc false xs ys (Body.Rows zs) = ap Body.Rows (append_assoc xs ys zs)
rows-assoc true xs ys (Body.Got v) = refl
rows-assoc false xs ys (Body.Got v) = refl
rows-assoc true xs ys Body.Unit = refl
rows-assoc false xs ys Body.Unit = refl
rows-assoc true xs ys (Body.Number n) = refl
rows-assoc false xs ys (Body.Number n) = refl
rows-assoc true xs ys (Body.Gone ks) = refl
rows-assoc false xs ys (Body.Gone ks) = refl
rows-assoc true xs ys (Body.Ended t) = refl
rows-assoc false xs ys (Body.Ended t) = refl
rows-assoc true xs ys (Body.Found t) = refl
rows-assoc false xs ys (Body.Found t) = refl

keys-assoc : (down : Bool) (xs ys : List (List ℕ)) (c : Body) → join_bodies down (Body.Gone (xs ++ ys)) c ≡ join_bodies down (Body.Gone xs) (join_bodies down (Body.Gone ys) c)
keys-assoc down xs ys (Body.Gone zs) = ap Body.Gone (append_assoc xs ys zs)
keys-assoc down xs ys (Body.Rows zs) = refl
keys-assoc down xs ys (Body.Got v) = refl
keys-assoc down xs ys Body.Unit = refl
keys-assoc down xs ys (Body.Number n) = refl
keys-assoc down xs ys (Body.Ended t) = refl
keys-assoc down xs ys (Body.Found t) = refl

join-assoc : (r : Request) (xs ys : Bits) (c : Body) → join_bodies (goes_down r) (join_bodies (goes_down r) (body_of r xs) (body_of r ys)) c ≡ join_bodies (goes_down r) (body_of r xs) (join_bodies (goes_down r) (body_of r ys) c)
join-assoc (Get a) xs ys c = refl
join-assoc (Scan a) xs ys c = rows-assoc false _ _ c
join-assoc (ReverseScan a) xs ys c = rows-assoc true _ _ c
join-assoc (Put a) xs ys c = refl
join-assoc (ConditionalPut a) xs ys c = refl
join-assoc (InitPut a) xs ys c = refl
join-assoc (Increment a) xs ys c = refl
join-assoc (Delete a) xs ys c = refl
join-assoc (DeleteRange a) xs ys c = keys-assoc false _ _ c
join-assoc (EndTxn a) xs ys c = refl
join-assoc (QueryIntent a) xs ys c = refl
join-assoc (ResolveIntent a) xs ys c = refl
join-assoc (ResolveIntentRange a) xs ys c = refl
join-assoc (AdminSplit a) xs ys c = refl
join-assoc (AdminTransferLease a) xs ys c = refl

join-is : (r : Request) (xs ys : Bits) → IsBody r (join_bodies (goes_down r) (body_of r xs) (body_of r ys))
join-is (Get a) xs ys = record { bits = xs; is = refl }
join-is (Scan a) xs ys = record { bits = xs ++ ys; is = sym (bodies_join (Scan a) xs ys refl) }
join-is (ReverseScan a) xs ys = record { bits = xs ++ ys; is = sym (bodies_join (ReverseScan a) xs ys refl) }
join-is (Put a) xs ys = record { bits = xs; is = refl }
join-is (ConditionalPut a) xs ys = record { bits = xs; is = refl }
join-is (InitPut a) xs ys = record { bits = xs; is = refl }
join-is (Increment a) xs ys = record { bits = xs; is = refl }
join-is (Delete a) xs ys = record { bits = xs; is = refl }
join-is (DeleteRange a) xs ys = record { bits = xs ++ ys; is = sym (bodies_join (DeleteRange a) xs ys refl) }
join-is (EndTxn a) xs ys = record { bits = xs; is = refl }
join-is (QueryIntent a) xs ys = record { bits = xs; is = refl }
join-is (ResolveIntent a) xs ys = record { bits = xs; is = refl }
join-is (ResolveIntentRange a) xs ys = record { bits = xs; is = refl }
join-is (AdminSplit a) xs ys = record { bits = xs; is = refl }
join-is (AdminTransferLease a) xs ys = record { bits = xs; is = refl }

pub join-nothing : (r : Request) (xs : Bits) → join_bodies (goes_down r) (body_of r xs) (body_of r []) ≡ body_of r xs
join-nothing (Get a) xs = refl
join-nothing (Scan a) xs = ap Body.Rows (append_nil _)
join-nothing (ReverseScan a) xs = refl
join-nothing (Put a) xs = refl
join-nothing (ConditionalPut a) xs = refl
join-nothing (InitPut a) xs = refl
join-nothing (Increment a) xs = refl
join-nothing (Delete a) xs = refl
join-nothing (DeleteRange a) xs = ap Body.Gone (append_nil _)
join-nothing (EndTxn a) xs = refl
join-nothing (QueryIntent a) xs = refl
join-nothing (ResolveIntent a) xs = refl
join-nothing (ResolveIntentRange a) xs = refl
join-nothing (AdminSplit a) xs = refl
join-nothing (AdminTransferLease a) xs = refl

-- pieces of one request so far

-- the body so far, with what is still to come
abbrev pub join_with : Request → Option Body → Body → Body
join_with r None b = b
join_with r (Some a) b = join_bodies (goes_down r) a b

abbrev pub IsBodySoFar : Request → Option Body → Type 0
IsBodySoFar r None = Unit {0}
IsBodySoFar r (Some a) = IsBody r a

-- the pieces from s up to m, whose joined body is this: with whatever covers the rest they cover the whole
pub record Front (i : Item) (s m : List ℕ) (got : List Accepted) (body : Option Body) : Type 0 where
  pub goes : (e : List ℕ) (more : List Accepted) (rest : Body) → Joins i m e more rest → Joins i s e (got ++ more) (join_with i.request body rest)
  pub kind : IsBodySoFar i.request body

pub front-none : (i : Item) (s : List ℕ) → Front i s s [] None
front-none i s = record { goes = λ e more rest j. j; kind = tt }

assoc-with : (r : Request) (o : Option Body) (b c : Body) → IsBodySoFar r o → IsBody r b → join_bodies (goes_down r) (join_with r o b) c ≡ join_with r o (join_bodies (goes_down r) b c)
assoc-with r None b c k l = refl
assoc-with r (Some a) b c k l =
    ap (λ x. join_bodies (goes_down r) (join_bodies (goes_down r) x b) c) k.is
    ∙ ap (λ y. join_bodies (goes_down r) (join_bodies (goes_down r) (body_of r k.bits) y) c) l.is
    ∙ join-assoc r k.bits l.bits c
    ∙ ap (λ x. join_bodies (goes_down r) x (join_bodies (goes_down r) (body_of r l.bits) c)) (sym k.is)
    ∙ ap (λ y. join_bodies (goes_down r) a (join_bodies (goes_down r) y c)) (sym l.is)

kind-with : (r : Request) (o : Option Body) (b : Body) → IsBodySoFar r o → IsBody r b → IsBody r (join_with r o b)
kind-with r None b k l = l
kind-with r (Some a) b k l =
    subst (λ x. IsBody r (join_bodies (goes_down r) x b)) (sym k.is)
    (subst (λ y. IsBody r (join_bodies (goes_down r) (body_of r k.bits) y)) (sym l.is) (join-is r k.bits l.bits))

-- one more piece
pub front-more : (i : Item) (s m n : List ℕ) (got : List Accepted) (body : Option Body) (x : Accepted) → Front i s m got body → key_lt m n ≡ true → x.item ≡ record i { request = cut_to m n i.request } → IsBody i.request x.reply.body → Front i s n (got ++ x ∷ []) (Some (join_with i.request body x.reply.body))
front-more i s m n got body x f low is kind = record {
  goes = λ e more rest j.
      subst (λ xs. Joins i s e xs (join_bodies (goes_down i.request) (join_with i.request body x.reply.body) rest)) (sym (append_assoc got (x ∷ []) more))
      (subst (Joins i s e (got ++ x ∷ more)) (sym (assoc-with i.request body x.reply.body rest f.kind kind))
      (f.goes e (x ∷ more) (join_bodies (goes_down i.request) x.reply.body rest) (n, rest, low, is, j, refl)));
  kind = kind-with i.request body x.reply.body f.kind kind;
}

-- and the whole
pub front-done : (i : Item) (s e : List ℕ) (got : List Accepted) (body : Body) → Front i s e got (Some body) → Joins i s e got body
front-done i s e got body f =
    let nothing : join_bodies (goes_down i.request) body (body_of i.request []) ≡ body =
    ap (λ x. join_bodies (goes_down i.request) x (body_of i.request [])) f.kind.is ∙ join-nothing i.request f.kind.bits ∙ sym f.kind.is in
    subst (Joins i s e got) nothing (subst (λ xs. Joins i s e xs (join_bodies (goes_down i.request) body (body_of i.request []))) (append_nil got) (f.goes e [] (body_of i.request []) (refl, refl)))

-- where the pieces stand

abbrev pub IsAtPosition : ℕ → Accepted → Type 0
IsAtPosition n a = a.item.pos ≡ n

pub joins-at : (i : Item) (s e : List ℕ) (got : List Accepted) (body : Body) → Joins i s e got body → Each (IsAtPosition i.pos) got
joins-at i s e [] body j = tt
joins-at i s e (a ∷ more) body j = (ap (λ z. z.pos) j.3, joins-at i j.0 e more j.1 j.4)

-- a cut over a span begins there; a point stays where it is
abbrev begin_of : Reach → List ℕ → List ℕ
begin_of (At k) s = k
begin_of (Over a b) s = s

cut-begins : (s e : List ℕ) (r : Request) → (span_of (cut_to s e r)).start ≡ begin_of (reach_of r) s
cut-begins s e (Get a) = refl
cut-begins s e (Scan a) = refl
cut-begins s e (ReverseScan a) = refl
cut-begins s e (Put a) = refl
cut-begins s e (ConditionalPut a) = refl
cut-begins s e (InitPut a) = refl
cut-begins s e (Increment a) = refl
cut-begins s e (Delete a) = refl
cut-begins s e (DeleteRange a) = refl
cut-begins s e (EndTxn a) = refl
cut-begins s e (QueryIntent a) = refl
cut-begins s e (ResolveIntent a) = refl
cut-begins s e (ResolveIntentRange a) = refl
cut-begins s e (AdminSplit a) = refl
cut-begins s e (AdminTransferLease a) = refl

begins-later : (reach : Reach) (s m : List ℕ) → key_lt s m ≡ true → key_lt (begin_of reach m) (begin_of reach s) ≡ false
begins-later (At k) s m low = not_lt_of_le k k (le_itself k)
begins-later (Over a b) s m low = not_lt_of_le s m (le_of_lt s m low)

put-first : (i : Item) (s m e : List ℕ) (a : Accepted) (more : List Accepted) (rest : Body) → a.item ≡ record i { request = cut_to s m i.request } → key_lt s m ≡ true → Joins i m e more rest → put_by_start a more ≡ a ∷ more
put-first i s m e a [] rest is low j = refl
put-first i s m e a (b ∷ more) rest is low j =
    ap (λ t. cond t (b ∷ put_by_start a more) (a ∷ b ∷ more))
    (ap (λ k. key_lt k (begins_at a)) (ap (λ z. (span_of z.request).start) j.3 ∙ cut-begins m j.0 i.request)
    ∙ ap (key_lt (begin_of (reach_of i.request) m)) (ap (λ z. (span_of z.request).start) is ∙ cut-begins s m i.request)
    ∙ begins-later (reach_of i.request) s m low)

pub joins-sorted : (i : Item) (s e : List ℕ) (got : List Accepted) (body : Body) → Joins i s e got body → by_start got ≡ got
joins-sorted i s e [] body j = refl
joins-sorted i s e (a ∷ more) body j = ap (put_by_start a) (joins-sorted i j.0 e more j.1 j.4) ∙ put-first i s j.0 e a more j.1 j.3 j.2 j.4

-- requests one after another

pub at-append : (n : ℕ) (xs ys : List Accepted) → at_position n (xs ++ ys) ≡ at_position n xs ++ at_position n ys
at-append n [] ys = refl
at-append n (x ∷ xs) ys =
    elim (is_at n x) as (λ t. cond t (x ∷ at_position n (xs ++ ys)) (at_position n (xs ++ ys)) ≡ cond t (x ∷ at_position n xs) (at_position n xs) ++ at_position n ys) [
      | true ↦ ap (λ zs. x ∷ zs) (at-append n xs ys)
      | false ↦ at-append n xs ys
    ]

at-all : (n : ℕ) (xs : List Accepted) → Each (IsAtPosition n) xs → at_position n xs ≡ xs
at-all n [] all = refl
at-all n (x ∷ xs) all = ap (λ t. cond t (x ∷ at_position n xs) (at_position n xs)) (eq-eqb x.item.pos n all.0) ∙ ap (λ zs. x ∷ zs) (at-all n xs all.1)

abbrev pub IsBelowPosition : ℕ → Accepted → Type 0
IsBelowPosition n a = a.item.pos < n

pub at-none : (n : ℕ) (xs : List Accepted) → Each (IsBelowPosition n) xs → at_position n xs ≡ []
at-none n [] all = refl
at-none n (x ∷ xs) all =
    ap (λ t. cond t (x ∷ at_position n xs) (at_position n xs)) (ne_eqb x.item.pos n (λ e. let low : x.item.pos < n = all.0 in omega (arith, e, low)))
    ∙ at-none n xs all.1

at-others : (m n : ℕ) (xs : List Accepted) → m < n → Each (IsAtPosition n) xs → at_position m xs ≡ []
at-others m n [] low all = refl
at-others m n (x ∷ xs) low all =
    ap (λ t. cond t (x ∷ at_position m xs) (at_position m xs)) (ne_eqb x.item.pos m (λ e. let is : x.item.pos ≡ n = all.0 in omega (arith, e, is, low)))
    ∙ at-others m n xs low all.1

-- a request whose pieces come last
pub gathers-last : (i : Item) (got more : List Accepted) (reply : Reply) → Each (IsBelowPosition i.pos) got → reply.resume ≡ None → Joins i (span_of i.request).start (span_of i.request).end more reply.body → IsGathered (got ++ more) i reply
gathers-last i got more reply below whole j = record {
  whole = whole;
  joins = subst (λ xs. Joins i (span_of i.request).start (span_of i.request).end xs reply.body)
      (sym (ap by_start (at-append i.pos got more ∙ ap (λ xs. xs ++ at_position i.pos more) (at-none i.pos got below) ∙ at-all i.pos more (joins-at i _ _ more reply.body j)) ∙ joins-sorted i _ _ more reply.body j)) j;
}

-- the requests before it are gathered as they were
pub gathered-on : (n : ℕ) (got more : List Accepted) (items : List Item) (rs : List Reply) → Each (λ i. i.pos < n) items → Each (IsAtPosition n) more → Gathered got items rs → Gathered (got ++ more) items rs
gathered-on n got more [] [] below at g = g
gathered-on n got more [] (r ∷ rs) below at g = g
gathered-on n got more (i ∷ is) [] below at g = g
gathered-on n got more (i ∷ is) (r ∷ rs) below at g = (
  record {
    whole = g.0.whole;
    joins = subst (λ xs. Joins i (span_of i.request).start (span_of i.request).end (by_start xs) r.body)
        (sym (at-append i.pos got more ∙ ap (λ xs. at_position i.pos got ++ xs) (at-others i.pos n more below.0 at) ∙ append_nil (at_position i.pos got))) g.0.joins;
  },
  gathered-on n got more is rs below.1 at g.1,
)

pub gathered-last : (got : List Accepted) (items : List Item) (i : Item) (rs : List Reply) (r : Reply) → Gathered got items rs → IsGathered got i r → Gathered got (items ++ i ∷ []) (rs ++ r ∷ [])
gathered-last got [] i [] r g h = (h, tt)
gathered-last got [] i (q ∷ rs) r g h = absurd g
gathered-last got (j ∷ js) i [] r g h = absurd g
gathered-last got (j ∷ js) i (q ∷ rs) r g h = (g.0, gathered-last got js i rs r g.1 h)
