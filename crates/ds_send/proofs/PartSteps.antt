-- The steps of a part are steps of its batch.
use Rattle.std.proofs.Common.{◌≡◌, ℕ, ◌<◌, ◌||◌, ◌&&◌, Bool, true, false, cond, List, [], ◌∷◌, ◌++◌, map, find, Option, Some, None, refl, sym, ap, ◌∙◌, subst, inl, inr, arith, ◌==◌, eq-eqb, ne_eqb, length}
use Rattle.std.specs.List.{list_all, list_any}
use Rattle.std.specs.Option.{option_or}
use Rattle.std.proofs.lemmas.List.{map-append}
use Rattle.std.proofs.lemmas.List.Folds.{find-append}
use Rattle.ds_base.proofs.SmallFacts.{and_both, and_first, and_second, or_first, or_neither, or_second}
use Rattle.ds_base.proofs.TestFacts.{not_both}
use Rattle.ds_kind.specs.Asks.{flags_at, has_proper_span, is_end}
use Rattle.ds_kind.specs.Flags.{fit}
use Rattle.ds_kind.specs.Left.{left_after}
use Rattle.ds_kind.specs.Parts.{all_fit, all_items, requests_of}
use Rattle.ds_kind.specs.Request.{cut_to, span_of}
use Rattle.ds_kind.proofs.LeftFacts.{left-append}
use Rattle.ds_kind.proofs.RequestFacts.{proper_some}
use Rattle.ds_kind.specs.declared.batch.Item.{Item}
use Rattle.ds_kind.specs.declared.batch.Part.{Part}
use Rattle.ds_kind.specs.declared.batch.Piece.{Piece}
use Rattle.ds_kind.specs.declared.flags.Flags.{Flags}
use Rattle.ds_kind.specs.declared.request.Request.{Request}
use Rattle.ds_kind.specs.declared.request.Request.TheVariants.{Get, Scan, ReverseScan, Put, ConditionalPut, InitPut, Increment, Delete, DeleteRange, EndTxn, QueryIntent, ResolveIntent, ResolveIntentRange, AdminSplit, AdminTransferLease}
use Rattle.ds_cell.specs.Content.{AllAbove, Rises}
use Rattle.ds_cover.specs.Items.{item_pos, AllAfter, AreProper, PositionsRise}
use Rattle.ds_cover.specs.Items as Items
use Rattle.ds_cover.specs.Origins.{CutsOf}
use Rattle.ds_cover.specs.Origins as Origins
use Rattle.ds_cover.proofs.Covering.{after-in}
use Rattle.ds_cover.proofs.Tracing.{its-item}
use Rattle.ds_rule.specs.Asking.{Asking}
use Rattle.ds_rule.specs.Journal.{Accepted, Happening, Moved, Did, accepted_by}
use Rattle.ds_rule.specs.Pieces.{Each, IsCut, IsOneOf, PieceOf, dir_for, dir_of_first, dir_of_part, has_position, parts_apart, position_of, unless_lone}
use Rattle.ds_rule.specs.Sending.{AllOf, StepOf, left_of}
use Rattle.ds_rule.specs.declared.journal.JournalStep.{JournalStep}
use Rattle.ds_rule.specs.declared.journal.JournalStep.TheVariants.{Look, Send}
use Rattle.ds_flight.specs.Flights.{Flight, AllOfPart, PieceOfPart, StepOfPart}
use Rattle.ds_flight.specs.Left.{replies_by}

-- ---- cuts of items

flags-cut : (s e : List ℕ) (r : Request) → flags_at (cut_to s e r) ≡ flags_at r
flags-cut s e (Get a) = refl
flags-cut s e (Scan a) = refl
flags-cut s e (ReverseScan a) = refl
flags-cut s e (Put a) = refl
flags-cut s e (ConditionalPut a) = refl
flags-cut s e (InitPut a) = refl
flags-cut s e (Increment a) = refl
flags-cut s e (Delete a) = refl
flags-cut s e (DeleteRange a) = refl
flags-cut s e (EndTxn a) = refl
flags-cut s e (QueryIntent a) = refl
flags-cut s e (ResolveIntent a) = refl
flags-cut s e (ResolveIntentRange a) = refl
flags-cut s e (AdminSplit a) = refl
flags-cut s e (AdminTransferLease a) = refl

end-cut : (s e : List ℕ) (r : Request) → is_end (cut_to s e r) ≡ is_end r
end-cut s e (Get a) = refl
end-cut s e (Scan a) = refl
end-cut s e (ReverseScan a) = refl
end-cut s e (Put a) = refl
end-cut s e (ConditionalPut a) = refl
end-cut s e (InitPut a) = refl
end-cut s e (Increment a) = refl
end-cut s e (Delete a) = refl
end-cut s e (DeleteRange a) = refl
end-cut s e (EndTxn a) = refl
end-cut s e (QueryIntent a) = refl
end-cut s e (ResolveIntent a) = refl
end-cut s e (ResolveIntentRange a) = refl
end-cut s e (AdminSplit a) = refl
end-cut s e (AdminTransferLease a) = refl

cut-request : (i c : Item) → Origins.IsCut i c → c.request ≡ cut_to (span_of c.request).start (span_of c.request).end i.request
cut-request i c cut = ap (λ z. z.request) cut.same

cut-pos : (i c : Item) → Origins.IsCut i c → c.pos ≡ i.pos
cut-pos i c cut = ap (λ z. z.pos) cut.same

its-flags : (i c : Item) → Origins.IsCut i c → flags_at c.request ≡ flags_at i.request
its-flags i c cut = ap flags_at (cut-request i c cut) ∙ flags-cut (span_of c.request).start (span_of c.request).end i.request

its-end : (i c : Item) → Origins.IsCut i c → is_end c.request ≡ is_end i.request
its-end i c cut = ap is_end (cut-request i c cut) ∙ end-cut (span_of c.request).start (span_of c.request).end i.request

-- what all items pass, of flags and ends alone, their cuts pass
abbrev ByFlags : Type 0
ByFlags = Bool → Flags → Bool

abbrev passes : ByFlags → Request → Bool
passes g r = g (is_end r) (flags_at r)

its-pass : (g : ByFlags) (i c : Item) → Origins.IsCut i c → passes g c.request ≡ passes g i.request
its-pass g i c cut = ap (λ t. g t (flags_at c.request)) (its-end i c cut) ∙ ap (g (is_end i.request)) (its-flags i c cut)

cuts-pass : (g : ByFlags) (items cuts : List Item) → CutsOf items cuts → list_all (passes g) (requests_of items) ≡ true → list_all (passes g) (requests_of cuts) ≡ true
cuts-pass g items [] of all = refl
cuts-pass g [] (c ∷ cs) of all = absurd of
cuts-pass g (i ∷ is) (c ∷ cs) (inl cut) all =
    and_both (passes g c.request) (list_all (passes g) (requests_of cs))
    (its-pass g i c cut.0 ∙ and_first (passes g i.request) (list_all (passes g) (requests_of is)) all)
    (cuts-pass g is cs cut.1 (and_second (passes g i.request) (list_all (passes g) (requests_of is)) all))
cuts-pass g (i ∷ is) (c ∷ cs) (inr later) all = cuts-pass g is (c ∷ cs) later (and_second (passes g i.request) (list_all (passes g) (requests_of is)) all)

abbrev fits_with : Flags → ByFlags
fits_with f end g = end || fit f g

cuts-fit : (items cuts : List Item) → CutsOf items cuts → all_fit (requests_of items) ≡ true → all_fit (requests_of cuts) ≡ true
cuts-fit items [] of all = refl
cuts-fit [] (c ∷ cs) of all = absurd of
cuts-fit (i ∷ is) (c ∷ cs) (inl cut) all =
    let first = and_first (list_all (passes (fits_with (flags_at i.request))) (requests_of is)) (all_fit (requests_of is)) all in
    and_both (list_all (passes (fits_with (flags_at c.request))) (requests_of cs)) (all_fit (requests_of cs))
    (subst (λ f. list_all (passes (fits_with f)) (requests_of cs) ≡ true) (sym (its-flags i c cut.0)) (cuts-pass (fits_with (flags_at i.request)) is cs cut.1 first))
    (cuts-fit is cs cut.1 (and_second (list_all (passes (fits_with (flags_at i.request))) (requests_of is)) (all_fit (requests_of is)) all))
cuts-fit (i ∷ is) (c ∷ cs) (inr later) all = cuts-fit is (c ∷ cs) later (and_second (list_all (passes (fits_with (flags_at i.request))) (requests_of is)) (all_fit (requests_of is)) all)

cuts-endless : (items cuts : List Item) → CutsOf items cuts → list_any is_end (requests_of items) ≡ false → list_any is_end (requests_of cuts) ≡ false
cuts-endless items [] of none = refl
cuts-endless [] (c ∷ cs) of none = absurd of
cuts-endless (i ∷ is) (c ∷ cs) (inl cut) none =
    or_neither (is_end c.request) (list_any is_end (requests_of cs))
    (its-end i c cut.0 ∙ or_first (is_end i.request) (list_any is_end (requests_of is)) none)
    (cuts-endless is cs cut.1 (or_second (is_end i.request) (list_any is_end (requests_of is)) none))
cuts-endless (i ∷ is) (c ∷ cs) (inr later) none = cuts-endless is (c ∷ cs) later (or_second (is_end i.request) (list_any is_end (requests_of is)) none)

-- ---- positions

cuts-after : (n : ℕ) (items cuts : List Item) → CutsOf items cuts → AllAfter item_pos n items → AllAbove position_of n cuts
cuts-after n items [] of after = tt
cuts-after n [] (c ∷ cs) of after = absurd of
cuts-after n (i ∷ is) (c ∷ cs) (inl cut) after = (subst (λ m. n < m) (sym (cut-pos i c cut.0)) after.0, cuts-after n is cs cut.1 after.1)
cuts-after n (i ∷ is) (c ∷ cs) (inr later) after = cuts-after n is (c ∷ cs) later after.1

cuts-rise : (items cuts : List Item) → CutsOf items cuts → PositionsRise items → Rises position_of cuts
cuts-rise items [] of rise = tt
cuts-rise [] (c ∷ cs) of rise = absurd of
cuts-rise (i ∷ is) (c ∷ cs) (inl cut) rise = (subst (λ m. AllAbove position_of m cs) (sym (cut-pos i c cut.0)) (cuts-after i.pos is cs cut.1 rise.0), cuts-rise is cs cut.1 rise.1)
cuts-rise (i ∷ is) (c ∷ cs) (inr later) rise = cuts-rise is (c ∷ cs) later rise.1

-- ---- a part among those of its batch

-- the flight is of one of the batch's parts, which ends no transaction
pub record IsPartOf (q : Asking) (f : Flight) : Type 0 where
  pub head : f.head ≡ q.head
  pub before : List Part
  pub later : List Part
  pub parts : parts_apart q.items ≡ before ++ f.part ∷ later
  pub items : q.items ≡ all_items before ++ (f.part.items ++ all_items later)
  pub rise : PositionsRise q.items
  pub fit : all_fit (requests_of f.part.items) ≡ true
  pub endless : list_any is_end (requests_of f.part.items) ≡ false

of-left : (i : Item) (xs ys : List Item) → Items.IsOneOf i xs → Items.IsOneOf i (xs ++ ys)
of-left i [] ys h = absurd h
of-left i (x ∷ xs) ys (inl e) = inl e
of-left i (x ∷ xs) ys (inr h) = inr (of-left i xs ys h)

of-right : (i : Item) (xs ys : List Item) → Items.IsOneOf i ys → Items.IsOneOf i (xs ++ ys)
of-right i [] ys h = h
of-right i (x ∷ xs) ys h = inr (of-right i xs ys h)

is-one : (i : Item) (xs : List Item) → Items.IsOneOf i xs → IsOneOf i xs
is-one i [] h = h
is-one i (x ∷ xs) (inl e) = inl e
is-one i (x ∷ xs) (inr h) = inr (is-one i xs h)

pub rises-right : (xs ys : List Item) → PositionsRise (xs ++ ys) → PositionsRise ys
rises-right [] ys h = h
rises-right (x ∷ xs) ys h = rises-right xs ys h.1

pub rises-left : (xs ys : List Item) → PositionsRise (xs ++ ys) → PositionsRise xs
rises-left [] ys h = tt
rises-left (x ∷ xs) ys h = (after-left x.pos xs h.0, rises-left xs ys h.1)
  where
    after-left : (n : ℕ) (zs : List Item) → AllAfter item_pos n (zs ++ ys) → AllAfter item_pos n zs
    after-left n [] a = tt
    after-left n (z ∷ zs) a = (a.0, after-left n zs a.1)

-- an item is none of those before it
not-before : (xs ys : List Item) → PositionsRise (xs ++ ys) → (j : Item) → Items.IsOneOf j ys → list_any (λ i. i.pos == j.pos) xs ≡ false
not-before [] ys rise j h = refl
not-before (x ∷ xs) ys rise j h =
    let low : x.pos < j.pos = after-in x.pos (xs ++ ys) rise.0 j (of-right j xs ys h) in
    or_neither (x.pos == j.pos) (list_any (λ i. i.pos == j.pos) xs) (ne_eqb x.pos j.pos (λ e. omega (arith, low, e))) (not-before xs ys rise.1 j h)

any-left : (g : Item → Bool) (xs ys : List Item) → list_any g (xs ++ ys) ≡ false → list_any g xs ≡ false
any-left g [] ys h = refl
any-left g (x ∷ xs) ys h = or_neither (g x) (list_any g xs) (or_first (g x) (list_any g (xs ++ ys)) h) (any-left g xs ys (or_second (g x) (list_any g (xs ++ ys)) h))

any-right : (g : Item → Bool) (xs ys : List Item) → list_any g (xs ++ ys) ≡ false → list_any g ys ≡ false
any-right g [] ys h = h
any-right g (x ∷ xs) ys h = any-right g xs ys (or_second (g x) (list_any g (xs ++ ys)) h)

none-found : (n : ℕ) (ps : List Part) → list_any (λ i. i.pos == n) (all_items ps) ≡ false → find (has_position n) ps ≡ None
none-found n [] h = refl
none-found n (p ∷ ps) h =
    ap (λ t. cond t (Some p) (find (has_position n) ps)) (any-left (λ i. i.pos == n) p.items (all_items ps) h)
    ∙ none-found n ps (any-right (λ i. i.pos == n) p.items (all_items ps) h)

has-its : (i : Item) (xs : List Item) (n : ℕ) → Items.IsOneOf i xs → i.pos ≡ n → list_any (λ x. x.pos == n) xs ≡ true
has-its i [] n h at = absurd h
has-its i (x ∷ xs) n (inl e) at = ap (λ t. t || list_any (λ y. y.pos == n) xs) (eq-eqb x.pos n (ap (λ z. z.pos) (sym e) ∙ at))
has-its i (x ∷ xs) n (inr h) at =
    elim (x.pos == n) as (λ t. (t || list_any (λ y. y.pos == n) xs) ≡ true) [
      | true ↦ refl
      | false ↦ has-its i xs n h at
    ]

part-found : (q : Asking) (f : Flight) → (h : IsPartOf q f) → (i : Item) (n : ℕ) → Items.IsOneOf i f.part.items → i.pos ≡ n → find (has_position n) (parts_apart q.items) ≡ Some f.part
part-found q f h i n there at =
    let rise : PositionsRise (all_items h.before ++ (f.part.items ++ all_items h.later)) = subst PositionsRise h.items h.rise in
    let none : list_any (λ x. x.pos == n) (all_items h.before) ≡ false =
    subst (λ m. list_any (λ x. x.pos == m) (all_items h.before) ≡ false) at
    (not-before (all_items h.before) (f.part.items ++ all_items h.later) rise i (of-left i f.part.items (all_items h.later) there)) in
    ap (find (has_position n)) h.parts
    ∙ find-append (has_position n) h.before (f.part ∷ h.later)
    ∙ ap (λ o. option_or o (find (has_position n) (f.part ∷ h.later))) (none-found n h.before none)
    ∙ ap (λ t. cond t (Some f.part) (find (has_position n) h.later)) (has-its i f.part.items n there at)

dir-of-piece : (q : Asking) (f : Flight) → IsPartOf q f → (cuts : List Item) → 0 < length cuts → CutsOf f.part.items cuts → f.part.dir ≡ dir_for q.items cuts
dir-of-piece q f h [] some of = absurd (omega (arith, some))
dir-of-piece q f h (c ∷ cs) some of =
    let its = its-item f.part.items (c ∷ cs) of c (inl refl) in
    let endless : (is_end c.request && (length cs == 0)) ≡ false =
    ap (λ t. t && (length cs == 0)) (or_first (is_end c.request) (list_any is_end (requests_of cs)) (cuts-endless f.part.items (c ∷ cs) of h.endless)) in
    sym
    (ap (λ t. unless_lone t (dir_of_first q.items (c ∷ cs))) endless
    ∙ ap dir_of_part (part-found q f h its.0 c.pos its.1 (sym (cut-pos its.0 c its.2))))

-- ---- a piece of the part

proper-of : (cuts : List Item) → AreProper cuts → (c : Item) → Items.IsOneOf c cuts → has_proper_span c.request ≡ true
proper-of [] all c h = absurd h
proper-of (x ∷ xs) all c (inl e) = subst (λ z. has_proper_span z.request ≡ true) (sym e) (and_first (has_proper_span x.request) (list_all has_proper_span (requests_of xs)) all)
proper-of (x ∷ xs) all c (inr h) = proper-of xs (and_second (has_proper_span x.request) (list_all has_proper_span (requests_of xs)) all) c h

each-cut : (items part cuts more : List Item) → ((i : Item) → Items.IsOneOf i part → Items.IsOneOf i items) → ((c : Item) → Items.IsOneOf c more → Items.IsOneOf c cuts) → CutsOf part cuts → AreProper cuts → Each (IsCut items) more
each-cut items part cuts [] wide there of proper = tt
each-cut items part cuts (c ∷ cs) wide there of proper =
    let its = its-item part cuts of c (there c (inl refl)) in (
      record {
        whole = its.0;
        there = is-one its.0 items (wide its.0 its.1);
        position = cut-pos its.0 c its.2;
        number = ap (λ z. z.seq) its.2.same;
        request = cut-request its.0 c its.2;
        some = proper_some c.request (proper-of cuts proper c (there c (inl refl)));
        from = its.2.inside.0;
        to = its.2.inside.1;
      },
      each-cut items part cuts cs wide (λ x h. there x (inr h)) of proper,
    )

in-batch : (q : Asking) (f : Flight) → (h : IsPartOf q f) → (i : Item) → Items.IsOneOf i f.part.items → Items.IsOneOf i q.items
in-batch q f h i there = subst (Items.IsOneOf i) (sym h.items) (of-right i (all_items h.before) (f.part.items ++ all_items h.later) (of-left i f.part.items (all_items h.later) there))

pub part-rises : (q : Asking) (f : Flight) → IsPartOf q f → PositionsRise f.part.items
part-rises q f h = rises-left f.part.items (all_items h.later) (rises-right (all_items h.before) (f.part.items ++ all_items h.later) (subst PositionsRise h.items h.rise))

piece-of : (q : Asking) (f : Flight) (left : Option ℕ) (p : Piece) → IsPartOf q f → PieceOfPart f left p → PieceOf q left p
piece-of q f left p h of = record {
  head = subst (λ z. p.head ≡ record z { left = left }) h.head of.head;
  some = of.some;
  rising = cuts-rise f.part.items p.items of.of.cuts (part-rises q f h);
  cuts = each-cut q.items f.part.items p.items p.items (in-batch q f h) (λ c z. z) of.of.cuts of.of.proper;
  fit = cuts-fit f.part.items p.items of.of.cuts h.fit;
  ends = λ ends. not_both (list_any is_end (requests_of p.items)) ends (cuts-endless f.part.items p.items of.of.cuts h.endless);
  dir = of.dir ∙ dir-of-piece q f h p.items of.some of.of.cuts;
}

-- ---- all steps

step-of : (q : Asking) (f : Flight) (left : Option ℕ) (s : JournalStep) → IsPartOf q f → StepOfPart f left s → StepOf q left s
step-of q f left (Look k d l) h of = of.1
step-of q f left (Send n p a) h of = piece-of q f left p h of

left-more : (q : Asking) (got : List Accepted) (s : JournalStep) → left_after (left_of q got) (replies_by s) ≡ left_of q (got ++ accepted_by s)
left-more q got s =
    left-append q.head.left (map (λ (a : Accepted). a.reply) got) (replies_by s)
    ∙ ap (left_after q.head.left) (sym (map-append (λ (a : Accepted). a.reply) got (accepted_by s)))

-- what happened to one part is of the batch, where so much was accepted before
pub part-of-batch : (q : Asking) (f : Flight) (got : List Accepted) (left : Option ℕ) (hs : List Happening) → IsPartOf q f → left ≡ left_of q got → AllOfPart f left hs → AllOf q got hs
part-of-batch q f got left [] h same of = tt
part-of-batch q f got left (Moved e ∷ hs) h same of = part-of-batch q f got left hs h same of
part-of-batch q f got left (Did s ∷ hs) h same of = (
  subst (λ l. StepOf q l s) same (step-of q f left s h of.0),
  part-of-batch q f (got ++ accepted_by s) (left_after left (replies_by s)) hs h
      (ap (λ l. left_after l (replies_by s)) same ∙ left-more q got s) of.1,
)
