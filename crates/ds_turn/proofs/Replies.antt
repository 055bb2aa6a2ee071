-- The replies of a batch's cuts, and those of the batch asked at once.
use Rattle.std.proofs.Common.{◌≡◌, ℕ, ◌≤◌, ◌⊎◌, inl, inr, true, List, [], ◌∷◌, ◌++◌, Option, None, refl, sym, ap, ◌∙◌, subst, append_assoc}
use Rattle.ds_base.specs.Order.{key_lt, key_le, after}
use Rattle.ds_base.specs.Ordered.{Ascends}
use Rattle.ds_base.specs.declared.value.Value.{Value}
use Rattle.ds_base.proofs.KeyFacts.{le_itself}
use Rattle.ds_base.proofs.KeyOrder.{below-after, key_lt-irrefl}
use Rattle.ds_base.proofs.OrderedFacts.{le_of_lt, le_trans}
use Rattle.ds_base.proofs.TestFacts.{not_both}
use Rattle.ds_kind.specs.Bodies.{goes_down, join_bodies}
use Rattle.ds_kind.specs.Reach.{extent_of}
use Rattle.ds_kind.specs.Request.{cut_to}
use Rattle.ds_kind.specs.declared.batch.Head.{Head}
use Rattle.ds_kind.specs.declared.batch.Item.{Item}
use Rattle.ds_kind.specs.declared.reply.Body.{Body}
use Rattle.ds_kind.specs.declared.reply.Reply.{Reply}
use Rattle.ds_kind.specs.declared.request.Request.{Request}
use Rattle.ds_cell.specs.declared.entry.At.{At}
use Rattle.ds_cell.specs.declared.entry.Version.{Version}
use Rattle.ds_cell.specs.declared.verdict.Bit.{Bit}
use Rattle.ds_cell.specs.declared.verdict.Verdict.{Verdict}
use Rattle.ds_cell.specs.declared.verdict.Verdict.TheVariants.{Keep, Put, Refuse}
use Rattle.ds_cell.specs.Ask.{Cells, key_of, Gave, ask, ask_each, joined, content_at}
use Rattle.ds_cell.specs.BodyProofs.{bodies_join}
use Rattle.ds_cell.specs.Content.{Content}
use Rattle.ds_cell.specs.Deed.{IsBitOf}
use Rattle.ds_cell.specs.LawProofs.{join_all}
use Rattle.ds_cell.specs.Replies.{Bits, body_of}
use Rattle.ds_cell.specs.RepeatProofs.{kept}
use Rattle.ds_cell.specs.RequestProofs.{laws_of}
use Rattle.ds_cell.specs.Requests.{ask_request, deed_of}
use Rattle.ds_cell.specs.Store.{WriteAt, write_all, under_number}
use Rattle.ds_rule.specs.Asking.{Made, Gives, Fails, and_before, and_then, made_by, ask_all, at_of}
use Rattle.ds_rule.specs.Gathered.{Joins, by_start, at_position, Gathered}
use Rattle.ds_rule.specs.Journal.{Accepted}
use Rattle.ds_rule.specs.Pieces.{Each}
use Rattle.ds_rule.specs.Turn.{IsNoRefusal, speaks_of, verdict}
use Rattle.ds_turn.specs.Cuts.{ActsAs}
use Rattle.ds_turn.specs.Partway.{NumbersInOrder, Partway}
use Rattle.ds_turn.specs.Progress.{IsAgain}
use Rattle.ds_turn.specs.Replies.{AllInTurn, Answers, AnswersInTurn, CutAnswers, GatheredAsks, InTurn, JoinsAnswer}
use Rattle.ds_turn.proofs.Again.{partway_acts, partway_again}
use Rattle.ds_turn.proofs.Parts.{part-verdict, cut_deed}
use Rattle.ds_turn.proofs.Keys.{IsDone, gives-cells, made-parts, request-done, request-given}
use Rattle.ds_turn.proofs.Progress.{numbers-front, one-more, placed}
use Rattle.ds_turn.proofs.Reaches.{ActsAt, ActsOver, acts_where, between_nothing, ask_over, same_body}

abbrev Puts : Type 0
Puts = List (List ℕ × Option Value)

-- one key

same-bit : (v u : Verdict) (b : Bit) → IsBitOf v b → IsBitOf u b → kept v ≡ kept u
same-bit (Keep a) (Keep c) b p q = ap Keep (sym p ∙ q)
same-bit (Keep a) (Put w c) b p q = ap Keep (sym p ∙ q)
same-bit (Keep a) (Refuse f) b p q = absurd q
same-bit (Put w a) (Keep c) b p q = ap Keep (sym p ∙ q)
same-bit (Put w a) (Put u c) b p q = ap Keep (sym p ∙ q)
same-bit (Put w a) (Refuse f) b p q = absurd q
same-bit (Refuse f) u b p q = absurd p

again-answers : (s : ℕ) (a : At) (acted rest : List Item) (vs : List Version) (c d : Content) (j : Item) → Partway s a acted vs c d → a.stamp.0 ≤ s → IsAgain acted j → InTurn a (acted ++ rest) j c d
again-answers s a acted rest vs c d j m low again =
    let p = placed acted again.first again.one in
    let bit = (partway_again s a acted vs c d p.front again.first p.back m low p.is).0 in
    record {
      front = p.front;
      item = again.first;
      back = p.back ++ rest;
      is = ap (λ zs. zs ++ rest) p.is ∙ append_assoc p.front (again.first ∷ p.back) rest;
      same = again.same;
      answers = ap kept (part-verdict a j again.first c again.same) ∙ same-bit _ _ bit.0 bit.2 bit.1;
    }

next-answers : (s : ℕ) (a : At) (acted : List Item) (i : Item) (rest : List Item) (vs : List Version) (c d : Content) (j : Item) → Partway s a acted vs c d → a.stamp.0 ≤ s
    → NumbersInOrder (acted ++ i ∷ rest) → ActsAs j i → IsNoRefusal (verdict a j c) → InTurn a (acted ++ i ∷ rest) j c d
next-answers s a acted i rest vs c d j m low numbers same fine =
    let next = partway_acts s a acted vs c d i m low (numbers-front (acted ++ i ∷ []) rest (subst NumbersInOrder (one-more acted i rest) numbers)) (subst IsNoRefusal (part-verdict a j i c same) fine) in
    record {
      front = acted;
      item = i;
      back = rest;
      is = refl;
      same = same;
      answers = ap kept (part-verdict a j i c same ∙ next.0);
    }

pub answers_in_turn : AnswersInTurn
answers_in_turn s a acted [] vs c d j m low numbers comes fine = again-answers s a acted [] vs c d j m low comes
answers_in_turn s a acted (i ∷ rest) vs c d j m low numbers (inl again) fine = again-answers s a acted (i ∷ rest) vs c d j m low again
answers_in_turn s a acted (i ∷ rest) vs c d j m low numbers (inr next) fine = next-answers s a acted i rest vs c d j m low numbers next fine

-- one request

kept-fine : (v u : Verdict) → kept v ≡ kept u → IsNoRefusal v → IsNoRefusal u
kept-fine v (Keep b) e fine = tt
kept-fine v (Put w b) e fine = tt
kept-fine (Keep a) (Refuse f) e fine = cc
kept-fine (Put w a) (Refuse f) e fine = cc
kept-fine (Refuse g) (Refuse f) e fine = fine

pub cut_answers : CutAnswers
cut_answers h j x y body ax ay ans same =
    let at = at_of h j.seq.0 in
    let done = request-done j.request at x ans.bits ans.writes ax ans.gave in
    let fine : (k : List ℕ) → speaks_of k j ≡ true → IsNoRefusal (deed_of j.request at (content_at k y)) =
    λ k here.
    let one : IsDone j.request at x (write_all at ans.writes x) k true = subst (IsDone j.request at x (write_all at ans.writes x) k) here (done.1 k) in
    kept-fine (deed_of j.request at (content_at k x)) (deed_of j.request at (content_at k y)) (same k here) one.0
    in
    let given = request-given j.request at y ay fine in
    record {
      bits = given.0;
      writes = given.1;
      gave = given.2;
      is = ans.is ∙ same_body j.request at x y ans.bits given.0 ans.writes given.1 ax ay same ans.gave given.2;
    }

-- cuts over a chain

joins-le : (i : Item) (s e : List ℕ) (got : List Accepted) (body : Body) → Joins i s e got body → key_le s e ≡ true
joins-le i s e [] body j = subst (λ k. key_le s k ≡ true) j.0 (le_itself s)
joins-le i s e (a ∷ more) body j = le_trans s j.0 e (le_of_lt s j.0 j.2) (joins-le i j.0 e more j.1 j.4)

record OverSpan (h : Head) (i : Item) (y : Cells) (s e : List ℕ) (body : Body) : Type 0 where
  bits : Bits
  writes : Puts
  gave : ask (deed_of i.request (at_of h i.seq.0)) s e y ≡ Gave bits writes
  is : body ≡ body_of i.request bits

body-cut : (s e : List ℕ) (r : Request) (bits : Bits) → body_of (cut_to s e r) bits ≡ body_of r bits
body-cut s e r bits = ((laws_of r).3 s e).1 bits

-- one cut
cut-over : (h : Head) (i : Item) (y : Cells) (s m : List ℕ) (body : Body) → ActsOver i.request → Answers h (record i { request = cut_to s m i.request }) y body → OverSpan h i y s m body
cut-over h i y s m body o ans =
    let at = at_of h i.seq.0 in
    record {
      bits = ans.bits;
      writes = ans.writes;
      gave =
          ap (λ d. ask (d at) s m y) (sym (cut_deed s m i.request))
          ∙ sym (ask_over (cut_to s m i.request) at y s m (o.cut s m))
          ∙ ans.gave;
      is = ans.is ∙ body-cut s m i.request ans.bits;
    }

joined-over : (h : Head) (i : Item) (y : Cells) → Ascends key_of y → ActsOver i.request → (s e : List ℕ) (got : List Accepted) (body : Body) → Each (λ a. Answers h a.item y a.reply.body) got → Joins i s e got body → OverSpan h i y s e body
joined-over h i y asc o s e [] body all j = record {
  bits = [];
  writes = [];
  gave = ap (λ k. ask (deed_of i.request (at_of h i.seq.0)) s k y) (sym j.0) ∙ ap (ask_each (deed_of i.request (at_of h i.seq.0))) (between_nothing s y);
  is = j.1;
}
joined-over h i y asc o s e (a ∷ more) body all j =
    let d = deed_of i.request (at_of h i.seq.0) in
    let first = cut-over h i y s j.0 a.reply.body o (subst (λ z. Answers h z y a.reply.body) j.3 all.0) in
    let rest = joined-over h i y asc o j.0 e more j.1 all.1 j.4 in
    record {
      bits = first.bits ++ rest.bits;
      writes = first.writes ++ rest.writes;
      gave =
          join_all d s j.0 e y asc (le_of_lt s j.0 j.2) (joins-le i j.0 e more j.1 j.4)
          ∙ ap (λ z. joined z (ask d j.0 e y)) first.gave
          ∙ ap (joined (Gave first.bits first.writes)) rest.gave;
      is =
          j.5
          ∙ ap (λ b. join_bodies (goes_down i.request) b j.1) first.is
          ∙ ap (join_bodies (goes_down i.request) (body_of i.request first.bits)) rest.is
          ∙ sym (bodies_join i.request first.bits rest.bits o.range);
    }

never-itself : {G : Type 0} (k : List ℕ) → k ≡ after k → G
never-itself k h = not_both (key_lt k k) (subst (λ z. key_lt k z ≡ true) (sym h) (below-after k)) (key_lt-irrefl k)

-- one key, which one cut holds
joined-at : (h : Head) (i : Item) (y : Cells) → (p : ActsAt i.request) → (got : List Accepted) (body : Body) → Each (λ a. Answers h a.item y a.reply.body) got → Joins i p.key (after p.key) got body → Answers h i y body
joined-at h i y p [] body all j = never-itself p.key j.0
joined-at h i y p (a ∷ more) body all j =
    let same : a.item ≡ i = j.3 ∙ ap (λ r. record i { request = r }) (p.whole p.key j.0) in
    let ans : Answers h i y a.reply.body = subst (λ z. Answers h z y a.reply.body) same all.0 in
    record {
      bits = ans.bits;
      writes = ans.writes;
      gave = ans.gave;
      is = j.5 ∙ ap (λ b. join_bodies (goes_down i.request) b j.1) ans.is ∙ p.alone ans.bits j.1;
    }

pub joins_answer : JoinsAnswer
joins_answer h i y got body asc all j = by (acts_where i.request)
  where
    by : ActsAt i.request ⊎ ActsOver i.request → Answers h i y body
    by (inl p) = joined-at h i y p got body all (subst (λ z. Joins i (extent_of z).start (extent_of z).end got body) p.reach j)
    by (inr o) =
        let whole = joined-over h i y asc o o.start o.end got body all (subst (λ z. Joins i (extent_of z).start (extent_of z).end got body) o.reach j) in
        record { bits = whole.bits; writes = whole.writes; gave = ask_over i.request (at_of h i.seq.0) y o.start o.end o.reach ∙ whole.gave; is = whole.is }

-- the whole batch

pub rest-given : (ps : List WriteAt) (q : Reply) (m : Made) (out : Cells) (ws : List WriteAt) (rs : List Reply) → and_before ps (q ∷ []) m ≡ Gives out ws rs → (vs : List WriteAt) × (ts : List Reply) × (m ≡ Gives out vs ts) × (rs ≡ q ∷ ts)
rest-given ps q (Fails f) out ws rs d = cc
rest-given ps q (Gives x vs ts) out ws rs d = let same : x ≡ out = cc in let all : rs ≡ q ∷ ts = cc in (vs, ts, ap (λ z. Gives z vs ts) same, all)

-- one more item, asked of what those before it left
gives-more : (h : Head) (xs : List Item) (i : Item) (cells y : Cells) (us : List WriteAt) (ts : List Reply) (bits : Bits) (writes : Puts) → ask_all h xs cells ≡ Gives y us ts → ask_request i.request (at_of h i.seq.0) y ≡ Gave bits writes
    → (vs : List WriteAt) × (qs : List Reply) × (ask_all h (xs ++ i ∷ []) cells ≡ Gives (write_all (at_of h i.seq.0) writes y) vs qs)
gives-more h [] i cells y us ts bits writes e gave = (
  under_number (at_of h i.seq.0) writes ++ [],
  record { body = body_of i.request bits; resume = None } ∷ [],
  ap (ask_all h (i ∷ [])) (gives-cells cells y [] us [] ts e) ∙ ap (λ a. and_then (made_by h i a y) (ask_all h [])) gave,
)
gives-more h (x ∷ xs) i cells y us ts bits writes e gave =
    let parts = made-parts h x (ask_request x.request (at_of h x.seq.0) cells) cells xs y us ts e in
    let r = gives-more h xs i (write_all (at_of h x.seq.0) parts.1 cells) y parts.3 parts.4 bits writes parts.5 gave in (
      under_number (at_of h x.seq.0) parts.1 ++ r.0,
      record { body = body_of x.request parts.0; resume = None } ∷ r.1,
      ap (λ a. and_then (made_by h x a cells) (ask_all h (xs ++ i ∷ []))) parts.2
          ∙ ap (and_before (under_number (at_of h x.seq.0) parts.1) (record { body = body_of x.request parts.0; resume = None } ∷ [])) r.2,
    )

no-replies : (y out : Cells) (ws : List WriteAt) (rs : List Reply) → Gives y [] [] ≡ Gives out ws rs → [] ≡ rs
no-replies y out ws rs h = cc

same-reply : (r : Reply) (b : Body) → r.resume ≡ None → r.body ≡ b → r ≡ record { body = b; resume = None }
same-reply r b resume body = λ j. record { body = body j; resume = resume j }

gathered-from : (h : Head) (whole : List Item) (cells : Cells) (got : List Accepted) → AllInTurn h whole cells got → (front items : List Item) (y out : Cells) (us ws : List WriteAt) (ts rs replies : List Reply)
    → whole ≡ front ++ items → Ascends key_of y → ask_all h front cells ≡ Gives y us ts → ask_all h items y ≡ Gives out ws rs → Gathered got items replies → replies ≡ rs
gathered-from h whole cells got turns front [] y out us ws ts rs [] is asc before e g = no-replies y out ws rs e
gathered-from h whole cells got turns front [] y out us ws ts rs (r ∷ replies) is asc before e g = absurd g
gathered-from h whole cells got turns front (i ∷ items) y out us ws ts rs [] is asc before e g = absurd g
gathered-from h whole cells got turns front (i ∷ items) y out us ws ts rs (r ∷ replies) is asc before e g =
    let at = at_of h i.seq.0 in
    let ans = joins_answer h i y (by_start (at_position i.pos got)) r.body asc (turns front i items y us ts is before) g.0.joins in
    let done = request-done i.request at y ans.bits ans.writes asc ans.gave in
    let more = gives-more h front i cells y us ts ans.bits ans.writes before ans.gave in
    let rest = rest-given (under_number at ans.writes) (record { body = body_of i.request ans.bits; resume = None }) (ask_all h items (write_all at ans.writes y)) out ws rs
    (sym (ap (λ a. and_then (made_by h i a y) (ask_all h items)) ans.gave) ∙ e) in
    let later = gathered-from h whole cells got turns (front ++ i ∷ []) items (write_all at ans.writes y) out more.0 rest.0 more.1 rest.1 replies (is ∙ one-more front i items) done.0 more.2 rest.2 g.1 in
    ap (λ z. z ∷ replies) (same-reply r (body_of i.request ans.bits) g.0.whole ans.is)
    ∙ ap (λ zs. record { body = body_of i.request ans.bits; resume = None } ∷ zs) later
    ∙ sym rest.3

pub gathered_asks : GatheredAsks
gathered_asks h items cells out ws rs replies got asc e turns g = gathered-from h items cells got turns [] items cells out [] ws [] rs replies refl asc refl e g
