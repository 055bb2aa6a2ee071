-- A batch asked of all contents at once, told by its keys.
use Rattle.std.proofs.Common.{◌≡◌, ℕ, Bool, true, false, cond, List, [], ◌∷◌, ◌++◌, Option, Some, None, ◌⊎◌, inl, inr, refl, sym, ap, ◌∙◌, subst}
use Rattle.ds_base.specs.Order.{key_lt, holds, after}
use Rattle.ds_base.specs.Ordered.{key_eq, AllOver, Ascends, at_key, between}
use Rattle.ds_base.specs.declared.value.Value.{Value}
use Rattle.ds_base.proofs.KeyFacts.{own_span}
use Rattle.ds_base.proofs.TestFacts.{never, not_both}
use Rattle.ds_base.proofs.KeyOrder.{point-holds, key_lt-irrefl, key_lt-trans}
use Rattle.ds_base.proofs.OrderedFacts.{eq_same, eq_itself, at-none, ascends-between, at_key-between}
use Rattle.ds_kind.specs.Reach.{extent_of}
use Rattle.ds_kind.specs.Request.{span_of}
use Rattle.ds_kind.specs.declared.batch.Head.{Head}
use Rattle.ds_kind.specs.declared.batch.Item.{Item}
use Rattle.ds_kind.specs.declared.reply.Reply.{Reply}
use Rattle.ds_kind.specs.declared.reply.Failure.{Failure}
use Rattle.ds_kind.specs.declared.request.Request.{Request}
use Rattle.ds_cell.specs.declared.entry.At.{At}
use Rattle.ds_cell.specs.declared.verdict.Verdict.{Verdict}
use Rattle.ds_cell.specs.declared.verdict.Verdict.TheVariants.{Keep, Put, Refuse}
use Rattle.ds_cell.specs.declared.verdict.Bit.{Bit}
use Rattle.ds_cell.specs.declared.verdict.ActFault.{ActFault}
use Rattle.ds_cell.specs.Ask.{Cell, Cells, key_of, Asked, Failed, Gave, one_more, ask_each, content_of, content_at}
use Rattle.ds_cell.specs.Change.{wrote}
use Rattle.ds_cell.specs.Content.{Content, no_content}
use Rattle.ds_cell.specs.Deed.{content_after}
use Rattle.ds_cell.specs.KeyProofs.{quiet}
use Rattle.ds_cell.specs.Requests.{deed_of, ask_request}
use Rattle.ds_cell.specs.Store.{WriteAt, put_cell, write_all, under_number}
use Rattle.ds_cell.specs.Replies.{body_of}
use Rattle.ds_rule.specs.Asking.{Made, Gives, Fails, and_before, and_then, made_by, ask_all, at_of, failure_of}
use Rattle.ds_rule.proofs.Puts.{put-at}
use Rattle.ds_cell.specs.StoreProofs.{ascends-insert}
use Rattle.ds_rule.specs.Turn.{IsNoRefusal, verdict, after_item, after_items, turn_of, speaks_of, items_at}
use Rattle.ds_turn.specs.Course.{NoneRefused}
use Rattle.ds_turn.specs.Keys.{FailsAtKey, FailsSomewhere, FirstFails, GivesAtKeys, KeysGive}
use Rattle.ds_turn.proofs.Again.{did_fine}
use Rattle.ds_turn.proofs.Courses.{and_turn-fine}
use Rattle.ds_turn.proofs.Reaches.{ActsAt, ActsOver, acts_where, ask_point, ask_over}

abbrev pub Bits : Type 0
Bits = List (List ℕ × Bit)

abbrev pub Puts : Type 0
Puts = List (List ℕ × Option Value)

-- one key more, taken apart

abbrev more_of : List ℕ → Verdict → Puts → Puts
more_of k (Keep b) ws = ws
more_of k (Put w b) ws = (k, w) ∷ ws
more_of k (Refuse f) ws = ws

gave-puts : (bs cs : Bits) (us ws : Puts) → Gave bs us ≡ Gave cs ws → ws ≡ us
gave-puts bs cs us ws h = cc

gave-parts : (k : List ℕ) (v : Verdict) (r : Asked) (bs : Bits) (ws : Puts) → one_more k v r ≡ Gave bs ws → IsNoRefusal v × (cs : Bits) × (us : Puts) × (r ≡ Gave cs us) × (ws ≡ more_of k v us)
gave-parts k (Refuse f) r bs ws h = cc
gave-parts k (Keep b) (Failed q f) bs ws h = cc
gave-parts k (Put w b) (Failed q f) bs ws h = cc
gave-parts k (Keep b) (Gave cs us) bs ws h = (tt, cs, us, refl, gave-puts _ bs us ws h)
gave-parts k (Put w b) (Gave cs us) bs ws h = (tt, cs, us, refl, gave-puts _ bs ((k, w) ∷ us) ws h)

-- the contents after one key's write, if it writes
abbrev put_by : At → List ℕ → Verdict → Cells → Cells
put_by at k (Keep b) cells = cells
put_by at k (Put w b) cells = put_cell k (wrote at w) cells
put_by at k (Refuse f) cells = cells

write-more : (at : At) (k : List ℕ) (v : Verdict) (us : Puts) (cells : Cells) → write_all at (more_of k v us) cells ≡ write_all at us (put_by at k v cells)
write-more at k (Keep b) us cells = refl
write-more at k (Put w b) us cells = refl
write-more at k (Refuse f) us cells = refl

put_by-ascends : (at : At) (k : List ℕ) (v : Verdict) (cells : Cells) → Ascends key_of cells → Ascends key_of (put_by at k v cells)
put_by-ascends at k (Keep b) cells asc = asc
put_by-ascends at k (Put w b) cells asc = ascends-insert k _ cells asc
put_by-ascends at k (Refuse f) cells asc = asc

same-there : (k q : List ℕ) (cells : Cells) → content_at q cells ≡ cond (key_eq k q) (content_at k cells) (content_at q cells)
same-there k q cells =
    elim (key_eq k q) as (λ t. key_eq k q ≡ t → content_at q cells ≡ cond t (content_at k cells) (content_at q cells)) [
      | true ↦ λ e. ap (λ z. content_at z cells) (sym (eq_same k q e))
      | false ↦ λ e. refl
    ] refl

put_by-at : (at : At) (k q : List ℕ) (v : Verdict) (cells : Cells) → Ascends key_of cells → content_at q (put_by at k v cells) ≡ cond (key_eq k q) (content_after at v (content_at k cells)) (content_at q cells)
put_by-at at k q (Keep b) cells asc = same-there k q cells
put_by-at at k q (Put w b) cells asc = put-at k q (wrote at w) cells asc
put_by-at at k q (Refuse f) cells asc = same-there k q cells

-- the writes at the keys asked, one after another

abbrev StepAt : (Content → Verdict) → At → List ℕ → Cells → Cells → Option Cell → Type 0
StepAt d at q cells out None = content_at q out ≡ content_at q cells
StepAt d at q cells out (Some p) = content_at q cells ≡ p.1 → IsNoRefusal (d p.1) × (content_at q out ≡ content_after at (d p.1) p.1)

write-each : (d : Content → Verdict) (at : At) (ps cells : Cells) (bs : Bits) (ws : Puts) → Ascends key_of ps → Ascends key_of cells → ask_each d ps ≡ Gave bs ws
    → Ascends key_of (write_all at ws cells) × ((q : List ℕ) → StepAt d at q cells (write_all at ws cells) (at_key key_of q ps))
write-each d at [] cells bs ws ap-asc asc h =
    let none : ws ≡ [] = gave-puts [] bs [] ws h in
    (subst (λ us. Ascends key_of (write_all at us cells)) (sym none) asc, λ q. ap (λ us. content_at q (write_all at us cells)) none)
write-each d at (p ∷ ps) cells bs ws ps-asc asc h =
    let parts = gave-parts p.0 (d p.1) (ask_each d ps) bs ws h in
    let next = put_by at p.0 (d p.1) cells in
    let rest = write-each d at ps next parts.1 parts.2 ps-asc.1 (put_by-ascends at p.0 (d p.1) cells asc) parts.3 in
    let outs : write_all at ws cells ≡ write_all at parts.2 next = ap (λ us. write_all at us cells) parts.4 ∙ write-more at p.0 (d p.1) parts.2 cells in (
      subst (Ascends key_of) (sym outs) rest.0,
      λ q. subst (λ out. StepAt d at q cells out (at_key key_of q (p ∷ ps))) (sym outs)
          (elim (key_eq p.0 q) as (λ t. key_eq p.0 q ≡ t → StepAt d at q cells (write_all at parts.2 next) (cond t (Some p) (at_key key_of q ps))) [
            | true ↦ λ e is.
                let same : p.0 ≡ q = eq_same p.0 q e in
                let gone : at_key key_of q ps ≡ None = subst (λ z. at_key key_of z ps ≡ None) same (at-none key_of p.0 ps ps-asc.0) in
                let kept : content_at q (write_all at parts.2 next) ≡ content_at q next = subst (λ o. StepAt d at q next (write_all at parts.2 next) o) gone (rest.1 q) in (
                  parts.0,
                  kept
                      ∙ put_by-at at p.0 q (d p.1) cells asc
                      ∙ ap (λ t. cond t (content_after at (d p.1) (content_at p.0 cells)) (content_at q cells)) e
                      ∙ ap (λ c. content_after at (d p.1) c) (ap (λ z. content_at z cells) same ∙ is),
                )
            | false ↦ λ e.
                step-from d at q cells next (write_all at parts.2 next)
                (put_by-at at p.0 q (d p.1) cells asc ∙ ap (λ t. cond t (content_after at (d p.1) (content_at p.0 cells)) (content_at q cells)) e)
                (at_key key_of q ps) (rest.1 q)
          ] refl),
    )
  where
    step-from : (d : Content → Verdict) (at : At) (q : List ℕ) (cells next out : Cells) → content_at q next ≡ content_at q cells → (o : Option Cell) → StepAt d at q next out o → StepAt d at q cells out o
    step-from d at q cells next out e None s = s ∙ e
    step-from d at q cells next out e (Some p) s = λ is. s (e ∙ is)

-- one request

abbrev pub IsDone : Request → At → Cells → Cells → List ℕ → Bool → Type 0
IsDone r at cells out q true = IsNoRefusal (deed_of r at (content_at q cells)) × (content_at q out ≡ content_after at (deed_of r at (content_at q cells)) (content_at q cells))
IsDone r at cells out q false = content_at q out ≡ content_at q cells

point-test : (k q : List ℕ) → holds k (after k) q ≡ key_eq k q
point-test k q =
    elim (holds k (after k) q) as (λ t. holds k (after k) q ≡ t → t ≡ key_eq k q) [
      | true ↦ λ e. sym (subst (λ z. key_eq k z ≡ true) (sym (point-holds k q e)) (eq_itself k))
      | false ↦ λ e. elim (key_eq k q) as (λ t. key_eq k q ≡ t → false ≡ t) [
        | true ↦ λ f. never (sym e ∙ ap (λ z. holds k (after k) z) (sym (eq_same k q f)) ∙ own_span k)
        | false ↦ λ f. refl
      ] refl
    ] refl

point-done : (r : Request) (at : At) (k : List ℕ) (cells out : Cells) (q : List ℕ) → StepAt (deed_of r at) at q cells out (cond (key_eq k q) (Some (k, content_at k cells)) None) → IsDone r at cells out q (holds k (after k) q)
point-done r at k cells out q step =
    subst (IsDone r at cells out q) (sym (point-test k q))
    (elim (key_eq k q) as (λ t. key_eq k q ≡ t → StepAt (deed_of r at) at q cells out (cond t (Some (k, content_at k cells)) None) → IsDone r at cells out q t) [
      | true ↦ λ e s.
          let same : content_at k cells ≡ content_at q cells = ap (λ z. content_at z cells) (eq_same k q e) in
          subst (λ c. IsNoRefusal (deed_of r at c) × (content_at q out ≡ content_after at (deed_of r at c) c)) same (s (sym same))
      | false ↦ λ e s. s
    ] refl step)

span-done : (r : Request) (at : At) (b : Bit) → deed_of r at no_content ≡ Keep b → (s e : List ℕ) (cells out : Cells) (q : List ℕ) → StepAt (deed_of r at) at q cells out (cond (holds s e q) (at_key key_of q cells) None) → IsDone r at cells out q (holds s e q)
span-done r at b still s e cells out q =
    elim (holds s e q) as (λ t. StepAt (deed_of r at) at q cells out (cond t (at_key key_of q cells) None) → IsDone r at cells out q t) [
      | true ↦ there (at_key key_of q cells) refl
      | false ↦ λ h. h
    ]
  where
    there : (o : Option Cell) → at_key key_of q cells ≡ o → StepAt (deed_of r at) at q cells out o → IsDone r at cells out q true
    there None e h =
        let none : content_at q cells ≡ no_content = ap content_of e in
        subst (λ c. IsNoRefusal (deed_of r at c) × (content_at q out ≡ content_after at (deed_of r at c) c)) (sym none)
        (subst IsNoRefusal (sym still) tt, h ∙ none ∙ sym (ap (λ v. content_after at v no_content) still))
    there (Some p) e h =
        let some : content_at q cells ≡ p.1 = ap content_of e in
        subst (λ c. IsNoRefusal (deed_of r at c) × (content_at q out ≡ content_after at (deed_of r at c) c)) (sym some) (h some)

-- what leaves no trace only answers
quiet-keep : (v : Verdict) → quiet v ≡ true → (b : Bit) × (v ≡ Keep b)
quiet-keep (Keep b) h = (b, refl)
quiet-keep (Put w b) h = cc
quiet-keep (Refuse f) h = cc

-- the places of a request ascend, and show what stands there

over-done : (r : Request) (at : At) (b : Bit) → deed_of r at no_content ≡ Keep b → (s e : List ℕ) (cells : Cells) (bs : Bits) (ws : Puts) → Ascends key_of cells → ask_each (deed_of r at) (between key_of s e cells) ≡ Gave bs ws
    → Ascends key_of (write_all at ws cells) × ((q : List ℕ) → IsDone r at cells (write_all at ws cells) q (holds s e q))
over-done r at b still s e cells bs ws asc h =
    let all = write-each (deed_of r at) at (between key_of s e cells) cells bs ws (ascends-between key_of s e cells asc) asc h in
    (all.0, λ q. span-done r at b still s e cells (write_all at ws cells) q (subst (StepAt (deed_of r at) at q cells (write_all at ws cells)) (at_key-between key_of s e q cells) (all.1 q)))

at-done : (r : Request) (at : At) (k : List ℕ) (cells : Cells) (bs : Bits) (ws : Puts) → Ascends key_of cells → ask_each (deed_of r at) ((k, content_at k cells) ∷ []) ≡ Gave bs ws
    → Ascends key_of (write_all at ws cells) × ((q : List ℕ) → IsDone r at cells (write_all at ws cells) q (holds k (after k) q))
at-done r at k cells bs ws asc h =
    let all = write-each (deed_of r at) at ((k, content_at k cells) ∷ []) cells bs ws (tt, tt) asc h in
    (all.0, λ q. point-done r at k cells (write_all at ws cells) q (all.1 q))

pub request-done : (r : Request) (at : At) (cells : Cells) (bs : Bits) (ws : Puts) → Ascends key_of cells → ask_request r at cells ≡ Gave bs ws
    → Ascends key_of (write_all at ws cells) × ((q : List ℕ) → IsDone r at cells (write_all at ws cells) q (holds (span_of r).start (span_of r).end q))
request-done r at cells bs ws asc h = by (acts_where r)
  where
    by : ActsAt r ⊎ ActsOver r → Ascends key_of (write_all at ws cells) × ((q : List ℕ) → IsDone r at cells (write_all at ws cells) q (holds (span_of r).start (span_of r).end q))
    by (inl p) =
        let all = at-done r at p.key cells bs ws asc (sym (ask_point r at cells p.key p.reach) ∙ h) in
        (all.0, λ q. subst (λ z. IsDone r at cells (write_all at ws cells) q (holds (extent_of z).start (extent_of z).end q)) (sym p.reach) (all.1 q))
    by (inr o) =
        let still = quiet-keep (deed_of r at no_content) (o.still at) in
        let all = over-done r at still.0 still.1 o.start o.end cells bs ws asc (sym (ask_over r at cells o.start o.end o.reach) ∙ h) in
        (all.0, λ q. subst (λ z. IsDone r at cells (write_all at ws cells) q (holds (extent_of z).start (extent_of z).end q)) (sym o.reach) (all.1 q))

-- a batch

before-parts : (ps : List WriteAt) (qs : List Reply) (m : Made) (out : Cells) (ws : List WriteAt) (rs : List Reply) → and_before ps qs m ≡ Gives out ws rs → (vs : List WriteAt) × (ts : List Reply) × (m ≡ Gives out vs ts)
before-parts ps qs (Fails f) out ws rs d = cc
before-parts ps qs (Gives x vs ts) out ws rs d = let same : x ≡ out = cc in (vs, ts, ap (λ z. Gives z vs ts) same)

pub made-parts : (h : Head) (i : Item) (a : Asked) (cells : Cells) (is : List Item) (out : Cells) (ws : List WriteAt) (rs : List Reply) → and_then (made_by h i a cells) (ask_all h is) ≡ Gives out ws rs
    → (bs : Bits) × (us : Puts) × (a ≡ Gave bs us) × (vs : List WriteAt) × (ts : List Reply) × (ask_all h is (write_all (at_of h i.seq.0) us cells) ≡ Gives out vs ts)
made-parts h i (Failed k f) cells is out ws rs e = cc
made-parts h i (Gave bs us) cells is out ws rs e =
    let r = before-parts (under_number (at_of h i.seq.0) us) (record { body = body_of i.request bs; resume = None } ∷ []) (ask_all h is (write_all (at_of h i.seq.0) us cells)) out ws rs e in
    (bs, us, refl, r.0, r.1, r.2)

abbrev AtKey : Head → List Item → Cells → Cells → List ℕ → Type 0
AtKey h items cells out k = NoneRefused (at_of h 0) (items_at k items) (content_at k cells) × (content_at k out ≡ after_items (at_of h 0) (items_at k items) (content_at k cells))

at-more : (h : Head) (i : Item) (is : List Item) (cells next out : Cells) (k : List ℕ) → IsDone i.request (at_of h i.seq.0) cells next k (speaks_of k i) → AtKey h is next out k → AtKey h (i ∷ is) cells out k
at-more h i is cells next out k =
    elim (speaks_of k i) as (λ t. IsDone i.request (at_of h i.seq.0) cells next k t → AtKey h is next out k → NoneRefused (at_of h 0) (cond t (i ∷ items_at k is) (items_at k is)) (content_at k cells) × (content_at k out ≡ after_items (at_of h 0) (cond t (i ∷ items_at k is) (items_at k is)) (content_at k cells))) [
      | true ↦ λ one rest.
          let did : NoneRefused (at_of h 0) (items_at k is) (after_item (at_of h 0) i (content_at k cells)) = subst (NoneRefused (at_of h 0) (items_at k is)) one.1 rest.0 in
          let r = did_fine (at_of h 0) i (verdict (at_of h 0) i (content_at k cells)) (items_at k is) (after_item (at_of h 0) i (content_at k cells)) one.0 did in
          (record { bits = r.0; writes = r.1; gives = r.2 }, rest.1 ∙ ap (after_items (at_of h 0) (items_at k is)) one.1)
      | false ↦ λ one rest. (subst (NoneRefused (at_of h 0) (items_at k is)) one rest.0, rest.1 ∙ ap (after_items (at_of h 0) (items_at k is)) one)
    ]

pub gives-cells : (x y : Cells) (vs ws : List WriteAt) (ts rs : List Reply) → Gives x vs ts ≡ Gives y ws rs → x ≡ y
gives-cells x y vs ws ts rs h = cc

pub gives_at_keys : GivesAtKeys
gives_at_keys h [] cells out ws rs asc e =
    let same : cells ≡ out = gives-cells cells out [] ws [] rs e in
    (subst (Ascends key_of) same asc, λ k. (record { bits = []; writes = []; gives = refl }, ap (content_at k) (sym same)))
gives_at_keys h (i ∷ is) cells out ws rs asc e =
    let parts = made-parts h i (ask_request i.request (at_of h i.seq.0) cells) cells is out ws rs e in
    let one = request-done i.request (at_of h i.seq.0) cells parts.0 parts.1 asc parts.2 in
    let rest = gives_at_keys h is (write_all (at_of h i.seq.0) parts.1 cells) out parts.3 parts.4 one.0 parts.5 in
    (rest.0, λ k. at-more h i is cells _ out k (one.1 k) (rest.1 k))

-- where no key refuses, the batch is not refused

abbrev AllFine : (Content → Verdict) → Cells → Type 0
AllFine d [] = Unit {0}
AllFine d (p ∷ ps) = IsNoRefusal (d p.1) × AllFine d ps

abbrev pub IsGiven : Asked → Type 0
IsGiven a = (bs : Bits) × (ws : Puts) × (a ≡ Gave bs ws)

one-given : (k : List ℕ) (v : Verdict) (r : Asked) → IsNoRefusal v → IsGiven r → IsGiven (one_more k v r)
one-given k (Keep b) r fine g = (_, _, ap (one_more k (Keep b)) g.2)
one-given k (Put w b) r fine g = (_, _, ap (one_more k (Put w b)) g.2)
one-given k (Refuse f) r fine g = absurd fine

each-given : (d : Content → Verdict) (ps : Cells) → AllFine d ps → IsGiven (ask_each d ps)
each-given d [] all = ([], [], refl)
each-given d (p ∷ ps) all = one-given p.0 (d p.1) (ask_each d ps) all.0 (each-given d ps all.1)

none-some : {G : Type 0} (o : Option Cell) (p : Cell) → o ≡ None → o ≡ Some p → G
none-some None p h e = cc
none-some (Some q) p h e = cc

-- what stands further on in an ascending list
further : (p q : Cell) (ps : Cells) → AllOver key_of p.0 ps → at_key key_of q.0 ps ≡ Some q → at_key key_of q.0 (p ∷ ps) ≡ Some q
further p q ps over e =
    elim (key_eq p.0 q.0) as (λ t. key_eq p.0 q.0 ≡ t → cond t (Some p) (at_key key_of q.0 ps) ≡ Some q) [
      | true ↦ λ h. none-some (at_key key_of q.0 ps) q (subst (λ z. at_key key_of z ps ≡ None) (eq_same p.0 q.0 h) (at-none key_of p.0 ps over)) e
      | false ↦ λ h. e
    ] refl

first-there : (p : Cell) (ps : Cells) → at_key key_of p.0 (p ∷ ps) ≡ Some p
first-there p ps = ap (λ t. cond t (Some p) (at_key key_of p.0 ps)) (eq_itself p.0)

fine-between : (d : Content → Verdict) (s e : List ℕ) (ps : Cells) → Ascends key_of ps → ((p : Cell) → at_key key_of p.0 ps ≡ Some p → holds s e p.0 ≡ true → IsNoRefusal (d p.1)) → AllFine d (between key_of s e ps)
fine-between d s e [] asc fine = tt
fine-between d s e (p ∷ ps) asc fine =
    let rest = fine-between d s e ps asc.1 (λ q there h. fine q (further p q ps asc.0 there) h) in
    elim (holds s e p.0) as (λ t. holds s e p.0 ≡ t → AllFine d (cond t (p ∷ between key_of s e ps) (between key_of s e ps))) [
      | true ↦ λ h. (fine p (first-there p ps) h, rest)
      | false ↦ λ h. rest
    ] refl

abbrev pub FineAt : Request → At → Cells → Type 0
FineAt r at cells = (k : List ℕ) → holds (span_of r).start (span_of r).end k ≡ true → IsNoRefusal (deed_of r at (content_at k cells))

over-given : (r : Request) (at : At) (s e : List ℕ) (cells : Cells) → Ascends key_of cells → ((k : List ℕ) → holds s e k ≡ true → IsNoRefusal (deed_of r at (content_at k cells))) → IsGiven (ask_each (deed_of r at) (between key_of s e cells))
over-given r at s e cells asc fine =
    each-given (deed_of r at) (between key_of s e cells)
    (fine-between (deed_of r at) s e cells asc (λ p there h. subst (λ c. IsNoRefusal (deed_of r at c)) (ap content_of there) (fine p.0 h)))

at-given : (r : Request) (at : At) (k : List ℕ) (cells : Cells) → ((q : List ℕ) → holds k (after k) q ≡ true → IsNoRefusal (deed_of r at (content_at q cells))) → IsGiven (ask_each (deed_of r at) ((k, content_at k cells) ∷ []))
at-given r at k cells fine = each-given (deed_of r at) ((k, content_at k cells) ∷ []) (fine k (own_span k), tt)

pub request-given : (r : Request) (at : At) (cells : Cells) → Ascends key_of cells → FineAt r at cells → IsGiven (ask_request r at cells)
request-given r at cells asc fine = by (acts_where r)
  where
    by : ActsAt r ⊎ ActsOver r → IsGiven (ask_request r at cells)
    by (inl p) =
        subst IsGiven (sym (ask_point r at cells p.key p.reach))
        (at-given r at p.key cells (λ q here. fine q (subst (λ z. holds (extent_of z).start (extent_of z).end q ≡ true) (sym p.reach) here)))
    by (inr o) =
        subst IsGiven (sym (ask_over r at cells o.start o.end o.reach))
        (over-given r at o.start o.end cells asc (λ q here. fine q (subst (λ z. holds (extent_of z).start (extent_of z).end q ≡ true) (sym o.reach) here)))

-- the first item at a key was not refused, and the others go on from what it left
abbrev FirstAt : Head → Item → List Item → Content → Bool → Type 0
FirstAt h i js c true = IsNoRefusal (verdict (at_of h 0) i c) × NoneRefused (at_of h 0) js (after_item (at_of h 0) i c)
FirstAt h i js c false = NoneRefused (at_of h 0) js c

first-at : (h : Head) (i : Item) (js : List Item) (c : Content) (t : Bool) → NoneRefused (at_of h 0) (cond t (i ∷ js) js) c → FirstAt h i js c t
first-at h i js c true all =
    let parts = and_turn-fine i (verdict (at_of h 0) i c) (turn_of (at_of h 0) js (after_item (at_of h 0) i c)) all.bits all.writes all.gives in
    (parts.0, record { bits = parts.1; writes = parts.2; gives = parts.3 })
first-at h i js c false all = all

next-at : (h : Head) (i : Item) (js : List Item) (cells next : Cells) (k : List ℕ) (t : Bool) → IsDone i.request (at_of h i.seq.0) cells next k t → FirstAt h i js (content_at k cells) t → NoneRefused (at_of h 0) js (content_at k next)
next-at h i js cells next k true one all = subst (NoneRefused (at_of h 0) js) (sym one.1) all.1
next-at h i js cells next k false one all = subst (NoneRefused (at_of h 0) js) (sym one) all

whole-gives : (h : Head) (i : Item) (is : List Item) (cells out : Cells) (a : Asked) (bs : Bits) (us : Puts) (vs : List WriteAt) (ts : List Reply) → a ≡ Gave bs us → ask_all h is (write_all (at_of h i.seq.0) us cells) ≡ Gives out vs ts
    → (ws : List WriteAt) × (rs : List Reply) × (and_then (made_by h i a cells) (ask_all h is) ≡ Gives out ws rs)
whole-gives h i is cells out a bs us vs ts e g = (
  under_number (at_of h i.seq.0) us ++ vs,
  record { body = body_of i.request bs; resume = None } ∷ ts,
  ap (λ x. and_then (made_by h i x cells) (ask_all h is)) e ∙ ap (and_before (under_number (at_of h i.seq.0) us) (record { body = body_of i.request bs; resume = None } ∷ [])) g,
)

pub keys_give : KeysGive
keys_give h [] cells asc all = (cells, [], [], refl)
keys_give h (i ∷ is) cells asc all =
    let at = at_of h i.seq.0 in
    let parts : (k : List ℕ) → FirstAt h i (items_at k is) (content_at k cells) (speaks_of k i) = λ k. first-at h i (items_at k is) (content_at k cells) (speaks_of k i) (all k) in
    let given = request-given i.request at cells asc (λ k here. let p : FirstAt h i (items_at k is) (content_at k cells) true = subst (FirstAt h i (items_at k is) (content_at k cells)) here (parts k) in p.0) in
    let one = request-done i.request at cells given.0 given.1 asc given.2 in
    let rest = keys_give h is (write_all at given.1 cells) one.0 (λ k. next-at h i (items_at k is) cells (write_all at given.1 cells) k (speaks_of k i) (one.1 k) (parts k)) in
    let whole = whole-gives h i is cells rest.0 (ask_request i.request at cells) given.0 given.1 rest.1 rest.2 given.2 rest.3 in
    (rest.0, whole.0, whole.1, whole.2)

-- the first refusal

some-same : (p q : Cell) → Some p ≡ Some q → p ≡ q
some-same p q h = cc

over-there : (m k : List ℕ) (p : Cell) (ps : Cells) → AllOver key_of m ps → at_key key_of k ps ≡ Some p → key_lt m k ≡ true
over-there m k p [] over e = cc
over-there m k p (y ∷ ys) over e =
    elim (key_eq y.0 k) as (λ t. key_eq y.0 k ≡ t → cond t (Some y) (at_key key_of k ys) ≡ Some p → key_lt m k ≡ true) [
      | true ↦ λ h g. subst (λ z. key_lt m z ≡ true) (eq_same y.0 k h) over.0
      | false ↦ λ h g. over-there m k p ys over.1 g
    ] refl e

one-failed : (q k : List ℕ) (v : Verdict) (r : Asked) (f : ActFault) → IsNoRefusal v → r ≡ Failed k f → one_more q v r ≡ Failed k f
one-failed q k (Keep b) r f fine e = ap (one_more q (Keep b)) e
one-failed q k (Put w b) r f fine e = ap (one_more q (Put w b)) e
one-failed q k (Refuse g) r f fine e = absurd fine

each-failed : (d : Content → Verdict) (k : List ℕ) (p : Cell) (f : ActFault) (ps : Cells) → Ascends key_of ps → at_key key_of k ps ≡ Some p → d p.1 ≡ Refuse f
    → ((q : Cell) → at_key key_of q.0 ps ≡ Some q → key_lt q.0 k ≡ true → IsNoRefusal (d q.1)) → ask_each d ps ≡ Failed k f
each-failed d k p f [] asc e refused fine = cc
each-failed d k p f (y ∷ ys) asc e refused fine =
    elim (key_eq y.0 k) as (λ t. key_eq y.0 k ≡ t → cond t (Some y) (at_key key_of k ys) ≡ Some p → one_more y.0 (d y.1) (ask_each d ys) ≡ Failed k f) [
      | true ↦ λ h g.
          ap (λ v. one_more y.0 v (ask_each d ys)) (ap (λ z. d z.1) (some-same y p g) ∙ refused)
          ∙ ap (λ z. Failed z f) (eq_same y.0 k h)
      | false ↦ λ h g.
          one-failed y.0 k (d y.1) (ask_each d ys) f (fine y (first-there y ys) (over-there y.0 k p ys asc.0 g))
          (each-failed d k p f ys asc.1 g refused (λ q there low. fine q (further y q ys asc.0 there) low))
    ] refl e

-- the places of a span
in-span : (s e q : List ℕ) (p : Cell) (cells : Cells) → at_key key_of q (between key_of s e cells) ≡ Some p → (holds s e q ≡ true) × (at_key key_of q cells ≡ Some p)
in-span s e q p cells h =
    elim (holds s e q) as (λ t. holds s e q ≡ t → cond t (at_key key_of q cells) None ≡ Some p → (t ≡ true) × (at_key key_of q cells ≡ Some p)) [
      | true ↦ λ g there. (refl, there)
      | false ↦ λ g there. cc
    ] refl (sym (at_key-between key_of s e q cells) ∙ h)

abbrev Below : Request → At → Cells → List ℕ → Type 0
Below r at cells k = (q : List ℕ) → key_lt q k ≡ true → holds (span_of r).start (span_of r).end q ≡ true → IsNoRefusal (deed_of r at (content_at q cells))

keep-refuse : {G : Type 0} (v : Verdict) (b : Bit) (f : ActFault) → v ≡ Keep b → v ≡ Refuse f → G
keep-refuse (Keep a) b f h g = cc
keep-refuse (Put w a) b f h g = cc
keep-refuse (Refuse a) b f h g = cc

over-failed : (r : Request) (at : At) (b : Bit) → deed_of r at no_content ≡ Keep b → (s e : List ℕ) (cells : Cells) (k : List ℕ) (f : ActFault) → Ascends key_of cells → holds s e k ≡ true → deed_of r at (content_at k cells) ≡ Refuse f
    → ((q : List ℕ) → key_lt q k ≡ true → holds s e q ≡ true → IsNoRefusal (deed_of r at (content_at q cells))) → ask_each (deed_of r at) (between key_of s e cells) ≡ Failed k f
over-failed r at b still s e cells k f asc here refused below = by (at_key key_of k cells) refl
  where
    by : (o : Option Cell) → at_key key_of k cells ≡ o → ask_each (deed_of r at) (between key_of s e cells) ≡ Failed k f
    by None h = keep-refuse (deed_of r at no_content) b f still (sym (ap (λ c. deed_of r at c) (ap content_of h)) ∙ refused)
    by (Some p) h =
        each-failed (deed_of r at) k p f (between key_of s e cells) (ascends-between key_of s e cells asc)
        (at_key-between key_of s e k cells ∙ ap (λ t. cond t (at_key key_of k cells) None) here ∙ h)
        (sym (ap (λ c. deed_of r at c) (ap content_of h)) ∙ refused)
        (λ q there low. let x = in-span s e q.0 q cells there in subst (λ c. IsNoRefusal (deed_of r at c)) (ap content_of x.1) (below q.0 low x.0))

at-failed : (r : Request) (at : At) (k : List ℕ) (cells : Cells) (q : List ℕ) (f : ActFault) → holds k (after k) q ≡ true → deed_of r at (content_at q cells) ≡ Refuse f → ask_each (deed_of r at) ((k, content_at k cells) ∷ []) ≡ Failed q f
at-failed r at k cells q f here refused =
    let same : q ≡ k = point-holds k q here in
    ap (λ v. one_more k v (Gave [] [])) (ap (λ z. deed_of r at (content_at z cells)) (sym same) ∙ refused) ∙ ap (λ z. Failed z f) (sym same)

request-failed : (r : Request) (at : At) (cells : Cells) (k : List ℕ) (f : ActFault) → Ascends key_of cells → holds (span_of r).start (span_of r).end k ≡ true → deed_of r at (content_at k cells) ≡ Refuse f → Below r at cells k → ask_request r at cells ≡ Failed k f
request-failed r at cells k f asc here refused below = by (acts_where r)
  where
    by : ActsAt r ⊎ ActsOver r → ask_request r at cells ≡ Failed k f
    by (inl p) = ask_point r at cells p.key p.reach ∙ at-failed r at p.key cells k f (subst (λ z. holds (extent_of z).start (extent_of z).end k ≡ true) p.reach here) refused
    by (inr o) =
        let still = quiet-keep (deed_of r at no_content) (o.still at) in
        ask_over r at cells o.start o.end o.reach
        ∙ over-failed r at still.0 still.1 o.start o.end cells k f asc (subst (λ z. holds (extent_of z).start (extent_of z).end k ≡ true) o.reach here) refused
        (λ q low there. below q low (subst (λ z. holds (extent_of z).start (extent_of z).end q ≡ true) (sym o.reach) there))

-- a batch after those before
after-gives : (h : Head) (xs ys : List Item) (cells out : Cells) (ws : List WriteAt) (rs : List Reply) (f : Failure) → ask_all h xs cells ≡ Gives out ws rs → ask_all h ys out ≡ Fails f → ask_all h (xs ++ ys) cells ≡ Fails f
after-gives h [] ys cells out ws rs f e failed = ap (ask_all h ys) (gives-cells cells out [] ws [] rs e) ∙ failed
after-gives h (i ∷ xs) ys cells out ws rs f e failed =
    let parts = made-parts h i (ask_request i.request (at_of h i.seq.0) cells) cells xs out ws rs e in
    ap (λ a. and_then (made_by h i a cells) (ask_all h (xs ++ ys))) parts.2
    ∙ ap (and_before (under_number (at_of h i.seq.0) parts.1) (record { body = body_of i.request parts.0; resume = None } ∷ []))
    (after-gives h xs ys (write_all (at_of h i.seq.0) parts.1 cells) out parts.3 parts.4 f parts.5 failed)

pub first_fails : FirstFails
first_fails h xs i ys cells k f asc all here refused below =
    let at = at_of h i.seq.0 in
    let front = keys_give h xs cells asc all in
    let keys = gives_at_keys h xs cells front.0 front.1 front.2 asc front.3 in
    let stands : (q : List ℕ) → content_at q front.0 ≡ after_items (at_of h 0) (items_at q xs) (content_at q cells) = λ q. let x : AtKey h xs cells front.0 q = keys.1 q in x.1 in
    let failed : ask_request i.request at front.0 ≡ Failed k f =
    request-failed i.request at front.0 k f keys.0 here
    (ap (λ c. deed_of i.request at c) (stands k) ∙ refused)
    (λ q low there. subst (λ c. IsNoRefusal (deed_of i.request at c)) (sym (stands q)) (below q low there))
    in
    after-gives h xs (i ∷ ys) cells front.0 front.1 front.2 (failure_of i.pos k f) front.3
    (ap (λ a. and_then (made_by h i a front.0) (ask_all h ys)) failed)

-- a failed batch failed at a key

one-refused : (q k : List ℕ) (v : Verdict) (r : Asked) (f : ActFault) → one_more q v r ≡ Failed k f → ((v ≡ Refuse f) × (q ≡ k)) ⊎ (r ≡ Failed k f)
one-refused q k (Refuse g) r f h = let e : g ≡ f = cc in let p : q ≡ k = cc in inl (ap Refuse e, p)
one-refused q k (Keep b) (Failed x g) f h = inr h
one-refused q k (Put w b) (Failed x g) f h = inr h
one-refused q k (Keep b) (Gave bs ws) f h = cc
one-refused q k (Put w b) (Gave bs ws) f h = cc

each-refused : (d : Content → Verdict) (k : List ℕ) (f : ActFault) (ps : Cells) → Ascends key_of ps → ask_each d ps ≡ Failed k f → (p : Cell) × (p.0 ≡ k) × (at_key key_of p.0 ps ≡ Some p) × (d p.1 ≡ Refuse f)
each-refused d k f [] asc h = cc
each-refused d k f (y ∷ ys) asc h = elim (one-refused y.0 k (d y.1) (ask_each d ys) f h) [
  | inl here ↦ (y, here.1, first-there y ys, here.0)
  | inr later ↦ let r = each-refused d k f ys asc.1 later in (r.0, r.1, further y r.0 ys asc.0 r.2, r.3)
]

abbrev pub IsRefused : Request → At → Cells → List ℕ → ActFault → Type 0
IsRefused r at cells k f = (holds (span_of r).start (span_of r).end k ≡ true) × (deed_of r at (content_at k cells) ≡ Refuse f)

abbrev RefusedOn : Request → At → Cells → List ℕ → List ℕ → List ℕ → ActFault → Type 0
RefusedOn r at cells s e k f = (holds s e k ≡ true) × (deed_of r at (content_at k cells) ≡ Refuse f)

over-refused : (r : Request) (at : At) (s e : List ℕ) (cells : Cells) (k : List ℕ) (f : ActFault) → Ascends key_of cells → ask_each (deed_of r at) (between key_of s e cells) ≡ Failed k f → RefusedOn r at cells s e k f
over-refused r at s e cells k f asc h =
    let x = each-refused (deed_of r at) k f (between key_of s e cells) (ascends-between key_of s e cells asc) h in
    let y = in-span s e x.0.0 x.0 cells x.2 in
    subst (λ q. RefusedOn r at cells s e q f) x.1 (y.0, ap (λ c. deed_of r at c) (ap content_of y.1) ∙ x.3)

at-refused : (r : Request) (at : At) (k : List ℕ) (cells : Cells) (q : List ℕ) (f : ActFault) → ask_each (deed_of r at) ((k, content_at k cells) ∷ []) ≡ Failed q f → RefusedOn r at cells k (after k) q f
at-refused r at k cells q f h = elim (one-refused k q (deed_of r at (content_at k cells)) (Gave [] []) f h) [
  | inl here ↦ subst (λ z. RefusedOn r at cells k (after k) z f) here.1 (own_span k, here.0)
  | inr none ↦ gave-failed q f none
]
  where
    gave-failed : {G : Type 0} (q : List ℕ) (f : ActFault) → Gave [] [] ≡ Failed q f → G
    gave-failed q f h = cc

pub request-refused : (r : Request) (at : At) (cells : Cells) (k : List ℕ) (f : ActFault) → Ascends key_of cells → ask_request r at cells ≡ Failed k f → IsRefused r at cells k f
request-refused r at cells k f asc h = by (acts_where r)
  where
    by : ActsAt r ⊎ ActsOver r → IsRefused r at cells k f
    by (inl p) = subst (λ z. RefusedOn r at cells (extent_of z).start (extent_of z).end k f) (sym p.reach) (at-refused r at p.key cells k f (sym (ask_point r at cells p.key p.reach) ∙ h))
    by (inr o) = subst (λ z. RefusedOn r at cells (extent_of z).start (extent_of z).end k f) (sym o.reach) (over-refused r at o.start o.end cells k f asc (sym (ask_over r at cells o.start o.end o.reach) ∙ h))

-- and at no lower key

one-below : (q k : List ℕ) (v : Verdict) (r : Asked) (f : ActFault) → one_more q v r ≡ Failed k f → (q ≡ k) ⊎ (IsNoRefusal v × (r ≡ Failed k f))
one-below q k (Refuse g) r f h = let p : q ≡ k = cc in inl p
one-below q k (Keep b) (Failed x g) f h = inr (tt, h)
one-below q k (Put w b) (Failed x g) f h = inr (tt, h)
one-below q k (Keep b) (Gave bs ws) f h = cc
one-below q k (Put w b) (Gave bs ws) f h = cc

not-both-ways : {G : Type 0} (k q : List ℕ) → key_lt k q ≡ true → key_lt q k ≡ true → G
not-both-ways k q up down = not_both (key_lt k k) (key_lt-trans k q k up down) (key_lt-irrefl k)

each-below : (d : Content → Verdict) (k : List ℕ) (f : ActFault) (ps : Cells) → Ascends key_of ps → ask_each d ps ≡ Failed k f → (q : List ℕ) (p : Cell) → at_key key_of q ps ≡ Some p → key_lt q k ≡ true → IsNoRefusal (d p.1)
each-below d k f [] asc h q p there low = cc
each-below d k f (y ∷ ys) asc h q p there low =
    elim (key_eq y.0 q) as (λ t. key_eq y.0 q ≡ t → cond t (Some y) (at_key key_of q ys) ≡ Some p → IsNoRefusal (d p.1)) [
      | true ↦ λ e g. elim (one-below y.0 k (d y.1) (ask_each d ys) f h) [
        | inl same ↦ not-both-ways k k (subst (λ z. key_lt z k ≡ true) (sym (eq_same y.0 q e) ∙ same) low) (subst (λ z. key_lt z k ≡ true) (sym (eq_same y.0 q e) ∙ same) low)
        | inr rest ↦ subst (λ z. IsNoRefusal (d z.1)) (some-same y p g) rest.0
      ]
      | false ↦ λ e g. elim (one-below y.0 k (d y.1) (ask_each d ys) f h) [
        | inl same ↦ not-both-ways y.0 q (over-there y.0 q p ys asc.0 g) (subst (λ z. key_lt q z ≡ true) (sym same) low)
        | inr rest ↦ each-below d k f ys asc.1 rest.1 q p g low
      ]
    ] refl there

quiet-fine : (v : Verdict) → quiet v ≡ true → IsNoRefusal v
quiet-fine (Keep b) h = tt
quiet-fine (Put w b) h = cc
quiet-fine (Refuse f) h = cc

-- the keys that a request speaks of, below the one at which it failed
pub request-below : (r : Request) (at : At) (cells : Cells) (k : List ℕ) (f : ActFault) → Ascends key_of cells → ask_request r at cells ≡ Failed k f → Below r at cells k
request-below r at cells k f asc h q low here = by (acts_where r)
  where
    over : (o : ActsOver r) → holds o.start o.end q ≡ true → (c : Option Cell) → at_key key_of q cells ≡ c → IsNoRefusal (deed_of r at (content_at q cells))
    over o in-span None e = subst (λ c. IsNoRefusal (deed_of r at c)) (sym (ap content_of e)) (quiet-fine (deed_of r at no_content) (o.still at))
    over o in-span (Some p) e =
        subst (λ c. IsNoRefusal (deed_of r at c)) (sym (ap content_of e))
        (each-below (deed_of r at) k f (between key_of o.start o.end cells) (ascends-between key_of o.start o.end cells asc) (sym (ask_over r at cells o.start o.end o.reach) ∙ h) q p
        (at_key-between key_of o.start o.end q cells ∙ ap (λ t. cond t (at_key key_of q cells) None) in-span ∙ e) low)

    by : ActsAt r ⊎ ActsOver r → IsNoRefusal (deed_of r at (content_at q cells))
    by (inl p) =
        let same : q ≡ p.key = point-holds p.key q (subst (λ z. holds (extent_of z).start (extent_of z).end q ≡ true) p.reach here) in
        elim (one-below p.key k (deed_of r at (content_at p.key cells)) (Gave [] []) f (sym (ask_point r at cells p.key p.reach) ∙ h)) [
          | inl key ↦ not-both-ways k k (subst (λ z. key_lt z k ≡ true) (same ∙ key) low) (subst (λ z. key_lt z k ≡ true) (same ∙ key) low)
          | inr rest ↦ subst (λ z. IsNoRefusal (deed_of r at (content_at z cells))) (sym same) rest.0
        ]
    by (inr o) = over o (subst (λ z. holds (extent_of z).start (extent_of z).end q ≡ true) o.reach here) (at_key key_of q cells) refl

pub before-fails : (ws : List WriteAt) (rs : List Reply) (m : Made) (f : Failure) → and_before ws rs m ≡ Fails f → m ≡ Fails f
before-fails ws rs (Fails g) f h = h
before-fails ws rs (Gives out vs ts) f h = cc

did-more : (h : Head) (i : Item) (xs : List Item) (cells next : Cells) (k : List ℕ) → IsDone i.request (at_of h i.seq.0) cells next k (speaks_of k i) → NoneRefused (at_of h 0) (items_at k xs) (content_at k next) → NoneRefused (at_of h 0) (items_at k (i ∷ xs)) (content_at k cells)
did-more h i xs cells next k =
    elim (speaks_of k i) as (λ t. IsDone i.request (at_of h i.seq.0) cells next k t → NoneRefused (at_of h 0) (items_at k xs) (content_at k next) → NoneRefused (at_of h 0) (cond t (i ∷ items_at k xs) (items_at k xs)) (content_at k cells)) [
      | true ↦ λ one rest.
          let did : NoneRefused (at_of h 0) (items_at k xs) (after_item (at_of h 0) i (content_at k cells)) = subst (NoneRefused (at_of h 0) (items_at k xs)) one.1 rest in
          let r = did_fine (at_of h 0) i (verdict (at_of h 0) i (content_at k cells)) (items_at k xs) (after_item (at_of h 0) i (content_at k cells)) one.0 did in
          record { bits = r.0; writes = r.1; gives = r.2 }
      | false ↦ λ one rest. subst (NoneRefused (at_of h 0) (items_at k xs)) one rest
    ]

left-more : (h : Head) (i : Item) (xs : List Item) (cells next : Cells) (k : List ℕ) → IsDone i.request (at_of h i.seq.0) cells next k (speaks_of k i) → after_items (at_of h 0) (items_at k (i ∷ xs)) (content_at k cells) ≡ after_items (at_of h 0) (items_at k xs) (content_at k next)
left-more h i xs cells next k =
    elim (speaks_of k i) as (λ t. IsDone i.request (at_of h i.seq.0) cells next k t → after_items (at_of h 0) (cond t (i ∷ items_at k xs) (items_at k xs)) (content_at k cells) ≡ after_items (at_of h 0) (items_at k xs) (content_at k next)) [
      | true ↦ λ one. ap (after_items (at_of h 0) (items_at k xs)) (sym one.1)
      | false ↦ λ one. ap (after_items (at_of h 0) (items_at k xs)) (sym one)
    ]

pub failed-failure : (f g : Failure) → Fails f ≡ Fails g → g ≡ f
failed-failure f g h = cc

pub fails_at_key : FailsAtKey
fails_at_key h [] cells f asc e = cc
fails_at_key h (i ∷ is) cells f asc e = by (λ next up rest. fails_at_key h is next f up rest) (ask_request i.request (at_of h i.seq.0) cells) refl
  where
    by : ((next : Cells) → Ascends key_of next → ask_all h is next ≡ Fails f → FailsSomewhere h is next f) → (a : Asked) → ask_request i.request (at_of h i.seq.0) cells ≡ a → FailsSomewhere h (i ∷ is) cells f
    by again (Failed k g) d =
        let there = request-refused i.request (at_of h i.seq.0) cells k g asc d in
        record {
          front = [];
          item = i;
          back = is;
          is = refl;
          key = k;
          fault = g;
          before = λ q. record { bits = []; writes = []; gives = refl };
          here = there.0;
          refused = there.1;
          below = request-below i.request (at_of h i.seq.0) cells k g asc d;
          says = failed-failure (failure_of i.pos k g) f (sym (ap (λ a. and_then (made_by h i a cells) (ask_all h is)) d) ∙ e);
        }
    by again (Gave bs us) d =
        let next = write_all (at_of h i.seq.0) us cells in
        let one = request-done i.request (at_of h i.seq.0) cells bs us asc d in
        let rest : ask_all h is next ≡ Fails f = before-fails (under_number (at_of h i.seq.0) us) (record { body = body_of i.request bs; resume = None } ∷ []) (ask_all h is next) f (sym (ap (λ a. and_then (made_by h i a cells) (ask_all h is)) d) ∙ e) in
        let r = again next one.0 rest in
        record {
          front = i ∷ r.front;
          item = r.item;
          back = r.back;
          is = ap (λ zs. i ∷ zs) r.is;
          key = r.key;
          fault = r.fault;
          before = λ q. did-more h i r.front cells next q (one.1 q) (r.before q);
          here = r.here;
          refused = ap (verdict (at_of h 0) r.item) (left-more h i r.front cells next r.key (one.1 r.key)) ∙ r.refused;
          below = λ q low there. subst IsNoRefusal (sym (ap (verdict (at_of h 0) r.item) (left-more h i r.front cells next q (one.1 q)))) (r.below q low there);
          says = r.says;
        }
