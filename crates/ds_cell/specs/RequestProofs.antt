-- The laws of a request, by its kind. They stand here since the laws of the trait `Acts` cite them.
use Rattle.std.proofs.Common.{◌≡◌, ℕ, true, false, List, [], ◌∷◌, ◌++◌, reverse, cond, Option, None, Some, refl, sym, ap, ◌∙◌, subst}
use Rattle.std.proofs.lemmas.List.{reverse-append}
use Rattle.ds_base.specs.Order.{holds, key_le, after}
use Rattle.ds_base.specs.Ordered.{Ascends, key_eq}
use Rattle.ds_base.proofs.KeyFacts.{own_span}
use Rattle.ds_base.proofs.KeyOrder.{point-holds}
use Rattle.ds_base.proofs.OrderedFacts.{eq_itself}
use Rattle.ds_base.specs.declared.value.Value.{Value}
use Rattle.ds_kind.specs.Flags.{flags_of}
use Rattle.ds_kind.specs.Reach.{Reach, At as Point, Over, extent_of}
use Rattle.ds_kind.specs.Request.{kind_of, reach_of, cut_to}
use Rattle.ds_kind.specs.declared.reply.Body.{Body}
use Rattle.ds_kind.specs.declared.reply.Body.TheVariants.{Rows, Gone as Keys}
use Rattle.ds_kind.specs.declared.reply.Row.{Row}
use Rattle.ds_kind.specs.declared.request.Request.{Request}
use Rattle.ds_kind.specs.declared.request.Request.TheVariants.{Get, Scan, ReverseScan, Put, ConditionalPut, InitPut, Increment, Delete, DeleteRange, EndTxn, QueryIntent, ResolveIntent, ResolveIntentRange, AdminSplit, AdminTransferLease}
use Rattle.ds_cell.specs.declared.entry.At.{At as Who}
use Rattle.ds_cell.specs.declared.verdict.Verdict.{Verdict}
use Rattle.ds_cell.specs.declared.verdict.Verdict.TheVariants.{Keep, Put as Write, Refuse}
use Rattle.ds_cell.specs.declared.verdict.Bit.{Bit}
use Rattle.ds_cell.specs.declared.verdict.Bit.TheVariants.{Nothing, Value as Shown, Gone, Hit}
use Rattle.ds_cell.specs.Content.{Content, no_content}
use Rattle.ds_cell.specs.Seen.{too_old}
use Rattle.ds_cell.specs.Change.{wrote}
use Rattle.ds_cell.specs.Deed.{content_after}
use Rattle.ds_cell.specs.Ask.{Cells, key_of, Asked, Failed, Gave, one_more, joined, ask, ask_each, ask_at, content_of, content_at, AllIn, StandsIn}
use Rattle.ds_cell.specs.Responses.{Response, Refused, Replied, respond, join_responses, NamesIn, RespondsIn, NoWrites}
use Rattle.ds_cell.specs.Store.{write_all}
use Rattle.ds_cell.specs.Laws.{Within, KeyRepeats, Repeats, IsLater, JoinLaw, PointLaw, CutLaw, RepeatLaw, ReadsLaw, StaysLaw, FlagLaw, Lawful}
use Rattle.ds_cell.specs.LawProofs.{join_all, repeat_all, flags_all, stands_at, WroteNothing, guarded-keep}
use Rattle.ds_cell.specs.BodyProofs.{bodies_join}
use Rattle.ds_cell.specs.KeyProofs.{by_key, told, tell, quiet, same_answer, rows_told, keys_told, quiet_read, quiet_nothing, quiet_delete}
use Rattle.ds_cell.specs.RepeatProofs.{told-again}
use Rattle.ds_cell.specs.StoreProofs.{put-itself}
use Rattle.ds_cell.specs.Kinds.{judge_nothing, judge_read, judge_query, judge_put, judge_conditional, judge_init, judge_increment, judge_delete, judge_delete_range, nothing, shown, gone, nothing-coherent, nothing-flagged, read-coherent, read-flagged, query-coherent, query-flagged, flagged, put-coherent, conditional-coherent, init-coherent, increment-coherent, delete-coherent, delete_range-coherent}
use Rattle.ds_cell.specs.Replies.{Bits, with_row, rows_of, with_gone, gone_keys, body_of}
use Rattle.ds_cell.specs.Requests.{deed_of, ask_request, respond_to, SameAnswer, BodyLaw, StillLaw}

-- asked again, it answers the same and changes nothing
pub repeats_of : (r : Request) → KeyRepeats (deed_of r)
repeats_of (Get a) = repeat_all false judge_read nothing read-coherent read-flagged
repeats_of (Scan a) = repeat_all false judge_read nothing read-coherent read-flagged
repeats_of (ReverseScan a) = repeat_all false judge_read nothing read-coherent read-flagged
repeats_of (Put a) = repeat_all true (judge_put a) nothing (put-coherent a) (flagged (judge_put a))
repeats_of (ConditionalPut a) = repeat_all true (judge_conditional a) nothing (conditional-coherent a) (flagged (judge_conditional a))
repeats_of (InitPut a) = repeat_all true (judge_init a) nothing (init-coherent a) (flagged (judge_init a))
repeats_of (Increment a) = repeat_all true (judge_increment a) shown (increment-coherent a) (flagged (judge_increment a))
repeats_of (Delete a) = repeat_all true judge_delete nothing delete-coherent (flagged judge_delete)
repeats_of (DeleteRange a) = repeat_all true judge_delete_range gone delete_range-coherent (flagged judge_delete_range)
repeats_of (EndTxn a) = repeat_all false judge_nothing nothing nothing-coherent (nothing-flagged false)
repeats_of (QueryIntent a) = repeat_all false (judge_query a) nothing (query-coherent a) (query-flagged a)
repeats_of (ResolveIntent a) = repeat_all false judge_nothing nothing nothing-coherent (nothing-flagged false)
repeats_of (ResolveIntentRange a) = repeat_all false judge_nothing nothing nothing-coherent (nothing-flagged false)
repeats_of (AdminSplit a) = repeat_all false judge_nothing nothing nothing-coherent (nothing-flagged false)
repeats_of (AdminTransferLease a) = repeat_all false judge_nothing nothing nothing-coherent (nothing-flagged false)

-- it writes only if its kind is flagged so
writes_of : (r : Request) (at : Who) (p : Reach) (cells : Cells) → (flags_of (kind_of r)).write ≡ false → WroteNothing (ask_at (deed_of r at) p cells)
writes_of (Get a) at p cells = flags_all false false judge_read nothing at p cells read-flagged
writes_of (Scan a) at p cells = flags_all false false judge_read nothing at p cells read-flagged
writes_of (ReverseScan a) at p cells = flags_all false false judge_read nothing at p cells read-flagged
writes_of (Put a) at p cells = flags_all true true (judge_put a) nothing at p cells (flagged (judge_put a))
writes_of (ConditionalPut a) at p cells = flags_all true true (judge_conditional a) nothing at p cells (flagged (judge_conditional a))
writes_of (InitPut a) at p cells = flags_all true true (judge_init a) nothing at p cells (flagged (judge_init a))
writes_of (Increment a) at p cells = flags_all true true (judge_increment a) shown at p cells (flagged (judge_increment a))
writes_of (Delete a) at p cells = flags_all true true judge_delete nothing at p cells (flagged judge_delete)
writes_of (DeleteRange a) at p cells = flags_all true true judge_delete_range gone at p cells (flagged judge_delete_range)
writes_of (EndTxn a) at p cells = flags_all true false judge_nothing nothing at p cells (nothing-flagged true)
writes_of (QueryIntent a) at p cells = flags_all false false (judge_query a) nothing at p cells (query-flagged a)
writes_of (ResolveIntent a) at p cells = flags_all true false judge_nothing nothing at p cells (nothing-flagged true)
writes_of (ResolveIntentRange a) at p cells = flags_all true false judge_nothing nothing at p cells (nothing-flagged true)
writes_of (AdminSplit a) at p cells = flags_all false false judge_nothing nothing at p cells (nothing-flagged false)
writes_of (AdminTransferLease a) at p cells = flags_all false false judge_nothing nothing at p cells (nothing-flagged false)

pub still_of : (r : Request) → StillLaw r
still_of (Get a) at c h = cc
still_of (Scan a) at c h = cc
still_of (ReverseScan a) at c h = cc
still_of (Put a) at c h = cc
still_of (ConditionalPut a) at c h = cc
still_of (InitPut a) at c h = cc
still_of (Increment a) at c h = cc
still_of (Delete a) at c h = cc
still_of (DeleteRange a) at c h = cc
still_of (EndTxn a) at c h = guarded-keep (too_old at c) _
still_of (QueryIntent a) at c h = cc
still_of (ResolveIntent a) at c h = guarded-keep (too_old at c) _
still_of (ResolveIntentRange a) at c h = guarded-keep (too_old at c) _
still_of (AdminSplit a) at c h = guarded-keep (too_old at c) _
still_of (AdminTransferLease a) at c h = guarded-keep (too_old at c) _

-- join

respond-joined : (r : Request) → BodyLaw r → (flags_of (kind_of r)).range ≡ true → (x y : Asked) → respond (body_of r) (joined x y) ≡ join_responses (flags_of (kind_of r)).reverse (respond (body_of r) x) (respond (body_of r) y)
respond-joined r law range (Failed k f) y = refl
respond-joined r law range (Gave bs ws) (Failed k f) = refl
respond-joined r law range (Gave bs ws) (Gave cs vs) = ap (λ b. Replied b (ws ++ vs)) (law bs cs range)

over-from : (s e f t : List ℕ) → Over f t ≡ Over s e → f ≡ s
over-from s e f t h = cc

over-to : (s e f t : List ℕ) → Over f t ≡ Over s e → t ≡ e
over-to s e f t h = cc

join-over : (r : Request) → (flags_of (kind_of r)).range ≡ true → (at : Who) (f t s m e : List ℕ) (cells : Cells) → Over f t ≡ Over s e → Ascends key_of cells → key_le s m ≡ true → key_le m e ≡ true
    → respond (body_of r) (ask (deed_of r at) f t cells) ≡ join_responses (flags_of (kind_of r)).reverse (respond (body_of r) (ask (deed_of r at) s m cells)) (respond (body_of r) (ask (deed_of r at) m e cells))
join-over r range at f t s m e cells is asc low high =
    ap (λ z. respond (body_of r) (ask (deed_of r at) z t cells)) (over-from s e f t is)
    ∙ ap (λ z. respond (body_of r) (ask (deed_of r at) s z cells)) (over-to s e f t is)
    ∙ ap (respond (body_of r)) (join_all (deed_of r at) s m e cells asc low high)
    ∙ respond-joined r (bodies_join r) range (ask (deed_of r at) s m cells) (ask (deed_of r at) m e cells)

abbrev Joins : Request → Type 0
Joins r = JoinLaw (flags_of (kind_of r)).reverse reach_of cut_to respond_to r

join_of : (r : Request) → Joins r
join_of (Get a) at s m e cells is asc low high = cc
join_of (Scan a) at s m e cells is asc low high = join-over (Scan a) refl at a.start a.end s m e cells is asc low high
join_of (ReverseScan a) at s m e cells is asc low high = join-over (ReverseScan a) refl at a.start a.end s m e cells is asc low high
join_of (Put a) at s m e cells is asc low high = cc
join_of (ConditionalPut a) at s m e cells is asc low high = cc
join_of (InitPut a) at s m e cells is asc low high = cc
join_of (Increment a) at s m e cells is asc low high = cc
join_of (Delete a) at s m e cells is asc low high = cc
join_of (DeleteRange a) at s m e cells is asc low high = join-over (DeleteRange a) refl at a.start a.end s m e cells is asc low high
join_of (EndTxn a) at s m e cells is asc low high = cc
join_of (QueryIntent a) at s m e cells is asc low high = cc
join_of (ResolveIntent a) at s m e cells is asc low high = cc
join_of (ResolveIntentRange a) at s m e cells is asc low high = join-over (ResolveIntentRange a) refl at a.start a.end s m e cells is asc low high
join_of (AdminSplit a) at s m e cells is asc low high = cc
join_of (AdminTransferLease a) at s m e cells is asc low high = cc

-- cuts

cut_of : (r : Request) → CutLaw deed_of body_of reach_of cut_to r
cut_of (Get a) s e = (λ at c. refl, λ bits. refl, refl)
cut_of (Scan a) s e = (λ at c. refl, λ bits. refl, refl)
cut_of (ReverseScan a) s e = (λ at c. refl, λ bits. refl, refl)
cut_of (Put a) s e = (λ at c. refl, λ bits. refl, refl)
cut_of (ConditionalPut a) s e = (λ at c. refl, λ bits. refl, refl)
cut_of (InitPut a) s e = (λ at c. refl, λ bits. refl, refl)
cut_of (Increment a) s e = (λ at c. refl, λ bits. refl, refl)
cut_of (Delete a) s e = (λ at c. refl, λ bits. refl, refl)
cut_of (DeleteRange a) s e = (λ at c. refl, λ bits. refl, refl)
cut_of (EndTxn a) s e = (λ at c. refl, λ bits. refl, refl)
cut_of (QueryIntent a) s e = (λ at c. refl, λ bits. refl, refl)
cut_of (ResolveIntent a) s e = (λ at c. refl, λ bits. refl, refl)
cut_of (ResolveIntentRange a) s e = (λ at c. refl, λ bits. refl, refl)
cut_of (AdminSplit a) s e = (λ at c. refl, λ bits. refl, refl)
cut_of (AdminTransferLease a) s e = (λ at c. refl, λ bits. refl, refl)

-- one key

point-point : (r : Request) (at : Who) (q k : List ℕ) (c : Content) → holds q (after q) k ≡ true → respond (body_of r) (ask_at (deed_of r at) (Point q) ((k, c) ∷ [])) ≡ respond (body_of r) (one_more k (deed_of r at c) (Gave [] []))
point-point r at q k c here =
    subst (λ z. respond (body_of r) (one_more z (deed_of r at (content_of (cond (key_eq k z) (Some (k, c)) None))) (Gave [] [])) ≡ respond (body_of r) (one_more k (deed_of r at c) (Gave [] []))) (point-holds q k here)
    (ap (λ t. respond (body_of r) (one_more k (deed_of r at (content_of (cond t (Some (k, c)) None))) (Gave [] []))) (eq_itself k))

point-span : (r : Request) (at : Who) (k : List ℕ) (c : Content) → respond (body_of r) (ask (deed_of r at) k (after k) ((k, c) ∷ [])) ≡ respond (body_of r) (one_more k (deed_of r at c) (Gave [] []))
point-span r at k c = ap (λ t. respond (body_of r) (ask_each (deed_of r at) (cond t ((k, c) ∷ []) []))) (own_span k)

point_of : (r : Request) → PointLaw deed_of body_of reach_of cut_to respond_to r
point_of (Get a) at k c here = point-point (Get a) at a.key k c here
point_of (Scan a) at k c here = point-span (Scan a) at k c
point_of (ReverseScan a) at k c here = point-span (ReverseScan a) at k c
point_of (Put a) at k c here = point-point (Put a) at a.key k c here
point_of (ConditionalPut a) at k c here = point-point (ConditionalPut a) at a.key k c here
point_of (InitPut a) at k c here = point-point (InitPut a) at a.key k c here
point_of (Increment a) at k c here = point-point (Increment a) at a.key k c here
point_of (Delete a) at k c here = point-point (Delete a) at a.key k c here
point_of (DeleteRange a) at k c here = point-span (DeleteRange a) at k c
point_of (EndTxn a) at k c here = point-point (EndTxn a) at a.key k c here
point_of (QueryIntent a) at k c here = point-point (QueryIntent a) at a.key k c here
point_of (ResolveIntent a) at k c here = point-point (ResolveIntent a) at a.key k c here
point_of (ResolveIntentRange a) at k c here = point-span (ResolveIntentRange a) at k c
point_of (AdminSplit a) at k c here = point-point (AdminSplit a) at a.key k c here
point_of (AdminTransferLease a) at k c here = point-point (AdminTransferLease a) at a.key k c here

-- repeat

replied-body : (b c : Body) (ws vs : List (List ℕ × Option Value)) → Replied b ws ≡ Replied c vs → b ≡ c
replied-body b c ws vs h = cc

replied-writes : (b c : Body) (ws vs : List (List ℕ × Option Value)) → Replied b ws ≡ Replied c vs → ws ≡ vs
replied-writes b c ws vs h = cc

same-response : (r : Request) (x y : Asked) → SameAnswer r x y → respond (body_of r) x ≡ respond (body_of r) y
same-response r (Failed k f) (Failed q g) h = ap (λ z. Refused z f) h.0 ∙ ap (Refused q) h.1
same-response r (Failed k f) (Gave cs vs) h = absurd h
same-response r (Gave bs ws) (Failed q g) h = absurd h
same-response r (Gave bs ws) (Gave cs vs) h = ap (λ b. Replied b ws) h.0 ∙ ap (Replied (body_of r cs)) h.1

abbrev Stands : Who → Reach → Cells → Cells → List (List ℕ × Option Value) → Type 0
Stands at p cells later ws = (k : List ℕ) → Within p k → IsLater at (content_at k (write_all at ws cells)) (content_at k later)

repeat-span : (r : Request) (at : Who) → quiet (deed_of r at no_content) ≡ true → ((bs : Bits) → body_of r (tell bs) ≡ body_of r bs) → (s e : List ℕ) (cells later : Cells) (b : Body) (ws : List (List ℕ × Option Value)) → Ascends key_of cells → Ascends key_of later
    → (x : Asked) → ask (deed_of r at) s e cells ≡ x → respond (body_of r) x ≡ Replied b ws → Stands at (Over s e) cells later ws → respond (body_of r) (ask (deed_of r at) s e later) ≡ Replied b []
repeat-span r at q says s e cells later b ws asc asc_later (Failed k f) is h stands = cc
repeat-span r at q says s e cells later b ws asc asc_later (Gave bs vs) is h stands =
    sym (same-response r (Gave bs []) (ask (deed_of r at) s e later)
    (same_answer r says (Gave bs []) (ask (deed_of r at) s e later)
    (told-again (deed_of r) (repeats_of r) at q s e cells later bs ws asc asc_later (is ∙ ap (Gave bs) (replied-writes _ b vs ws h)) stands)))
    ∙ ap (λ z. Replied z []) (replied-body _ b vs ws h)

repeat-verdict : (r : Request) (at : Who) (k : List ℕ) (cells later : Cells) (b : Body) (ws : List (List ℕ × Option Value)) (v : Verdict) → deed_of r at (content_at k cells) ≡ v
    → respond (body_of r) (one_more k v (Gave [] [])) ≡ Replied b ws → IsLater at (content_at k (write_all at ws cells)) (content_at k later)
    → respond (body_of r) (one_more k (deed_of r at (content_at k later)) (Gave [] [])) ≡ Replied b []
repeat-verdict r at k cells later b ws (Refuse f) is h stands = cc
repeat-verdict r at k cells later b ws (Keep t) is h stands =
    ap (λ v. respond (body_of r) (one_more k v (Gave [] []))) (again_is (Keep t) is (subst (λ vs. IsLater at (content_at k (write_all at vs cells)) (content_at k later)) (sym (replied-writes _ b [] ws h)) stands))
    ∙ ap (λ z. Replied z []) (replied-body _ b [] ws h)
  where
    again_is : (v : Verdict) → deed_of r at (content_at k cells) ≡ v → IsLater at (content_after at v (content_at k cells)) (content_at k later) → Repeats v (deed_of r at (content_at k later))
    again_is v is stands =
        subst (λ u. IsLater at (content_after at u (content_at k cells)) (content_at k later) → Repeats u (deed_of r at (content_at k later))) is
        (repeats_of r at (content_at k cells) (content_at k later)) stands
repeat-verdict r at k cells later b ws (Write w t) is h stands =
    ap (λ v. respond (body_of r) (one_more k v (Gave [] [])))
    (again_is (Write w t) is
    (subst (λ c. IsLater at c (content_at k later)) (put-itself k (wrote at w) cells)
    (subst (λ vs. IsLater at (content_at k (write_all at vs cells)) (content_at k later)) (sym (replied-writes _ b ((k, w) ∷ []) ws h)) stands)))
    ∙ ap (λ z. Replied z []) (replied-body _ b ((k, w) ∷ []) ws h)
  where
    again_is : (v : Verdict) → deed_of r at (content_at k cells) ≡ v → IsLater at (content_after at v (content_at k cells)) (content_at k later) → Repeats v (deed_of r at (content_at k later))
    again_is v is stands =
        subst (λ u. IsLater at (content_after at u (content_at k cells)) (content_at k later) → Repeats u (deed_of r at (content_at k later))) is
        (repeats_of r at (content_at k cells) (content_at k later)) stands

repeat-point : (r : Request) (at : Who) (k : List ℕ) (cells later : Cells) (b : Body) (ws : List (List ℕ × Option Value)) → respond (body_of r) (ask_at (deed_of r at) (Point k) cells) ≡ Replied b ws → Stands at (Point k) cells later ws → respond (body_of r) (ask_at (deed_of r at) (Point k) later) ≡ Replied b []
repeat-point r at k cells later b ws h stands = repeat-verdict r at k cells later b ws _ refl h (stands k (own_span k))

repeat_of : (r : Request) → RepeatLaw reach_of respond_to r
repeat_of (Get a) at cells later b ws asc asc_later h stands = repeat-point (Get a) at a.key cells later b ws h stands
repeat_of (Scan a) at cells later b ws asc asc_later h stands = repeat-span (Scan a) at (quiet_read at) (λ bs. ap Rows (rows_told bs)) a.start a.end cells later b ws asc asc_later _ refl h stands
repeat_of (ReverseScan a) at cells later b ws asc asc_later h stands = repeat-span (ReverseScan a) at (quiet_read at) (λ bs. ap (λ rs. Rows (reverse rs)) (rows_told bs)) a.start a.end cells later b ws asc asc_later _ refl h stands
repeat_of (Put a) at cells later b ws asc asc_later h stands = repeat-point (Put a) at a.key cells later b ws h stands
repeat_of (ConditionalPut a) at cells later b ws asc asc_later h stands = repeat-point (ConditionalPut a) at a.key cells later b ws h stands
repeat_of (InitPut a) at cells later b ws asc asc_later h stands = repeat-point (InitPut a) at a.key cells later b ws h stands
repeat_of (Increment a) at cells later b ws asc asc_later h stands = repeat-point (Increment a) at a.key cells later b ws h stands
repeat_of (Delete a) at cells later b ws asc asc_later h stands = repeat-point (Delete a) at a.key cells later b ws h stands
repeat_of (DeleteRange a) at cells later b ws asc asc_later h stands = repeat-span (DeleteRange a) at (quiet_delete at) (λ bs. ap Keys (keys_told bs)) a.start a.end cells later b ws asc asc_later _ refl h stands
repeat_of (EndTxn a) at cells later b ws asc asc_later h stands = repeat-point (EndTxn a) at a.key cells later b ws h stands
repeat_of (QueryIntent a) at cells later b ws asc asc_later h stands = repeat-point (QueryIntent a) at a.key cells later b ws h stands
repeat_of (ResolveIntent a) at cells later b ws asc asc_later h stands = repeat-point (ResolveIntent a) at a.key cells later b ws h stands
repeat_of (ResolveIntentRange a) at cells later b ws asc asc_later h stands = repeat-span (ResolveIntentRange a) at (quiet_nothing at) (λ bs. refl) a.start a.end cells later b ws asc asc_later _ refl h stands
repeat_of (AdminSplit a) at cells later b ws asc asc_later h stands = repeat-point (AdminSplit a) at a.key cells later b ws h stands
repeat_of (AdminTransferLease a) at cells later b ws asc asc_later h stands = repeat-point (AdminTransferLease a) at a.key cells later b ws h stands

-- extent

reads_of : (r : Request) → ReadsLaw reach_of respond_to r
reads_of r at cells others asc asc_others same =
    same-response r _ _ (by_key r at cells others asc asc_others (λ k here. ap (deed_of r at) (same k here)))

row-in : (s e k : List ℕ) (b : Bit) (rows : List Row) → holds s e k ≡ true → AllIn (λ (r : Row). r.key) s e rows → AllIn (λ (r : Row). r.key) s e (with_row k b rows)
row-in s e k Nothing rows here all = all
row-in s e k (Shown None) rows here all = all
row-in s e k (Shown (Some v)) rows here all = (here, all)
row-in s e k Gone rows here all = all
row-in s e k Hit rows here all = all

rows-in : (s e : List ℕ) (bits : Bits) → AllIn key_of s e bits → AllIn (λ (r : Row). r.key) s e (rows_of bits)
rows-in s e [] all = tt
rows-in s e (b ∷ bs) all = row-in s e b.0 b.1 (rows_of bs) all.0 (rows-in s e bs all.1)

gone-in : (s e k : List ℕ) (b : Bit) (keys : List (List ℕ)) → holds s e k ≡ true → AllIn (λ q. q) s e keys → AllIn (λ q. q) s e (with_gone k b keys)
gone-in s e k Nothing keys here all = all
gone-in s e k (Shown v) keys here all = all
gone-in s e k Gone keys here all = (here, all)
gone-in s e k Hit keys here all = all

keys-in : (s e : List ℕ) (bits : Bits) → AllIn key_of s e bits → AllIn (λ q. q) s e (gone_keys bits)
keys-in s e [] all = tt
keys-in s e (b ∷ bs) all = gone-in s e b.0 b.1 (gone_keys bs) all.0 (keys-in s e bs all.1)

append-in : {X : Type 0} (f : X → List ℕ) (s e : List ℕ) (xs ys : List X) → AllIn f s e xs → AllIn f s e ys → AllIn f s e (xs ++ ys)
append-in f s e [] ys a b = b
append-in f s e (x ∷ xs) ys a b = (a.0, append-in f s e xs ys a.1 b)

reverse-in : {X : Type 0} (f : X → List ℕ) (s e : List ℕ) (xs : List X) → AllIn f s e xs → AllIn f s e (reverse xs)
reverse-in f s e [] a = tt
reverse-in f s e (x ∷ xs) a = subst (AllIn f s e) (sym (reverse-append (x ∷ []) xs)) (append-in f s e (reverse xs) (x ∷ []) (reverse-in f s e xs a.1) (a.0, tt))

names-in : (r : Request) (s e : List ℕ) (bits : Bits) → AllIn key_of s e bits → NamesIn s e (body_of r bits)
names-in (Get a) s e bits all = tt
names-in (Scan a) s e bits all = rows-in s e bits all
names-in (ReverseScan a) s e bits all = reverse-in _ s e (rows_of bits) (rows-in s e bits all)
names-in (Put a) s e bits all = tt
names-in (ConditionalPut a) s e bits all = tt
names-in (InitPut a) s e bits all = tt
names-in (Increment a) s e bits all = tt
names-in (Delete a) s e bits all = tt
names-in (DeleteRange a) s e bits all = keys-in s e bits all
names-in (EndTxn a) s e bits all = tt
names-in (QueryIntent a) s e bits all = tt
names-in (ResolveIntent a) s e bits all = tt
names-in (ResolveIntentRange a) s e bits all = tt
names-in (AdminSplit a) s e bits all = tt
names-in (AdminTransferLease a) s e bits all = tt

responds-in : (r : Request) (s e : List ℕ) (x : Asked) → StandsIn s e x → RespondsIn s e (respond (body_of r) x)
responds-in r s e (Failed k f) h = h
responds-in r s e (Gave bs ws) h = (names-in r s e bs h.0, h.1)

stays_of : (r : Request) → StaysLaw reach_of respond_to r
stays_of r at cells = responds-in r _ _ (ask_request r at cells) (stands_at (deed_of r at) (reach_of r) cells)

-- flags

no_writes : (body : Bits → Body) (x : Asked) → WroteNothing x → NoWrites (respond body x)
no_writes body (Failed k f) h = tt
no_writes body (Gave bs ws) h = h

flag_of : (r : Request) → FlagLaw (flags_of (kind_of r)).write respond_to r
flag_of r at cells off = no_writes (body_of r) (ask_request r at cells) (writes_of r at (reach_of r) cells off)

-- all laws of a request
pub laws_of : (r : Request) → Lawful (flags_of (kind_of r)) deed_of body_of reach_of cut_to respond_to r
laws_of r = (λ at cells. refl, join_of r, point_of r, cut_of r, repeat_of r, reads_of r, stays_of r, flag_of r)
