-- A request over a span is decided by what it does at each key. It stands here since the laws of the trait `Acts` cite it.
use Rattle.std.proofs.Common.{◌≡◌, ℕ, Bool, true, false, not, cond, List, [], ◌∷◌, reverse, refl, sym, ap, ◌∙◌, subst, Option, Some, None, ◌==◌}
use Rattle.std.specs.List.{filter}
use Rattle.ds_base.specs.Order.{holds, after}
use Rattle.ds_base.specs.Ordered.{key_eq, AllOver, Ascends, at_key, between}
use Rattle.ds_base.proofs.KeyFacts.{own_span}
use Rattle.ds_base.proofs.OrderedFacts.{eq_same, at-none, same_list, ascends-between, at_key-between}
use Rattle.ds_base.specs.declared.value.Value.{Value}
use Rattle.ds_base.specs.declared.value.Stamp.{Stamp}
use Rattle.ds_kind.specs.declared.reply.Body.TheVariants.{Rows, Gone as Keys}
use Rattle.ds_kind.specs.declared.request.Request.{Request}
use Rattle.ds_kind.specs.declared.request.Request.TheVariants.{Get, Scan, ReverseScan, Put, ConditionalPut, InitPut, Increment, Delete, DeleteRange, EndTxn, QueryIntent, ResolveIntent, ResolveIntentRange, AdminSplit, AdminTransferLease}
use Rattle.ds_cell.specs.declared.entry.At.{At}
use Rattle.ds_cell.specs.declared.entry.Written.{Written}
use Rattle.ds_cell.specs.declared.verdict.Verdict.{Verdict}
use Rattle.ds_cell.specs.declared.verdict.Verdict.TheVariants.{Keep, Put as Write, Refuse}
use Rattle.ds_cell.specs.declared.verdict.Bit.{Bit}
use Rattle.ds_cell.specs.declared.verdict.Bit.TheVariants.{Nothing, Value as Shown, Gone, Hit}
use Rattle.ds_cell.specs.declared.verdict.ActFault.{ActFault}
use Rattle.ds_cell.specs.Content.{Content, no_content}
use Rattle.ds_cell.specs.Seen.{own, held, seen, newest, under, value_seen, unless_written, newest_from, too_old}
use Rattle.ds_cell.specs.Deed.{deed, decide, guarded, look_of}
use Rattle.ds_cell.specs.Ask.{Cells, key_of, Asked, Failed, Gave, one_more, ask_each, ask, content_of, content_at}
use Rattle.ds_cell.specs.Kinds.{judge_nothing, judge_read, judge_delete_range, gone_of, nothing, gone}
use Rattle.ds_cell.specs.Replies.{Bits, with_row, rows_of, with_gone, gone_keys, body_of}
use Rattle.ds_cell.specs.Requests.{deed_of, SameAnswer, KeysLaw}

-- whether an answer says anything
abbrev pub telling : Bit → Bool
telling Nothing = false
telling (Shown None) = false
telling (Shown (Some v)) = true
telling Gone = true
telling Hit = true

-- whether a verdict leaves no trace
abbrev pub quiet : Verdict → Bool
quiet (Keep b) = not (telling b)
quiet (Write w b) = false
quiet (Refuse f) = false

abbrev pub tell : Bits → Bits
tell bits = filter (λ b. telling b.1) bits

abbrev pub told : Asked → Asked
told (Failed k f) = Failed k f
told (Gave bs ws) = Gave (tell bs) ws

tell_twice : (bs : Bits) → tell (tell bs) ≡ tell bs
tell_twice [] = refl
tell_twice (b ∷ bs) =
    elim (telling b.1) as (λ t. telling b.1 ≡ t → tell (cond t (b ∷ tell bs) (tell bs)) ≡ cond t (b ∷ tell bs) (tell bs)) [
      | true ↦ λ e. ap (λ t. cond t (b ∷ tell (tell bs)) (tell (tell bs))) e ∙ ap (λ xs. b ∷ xs) (tell_twice bs)
      | false ↦ λ e. tell_twice bs
    ] refl

told_more : (k : List ℕ) (v : Verdict) (r : Asked) → told (one_more k v r) ≡ told (one_more k v (told r))
told_more k (Refuse f) r = refl
told_more k (Keep b) (Failed q f) = refl
told_more k (Write w b) (Failed q f) = refl
told_more k (Keep b) (Gave bs ws) = ap (λ xs. Gave (cond (telling b) ((k, b) ∷ xs) xs) ws) (sym (tell_twice bs))
told_more k (Write w b) (Gave bs ws) = ap (λ xs. Gave (cond (telling b) ((k, b) ∷ xs) xs) ((k, w) ∷ ws)) (sym (tell_twice bs))

quiet_keep : (k : List ℕ) (b : Bit) (bs : Bits) (ws : List (List ℕ × Option Value)) (t : Bool) → not t ≡ true → Gave (cond t ((k, b) ∷ tell bs) (tell bs)) ws ≡ Gave (tell bs) ws
quiet_keep k b bs ws true h = cc
quiet_keep k b bs ws false h = refl

quiet_more : (k : List ℕ) (v : Verdict) (r : Asked) → quiet v ≡ true → told (one_more k v r) ≡ told r
quiet_more k (Refuse f) r h = cc
quiet_more k (Write w b) r h = cc
quiet_more k (Keep b) (Failed q f) h = refl
quiet_more k (Keep b) (Gave bs ws) h = quiet_keep k b bs ws (telling b) h

-- what is done at the keys, but where it leaves no trace
abbrev loud_of : (Content → Verdict) → Cells → List (List ℕ × Verdict)
loud_of d [] = []
loud_of d (p ∷ ps) = cond (quiet (d p.1)) (loud_of d ps) ((p.0, d p.1) ∷ loud_of d ps)

abbrev gather : List (List ℕ × Verdict) → Asked
gather [] = Gave [] []
gather (x ∷ xs) = one_more x.0 x.1 (gather xs)

told_loud : (d : Content → Verdict) (ps : Cells) → told (ask_each d ps) ≡ told (gather (loud_of d ps))
told_loud d [] = refl
told_loud d (p ∷ ps) =
    elim (quiet (d p.1)) as (λ t. quiet (d p.1) ≡ t → told (one_more p.0 (d p.1) (ask_each d ps)) ≡ told (gather (cond t (loud_of d ps) ((p.0, d p.1) ∷ loud_of d ps)))) [
      | true ↦ λ e. quiet_more p.0 (d p.1) (ask_each d ps) e ∙ told_loud d ps
      | false ↦ λ e.
          told_more p.0 (d p.1) (ask_each d ps)
          ∙ ap (λ r. told (one_more p.0 (d p.1) r)) (told_loud d ps)
          ∙ sym (told_more p.0 (d p.1) (gather (loud_of d ps)))
    ] refl

over_loud : (d : Content → Verdict) (k : List ℕ) (ps : Cells) → AllOver key_of k ps → AllOver key_of k (loud_of d ps)
over_loud d k [] all = tt
over_loud d k (p ∷ ps) all =
    elim (quiet (d p.1)) as (λ t. AllOver key_of k (cond t (loud_of d ps) ((p.0, d p.1) ∷ loud_of d ps))) [
      | true ↦ over_loud d k ps all.1
      | false ↦ (all.0, over_loud d k ps all.1)
    ]

loud_ascends : (d : Content → Verdict) (ps : Cells) → Ascends key_of ps → Ascends key_of (loud_of d ps)
loud_ascends d [] asc = tt
loud_ascends d (p ∷ ps) asc =
    elim (quiet (d p.1)) as (λ t. Ascends key_of (cond t (loud_of d ps) ((p.0, d p.1) ∷ loud_of d ps))) [
      | true ↦ loud_ascends d ps asc.1
      | false ↦ (over_loud d p.0 ps asc.0, loud_ascends d ps asc.1)
    ]

abbrev loud_at : List ℕ → Verdict → Option (List ℕ × Verdict)
loud_at k v = cond (quiet v) None (Some (k, v))

-- what is done at a key
at_key-loud : (d : Content → Verdict) → quiet (d no_content) ≡ true → (k : List ℕ) (ps : Cells) → Ascends key_of ps → at_key key_of k (loud_of d ps) ≡ loud_at k (d (content_at k ps))
at_key-loud d q k [] asc = sym (ap (λ t. cond t None (Some (k, d no_content))) q)
at_key-loud d q k (p ∷ ps) asc =
    elim (key_eq p.0 k) as (λ t. key_eq p.0 k ≡ t → at_key key_of k (cond (quiet (d p.1)) (loud_of d ps) ((p.0, d p.1) ∷ loud_of d ps)) ≡ loud_at k (d (content_of (cond t (Some p) (at_key key_of k ps))))) [
      | true ↦ λ same.
          let key : p.0 ≡ k = eq_same p.0 k same in
          elim (quiet (d p.1)) as (λ t. at_key key_of k (cond t (loud_of d ps) ((p.0, d p.1) ∷ loud_of d ps)) ≡ cond t None (Some (k, d p.1))) [
            | true ↦ subst (λ z. at_key key_of z (loud_of d ps) ≡ None) key (at-none key_of p.0 (loud_of d ps) (over_loud d p.0 ps asc.0))
            | false ↦ ap (λ t. cond t (Some (p.0, d p.1)) (at_key key_of k (loud_of d ps))) same ∙ ap (λ z. Some (z, d p.1)) key
          ]
      | false ↦ λ other.
          elim (quiet (d p.1)) as (λ t. at_key key_of k (cond t (loud_of d ps) ((p.0, d p.1) ∷ loud_of d ps)) ≡ loud_at k (d (content_at k ps))) [
            | true ↦ at_key-loud d q k ps asc.1
            | false ↦ ap (λ t. cond t (Some (p.0, d p.1)) (at_key key_of k (loud_of d ps))) other ∙ at_key-loud d q k ps asc.1
          ]
    ] refl

same_told : (d d' : Content → Verdict) → quiet (d no_content) ≡ true → quiet (d' no_content) ≡ true → (xs ys : Cells) → Ascends key_of xs → Ascends key_of ys → ((k : List ℕ) → d (content_at k xs) ≡ d' (content_at k ys)) → told (ask_each d xs) ≡ told (ask_each d' ys)
same_told d d' q q' xs ys ax ay same =
    told_loud d xs
    ∙ ap (λ vs. told (gather vs)) (same_list key_of (loud_of d xs) (loud_of d' ys) (loud_ascends d xs ax) (loud_ascends d' ys ay)
    (λ k. at_key-loud d q k xs ax ∙ ap (loud_at k) (same k) ∙ sym (at_key-loud d' q' k ys ay)))
    ∙ sym (told_loud d' ys)

content_cond : (t : Bool) (o : Option (List ℕ × Content)) → content_of (cond t o None) ≡ cond t (content_of o) no_content
content_cond true o = refl
content_cond false o = refl

content_between : (s e k : List ℕ) (cells : Cells) → content_at k (between key_of s e cells) ≡ cond (holds s e k) (content_at k cells) no_content
content_between s e k cells = ap content_of (at_key-between key_of s e k cells) ∙ content_cond (holds s e k) (at_key key_of k cells)

same_in_span : (d d' : Content → Verdict) (s e k : List ℕ) (xs ys : Cells) → d no_content ≡ d' no_content → (holds s e k ≡ true → d (content_at k xs) ≡ d' (content_at k ys)) → d (cond (holds s e k) (content_at k xs) no_content) ≡ d' (cond (holds s e k) (content_at k ys) no_content)
same_in_span d d' s e k xs ys none same =
    elim (holds s e k) as (λ t. holds s e k ≡ t → d (cond t (content_at k xs) no_content) ≡ d' (cond t (content_at k ys) no_content)) [
      | true ↦ λ h. same h
      | false ↦ λ h. none
    ] refl

-- over a span, by its keys, for two that do the same where nothing stands
pub told_by_key : (d d' : Content → Verdict) → quiet (d no_content) ≡ true → d no_content ≡ d' no_content → (s e : List ℕ) (xs ys : Cells) → Ascends key_of xs → Ascends key_of ys → ((k : List ℕ) → holds s e k ≡ true → d (content_at k xs) ≡ d' (content_at k ys)) → told (ask d s e xs) ≡ told (ask d' s e ys)
told_by_key d d' q none s e xs ys ax ay same =
    same_told d d' q (ap quiet (sym none) ∙ q) (between key_of s e xs) (between key_of s e ys) (ascends-between key_of s e xs ax) (ascends-between key_of s e ys ay)
    (λ k. ap d (content_between s e k xs) ∙ same_in_span d d' s e k xs ys none (same k) ∙ sym (ap d' (content_between s e k ys)))

-- replies say only what was told

row_told : (k : List ℕ) (b : Bit) (bs : Bits) → rows_of (cond (telling b) ((k, b) ∷ tell bs) (tell bs)) ≡ with_row k b (rows_of (tell bs))
row_told k Nothing bs = refl
row_told k (Shown None) bs = refl
row_told k (Shown (Some v)) bs = refl
row_told k Gone bs = refl
row_told k Hit bs = refl

pub rows_told : (bs : Bits) → rows_of (tell bs) ≡ rows_of bs
rows_told [] = refl
rows_told (b ∷ bs) = row_told b.0 b.1 bs ∙ ap (with_row b.0 b.1) (rows_told bs)

key_told : (k : List ℕ) (b : Bit) (bs : Bits) → gone_keys (cond (telling b) ((k, b) ∷ tell bs) (tell bs)) ≡ with_gone k b (gone_keys (tell bs))
key_told k Nothing bs = refl
key_told k (Shown None) bs = refl
key_told k (Shown (Some v)) bs = refl
key_told k Gone bs = refl
key_told k Hit bs = refl

pub keys_told : (bs : Bits) → gone_keys (tell bs) ≡ gone_keys bs
keys_told [] = refl
keys_told (b ∷ bs) = key_told b.0 b.1 bs ∙ ap (with_gone b.0 b.1) (keys_told bs)

failed_key : (k q : List ℕ) (f g : ActFault) → Failed k f ≡ Failed q g → k ≡ q
failed_key k q f g h = cc

failed_fault : (k q : List ℕ) (f g : ActFault) → Failed k f ≡ Failed q g → f ≡ g
failed_fault k q f g h = cc

gave_bits : (bs cs : Bits) (ws vs : List (List ℕ × Option Value)) → Gave bs ws ≡ Gave cs vs → bs ≡ cs
gave_bits bs cs ws vs h = cc

gave_writes : (bs cs : Bits) (ws vs : List (List ℕ × Option Value)) → Gave bs ws ≡ Gave cs vs → ws ≡ vs
gave_writes bs cs ws vs h = cc

-- the same told, the same answer, where the body says only what was told
pub same_answer : (r : Request) → ((bs : Bits) → body_of r (tell bs) ≡ body_of r bs) → (a b : Asked) → told a ≡ told b → SameAnswer r a b
same_answer r says (Failed k f) (Failed q g) h = (failed_key k q f g h, failed_fault k q f g h)
same_answer r says (Failed k f) (Gave cs vs) h = cc
same_answer r says (Gave bs ws) (Failed q g) h = cc
same_answer r says (Gave bs ws) (Gave cs vs) h =
    (sym (says bs) ∙ ap (body_of r) (gave_bits _ _ ws vs h) ∙ says cs, gave_writes (tell bs) (tell cs) ws vs h)

same_itself : (r : Request) (a b : Asked) → a ≡ b → SameAnswer r a b
same_itself r (Failed k f) (Failed q g) h = (failed_key k q f g h, failed_fault k q f g h)
same_itself r (Failed k f) (Gave cs vs) h = cc
same_itself r (Gave bs ws) (Failed q g) h = cc
same_itself r (Gave bs ws) (Gave cs vs) h = (ap (body_of r) (gave_bits bs cs ws vs h), gave_writes bs cs ws vs h)

-- what the kinds that go over spans do where nothing stands

nil_if : (t : Bool) (h : List Written) → h ≡ [] → cond t h [] ≡ []
nil_if true h e = e
nil_if false h e = refl

own_nothing : (at : At) → own at no_content ≡ []
own_nothing at = nil_if (0 == at.epoch) (held at.txn.0 no_content) (nil_if (0 == at.txn.0) [] refl)

nothing_seen : (at : At) (n : ℕ) → seen at n no_content ≡ None
nothing_seen at n = ap (λ h. value_seen (newest n h) None) (own_nothing at)

quiet_guarded : (t : Option Stamp) (b : Bit) → telling b ≡ false → quiet (guarded t (Keep b)) ≡ true
quiet_guarded None b h = ap not h
quiet_guarded (Some t) b h = ap not h

pub quiet_read : (at : At) → quiet (deed false judge_read nothing at no_content) ≡ true
quiet_read at = quiet_guarded (too_old at no_content) (Shown (seen at at.seq.0 no_content)) (ap (λ v. telling (Shown v)) (nothing_seen at at.seq.0))

pub quiet_nothing : (at : At) → quiet (deed false judge_nothing nothing at no_content) ≡ true
quiet_nothing at = quiet_guarded (too_old at no_content) Nothing refl

pub quiet_delete : (at : At) → quiet (deed true judge_delete_range gone at no_content) ≡ true
quiet_delete at =
    ap (λ h. quiet (decide (under at.seq.0 h) gone (unless_written h (newest_from at.stamp.0 no_content)) (gone_of (value_seen (newest (look_of true at.seq.0) h) None)))) (own_nothing at)

point_same : (r : Request) (at : At) (k : List ℕ) (xs ys : Cells) → ((q : List ℕ) → holds k (after k) q ≡ true → deed_of r at (content_at q xs) ≡ deed_of r at (content_at q ys)) → SameAnswer r (one_more k (deed_of r at (content_at k xs)) (Gave [] [])) (one_more k (deed_of r at (content_at k ys)) (Gave [] []))
point_same r at k xs ys same = same_itself r _ _ (ap (λ v. one_more k v (Gave [] [])) (same k (own_span k)))

span_same : (r : Request) (at : At) → quiet (deed_of r at no_content) ≡ true → ((bs : Bits) → body_of r (tell bs) ≡ body_of r bs) → (s e : List ℕ) (xs ys : Cells) → Ascends key_of xs → Ascends key_of ys → ((k : List ℕ) → holds s e k ≡ true → deed_of r at (content_at k xs) ≡ deed_of r at (content_at k ys)) → SameAnswer r (ask (deed_of r at) s e xs) (ask (deed_of r at) s e ys)
span_same r at q says s e xs ys ax ay same = same_answer r says _ _ (told_by_key (deed_of r at) (deed_of r at) q refl s e xs ys ax ay same)

pub by_key : (r : Request) → KeysLaw r
by_key (Get a) at xs ys ax ay same = point_same (Get a) at a.key xs ys same
by_key (Scan a) at xs ys ax ay same = span_same (Scan a) at (quiet_read at) (λ bs. ap Rows (rows_told bs)) a.start a.end xs ys ax ay same
by_key (ReverseScan a) at xs ys ax ay same = span_same (ReverseScan a) at (quiet_read at) (λ bs. ap (λ rs. Rows (reverse rs)) (rows_told bs)) a.start a.end xs ys ax ay same
by_key (Put a) at xs ys ax ay same = point_same (Put a) at a.key xs ys same
by_key (ConditionalPut a) at xs ys ax ay same = point_same (ConditionalPut a) at a.key xs ys same
by_key (InitPut a) at xs ys ax ay same = point_same (InitPut a) at a.key xs ys same
by_key (Increment a) at xs ys ax ay same = point_same (Increment a) at a.key xs ys same
by_key (Delete a) at xs ys ax ay same = point_same (Delete a) at a.key xs ys same
by_key (DeleteRange a) at xs ys ax ay same = span_same (DeleteRange a) at (quiet_delete at) (λ bs. ap Keys (keys_told bs)) a.start a.end xs ys ax ay same
by_key (EndTxn a) at xs ys ax ay same = point_same (EndTxn a) at a.key xs ys same
by_key (QueryIntent a) at xs ys ax ay same = point_same (QueryIntent a) at a.key xs ys same
by_key (ResolveIntent a) at xs ys ax ay same = point_same (ResolveIntent a) at a.key xs ys same
by_key (ResolveIntentRange a) at xs ys ax ay same = span_same (ResolveIntentRange a) at (quiet_nothing at) (λ bs. refl) a.start a.end xs ys ax ay same
by_key (AdminSplit a) at xs ys ax ay same = point_same (AdminSplit a) at a.key xs ys same
by_key (AdminTransferLease a) at xs ys ax ay same = point_same (AdminTransferLease a) at a.key xs ys same
