-- The writes of one request go under a number that is free at each of their keys, and to different keys.
use Rattle.std.proofs.Common.{◌≡◌, ℕ, Bool, true, false, cond, List, [], ◌∷◌, Option, Some, None, is_some, refl, sym, ap, ◌∙◌, subst}
use Rattle.std.specs.BTreeMap.{insert_entry}
use Rattle.std.specs.Ordering.{match_ordering}
use Rattle.std.specs.declared.cmp.Ordering.TheVariants.{Less, Equal, Greater}
use Rattle.ds_base.specs.Order.{key_cmp, holds}
use Rattle.ds_base.specs.Ordered.{key_eq, AllOver, Ascends, at_key, between}
use Rattle.ds_base.specs.declared.value.Stamp.{Stamp}
use Rattle.ds_base.specs.declared.value.Value.{Value}
use Rattle.ds_base.proofs.OrderedFacts.{eq_itself, lt_not_eq, ascends-between}
use Rattle.ds_kind.specs.Reach.{Reach, At as Point, Over}
use Rattle.ds_kind.specs.Request.{reach_of}
use Rattle.ds_kind.specs.declared.request.Request.{Request}
use Rattle.ds_kind.specs.declared.request.Request.TheVariants.{Get, Scan, ReverseScan, Put, ConditionalPut, InitPut, Increment, Delete, DeleteRange, EndTxn, QueryIntent, ResolveIntent, ResolveIntentRange, AdminSplit, AdminTransferLease}
use Rattle.ds_cell.specs.declared.entry.At.{At}
use Rattle.ds_cell.specs.declared.entry.Written.{Written}
use Rattle.ds_cell.specs.declared.verdict.Verdict.{Verdict}
use Rattle.ds_cell.specs.declared.verdict.Verdict.TheVariants.{Keep, Put as Write}
use Rattle.ds_cell.specs.declared.verdict.Bit.{Bit}
use Rattle.ds_cell.specs.Content.{Content}
use Rattle.ds_cell.specs.Seen.{under, own, too_old}
use Rattle.ds_cell.specs.Change.{wrote}
use Rattle.ds_cell.specs.Deed.{Sight, sight, look_of, deed, decide, guarded}
use Rattle.ds_cell.specs.Ask.{Cells, key_of, content_of, content_at, Gave, ask_each, ask_at}
use Rattle.ds_cell.specs.Kinds.{judge_put, judge_conditional, judge_init, judge_increment, judge_delete, judge_delete_range, nothing, shown, gone}
use Rattle.ds_cell.specs.LawProofs.{guarded-keep}
use Rattle.ds_cell.specs.StoreProofs.{equal_same}
use Rattle.ds_cell.specs.Requests.{deed_of, ask_request}
use Rattle.ds_cell.specs.Store.{write_all}
use Rattle.ds_rule.proofs.Writes.{Puts, more_puts, no_puts}
use Rattle.ds_range.specs.Asks.{wrote_once, wrote_each}

-- whether a write stands under the request's number
abbrev stands : At → Content → Bool
stands at c = is_some (under at.seq.0 (own at c))

-- one key

kept_not_put : {G : Type 0} (b d : Bit) (w : Option Value) → Keep b ≡ Write w d → G
kept_not_put b d w h = cc

free_by : (o : Option Written) (again : Option Value → Bit) (t : Option Stamp) (v : Verdict) (w : Option Value) (b : Bit) → decide o again t v ≡ Write w b → is_some o ≡ false
free_by None again t v w b h = refl
free_by (Some x) again t v w b h = kept_not_put (again x.value) b w h

numbered_free : (judge : Sight → Verdict) (again : Option Value → Bit) (at : At) (c : Content) (w : Option Value) (b : Bit) → deed true judge again at c ≡ Write w b → stands at c ≡ false
numbered_free judge again at c w b h = free_by (under at.seq.0 (own at c)) again (too_old at c) (judge (sight at (look_of true at.seq.0) c)) w b h

keeps_not : {G : Type 0} (t : Option Stamp) (d b : Bit) (w : Option Value) → guarded t (Keep d) ≡ Write w b → G
keeps_not t d b w h = kept_not_put d b w (sym (guarded-keep t d) ∙ h)

put_free : (r : Request) (at : At) (c : Content) (w : Option Value) (b : Bit) → deed_of r at c ≡ Write w b → stands at c ≡ false
put_free (Get a) at c w b h = keeps_not (too_old at c) _ b w h
put_free (Scan a) at c w b h = keeps_not (too_old at c) _ b w h
put_free (ReverseScan a) at c w b h = keeps_not (too_old at c) _ b w h
put_free (Put a) at c w b h = numbered_free (judge_put a) nothing at c w b h
put_free (ConditionalPut a) at c w b h = numbered_free (judge_conditional a) nothing at c w b h
put_free (InitPut a) at c w b h = numbered_free (judge_init a) nothing at c w b h
put_free (Increment a) at c w b h = numbered_free (judge_increment a) shown at c w b h
put_free (Delete a) at c w b h = numbered_free judge_delete nothing at c w b h
put_free (DeleteRange a) at c w b h = numbered_free judge_delete_range gone at c w b h
put_free (EndTxn a) at c w b h = keeps_not (too_old at c) _ b w h
put_free (QueryIntent a) at c w b h = keeps_not (too_old at c) _ b w h
put_free (ResolveIntent a) at c w b h = keeps_not (too_old at c) _ b w h
put_free (ResolveIntentRange a) at c w b h = keeps_not (too_old at c) _ b w h
put_free (AdminSplit a) at c w b h = keeps_not (too_old at c) _ b w h
put_free (AdminTransferLease a) at c w b h = keeps_not (too_old at c) _ b w h

-- all keys of a request

-- the number is free at each of the keys, which rise
abbrev pub AllFree : At → Puts → Cells → Type 0
AllFree at [] cells = Unit {0}
AllFree at (w ∷ ws) cells = (stands at (content_at w.0 cells) ≡ false) × AllOver key_of w.0 ws × AllFree at ws cells

-- each of these stands so in the contents
abbrev AllThere : Cells → Cells → Type 0
AllThere cells [] = Unit {0}
AllThere cells (p ∷ ps) = (content_at p.0 cells ≡ p.1) × AllThere cells ps

there_under : (p : List ℕ × Content) (ps qs : Cells) → AllOver key_of p.0 qs → AllThere ps qs → AllThere (p ∷ ps) qs
there_under p ps [] over all = tt
there_under p ps (q ∷ qs) over all =
    (ap (λ t. content_of (cond t (Some p) (at_key key_of q.0 ps))) (lt_not_eq p.0 q.0 over.0) ∙ all.0, there_under p ps qs over.1 all.1)

there_all : (cells : Cells) → Ascends key_of cells → AllThere cells cells
there_all [] asc = tt
there_all (p ∷ ps) asc =
    (ap (λ t. content_of (cond t (Some p) (at_key key_of p.0 ps))) (eq_itself p.0), there_under p ps ps asc.0 (there_all ps asc.1))

there_between : (cells : Cells) (s e : List ℕ) (ps : Cells) → AllThere cells ps → AllThere cells (between key_of s e ps)
there_between cells s e [] all = tt
there_between cells s e (p ∷ ps) all =
    elim (holds s e p.0) as (λ t. AllThere cells (cond t (p ∷ between key_of s e ps) (between key_of s e ps))) [
      | true ↦ (all.0, there_between cells s e ps all.1)
      | false ↦ there_between cells s e ps all.1
    ]

over_writes : (d : Content → Verdict) (q : List ℕ) (ps : Cells) (cs : List (List ℕ × Bit)) (vs : Puts) → AllOver key_of q ps → ask_each d ps ≡ Gave cs vs → AllOver key_of q vs
over_writes d q [] cs vs over h = no_puts (AllOver key_of q) cs vs tt h
over_writes d q (p ∷ ps) cs vs over h =
    more_puts (AllOver key_of q) p.0 (d p.1) (ask_each d ps) cs vs
    (λ bs ws e. over_writes d q ps bs ws over.1 e)
    (λ bs ws w b is e. (over.0, over_writes d q ps bs ws over.1 e)) h

frees : (r : Request) (at : At) (cells ps : Cells) (cs : List (List ℕ × Bit)) (vs : Puts) → Ascends key_of ps → AllThere cells ps → ask_each (deed_of r at) ps ≡ Gave cs vs → AllFree at vs cells
frees r at cells [] cs vs asc all h = no_puts (λ ws. AllFree at ws cells) cs vs tt h
frees r at cells (p ∷ ps) cs vs asc all h =
    more_puts (λ ws. AllFree at ws cells) p.0 (deed_of r at p.1) (ask_each (deed_of r at) ps) cs vs
    (λ bs ws e. frees r at cells ps bs ws asc.1 all.1 e)
    (λ bs ws w b is e.
    (subst (λ c. stands at c ≡ false) (sym all.0) (put_free r at p.1 w b is), over_writes (deed_of r at) p.0 ps bs ws asc.0 e, frees r at cells ps bs ws asc.1 all.1 e)) h

free_at : (r : Request) (at : At) (x : Reach) (cells : Cells) (cs : List (List ℕ × Bit)) (vs : Puts) → Ascends key_of cells → ask_at (deed_of r at) x cells ≡ Gave cs vs → AllFree at vs cells
free_at r at (Point k) cells cs vs asc h = frees r at cells ((k, content_at k cells) ∷ []) cs vs (tt, tt) (refl, tt) h
free_at r at (Over s e) cells cs vs asc h =
    frees r at cells (between key_of s e cells) cs vs (ascends-between key_of s e cells asc) (there_between cells s e cells (there_all cells asc)) h

pub free_writes : (r : Request) (at : At) (cells : Cells) (cs : List (List ℕ × Bit)) (vs : Puts) → Ascends key_of cells → ask_request r at cells ≡ Gave cs vs → AllFree at vs cells
free_writes r at cells cs vs asc h = free_at r at (reach_of r) cells cs vs asc h

-- a cell put in at one key leaves the others

content-beside : (k q : List ℕ) (c : Content) (cells : Cells) → key_eq k q ≡ false → content_at q (insert_entry key_cmp cells k c) ≡ content_at q cells
content-beside k q c [] apart = ap (λ t. content_of (cond t (Some (k, c)) None)) apart
content-beside k q c (p ∷ ps) apart =
    elim (key_cmp k p.0) as (λ o. key_cmp k p.0 ≡ o → content_at q (match_ordering o ((k, c) ∷ p ∷ ps) ((p.0, c) ∷ ps) (p ∷ insert_entry key_cmp ps k c)) ≡ content_at q (p ∷ ps)) [
      | Less ↦ λ e. ap (λ t. content_of (cond t (Some (k, c)) (at_key key_of q (p ∷ ps)))) apart
      | Equal ↦ λ e.
          let here : key_eq p.0 q ≡ false = subst (λ z. key_eq z q ≡ false) (equal_same k p.0 e) apart in
          ap (λ t. content_of (cond t (Some (p.0, c)) (at_key key_of q ps))) here ∙ ap (λ t. content_of (cond t (Some p) (at_key key_of q ps))) (sym here)
      | Greater ↦ λ e.
          elim (key_eq p.0 q) as (λ t. content_of (cond t (Some p) (at_key key_of q (insert_entry key_cmp ps k c))) ≡ content_of (cond t (Some p) (at_key key_of q ps))) [
            | true ↦ refl
            | false ↦ content-beside k q c ps apart
          ]
    ] refl

free_beside : (at : At) (k : List ℕ) (c : Content) (ws : Puts) (cells : Cells) → AllOver key_of k ws → AllFree at ws cells → AllFree at ws (insert_entry key_cmp cells k c)
free_beside at k c [] cells over free = tt
free_beside at k c (w ∷ ws) cells over free =
    (subst (λ z. stands at z ≡ false) (sym (content-beside k w.0 c cells (lt_not_eq k w.0 over.0))) free.0, free.1, free_beside at k c ws cells over.1 free.2)

-- where the number is free, the writes are made
each_free : (at : At) (ws : Puts) (cells : Cells) → AllFree at ws cells → wrote_each at ws cells ≡ write_all at ws cells
each_free at [] cells free = refl
each_free at (w ∷ ws) cells free =
    let c = content_at w.0 cells in
    let once : wrote_once at w.1 c ≡ wrote at w.1 c = ap (λ t. cond t c (wrote at w.1 c)) free.0 in
    ap (λ z. wrote_each at ws (insert_entry key_cmp cells w.0 z)) once
    ∙ each_free at ws (insert_entry key_cmp cells w.0 (wrote at w.1 c)) (free_beside at w.0 (wrote at w.1 c) ws cells free.1 free.2)

-- the writes that a request gave are made
pub wrote_all : (r : Request) (at : At) (cells : Cells) (bs : List (List ℕ × Bit)) (ws : Puts) → Ascends key_of cells → ask_request r at cells ≡ Gave bs ws → wrote_each at ws cells ≡ write_all at ws cells
wrote_all r at cells bs ws asc h = each_free at ws cells (free_writes r at cells bs ws asc h)
