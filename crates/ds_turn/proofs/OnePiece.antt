-- A batch without a transaction, settled at each key.
use Rattle.std.proofs.Common.{◌≡◌, ℕ, Bool, true, false, cond, ◌||◌, List, [], ◌∷◌, ◌++◌, Option, Some, None, refl, sym, ap, ◌∙◌, subst, ◌==◌}
use Rattle.ds_base.specs.Ordered.{key_eq, Ascends}
use Rattle.ds_base.proofs.OrderedFacts.{eq_same}
use Rattle.ds_base.specs.declared.value.Stamp.{Stamp}
use Rattle.ds_base.specs.declared.value.Value.{Value}
use Rattle.ds_kind.specs.declared.batch.Head.{Head}
use Rattle.ds_kind.specs.declared.batch.Item.{Item}
use Rattle.ds_kind.specs.declared.reply.Reply.{Reply}
use Rattle.ds_cell.specs.declared.entry.At.{At}
use Rattle.ds_cell.specs.declared.entry.Written.{Written}
use Rattle.ds_cell.specs.Ask.{Cells, key_of, Asked, Failed, Gave, content_at}
use Rattle.ds_cell.specs.Change.{wrote, settled, settled_by}
use Rattle.ds_cell.specs.Content.{Content}
use Rattle.ds_cell.specs.Replies.{body_of}
use Rattle.ds_cell.specs.Requests.{ask_request}
use Rattle.ds_cell.specs.Seen.{held, last_of}
use Rattle.ds_cell.specs.Store.{WriteAt, put_cell, write_all, under_number, settle_all}
use Rattle.ds_rule.specs.Asking.{Made, Gives, Fails, and_before, and_then, made_by, ask_all, at_of}
use Rattle.ds_rule.proofs.Puts.{put-at}
use Rattle.ds_cell.specs.StoreProofs.{ascends-insert}
use Rattle.ds_rule.specs.Turn.{after_items, items_at}
use Rattle.ds_turn.specs.Course.{with_versions}
use Rattle.ds_turn.specs.KeyIs.{KeyIs}
use Rattle.ds_turn.specs.OnePiece.{PieceGives}
use Rattle.ds_turn.specs.Settling.{after_foreigns, piece_after}
use Rattle.ds_turn.proofs.KeyFacts.{empty_if}
use Rattle.ds_turn.proofs.Keys.{gives-cells, keys_give, gives_at_keys}
use Rattle.ds_turn.proofs.Settled.{piece_alone}

abbrev Puts : Type 0
Puts = List (List ℕ × Option Value)

-- whether a write stands at the key
abbrev named : List ℕ → List WriteAt → Bool
named q [] = false
named q (w ∷ ws) = key_eq w.key q || named q ws

named-append : (q : List ℕ) (us vs : List WriteAt) → named q (us ++ vs) ≡ (named q us || named q vs)
named-append q [] vs = refl
named-append q (u ∷ us) vs =
    elim (key_eq u.key q) as (λ t. (t || named q (us ++ vs)) ≡ ((t || named q us) || named q vs)) [
      | true ↦ refl
      | false ↦ named-append q us vs
    ]

neither : (a b : Bool) → (a || b) ≡ false → (a ≡ false) × (b ≡ false)
neither true b h = cc
neither false b h = (refl, h)

-- settled twice is settled once

settled-clear : (n : ℕ) (commit : Option Stamp) (c : Content) → held n c ≡ [] → settled n commit c ≡ c
settled-clear n commit c none = ap (λ h. settled_by commit (last_of h) c) none

settled-twice : (n : ℕ) (commit : Option Stamp) (c : Content) → settled n commit (settled n commit c) ≡ settled n commit c
settled-twice n commit c = by (last_of (held n c)) refl
  where
    by : (o : Option Written) → last_of (held n c) ≡ o → settled n commit (settled_by commit o c) ≡ settled_by commit o c
    by None e = ap (λ o. settled_by commit o c) e
    by (Some w) e = settled-clear n commit (settled_by commit (Some w) c) (empty_if (c.owner == n))

same-at : (k q : List ℕ) (n : ℕ) (commit : Option Stamp) (cells : Cells) → key_eq k q ≡ true → settled n commit (content_at k cells) ≡ settled n commit (content_at q cells)
same-at k q n commit cells e = ap (λ z. settled n commit (content_at z cells)) (eq_same k q e)

settle-at : (n : ℕ) (commit : Option Stamp) (ws : List WriteAt) (cells : Cells) (q : List ℕ) → Ascends key_of cells
    → content_at q (settle_all n commit ws cells) ≡ cond (named q ws) (settled n commit (content_at q cells)) (content_at q cells)
settle-at n commit [] cells q asc = refl
settle-at n commit (w ∷ ws) cells q asc =
    let next = put_cell w.key (settled n commit) cells in
    let there : content_at q next ≡ cond (key_eq w.key q) (settled n commit (content_at w.key cells)) (content_at q cells) = put-at w.key q (settled n commit) cells asc in
    settle-at n commit ws next q (ascends-insert w.key _ cells asc)
    ∙ ap (λ c. cond (named q ws) (settled n commit c) c) there
    ∙ elim (key_eq w.key q) as (λ t. key_eq w.key q ≡ t → cond (named q ws) (settled n commit (cond t (settled n commit (content_at w.key cells)) (content_at q cells))) (cond t (settled n commit (content_at w.key cells)) (content_at q cells)) ≡ cond (t || named q ws) (settled n commit (content_at q cells)) (content_at q cells)) [
      | true ↦ λ e.
          elim (named q ws) as (λ t. cond t (settled n commit (settled n commit (content_at w.key cells))) (settled n commit (content_at w.key cells)) ≡ settled n commit (content_at q cells)) [
            | true ↦ settled-twice n commit (content_at w.key cells) ∙ same-at w.key q n commit cells e
            | false ↦ same-at w.key q n commit cells e
          ]
      | false ↦ λ e. refl
    ] refl

-- where no write is named, nothing changed

unnamed-write : (at : At) (us : Puts) (cells : Cells) (q : List ℕ) → Ascends key_of cells → named q (under_number at us) ≡ false
    → Ascends key_of (write_all at us cells) × (content_at q (write_all at us cells) ≡ content_at q cells)
unnamed-write at [] cells q asc none = (asc, refl)
unnamed-write at (u ∷ us) cells q asc none =
    let both = neither (key_eq u.0 q) (named q (under_number at us)) none in
    let rest = unnamed-write at us (put_cell u.0 (wrote at u.1) cells) q (ascends-insert u.0 _ cells asc) both.1 in
    (rest.0, rest.1 ∙ put-at u.0 q (wrote at u.1) cells asc ∙ ap (λ t. cond t (wrote at u.1 (content_at u.0 cells)) (content_at q cells)) both.0)

abbrev Rest : Head → Item → Asked → Cells → List Item → Cells → List WriteAt → Type 0
Rest h i a cells is out ws =
    (us : Puts) × (vs : List WriteAt) × (ts : List Reply) × (ask_all h is (write_all (at_of h i.seq.0) us cells) ≡ Gives out vs ts) × (ws ≡ under_number (at_of h i.seq.0) us ++ vs)

rest-before : (ps : List WriteAt) (qs : List Reply) (m : Made) (out : Cells) (ws : List WriteAt) (rs : List Reply) → and_before ps qs m ≡ Gives out ws rs → (vs : List WriteAt) × (ts : List Reply) × (m ≡ Gives out vs ts) × (ws ≡ ps ++ vs)
rest-before ps qs (Fails f) out ws rs d = cc
rest-before ps qs (Gives x vs ts) out ws rs d = let same : x ≡ out = cc in let all : ws ≡ ps ++ vs = cc in (vs, ts, ap (λ z. Gives z vs ts) same, all)

rest-of : (h : Head) (i : Item) (a : Asked) (cells : Cells) (is : List Item) (out : Cells) (ws : List WriteAt) (rs : List Reply) → and_then (made_by h i a cells) (ask_all h is) ≡ Gives out ws rs → Rest h i a cells is out ws
rest-of h i (Failed k f) cells is out ws rs e = cc
rest-of h i (Gave bs us) cells is out ws rs e =
    let r = rest-before (under_number (at_of h i.seq.0) us) (record { body = body_of i.request bs; resume = None } ∷ []) (ask_all h is (write_all (at_of h i.seq.0) us cells)) out ws rs e in
    (us, r.0, r.1, r.2, r.3)

unnamed : (h : Head) (items : List Item) (cells out : Cells) (ws : List WriteAt) (rs : List Reply) (q : List ℕ) → Ascends key_of cells → ask_all h items cells ≡ Gives out ws rs → named q ws ≡ false → content_at q out ≡ content_at q cells
unnamed h [] cells out ws rs q asc e none = ap (content_at q) (sym (gives-cells cells out [] ws [] rs e))
unnamed h (i ∷ is) cells out ws rs q asc e none =
    let r = rest-of h i (ask_request i.request (at_of h i.seq.0) cells) cells is out ws rs e in
    let both = neither (named q (under_number (at_of h i.seq.0) r.0)) (named q r.1) (sym (named-append q (under_number (at_of h i.seq.0) r.0) r.1) ∙ ap (named q) (sym r.4) ∙ none) in
    let one = unnamed-write (at_of h i.seq.0) r.0 cells q asc both.0 in
    unnamed h is (write_all (at_of h i.seq.0) r.0 cells) out r.1 r.2 q one.0 r.3 both.1 ∙ one.1

-- so settling where it wrote is settling everywhere
pub settles-everywhere : (h : Head) (items : List Item) (cells out : Cells) (ws : List WriteAt) (rs : List Reply) (commit : Option Stamp) (q : List ℕ) → Ascends key_of cells → Ascends key_of out → held 0 (content_at q cells) ≡ [] → ask_all h items cells ≡ Gives out ws rs
    → content_at q (settle_all 0 commit ws out) ≡ settled 0 commit (content_at q out)
settles-everywhere h items cells out ws rs commit q asc up clear e =
    settle-at 0 commit ws out q up
    ∙ elim (named q ws) as (λ t. named q ws ≡ t → cond t (settled 0 commit (content_at q out)) (content_at q out) ≡ settled 0 commit (content_at q out)) [
      | true ↦ λ h. refl
      | false ↦ λ none.
          let same : content_at q out ≡ content_at q cells = unnamed h items cells out ws rs q asc e none in
          sym (settled-clear 0 commit (content_at q out) (ap (held 0) same ∙ clear))
    ] refl

pub piece_gives : PieceGives
piece_gives s h items cells before later world asc low none keys clear above above-later dids =
    let a = at_of h 0 in
    let alone = λ (k : List ℕ). piece_alone s a (before k) (items_at k items) (later k) (world k) (content_at k cells) (dids k).bits (dids k).writes (keys k) low (above k) (above-later k) (dids k).gives in
    let gives = keys_give h items cells asc (λ k. record { bits = (dids k).bits; writes = (dids k).writes; gives = (alone k).0 }) in
    let out = gives_at_keys h items cells gives.0 gives.1 gives.2 asc gives.3 in
    let stands = λ (k : List ℕ).
    settles-everywhere h items cells gives.0 gives.1 gives.2 (Some h.at) k asc out.0 (clear k) gives.3
    ∙ ap (settled 0 (Some h.at)) (out.1 k).1
    ∙ ap (λ n. settled n (Some h.at) (after_items a (items_at k items) (content_at k cells))) (sym none)
    in (
      gives.0,
      gives.1,
      gives.2,
      gives.3,
      λ k. subst (λ d. KeyIs s (after_foreigns (later k) (piece_after a (items_at k items) (after_foreigns (before k) (world k)))) (with_versions (before k ++ later k) d)) (sym (stands k)) (alone k).1,
    )
