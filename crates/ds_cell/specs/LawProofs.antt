-- What the laws of a kind need, proved once for all kinds. It stands here since the laws of the trait `Acts` cite it.
use Rattle.std.proofs.Common.{◌≡◌, ℕ, ◌≤◌, zero, suc, Bool, true, false, cond, ◌&&◌, List, [], ◌∷◌, ◌++◌, take, drop, Option, Some, None, refl, sym, ap, ◌∙◌, subst, arith, ◌==◌, eq-eqb, nat_le, leb-true, is_some}
use Rattle.std.specs.List.{find, insert}
use Rattle.std.specs.Option.{option_or}
use Rattle.std.proofs.lemmas.List.Folds.{find-append}
use Rattle.ds_base.specs.Order.{key_le, holds, after}
use Rattle.ds_base.specs.Ordered.{Ascends, between}
use Rattle.ds_base.proofs.KeyFacts.{own_span}
use Rattle.ds_base.proofs.OrderedFacts.{cut}
use Rattle.ds_base.specs.declared.value.Value.{Value}
use Rattle.ds_base.specs.declared.value.Stamp.{Stamp}
use Rattle.ds_kind.specs.Reach.{Reach, At, Over, extent_of}
use Rattle.ds_cell.specs.declared.entry.At.{At as Who}
use Rattle.ds_cell.specs.declared.entry.Written.{Written}
use Rattle.ds_cell.specs.declared.verdict.Verdict.{Verdict}
use Rattle.ds_cell.specs.declared.verdict.Verdict.TheVariants.{Keep, Put, Refuse}
use Rattle.ds_cell.specs.declared.verdict.Bit.{Bit}
use Rattle.ds_cell.specs.Content.{Content}
use Rattle.ds_cell.specs.Seen.{seen, newest, under, own, too_old, value_seen, version_at}
use Rattle.ds_cell.specs.Change.{wrote}
use Rattle.ds_cell.specs.Deed.{Sight, sight, deed, decide, guarded, look_of, prior, content_after}
use Rattle.ds_cell.specs.Ask.{Cells, key_of, Asked, Failed, Gave, one_more, ask_each, ask, joined, content_at, places, ask_at, AllIn, StandsIn}
use Rattle.ds_cell.specs.Laws.{IsLater, Repeats, KeyRepeats, IsCoherent, WritesIf}

-- join

joined-empty : (r : Asked) → r ≡ joined (Gave [] []) r
joined-empty (Failed k f) = refl
joined-empty (Gave bs ws) = refl

one_more-joined : (k : List ℕ) (v : Verdict) (r t : Asked) → one_more k v (joined r t) ≡ joined (one_more k v r) t
one_more-joined k (Refuse f) r t = refl
one_more-joined k (Keep b) (Failed q f) t = refl
one_more-joined k (Keep b) (Gave bs ws) (Failed q f) = refl
one_more-joined k (Keep b) (Gave bs ws) (Gave cs vs) = refl
one_more-joined k (Put w b) (Failed q f) t = refl
one_more-joined k (Put w b) (Gave bs ws) (Failed q f) = refl
one_more-joined k (Put w b) (Gave bs ws) (Gave cs vs) = refl

pub ask_each-append : (d : Content → Verdict) (xs ys : Cells) → ask_each d (xs ++ ys) ≡ joined (ask_each d xs) (ask_each d ys)
ask_each-append d [] ys = joined-empty (ask_each d ys)
ask_each-append d (p ∷ ps) ys =
    ap (one_more p.0 (d p.1)) (ask_each-append d ps ys) ∙ one_more-joined p.0 (d p.1) (ask_each d ps) (ask_each d ys)

pub join_all : (d : Content → Verdict) (s m e : List ℕ) (cells : Cells) → Ascends key_of cells → key_le s m ≡ true → key_le m e ≡ true → ask d s e cells ≡ joined (ask d s m cells) (ask d m e cells)
join_all d s m e cells asc sm me =
    ap (ask_each d) (cut key_of s m e cells asc sm me) ∙ ask_each-append d (between key_of s m cells) (between key_of m e cells)

-- extent

all_between : {X : Type 0} (s e : List ℕ) (xs : List (List ℕ × X)) → AllIn key_of s e (between key_of s e xs)
all_between s e [] = tt
all_between s e (x ∷ xs) =
    elim (holds s e x.0) as (λ t. holds s e x.0 ≡ t → AllIn key_of s e (cond t (x ∷ between key_of s e xs) (between key_of s e xs))) [
      | true ↦ λ h. (h, all_between s e xs)
      | false ↦ λ h. all_between s e xs
    ] refl

stands_more : (s e k : List ℕ) (v : Verdict) (r : Asked) → holds s e k ≡ true → StandsIn s e r → StandsIn s e (one_more k v r)
stands_more s e k (Refuse f) r h a = h
stands_more s e k (Keep b) (Failed q f) h a = a
stands_more s e k (Put w b) (Failed q f) h a = a
stands_more s e k (Keep b) (Gave bs ws) h a = ((h, a.0), a.1)
stands_more s e k (Put w b) (Gave bs ws) h a = ((h, a.0), (h, a.1))

stands_each : (d : Content → Verdict) (s e : List ℕ) (ps : Cells) → AllIn key_of s e ps → StandsIn s e (ask_each d ps)
stands_each d s e [] all = (tt, tt)
stands_each d s e (p ∷ ps) all = stands_more s e p.0 (d p.1) (ask_each d ps) all.0 (stands_each d s e ps all.1)

pub stands_at : (d : Content → Verdict) (r : Reach) (cells : Cells) → StandsIn (extent_of r).start (extent_of r).end (ask_at d r cells)
stands_at d (At k) cells = stands_each d k (after k) ((k, content_at k cells) ∷ []) (own_span k, tt)
stands_at d (Over s e) cells = stands_each d s e (between key_of s e cells) (all_between s e cells)

-- flags

absurd_false : {G : Type 0} (f : Bool) → f ≡ true → f ≡ false → G
absurd_false f p q = cc

guarded-put : (t : Option Stamp) (v : Verdict) (w : Option Value) (b : Bit) → guarded t v ≡ Put w b → v ≡ Put w b
guarded-put None v w b h = h
guarded-put (Some t) (Keep c) w b h = cc
guarded-put (Some t) (Put u c) w b h = cc
guarded-put (Some t) (Refuse f) w b h = cc

decide-put : (o : Option Written) (again : Option Value → Bit) (t : Option Stamp) (v : Verdict) (w : Option Value) (b : Bit) → decide o again t v ≡ Put w b → v ≡ Put w b
decide-put (Some x) again t v w b h = cc
decide-put None again t v w b h = guarded-put t v w b h

-- it wrote nothing
abbrev pub WroteNothing : Asked → Type 0
WroteNothing (Failed k f) = Unit {0}
WroteNothing (Gave bs ws) = ws ≡ []

keeps_none : (k : List ℕ) (v : Verdict) (r : Asked) → ((w : Option Value) (b : Bit) → v ≡ Put w b → ⊥) → WroteNothing r → WroteNothing (one_more k v r)
keeps_none k (Keep b) (Failed q f) never h = tt
keeps_none k (Keep b) (Gave bs ws) never h = h
keeps_none k (Put w b) r never h = absurd (never w b refl)
keeps_none k (Refuse f) r never h = tt

no_writes : (d : Content → Verdict) (cells : Cells) → ((c : Content) (w : Option Value) (b : Bit) → d c ≡ Put w b → ⊥) → WroteNothing (ask_each d cells)
no_writes d [] never = refl
no_writes d (p ∷ ps) never = keeps_none p.0 (d p.1) (ask_each d ps) (never p.1) (no_writes d ps never)

pub flags_all : (flag n : Bool) (judge : Sight → Verdict) (again : Option Value → Bit) (at : Who) (r : Reach) (cells : Cells) → WritesIf flag judge → flag ≡ false → WroteNothing (ask_at (deed n judge again at) r cells)
flags_all flag n judge again at r cells only off =
    no_writes _ (places r cells) (λ c w b h. absurd_false flag (only _ w b (decide-put (prior n at c) again (too_old at c) _ w b h)) off)

-- repeat

find-none-take : {X : Type 0} (p : X → Bool) (i : ℕ) (xs : List X) → find p xs ≡ None → find p (take i xs) ≡ None
find-none-take p zero xs h = refl
find-none-take p (suc i) [] h = refl
find-none-take p (suc i) (x ∷ xs) h =
    elim (p x) as (λ t. cond t (Some x) (find p xs) ≡ None → cond t (Some x) (find p (take i xs)) ≡ None) [
      | true ↦ λ e. e
      | false ↦ λ e. find-none-take p i xs e
    ] h

same_number : (m n : ℕ) → m ≡ n → (m == n) ≡ true
same_number m n h = eq-eqb m n h

-- a write stands under its number
under-insert : (s i : ℕ) (w : Written) (h : List Written) → under s h ≡ None → (w.seq.0 == s) ≡ true → under s (insert h i w) ≡ Some w
under-insert s i w h none here =
    find-append (λ v. v.seq.0 == s) (take i h) (w ∷ drop i h)
    ∙ ap (λ o. option_or o (under s (w ∷ drop i h))) (find-none-take _ i h none)
    ∙ ap (λ t. cond t (Some w) (under s (drop i h))) here

-- after a write the writes of its transaction and epoch are those that stand there
pub own-wrote : (at at' : Who) (w : Option Value) (c : Content) → at'.txn.0 ≡ at.txn.0 → at'.epoch ≡ at.epoch → own at (wrote at' w c) ≡ (wrote at' w c).history
own-wrote at at' w c txn epoch =
    ap (λ t. cond t (cond (at'.txn.0 == at.txn.0) (wrote at' w c).history []) []) (same_number at'.epoch at.epoch epoch)
    ∙ ap (λ t. cond t (wrote at' w c).history []) (same_number at'.txn.0 at.txn.0 txn)

pub guarded-keep : (t : Option Stamp) (b : Bit) → guarded t (Keep b) ≡ Keep b
guarded-keep None b = refl
guarded-keep (Some t) b = refl

seen-later : (at : Who) (n : ℕ) (c c' : Content) → IsLater at c c' → n ≤ at.seq.0 → seen at n c' ≡ seen at n c
seen-later at n c c' later low =
    ap (value_seen (newest n (own at c'))) later.version ∙ ap (λ w. value_seen w (version_at at.stamp.0 c.versions)) (later.writes n low)

found-later : (at : Who) (look n : ℕ) (c c' : Content) → IsLater at c c' → look ≤ at.seq.0 → (nat_le n look && is_some (under n (own at c'))) ≡ (nat_le n look && is_some (under n (own at c)))
found-later at look n c c' later low =
    elim (nat_le n look) as (λ t. nat_le n look ≡ t → (t && is_some (under n (own at c'))) ≡ (t && is_some (under n (own at c)))) [
      | true ↦ λ e. let h : n ≤ look = leb-true _ _ e in ap is_some (later.numbers n (omega arith))
      | false ↦ λ e. refl
    ] refl

pub sight-later : (at : Who) (look : ℕ) (c c' : Content) → IsLater at c c' → look ≤ at.seq.0 → sight at look c' ≡ sight at look c
sight-later at look c c' later low =
    λ i. record { value = seen-later at look c c' later low i; found = λ n. found-later at look n c c' later low i }

look_low : (n : Bool) (s : ℕ) → look_of n s ≤ s
look_low true s = omega arith
look_low false s = omega arith

prior-later : (n : Bool) (at : Who) (c c' : Content) → IsLater at c c' → prior n at c' ≡ prior n at c
prior-later true at c c' later = later.numbers at.seq.0 (omega arith)
prior-later false at c c' later = refl

repeat_keep : (n : Bool) (judge : Sight → Verdict) (again : Option Value → Bit) (at : Who) (c c' : Content) (b : Bit)
    → prior n at c ≡ None → judge (sight at (look_of n at.seq.0) c) ≡ Keep b → IsLater at c c' → deed n judge again at c' ≡ Keep b
repeat_keep n judge again at c c' b po pv later =
    ap (λ o. decide o again (too_old at c') (judge (sight at (look_of n at.seq.0) c'))) (prior-later n at c c' later ∙ po)
    ∙ ap (λ s. guarded (too_old at c') (judge s)) (sight-later at _ c c' later (look_low n at.seq.0))
    ∙ ap (guarded (too_old at c')) pv
    ∙ guarded-keep (too_old at c') b

repeat_put : (n : Bool) (judge : Sight → Verdict) (again : Option Value → Bit) (at : Who) (c c' : Content) (w : Option Value) (b : Bit)
    → n ≡ true → again w ≡ b → prior n at c ≡ None → IsLater at (wrote at w c) c' → deed n judge again at c' ≡ Keep b
repeat_put true judge again at c c' w b counts same po later =
    ap (λ o. decide o again (too_old at c') (judge (sight at (look_of true at.seq.0) c')))
    (later.numbers at.seq.0 (omega arith)
    ∙ ap (under at.seq.0) (own-wrote at at w c refl refl)
    ∙ under-insert at.seq.0 _ _ (own at c) po (same_number at.seq.0 at.seq.0 refl))
    ∙ ap Keep same
repeat_put false judge again at c c' w b counts same po later = cc

-- what a repeat gives, by the write under the number, the stamp in the way, and the verdict
repeat_by : (n : Bool) (judge : Sight → Verdict) (again : Option Value → Bit) → IsCoherent judge again → WritesIf n judge
    → (at : Who) (c c' : Content) (o : Option Written) (t : Option Stamp) (v : Verdict)
    → prior n at c ≡ o → too_old at c ≡ t → judge (sight at (look_of n at.seq.0) c) ≡ v
    → IsLater at (content_after at (decide o again t v) c) c' → Repeats (decide o again t v) (deed n judge again at c')
repeat_by n judge again coherent only at c c' (Some w) t v po pt pv later =
    ap (λ o. decide o again (too_old at c') (judge (sight at (look_of n at.seq.0) c'))) (prior-later n at c c' later ∙ po)
repeat_by n judge again coherent only at c c' None (Some t) (Keep b) po pt pv later = repeat_keep n judge again at c c' b po pv later
repeat_by n judge again coherent only at c c' None None (Keep b) po pt pv later = repeat_keep n judge again at c c' b po pv later
repeat_by n judge again coherent only at c c' None (Some t) (Put w b) po pt pv later = tt
repeat_by n judge again coherent only at c c' None None (Put w b) po pt pv later =
    repeat_put n judge again at c c' w b (only _ w b pv) (coherent _ w b pv) po later
repeat_by n judge again coherent only at c c' None (Some t) (Refuse f) po pt pv later = tt
repeat_by n judge again coherent only at c c' None None (Refuse f) po pt pv later = tt

pub repeat_all : (n : Bool) (judge : Sight → Verdict) (again : Option Value → Bit) → IsCoherent judge again → WritesIf n judge → KeyRepeats (deed n judge again)
repeat_all n judge again coherent only at c c' later =
    repeat_by n judge again coherent only at c c' _ _ _ refl refl refl later
