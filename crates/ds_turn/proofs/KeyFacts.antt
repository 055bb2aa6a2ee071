-- What a key in the world and in the store have alike, and what keeps it.
use Rattle.std.proofs.Common.{◌≡◌, ℕ, ◌≤◌, ◌<◌, Bool, true, false, cond, List, [], ◌∷◌, ◌++◌, take, drop, Option, Some, None, ◌⊎◌, inl, inr, refl, sym, ap, ◌∙◌, subst, arith, fold, ◌==◌}
use Rattle.std.specs.List.{Contains}
use Rattle.ds_base.specs.declared.value.Stamp.{Stamp}
use Rattle.std.proofs.lemmas.List.{append-nil}
use Rattle.ds_kind.specs.declared.batch.Item.{Item}
use Rattle.ds_cell.specs.declared.entry.At.{At}
use Rattle.ds_cell.specs.declared.entry.Version.{Version}
use Rattle.ds_cell.specs.declared.entry.Written.{Written}
use Rattle.ds_cell.specs.declared.verdict.Verdict.{Verdict}
use Rattle.ds_cell.specs.declared.verdict.Verdict.TheVariants.{Keep, Put, Refuse}
use Rattle.ds_cell.specs.Content.{Content, AllAbove, Rises, stamp_of}
use Rattle.ds_cell.specs.Seen.{own, last_of, newest_from, version_at, too_old, unless_written, IsNewestFrom}
use Rattle.ds_cell.specs.Change.{made, with_write, foreign_by, after_foreign}
use Rattle.ds_cell.specs.Deed.{content_after}
use Rattle.ds_cell.specs.Store.{with_version}
use Rattle.ds_cell.proofs.LatestFacts.{newest_is}
use Rattle.ds_cell.proofs.LaterFacts.{version_at-made}
use Rattle.ds_cell.proofs.RisingFacts.{rises_made, rises_fold}
use Rattle.ds_rule.proofs.Lasts.{none-last, some-last}
use Rattle.ds_rule.specs.Turn.{asks_as, verdict, after_item}
use Rattle.ds_turn.specs.Course.{with_versions}
use Rattle.ds_turn.specs.KeyIs.{AnyStamp, FromToday, KeyIs}
use Rattle.ds_turn.proofs.Deeds.{Alike, same_deed}
use Rattle.ds_turn.proofs.Stamps.{below_fold, fold_below, fold_old, newest_one, none_fewer}

pub fold_more : (vs ws : List Version) (v : Version) → fold made vs (ws ++ v ∷ []) ≡ made (fold made vs ws) v
fold_more vs [] v = refl
fold_more vs (w ∷ ws) v = fold_more (made vs w) ws v

pub above_more : (n : ℕ) (vs : List Version) (v : Version) → AllAbove stamp_of n vs → n < stamp_of v → AllAbove stamp_of n (vs ++ v ∷ [])
above_more n [] v all h = (h, tt)
above_more n (w ∷ ws) v all h = (all.0, above_more n ws v all.1 h)

append-some : {X : Type 0} (xs : List X) (y : X) (ys : List X) → xs ++ y ∷ ys ≡ [] → ⊥
append-some [] y ys h = cc
append-some (x ∷ xs) y ys h = cc

pub written_some : (w : Written) (h : List Written) → with_write w h ≡ [] → ⊥
written_some w h e = append-some (take _ h) w (drop _ h) e

-- own writes

pub empty_if : (b : Bool) → ◌≡◌ {A = List Written} (cond b [] []) []
empty_if true = refl
empty_if false = refl

own-none : (at : At) (c : Content) → c.history ≡ [] → own at c ≡ []
own-none at c e =
    ap (λ h. cond (c.epoch == at.epoch) (cond (c.owner == at.txn.0) h []) []) e
    ∙ ap (λ h. cond (c.epoch == at.epoch) h []) (empty_if (c.owner == at.txn.0))
    ∙ empty_if (c.epoch == at.epoch)

own-by : (at : At) (c d : Content) → d.history ≡ c.history → (c.history ≡ []) ⊎ ((d.owner ≡ c.owner) × (d.epoch ≡ c.epoch)) → own at d ≡ own at c
own-by at c d e (inl none) = own-none at d (e ∙ none) ∙ sym (own-none at c none)
own-by at c d e (inr same) =
    ap (λ n. cond (n == at.epoch) (cond (d.owner == at.txn.0) d.history []) []) same.1
    ∙ ap (λ n. cond (c.epoch == at.epoch) (cond (n == at.txn.0) d.history []) []) same.0
    ∙ ap (λ h. cond (c.epoch == at.epoch) (cond (c.owner == at.txn.0) h []) []) e

-- versions above the stamp

version-fold : (s m : ℕ) (vs ws : List Version) → s ≤ m → AllAbove stamp_of m ws → version_at s (fold made vs ws) ≡ version_at s vs
version-fold s m vs [] low all = refl
version-fold s m vs (w ∷ ws) low all =
    let high : m < w.stamp.0 = all.0 in
    version-fold s m (made vs w) ws low all.1 ∙ version_at-made s vs w (omega (arith, low, high))

-- the versions of `vs`, and of those that `ws` adds
abbrev bare : List Version → List Version → Content
bare vs ws = record { versions = vs; owner = 0; epoch = 0; history = []; waiting = ws }

newest-fold : (s : ℕ) (vs ws : List Version) → Rises stamp_of vs → newest_from s (bare (fold made vs ws) []) ≡ newest_from s (bare vs ws)
newest-fold s vs ws r =
    newest_one s (fold made vs ws ++ []) (vs ++ ws) _ _
    (λ u h. fold_below vs ws u (subst (λ zs. Contains zs u) (append-nil (fold made vs ws)) h))
    (λ u h. let x = below_fold vs ws u h in (x.0, subst (λ zs. Contains zs x.0) (sym (append-nil (fold made vs ws))) x.1, x.2))
    (newest_is s (bare (fold made vs ws) []) (record { stamps_rise = rises_fold vs ws r; numbers_rise = tt }))
    (newest_is s (bare vs ws) (record { stamps_rise = r; numbers_rise = tt }))

-- more versions stand in the way no less
pub fewer_newest : (s : ℕ) (vs ws : List Version) → Rises stamp_of vs → newest_from s (bare (fold made vs ws) []) ≡ None → newest_from s (bare vs []) ≡ None
fewer_newest s vs ws r none =
    none_fewer s (vs ++ []) (fold made vs ws ++ []) _
    (λ u h. let x = fold_old vs ws u (subst (λ zs. Contains zs u) (append-nil vs) h) in (x.0, subst (λ zs. Contains zs x.0) (sym (append-nil (fold made vs ws))) x.1, x.2))
    (subst (λ o. IsNewestFrom s (fold made vs ws ++ []) o) none (newest_is s (bare (fold made vs ws) []) (record { stamps_rise = rises_fold vs ws r; numbers_rise = tt })))
    (newest_is s (bare vs []) (record { stamps_rise = r; numbers_rise = tt }))

-- a key in the world and in the store

pub key_alike : (s : ℕ) (at : At) (c d : Content) → KeyIs s c d → at.stamp.0 ≤ s → Alike at c d
key_alike s at c d k low = record {
  own_same = own-by at c d k.history k.whose;
  version = ap (version_at at.stamp.0) k.versions ∙ version-fold at.stamp.0 s c.versions c.waiting low k.above;
}

key-newest : (s n : ℕ) (c d : Content) → KeyIs s c d → newest_from n d ≡ newest_from n c
key-newest s n c d k =
    ap (λ ws. newest_from n (bare d.versions ws)) k.none_waits
    ∙ ap (λ vs. newest_from n (bare vs [])) k.versions
    ∙ newest-fold n c.versions c.waiting k.rises

key-old : (s : ℕ) (at : At) (c d : Content) → KeyIs s c d → too_old at d ≡ too_old at c
key-old s at c d k =
    ap (λ ws. unless_written ws (newest_from at.stamp.0 d)) (own-by at c d k.history k.whose)
    ∙ ap (unless_written (own at c)) (key-newest s at.stamp.0 c d k)

-- an item does the same to both
pub key_verdict : (s : ℕ) (a : At) (i : Item) (c d : Content) → KeyIs s c d → a.stamp.0 ≤ s → verdict a i d ≡ verdict a i c
key_verdict s a i c d k low =
    same_deed i.request (asks_as a i) c d (key_alike s (asks_as a i) c d k low) (key-old s (asks_as a i) c d k)

key-after : (s : ℕ) (at : At) (v : Verdict) (c d : Content) → KeyIs s c d → KeyIs s (content_after at v c) (content_after at v d)
key-after s at (Keep b) c d k = k
key-after s at (Refuse f) c d k = k
key-after s at (Put w b) c d k = record {
  rises = k.rises;
  versions = k.versions;
  none_waits = k.none_waits;
  history = ap (with_write (record { seq = at.seq; value = w })) (own-by at c d k.history k.whose);
  whose = inr (refl, refl);
  waits = λ e. absurd (written_some _ (own at c) e);
  above = k.above;
}

pub key_item : (s : ℕ) (a : At) (i : Item) (c d : Content) → KeyIs s c d → a.stamp.0 ≤ s → KeyIs s (after_item a i c) (after_item a i d)
key_item s a i c d k low =
    subst (λ v. KeyIs s (after_item a i c) (content_after (asks_as a i) v d)) (sym (key_verdict s a i c d k low))
    (key-after s (asks_as a i) (verdict a i c) c d k)

-- a foreign write joins the versions of the store at once; in the world it may wait
foreign-by : (s : ℕ) (o : Option Written) (v : Version) (c d : Content) → last_of c.history ≡ o → s < v.stamp.0 → KeyIs s c d → KeyIs s (foreign_by o v c) (with_version v d)
foreign-by s None v c d is high k =
    let none : c.waiting ≡ [] = k.waits (none-last c.history is) in
    record {
      rises = rises_made c.versions v k.rises;
      versions = ap (λ vs. made vs v) (k.versions ∙ ap (fold made c.versions) none) ∙ sym (ap (fold made (made c.versions v)) none);
      none_waits = k.none_waits;
      history = k.history;
      whose = k.whose;
      waits = k.waits;
      above = k.above;
    }
foreign-by s (Some w) v c d is high k = record {
  rises = k.rises;
  versions = ap (λ vs. made vs v) k.versions ∙ sym (fold_more c.versions c.waiting v);
  none_waits = k.none_waits;
  history = k.history;
  whose = k.whose;
  waits = λ e. absurd (some-last c.history w is e);
  above = above_more s c.waiting v k.above high;
}

pub key_foreign : (s : ℕ) (v : Version) (c d : Content) → s < v.stamp.0 → KeyIs s c d → KeyIs s (after_foreign v c) (with_version v d)
key_foreign s v c d high k = foreign-by s (last_of c.history) v c d refl high k

-- the store at a key with more versions, above the stamp

pub more_alike : (s : ℕ) (at : At) (vs : List Version) (d : Content) → at.stamp.0 ≤ s → AllAbove stamp_of s vs → Alike at d (with_versions vs d)
more_alike s at vs d low all = record { own_same = refl; version = version-fold at.stamp.0 s d.versions vs low all }

old-none : (ws : List Written) (o p : Option Stamp) → (p ≡ None → o ≡ None) → unless_written ws p ≡ None → unless_written ws o ≡ None
old-none [] o p h e = h e
old-none (w ∷ ws) o p h e = refl

pub more_old : (at : At) (vs : List Version) (d : Content) → Rises stamp_of d.versions → d.waiting ≡ [] → too_old at (with_versions vs d) ≡ None → too_old at d ≡ None
more_old at vs d r waits =
    old-none (own at d) (newest_from at.stamp.0 d) (newest_from at.stamp.0 (with_versions vs d))
    (λ e. ap (λ ws. newest_from at.stamp.0 (bare d.versions ws)) waits ∙ fewer_newest at.stamp.0 d.versions vs r (sym (ap (λ ws. newest_from at.stamp.0 (bare (fold made d.versions vs) ws)) waits) ∙ e))

pub from_today : FromToday
from_today s c d h r = record {
  rises = r;
  versions = h.versions;
  none_waits = h.none_waits;
  history = h.history;
  whose = inr (h.owner, h.epoch);
  waits = h.waits;
  above = h.above;
}

pub any_stamp : AnyStamp
any_stamp s t c d k none = record {
  rises = k.rises;
  versions = k.versions;
  none_waits = k.none_waits;
  history = k.history;
  whose = k.whose;
  waits = k.waits;
  above = subst (AllAbove stamp_of t) (sym (k.waits none)) tt;
}
