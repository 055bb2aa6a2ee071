-- The ranges tile the keys after a transaction's intents are settled, wherever that stopped.
use Rattle.std.proofs.Common.{◌≡◌, ℕ, zero, suc, ◌+◌, ◌<◌, ◌≤◌, true, List, [], ◌∷◌, map, length, get_or, Option, Some, refl, sym, ap, ◌∙◌, subst, arith}
use Rattle.std.specs.List.{list_all, slice_get}
use Rattle.std.proofs.Math.ListN.{set}
use Rattle.std.proofs.lemmas.Option.{get_or_from_slice_get}
use Rattle.ds_base.proofs.SmallFacts.{some_same}
use Rattle.ds_base.specs.Order.{key_lt, holds}
use Rattle.ds_base.specs.declared.value.Stamp.{Stamp}
use Rattle.ds_base.specs.Ordered.{AllOver, Ascends}
use Rattle.ds_cell.specs.Ask.{Cells, key_of}
use Rattle.ds_desc.specs.declared.desc.Info.{Info}
use Rattle.ds_desc.specs.declared.desc.RangeDesc.{RangeDesc}
use Rattle.ds_desc.specs.Descs.{containing}
use Rattle.ds_cell.specs.Seen.{last_of}
use Rattle.ds_range.specs.Resolves.{PartlyAs, settle_cell}
use Rattle.ds_range.proofs.Resolving.{settled_again}
use Rattle.ds_rule.specs.Close.{settle_range}
use Rattle.ds_rule.specs.Keeping.{IsNewest}
use Rattle.ds_rule.specs.Pieces.{Each}
use Rattle.ds_rule.specs.Steady.{has_lease, ids_differ}
use Rattle.ds_rule.specs.World.{Range, end_of, Inside, Fits, Tiles}
use Rattle.ds_world.proofs.Stretches.{infos}
use Rattle.ds_ranges.specs.Layout.{own_descs}
use Rattle.ds_ranges.specs.Sound.{IsSound}
use Rattle.ds_ranges.proofs.Sounds.{sound-same}
use Rattle.ds_ranges.specs.Alike.{Alike, AllAlike}

first_same : (k q : List ℕ) (ks qs : List (List ℕ)) → k ∷ ks ≡ q ∷ qs → k ≡ q
first_same k q ks qs h = cc

rest_same : (k q : List ℕ) (ks qs : List (List ℕ)) → k ∷ ks ≡ q ∷ qs → ks ≡ qs
rest_same k q ks qs h = cc

nil_cons : {G : Type 0} (k : List ℕ) (ks : List (List ℕ)) → [] ≡ k ∷ ks → G
nil_cons k ks h = cc

cons_nil : {G : Type 0} (k : List ℕ) (ks : List (List ℕ)) → k ∷ ks ≡ [] → G
cons_nil k ks h = cc

inside_alike : (s e : List ℕ) (old new : Cells) → map key_of new ≡ map key_of old → Inside s e old → Inside s e new
inside_alike s e [] [] h all = tt
inside_alike s e [] (p ∷ ps) h all = cons_nil p.0 (map key_of ps) h
inside_alike s e (q ∷ qs) [] h all = nil_cons q.0 (map key_of qs) h
inside_alike s e (q ∷ qs) (p ∷ ps) h all =
    (subst (λ k. holds s e k ≡ true) (sym (first_same p.0 q.0 (map key_of ps) (map key_of qs) h)) all.0, inside_alike s e qs ps (rest_same p.0 q.0 (map key_of ps) (map key_of qs) h) all.1)

over_alike : (k : List ℕ) (old new : Cells) → map key_of new ≡ map key_of old → AllOver key_of k old → AllOver key_of k new
over_alike k [] [] h all = tt
over_alike k [] (p ∷ ps) h all = cons_nil p.0 (map key_of ps) h
over_alike k (q ∷ qs) [] h all = nil_cons q.0 (map key_of qs) h
over_alike k (q ∷ qs) (p ∷ ps) h all =
    (subst (λ z. key_lt k z ≡ true) (sym (first_same p.0 q.0 (map key_of ps) (map key_of qs) h)) all.0, over_alike k qs ps (rest_same p.0 q.0 (map key_of ps) (map key_of qs) h) all.1)

ascends_alike : (old new : Cells) → map key_of new ≡ map key_of old → Ascends key_of old → Ascends key_of new
ascends_alike [] [] h asc = tt
ascends_alike [] (p ∷ ps) h asc = cons_nil p.0 (map key_of ps) h
ascends_alike (q ∷ qs) [] h asc = nil_cons q.0 (map key_of qs) h
ascends_alike (q ∷ qs) (p ∷ ps) h asc =
    let tails : map key_of ps ≡ map key_of qs = rest_same p.0 q.0 (map key_of ps) (map key_of qs) h in
    (subst (λ z. AllOver key_of z ps) (sym (first_same p.0 q.0 (map key_of ps) (map key_of qs) h)) (over_alike q.0 qs ps tails asc.0), ascends_alike qs ps tails asc.1)

ends_alike : (r q : Range) → Alike r q → end_of q ≡ end_of r
ends_alike r q a = ap (λ i. i.desc.span.end) a.info

fits_alike : (s : List ℕ) (r q : Range) → Alike r q → Fits s r → Fits s q
fits_alike s r q a t = record {
  begins = ap (λ i. i.desc.span.start) a.info ∙ t.begins;
  some = subst (λ e. key_lt s e ≡ true) (sym (ends_alike r q a)) t.some;
  rising = ascends_alike r.cells q.cells a.keys t.rising;
  inside = subst (λ e. Inside s e q.cells) (sym (ends_alike r q a)) (inside_alike s (end_of r) r.cells q.cells a.keys t.inside);
}

pub tiles_alike : (s : List ℕ) (rs qs : List Range) → AllAlike rs qs → Tiles s rs → Tiles s qs
tiles_alike s [] [] a t = t
tiles_alike s [] (q ∷ qs) a t = absurd a
tiles_alike s (r ∷ rs) [] a t = absurd a
tiles_alike s (r ∷ rs) (q ∷ qs) a t =
    (fits_alike s r q a.0 t.0, subst (λ e. Tiles e qs) (sym (ends_alike r q a.0)) (tiles_alike (end_of r) rs qs a.1 t.1))

pub alike_itself : (rs : List Range) → AllAlike rs rs
alike_itself [] = tt
alike_itself (r ∷ rs) = (record { info = refl; keys = refl }, alike_itself rs)

pub alike_again : (rs qs ps : List Range) → AllAlike rs qs → AllAlike qs ps → AllAlike rs ps
alike_again [] [] [] a b = tt
alike_again [] [] (p ∷ ps) a b = absurd b
alike_again [] (q ∷ qs) ps a b = absurd a
alike_again (r ∷ rs) [] ps a b = absurd a
alike_again (r ∷ rs) (q ∷ qs) [] a b = absurd b
alike_again (r ∷ rs) (q ∷ qs) (p ∷ ps) a b =
    (record { info = b.0.info ∙ a.0.info; keys = b.0.keys ∙ a.0.keys }, alike_again rs qs ps a.1 b.1)

alike_one : (xs : List Range) (i : ℕ) (old y : Range) → i < length xs → old ≡ get_or xs i old → Alike old y → AllAlike xs (set xs i y)
alike_one [] i old y low at a = tt
alike_one (x ∷ xs) zero old y low at a = (subst (λ z. Alike z y) at a, alike_itself xs)
alike_one (x ∷ xs) (suc i) old y low at a = (record { info = refl; keys = refl }, alike_one xs i old y (omega (arith, low)) at a)

-- one more of them with other contents at its keys
pub alike_set : (all xs : List Range) (i : ℕ) (old y : Range) → AllAlike all xs → i < length xs → slice_get xs i ≡ Some old → y.info ≡ old.info → map key_of y.cells ≡ map key_of old.cells → AllAlike all (set xs i y)
alike_set all xs i old y a low at info keys =
    alike_again all xs (set xs i y) a (alike_one xs i old y low (sym (get_or_from_slice_get xs i old old at)) (record { info = info; keys = keys }))

-- the first n changed
abbrev pub mapped_to : (Range → Range) → ℕ → List Range → List Range
mapped_to f zero xs = xs
mapped_to f (suc n) [] = []
mapped_to f (suc n) (x ∷ xs) = f x ∷ mapped_to f n xs

mapped_suc : (f : Range → Range) (n : ℕ) (xs : List Range) (old : Range) → n < length (mapped_to f n xs) → old ≡ get_or (mapped_to f n xs) n old → set (mapped_to f n xs) n (f old) ≡ mapped_to f (suc n) xs
mapped_suc f zero [] old low at = absurd (omega arith)
mapped_suc f zero (x ∷ xs) old low at = ap (λ z. f z ∷ xs) at
mapped_suc f (suc n) [] old low at = absurd (omega arith)
mapped_suc f (suc n) (x ∷ xs) old low at = ap (λ zs. f x ∷ zs) (mapped_suc f n xs old (omega (arith, low)) at)

-- one more changed
pub mapped_more : (f : Range → Range) (n : ℕ) (xs now : List Range) (old y : Range) → now ≡ mapped_to f n xs → n < length now → slice_get now n ≡ Some old → y ≡ f old → set now n y ≡ mapped_to f (n + 1) xs
mapped_more f n xs now old y so_far low at is =
    let next : suc n ≡ n + 1 = omega arith in
    ap (λ z. set now n z) is ∙ ap (λ zs. set zs n (f old)) so_far
    ∙ mapped_suc f n xs old (subst (λ zs. n < length zs) so_far low) (subst (λ zs. old ≡ get_or zs n old) so_far (sym (get_or_from_slice_get now n old old at)))
    ∙ ap (λ m. mapped_to f m xs) next

pub mapped_long : (f : Range → Range) (n : ℕ) (xs : List Range) → length (mapped_to f n xs) ≡ length xs
mapped_long f zero xs = refl
mapped_long f (suc n) [] = refl
mapped_long f (suc n) (x ∷ xs) = ap suc (mapped_long f n xs)

mapped_whole : (f : Range → Range) (n : ℕ) (xs : List Range) → length xs ≤ n → mapped_to f n xs ≡ map f xs
mapped_whole f zero [] low = refl
mapped_whole f zero (x ∷ xs) low = absurd (omega arith)
mapped_whole f (suc n) [] low = refl
mapped_whole f (suc n) (x ∷ xs) low = ap (λ zs. f x ∷ zs) (mapped_whole f n xs (omega (arith, low)))

-- all changed
pub mapped_done : (f : Range → Range) (n : ℕ) (xs now : List Range) → now ≡ mapped_to f n xs → length now ≤ n → now ≡ map f xs
mapped_done f n xs now so_far low =
    so_far ∙ mapped_whole f n xs (subst (λ m. m ≤ n) (mapped_long f n xs) (subst (λ zs. length zs ≤ n) so_far low))

-- ---- settled again

-- a range of which a part was settled
pub settle-same : (txn : ℕ) (commit : Option Stamp) (r q : Range) → q.info ≡ r.info → PartlyAs (settle_cell txn commit) r.cells q.cells → settle_range txn commit q ≡ settle_range txn commit r
settle-same txn commit r q info partly = let cells = settled_again txn commit r.cells q.cells partly in λ i. record { info = info i; cells = cells i }

-- one of them changed to another that comes to the same
pub map-set : (f : Range → Range) (xs : List Range) (i : ℕ) (old y : Range) → i < length xs → slice_get xs i ≡ Some old → f y ≡ f old → map f (set xs i y) ≡ map f xs
map-set f [] i old y low at same = absurd (omega (arith, low))
map-set f (x ∷ xs) zero old y low at same = ap (λ z. z ∷ map f xs) (same ∙ ap f (sym (some_same x old at)))
map-set f (x ∷ xs) (suc i) old y low at same = ap (λ zs. f x ∷ zs) (map-set f xs i old y (omega (arith, low)) at same)

-- ---- what they keep

alike-infos : (rs qs : List Range) → AllAlike rs qs → infos qs ≡ infos rs
alike-infos [] [] a = refl
alike-infos [] (q ∷ qs) a = absurd a
alike-infos (r ∷ rs) [] a = absurd a
alike-infos (r ∷ rs) (q ∷ qs) a = ap (λ i. i ∷ infos qs) a.0.info ∙ ap (λ is. r.info ∷ is) (alike-infos rs qs a.1)

alike-descs : (rs qs : List Range) → AllAlike rs qs → own_descs qs ≡ own_descs rs
alike-descs [] [] a = refl
alike-descs [] (q ∷ qs) a = absurd a
alike-descs (r ∷ rs) [] a = absurd a
alike-descs (r ∷ rs) (q ∷ qs) a = ap (λ i. i.desc ∷ own_descs qs) a.0.info ∙ ap (λ ds. r.info.desc ∷ ds) (alike-descs rs qs a.1)

abbrev NewestInfo : List RangeDesc → Info → Type 0
NewestInfo ds i = (k : List ℕ) → holds i.desc.span.start i.desc.span.end k ≡ true → last_of (containing k ds) ≡ Some i.desc

newest-alike : (ds : List RangeDesc) (r q : Range) → q.info ≡ r.info → IsNewest ds r → IsNewest ds q
newest-alike ds r q same newest = subst (NewestInfo ds) (sym same) newest

alike-newest : (ds : List RangeDesc) (rs qs : List Range) → AllAlike rs qs → Each (IsNewest ds) rs → Each (IsNewest ds) qs
alike-newest ds [] [] a all = tt
alike-newest ds [] (q ∷ qs) a all = absurd a
alike-newest ds (r ∷ rs) [] a all = absurd a
alike-newest ds (r ∷ rs) (q ∷ qs) a all = (newest-alike ds r q a.0.info all.0, alike-newest ds rs qs a.1 all.1)

pub alike-sound : (rs items : List Range) (ds : List RangeDesc) (places : List ℕ) → AllAlike rs items → IsSound rs ds places → IsSound items ds places
alike-sound rs items ds places a sound =
    sound-same rs items ds places sound
    (record {
      tiled = tiles_alike [] rs items a sound.keeps.tiled;
      newest = alike-newest ds rs items a sound.keeps.newest;
      rise = sound.keeps.rise;
      ids = ap ids_differ (alike-infos rs items a) ∙ sound.keeps.ids;
      leases = ap (list_all has_lease) (alike-infos rs items a) ∙ sound.keeps.leases;
    })
    (alike-descs rs items a)
