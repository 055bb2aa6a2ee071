-- Routing a rest leaves fewer tries, or less to be routed.
use Rattle.std.proofs.Common.{◌≡◌, ℕ, ◌+◌, ◌-◌, ◌<◌, false, List, ◌∷◌, length, Some, None, refl, sym, ap, ◌∙◌, subst, arith}
use Rattle.std.proofs.lemmas.List.Recursion.{is_sum_by}
use Rattle.std.proofs.lemmas.List.Sorted.{IsPermutation-insert}
use Rattle.std.proofs.lemmas.List.Sums.{sum_by-insert}
use Rattle.std.specs.List.{insert, sum_by}
use Rattle.ds_base.specs.declared.value.Dir.{Dir}
use Rattle.ds_desc.specs.declared.desc.Info.{Info}
use Rattle.ds_kind.specs.declared.batch.Head.{Head}
use Rattle.ds_kind.specs.declared.batch.Part.{Part}
use Rattle.ds_kind.specs.declared.batch.Piece.{Piece}
use Rattle.ds_cover.proofs.Cutting.{cut-near}
use Rattle.ds_cover.proofs.Lessening.{cut-takes}
use Rattle.ds_cover.proofs.Measuring.{keeps-left}
use Rattle.ds_cover.specs.Cuts.{cut_items, rest_items, seek_key}
use Rattle.ds_cover.specs.Measures.{left_in, AllSpans, IsSpan}
use Rattle.ds_cut.specs.Pieces.{rest_part, ContainsSeek}
use Rattle.ds_retry.specs.Counted.{Counts, one_lost}
use Rattle.ds_rule.specs.Pieces.{Each}
use Rattle.ds_flight.specs.Causes.{GoesOn}
use Rattle.ds_flight.specs.Fills.{rest_left, to_route, tries_left, IsReady, Lessens}
use Rattle.ds_flight.specs.Places.{placed, rest_if, CutAt}
use Rattle.ds_flight.specs.Works.{items_of, work_left}
use Rattle.ds_flight.specs.declared.work.Flying.{Flying}
use Rattle.ds_flight.specs.declared.work.Task.{Task}
use Rattle.ds_flight.specs.declared.work.Task.TheVariants.{Rest, Routed}
use Rattle.ds_flight.proofs.Cutting.{piece-items}
use Rattle.ds_flight.proofs.Filling.{seeks}
use Rattle.ds_flight.proofs.Placing.{sought-none, sought-some}
use Rattle.ds_flight.proofs.Working.{each-permuted}

-- ---- sums over the work

-- a number of each task that is, of a rest, what is left of it
abbrev pub CountsRests : (Task → ℕ) → Type 0
CountsRests g = (c : Part) → g (Rest c) ≡ left_in c.items

sum-rest : (g : Task → ℕ) → CountsRests g → (c : Part) (at : ℕ) (work : List Task) → sum_by g (rest_if (seek_key c.dir c.items) c at work) ≡ left_in c.items + sum_by g work
sum-rest g same c at work =
    (elim (seek_key c.dir c.items) as (λ o. seek_key c.dir c.items ≡ o → sum_by g (rest_if o c at work) ≡ left_in c.items + sum_by g work) [
      | None ↦ λ e. let none : left_in c.items ≡ 0 = ap left_in (sought-none c.dir c.items e) in omega (arith, none)
      | Some k ↦ λ e.
          let one : sum_by g (insert work at (Rest c)) ≡ sum_by g work + g (Rest c) = sum_by-insert g work at (Rest c) in
          let two : g (Rest c) ≡ left_in c.items = same c in
          omega (arith, one, two)
    ]) refl

sum-placed : (g : Task → ℕ) → CountsRests g → (r : Flying) (c : Part) (at : ℕ) (work : List Task) → sum_by g (placed r c at work) ≡ g (Routed r) + (left_in c.items + sum_by g work)
sum-placed g same r c at work =
    let old = rest_if (seek_key c.dir c.items) c at work in
    let one : sum_by g (insert old at (Routed r)) ≡ sum_by g old + g (Routed r) = sum_by-insert g old at (Routed r) in
    let two : sum_by g old ≡ left_in c.items + sum_by g work = sum-rest g same c at work in
    omega (arith, one, two)

pub left-sum : (work : List Task) → work_left work ≡ sum_by (λ t. left_in (items_of t)) work
left-sum work = is_sum_by work_left (λ t. left_in (items_of t)) refl (λ t ts. refl) work

pub route-sum : (work : List Task) → to_route work ≡ sum_by rest_left work
route-sum work = is_sum_by to_route rest_left refl (λ t ts. refl) work

-- ---- what is left then

pub less-tries : (r l b : ℕ) → r + l < b → b - (r + (l + 1)) < b - (r + l)
less-tries r l b on = omega (arith, on)

pub cut-lessens :
    (m n : Counts) (c : Part) (head : Head) (i : Info) (t at : ℕ) (old new : List Task) → n ≡ m → IsSpan i.desc.span → AllSpans c.items → ContainsSeek i.desc c
    → 0 < length c.items → CutAt head i c t at old new → Lessens m n (Rest c ∷ old) new
cut-lessens m n c head i t at old new same span spans seek some cut =
    let r = cut.flying in
    let s = seeks c.dir c.items some in
    let items : r.piece.items ≡ cut_items i.desc.span c.items = ap (λ (x : Piece). x.items) (piece-items head i.desc.id c.dir (cut_items i.desc.span c.items) r.piece cut.taken.piece) in
    let piece : left_in r.piece.items ≡ left_in (cut_items i.desc.span c.items) = ap left_in items in
    let takes : 0 < left_in (cut_items i.desc.span c.items) = cut-takes c.dir i.desc.span s.0 c.items span spans s.1 (seek s.0 s.1) in
    let all : left_in (cut_items i.desc.span c.items) + left_in (rest_items c.dir i.desc.span c.items) ≡ left_in c.items = keeps-left c.dir i.desc.span c.items span spans (cut-near c.dir i.desc.span c.items seek) in
    let routes : to_route new ≡ 0 + (left_in (rest_items c.dir i.desc.span c.items) + to_route old) = route-sum new ∙ ap (sum_by rest_left) cut.work ∙ sum-placed rest_left (λ p. refl) r (rest_part i.desc c) at old ∙ ap (λ n. 0 + (left_in (rest_items c.dir i.desc.span c.items) + n)) (sym (route-sum old)) in
    let left : work_left new ≡ left_in r.piece.items + (left_in (rest_items c.dir i.desc.span c.items) + work_left old) = left-sum new ∙ ap (sum_by (λ x. left_in (items_of x))) cut.work ∙ sum-placed (λ x. left_in (items_of x)) (λ p. refl) r (rest_part i.desc c) at old ∙ ap (λ n. left_in r.piece.items + (left_in (rest_items c.dir i.desc.span c.items) + n)) (sym (left-sum old)) in
    let tries : tries_left n ≡ tries_left m = ap tries_left same in
    record {
      adds_none = record { tries = omega (arith, tries); work = omega (arith, left, piece, all) };
      less = omega (arith, tries, routes, all, takes);
    }

pub again-lessens : (m n : Counts) (c : Part) (at : ℕ) (old new : List Task) → n ≡ one_lost false m → GoesOn m → new ≡ insert old at (Rest c) → Lessens m n (Rest c ∷ old) new
again-lessens m n c at old new same on work =
    let routes : to_route new ≡ to_route old + left_in c.items = route-sum new ∙ ap (sum_by rest_left) work ∙ sum_by-insert rest_left old at (Rest c) ∙ ap (λ n. n + left_in c.items) (sym (route-sum old)) in
    let left : work_left new ≡ work_left old + left_in c.items = left-sum new ∙ ap (sum_by (λ x. left_in (items_of x))) work ∙ sum_by-insert (λ x. left_in (items_of x)) old at (Rest c) ∙ ap (λ n. n + left_in c.items) (sym (left-sum old)) in
    let fewer : tries_left (one_lost false m) < tries_left m = less-tries m.refused m.lost m.budget on in
    subst (λ x. Lessens m x (Rest c ∷ old) new) (sym same) (record {
      adds_none = record { tries = omega (arith, fewer); work = omega (arith, left) };
      less = omega (arith, fewer, routes);
    })

-- ---- each rest has something left

pub ready-again : (d : Dir) (c : Part) (at : ℕ) (old new : List Task) → new ≡ insert old at (Rest c) → Each (IsReady d) (Rest c ∷ old) → Each (IsReady d) new
ready-again d c at old new same all =
    subst (Each (IsReady d)) (sym same) (each-permuted (IsReady d) (Rest c ∷ old) (insert old at (Rest c)) (IsPermutation-insert old at (Rest c)) all)

ready-rest : (d : Dir) (c : Part) (at : ℕ) (old : List Task) → c.dir ≡ d → Each (IsReady d) old → Each (IsReady d) (rest_if (seek_key c.dir c.items) c at old)
ready-rest d c at old dir all =
    (elim (seek_key c.dir c.items) as (λ o. seek_key c.dir c.items ≡ o → Each (IsReady d) (rest_if o c at old)) [
      | None ↦ λ e. all
      | Some k ↦ λ e. ready-again d c at old (insert old at (Rest c)) refl ((sought-some c.dir c.items k e, dir), all)
    ]) refl

pub ready-cut : (d : Dir) (c : Part) (head : Head) (i : Info) (t at : ℕ) (old new : List Task) → CutAt head i c t at old new → Each (IsReady d) (Rest c ∷ old) → Each (IsReady d) new
ready-cut d c head i t at old new cut all =
    let rest = rest_part i.desc c in
    let more = rest_if (seek_key rest.dir rest.items) rest at old in
    subst (Each (IsReady d)) (sym cut.work)
    (each-permuted (IsReady d) (Routed cut.flying ∷ more) (insert more at (Routed cut.flying)) (IsPermutation-insert more at (Routed cut.flying)) (tt, ready-rest d rest at old all.0.1 all.1))
