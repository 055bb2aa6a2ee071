-- The least span that holds the spans of all requests.
use Rattle.std.proofs.Common.{◌≡◌, ℕ, true, List, [], ◌∷◌, refl}
use Rattle.std.specs.List.{list_all}
use Rattle.ds_base.specs.Order.{Extent, key_lt, key_le, min_key, max_key}
use Rattle.ds_base.proofs.KeyOrder.{key_le_lt-trans}
use Rattle.ds_base.proofs.SmallFacts.{and_both, and_first, and_second}
use Rattle.ds_base.proofs.OrderedFacts.{le_trans, lt_le_trans}
use Rattle.ds_base.proofs.KeyFacts.{min_first, min_second, max_first, max_second}
use Rattle.ds_kind.specs.Request.{span_of}
use Rattle.ds_kind.specs.declared.batch.Item.{Item}
use Rattle.ds_kind.specs.WholeSpan.{whole_span, widened}
use Rattle.ds_rule.specs.Path.{holds_span}

pub wider-proper : (a b c d : List ℕ) → key_lt a b ≡ true → key_lt (min_key a c) (max_key b d) ≡ true
wider-proper a b c d h = lt_le_trans (min_key a c) b (max_key b d) (key_le_lt-trans (min_key a c) a b (min_first a c) h) (max_first b d)

-- what holds the least span holds each request's

narrower : (d w s : Extent) → holds_span d w ≡ true → key_le w.start s.start ≡ true → key_le s.end w.end ≡ true → holds_span d s ≡ true
narrower d w s h from to =
    and_both (key_le d.start s.start) _ (le_trans d.start w.start s.start (and_first (key_le d.start w.start) _ h) from)
    (le_trans s.end w.end d.end to (and_second (key_le d.start w.start) _ h))

widened-held : (d s : Extent) (items : List Item) → holds_span d (widened s items) ≡ true → (holds_span d s ≡ true) × (list_all (λ j. holds_span d (span_of j.request)) items ≡ true)
widened-held d s [] h = (h, refl)
widened-held d s (i ∷ is) h =
    let t = span_of i.request in
    let wide : Extent = record { start = min_key s.start t.start; end = max_key s.end t.end } in
    let more = widened-held d wide is h in (
      narrower d wide s more.0 (min_first s.start t.start) (max_first s.end t.end),
      and_both (holds_span d t) _ (narrower d wide t more.0 (min_second s.start t.start) (max_second s.end t.end)) more.1,
    )

pub whole-held : (d : Extent) (items : List Item) → holds_span d (whole_span items) ≡ true → list_all (λ j. holds_span d (span_of j.request)) items ≡ true
whole-held d [] h = refl
whole-held d (i ∷ is) h = let both = widened-held d (span_of i.request) is h in and_both (holds_span d (span_of i.request)) _ both.0 both.1
