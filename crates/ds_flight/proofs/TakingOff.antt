-- Something of a rest lies in the range of its first key.
use Rattle.std.proofs.Common.{◌≡◌, ℕ, ◌<◌, List, [], ◌∷◌, length, Some, None, refl, ap, arith}
use Rattle.ds_base.proofs.SmallFacts.{some_none}
use Rattle.ds_desc.specs.declared.desc.RangeDesc.{RangeDesc}
use Rattle.ds_kind.specs.declared.batch.Head.{Head}
use Rattle.ds_kind.specs.declared.batch.Item.{Item}
use Rattle.ds_kind.specs.declared.batch.Part.{Part}
use Rattle.ds_cover.proofs.Lessening.{cut-takes}
use Rattle.ds_cover.specs.Cuts.{cut_items, seek_key}
use Rattle.ds_cover.specs.Measures.{left_in, AllSpans, IsSpan}
use Rattle.ds_cut.specs.Pieces.{cut_piece, piece_with, ContainsSeek}
use Rattle.ds_base.specs.declared.value.Dir.{Dir}
use Rattle.ds_base.specs.declared.value.Dir.TheVariants.{Forward, Reverse}

none-cut : (head : Head) (range : ℕ) (d : Dir) (items : List Item) → piece_with head range d items ≡ None → items ≡ []
none-cut head range d [] h = refl
none-cut head range d (i ∷ is) h = some_none _ h

cuts-some : {G : Type 0} (d : Dir) (desc : RangeDesc) (items : List Item) → IsSpan desc.span → AllSpans items → ((s : List ℕ) → seek_key d items ≡ Some s → (0 < left_in (cut_items desc.span items))) → 0 < length items → cut_items desc.span items ≡ [] → G
cuts-some d desc [] span spans takes some none = let bad : 0 < 0 = some in absurd (omega (arith, bad))
cuts-some Forward desc (i ∷ is) span spans takes some none = let low = takes _ refl in let nothing : left_in (cut_items desc.span (i ∷ is)) ≡ 0 = ap left_in none in absurd (omega (arith, low, nothing))
cuts-some Reverse desc (i ∷ is) span spans takes some none = let low = takes _ refl in let nothing : left_in (cut_items desc.span (i ∷ is)) ≡ 0 = ap left_in none in absurd (omega (arith, low, nothing))

pub takes-off : {G : Type 0} (head : Head) (desc : RangeDesc) (c : Part) → IsSpan desc.span → AllSpans c.items → ContainsSeek desc c → 0 < length c.items → cut_piece head desc c ≡ None → G
takes-off head desc c span spans seek some none =
    cuts-some c.dir desc c.items span spans (λ s is. cut-takes c.dir desc.span s c.items span spans is (seek s is)) some (none-cut head desc.id c.dir (cut_items desc.span c.items) none)
