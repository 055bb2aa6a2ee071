-- A piece served at the range at its place, and undone.
use Rattle.std.proofs.Common.{◌≡◌, ℕ, zero, suc, ◌<◌, Bool, true, false, cond, List, [], ◌∷◌, Some, None, refl, sym, ap, ◌∙◌, subst, length, get_or, find, arith}
use Rattle.std.specs.List.{list_all, slice_get}
use Rattle.std.proofs.Math.ListN.{set}
use Rattle.ds_base.proofs.SmallFacts.{some_same}
use Rattle.ds_desc.specs.declared.desc.RangeDesc.{RangeDesc}
use Rattle.ds_kind.specs.declared.batch.Piece.{Piece}
use Rattle.ds_cell.specs.Ask.{Cells}
use Rattle.ds_range.specs.Evaluates.{answer_to, ended_in, kept_of}
use Rattle.ds_range.specs.Keeps.{Kept, restored}
use Rattle.ds_range.specs.Serves.{after_made}
use Rattle.ds_range.specs.declared.piece.Evaluation.{Evaluation}
use Rattle.ds_rule.specs.declared.record.TxnRecord.{TxnRecord}
use Rattle.ds_rule.specs.Asking.{Made, Gives, Fails, finished}
use Rattle.ds_rule.specs.Deliver.{answer_made, holds_item, with_cells}
use Rattle.ds_rule.specs.Endings.{records_made}
use Rattle.ds_serve.specs.Ends.{reopened}
use Rattle.ds_rule.specs.Pieces.{Each}
use Rattle.ds_rule.specs.World.{World, Range, Tiles, has_id, replaced}
use Rattle.ds_rule.proofs.Delivered.{held_tiles, same_descs}
use Rattle.ds_world.proofs.Foreign.{keeps-holding}
use Rattle.ds_ranges.specs.Layout.{Became, laid, layout}
use Rattle.ds_ranges.specs.Places.{IsFirst}
use Rattle.ds_ranges.specs.Serving.{Applies, HoldsItems, ServesPiece, after_piece, answered_at, held_at, made_of, put_back_at, records_at}
use Rattle.ds_ranges.specs.Sound.{IsSound, bare}
use Rattle.ds_ranges.proofs.Finding.{first-found, first-low, none-found}
use Rattle.ds_ranges.proofs.Sounds.{sound-same}

-- ---- the first range that passes, with other contents

abbrev filled : Range → Cells → Range
filled r cells = record r { cells = cells }

-- changed at its place, it is changed where it is found
set-first : (p : Range → Bool) (f : Range → Range) (rs : List Range) (i : ℕ) (r : Range) → IsFirst p rs i → slice_get rs i ≡ Some r → set rs i (f r) ≡ replaced p f rs
set-first p f [] i r first at = absurd first
set-first p f (q ∷ rs) zero r first at = ap (λ z. f z ∷ rs) (sym (some_same q r at)) ∙ ap (λ b. cond b (f q ∷ rs) (q ∷ replaced p f rs)) (sym first)
set-first p f (q ∷ rs) (suc i) r first at =
    ap (λ zs. q ∷ zs) (set-first p f rs i r first.1 at) ∙ ap (λ b. cond b (f q ∷ rs) (q ∷ replaced p f rs)) (sym first.0)

-- put back what stood there
set-back : (rs : List Range) (i : ℕ) (r : Range) → slice_get rs i ≡ Some r → set rs i r ≡ rs
set-back [] i r at = cc
set-back (q ∷ rs) zero r at = ap (λ z. z ∷ rs) (sym (some_same q r at))
set-back (q ∷ rs) (suc i) r at = ap (λ zs. q ∷ zs) (set-back rs i r at)

-- no range passes
none-filled : (p : Range → Bool) (f : Range → Range) (rs : List Range) → Each (λ r. p r ≡ false) rs → replaced p f rs ≡ rs
none-filled p f [] none = refl
none-filled p f (r ∷ rs) none = ap (λ b. cond b (f r ∷ rs) (r ∷ replaced p f rs)) none.0 ∙ ap (λ zs. r ∷ zs) (none-filled p f rs none.1)

first-at : (p : Range → Bool) (rs : List Range) (i : ℕ) (r : Range) → IsFirst p rs i → slice_get rs i ≡ Some r → find p rs ≡ Some r
first-at p rs i r first at = sym (first-found p rs i first) ∙ at

-- ---- what became of the ranges

made-filled : (id : ℕ) (cells : Cells) (rs items : List Range) (ds : List RangeDesc) (i : ℕ) (r : Range) → IsFirst (has_id id) rs i → slice_get rs i ≡ Some r → items ≡ set rs i (filled r cells) → Became (with_cells id cells) (layout rs ds) (layout items ds)
made-filled id cells rs items ds i r first at is w =
    ap (λ zs. record w { ranges = zs; descs = ds }) (is ∙ set-first (has_id id) (λ z. filled z cells) rs i r first at)

-- ---- they keep what they keep

sound-filled : (p : Range → Bool) (g : Range → Cells) (rs items : List Range) (ds : List RangeDesc) (places : List ℕ) → IsSound rs ds places → Tiles [] items → items ≡ replaced p (λ r. filled r (g r)) rs → IsSound items ds places
sound-filled p g rs items ds places sound tiled is =
    subst (λ zs. IsSound zs ds places) (sym is) (
    sound-same rs (replaced p (λ r. filled r (g r)) rs) ds places sound
    (keeps-holding p g (laid (layout rs ds) bare) (subst (Tiles []) is tiled) sound.keeps)
    (same_descs p g rs)
    )

sound-made : (p : Piece) (ts : List TxnRecord) (m : Made) (rs items : List Range) (ds : List RangeDesc) (places : List ℕ) (i : ℕ) (r : Range) → IsSound rs ds places → IsFirst (has_id p.range) rs i → slice_get rs i ≡ Some r → list_all (holds_item r) p.items ≡ true → made_of ts p r ≡ m → items ≡ set rs i (filled r (after_made p.head m r.cells)) → IsSound items ds places
sound-made p ts (Fails f) rs items ds places i r sound first at holds made is =
    subst (λ zs. IsSound zs ds places) (sym (is ∙ set-back rs i r at)) sound
sound-made p ts (Gives cells ws qs) rs items ds places i r sound first at holds made is =
    let whole : items ≡ replaced (has_id p.range) (λ z. filled z (finished p.head ws cells)) rs = is ∙ set-first (has_id p.range) (λ z. filled z (finished p.head ws cells)) rs i r first at in
    let w : World = record bare { ranges = rs; records = ts } in
    sound-filled (has_id p.range) (λ z. finished p.head ws cells) rs items ds places sound
    (subst (Tiles []) (sym whole) (held_tiles [] w p r cells ws qs (first-at (has_id p.range) rs i r first at) holds made sound.keeps.tiled))
    whole

-- ---- over what the calls say of the range at a place

record Entry (rs : List Range) (i : ℕ) : Type 0 where
  one : Range
  at : slice_get rs i ≡ Some one

entry : (rs : List Range) (i : ℕ) → i < length rs → Entry rs i
entry [] i low = absurd (omega (arith, low))
entry (r ∷ rs) zero low = record { one = r; at = refl }
entry (r ∷ rs) (suc i) low = let rest : Entry rs i = entry rs i (omega (arith, low)) in record { one = rest.one; at = rest.at }

-- what the calls say of the range at the place
abbrev pub FilledAt : Piece → List TxnRecord → List Range → ℕ → List Range → Type 0
FilledAt p ts rs i items = (r : Range) → slice_get rs i ≡ Some r → items ≡ set rs i (filled r (after_piece p ts r))

pub applied-sound : (p : Piece) (ts : List TxnRecord) (rs items : List Range) (ds : List RangeDesc) (places : List ℕ) (i : ℕ) → IsSound rs ds places → IsFirst (has_id p.range) rs i → HoldsItems p (find (has_id p.range) rs) → FilledAt p ts rs i items → IsSound items ds places
applied-sound p ts rs items ds places i sound first holds told =
    let e : Entry rs i = entry rs i (first-low (has_id p.range) rs i first) in
    sound-made p ts (made_of ts p e.one) rs items ds places i e.one sound first e.at (subst (HoldsItems p) (first-at (has_id p.range) rs i e.one first e.at) holds) refl (told e.one e.at)

-- back at its place
back-at : (id : ℕ) (kept : List Kept) (rs : List Range) (i : ℕ) (r : Range) (cells : Cells) → IsFirst (has_id id) rs i → slice_get rs i ≡ Some r → restored kept cells ≡ r.cells → put_back_at id kept (set rs i (filled r cells)) ≡ rs
back-at id kept [] i r cells first at back = absurd first
back-at id kept (q ∷ rs) zero r cells first at back =
    let here : has_id id r ≡ true = subst (λ z. has_id id z ≡ true) (some_same q r at) first in
    ap (λ b. cond b (filled r (restored kept cells) ∷ rs) (filled r cells ∷ put_back_at id kept rs)) here
    ∙ ap (λ c. filled r c ∷ rs) back ∙ ap (λ z. z ∷ rs) (sym (some_same q r at))
back-at id kept (q ∷ rs) (suc i) r cells first at back =
    ap (λ b. cond b (filled q (restored kept q.cells) ∷ set rs i (filled r cells)) (q ∷ put_back_at id kept (set rs i (filled r cells)))) first.0
    ∙ ap (λ zs. q ∷ zs) (back-at id kept rs i r cells first.1 at back)

pub applied : (p : Piece) (ts us : List TxnRecord) (rs items : List Range) (ds : List RangeDesc) (i : ℕ) (e : Evaluation) → IsFirst (has_id p.range) rs i → FilledAt p ts rs i items → ((r : Range) → slice_get rs i ≡ Some r → ServesPiece p ts us r e) → Applies p ts us (layout rs ds) (layout items ds) (Some e)
applied p ts us rs items ds i e first told serves =
    let x : Entry rs i = entry rs i (first-low (has_id p.range) rs i first) in
    let found : find (has_id p.range) rs ≡ Some x.one = first-at (has_id p.range) rs i x.one first x.at in
    let s : ServesPiece p ts us x.one e = serves x.one x.at in
    let is : items ≡ set rs i (filled x.one (after_piece p ts x.one)) = told x.one x.at in
    record {
      answer = ap Some s.answer ∙ sym (ap (answered_at ts p) found);
      after = subst (λ o. Became (held_at ts p o) (layout rs ds) (layout items ds)) (sym found) (made-filled p.range (after_piece p ts x.one) rs items ds i x.one first x.at is);
      records = s.records ∙ sym (ap (records_at ts p) found);
      back = ap (λ zs. layout (put_back_at p.range (kept_of e) zs) ds) is ∙ ap (λ zs. layout zs ds) (back-at p.range (kept_of e) rs i x.one (after_piece p ts x.one) first x.at s.back);
      reopens = s.reopens;
    }

pub applied-none : (p : Piece) (ts : List TxnRecord) (rs : List Range) (ds : List RangeDesc) → Each (λ r. has_id p.range r ≡ false) rs → Applies p ts ts (layout rs ds) (layout rs ds) None
applied-none p ts rs ds none =
    let found : None ≡ find (has_id p.range) rs = none-found (has_id p.range) rs none in
    record {
      answer = ap (answered_at ts p) found;
      after = subst (λ o. Became (held_at ts p o) (layout rs ds) (layout rs ds)) found (λ w. refl);
      records = ap (records_at ts p) found;
      back = refl;
      reopens = refl;
    }

-- ---- undone

pub undone : (id : ℕ) (kept : List Kept) (rs items : List Range) (i : ℕ) → IsFirst (has_id id) rs i → ((r : Range) → slice_get rs i ≡ Some r → items ≡ set rs i (record r { cells = restored kept r.cells })) → items ≡ put_back_at id kept rs
undone id kept rs items i first told =
    let e : Entry rs i = entry rs i (first-low (has_id id) rs i first) in
    told e.one e.at ∙ set-first (has_id id) (λ r. record r { cells = restored kept r.cells }) rs i e.one first e.at

pub undone-none : (id : ℕ) (kept : List Kept) (rs : List Range) → Each (λ r. has_id id r ≡ false) rs → rs ≡ put_back_at id kept rs
undone-none id kept rs none = sym (none-filled (has_id id) (λ r. record r { cells = restored kept r.cells }) rs none)

pub undone-sound : (id : ℕ) (kept : List Kept) (rs items : List Range) (ds : List RangeDesc) (places : List ℕ) → IsSound rs ds places → Tiles [] (put_back_at id kept rs) → items ≡ put_back_at id kept rs → IsSound items ds places
undone-sound id kept rs items ds places sound tiled is =
    sound-filled (has_id id) (λ r. restored kept r.cells) rs items ds places sound (subst (Tiles []) (sym is) tiled) is

-- one place read twice
pub read-same : (rs : List Range) (i : ℕ) (r y : Range) → slice_get rs i ≡ Some r → y ≡ get_or rs i y → i < length rs → r ≡ y
read-same [] i r y at is low = absurd (omega (arith, low))
read-same (q ∷ rs) zero r y at is low = sym (some_same q r at) ∙ sym is
read-same (q ∷ rs) (suc i) r y at is low = read-same rs i r y at is (omega (arith, low))

-- what the range at the place was told
pub serves-at : (p : Piece) (ts us : List TxnRecord) (rs : List Range) (i : ℕ) (old y : Range) (e : Evaluation) → old ≡ get_or rs i old → i < length rs → answer_to e ≡ answer_made (made_of ts p old) → y ≡ filled old (after_piece p ts old) → us ≡ records_made p.head p.items (made_of ts p old) ts → restored (kept_of e) y.cells ≡ old.cells → reopened (ended_in e) us ≡ ts → (r : Range) → slice_get rs i ≡ Some r → ServesPiece p ts us r e
serves-at p ts us rs i old y e read low answer after records back reopens r at =
    subst (λ z. ServesPiece p ts us z e) (sym (read-same rs i r old at read low)) (record {
      answer = answer;
      records = records;
      back = ap (λ z. restored (kept_of e) z.cells) (sym after) ∙ back;
      reopens = reopens;
    })

pub filled-at : (p : Piece) (ts : List TxnRecord) (rs : List Range) (i : ℕ) (old y : Range) → old ≡ get_or rs i old → i < length rs → y ≡ filled old (after_piece p ts old) → FilledAt p ts rs i (set rs i y)
filled-at p ts rs i old y read low after r at = ap (set rs i) (after ∙ ap (λ z. filled z (after_piece p ts z)) (sym (read-same rs i r old at read low)))
