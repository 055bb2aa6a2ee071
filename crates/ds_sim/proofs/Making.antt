-- What a wire stands for after events of its block.
use Rattle.std.proofs.Common.{◌≡◌, ℕ, ◌+◌, ◌≤◌, ◌<◌, true, List, [], ◌∷◌, ◌++◌, length, refl, sym, ap, ◌∙◌, subst, append_assoc, arith, Result, Ok, Err, OnOk, OnErr}
use Rattle.std.specs.declared.alloc.AllocError.{AllocError}
use Rattle.ds_base.proofs.SmallFacts.{append_nil}
use Rattle.ds_base.specs.declared.value.Dir.{Dir}
use Rattle.ds_desc.specs.declared.desc.RangeDesc.{RangeDesc}
use Rattle.ds_desc.specs.declared.meta.Looked.{Looked}
use Rattle.ds_kind.specs.declared.batch.Piece.{Piece}
use Rattle.ds_rule.specs.declared.answer.Answer.{Answer}
use Rattle.ds_rule.specs.declared.event.Event.{Event}
use Rattle.ds_rule.specs.declared.event.Event.TheVariants.{Write, Split, Merge, Lease, Move, Stale, Abort, Arrive, LoseRequest, LoseReply, Copy, Restart}
use Rattle.ds_rule.specs.declared.event.Timed.{Timed}
use Rattle.ds_rule.specs.declared.journal.JournalStep.TheVariants.{Look, Send}
use Rattle.ds_rule.specs.Blocks.{all_made, woven}
use Rattle.ds_rule.specs.Clauses.{Looks, Sends, Stands, Stays}
use Rattle.ds_rule.specs.declared.record.TxnRecord.{TxnRecord}
use Rattle.ds_rule.specs.Moves.{IsMove, counted, counted_if, counts, effect, moved}
use Rattle.ds_rule.specs.Pieces.{Each}
use Rattle.ds_rule.specs.World.{World}
use Rattle.ds_rule.proofs.Calls.{stays-after, steps-after}
use Rattle.ds_sim.specs.Made.{CanBeMade}
use Rattle.ds_ranges.specs.Layout.{Layout}
use Rattle.ds_sim.specs.State.{stands_for, world_of}
use Rattle.ds_sim.specs.UnderWay.{IsNext, UnderWay, passed, passed_by}

-- ---- events that a wire may make by itself

pub move-made : (floor : ℕ) (e : Event) → IsMove floor e → CanBeMade e
move-made floor (Write k s v) h = h.1
move-made floor (Split k) h = tt
move-made floor (Merge k) h = tt
move-made floor (Lease k n) h = tt
move-made floor (Move k ns) h = tt
move-made floor (Stale k b) h = tt
move-made floor Abort h = tt
move-made floor (Arrive c) h = tt
move-made floor (LoseRequest c) h = tt
move-made floor (LoseReply c) h = tt
move-made floor (Copy c) h = tt
move-made floor (Restart t) h = tt

pub moves-made : (floor : ℕ) (ts : List Timed) → Each (λ t. IsMove floor t.event) ts → Each (λ t. CanBeMade t.event) ts
moves-made floor [] all = tt
moves-made floor (t ∷ ts) all = (move-made floor t.event all.0, moves-made floor ts all.1)

-- each is counted
pub move-counts : (floor : ℕ) (e : Event) → IsMove floor e → counts e ≡ true
move-counts floor (Write k s v) h = refl
move-counts floor (Split k) h = refl
move-counts floor (Merge k) h = refl
move-counts floor (Lease k n) h = refl
move-counts floor (Move k ns) h = refl
move-counts floor (Stale k b) h = refl
move-counts floor Abort h = refl
move-counts floor (Arrive c) h = refl
move-counts floor (LoseRequest c) h = absurd h
move-counts floor (LoseReply c) h = absurd h
move-counts floor (Copy c) h = absurd h
move-counts floor (Restart t) h = absurd h

-- ---- the next event of a block

pub passed-is : (u : UnderWay) (first : Timed) (rest : List Timed) → u.coming ≡ first ∷ rest → passed u ≡ record u { made = u.made ++ first ∷ []; coming = rest; count = u.count + 1 }
passed-is u first rest is = ap (λ ts. passed_by ts u) is

-- a state of the wire after the next event of its block
pub passing : (w v : World) (u : UnderWay) (c : ℕ) (picks : List ℕ) (e : Event) → IsNext e u → v ≡ moved w e → Stays (stands_for w u c picks) (stands_for v (passed u) c picks)
passing w v u c picks e next after =
    subst (λ z. Stays (stands_for w u c picks) (stands_for v z c picks)) (sym (passed-is u next.first next.rest next.coming))
    record {
      moves = e ∷ [];
      above = (next.move, tt);
      grown = next.after;
      runs = (moved w e, refl, after);
      floor = refl;
      ahead = refl;
      block = append_assoc u.made (next.first ∷ []) next.rest ∙ ap (λ ts. u.made ++ ts) (sym next.coming);
      refused = omega arith;
      lost = omega arith;
    }

pub passed-less : (u v : UnderWay) (e : Event) → IsNext e u → v ≡ passed u → length v.coming < length u.coming
passed-less u v e next is =
    subst (λ z. length z.coming < length u.coming) (sym (is ∙ passed-is u next.first next.rest next.coming))
    (subst (λ ts. length next.rest < length ts) (sym next.coming) (omega arith))

-- the same, told by what became of its parts
counted-so : (floor : ℕ) (l m : Layout) (armed later : List RangeDesc) (ts us : List TxnRecord) (n k : ℕ) (e : Event) → IsMove floor e → ((n : ℕ) → world_of m later us n ≡ effect e (world_of l armed ts n)) → k ≡ n + 1 → world_of m later us k ≡ moved (world_of l armed ts n) e
counted-so floor l m armed later ts us n k e move made more =
    ap (world_of m later us) more ∙ ap counted (made n) ∙ ap (λ b. counted_if b (effect e (world_of l armed ts n))) (sym (move-counts floor e move))

pub made-so : (l m : Layout) (armed later : List RangeDesc) (ts us : List TxnRecord) (u v : UnderWay) (c : ℕ) (picks : List ℕ) (e : Event) → IsNext e u → ((n : ℕ) → world_of m later us n ≡ effect e (world_of l armed ts n)) → v ≡ passed u → Stays (stands_for (world_of l armed ts u.count) u c picks) (stands_for (world_of m later us v.count) v c picks)
made-so l m armed later ts us u v c picks e next made is =
    subst (λ z. Stays (stands_for (world_of l armed ts u.count) u c picks) (stands_for (world_of m later us v.count) z c picks)) (sym is)
    (passing (world_of l armed ts u.count) (world_of m later us v.count) u c picks e next
    (counted-so u.floor l m armed later ts us u.count v.count e next.move made (ap (λ z. z.count) (is ∙ passed-is u next.first next.rest next.coming))))

-- nothing was made
pub same-state : (l m : Layout) (armed later : List RangeDesc) (ts us : List TxnRecord) (u : UnderWay) (c : ℕ) (picks : List ℕ) → m ≡ l → later ≡ armed → us ≡ ts → stands_for (world_of m later us u.count) u c picks ≡ stands_for (world_of l armed ts u.count) u c picks
same-state l m armed later ts us u c picks layouts descs records =
    ap (λ z. stands_for (world_of z later us u.count) u c picks) layouts
    ∙ ap (λ z. stands_for (world_of l z us u.count) u c picks) descs
    ∙ ap (λ z. stands_for (world_of l armed z u.count) u c picks) records

-- ---- a call after them

pub looks-after : (a m b : Stands) (k : List ℕ) (d : Dir) (r : Result Looked AllocError) → Stays a m → Looks m b k d r → Looks a b k d r
looks-after a m b k d (Ok l) x y = steps-after a m b (Look k d l) x y
looks-after a m b k d (Err e) x y = stays-after a m b x y

pub sends-after : (a m b : Stands) (n : ℕ) (p : Piece) (r : Result Answer AllocError) → Stays a m → Sends m b n p r → Sends a b n p r
sends-after a m b n p (Ok x) s y = steps-after a m b (Send n p x) s y
sends-after a m b n p (Err e) s y = stays-after a m b s y
