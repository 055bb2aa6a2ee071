-- Items asked again, and the middle of a batch.
use Rattle.std.proofs.Common.{◌≡◌, ℕ, ◌≤◌, ◌<◌, true, false, List, [], ◌∷◌, ◌++◌, Option, Some, None, refl, sym, ap, ◌∙◌, subst, arith}
use Rattle.ds_base.specs.declared.value.Stamp.{Stamp}
use Rattle.ds_base.specs.declared.value.Value.{Value}
use Rattle.ds_base.proofs.TestFacts.{never as never_so}
use Rattle.ds_kind.specs.Asks.{takes_number}
use Rattle.ds_kind.specs.declared.batch.Item.{Item}
use Rattle.ds_kind.specs.declared.request.Request.{Request}
use Rattle.ds_kind.specs.declared.request.Request.TheVariants.{Get, Scan, ReverseScan, Put as PutAt, ConditionalPut, InitPut, Increment, Delete, DeleteRange, EndTxn, QueryIntent, ResolveIntent, ResolveIntentRange, AdminSplit, AdminTransferLease}
use Rattle.ds_cell.specs.declared.entry.At.{At}
use Rattle.ds_cell.specs.declared.entry.Written.{Written}
use Rattle.ds_cell.specs.declared.verdict.Verdict.{Verdict}
use Rattle.ds_cell.specs.declared.verdict.Verdict.TheVariants.{Keep, Put, Refuse}
use Rattle.ds_cell.specs.declared.verdict.Bit.{Bit}
use Rattle.ds_cell.specs.Content.{Content, Rises, stamp_of}
use Rattle.ds_cell.specs.Change.{after_foreign}
use Rattle.ds_cell.specs.Deed.{Sight, deed, decide, guarded, sight, content_after, IsBitOf}
use Rattle.ds_cell.specs.Seen.{too_old}
use Rattle.ds_cell.specs.Kinds.{judge_nothing, judge_read, judge_query, nothing, nothing-flagged, read-flagged, query-flagged}
use Rattle.ds_cell.specs.Laws.{IsLater, Repeats, WritesIf}
use Rattle.ds_cell.specs.Requests.{deed_of}
use Rattle.ds_cell.proofs.LaterFacts.{later_itself, later_again, later_write, later_foreign}
use Rattle.ds_cell.specs.RequestProofs.{repeats_of}
use Rattle.ds_rule.specs.Turn.{IsNoRefusal, TurnGives, and_turn, asks_as, verdict, after_item, after_items, turn_of}
use Rattle.ds_turn.specs.Course.{AllForeignAbove, ByBatch, ByOther, Course, NoneRefused, batch_items, course_after, with_versions}
use Rattle.ds_turn.specs.KeyIs.{KeyIs}
use Rattle.ds_turn.specs.Partway.{AllLater, AskedAgain, NumbersInOrder, PartwayActs, PartwayAgain, PartwayBegins, PartwayForeign}
use Rattle.ds_turn.proofs.Deeds.{later_alike}
use Rattle.ds_turn.proofs.Courses.{and_turn-fine, eased_more, eased_fine, after_more, more_version, stays_key, Stays}
use Rattle.ds_turn.proofs.KeyFacts.{above_more, key_verdict, key_item, key_foreign, more_alike}

-- what writes takes a number

guarded-put : (t : Option Stamp) (v : Verdict) (w : Option Value) (b : Bit) → guarded t v ≡ Put w b → v ≡ Put w b
guarded-put None v w b h = h
guarded-put (Some t) (Keep c) w b h = cc
guarded-put (Some t) (Put u c) w b h = cc
guarded-put (Some t) (Refuse f) w b h = cc

decide-put : (o : Option Written) (again : Option Value → Bit) (t : Option Stamp) (v : Verdict) (w : Option Value) (b : Bit) → decide o again t v ≡ Put w b → v ≡ Put w b
decide-put (Some x) again t v w b h = cc
decide-put None again t v w b h = guarded-put t v w b h

never-puts : {G : Type 0} (judge : Sight → Verdict) (again : Option Value → Bit) → WritesIf false judge → (at : At) (c : Content) (w : Option Value) (b : Bit) → deed false judge again at c ≡ Put w b → G
never-puts judge again only at c w b h = never_so (only _ w b (decide-put None again (too_old at c) (judge (sight at at.seq.0 c)) w b h))

pub puts_number : (r : Request) (at : At) (c : Content) (w : Option Value) (b : Bit) → deed_of r at c ≡ Put w b → takes_number r ≡ true
puts_number (Get a) at c w b h = never-puts judge_read nothing read-flagged at c w b h
puts_number (Scan a) at c w b h = never-puts judge_read nothing read-flagged at c w b h
puts_number (ReverseScan a) at c w b h = never-puts judge_read nothing read-flagged at c w b h
puts_number (PutAt a) at c w b h = refl
puts_number (ConditionalPut a) at c w b h = refl
puts_number (InitPut a) at c w b h = refl
puts_number (Increment a) at c w b h = refl
puts_number (Delete a) at c w b h = refl
puts_number (DeleteRange a) at c w b h = refl
puts_number (EndTxn a) at c w b h = never-puts judge_nothing nothing (nothing-flagged false) at c w b h
puts_number (QueryIntent a) at c w b h = never-puts (judge_query a) nothing (query-flagged a) at c w b h
puts_number (ResolveIntent a) at c w b h = never-puts judge_nothing nothing (nothing-flagged false) at c w b h
puts_number (ResolveIntentRange a) at c w b h = never-puts judge_nothing nothing (nothing-flagged false) at c w b h
puts_number (AdminSplit a) at c w b h = never-puts judge_nothing nothing (nothing-flagged false) at c w b h
puts_number (AdminTransferLease a) at c w b h = never-puts judge_nothing nothing (nothing-flagged false) at c w b h

-- what later items leave

later-by : (a : At) (i j : Item) (v : Verdict) (c : Content) → verdict a j c ≡ v → (takes_number j.request ≡ true → i.seq.0 < j.seq.0) → IsLater (asks_as a i) c (content_after (asks_as a j) v c)
later-by a i j (Keep b) c e high = later_itself (asks_as a i) c
later-by a i j (Put w b) c e high = later_write (asks_as a i) (asks_as a j) w c refl refl (high (puts_number j.request (asks_as a j) c w b e))
later-by a i j (Refuse f) c e high = later_itself (asks_as a i) c

later-items : (a : At) (i : Item) (js : List Item) (c : Content) → AllLater i js → IsLater (asks_as a i) c (after_items a js c)
later-items a i [] c all = later_itself (asks_as a i) c
later-items a i (j ∷ js) c all =
    later_again (asks_as a i) c (after_item a j c) _ (later-by a i j (verdict a j c) c refl all.0) (later-items a i js (after_item a j c) all.1)

later-course : (s : ℕ) (a : At) (i : Item) (bs : Course) (c : Content) → a.stamp.0 ≤ s → AllForeignAbove s bs → AllLater i (batch_items bs) → IsLater (asks_as a i) c (course_after a bs c)
later-course s a i [] c low all after = later_itself (asks_as a i) c
later-course s a i (ByBatch j ∷ bs) c low all after =
    later_again (asks_as a i) c (after_item a j c) _ (later-by a i j (verdict a j c) c refl after.0) (later-course s a i bs (after_item a j c) low all after.1)
later-course s a i (ByOther v ∷ bs) c low all after =
    let high : s < v.stamp.0 = all.0 in
    later_again (asks_as a i) c (after_foreign v c) _ (later_foreign (asks_as a i) v c (omega (arith, low, high))) (later-course s a i bs (after_foreign v c) low all.1 after)

pub asked_again : AskedAgain
asked_again s a i bs c low all after =
    repeats_of i.request (asks_as a i) c (course_after a bs (after_item a i c)) (later-course s a i bs (after_item a i c) low all after)

-- items one after another

pub after-append : (a : At) (xs ys : List Item) (d : Content) → after_items a (xs ++ ys) d ≡ after_items a ys (after_items a xs d)
after-append a [] ys d = refl
after-append a (i ∷ xs) ys d = after-append a xs ys (after_item a i d)

numbers-after : (xs : List Item) (i : Item) (ys : List Item) → NumbersInOrder (xs ++ i ∷ ys) → AllLater i ys
numbers-after [] i ys all = all.0
numbers-after (x ∷ xs) i ys all = numbers-after xs i ys all.1

fine-in : (a : At) (xs : List Item) (i : Item) (ys : List Item) (d : Content) (bits : List (ℕ × Bit)) (ws : List Written) → turn_of a (xs ++ i ∷ ys) d ≡ TurnGives bits ws → IsNoRefusal (verdict a i (after_items a xs d))
fine-in a [] i ys d bits ws did = (and_turn-fine i (verdict a i d) (turn_of a ys (after_item a i d)) bits ws did).0
fine-in a (x ∷ xs) i ys d bits ws did =
    let parts = and_turn-fine x (verdict a x d) (turn_of a (xs ++ i ∷ ys) (after_item a x d)) bits ws did in
    fine-in a xs i ys (after_item a x d) parts.1 parts.2 parts.3

pub did_fine : (a : At) (i : Item) (v : Verdict) (is : List Item) (d : Content) → IsNoRefusal v → NoneRefused a is d → (bits : List (ℕ × Bit)) × (ws : List Written) × (and_turn i v (turn_of a is d) ≡ TurnGives bits ws)
did_fine a i (Keep b) is d fine all = (_, _, ap (and_turn i (Keep b)) all.gives)
did_fine a i (Put w b) is d fine all = (_, _, ap (and_turn i (Put w b)) all.gives)
did_fine a i (Refuse f) is d fine all = absurd fine

did-push : (a : At) (is : List Item) (j : Item) (d : Content) → NoneRefused a is d → IsNoRefusal (verdict a j (after_items a is d)) → NoneRefused a (is ++ j ∷ []) d
did-push a [] j d all fine =
    let r = did_fine a j (verdict a j d) [] (after_item a j d) fine (record { bits = []; writes = []; gives = refl }) in record { bits = r.0; writes = r.1; gives = r.2 }
did-push a (i ∷ is) j d all fine =
    let parts = and_turn-fine i (verdict a i d) (turn_of a is (after_item a i d)) all.bits all.writes all.gives in
    let rest = did-push a is j (after_item a i d) (record { bits = parts.1; writes = parts.2; gives = parts.3 }) fine in
    let r = did_fine a i (verdict a i d) (is ++ j ∷ []) (after_item a i d) parts.0 rest in
    record { bits = r.0; writes = r.1; gives = r.2 }

-- the middle

pub partway_begins : PartwayBegins
partway_begins s a c d k = record {
  key = k;
  above = tt;
  stamps_rise = (stays_key s c d k).rises;
  numbers_rise = tt;
  none_refused = record { bits = []; writes = []; gives = refl };
}

pub partway_foreign : PartwayForeign
partway_foreign s a acted vs c d v m high = record {
  key = subst (KeyIs s (after_foreign v c)) (more_version v vs (after_items a acted d)) (key_foreign s v c _ high m.key);
  above = above_more s vs v m.above high;
  stamps_rise = m.stamps_rise;
  numbers_rise = m.numbers_rise;
  none_refused = m.none_refused;
}

versions-kept : (at : At) (v : Verdict) (d : Content) → (content_after at v d).versions ≡ d.versions
versions-kept at (Keep b) d = refl
versions-kept at (Put w b) d = refl
versions-kept at (Refuse f) d = refl

-- items change no versions, and nothing that waits
pub versions_stay : (a : At) (is : List Item) (d : Content) → (after_items a is d).versions ≡ d.versions
versions_stay a [] d = refl
versions_stay a (i ∷ is) d = versions_stay a is (after_item a i d) ∙ versions-kept (asks_as a i) (verdict a i d) d

waiting-kept : (at : At) (v : Verdict) (d : Content) → (content_after at v d).waiting ≡ d.waiting
waiting-kept at (Keep b) d = refl
waiting-kept at (Put w b) d = refl
waiting-kept at (Refuse f) d = refl

pub waiting_stays : (a : At) (is : List Item) (d : Content) → (after_items a is d).waiting ≡ d.waiting
waiting_stays a [] d = refl
waiting_stays a (i ∷ is) d = waiting_stays a is (after_item a i d) ∙ waiting-kept (asks_as a i) (verdict a i d) d

pub stays_items : (a : At) (is : List Item) (d : Content) → Rises stamp_of d.versions → (after_items a is d).waiting ≡ [] → Stays (after_items a is d)
stays_items a is d r none = record { rises = subst (λ vs. Rises stamp_of vs) (sym (versions_stay a is d)) r; none_waits = none }

pub partway_acts : PartwayActs
partway_acts s a acted vs c d i m low numbers never =
    let e = after_items a acted d in
    let exact : verdict a i (with_versions vs e) ≡ verdict a i c = key_verdict s a i c (with_versions vs e) m.key low in
    let fine : IsNoRefusal (verdict a i (with_versions vs e)) = subst IsNoRefusal (sym exact) never in
    let same : verdict a i e ≡ verdict a i (with_versions vs e) = eased_fine _ _ (eased_more s a i vs e low m.above (stays_items a acted d m.stamps_rise m.key.none_waits)) fine in
    let next : after_item a i (with_versions vs e) ≡ with_versions vs (after_item a i e) = ap (λ v. content_after (asks_as a i) v (with_versions vs e)) (sym same) ∙ after_more (asks_as a i) (verdict a i e) vs e in (
      sym (same ∙ exact),
      record {
        key = subst (λ x. KeyIs s (after_item a i c) x) (next ∙ ap (with_versions vs) (sym (after-append a acted (i ∷ []) d))) (key_item s a i c (with_versions vs e) m.key low);
        above = m.above;
        stamps_rise = m.stamps_rise;
        numbers_rise = numbers;
        none_refused = did-push a acted i d m.none_refused (subst IsNoRefusal (sym same) fine);
      },
    )

-- again

abbrev OneBit : At → Item → Verdict → Content → Type 0
OneBit a i first c = ((b : Bit) × IsBitOf first b × IsBitOf (verdict a i c) b) × (after_item a i c ≡ c)

one-bit : (a : At) (i : Item) (first : Verdict) (c : Content) → IsNoRefusal first → Repeats first (verdict a i c) → OneBit a i first c
one-bit a i (Keep b) c fine same = ((b, refl, subst (λ v. IsBitOf v b) (sym same) refl), ap (λ v. content_after (asks_as a i) v c) same)
one-bit a i (Put w b) c fine same = ((b, refl, subst (λ v. IsBitOf v b) (sym same) refl), ap (λ v. content_after (asks_as a i) v c) same)
one-bit a i (Refuse f) c fine same = absurd fine

pub partway_again : PartwayAgain
partway_again s a acted vs c d xs i ys m low is =
    let e = after_items a acted d in
    let first = after_items a xs d in
    let all : after_items a ys (after_item a i first) ≡ e = sym (after-append a xs (i ∷ ys) d) ∙ ap (λ is. after_items a is d) (sym is) in
    let later : IsLater (asks_as a i) (after_item a i first) e = subst (IsLater (asks_as a i) (after_item a i first)) all (later-items a i ys (after_item a i first) (numbers-after xs i ys (subst NumbersInOrder is m.numbers_rise))) in
    let more : IsLater (asks_as a i) e (with_versions vs e) = later_alike (asks_as a i) e (with_versions vs e) (more_alike s (asks_as a i) vs e low m.above) in
    let again : Repeats (verdict a i first) (verdict a i (with_versions vs e)) = repeats_of i.request (asks_as a i) first (with_versions vs e) (later_again (asks_as a i) (after_item a i first) e (with_versions vs e) later more) in
    one-bit a i (verdict a i first) c
    (fine-in a xs i ys d m.none_refused.bits m.none_refused.writes (ap (λ is. turn_of a is d) (sym is) ∙ m.none_refused.gives))
    (subst (Repeats (verdict a i first)) (key_verdict s a i c (with_versions vs e) m.key low) again)
