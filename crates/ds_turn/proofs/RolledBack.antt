-- A rollback after some of a batch's items acted.
use Rattle.std.proofs.Common.{◌≡◌, ℕ, true, cond, ◌⊎◌, inl, inr, List, [], ◌∷◌, Option, Some, None, refl, sym, ap, ◌∙◌, fold, ◌==◌, arith}
use Rattle.std.proofs.lemmas.Bool.Decides.{nat_tests}
use Rattle.ds_kind.specs.declared.batch.Item.{Item}
use Rattle.ds_cell.specs.declared.entry.At.{At}
use Rattle.ds_cell.specs.declared.entry.Written.{Written}
use Rattle.ds_cell.specs.declared.verdict.Verdict.{Verdict}
use Rattle.ds_cell.specs.declared.verdict.Verdict.TheVariants.{Keep, Put, Refuse}
use Rattle.ds_cell.specs.Change.{made, settled, settled_by}
use Rattle.ds_cell.specs.Content.{Content}
use Rattle.ds_cell.specs.Deed.{content_after}
use Rattle.ds_cell.specs.Seen.{held, last_of}
use Rattle.ds_rule.proofs.Lasts.{none-last}
use Rattle.ds_rule.specs.Turn.{asks_as, verdict, after_item, after_items}
use Rattle.ds_turn.specs.Course.{with_versions}
use Rattle.ds_turn.specs.KeyIs.{KeyIs}
use Rattle.ds_turn.specs.Partway.{PartwayRolledBack}
use Rattle.ds_turn.proofs.Again.{versions_stay, waiting_stays}
use Rattle.ds_turn.proofs.Settled.{held-none, settles_alike}

-- the transaction alone may have writes at the key
abbrev Owns : ℕ → Content → Type 0
Owns n d = (d.history ≡ []) ⊎ (d.owner ≡ n)

owns-after : (a : At) (i : Item) (v : Verdict) (d : Content) → Owns a.txn.0 d → Owns a.txn.0 (content_after (asks_as a i) v d)
owns-after a i (Keep b) d owns = owns
owns-after a i (Put w b) d owns = inr refl
owns-after a i (Refuse f) d owns = owns

owns-all : (a : At) (is : List Item) (d : Content) → Owns a.txn.0 d → Owns a.txn.0 (after_items a is d)
owns-all a [] d owns = owns
owns-all a (i ∷ is) d owns = owns-all a is (after_item a i d) (owns-after a i (verdict a i d) d owns)

-- what is dropped leaves the versions, and no writes

dropped-versions : (o : Option Written) (e : Content) → e.waiting ≡ [] → (settled_by None o e).versions ≡ e.versions
dropped-versions None e none = refl
dropped-versions (Some w) e none = ap (fold made e.versions) none

dropped-waits : (o : Option Written) (e : Content) → e.waiting ≡ [] → (settled_by None o e).waiting ≡ []
dropped-waits None e none = none
dropped-waits (Some w) e none = refl

equals-itself : (n : ℕ) → (n == n) ≡ true
equals-itself n = grind (arith, nat_tests)

held-own : (n : ℕ) (e : Content) → e.owner ≡ n → held n e ≡ e.history
held-own n e same = ap (λ t. cond t e.history []) (ap (λ m. m == n) same ∙ equals-itself n)

dropped-by : (o : Option Written) (e : Content) → last_of e.history ≡ o → (settled_by None o e).history ≡ []
dropped-by None e last = none-last e.history last
dropped-by (Some w) e last = refl

dropped : (n : ℕ) (e : Content) → Owns n e → (settled n None e).history ≡ []
dropped n e (inl none) = ap (λ h. (settled_by None (last_of h) e).history) (held-none n e none) ∙ none
dropped n e (inr same) = ap (λ h. (settled_by None (last_of h) e).history) (held-own n e same) ∙ dropped-by (last_of e.history) e refl

pub partway_rolled_back : PartwayRolledBack
partway_rolled_back s a acted vs c d m owns =
    let n = a.txn.0 in
    let e = after_items a acted d in
    let both : KeyIs s (settled n None c) (settled n None (with_versions vs e)) = settles_alike s n None c (with_versions vs e) m.key tt in
    let waits : d.waiting ≡ [] = sym (waiting_stays a acted d) ∙ m.key.none_waits in
    let empty : (settled n None c).history ≡ [] = sym both.history ∙ dropped n (with_versions vs e) (owns-all a acted d owns) in
    record {
      rises = both.rises;
      versions =
          ap (λ us. fold made us vs) (dropped-versions (last_of (held n d)) d waits ∙ sym (versions_stay a acted d))
          ∙ sym (dropped-versions (last_of (held n (with_versions vs e))) (with_versions vs e) m.key.none_waits)
          ∙ both.versions;
      none_waits = dropped-waits (last_of (held n d)) d waits;
      history = dropped n d owns ∙ sym empty;
      whose = inl empty;
      waits = both.waits;
      above = both.above;
    }
