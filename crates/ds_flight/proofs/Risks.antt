-- Whether a lost send is at risk, told by the items of its piece.
use Rattle.std.proofs.Common.{◌≡◌, Bool, List, [], ◌∷◌, ◌||◌, Some, None, refl, sym, ap, ◌∙◌}
use Rattle.std.specs.List.{list_any}
use Rattle.ds_base.specs.declared.value.TxnNo.{TxnNo}
use Rattle.ds_kind.specs.Parts.{requests_of}
use Rattle.ds_kind.specs.declared.batch.Item.{Item}
use Rattle.ds_kind.specs.declared.batch.Piece.{Piece}
use Rattle.ds_kind.specs.declared.request.Request.{Request}
use Rattle.ds_flight.specs.Counting.{is_commit, is_risky, is_unrepeatable, risks}

any-requests : (p : Request → Bool) (items : List Item) → list_any (λ i. p i.request) items ≡ list_any p (requests_of items)
any-requests p [] = refl
any-requests p (i ∷ is) = ap (λ b. p i.request || b) (any-requests p is)

-- of a transaction, where one commits
pub risky_some : (p : Piece) (t : TxnNo) (b : Bool) → p.head.txn ≡ Some t → b ≡ list_any (λ i. is_commit i.request) p.items → b ≡ is_risky p
risky_some p t b txn is = is ∙ any-requests is_commit p.items ∙ ap (λ o. list_any (risks o) (requests_of p.items)) (sym txn)

-- without one, where one can't be repeated
pub risky_none : (p : Piece) (b : Bool) → p.head.txn ≡ None → b ≡ list_any (λ i. is_unrepeatable i.request) p.items → b ≡ is_risky p
risky_none p b txn is = is ∙ any-requests is_unrepeatable p.items ∙ ap (λ o. list_any (risks o) (requests_of p.items)) (sym txn)
