-- What a call did, cut in two, and where it first served a piece.
use Rattle.std.proofs.Common.{◌≡◌, ℕ, ◌<◌, ◌⊎◌, true, cond, inl, inr, List, [], ◌∷◌, ◌++◌, length, map, refl, sym, ap, ◌∙◌, subst, append_assoc, arith}
use Rattle.std.specs.List.{list_all}
use Rattle.std.proofs.lemmas.List.{append-nil}
use Rattle.ds_base.specs.Order.{key_le, key_lt}
use Rattle.ds_base.proofs.KeyFacts.{le_itself}
use Rattle.ds_base.proofs.SmallFacts.{and_both, and_first}
use Rattle.ds_kind.specs.Asks.{has_proper_span}
use Rattle.ds_kind.specs.Parts.{requests_of}
use Rattle.ds_kind.specs.Request.{span_of}
use Rattle.ds_kind.specs.declared.batch.Item.{Item}
use Rattle.ds_kind.specs.declared.batch.Piece.{Piece}
use Rattle.ds_kind.specs.declared.reply.Reply.{Reply}
use Rattle.ds_kind.proofs.RequestFacts.{proper_some}
use Rattle.ds_rule.specs.declared.answer.Answer.TheVariants.{Done, Failed, Refused, Lost}
use Rattle.ds_rule.specs.declared.journal.JournalStep.TheVariants.{Look, Send}
use Rattle.ds_rule.specs.Asking.{Asking}
use Rattle.ds_rule.specs.Cause.{IsIdle}
use Rattle.ds_rule.specs.Journal.{Happening, Moved, Did, Accepted, accepted, accepted_by}
use Rattle.ds_rule.specs.Pieces.{Each, position_of}
use Rattle.ds_rule.specs.Sending.{AllOf}
use Rattle.ds_rule.specs.Turn.{items_at}
use Rattle.ds_mean.specs.InTurn.{AllInTurn, IsLeft, places_at}

-- ---- one after the other

pub accepted-both : (xs ys : List Happening) → accepted (xs ++ ys) ≡ accepted xs ++ accepted ys
accepted-both [] ys = refl
accepted-both (Moved e ∷ xs) ys = accepted-both xs ys
accepted-both (Did s ∷ xs) ys = ap (λ zs. accepted_by s ++ zs) (accepted-both xs ys) ∙ sym (append_assoc (accepted_by s) (accepted xs) (accepted ys))

pub of-first : (q : Asking) (xs ys : List Happening) (got : List Accepted) → AllOf q got (xs ++ ys) → AllOf q got xs
of-first q [] ys got all = tt
of-first q (Moved e ∷ xs) ys got all = of-first q xs ys got all
of-first q (Did s ∷ xs) ys got all = (all.0, of-first q xs ys (got ++ accepted_by s) all.1)

pub of-later : (q : Asking) (xs ys : List Happening) (got : List Accepted) → AllOf q got (xs ++ ys) → AllOf q (got ++ accepted xs) ys
of-later q [] ys got all = subst (λ zs. AllOf q zs ys) (sym (append-nil got)) all
of-later q (Moved e ∷ xs) ys got all = of-later q xs ys got all
of-later q (Did s ∷ xs) ys got all = subst (λ zs. AllOf q zs ys) (append_assoc got (accepted_by s) (accepted xs)) (of-later q xs ys (got ++ accepted_by s) all.1)

pub turn-first : (q : Asking) (xs ys : List Happening) (got : List Accepted) → AllInTurn q.items got (xs ++ ys) → AllInTurn q.items got xs
turn-first q [] ys got all = tt
turn-first q (Moved e ∷ xs) ys got all = turn-first q xs ys got all
turn-first q (Did s ∷ xs) ys got all = (all.0, turn-first q xs ys (got ++ accepted_by s) all.1)

pub turn-later : (q : Asking) (xs ys : List Happening) (got : List Accepted) → AllInTurn q.items got (xs ++ ys) → AllInTurn q.items (got ++ accepted xs) ys
turn-later q [] ys got all = subst (λ zs. AllInTurn q.items zs ys) (sym (append-nil got)) all
turn-later q (Moved e ∷ xs) ys got all = turn-later q xs ys got all
turn-later q (Did s ∷ xs) ys got all = subst (λ zs. AllInTurn q.items zs ys) (append_assoc got (accepted_by s) (accepted xs)) (turn-later q xs ys (got ++ accepted_by s) all.1)

-- ---- the first piece that was served

pub record Split (hs : List Happening) : Type 0 where
  pub before : List Happening
  pub node : ℕ
  pub piece : Piece
  pub replies : List Reply
  pub later : List Happening
  pub is : hs ≡ before ++ Did (Send node piece (Done replies)) ∷ later
  pub idle : Each IsIdle before

behind : (h : Happening) (hs : List Happening) → IsIdle h → Each IsIdle hs ⊎ Split hs → Each IsIdle (h ∷ hs) ⊎ Split (h ∷ hs)
behind h hs one (inl all) = inl (one, all)
behind h hs one (inr s) = inr (record { before = h ∷ s.before; node = s.node; piece = s.piece; replies = s.replies; later = s.later; is = ap (λ zs. h ∷ zs) s.is; idle = (one, s.idle) })

pub first-done : (hs : List Happening) → Each IsIdle hs ⊎ Split hs
first-done [] = inl tt
first-done (Moved e ∷ hs) = behind (Moved e) hs tt (first-done hs)
first-done (Did (Look k d l) ∷ hs) = behind (Did (Look k d l)) hs tt (first-done hs)
first-done (Did (Send n p (Done rs)) ∷ hs) = inr (record { before = []; node = n; piece = p; replies = rs; later = hs; is = refl; idle = tt })
first-done (Did (Send n p (Failed f)) ∷ hs) = behind (Did (Send n p (Failed f))) hs tt (first-done hs)
first-done (Did (Send n p (Refused r)) ∷ hs) = behind (Did (Send n p (Refused r))) hs tt (first-done hs)
first-done (Did (Send n p Lost) ∷ hs) = behind (Did (Send n p Lost)) hs tt (first-done hs)

pub idle-accepts : (hs : List Happening) → Each IsIdle hs → accepted hs ≡ []
idle-accepts [] idle = refl
idle-accepts (Moved e ∷ hs) idle = idle-accepts hs idle.1
idle-accepts (Did (Look k d l) ∷ hs) idle = idle-accepts hs idle.1
idle-accepts (Did (Send n p (Done rs)) ∷ hs) idle = absurd idle.0
idle-accepts (Did (Send n p (Failed f)) ∷ hs) idle = idle-accepts hs idle.1
idle-accepts (Did (Send n p (Refused r)) ∷ hs) idle = idle-accepts hs idle.1
idle-accepts (Did (Send n p Lost) ∷ hs) idle = idle-accepts hs idle.1

-- ---- a batch has a key

first-key : (i : Item) (is : List Item) → has_proper_span i.request ≡ true → items_at (span_of i.request).start (i ∷ is) ≡ i ∷ items_at (span_of i.request).start is
first-key i is proper =
    let k = (span_of i.request).start in
    ap (λ t. cond t (i ∷ items_at k is) (items_at k is)) (and_both (key_le k k) (key_lt k (span_of i.request).end) (le_itself k) (proper_some i.request proper))

pub something-left : (items : List Item) → 0 < length items → list_all has_proper_span (requests_of items) ≡ true → IsLeft items []
something-left [] some proper = absurd (omega (arith, some))
something-left (i ∷ is) some proper =
    let k = (span_of i.request).start in
    (k, i.pos, places_at k is, ap (map position_of) (first-key i is (and_first _ _ proper)))

-- ---- nothing is left, and something is

-- a list isn't as long as itself with one more
pub never-longer : (xs ys : List ℕ) (n : ℕ) → xs ≡ xs ++ n ∷ ys → ⊥
never-longer [] ys n h = cc
never-longer (x ∷ xs) ys n h = never-longer xs ys n (let rest : xs ≡ xs ++ n ∷ ys = cc in rest)
