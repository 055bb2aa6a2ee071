-- The replies of a batch's cuts, and those of the batch asked at once.
use Rattle.std.specs.Prelude.{◌≡◌, ℕ, ◌≤◌, ◌⊎◌, true, List, [], ◌∷◌, ◌++◌, Option}
use Rattle.ds_base.specs.Ordered.{Ascends}
use Rattle.ds_base.specs.declared.value.Value.{Value}
use Rattle.ds_kind.specs.Request.{span_of}
use Rattle.ds_kind.specs.declared.batch.Head.{Head}
use Rattle.ds_kind.specs.declared.batch.Item.{Item}
use Rattle.ds_kind.specs.declared.reply.Body.{Body}
use Rattle.ds_kind.specs.declared.reply.Reply.{Reply}
use Rattle.ds_cell.specs.declared.entry.At.{At}
use Rattle.ds_cell.specs.declared.entry.Version.{Version}
use Rattle.ds_cell.specs.Ask.{Cells, key_of, Gave, content_at}
use Rattle.ds_cell.specs.Content.{Content}
use Rattle.ds_cell.specs.Replies.{Bits, body_of}
use Rattle.ds_cell.specs.RepeatProofs.{kept}
use Rattle.ds_cell.specs.Requests.{ask_request}
use Rattle.ds_cell.specs.Store.{WriteAt}
use Rattle.ds_rule.specs.Asking.{Gives, ask_all, at_of}
use Rattle.ds_rule.specs.Gathered.{Joins, by_start, at_position, Gathered}
use Rattle.ds_rule.specs.Journal.{Accepted}
use Rattle.ds_rule.specs.Pieces.{Each}
use Rattle.ds_rule.specs.Turn.{IsNoRefusal, speaks_of, verdict, after_items}
use Rattle.ds_turn.specs.Cuts.{ActsAs}
use Rattle.ds_turn.specs.Partway.{NumbersInOrder, Partway}
use Rattle.ds_turn.specs.Progress.{IsAgain}

-- at one key

-- it acts as the next item, or as one that acted
abbrev pub ComesAt : List Item → List Item → Item → Type 0
ComesAt acted [] j = IsAgain acted j
ComesAt acted (i ∷ rest) j = IsAgain acted j ⊎ ActsAs j i

-- j answers on c what the item that it is of answers in its turn, where d stood before the batch; it need not write again
pub record InTurn (a : At) (items : List Item) (j : Item) (c d : Content) : Type 0 where
  pub front : List Item
  pub item : Item
  pub back : List Item
  pub is : items ≡ front ++ item ∷ back
  pub same : ActsAs j item
  pub answers : kept (verdict a j c) ≡ kept (verdict a item (after_items a front d))

abbrev pub AnswersInTurn : Type 0
AnswersInTurn =
    (s : ℕ) (a : At) (acted rest : List Item) (vs : List Version) (c d : Content) (j : Item) → Partway s a acted vs c d → a.stamp.0 ≤ s
    → NumbersInOrder (acted ++ rest) → ComesAt acted rest j → IsNoRefusal (verdict a j c) → InTurn a (acted ++ rest) j c d

-- over a span

-- asked of y, the item gives a reply with this body
pub record Answers (h : Head) (i : Item) (y : Cells) (body : Body) : Type 0 where
  pub bits : Bits
  pub writes : List (List ℕ × Option Value)
  pub gave : ask_request i.request (at_of h i.seq.0) y ≡ Gave bits writes
  pub is : body ≡ body_of i.request bits

-- two contents on which an item answers the same at each of its keys give one body
abbrev pub CutAnswers : Type 0
CutAnswers =
    (h : Head) (j : Item) (x y : Cells) (body : Body) → Ascends key_of x → Ascends key_of y → Answers h j x body
    → ((k : List ℕ) → speaks_of k j ≡ true → kept (verdict (at_of h 0) j (content_at k x)) ≡ kept (verdict (at_of h 0) j (content_at k y)))
    → Answers h j y body

-- the bodies of a request's cuts, joined over its span, are the body of the whole request
abbrev pub JoinsAnswer : Type 0
JoinsAnswer =
    (h : Head) (i : Item) (y : Cells) (got : List Accepted) (body : Body) → Ascends key_of y
    → Each (λ a. Answers h a.item y a.reply.body) got → Joins i (span_of i.request).start (span_of i.request).end got body
    → Answers h i y body

-- the whole batch

-- each of what was accepted at the position of an item answers as on what the items before that leave
abbrev pub AllInTurn : Head → List Item → Cells → List Accepted → Type 0
AllInTurn h items cells got =
    (front : List Item) (i : Item) (back : List Item) (y : Cells) (us : List WriteAt) (ts : List Reply) → items ≡ front ++ i ∷ back
    → ask_all h front cells ≡ Gives y us ts → Each (λ a. Answers h a.item y a.reply.body) (by_start (at_position i.pos got))

-- replies gathered of such answers are those of the batch asked at once
abbrev pub GatheredAsks : Type 0
GatheredAsks =
    (h : Head) (items : List Item) (cells out : Cells) (ws : List WriteAt) (rs replies : List Reply) (got : List Accepted) → Ascends key_of cells
    → ask_all h items cells ≡ Gives out ws rs → AllInTurn h items cells got → Gathered got items replies → replies ≡ rs
