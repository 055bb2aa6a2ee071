-- What a delivered piece makes of a batch under way: how far the batch is then, and what its replies say.
use Rattle.std.specs.Prelude.{◌≡◌, None, ℕ, ◌≤◌, ◌⊎◌, List, [], ◌∷◌, ◌++◌, map}
use Rattle.ds_base.specs.Ordered.{Ascends}
use Rattle.ds_kind.specs.declared.batch.Head.{Head}
use Rattle.ds_kind.specs.declared.batch.Item.{Item}
use Rattle.ds_kind.specs.declared.reply.Failure.{Failure}
use Rattle.ds_kind.specs.declared.reply.Reply.{Reply}
use Rattle.ds_cell.specs.declared.entry.Version.{Version}
use Rattle.ds_cell.specs.declared.verdict.ActFault.{ActFault}
use Rattle.ds_cell.specs.Ask.{Cells, key_of, content_at}
use Rattle.ds_cell.specs.Content.{Content, Rises}
use Rattle.ds_cell.specs.Store.{WriteAt, put_cell}
use Rattle.ds_rule.specs.Asking.{Asking, Gives, Fails, ask_all, failure_of}
use Rattle.ds_rule.specs.Gathered.{Gathered}
use Rattle.ds_rule.specs.Journal.{Accepted, pairs}
use Rattle.ds_rule.specs.Pieces.{Each, IsCut, position_of}
use Rattle.ds_rule.specs.Serve.{resolves, serve}
use Rattle.ds_rule.specs.declared.record.TxnRecord.{TxnRecord}
use Rattle.ds_rule.specs.Turn.{items_at, FailsAt}
use Rattle.ds_turn.specs.Alone.{IsTooOld}
use Rattle.ds_turn.specs.Course.{ByBatch, with_versions}
use Rattle.ds_turn.specs.KeyIs.{KeyIs}
use Rattle.ds_turn.specs.Partway.{NumbersInOrder}
use Rattle.ds_turn.specs.Progress.{BatchPartway, GoesTo}
use Rattle.ds_turn.specs.Replies.{AllInTurn, Answers}

-- without a limit, and where no item resolves intents, a range serves items as a store is asked, whatever the records say
abbrev pub ServesAsked : Type 0
ServesAsked =
    (records : List TxnRecord) (h : Head) (js : List Item) (x : Cells) → Each (λ j. resolves j.request ≡ None) js → serve records h None js x ≡ ask_all h js x

-- a range that holds x serves these items of the batch: x is what the world holds where they act, and at each key they
-- act in their turn, or again
pub record Serves (q : Asking) (acted rest after : List ℕ → List Item) (world : List ℕ → Content) (js : List Item) (x : Cells) : Type 0 where
  pub ascends : Ascends key_of x
  pub cuts : Each (IsCut q.items) js
  pub there : (k : List ℕ) → (items_at k js ≡ []) ⊎ (content_at k x ≡ world k)
  pub goes : (k : List ℕ) → GoesTo (map ByBatch (items_at k js)) (acted k) (rest k) (after k)

-- a reply is that of the item's turn: asked of what the batch's items before leave of the store, the cut is answered so
abbrev pub IsTurnReply : Asking → Cells → Accepted → Type 0
IsTurnReply q cells a =
    (front : List Item) (i : Item) (back : List Item) (y : Cells) (us : List WriteAt) (ts : List Reply) → q.items ≡ front ++ i ∷ back → i.pos ≡ a.item.pos
    → ask_all q.head front cells ≡ Gives y us ts → Answers q.head a.item y a.reply.body

-- so are the replies of a piece that was served
abbrev pub PieceReplies : Type 0
PieceReplies =
    (s : ℕ) (q : Asking) (acted after : List ℕ → List Item) (vs : List ℕ → List Version) (world : List ℕ → Content) (cells : Cells)
    → (b : BatchPartway s q acted vs world cells) → q.head.at.0 ≤ s → Rises position_of q.items → NumbersInOrder q.items
    → (js : List Item) (x out : Cells) (ws : List WriteAt) (rs : List Reply) → Serves q acted b.rest after world js x → ask_all q.head js x ≡ Gives out ws rs
    → Each (IsTurnReply q cells) (pairs q.head js rs)

-- and where all that was accepted was answered so, it answers as the batch's turns want it
abbrev pub RepliesInTurn : Type 0
RepliesInTurn =
    (q : Asking) (cells : Cells) (got : List Accepted) → Each (IsTurnReply q cells) got → AllInTurn q.head q.items cells got

-- outside what the piece's items hold all stays; where they act, the range holds afterwards what they left
abbrev pub Leaves : List Item → Cells → Cells → (List ℕ → Content) → (List ℕ → Content) → Type 0
Leaves js x out world now =
    (k : List ℕ) → ((items_at k js ≡ []) × (now k ≡ world k)) ⊎ ((content_at k x ≡ world k) × (now k ≡ content_at k out))

-- a piece of a transaction that was served, for the first time or again, brings the batch as far as its items reach
abbrev pub PieceGoes : Type 0
PieceGoes =
    (s : ℕ) (q : Asking) (acted after : List ℕ → List Item) (vs : List ℕ → List Version) (world now : List ℕ → Content) (cells : Cells)
    → (b : BatchPartway s q acted vs world cells) → q.head.at.0 ≤ s → NumbersInOrder q.items
    → (js : List Item) (x out : Cells) (ws : List WriteAt) (rs : List Reply) → Serves q acted b.rest after world js x → ask_all q.head js x ≡ Gives out ws rs
    → Leaves js x out world now → BatchPartway s q after vs now cells

-- a piece failed so because the batch's turn at a key does; as too old, where the foreign writes that came there since
-- the batch began are made first
pub record FailsInTurn (q : Asking) (vs : List ℕ → List Version) (cells : Cells) (failure : Failure) : Type 0 where
  pub key : List ℕ
  pub position : ℕ
  pub fault : ActFault
  pub says : failure ≡ failure_of position key fault
  pub young : (IsTooOld fault → ⊥) → FailsAt q key cells position fault
  pub old : IsTooOld fault → FailsAt q key (put_cell key (with_versions (vs key)) cells) position fault

abbrev pub PieceFails : Type 0
PieceFails =
    (s : ℕ) (q : Asking) (acted after : List ℕ → List Item) (vs : List ℕ → List Version) (world : List ℕ → Content) (cells : Cells)
    → (b : BatchPartway s q acted vs world cells) → q.head.at.0 ≤ s → NumbersInOrder q.items
    → (js : List Item) (x : Cells) (failure : Failure) → Serves q acted b.rest after world js x → ask_all q.head js x ≡ Fails failure
    → FailsInTurn q vs cells failure

-- at the end of a batch of a transaction: all its items acted at each key, and each accepted reply is that of its turn. Then
-- the store gives these replies, gathered, to the batch asked at once, and holds afterwards what the world holds, but for
-- the foreign writes since the batch began
abbrev pub BatchAnswers : Type 0
BatchAnswers =
    (s : ℕ) (q : Asking) (vs : List ℕ → List Version) (world : List ℕ → Content) (cells : Cells) (got : List Accepted) (replies : List Reply)
    → BatchPartway s q (λ k. items_at k q.items) vs world cells → Each (IsTurnReply q cells) got → Gathered got q.items replies
    → (out : Cells) × (ws : List WriteAt) × (ask_all q.head q.items cells ≡ Gives out ws replies) × Ascends key_of out
    × ((k : List ℕ) → KeyIs s (world k) (with_versions (vs k) (content_at k out)))
