-- A batch without a transaction, which is asked in one piece and settles what it wrote.
use Rattle.std.specs.Prelude.{◌≡◌, ℕ, ◌≤◌, List, [], ◌++◌, Some}
use Rattle.ds_base.specs.Ordered.{Ascends}
use Rattle.ds_kind.specs.declared.batch.Head.{Head}
use Rattle.ds_kind.specs.declared.batch.Item.{Item}
use Rattle.ds_kind.specs.declared.reply.Reply.{Reply}
use Rattle.ds_cell.specs.Ask.{Cells, key_of, content_at}
use Rattle.ds_cell.specs.Content.{Content, AllAbove, stamp_of}
use Rattle.ds_cell.specs.Store.{WriteAt, settle_all}
use Rattle.ds_rule.specs.Asking.{Gives, ask_all, at_of, txn_of}
use Rattle.ds_rule.specs.Turn.{items_at}
use Rattle.ds_cell.specs.Seen.{held}
use Rattle.ds_cell.specs.declared.entry.Version.{Version}
use Rattle.ds_turn.specs.Course.{NoneRefused, with_versions}
use Rattle.ds_turn.specs.KeyIs.{KeyIs}
use Rattle.ds_turn.specs.Settling.{after_foreigns, piece_after}

-- its piece acts between other clients' writes at each key, and is refused at none: so the batch asked of the store before
-- is not refused, and leaves, settled, what the world holds but for those writes
abbrev pub PieceGives : Type 0
PieceGives =
    (s : ℕ) (h : Head) (items : List Item) (cells : Cells) (before later : List ℕ → List Version) (world : List ℕ → Content)
    → Ascends key_of cells → h.at.0 ≤ s → txn_of h ≡ 0
    → ((k : List ℕ) → KeyIs s (world k) (content_at k cells))
    → ((k : List ℕ) → held 0 (content_at k cells) ≡ [])
    → ((k : List ℕ) → AllAbove stamp_of s (before k)) → ((k : List ℕ) → AllAbove stamp_of s (later k))
    → ((k : List ℕ) → NoneRefused (at_of h 0) (items_at k items) (after_foreigns (before k) (world k)))
    → (out : Cells) × (ws : List WriteAt) × (rs : List Reply) × (ask_all h items cells ≡ Gives out ws rs)
    × ((k : List ℕ) → KeyIs s (after_foreigns (later k) (piece_after (at_of h 0) (items_at k items) (after_foreigns (before k) (world k)))) (with_versions (before k ++ later k) (content_at k (settle_all 0 (Some h.at) ws out))))
