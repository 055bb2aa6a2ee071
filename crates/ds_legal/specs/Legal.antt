-- What a batch that keeps every rule is like.
use Rattle.std.specs.Prelude.{◌≡◌, ◌<◌, ◌≤◌, true, false, None, length}
use Rattle.std.specs.List.{list_all, list_any}
use Rattle.std.specs.Option.{is_some}
use Rattle.ds_kind.specs.declared.batch.Batch.{Batch}
use Rattle.ds_kind.specs.Asks.{has_proper_span, is_end, needs_txn, is_get_or_scan, knows_limit, is_delete_range, acts}
use Rattle.ds_kind.specs.Groups.{first_where, groups}
use Rattle.ds_kind.specs.Parts.{may_join, before_last}
use Rattle.ds_legal.specs.Rules.{is_misfit, is_overtaken}

pub record IsLegal (b : Batch) : Type 0 where
  pub some : 0 < length b.requests
  pub few : length b.requests ≤ 256
  pub spans : list_all has_proper_span b.requests ≡ true
  -- an end of the transaction is the last request
  pub end_last : list_any is_end (before_last b.requests) ≡ false
  pub txn : is_some b.at ≡ true → list_any needs_txn b.requests ≡ false
  pub consistent_txn : b.consistent ≡ false → is_some b.at ≡ true
  pub inconsistent_reads : b.consistent ≡ false → list_all is_get_or_scan b.requests ≡ true
  pub limit_kinds : is_some b.limit ≡ true → list_all knows_limit b.requests ≡ true
  pub limit_fit : is_some b.limit ≡ true → first_where is_misfit b.requests ≡ None
  pub limit_order : is_some b.limit ≡ true → list_any is_delete_range b.requests ≡ true → first_where is_overtaken b.requests ≡ None
  pub one_part : is_some b.at ≡ true → list_any acts b.requests ≡ true → length (groups (may_join true) b.requests) ≤ 1
