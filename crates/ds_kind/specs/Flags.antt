-- What each kind may do, and which kinds may stand in one part.
use Rattle.std.specs.Prelude.{◌≡◌, Bool, true, false, not, ◌&&◌, refl}
use Rattle.ds_kind.specs.declared.flags.Flags.{Flags}
use Rattle.ds_kind.specs.declared.name.KindName.{KindName}
use Rattle.ds_kind.specs.declared.name.KindName.TheVariants.{Get, Scan, ReverseScan, Put, ConditionalPut, InitPut, Increment, Delete, DeleteRange, EndTxn, QueryIntent, ResolveIntent, ResolveIntentRange, AdminSplit, AdminTransferLease}

-- the table of the kinds
abbrev pub flags_of : KindName → Flags
flags_of Get = record { read = true; write = false; range = false; reverse = false; txn = true; alone = false; prefix = false; repeatable = true }
flags_of Scan = record { read = true; write = false; range = true; reverse = false; txn = true; alone = false; prefix = false; repeatable = true }
flags_of ReverseScan = record { read = true; write = false; range = true; reverse = true; txn = true; alone = false; prefix = false; repeatable = true }
flags_of Put = record { read = false; write = true; range = false; reverse = false; txn = true; alone = false; prefix = false; repeatable = false }
flags_of ConditionalPut = record { read = true; write = true; range = false; reverse = false; txn = true; alone = false; prefix = false; repeatable = false }
flags_of InitPut = record { read = true; write = true; range = false; reverse = false; txn = true; alone = false; prefix = false; repeatable = false }
flags_of Increment = record { read = true; write = true; range = false; reverse = false; txn = true; alone = false; prefix = false; repeatable = false }
flags_of Delete = record { read = false; write = true; range = false; reverse = false; txn = true; alone = false; prefix = false; repeatable = false }
flags_of DeleteRange = record { read = true; write = true; range = true; reverse = false; txn = true; alone = false; prefix = false; repeatable = false }
flags_of EndTxn = record { read = false; write = true; range = false; reverse = false; txn = true; alone = true; prefix = false; repeatable = false }
flags_of QueryIntent = record { read = true; write = false; range = false; reverse = false; txn = true; alone = false; prefix = true; repeatable = true }
flags_of ResolveIntent = record { read = false; write = true; range = false; reverse = false; txn = false; alone = false; prefix = false; repeatable = true }
flags_of ResolveIntentRange = record { read = false; write = true; range = true; reverse = false; txn = false; alone = false; prefix = false; repeatable = true }
flags_of AdminSplit = record { read = false; write = false; range = false; reverse = false; txn = false; alone = true; prefix = false; repeatable = true }
flags_of AdminTransferLease = record { read = false; write = false; range = false; reverse = false; txn = false; alone = true; prefix = false; repeatable = true }

-- both or neither
abbrev pub same : Bool → Bool → Bool
same true b = b
same false b = not b

-- neither is alone, both or neither write, and not one goes forward over a range and the other back
abbrev pub fit : Flags → Flags → Bool
fit a b = not a.alone && not b.alone && same a.write b.write && not (a.range && b.range && not (same a.reverse b.reverse))

-- whether requests of the kind take numbers of their own
abbrev pub is_numbered : Flags → Bool
is_numbered f = f.write && f.txn && not f.alone

-- a get beside a scan, a put beside an increment; no get beside a put, no scan beside a reverse scan, nothing beside an end
get_with_scan : fit (flags_of Get) (flags_of Scan) ≡ true
get_with_scan = refl

put_with_increment : fit (flags_of Put) (flags_of Increment) ≡ true
put_with_increment = refl

not_get_with_put : fit (flags_of Get) (flags_of Put) ≡ false
not_get_with_put = refl

not_scan_with_reverse : fit (flags_of Scan) (flags_of ReverseScan) ≡ false
not_scan_with_reverse = refl

end_stands_alone : fit (flags_of EndTxn) (flags_of EndTxn) ≡ false
end_stands_alone = refl

a_resolve_takes_no_number : is_numbered (flags_of ResolveIntent) ≡ false
a_resolve_takes_no_number = refl
