-- Which parts make an XID, and the first fault of those that make none.
use Rattle.std.specs.Prelude.{ℕ, ℤ, length, List, Result, Ok, Err, ◌==◌, ◌||◌, nat_lt, if◌then◌else◌}
use Rattle.std.specs.Ordering.{int_eq}
use Rattle.xa_xid.specs.declared.xid.TheConstants.{NULL_FORMAT}
use Rattle.xa_limits.specs.declared.TheConstants.{MOST_PART}
use Rattle.xa_xid.specs.declared.xid.XidFault.{XidFault}
use Rattle.xa_xid.specs.declared.xid.XidFault.TheVariants.{Null, GtridLength, BqualLength}
use Rattle.xa_xid.specs.Triple.{Triple}

abbrev pub xid_of : ℤ → List ℕ → List ℕ → Result Triple XidFault
xid_of format gtrid bqual =
    if int_eq format NULL_FORMAT then Err Null
    else if (length gtrid == 0) || nat_lt MOST_PART (length gtrid) then Err GtridLength
    else if nat_lt MOST_PART (length bqual) then Err BqualLength
    else Ok (record { format = format; gtrid = gtrid; bqual = bqual })
