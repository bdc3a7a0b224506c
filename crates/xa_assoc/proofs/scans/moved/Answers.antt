use Rattle.std.proofs.Common.{◌≡◌, ◌-◌, length, Some, sym, rules}
use Rattle.std.specs.Prelude.{slice_get}
use Rattle.xa_assoc.proofs.Scanning.{moved_last}
use Rattle.xa_assoc.proofs.scans.moved.Goals as goal

pub returns-in-Some : goal.returns-in-Some
returns-in-Some c =
    let last : slice_get c.args.xids.now (length c.args.xids.now - 1) ≡ Some c.copied.result = search rules in
    sym (moved_last c.args.cursor c.args.xids.now c.copied.result last)
