use Rattle.std.proofs.Common.{◌≡◌, None, rules}
use Rattle.std.specs.BTreeMap.{get}
use Rattle.xa_xid.specs.Triple.{xid_cmp}
use Rattle.xa_branch.specs.Changes.{marked}
use Rattle.xa_branch.proofs.Setting.{unset_by_any}
use Rattle.xa_branch.proofs.changes.mark_working.Goals as goal

pub returns-in_default : goal.returns-in_default
returns-in_default c =
    let none : get xid_cmp c.args.working.now c.args.xid.now ≡ None = search rules in unset_by_any (marked c.args.code) c.args.working.now c.args.xid.now none
