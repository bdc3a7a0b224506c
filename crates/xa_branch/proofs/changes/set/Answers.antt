use Rattle.std.proofs.Common.{◌≡◌, None, rules}
use Rattle.std.specs.BTreeMap.{get}
use Rattle.xa_xid.specs.Triple.{xid_cmp}
use Rattle.xa_branch.proofs.Setting.{unset}
use Rattle.xa_branch.proofs.changes.set.Goals as goal

pub returns-in_default : goal.returns-in_default
returns-in_default g c =
    let none : get xid_cmp c.args.kept.now c.args.xid.now ≡ None = search rules in
    rw (c.get_mut.follows.holds-at-none, none) (unset c.args.kept.now c.args.xid.now none)
