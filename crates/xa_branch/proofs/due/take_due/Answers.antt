use Rattle.std.proofs.Common.{ℕ, Option, Some, subst}
use Rattle.xa_xid.specs.Triple.{Triple}
use Rattle.xa_branch.specs.Due.{LosesDue}
use Rattle.xa_branch.proofs.Dues.{loses_one}
use Rattle.xa_branch.proofs.due.take_due.Goals as goal

pub returns-in-Some : goal.returns-in-Some
returns-in-Some c =
    let due = c.args.due.now in
    let after = c.remove.new.self in
    subst (λ (o : Option ℕ). LosesDue due c.args.xid.now o after) c.in-Some.ensures
    (subst (λ (x : Triple). LosesDue due x (Some c.in-Some.moment) after) c.copied.ensures (loses_one due after c.in-Some.moment c.copied.result c.remove.ensures.updates.0))
