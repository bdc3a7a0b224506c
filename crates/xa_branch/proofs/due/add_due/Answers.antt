use Rattle.std.proofs.Common.{ℕ, Option, Some, subst}
use Rattle.xa_xid.specs.Triple.{Triple}
use Rattle.xa_branch.specs.Due.{GainsDue}
use Rattle.xa_branch.proofs.Dues.{gains_one}
use Rattle.xa_branch.proofs.due.add_due.Goals as goal

pub returns-in_ok-insert-clause-ok : goal.returns-in_ok-insert-clause-ok
returns-in_ok-insert-clause-ok c =
    let due = c.args.due.now in
    let after = c.insert.new.self in
    subst (λ (o : Option ℕ). GainsDue due c.args.xid.now o after) c.in-Some.ensures
    (subst (λ (x : Triple). GainsDue due x (Some c.in-Some.moment) after) c.copied.ensures (gains_one due after c.in-Some.moment c.copied.result c.in_ok-insert.ensures.updates.0))
