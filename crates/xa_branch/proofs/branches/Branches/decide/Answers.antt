use Rattle.std.proofs.Common.{◌≡◌, Some, sym, ap, ◌∙◌, rules}
use Rattle.xa_branch.specs.declared.lasting.Lasting.TheVariants as lasts
use Rattle.xa_branch.specs.Branches.{lasting_at, working_at}
use Rattle.xa_branch.proofs.Rooms.{kept_there}
use Rattle.xa_branch.proofs.Deciding.{decided_stands, doubtful, in_doubt}
use Rattle.xa_branch.proofs.Finishing.{is_doubtful}
use Rattle.xa_branch.proofs.Setting.{set_to}
use Rattle.xa_branch.proofs.branches.Branches.decide.Goals as goal

pub returns-in-Some-Prepared-clause-decided : goal.returns-in-Some-Prepared-clause-decided
returns-in-Some-Prepared-clause-decided c = λ s h st e.
    let m = c.args.self.now in
    let there : lasting_at m c.args.xid.now ≡ Some (lasts.Prepared c.in-Some-Prepared.timestamp) = search rules in
    decided_stands m _ _ _ _ s c.args.direction c.args.xid.now c.in-Some-Prepared.timestamp h st there
    (set_to m.lasting _ c.args.xid.now (lasts.Prepared c.in-Some-Prepared.timestamp) (lasts.Completed c.args.direction) (kept_there (working_at m c.args.xid.now) _ _ there) c.set.ensures) c.saturating_sub-self.ensures c.saturating_add-self.ensures c.take_time.ensures

pub returns-in-Some-Prepared-clause-other : goal.returns-in-Some-Prepared-clause-other
returns-in-Some-Prepared-clause-other c = λ s st other.
    let m = c.args.self.now in
    let there : lasting_at m c.args.xid.now ≡ Some (lasts.Prepared c.in-Some-Prepared.timestamp) = search rules in
    absurd (other (in_doubt m s c.args.xid.now c.in-Some-Prepared.timestamp st there))

pub returns-in-Some-Completed-clause-decided : goal.returns-in-Some-Completed-clause-decided
returns-in-Some-Completed-clause-decided c = λ s h st e.
    let m = c.args.self.now in
    let there : lasting_at m c.args.xid.now ≡ Some (lasts.Completed c.in-Some-Completed.field-0-0) = search rules in
    absurd (cc (sym (ap is_doubtful there) ∙ doubtful m s c.args.xid.now st e))

pub returns-in-None-clause-decided : goal.returns-in-None-clause-decided
returns-in-None-clause-decided c = λ s h st e. absurd (cc (ap is_doubtful c.in-None.ensures ∙ doubtful c.args.self.now s c.args.xid.now st e))
