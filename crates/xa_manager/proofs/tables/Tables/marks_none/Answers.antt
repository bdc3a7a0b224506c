use Rattle.xa_manager.proofs.Besides.{over_at}
use Rattle.xa_manager.proofs.tables.Tables.marks_none.Goals as goal

pub returns-then-is_over-clause-all : goal.returns-then-is_over-clause-all
returns-then-is_over-clause-all c = λ none.
    let here = over_at c.args.self.now.branches c.args.moment c.args.members.now c.members.member-index c.member-item.result c.members-test.true c.member-item.is none in
    absurd (cc (here, c.is_over.ensures, c.if-is_over.true))
