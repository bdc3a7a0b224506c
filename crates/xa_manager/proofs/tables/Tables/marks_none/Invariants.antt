use Rattle.std.proofs.Common.{take}
use Rattle.xa_manager.specs.Believed.Pending.{MarksNoneOf}
use Rattle.xa_manager.proofs.tables.Tables.marks_none.Given as goal

abbrev pub invariant-members : goal.invariant-members
invariant-members l = MarksNoneOf l.self.branches l.moment (take l.member-index l.members)
