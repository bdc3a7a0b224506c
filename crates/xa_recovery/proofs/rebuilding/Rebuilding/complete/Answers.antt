use Rattle.std.proofs.Common.{◌∙◌}
use Rattle.xa_recovery.proofs.Standing.{unnamed, gone, left_of, placed, settle_stands, complete_stands}
use Rattle.xa_recovery.proofs.rebuilding.Rebuilding.complete.Goals as goal

pub returns-in_default : goal.returns-in_default
returns-in_default c = λ x read st some. absurd (unnamed c.args.self.now x c.args.xid.now st c.in_default.ensures.value some)

pub returns-in_default-remove : goal.returns-in_default-remove
returns-in_default-remove c = λ x read st some. absurd (gone c.args.self.now x c.args.xid.now c.in-Some.timestamp read st c.in-Some.ensures.value c.in_default-remove.ensures.value)

pub returns-in_ok-insert-in-Commit : goal.returns-in_ok-insert-in-Commit
returns-in_ok-insert-in-Commit c = λ x read st some.
    let m = c.args.self.now in
    let left = left_of m x c.args.xid.now c.in-Some.timestamp c.in-Some-remove.branch c.remove-2.new.self read st c.in-Some.ensures.value c.in-Some-remove.ensures.value c.in-Some-remove.ensures.entries in
    rw c.in-Commit.is
    (complete_stands m x c.args.xid.now left.branch c.insert.new.self c.remove-2.new.self c.remove.new.self read st left.found
    (c.in_ok-insert-in-Commit.ensures.entries ∙ placed m.committed.entries c.in-Some.timestamp c.in-Some-remove.branch left.branch left.at left.writes) left.left c.in-Some.ensures.updates.0)

pub returns-in-Rollback : goal.returns-in-Rollback
returns-in-Rollback c = λ x read st some.
    let m = c.args.self.now in
    let left = left_of m x c.args.xid.now c.in-Some.timestamp c.in-Some-remove.branch c.remove-2.new.self read st c.in-Some.ensures.value c.in-Some-remove.ensures.value c.in-Some-remove.ensures.entries in
    rw c.in-Rollback.is (settle_stands m x c.args.xid.now c.remove-2.new.self c.remove.new.self read st left.left c.in-Some.ensures.updates.0)
