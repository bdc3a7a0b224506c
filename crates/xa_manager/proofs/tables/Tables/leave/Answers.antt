use Rattle.std.proofs.Common.{◌≡◌, ℕ, Bool, pos, cond, refl, rules}
use Rattle.xa_codes.specs.declared.codes.TheConstants.{XA_RBROLLBACK}
use Rattle.xa_xid.specs.Triple.{Triple}
use Rattle.xa_model.specs.Answer.{ok, plain}
use Rattle.xa_model.specs.Associations.{ended, failed}
use Rattle.xa_assoc.specs.Sessions.{leave_refusal_of}
use Rattle.xa_manager.specs.View.{view_of}
use Rattle.xa_manager.proofs.Rows.{Work, follows_refused, follows_marked, follows_unmarked}
use Rattle.xa_manager.proofs.tables.Tables.leave.Goals as goal

abbrev leaving : ℕ → Bool → Triple → Work
leaving n fails xid = record { refusal = λ s. leave_refusal_of s n xid; xid = xid; left = λ s. ended s n xid; go = λ s. cond fails (failed s n xid) (ok (ended s n xid)) }

pub returns-in-Some-clause-follows : goal.returns-in-Some-clause-follows
returns-in-Some-clause-follows c = follows_refused (view_of c.args.self.now) (leaving c.args.session c.args.fails c.args.xid.now) c.in-Some.reply c.in-Some.ensures.served c.in-Some.ensures.value

pub returns-in-Some-mark_of-clause-follows : goal.returns-in-Some-mark_of-clause-follows
returns-in-Some-mark_of-clause-follows c =
    let said : c.plain.result ≡ plain c.in-Some-mark_of.code = search rules in
    rw said (follows_marked (view_of c.args.self.now) (view_of c.leave_branch.new.self) (leaving c.args.session c.args.fails c.args.xid.now) c.leave_refusal.result (search rules) c.leave_refusal.ensures.value c.in-Some-mark_of.code c.in-Some-mark_of.ensures
    (λ s st passes recoverable. c.leave_branch.ensures.ended s st (c.ended_kind-kind.ensures s st passes) recoverable))

pub returns-then-fails-clause-follows : goal.returns-then-fails-clause-follows
returns-then-fails-clause-follows c =
    rw c.plain-then-fails.ensures
    (follows_unmarked (view_of c.args.self.now) (view_of c.fail_branch.new.self) (leaving c.args.session c.args.fails c.args.xid.now) c.leave_refusal.result (search rules) c.leave_refusal.ensures.value c.mark_of.result (plain XA_RBROLLBACK) (search rules) refl c.mark_of.ensures
    (λ s st passes. rw c.if-fails.true (refl, λ recoverable. c.fail_branch.ensures.becomes s st (c.ended_kind-kind.ensures s st passes) recoverable)))

pub returns-clause-follows : goal.returns-clause-follows
returns-clause-follows c =
    rw c.plain-2.ensures
    (follows_unmarked (view_of c.args.self.now) (view_of c.leave_branch-2.new.self) (leaving c.args.session c.args.fails c.args.xid.now) c.leave_refusal.result (search rules) c.leave_refusal.ensures.value c.mark_of.result (plain (pos 0)) (search rules) refl c.mark_of.ensures
    (λ s st passes. rw c.if-fails.false (refl, λ recoverable. c.leave_branch-2.ensures.ended s st (c.ended_kind-kind.ensures s st passes) recoverable)))
