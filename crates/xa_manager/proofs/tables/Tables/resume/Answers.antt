use Rattle.std.proofs.Common.{◌≡◌, ℕ, refl, ap, sym, rules}
use Rattle.xa_frame.specs.declared.body.Body.TheVariants as body
use Rattle.xa_xid.specs.Triple.{Triple}
use Rattle.xa_model.specs.Answer.{plain, carrying}
use Rattle.xa_model.specs.Associations.{resumed, not_resumed}
use Rattle.xa_assoc.specs.Sessions.{resume_refusal_of}
use Rattle.xa_manager.specs.View.{view_of}
use Rattle.xa_manager.proofs.Rows.{Work, follows_refused, follows_marked, follows_unmarked}
use Rattle.xa_manager.proofs.tables.Tables.resume.Goals as goal

abbrev resuming : ℕ → Triple → Work
resuming n xid = record { refusal = λ s. resume_refusal_of s n xid; xid = xid; left = λ s. not_resumed s n xid; go = λ s. resumed s n xid }

pub returns-in-Some-clause-ok : goal.returns-in-Some-clause-ok
returns-in-Some-clause-ok c = follows_refused (view_of c.args.self.now) (resuming c.args.session c.args.xid.now) c.in-Some.reply c.in-Some.ensures.served c.in-Some.ensures.value

pub returns-in-Some-mark_of-clause-ok : goal.returns-in-Some-mark_of-clause-ok
returns-in-Some-mark_of-clause-ok c =
    let said : c.plain.result ≡ plain c.in-Some-mark_of.code = search rules in
    rw said (follows_marked (view_of c.args.self.now) (view_of c.leave_branch.new.self) (resuming c.args.session c.args.xid.now) c.resume_refusal.result (search rules) c.resume_refusal.ensures.value c.in-Some-mark_of.code c.in-Some-mark_of.ensures
    (λ s st passes recoverable. c.leave_branch.ensures.not_resumed s st (passes, c.resumed_kind-from.ensures s st passes) recoverable))

pub returns-clause-ok : goal.returns-clause-ok
returns-clause-ok c =
    rw c.carrying.ensures
    (follows_unmarked (view_of c.args.self.now) (view_of c.resume_branch.new.self) (resuming c.args.session c.args.xid.now) c.resume_refusal.result (search rules) c.resume_refusal.ensures.value
    c.mark_of.result (carrying (body.Number c.timestamp-timestamp.result)) (search rules) refl c.mark_of.ensures
    (λ s st passes. (
      ap (λ (k : ℕ). carrying (body.Number k)) (sym (c.timestamp-timestamp.ensures s st.branches)),
      λ recoverable. c.in_ok-resume_branch.ensures.ok s st (passes, c.resumed_kind-from.ensures s st passes) recoverable,
    )))
