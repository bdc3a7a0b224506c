use Rattle.std.proofs.Common.{◌≡◌, ℕ, refl, ap, sym, rules}
use Rattle.xa_frame.specs.declared.body.Body.TheVariants as body
use Rattle.xa_xid.specs.Triple.{Triple}
use Rattle.xa_model.specs.Answer.{plain, carrying}
use Rattle.xa_model.specs.Associations.{joined}
use Rattle.xa_assoc.specs.Sessions.{join_refusal_of}
use Rattle.xa_manager.specs.View.{view_of}
use Rattle.xa_manager.proofs.Rows.{Work, follows_refused, follows_marked, follows_unmarked}
use Rattle.xa_manager.proofs.tables.Tables.join.Goals as goal

abbrev joining : ℕ → Triple → Work
joining n xid = record { refusal = λ s. join_refusal_of s n xid; xid = xid; left = λ s. s; go = λ s. joined s n xid }

pub returns-in-Some-clause-ok : goal.returns-in-Some-clause-ok
returns-in-Some-clause-ok c = follows_refused (view_of c.args.self.now) (joining c.args.session c.args.xid.now) c.in-Some.reply c.in-Some.ensures.served c.in-Some.ensures.value

pub returns-in-Some-mark_of-clause-ok : goal.returns-in-Some-mark_of-clause-ok
returns-in-Some-mark_of-clause-ok c =
    let said : c.plain.result ≡ plain c.in-Some-mark_of.code = search rules in
    rw said (follows_marked (view_of c.args.self.now) (view_of c.args.self.now) (joining c.args.session c.args.xid.now) c.join_refusal.result (search rules) c.join_refusal.ensures.value c.in-Some-mark_of.code c.in-Some-mark_of.ensures
    (λ s st passes recoverable. st))

pub returns-clause-ok : goal.returns-clause-ok
returns-clause-ok c =
    rw c.carrying.ensures
    (follows_unmarked (view_of c.args.self.now) (view_of c.join_branch.new.self) (joining c.args.session c.args.xid.now) c.join_refusal.result (search rules) c.join_refusal.ensures.value
    c.mark_of.result (carrying (body.Number c.timestamp-timestamp.result)) (search rules) refl c.mark_of.ensures
    (λ s st passes. (ap (λ (k : ℕ). carrying (body.Number k)) (sym (c.timestamp-timestamp.ensures s st.branches)), λ recoverable. c.in_ok-join_branch.ensures.ok s st recoverable)))
