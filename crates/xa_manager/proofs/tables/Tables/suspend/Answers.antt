use Rattle.std.proofs.Common.{◌≡◌, ℕ, Bool, None, pos, refl, sym, ◌∙◌, rules}
use Rattle.xa_xid.specs.Triple.{Triple}
use Rattle.xa_model.specs.State.{loose_of}
use Rattle.xa_model.specs.Answer.{ok, unless, plain}
use Rattle.xa_model.specs.Associations.{loose_refusal, suspended, not_suspended}
use Rattle.xa_assoc.specs.Sessions.{suspend_refusal_of}
use Rattle.xa_manager.specs.View.{view_of}
use Rattle.xa_manager.proofs.Rows.{Work, follows_refused, follows_marked, follows_unmarked, turned_away, let_on}
use Rattle.xa_manager.proofs.tables.Tables.suspend.Goals as goal

abbrev suspending : ℕ → Bool → Triple → Work
suspending n migrates xid = record {
  refusal = λ s. suspend_refusal_of s n xid;
  xid = xid;
  left = λ s. not_suspended s n xid;
  go = λ s. unless (loose_refusal migrates (loose_of s.associations xid)) s (ok (suspended s n migrates xid));
}

pub returns-in-Some-clause-follows : goal.returns-in-Some-clause-follows
returns-in-Some-clause-follows c = follows_refused (view_of c.args.self.now) (suspending c.args.session c.args.migrates c.args.xid.now) c.in-Some.reply c.in-Some.ensures.served c.in-Some.ensures.value

pub returns-in-Some-mark_of-clause-follows : goal.returns-in-Some-mark_of-clause-follows
returns-in-Some-mark_of-clause-follows c =
    let said : c.plain.result ≡ plain c.in-Some-mark_of.code = search rules in
    rw said (follows_marked (view_of c.args.self.now) (view_of c.leave_branch.new.self) (suspending c.args.session c.args.migrates c.args.xid.now) c.suspend_refusal.result (search rules) c.suspend_refusal.ensures.value c.in-Some-mark_of.code c.in-Some-mark_of.ensures
    (λ s st passes recoverable. c.leave_branch.ensures.not_suspended s st (passes, refl) recoverable))

pub returns-in-Some-loose_refusal-clause-follows : goal.returns-in-Some-loose_refusal-clause-follows
returns-in-Some-loose_refusal-clause-follows c =
    let m = view_of c.args.self.now in
    let xid = c.args.xid.now in
    follows_unmarked m m (suspending c.args.session c.args.migrates xid) c.suspend_refusal.result (search rules) c.suspend_refusal.ensures.value c.mark_of.result c.in-Some-loose_refusal.reply (search rules) c.in-Some-loose_refusal.ensures.served c.mark_of.ensures
    (λ s st passes.
    turned_away m (loose_refusal c.args.migrates (loose_of s.associations xid)) s (ok (suspended s c.args.session c.args.migrates xid)) c.in-Some-loose_refusal.reply (c.in-Some-loose_refusal.ensures.value s st) st)

pub returns-clause-follows : goal.returns-clause-follows
returns-clause-follows c =
    let m' = view_of c.suspend_branch.new.self in
    let xid = c.args.xid.now in
    let room : c.loose_refusal.result ≡ None = search rules in
    rw c.plain-2.ensures
    (follows_unmarked (view_of c.args.self.now) m' (suspending c.args.session c.args.migrates xid) c.suspend_refusal.result (search rules) c.suspend_refusal.ensures.value c.mark_of.result (plain (pos 0)) (search rules) refl c.mark_of.ensures
    (λ s st passes.
    let_on m' (loose_refusal c.args.migrates (loose_of s.associations xid)) s (ok (suspended s c.args.session c.args.migrates xid)) (plain (pos 0)) (sym room ∙ c.loose_refusal.ensures.value s st) refl
    (λ recoverable. c.suspend_branch.ensures.becomes s st passes recoverable)))
