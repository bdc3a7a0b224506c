use Rattle.std.proofs.Common.{◌≡◌, ℕ, List, Option, Some, None, refl, ap, sym, ◌∙◌, rules}
use Rattle.std.specs.Prelude.{option_copied}
use Rattle.xa_xid.specs.Triple.{Triple}
use Rattle.xa_model.specs.Associations.{open_by, close_by, start_by, end_by}
use Rattle.xa_model.specs.Phases.{doom_by}
use Rattle.xa_model.specs.Data.{get_by, put_by}
use Rattle.xa_model.specs.KnownBranches.{branches_by}
use Rattle.xa_model.specs.Recovering.{recover_by}
use Rattle.xa_model.specs.State.{own_branch}
use Rattle.xa_model.specs.TimeLimits.{timeout_by, tick_by}
use Rattle.xa_model.specs.Turn.{Now}
use Rattle.xa_manager.specs.Rows.{row_turn}
use Rattle.xa_manager.specs.declared.row.Row.TheVariants as row
use Rattle.xa_manager.specs.declared.row.Row.TheVariants.{Writes}
use Rattle.xa_manager.specs.declared.row.Writing.TheVariants.{Prepare}
use Rattle.xa_manager.proofs.Plans.{commits_by, commits_without}
use Rattle.xa_manager.proofs.Replying.{bare_fresh}
use Rattle.xa_manager.proofs.Taking.{on_err}
use Rattle.xa_manager.proofs.Calling.{refused_done, both_done, turns_done, follows_done, restart_done, trim_done, follows_wanted, turns_wanted}
use Rattle.xa_manager.proofs.manager.Manager.answer.Goals as goal

pub returns-in-Some-clause-ok : goal.returns-in-Some-clause-ok
returns-in-Some-clause-ok g c =
    rw c.now.ensures (
      refused_done _ c.args.self.now c.args.session c.args.request c.in-Some.reply c.in-Some.ensures.value c.in-Some.ensures.served,
      bare_fresh _ c.in-Some.ensures.bare,
    )

pub returns-in-Open-clause-ok : goal.returns-in-Open-clause-ok
returns-in-Open-clause-ok g c =
    rw c.now-in-Open.ensures (
      both_done _ c.args.self.now (record c.args.self.now { tables = c.open.new.self }) c.args.session c.args.request _ c.refusal.result (λ s. open_by s c.args.session) c.open.result
          c.requires c.in-Open.is refl (search rules) c.refusal.ensures.value (λ s. refl) refl refl refl c.open.ensures.up c.open.ensures.down,
      bare_fresh _ c.open.ensures.bare,
    )

pub returns-in-Close-clause-ok : goal.returns-in-Close-clause-ok
returns-in-Close-clause-ok g c =
    rw c.now-in-Close.ensures (
      both_done _ c.args.self.now (record c.args.self.now { tables = c.close.new.self }) c.args.session c.args.request _ c.refusal.result (λ s. close_by s c.args.session) c.close.result
          c.requires c.in-Close.is refl (search rules) c.refusal.ensures.value (λ s. refl) refl refl refl c.close.ensures.up c.close.ensures.down,
      bare_fresh _ c.close.ensures.bare,
    )

pub returns-in-Restart-clause-ok : goal.returns-in-Restart-clause-ok
returns-in-Restart-clause-ok g c =
    let none : c.refusal.result ≡ None = search rules in
    restart_done _ c.args.self.now c.restarted.new.self c.args.session c.args.request c.restarted.result c.in-Restart.is (sym none ∙ c.refusal.ensures.value) c.restarted.ensures.ok c.restarted.ensures.bare

pub returns-in-Trim-clause-ok : goal.returns-in-Trim-clause-ok
returns-in-Trim-clause-ok g c =
    let none : c.refusal.result ≡ None = search rules in
    trim_done _ c.args.self.now c.trim.new.self c.args.session c.args.request c.trim.result c.in-Trim.is (sym none ∙ c.refusal.ensures.value) c.trim.ensures.ok c.trim.ensures.fresh

pub returns-in-Prepare-clause-ok : goal.returns-in-Prepare-clause-ok
returns-in-Prepare-clause-ok g c =
    turns_done _ c.args.self.now c.log_call.new.self c.args.session c.args.request _ c.refusal.result (row_turn (Writes Prepare) c.in-Prepare.xid) c.log_call.result
    c.requires c.in-Prepare.is refl refl (search rules) c.refusal.ensures.value c.refusal.ensures.answered (λ s. refl) c.log_call.ensures.ok c.log_call.ensures.bare

pub returns-in-Commit-clause-ok : goal.returns-in-Commit-clause-ok
returns-in-Commit-clause-ok g c =
    turns_done _ c.args.self.now c.log_call-in-Commit.new.self c.args.session c.args.request _ c.refusal.result (row_turn c.of_commit.result c.in-Commit.xid) c.log_call-in-Commit.result
    c.requires c.in-Commit.is refl refl (search rules) c.refusal.ensures.value c.refusal.ensures.answered (λ s. rw c.of_commit.ensures (commits_by c.in-Commit.flags c.in-Commit.xid s)) c.log_call-in-Commit.ensures.ok c.log_call-in-Commit.ensures.bare

pub returns-in_ok-start-in-Start-clause-ok : goal.returns-in_ok-start-in-Start-clause-ok
returns-in_ok-start-in-Start-clause-ok g c =
    rw c.now-in-Start.ensures (
      follows_done _ c.args.self.now (record c.args.self.now { tables = c.start.new.self }) c.args.session c.args.request _ c.refusal.result (λ s. start_by s c.args.session c.in-Start.flags c.in-Start.xid) c.in_ok-start-in-Start.field-0
          c.requires c.in-Start.is refl refl (search rules) c.refusal.ensures.value c.refusal.ensures.answered (λ s. refl) refl refl refl c.in_ok-start-in-Start.ensures.ok,
      c.in_ok-start-in-Start.ensures.fresh,
    )

pub returns-in-End-clause-ok : goal.returns-in-End-clause-ok
returns-in-End-clause-ok g c =
    rw c.now-in-End.ensures (
      follows_done _ c.args.self.now (record c.args.self.now { tables = c.end.new.self }) c.args.session c.args.request _ c.refusal.result (λ s. end_by s c.args.session c.in-End.flags c.in-End.xid) c.end.result
          c.requires c.in-End.is refl refl (search rules) c.refusal.ensures.value c.refusal.ensures.answered (λ s. refl) refl refl refl c.end.ensures.follows,
      bare_fresh _ c.end.ensures.bare,
    )

pub returns-in-Rollback-clause-ok : goal.returns-in-Rollback-clause-ok
returns-in-Rollback-clause-ok g c =
    turns_done _ c.args.self.now c.log_call-in-Rollback.new.self c.args.session c.args.request _ c.refusal.result (row_turn row.Rollback c.in-Rollback.xid) c.log_call-in-Rollback.result
    c.requires c.in-Rollback.is refl refl (search rules) c.refusal.ensures.value c.refusal.ensures.answered (λ s. refl) c.log_call-in-Rollback.ensures.ok c.log_call-in-Rollback.ensures.bare

pub returns-in-Forget-clause-ok : goal.returns-in-Forget-clause-ok
returns-in-Forget-clause-ok g c =
    turns_done _ c.args.self.now c.log_call-in-Forget.new.self c.args.session c.args.request _ c.refusal.result (row_turn row.Forget c.in-Forget.xid) c.log_call-in-Forget.result
    c.requires c.in-Forget.is refl refl (search rules) c.refusal.ensures.value c.refusal.ensures.answered (λ s. refl) c.log_call-in-Forget.ensures.ok c.log_call-in-Forget.ensures.bare

pub returns-in_ok-recover-in-Recover-clause-ok : goal.returns-in_ok-recover-in-Recover-clause-ok
returns-in_ok-recover-in-Recover-clause-ok g c =
    rw c.now-in-Recover.ensures (
      follows_done _ c.args.self.now (record c.args.self.now { tables = c.recover.new.self }) c.args.session c.args.request _ c.refusal.result (λ s. recover_by s c.args.session c.in-Recover.flags c.in-Recover.count) c.in_ok-recover-in-Recover.field-0
          c.requires c.in-Recover.is refl refl (search rules) c.refusal.ensures.value c.refusal.ensures.answered (λ s. refl) refl refl refl c.in_ok-recover-in-Recover.ensures.ok,
      c.in_ok-recover-in-Recover.ensures.fresh,
    )

pub returns-in_ok-get-in-Get-clause-ok : goal.returns-in_ok-get-in-Get-clause-ok
returns-in_ok-get-in-Get-clause-ok g c =
    rw c.now-in-Get.ensures (
      follows_done _ c.args.self.now (record c.args.self.now { tables = c.get.new.self }) c.args.session c.args.request _ c.refusal.result (λ s. get_by s c.in-Get.key (own_branch s c.args.session)) c.in_ok-get-in-Get.field-0
          c.requires c.in-Get.is refl refl (search rules) c.refusal.ensures.value c.refusal.ensures.answered (λ s. refl) refl refl refl c.in_ok-get-in-Get.ensures.ok,
      c.in_ok-get-in-Get.ensures.fresh,
    )

pub returns-in_ok-put-in-Put-clause-ok : goal.returns-in_ok-put-in-Put-clause-ok
returns-in_ok-put-in-Put-clause-ok g c =
    rw c.now-in-Put.ensures (
      follows_done _ c.args.self.now (record c.args.self.now { tables = c.put.new.self }) c.args.session c.args.request _ c.refusal.result (λ s. put_by s c.in-Put.key (Some c.into_vec.result.items) (own_branch s c.args.session)) c.in_ok-put-in-Put.field-0
          c.requires c.in-Put.is refl refl (search rules) c.refusal.ensures.value c.refusal.ensures.answered (λ s. ap (λ (v : List ℕ). Now (put_by s c.in-Put.key (Some v) (own_branch s c.args.session))) (sym c.into_vec.ensures)) refl refl refl c.in_ok-put-in-Put.ensures.ok,
      bare_fresh _ c.in_ok-put-in-Put.ensures.bare,
    )

pub returns-in_ok-put-in-Delete-clause-ok : goal.returns-in_ok-put-in-Delete-clause-ok
returns-in_ok-put-in-Delete-clause-ok g c =
    rw c.now-in-Delete.ensures (
      follows_done _ c.args.self.now (record c.args.self.now { tables = c.put-in-Delete.new.self }) c.args.session c.args.request _ c.refusal.result (λ s. put_by s c.in-Delete.key None (own_branch s c.args.session)) c.in_ok-put-in-Delete.field-0
          c.requires c.in-Delete.is refl refl (search rules) c.refusal.ensures.value c.refusal.ensures.answered (λ s. refl) refl refl refl c.in_ok-put-in-Delete.ensures.ok,
      bare_fresh _ c.in_ok-put-in-Delete.ensures.bare,
    )

pub returns-in-Decide-clause-ok : goal.returns-in-Decide-clause-ok
returns-in-Decide-clause-ok g c =
    turns_done _ c.args.self.now c.log_call-in-Decide.new.self c.args.session c.args.request _ c.refusal.result (row_turn (row.Decide c.in-Decide.direction) c.in-Decide.xid) c.log_call-in-Decide.result
    c.requires c.in-Decide.is refl refl (search rules) c.refusal.ensures.value c.refusal.ensures.answered (λ s. refl) c.log_call-in-Decide.ensures.ok c.log_call-in-Decide.ensures.bare

pub returns-in-Doom-clause-ok : goal.returns-in-Doom-clause-ok
returns-in-Doom-clause-ok g c =
    rw c.now-in-Doom.ensures (
      follows_done _ c.args.self.now (record c.args.self.now { tables = c.doom.new.self }) c.args.session c.args.request _ c.refusal.result (λ s. doom_by s c.in-Doom.xid) c.doom.result
          c.requires c.in-Doom.is refl refl (search rules) c.refusal.ensures.value c.refusal.ensures.answered (λ s. refl) refl refl refl c.doom.ensures.follows,
      bare_fresh _ c.doom.ensures.bare,
    )

pub returns-in-Timeout-clause-ok : goal.returns-in-Timeout-clause-ok
returns-in-Timeout-clause-ok g c =
    rw c.now-in-Timeout.ensures (
      follows_done _ c.args.self.now (record c.args.self.now { tables = c.timeout.new.self }) c.args.session c.args.request _ c.refusal.result (λ s. timeout_by s c.args.session c.in-Timeout.seconds) c.timeout.result
          c.requires c.in-Timeout.is refl refl (search rules) c.refusal.ensures.value c.refusal.ensures.answered (λ s. refl) refl refl refl c.timeout.ensures.follows,
      bare_fresh _ c.timeout.ensures.bare,
    )

pub returns-in-Tick-clause-ok : goal.returns-in-Tick-clause-ok
returns-in-Tick-clause-ok g c =
    rw c.now-in-Tick.ensures (
      follows_done _ c.args.self.now (record c.args.self.now { tables = c.tick.new.self }) c.args.session c.args.request _ c.refusal.result (λ s. tick_by s c.in-Tick.moment) c.tick.result
          c.requires c.in-Tick.is refl refl (search rules) c.refusal.ensures.value c.refusal.ensures.answered (λ s. refl) refl refl refl c.tick.ensures.follows,
      c.tick.ensures.fresh,
    )

pub returns-in_ok-known_branches-in-Branches-clause-ok : goal.returns-in_ok-known_branches-in-Branches-clause-ok
returns-in_ok-known_branches-in-Branches-clause-ok g c =
    let after : option_copied c.as_ref.result ≡ c.in-Branches.after = search rules in
    rw c.now-in-Branches.ensures (
      follows_done _ c.args.self.now c.args.self.now c.args.session c.args.request _ c.refusal.result (λ s. branches_by s c.in-Branches.count (option_copied c.as_ref.result)) c.in_ok-known_branches-in-Branches.field-0
          c.requires c.in-Branches.is refl refl (search rules) c.refusal.ensures.value c.refusal.ensures.answered (λ s. ap (λ (o : Option Triple). Now (branches_by s c.in-Branches.count o)) (sym after)) refl refl refl c.in_ok-known_branches-in-Branches.ensures.ok,
      c.in_ok-known_branches-in-Branches.ensures.fresh,
    )

-- ---- memory was wanted

pub returns-in-Restart-clause-err : goal.returns-in-Restart-clause-err
returns-in-Restart-clause-err g c =
    rw c.in-Restart.is c.restarted.ensures.err

pub returns-in-Trim-clause-err : goal.returns-in-Trim-clause-err
returns-in-Trim-clause-err g c =
    turns_wanted _ c.args.self.now c.trim.new.self c.args.request _ c.trim.result c.in-Trim.is refl (λ no. absurd (cc no)) c.trim.ensures.err c.trim.ensures.untouched

pub returns-in-Prepare-clause-err : goal.returns-in-Prepare-clause-err
returns-in-Prepare-clause-err g c =
    turns_wanted _ c.args.self.now c.log_call.new.self c.args.request _ c.log_call.result c.in-Prepare.is refl (λ no. absurd (cc no)) c.log_call.ensures.err c.log_call.ensures.untouched

pub returns-in-Commit-clause-err : goal.returns-in-Commit-clause-err
returns-in-Commit-clause-err g c =
    turns_wanted _ c.args.self.now c.log_call-in-Commit.new.self c.args.request _ c.log_call-in-Commit.result c.in-Commit.is refl (λ no. c.log_call-in-Commit.ensures.memory (rw c.of_commit.ensures (commits_without c.in-Commit.flags no))) c.log_call-in-Commit.ensures.err c.log_call-in-Commit.ensures.untouched

pub returns-in-Rollback-clause-err : goal.returns-in-Rollback-clause-err
returns-in-Rollback-clause-err g c =
    turns_wanted _ c.args.self.now c.log_call-in-Rollback.new.self c.args.request _ c.log_call-in-Rollback.result c.in-Rollback.is refl (λ no. c.log_call-in-Rollback.ensures.memory refl) c.log_call-in-Rollback.ensures.err c.log_call-in-Rollback.ensures.untouched

pub returns-in-Forget-clause-err : goal.returns-in-Forget-clause-err
returns-in-Forget-clause-err g c =
    turns_wanted _ c.args.self.now c.log_call-in-Forget.new.self c.args.request _ c.log_call-in-Forget.result c.in-Forget.is refl (λ no. c.log_call-in-Forget.ensures.memory refl) c.log_call-in-Forget.ensures.err c.log_call-in-Forget.ensures.untouched

pub returns-in-Decide-clause-err : goal.returns-in-Decide-clause-err
returns-in-Decide-clause-err g c =
    turns_wanted _ c.args.self.now c.log_call-in-Decide.new.self c.args.request _ c.log_call-in-Decide.result c.in-Decide.is refl (λ no. c.log_call-in-Decide.ensures.memory refl) c.log_call-in-Decide.ensures.err c.log_call-in-Decide.ensures.untouched

pub returns-in_err-start-in-Start-clause-err : goal.returns-in_err-start-in-Start-clause-err
returns-in_err-start-in-Start-clause-err g c =
    on_err c.from_residual.result _ (follows_wanted _ c.args.self.now (record c.args.self.now { tables = c.start.new.self }) c.args.request _ c.refusal.result
    c.in-Start.is refl refl refl (search rules) c.refusal.ensures.answered refl refl refl c.in_err-start-in-Start.ensures.err)

pub returns-in_err-recover-in-Recover-clause-err : goal.returns-in_err-recover-in-Recover-clause-err
returns-in_err-recover-in-Recover-clause-err g c =
    on_err c.from_residual-in_err-recover-in-Recover.result _ (follows_wanted _ c.args.self.now (record c.args.self.now { tables = c.recover.new.self }) c.args.request _ c.refusal.result
    c.in-Recover.is refl refl refl (search rules) c.refusal.ensures.answered refl refl refl c.in_err-recover-in-Recover.ensures.err)

pub returns-in_err-get-in-Get-clause-err : goal.returns-in_err-get-in-Get-clause-err
returns-in_err-get-in-Get-clause-err g c =
    on_err c.from_residual-in_err-get-in-Get.result _ (follows_wanted _ c.args.self.now (record c.args.self.now { tables = c.get.new.self }) c.args.request _ c.refusal.result
    c.in-Get.is refl refl refl (search rules) c.refusal.ensures.answered refl refl refl c.in_err-get-in-Get.ensures.err)

pub returns-in_err-put-in-Put-clause-err : goal.returns-in_err-put-in-Put-clause-err
returns-in_err-put-in-Put-clause-err g c =
    on_err c.from_residual-in_err-put-in-Put.result _ (follows_wanted _ c.args.self.now (record c.args.self.now { tables = c.put.new.self }) c.args.request _ c.refusal.result
    c.in-Put.is refl refl refl (search rules) c.refusal.ensures.answered refl refl refl c.in_err-put-in-Put.ensures.err)

pub returns-in_err-put-in-Delete-clause-err : goal.returns-in_err-put-in-Delete-clause-err
returns-in_err-put-in-Delete-clause-err g c =
    on_err c.from_residual-in_err-put-in-Delete.result _ (follows_wanted _ c.args.self.now (record c.args.self.now { tables = c.put-in-Delete.new.self }) c.args.request _ c.refusal.result
    c.in-Delete.is refl refl refl (search rules) c.refusal.ensures.answered refl refl refl c.in_err-put-in-Delete.ensures.err)

pub returns-in_err-known_branches-in-Branches-clause-err : goal.returns-in_err-known_branches-in-Branches-clause-err
returns-in_err-known_branches-in-Branches-clause-err g c =
    on_err c.from_residual-in_err-known_branches-in-Branches.result _ (follows_wanted _ c.args.self.now c.args.self.now c.args.request _ c.refusal.result
    c.in-Branches.is refl refl refl (search rules) c.refusal.ensures.answered refl refl refl (λ s st. st))
