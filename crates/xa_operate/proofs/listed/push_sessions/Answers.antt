use Rattle.std.proofs.Common.{◌≡◌, ◌-◌, ◌∙◌, ◌++◌, List, length, take, drop, ap, arith}
use Rattle.std.proofs.lemmas.Grind.{common_steps}
use Rattle.xa_frame.specs.declared.known_branch.KnownBranch.{KnownBranch}
use Rattle.xa_operate.specs.Agendas.{session_of, sessions_of}
use Rattle.xa_operate.proofs.Pages.{session_more}
use Rattle.xa_operate.proofs.listed.push_sessions.Goals as goal

pub loop-rest-preserved : goal.loop-rest-preserved
loop-rest-preserved c =
    let rest = c.loop-rest.rest.now in
    let behind : take (length rest - 1) (drop 1 rest) ≡ drop 1 rest = grind (arith, common_steps) in
    let more = c.in_ok-push_session.ensures.questions
    ∙ ap (λ (l : List KnownBranch). c.loop-rest.agenda.items ++ session_of c.args.task.now c.branch-item.result l) behind in (
      rw behind (session_more c.args.task.now rest c.branch-item.result c.branch-item.result c.loop-rest.agenda.items c.push_session.new.agenda.items
          (c.args.agenda.now.items ++ sessions_of c.args.task.now c.args.branches.now) c.in-len1-up.len_at_least c.branch-item.is more c.loop-rest.invariant.0),
      c.in_ok-push_session.ensures.limits,
    )
