use Rattle.std.proofs.Common.{◌≡◌, ◌∙◌, ap, arith}
use Rattle.xa_limits.specs.declared.TheConstants.{MOST_SESSIONS}
use Rattle.xa_sequencer.specs.Associates.{sessions_up_to}
use Rattle.xa_sequencer.proofs.sequencer.Sequencer.sessions_of.Goals as goal

pub returns : goal.returns
returns g c = λ s stands.
    let all : c.loop-before.before ≡ MOST_SESSIONS = omega (arith, c.loop-before-test.false, c.loop-before.auto.before-end) in
    c.loop-before.invariant s stands ∙ ap (λ n. sessions_up_to n c.args.xid.now s.associations) all
