use Rattle.xa_recovery.proofs.Tests.{is_last_stamp}
use Rattle.xa_recovery.proofs.rebuilding.Rebuilding.is_last_prepared.Goals as goal

pub returns-in-Some : goal.returns-in-Some
returns-in-Some c = λ x st.
    is_last_stamp c.args.self.now.prepared c.in-Some.last.now c.args.timestamp c.in-Some.field-0-1.now x.durable.prepared st.prepared c.in-Some.ensures.value c.in-Some.ensures.greatest
