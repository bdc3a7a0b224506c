use Rattle.xa_recovery.proofs.Tests.{is_last_time, none_used}
use Rattle.xa_recovery.proofs.rebuilding.Rebuilding.is_last.Goals as goal

pub returns-in-Some : goal.returns-in-Some
returns-in-Some c = λ x st. is_last_time c.args.self.now.timestamps c.in-Some.last.now c.args.timestamp x.timestamps st.timestamps c.in-Some.ensures.member c.in-Some.ensures.greatest

pub returns-in-None : goal.returns-in-None
returns-in-None c = λ x st. none_used c.args.self.now.timestamps c.args.timestamp x.timestamps st.timestamps (λ some. cc (c.in-None.ensures.variant.1 some))
