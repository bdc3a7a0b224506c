use Rattle.xa_log.proofs.Looks.{on_device, device_asked, device_second}
use Rattle.xa_log.proofs.looking.measure.Goals as goal

pub returns-in_err-other_len-clause-calls : goal.returns-in_err-other_len-clause-calls
returns-in_err-other_len-clause-calls g c most = on_device _ _ c.from_residual-in_err-other_len.result c.from_residual-in_err-other_len.ensures (device_asked most _ _ c.in_ok-len.ensures.calls)

pub returns-in_err-other_len-clause-calls_second : goal.returns-in_err-other_len-clause-calls_second
returns-in_err-other_len-clause-calls_second g c most = on_device _ _ c.from_residual-in_err-other_len.result c.from_residual-in_err-other_len.ensures (device_second most _ _ c.in_err-other_len.ensures.calls)
