use Rattle.xa_reactor.proofs.failures.Failures.note.Goals as goal

pub returns : goal.returns
returns c = (_, c.pause_of.ensures)
