use Rattle.xa_history.proofs.Together.{if_ok}
use Rattle.xa_handles.proofs.locked.Locked.sessions_of.Goals as goal

pub returns : goal.returns
returns g c =
    if_ok c.sessions_of.result _ _
    (λ v are. record { asked = c.self.inside.sequencer; history = c.promises.ensures.history; told = are })
    c.sessions_of.ensures
