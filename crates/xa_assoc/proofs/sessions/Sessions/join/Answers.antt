use Rattle.xa_assoc.proofs.Follows.{on_ok, joined_follows}
use Rattle.xa_assoc.proofs.sessions.Sessions.join.Goals as goal

pub returns-clause-ok : goal.returns-clause-ok
returns-clause-ok c = on_ok c.sit_down.result _ _ _ (λ room seat. joined_follows c.args.self.now c.sit_down.new.self c.args.session c.args.xid room seat) c.sit_down.ensures.room c.sit_down.ensures.seat
