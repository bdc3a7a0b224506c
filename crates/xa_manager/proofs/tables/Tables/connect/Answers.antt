use Rattle.xa_manager.specs.View.{view_of}
use Rattle.xa_manager.proofs.Connecting.{connect_follows}
use Rattle.xa_manager.proofs.tables.Tables.connect.Goals as goal

pub returns-clause-ok : goal.returns-clause-ok
returns-clause-ok c =
    connect_follows (view_of c.args.self.now) c.connect.new.self c.connect.result c.connect.ensures.number c.connect.ensures.ok c.connect.ensures.full c.connect.ensures.err
