use Rattle.std.proofs.Common.{[], ◌∷◌}
use Rattle.xa_manager.specs.View.{view_of}
use Rattle.xa_manager.proofs.Finishing.{other_rooms}
use Rattle.xa_manager.proofs.tables.Tables.give_room_back.Goals as goal

pub returns-clause-first : goal.returns-clause-first
returns-clause-first c = λ xids s apart st.
    other_rooms (c.args.xid.now ∷ xids) xids (view_of c.args.self.now) c.give_back.new.self s (c.give_back.ensures.beside [] xids s apart st.branches) st
