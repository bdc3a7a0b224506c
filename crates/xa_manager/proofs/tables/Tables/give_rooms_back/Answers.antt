use Rattle.std.proofs.Common.{◌≡◌, List, [], drop, subst, arith}
use Rattle.std.proofs.lemmas.List.{at_drop_all}
use Rattle.xa_xid.specs.Triple.{Triple}
use Rattle.xa_manager.specs.Stands.{StandsWithRooms}
use Rattle.xa_manager.specs.View.{view_of}
use Rattle.xa_manager.proofs.Finishing.{without_rooms}
use Rattle.xa_manager.proofs.tables.Tables.give_rooms_back.Goals as goal

pub returns-clause-given : goal.returns-clause-given
returns-clause-given c = λ s distinct st.
    let xids = c.args.xids.now in
    let i = c.rooms.xid-index in
    let none : drop i xids ≡ [] = at_drop_all (λ (l : List Triple). l) xids i (omega (arith, c.rooms-test.false)) in
    without_rooms (view_of c.rooms.self) s (subst (λ (l : List Triple). StandsWithRooms l (view_of c.rooms.self) s) none (c.rooms.invariant.left s distinct st).1)
