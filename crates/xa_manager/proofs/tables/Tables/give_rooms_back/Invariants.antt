use Rattle.std.proofs.Common.{◌≡◌, drop}
use Rattle.xa_model.specs.State.{State}
use Rattle.xa_assoc.specs.Company.{company_of}
use Rattle.xa_manager.specs.Acts.{AreDistinct}
use Rattle.xa_manager.specs.Stands.{StandsWithRooms}
use Rattle.xa_manager.specs.View.{view_of}
use Rattle.xa_manager.proofs.tables.Tables.give_rooms_back.Given as goal

abbrev pub invariant-rooms : goal.invariant-rooms
invariant-rooms l = record {
  left : (s : State) → AreDistinct l.fn.xids → StandsWithRooms l.fn.xids (view_of l.fn.self) s → AreDistinct (drop l.xid-index l.xids) × StandsWithRooms (drop l.xid-index l.xids) (view_of l.self) s;
  company : company_of l.self.sessions ≡ company_of l.fn.self.sessions;
}
