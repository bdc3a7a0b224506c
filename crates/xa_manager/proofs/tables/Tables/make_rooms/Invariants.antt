use Rattle.std.proofs.Common.{◌≡◌, take}
use Rattle.xa_model.specs.State.{State}
use Rattle.xa_assoc.specs.Company.{company_of}
use Rattle.xa_manager.specs.Acts.{AreDistinct}
use Rattle.xa_manager.specs.Stands.{StandsFor, StandsWithRooms}
use Rattle.xa_manager.specs.View.{view_of}
use Rattle.xa_manager.proofs.tables.Tables.make_rooms.Given as goal

abbrev pub invariant-rooms : goal.invariant-rooms
invariant-rooms l = record {
  made : (s : State) → AreDistinct l.fn.xids → StandsFor (view_of l.fn.self) s → StandsWithRooms (take l.made l.xids) (view_of l.self) s;
  company : company_of l.self.sessions ≡ company_of l.fn.self.sessions;
}
