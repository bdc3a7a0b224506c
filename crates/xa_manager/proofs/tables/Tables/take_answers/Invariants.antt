use Rattle.std.proofs.Common.{◌≡◌, ◌≢◌, List, drop}
use Rattle.xa_model.specs.declared.outcome.Appending.TheVariants.{Lost}
use Rattle.xa_model.specs.State.{State}
use Rattle.xa_assoc.specs.Company.{company_of}
use Rattle.xa_manager.specs.declared.together.Asked.{Asked}
use Rattle.xa_manager.specs.Stands.{StandsWithRooms}
use Rattle.xa_manager.specs.GroupAnswers.{AreTogether}
use Rattle.xa_manager.specs.Believed.Together.{members_of, prepares_of}
use Rattle.xa_manager.specs.View.{view_of}
use Rattle.xa_manager.proofs.TookAnswers.{Took}
use Rattle.xa_manager.proofs.tables.Tables.take_answers.Given as goal

abbrev pub invariant-members : goal.invariant-members
invariant-members l = record {
  took : (calls : List Asked) (s : State) → l.fn.answer ≢ Lost → AreTogether s (members_of calls l.fn.members) → StandsWithRooms (prepares_of (members_of calls l.fn.members)) (view_of l.fn.self) s → Took l.fn.answer s (members_of calls l.fn.members) (members_of calls (drop l.member-index l.members)) (view_of l.self);
  company : company_of l.self.sessions ≡ company_of l.fn.self.sessions;
}
