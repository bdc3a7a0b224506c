use Rattle.std.proofs.Common.{refl}
use Rattle.xa_model.proofs.examples.worked_associations.Goals as goal

pub returns-clause-comes_and_goes : goal.returns-clause-comes_and_goes
returns-clause-comes_and_goes c = refl

pub returns-clause-migration : goal.returns-clause-migration
returns-clause-migration c = refl

pub returns-clause-own_before_loose : goal.returns-clause-own_before_loose
returns-clause-own_before_loose c = refl

pub returns-clause-loose_ends : goal.returns-clause-loose_ends
returns-clause-loose_ends c = refl

pub returns-clause-broken_connection : goal.returns-clause-broken_connection
returns-clause-broken_connection c = refl

pub returns-clause-suspended_and_broken : goal.returns-clause-suspended_and_broken
returns-clause-suspended_and_broken c = refl

pub returns-clause-numbers_again : goal.returns-clause-numbers_again
returns-clause-numbers_again c = refl

pub returns-clause-opening : goal.returns-clause-opening
returns-clause-opening c = refl
