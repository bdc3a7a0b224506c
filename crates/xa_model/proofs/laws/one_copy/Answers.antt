use Rattle.xa_model.proofs.Copies.{always_one_copy, fresh_one_copy, opened_one_copy}
use Rattle.xa_model.proofs.Walks.{walks_one_copy}
use Rattle.xa_model.proofs.WalkedKeys.{walk_sees}
use Rattle.xa_model.proofs.laws.one_copy.Goals as goal

pub returns-clause-always : goal.returns-clause-always
returns-clause-always c = always_one_copy

pub returns-clause-fresh : goal.returns-clause-fresh
returns-clause-fresh c = fresh_one_copy

pub returns-clause-opened : goal.returns-clause-opened
returns-clause-opened c = opened_one_copy

pub returns-clause-walks : goal.returns-clause-walks
returns-clause-walks c = walks_one_copy

pub returns-clause-sees : goal.returns-clause-sees
returns-clause-sees c = walk_sees
