use Rattle.xa_model.proofs.OpenedLists.{fresh_lists, opened_lists, reopened_lists}
use Rattle.xa_model.proofs.Preparing.{listed_until_asked, listed_since_boot}
use Rattle.xa_model.proofs.laws.listed_until_asked.Goals as goal

pub returns-clause-always : goal.returns-clause-always
returns-clause-always c = listed_until_asked

pub returns-clause-boot : goal.returns-clause-boot
returns-clause-boot c = listed_since_boot

pub returns-clause-fresh : goal.returns-clause-fresh
returns-clause-fresh c = fresh_lists

pub returns-clause-opened : goal.returns-clause-opened
returns-clause-opened c = opened_lists

pub returns-clause-reopened : goal.returns-clause-reopened
returns-clause-reopened c = reopened_lists
