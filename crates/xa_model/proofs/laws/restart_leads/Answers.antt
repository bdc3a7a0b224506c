use Rattle.xa_model.proofs.Unasked.{restart_leads, restart_happens}
use Rattle.xa_model.proofs.laws.restart_leads.Goals as goal

pub returns-clause-leads : goal.returns-clause-leads
returns-clause-leads c = λ s outcome a sound answers e. restart_leads s outcome a sound answers e

pub returns-clause-happens : goal.returns-clause-happens
returns-clause-happens c = λ sessions outcome reply. restart_happens sessions outcome reply
