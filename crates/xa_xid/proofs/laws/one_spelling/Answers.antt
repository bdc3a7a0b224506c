use Rattle.xa_xid.proofs.Front.{one_reading}
use Rattle.xa_xid.proofs.Parts.{one_text}
use Rattle.xa_xid.proofs.laws.one_spelling.Goals as goal

pub returns-clause-bytes : goal.returns-clause-bytes
returns-clause-bytes c = one_reading

pub returns-clause-text : goal.returns-clause-text
returns-clause-text c = one_text
