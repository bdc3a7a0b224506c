use Rattle.xa_record.proofs.Sizes.{any, opened, completed, decided, forgotten, known}
use Rattle.xa_record.proofs.laws.body_sizes.Goals as goal

pub returns : goal.returns
returns c = record { any = any; opened = opened; completed = completed; decided = decided; forgotten = forgotten; known = known }
