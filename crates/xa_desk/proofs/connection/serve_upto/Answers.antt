use Rattle.std.proofs.Common.{rules}
use Rattle.xa_desk.proofs.Talking.{talks-bound}
use Rattle.xa_desk.proofs.connection.serve_upto.Goals as goal

pub returns : goal.returns
returns g c = (c.converse-ended.new.door, rw (c.unwrap_or.ensures, c.err.ensures.value) (talks-bound _ _ _ _ _ _ _ _ _ c.converse-ended.ensures), search rules)
