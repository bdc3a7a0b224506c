use Rattle.xa_script.proofs.Calls.{request_read}
use Rattle.xa_script.proofs.laws.requests_are_read.Goals as goal

pub returns : goal.returns
returns c = λ xid_of reads session request some small. request_read xid_of reads session some small request
