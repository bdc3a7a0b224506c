use Rattle.xa_frame.proofs.Requests.{one_request}
use Rattle.xa_frame.proofs.laws.one_request.Goals as goal

pub returns : goal.returns
returns c = one_request
