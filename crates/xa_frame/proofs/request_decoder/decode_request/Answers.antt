use Rattle.std.proofs.Common.{◌≡◌, false, Result, Ok, subst, arith}
use Rattle.std.specs.Prelude.{IfOk}
use Rattle.xa_frame.specs.declared.fault.FrameFault.{FrameFault}
use Rattle.xa_frame.specs.declared.request.Request.{Request}
use Rattle.xa_frame.specs.Answers.{brings_bytes}
use Rattle.xa_frame.specs.Reading.{request_at}
use Rattle.xa_frame.specs.Faults.{fault_of_request}
use Rattle.xa_frame.specs.Spelling.{SpellsRequest}
use Rattle.xa_frame.proofs.Decoded.{found, only, fault, memory}
use Rattle.xa_frame.proofs.Requests.{requests, one_request}
use Rattle.xa_frame.proofs.request_decoder.decode_request.Goals as goal

pub returns-clause-found : goal.returns-clause-found
returns-clause-found c =
    found c.whole.result (request_at c.args.content.now) (SpellsRequest c.args.content.now) c.whole.ensures.answers
    (λ r e. requests.takes c.args.content.now r (λ i. omega (arith, c.type_inv.content i)) e)

pub returns-clause-only : goal.returns-clause-only
returns-clause-only c r h = only c.whole.result (request_at c.args.content.now) r c.whole.ensures.answers (requests.again c.args.content.now r h)

pub returns-clause-fault : goal.returns-clause-fault
returns-clause-fault c = fault c.whole.result (request_at c.args.content.now) (fault_of_request c.args.content.now) c.whole.ensures.answers (requests.fault c.args.content.now)

pub returns-clause-memory : goal.returns-clause-memory
returns-clause-memory c = memory c.whole.result (request_at c.args.content.now) (fault_of_request c.args.content.now) c.whole.ensures.answers (requests.fault c.args.content.now) (one_request.memory c.args.content.now)

pub returns-clause-bare : goal.returns-clause-bare
returns-clause-bare c r h =
    subst (λ (read : Result Request FrameFault). IfOk read (λ r. brings_bytes r ≡ false → c.whole.result ≡ Ok r)) (requests.again c.args.content.now r h) c.whole.ensures.bare
