use Rattle.std.proofs.Common.{[], ◌∷◌}
use Rattle.xa_scram.specs.Believed.Messages.{base64}
use Rattle.xa_scram.proofs.Cuts.{after_so}
use Rattle.xa_scram.proofs.Exchanges.{proof_part}
use Rattle.xa_scram.proofs.exchange.proof_of.Goals as goal

pub returns-in_err-text-clause-only : goal.returns-in_err-text-clause-only
returns-in_err-text-clause-only c proof size are e =
    absurd (c.in_err-text.ensures (base64 proof) (proof_part c.args.message.now c.args.bare.now.items c.as_slice.result.now c.in_ok-rest.rest.now
    proof c.as_slice.ensures.value c.in_ok-rest.ensures e))

pub returns-clause-only : goal.returns-clause-only
returns-clause-only c proof size are e =
    let rest = proof_part c.args.message.now c.args.bare.now.items c.as_slice.result.now c.in_ok-rest.rest.now proof c.as_slice.ensures.value
    c.in_ok-rest.ensures e in
    c.key_of.ensures.only proof size are (after_so (44 ∷ 112 ∷ 61 ∷ []) c.in_ok-rest.rest.now c.in_ok-text.text.now (base64 proof)
    c.in_ok-text.ensures rest)
