use Rattle.std.proofs.Common.{◌≡◌, arith, length, subst, sym}
use Rattle.xa_scram.specs.Believed.Limits.{IsNonce}
use Rattle.xa_scram.proofs.MutualLemmas.{own_nonce}
use Rattle.xa_scram.proofs.nonce.Nonce.of_bytes.Goals as goal

pub invariant_of-result : goal.invariant_of-result
invariant_of-result c =
    let size : length c.args.bytes.now ≡ 18 = omega arith in
    subst IsNonce (sym c.spelled.ensures) (own_nonce c.args.bytes.now size c.hold.ensures)
