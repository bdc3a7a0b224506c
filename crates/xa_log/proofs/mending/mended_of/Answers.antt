use Rattle.std.proofs.Common.{◌≡◌, ◌∙◌, ◌-◌, ℕ, suc, ap, arith}
use Rattle.xa_log.specs.Believed.Chain.{size_at}
use Rattle.xa_log.specs.Believed.LeftOut.{mended}
use Rattle.xa_log.proofs.Mend.{bit_is, front_size, mended_next, mended_there, mended_zero, with_chains}
use Rattle.xa_log.proofs.mending.mended_of.Goals as goal

pub returns-in-Some-clause-mended : goal.returns-in-Some-clause-mended
returns-in-Some-clause-mended c format bytes front =
    let bit : ℕ = c.bits.bit - 1 in
    let next : c.bits.bit ≡ suc bit = omega arith in
    let there : c.size_of-there.result ≡ size_at bytes = c.size_of-there.ensures ∙ front_size c.args.front.now bytes front (omega arith) in
    let it = c.in-Some.ensures.chains format bytes front in (
      c.bits.invariant.same format bytes front ∙ ap (λ (k : ℕ). mended format c.args.prev.now bytes k) next
          ∙ mended_there format c.args.prev.now bytes bit _ (bit_is bytes c.size_of-there.result bit there (omega (arith, c.bits.invariant.within))) it.0,
      record { chains = with_chains format c.args.prev.now bytes _ it.0; digest = it.1 },
    )

pub bits-preserved : goal.bits-preserved
bits-preserved c = record {
  within = omega (arith, c.bits.invariant.within);
  same = λ format bytes front.
      let bit : ℕ = c.bits.bit - 1 in
      let next : c.bits.bit ≡ suc bit = omega arith in
      let there : c.size_of-there.result ≡ size_at bytes = c.size_of-there.ensures ∙ front_size c.args.front.now bytes front (omega arith) in
      c.bits.invariant.same format bytes front ∙ ap (λ (k : ℕ). mended format c.args.prev.now bytes k) next
      ∙ mended_next format c.args.prev.now bytes bit _ (bit_is bytes c.size_of-there.result bit there (omega (arith, c.bits.invariant.within))) (c.in-None.ensures.chains format bytes front);
}

pub returns-clause-mended : goal.returns-clause-mended
returns-clause-mended c format bytes front =
    c.bits.invariant.same format bytes front ∙ mended_zero format c.args.prev.now bytes c.bits.bit (omega arith)
