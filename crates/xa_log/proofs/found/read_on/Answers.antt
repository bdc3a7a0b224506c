use Rattle.std.proofs.Common.{arith, ◌+◌, ℕ, sym, subst, length}
use Rattle.xa_log.specs.Calls.{ReachesTo}
use Rattle.xa_log.proofs.Fetch.{on_fault, within_more, ahead_reaches, rest_within}
use Rattle.xa_log.proofs.found.read_on.Goals as goal

pub returns-in_err-done-clause-fetched : goal.returns-in_err-done-clause-fetched
returns-in_err-done-clause-fetched g c start most f r =
    on_fault _ _ c.from_residual.result c.from_residual.ensures.0
    (within_more c.args.len (c.args.at + length c.args.body.now) most start _ (omega (arith, r.1 (omega (arith, c.in_err-done.ensures.covered)))) (c.in_err-done.ensures.fetched start f))

pub returns-clause-fetched : goal.returns-clause-fetched
returns-clause-fetched g c start most f r =
    let ahead = c.in_ok-done.ensures.ahead in
    rest_within c.read_rest.result c.in_ok-done.span c.args.len _ most start _ (c.read_rest.ensures.fetched start (c.in_ok-done.ensures.fetched start f))
    c.read_rest.ensures.bounded c.read_rest.ensures.covered
    (subst (λ (k : ℕ). ReachesTo (c.args.at + k + 32) (c.in_ok-done.span.from + c.in_ok-done.span.have) most) (sym c.read_ahead.auto.body)
    (ahead_reaches (length c.args.body.now) c.args.span c.args.at c.args.have c.args.len c.in_ok-done.done most c.in_ok-done.span ahead r))
