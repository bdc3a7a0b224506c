use Rattle.std.proofs.Common.{refl, Some, None}
use Rattle.xa_log.proofs.Shown.{shown_says}
use Rattle.xa_log.proofs.found.chain_on.Goals as goal

pub returns-in-Some-clause-chains : goal.returns-in-Some-clause-chains
returns-in-Some-clause-chains c = λ format file window at it.
    let says = shown_says format file window c.args.prev.now c.deref.result.now c.args.shown.stored at c.args.shown it c.deref.ensures.value refl (Some c.in-Some.digest) c.in-Some.ensures in
    (says.0, it.1.spelled, says.1, says.2, it.1.caches)

pub returns-in-None-clause-chains : goal.returns-in-None-clause-chains
returns-in-None-clause-chains c = λ format file window at it.
    shown_says format file window c.args.prev.now c.deref.result.now c.args.shown.stored at c.args.shown it c.deref.ensures.value refl None c.in-None.ensures
