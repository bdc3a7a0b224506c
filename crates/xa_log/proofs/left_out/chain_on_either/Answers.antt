use Rattle.std.proofs.Common.{◌≡◌, sym, subst, cond, Bool, false, drop, Some}
use Rattle.xa_log.specs.Believed.Chain.{is_record}
use Rattle.xa_log.specs.Reading.{Finds}
use Rattle.xa_log.specs.Shown.{Shows}
use Rattle.xa_log.proofs.Shown.{found_or}
use Rattle.xa_log.proofs.left_out.chain_on_either.Goals as goal

pub returns-in-Err-clause-finds : goal.returns-in-Err-clause-finds
returns-in-Err-clause-finds c = λ format file window at it.
    let other : is_record format c.args.stored.now (drop at file) ≡ false = c.in-Err.ensures.chains format file window at it in
    let shows : Shows format file at window (Some c.in-Err.shown) = subst (λ s. Shows format file at window (Some s)) (sym c.in-Err.ensures.kept) it in
    subst (λ (t : Bool). Finds format (cond t c.args.stored.now c.args.computed.now) file at window c.ok.result) (sym other)
    (found_or c.chain_on-in-Err.result c.ok.result format c.args.computed.now file window at c.ok.ensures.value (c.chain_on-in-Err.ensures.chains format file window at shows))
