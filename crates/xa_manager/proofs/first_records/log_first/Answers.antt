use Rattle.std.proofs.Common.{[], subst}
use Rattle.xa_log.specs.Believed.Stands.{EndsBehind}
use Rattle.xa_manager.proofs.FirstRecords.{first_appended, first_full, one_body, appends_first, snapshots_first}
use Rattle.xa_manager.proofs.FoundLogs.{found_stands, found_new, first_kept, first_replaced, first_ends, first_number, replaced_ends, replaced_number}
use Rattle.xa_manager.proofs.first_records.log_first.Goals as goal

pub returns-then-bodies-eq1-clause-full : goal.returns-then-bodies-eq1-clause-full
returns-then-bodies-eq1-clause-full g c = λ full old empty ends.
    first_full c.args.log.now _ c.as_slice.result.now
    (one_body c.args.bodies.now c.index-bodies-0.result c.as_slice.result.now c.if-bodies-eq1.true c.index-bodies-0.is c.as_slice.ensures)
    (subst (λ o. EndsBehind o c.args.log.now) (empty c.if-is_new.true) ends)
    (λ alive. (c.append.ensures.full alive).0 full)

pub returns-then-bodies-eq1-clause-kept : goal.returns-then-bodies-eq1-clause-kept
returns-then-bodies-eq1-clause-kept g c = λ h kept old empty found.
    let one = one_body c.args.bodies.now c.index-bodies-0.result c.as_slice.result.now c.if-bodies-eq1.true c.index-bodies-0.is c.as_slice.ensures in
    let has = found_new g.D.Disk c.args.is_new old c.args.log.now c.if-is_new.true (empty c.if-is_new.true) found in
    first_kept g.D.Disk _ has.0 c.as_slice.result.now _ c.args.log.now _ kept one (c.requires.first c.if-is_new.true) c.append.ensures.other has.2 (c.append.ensures.pair h [] has.0 has.1 (first_appended c.args.bodies.now c.as_slice.result.now one (c.requires.first c.if-is_new.true)))

pub returns-then-bodies-eq1-clause-ends : goal.returns-then-bodies-eq1-clause-ends
returns-then-bodies-eq1-clause-ends g c = λ kept old empty ends.
    let one = one_body c.args.bodies.now c.index-bodies-0.result c.as_slice.result.now c.if-bodies-eq1.true c.index-bodies-0.is c.as_slice.ensures in
    first_ends _ c.args.log.now _ old _ c.as_slice.result.now kept (empty c.if-is_new.true) one c.append.ensures.moves ends

pub returns-then-bodies-eq1-clause-number : goal.returns-then-bodies-eq1-clause-number
returns-then-bodies-eq1-clause-number g c = λ kept old empty ends.
    let one = one_body c.args.bodies.now c.index-bodies-0.result c.as_slice.result.now c.if-bodies-eq1.true c.index-bodies-0.is c.as_slice.ensures in
    first_number _ c.args.log.now _ old _ c.as_slice.result.now kept (empty c.if-is_new.true) one c.append.ensures.numbers ends

pub returns-else-is_new-clause-kept : goal.returns-else-is_new-clause-kept
returns-else-is_new-clause-kept g c = λ h kept old empty found.
    let it = found_stands g.D.Disk c.args.is_new old c.args.log.now found in (
      old,
      (c.checkpoint.ensures.replaces h old it.stood it.current it.other kept).0,
      first_replaced g.D.Disk _ old c.args.bodies.now c.args.log.now _ kept it.current (c.checkpoint.ensures.swaps it.current.alive),
    )

pub returns-else-is_new-clause-ends : goal.returns-else-is_new-clause-ends
returns-else-is_new-clause-ends g c = λ kept old empty ends. replaced_ends _ c.args.log.now _ old _ kept (c.checkpoint.ensures.swaps ends.alive) ends

pub returns-else-is_new-clause-number : goal.returns-else-is_new-clause-number
returns-else-is_new-clause-number g c = λ kept old empty ends. replaced_number _ c.args.log.now _ _ kept (c.checkpoint.ensures.swaps ends.alive)

pub returns-else-is_new-clause-full : goal.returns-else-is_new-clause-full
returns-else-is_new-clause-full g c = λ full old empty ends. (c.checkpoint.ensures.full ends.alive).0 full

pub returns-then-bodies-eq1-clause-logs : goal.returns-then-bodies-eq1-clause-logs
returns-then-bodies-eq1-clause-logs g c =
    appends_first g.D.Disk c.args.is_new _ c.args.bodies.now c.as_slice.result.now c.args.log.now _ c.if-is_new.true
    (one_body c.args.bodies.now c.index-bodies-0.result c.as_slice.result.now c.if-bodies-eq1.true c.index-bodies-0.is c.as_slice.ensures)
    c.append.ensures.other (c.requires.first c.if-is_new.true) c.append.ensures.pair c.append.ensures.any_moment

pub returns-else-is_new-clause-logs : goal.returns-else-is_new-clause-logs
returns-else-is_new-clause-logs g c =
    snapshots_first g.D.Disk c.args.is_new _ c.args.bodies.now c.args.log.now _ c.checkpoint.ensures.swaps c.checkpoint.ensures.lost c.checkpoint.ensures.settings c.checkpoint.ensures.answer c.checkpoint.ensures.any_moment c.checkpoint.ensures.filled_meanwhile
