use Rattle.std.proofs.Common.{◌-◌, ◌+◌, ◌++◌, take, ap, ◌∙◌}
use Rattle.xa_recovery.proofs.Loops.{first_more, first_none, first_all, none_left}
use Rattle.xa_recovery.proofs.listing.first.Goals as goal

pub loop-number-preserved : goal.loop-number-preserved
loop-number-preserved c =
    ap (λ xs. xs ++ take (c.args.count - (c.loop-number._number + 1)) c.pop_first.new.self.keys) c.in_ok-push.ensures.items
    ∙ first_more c.args.count c.loop-number._number c.loop-number.taken.items c.in-Some.xid c.loop-number.above.keys c.pop_first.new.self.keys _ c.loop-number-test.true c.in-Some.ensures.removal c.loop-number.invariant

pub returns-in_default : goal.returns-in_default
returns-in_default c =
    first_none (c.args.count - c.loop-number._number) c.loop-number.taken.items c.loop-number.above.keys _ (none_left c.loop-number.above.keys (λ some. cc (c.in_default.ensures.variant.1 some))) c.loop-number.invariant

pub returns : goal.returns
returns c = first_all c.args.count c.loop-number._number c.loop-number.taken.items c.loop-number.above.keys _ c.loop-number-test.false c.loop-number.invariant
