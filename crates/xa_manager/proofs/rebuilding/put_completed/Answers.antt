use Rattle.std.proofs.Common.{map, ap, refl, sym}
use Rattle.std.specs.Map.Iter.{deref_pair}
use Rattle.std.proofs.lemmas.Map.Iter.{rest_more}
use Rattle.xa_codes.specs.declared.direction.Direction.{Direction}
use Rattle.xa_xid.specs.Triple.{Triple}
use Rattle.xa_recovery.specs.Durable.{as_decided}
use Rattle.xa_manager.proofs.NewTables.{completed_more, completed_all}
use Rattle.xa_manager.proofs.rebuilding.put_completed.Goals as goal

pub loop-xid-preserved : goal.loop-xid-preserved
loop-xid-preserved c =
    let e : Triple × Direction = (c.in-Some.xid.now, c.in-Some.direction.now) in
    let more = rest_more deref_pair c.loop-xid.xid-iterator c.next.new.self c.next.result (c.in-Some.xid, c.in-Some.direction) c.in-Some.is c.next.ensures.steps in
    λ boot moment ps apart unknown start.
    completed_more boot moment ps (map as_decided c.args.decided.now.entries) (map as_decided c.next.new.self) (map as_decided c.loop-xid.xid-iterator) (as_decided e) c.loop-xid.branches c.restore_completed.new.self (ap (λ es. map as_decided es) more) apart unknown
    (λ ds free none stands. c.in_ok-restore_completed.ensures boot moment ps ds (as_decided e) (sym c.copied.ensures) refl (rw c.copied.ensures free) (rw c.copied.ensures none) stands) (c.loop-xid.invariant boot moment ps apart unknown start)

pub returns : goal.returns
returns c = λ boot moment ps apart unknown start.
    completed_all boot moment ps (map as_decided c.args.decided.now.entries) (map as_decided c.loop-xid.xid-iterator) c.loop-xid.branches (ap (λ es. map as_decided es) c.in-None.ensures.steps.0) (c.loop-xid.invariant boot moment ps apart unknown start)
