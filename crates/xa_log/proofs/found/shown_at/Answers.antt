use Rattle.std.proofs.Common.{arith, refl, List, ℕ}
use Rattle.xa_log.proofs.Shown.{is_shown}
use Rattle.xa_log.proofs.found.shown_at.Goals as goal

pub returns-clause-shown : goal.returns-clause-shown
returns-clause-shown g c h caches spelled =
    let file : List ℕ = g.D.Disk.seen c.args.disk.now in
    is_shown file c.read_body.new.window c.args.at c.args.size _ _ (record { body = c.in_ok-body.body; stored = c.copy_from_slice.new.self; span = c.in_ok-body.span }) (omega arith) spelled c.in_ok-body.ensures.long
    (c.in_ok-body.ensures.read h caches) c.copy_from_slice.ensures.after refl (omega arith) (c.in_ok-body.ensures.caches h caches) c.in_ok-body.ensures.covers
