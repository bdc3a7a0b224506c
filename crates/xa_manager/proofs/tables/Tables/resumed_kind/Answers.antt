use Rattle.std.proofs.Common.{◌≡◌, true, false, arith}
use Rattle.xa_assoc.specs.Seats.{suspends_at}
use Rattle.xa_manager.specs.View.{view_of}
use Rattle.xa_manager.proofs.Held.{resumes_own, resumes_loose}
use Rattle.xa_manager.proofs.tables.Tables.resumed_kind.Goals as goal

pub returns-then-has_suspended : goal.returns-then-has_suspended
returns-then-has_suspended c = λ s st free.
    let m = view_of c.args.self.now in
    let own : suspends_at m.sessions c.args.session c.args.xid.now ≡ true = grind (arith, c.if-has_suspended.ensures, c.if-has_suspended.true) in
    resumes_own m s c.args.session c.args.xid.now st own

pub returns-else-has_suspended : goal.returns-else-has_suspended
returns-else-has_suspended c = λ s st free.
    let m = view_of c.args.self.now in
    let none : suspends_at m.sessions c.args.session c.args.xid.now ≡ false = grind (arith, c.if-has_suspended.ensures, c.if-has_suspended.false) in
    resumes_loose m s c.args.session c.args.xid.now st none free
