use Rattle.std.proofs.Common.{◌≡◌, true, false, arith}
use Rattle.xa_model.specs.State.{is_with}
use Rattle.xa_assoc.specs.Seats.{active_at, owns_at}
use Rattle.xa_manager.specs.View.{view_of}
use Rattle.xa_manager.proofs.Held.{leaves_active, leaves_suspended, leaves_loose}
use Rattle.xa_manager.proofs.tables.Tables.ended_kind.Goals as goal

pub returns-then-works_in : goal.returns-then-works_in
returns-then-works_in c = λ s st free.
    let m = view_of c.args.self.now in
    let works : is_with c.args.xid.now (active_at m.sessions c.args.session) ≡ true = grind (arith, c.if-works_in.ensures, c.if-works_in.true) in
    leaves_active m s c.args.session c.args.xid.now st works

pub returns-then-owns : goal.returns-then-owns
returns-then-owns c = λ s st free.
    let m = view_of c.args.self.now in
    let works : is_with c.args.xid.now (active_at m.sessions c.args.session) ≡ false = grind (arith, c.if-works_in.ensures, c.if-works_in.false) in
    let owns : owns_at m.sessions c.args.session c.args.xid.now ≡ true = grind (arith, c.if-owns.ensures, c.if-owns.true) in
    leaves_suspended m s c.args.session c.args.xid.now st works owns

pub returns-else-owns : goal.returns-else-owns
returns-else-owns c = λ s st free.
    let m = view_of c.args.self.now in
    let works : is_with c.args.xid.now (active_at m.sessions c.args.session) ≡ false = grind (arith, c.if-works_in.ensures, c.if-works_in.false) in
    let owns : owns_at m.sessions c.args.session c.args.xid.now ≡ false = grind (arith, c.if-owns.ensures, c.if-owns.false) in
    leaves_loose m s c.args.session c.args.xid.now st works owns free
