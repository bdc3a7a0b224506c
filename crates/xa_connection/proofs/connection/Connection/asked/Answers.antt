use Rattle.std.proofs.Common.{List, ℕ, subst}
use Rattle.xa_connection.specs.Calls.{IsReady}
use Rattle.xa_connection.specs.Fronts.{BeginsWhole}
use Rattle.xa_connection.proofs.Turning.{asks-by, content-is, goes-on, none-left}
use Rattle.xa_connection.proofs.connection.Connection.asked.Goals as goal

pub returns-in-Whole-clause-asks : goal.returns-in-Whole-clause-asks
returns-in-Whole-clause-asks c =
    let ready : IsReady c.args.self.now = (goes-on _ _ c.is_closing.ensures c.if-is_closing.false, none-left _ _ c.len.ensures c.if-len-gt0.false) in
    let begins : BeginsWhole c.args.self.now.input c.in-Whole.count =
    subst (λ (bs : List ℕ). BeginsWhole bs c.in-Whole.count) c.as_slice-input.ensures c.in-Whole.ensures.front in
    asks-by c.args.standing c.args.self.now c.in-Whole.count _ _ ready begins (content-is _ _ _ c.as_slice-input.ensures) c.asked_by.ensures.asks
