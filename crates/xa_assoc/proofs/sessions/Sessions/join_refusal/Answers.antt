use Rattle.std.proofs.Common.{◌≡◌, Bool, ◌∙◌, rules}
use Rattle.std.specs.Prelude.{is_some}
use Rattle.xa_model.specs.State.{known_as}
use Rattle.xa_model.specs.Associations.{join_refusal}
use Rattle.xa_assoc.specs.Seats.{active_at}
use Rattle.xa_assoc.proofs.Facts.{same_refusal}
use Rattle.xa_assoc.proofs.sessions.Sessions.join_refusal.Goals as goal

pub returns-clause-value : goal.returns-clause-value
returns-clause-value c = λ s sound st unknown lasting.
    let n = c.args.session in
    let xid = c.args.xid.now in
    let copied : c.is_some.result ≡ is_some (active_at c.args.self.now n) = search rules in
    c.join_refusal.ensures.value (known_as s xid) unknown lasting
    ∙ same_refusal (λ (works has : Bool). join_refusal works has (known_as s xid)) c.args.self.now s n xid c.is_some.result c.has_suspended-has_suspended.result sound st copied c.has_suspended-has_suspended.ensures
