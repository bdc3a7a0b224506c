use Rattle.std.proofs.Common.{◌≡◌, Bool, ap, sym, ◌∙◌, rules}
use Rattle.std.specs.Prelude.{is_some}
use Rattle.std.specs.List.{list_any}
use Rattle.xa_model.specs.State.{known_as, active_of, suspends}
use Rattle.xa_model.specs.Associations.{resume_refusal}
use Rattle.xa_assoc.specs.Seats.{active_at}
use Rattle.xa_assoc.proofs.Facts.{same_refusal}
use Rattle.xa_assoc.proofs.sessions.Sessions.resume_refusal.Goals as goal

pub returns-clause-value : goal.returns-clause-value
returns-clause-value c = λ s sound st unknown loose.
    let n = c.args.session in
    let xid = c.args.xid.now in
    let copied : c.is_some.result ≡ is_some (active_at c.args.self.now n) = search rules in
    c.resume_refusal.ensures.value (known_as s xid) unknown
    ∙ same_refusal (λ (works has : Bool). resume_refusal works (known_as s xid) has c.args.has_loose) c.args.self.now s n xid c.is_some.result c.has_suspended-has_suspended.result sound st copied c.has_suspended-has_suspended.ensures
    ∙ ap (λ (b : Bool). resume_refusal (is_some (active_of s.associations n)) (known_as s xid) (list_any (suspends n xid) s.associations) b) (sym loose)
