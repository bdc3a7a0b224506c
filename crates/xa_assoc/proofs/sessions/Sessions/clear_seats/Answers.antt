use Rattle.std.proofs.Common.{refl, rules}
use Rattle.xa_assoc.proofs.Clearing.{all_cleared, clears}
use Rattle.xa_assoc.proofs.sessions.Sessions.clear_seats.Goals as goal

pub returns : goal.returns
returns c = clears c.args.self.now (record c.args.self.now { seats = c.retain.new.self })
    (all_cleared _ (λ f k x b x' f' t. search rules) _ c.args.self.now.seats.entries c.retain.new.self.entries c.retain.ensures.filtered) refl
