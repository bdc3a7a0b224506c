use Rattle.std.proofs.Common.{ℕ, List, [], ◌∷◌, OnOk, subst}
use Rattle.xa_recovery.specs.Snapshots.{Puts}
use Rattle.xa_recovery.proofs.snapshots.put_base.Goals as goal

pub returns : goal.returns
returns c = subst (λ (body : List ℕ). OnOk c.put.result (Puts c.args.bodies.now (body ∷ []) c.put.new.bodies)) c.in_ok-write_base.ensures c.put.ensures
