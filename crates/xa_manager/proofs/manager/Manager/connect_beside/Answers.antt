use Rattle.std.proofs.Common.{◌≡◌, ◌≢◌, ℕ, ap, refl}
use Rattle.std.specs.Prelude.{Ok, Err, Result}
use Rattle.xa_assoc.specs.declared.fault.ConnectFault.{ConnectFault}
use Rattle.xa_assoc.specs.declared.fault.ConnectFault.TheVariants.{Full, Memory}
use Rattle.xa_frame.specs.declared.reply.Reply.{Reply}
use Rattle.xa_model.specs.Associations.{connect_by}
use Rattle.xa_model.specs.declared.event.Event.TheVariants.{Connect}
use Rattle.xa_model.specs.declared.outcome.Outcome.TheVariants.{Quiet}
use Rattle.xa_manager.specs.Believed.Answered.{connect_reply}
use Rattle.xa_manager.specs.Tables.{TablesFollow, TablesFollowDown}
use Rattle.xa_manager.proofs.Besides.{event_beside, wanted_beside}
use Rattle.xa_manager.proofs.manager.Manager.connect_beside.Goals as goal

abbrev came : ℕ → Result ℕ ConnectFault
came n = Ok n

abbrev failed : ConnectFault → Result ℕ ConnectFault
failed f = Err f

came_apart : (n : ℕ) → came n ≢ failed Memory
came_apart n e = cc e

-- what is so of each end but want of memory
of_full : (P : Reply → Type 0) (f : ConnectFault) → f ≡ Full → (failed f ≢ failed Memory → P (connect_reply (failed f))) → P (connect_reply (failed Full))
of_full P Full same h = h (λ e. cc e)
of_full P Memory same h = absurd (cc same)

pub returns-in-Ok-clause-answered : goal.returns-in-Ok-clause-answered
returns-in-Ok-clause-answered g c =
    event_beside g.D.Disk c.args.self.now (record c.args.self.now { tables = c.connect.new.self; outcome = Quiet }) c.args.group.now Connect (λ s. connect_by s) (connect_reply (Ok c.in-Ok.number)) c.requires.group
    refl (λ log s fl. tt) tt refl (λ s. refl) refl refl refl
    (c.in-Ok.ensures.ok (came_apart c.in-Ok.number)) (c.in-Ok.ensures.down (came_apart c.in-Ok.number)) c.connect.ensures.rooms

pub returns-in-Err-Full-clause-answered : goal.returns-in-Err-Full-clause-answered
returns-in-Err-Full-clause-answered g c =
    let f = c.in-Err-Full.field-0 in
    let same : f ≡ Full = c.in-Err-Full.field-0-is in
    event_beside g.D.Disk c.args.self.now (record c.args.self.now { tables = c.connect.new.self; outcome = Quiet }) c.args.group.now Connect (λ s. connect_by s) (connect_reply (Err Full)) c.requires.group
    refl (λ log s fl. tt) tt refl (λ s. refl) refl refl refl
    (of_full (λ r. TablesFollow c.args.self.now.tables (λ s. connect_by s) r c.connect.new.self) f same c.in-Err-Full.ensures.ok)
    (of_full (λ r. TablesFollowDown c.args.self.now.tables (λ s. connect_by s) r c.connect.new.self) f same c.in-Err-Full.ensures.down) c.connect.ensures.rooms

pub returns-in-Err-Memory-clause-answered : goal.returns-in-Err-Memory-clause-answered
returns-in-Err-Memory-clause-answered g c =
    let m = c.args.self.now in
    let m' = record c.args.self.now { tables = c.connect.new.self } in
    let same : c.in-Err-Memory.field-0 ≡ Memory = c.in-Err-Memory.field-0-is in
    wanted_beside g.D.Disk m m' c.args.group.now Connect (connect_reply (Err Memory)) c.requires.group (λ w. (refl, refl)) refl refl refl refl (c.in-Err-Memory.ensures.memory (ap failed same)) c.connect.ensures.rooms
