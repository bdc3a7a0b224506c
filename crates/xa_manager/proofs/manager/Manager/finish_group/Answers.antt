use Rattle.std.proofs.Common.{◌≡◌, List, map, refl, sym, subst}
use Rattle.xa_log.specs.Calls.{SettlesBy}
use Rattle.xa_log.specs.Believed.LogView.{LogView}
use Rattle.xa_manager.specs.Believed.Answered.{as_appended}
use Rattle.xa_manager.specs.declared.together.Joining.{Joining}
use Rattle.xa_manager.specs.GroupAnswers.{told}
use Rattle.xa_manager.specs.Once.{AreOnce}
use Rattle.xa_manager.proofs.GroupReplies.{once_of}
use Rattle.xa_manager.proofs.Finished.{has_finished, finished, finishes_still}
use Rattle.xa_manager.proofs.manager.Manager.finish_group.Goals as goal

pub returns-clause-finished : goal.returns-clause-finished
returns-clause-finished g c =
    let m = c.args.self.now in
    let f = c.args.group in
    let a = c.settle-became.result in
    let mid' = c.settle-became.new.self in
    let m' = record mid' { tables = c.take_together.new.self } in
    has_finished g.D.Disk m c.give_low_water.new.self f a c.tell.new.replies.items c.requires
    (subst (λ (l : List Joining). c.tell.new.replies.items ≡ map (told a) l) c.deref.ensures.value c.tell.ensures)
    (subst (λ (l : LogView _). SettlesBy f.written.write (as_appended a) (g.D.Disk.failures m.log.disk) (g.D.Disk.failures l.disk)) (sym c.give_low_water.ensures.log) c.settle-became.ensures.fails)
    (λ log s fl first rest are. finishes_still g.D.Disk log s first rest a m' c.give_low_water.new.self c.give_low_water.ensures.stays c.give_low_water.ensures.log
    (finished g.D.Disk m mid' m' f a c.requires c.settle-became.ensures refl refl refl c.take_together.ensures.took c.take_together.ensures.gave log s fl first rest are))

pub returns-clause-once : goal.returns-clause-once
returns-clause-once g c =
    let f = c.args.group in
    let a = c.settle-became.result in
    subst AreOnce (sym (subst (λ (l : List Joining). c.tell.new.replies.items ≡ map (told a) l) c.deref.ensures.value c.tell.ensures))
    (once_of f.calls.items f.together.members.items a c.requires.places c.requires.rows c.requires.distinct)
