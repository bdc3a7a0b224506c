use Rattle.std.proofs.Common.{Vec, Global, List, ap, sym, subst}
use Rattle.xa_manager.specs.declared.together.Asked.{Asked}
use Rattle.xa_sequencer.specs.Believed.GroupManager.{alone, beside, manages_of}
use Rattle.xa_history.specs.Believed.Together.{AnswersTogether}
use Rattle.xa_sequencer.proofs.Pendings.{answered_group}
use Rattle.xa_sequencer.proofs.manager.ManagerManages.finish_group.Goals as goal

pub returns-clause-acts : goal.returns-clause-acts
returns-clause-acts g c =
    let done = c.finish_group.ensures in
    let replies = c.finish_group.result.0.items in
    subst (λ (l : List Asked). AnswersTogether (manages_of g.D.Disk) (beside c.args.self.now c.args.group) l replies (alone c.finish_group.new.self))
    (sym (ap (λ (v : Vec Asked Global). v.items) done.calls))
    (answered_group g.D.Disk c.args.self.now c.finish_group.new.self c.args.group replies done.finished)
