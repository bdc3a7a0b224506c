use Rattle.xa_handles.proofs.Calling.{tells_kept}
use Rattle.xa_handles.proofs.locked.Locked.finish_mail.Goals as goal

pub returns-clause-told : goal.returns-clause-told
returns-clause-told g c =
    tells_kept g.M.Manages.manages g.S.Start.start g.S.Start.base c.args.self.now c.finish_group.new.self c.hand_out.new.self c.finish_group.ensures.told c.hand_out.ensures.mail
