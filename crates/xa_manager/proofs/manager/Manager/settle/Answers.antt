use Rattle.std.proofs.Common.{ap, refl, subst, ◌∙◌}
use Rattle.xa_log.specs.Calls.{SettlesBy}
use Rattle.xa_manager.specs.Turns.{doubt_after}
use Rattle.xa_manager.proofs.Appending.{has_appended}
use Rattle.xa_manager.proofs.manager.Manager.settle.Goals as goal

pub returns : goal.returns
returns g c = record {
  appended = λ log group h.
      let x = c.settle-appended.ensures.group log group h in
      has_appended _ group c.became.result c.settle-appended.result log c.settle-appended.new.self (c.became.ensures.answer x.not_full)
      x.settings x.other x.moves x.numbers x.pair x.calls x.any_moment;
  fails = subst (λ o. SettlesBy c.args.written.write o (g.D.Disk.failures c.args.self.now.log.disk) (g.D.Disk.failures c.settle-appended.new.self.disk)) (c.became.ensures.answer c.settle-appended.ensures.not_full) c.settle-appended.ensures.fails;
  up = λ up. c.became.ensures.up up;
  doubt = c.became.ensures.doubt ∙ ap (λ e. doubt_after c.became.result e) c.end-from.ensures;
  tables = refl;
  outcome = refl;
}
