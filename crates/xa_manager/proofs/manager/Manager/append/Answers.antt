use Rattle.std.proofs.Common.{ap, refl, ◌∙◌}
use Rattle.xa_limits.specs.declared.TheConstants.{AROUND_CLOSED}
use Rattle.xa_log.specs.Believed.Group.{as_one, bodies_in}
use Rattle.xa_manager.specs.Turns.{doubt_after}
use Rattle.xa_manager.proofs.Appending.{has_appended, never_full}
use Rattle.xa_manager.proofs.manager.Manager.append.Goals as goal

pub returns : goal.returns
returns g c =
    let old = c.args.self.now.log in
    let group = bodies_in c.args.group in
    let h = c.append_group-appended.ensures in
    record {
      appended = λ alive room.
          has_appended _ group c.became.result c.append_group-appended.result old c.append_group-appended.new.self
          (c.became.ensures.answer (never_full c.append_group-appended.result old.log_bytes old.end AROUND_CLOSED (as_one group) (λ is. (h.full alive).0 is) room))
          h.settings h.other h.moves h.numbers h.pair (h.calls alive) h.any_moment;
      up = λ up. c.became.ensures.up up;
      doubt = c.became.ensures.doubt ∙ ap (λ e. doubt_after c.became.result e) c.end-end.ensures;
      tables = refl;
      outcome = refl;
    }
