use Rattle.std.proofs.Common.{◌+◌, ◌≤◌, vec_len, vec_capacity}
use Rattle.xa_model.specs.Events.{AreEvents}
use Rattle.xa_manager.specs.Believed.Answered.{AnswersAll, ArePinned, RunsAll}
use Rattle.xa_manager.specs.Believed.Counted.{CountsAll}
use Rattle.xa_manager.proofs.manager.Manager.drive.Given as goal

abbrev pub invariant-loop-event : goal.invariant-loop-event
invariant-loop-event g l = record {
  answered : AnswersAll g.D.Disk l.fn.self l.yielded l.replies.items l.self;
  each : RunsAll g.D.Disk l.fn.self l.yielded l.replies.items l.self;
  counted : CountsAll g.D.Disk l.fn.self l.yielded l.replies.items l.self;
  pinned : ArePinned l.yielded l.replies.items;
  room : vec_len l.replies + l.event-iterator.rest.len ≤ vec_capacity l.replies;
  spelled : AreEvents l.event-iterator.rest.items;
}
