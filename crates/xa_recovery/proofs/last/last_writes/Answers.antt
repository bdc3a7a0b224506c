use Rattle.std.proofs.Common.{◌||◌, map, ap, ◌∙◌}
use Rattle.xa_model.specs.Durable.{is_written_in}
use Rattle.xa_recovery.specs.Durable.{as_committed}
use Rattle.xa_recovery.specs.Last.{has_key}
use Rattle.xa_recovery.proofs.Upto.{taken, passed_over, kept_some, kept_none}
use Rattle.xa_recovery.proofs.last.last_writes.Goals as goal

pub loop-timestamp-preserved-in-Continue-branch-3 : goal.loop-timestamp-preserved-in-Continue-branch-3
loop-timestamp-preserved-in-Continue-branch-3 c = λ ordered.
    let kept = c.unwritten-kept.result in
    taken (map as_committed c.args.all.entries) c.loop-timestamp.all.entries c.pop_last.new.self.entries (c.in-Some.timestamp, c.in-Some.writes) c.loop-timestamp.written c.note.new.written c.loop-timestamp.last.entries c.keep.new.last.entries kept
    ordered (c.loop-timestamp.invariant ordered) c.in-Some.ensures.removal c.unwritten-kept.ensures
    (kept_some c.as_slice.result.now kept c.is_empty.result c.is_empty.ensures c.as_slice.ensures c.if-not-is_empty.true)
    (λ key. c.in_ok-note.ensures key ∙ ap (λ ws. is_written_in key ws || has_key c.loop-timestamp.written key) c.as_slice-then-not-is_empty-2.ensures)
    c.in_ok-keep.ensures

pub loop-timestamp-preserved : goal.loop-timestamp-preserved
loop-timestamp-preserved c = λ ordered.
    let kept = c.unwritten-kept.result in
    passed_over (map as_committed c.args.all.entries) c.loop-timestamp.all.entries c.pop_last.new.self.entries (c.in-Some.timestamp, c.in-Some.writes) c.loop-timestamp.written c.loop-timestamp.last.entries kept
    (c.loop-timestamp.invariant ordered) c.in-Some.ensures.removal c.unwritten-kept.ensures
    (kept_none c.as_slice.result.now kept c.is_empty.result c.is_empty.ensures c.as_slice.ensures c.if-not-is_empty.false)
