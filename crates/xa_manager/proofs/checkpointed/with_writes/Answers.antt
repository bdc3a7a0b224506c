use Rattle.std.proofs.Common.{ℕ, Vec, Global}
use Rattle.xa_codes.specs.declared.write.Write.{Write}
use Rattle.xa_manager.proofs.WhatLasts.{moved_none, moved_more, moved_all}
use Rattle.xa_manager.proofs.checkpointed.with_writes.Goals as goal

pub loop-timestamp-init : goal.loop-timestamp-init
loop-timestamp-init c =
    let gives = c.into_iter-timestamp-iterator.ensures.into_iter_gives in
    rw gives.0 (moved_none c.args.committed.entries c.new-made.result.entries c.new-made.ensures.empty gives.5)

pub loop-timestamp-preserved-in_ok-insert : goal.loop-timestamp-preserved-in_ok-insert
loop-timestamp-preserved-in_ok-insert c =
    let e : ℕ × Vec Write Global = (c.in-Some.timestamp, c.in-Some.writes) in
    moved_more c.args.committed.entries c.next.new.self e c.new.result c.loop-timestamp.made.entries c.insert.new.self.entries c.new.ensures c.in_ok-insert.ensures.entries
    (rw c.in-Some.ensures.steps at c.loop-timestamp.invariant)

pub loop-timestamp-preserved : goal.loop-timestamp-preserved
loop-timestamp-preserved c =
    let e : ℕ × Vec Write Global = (c.in-Some.timestamp, c.in-Some.writes) in
    moved_more c.args.committed.entries c.next.new.self e c.new.result c.loop-timestamp.made.entries c.insert.new.self.entries c.new.ensures c.in_ok-insert.ensures.entries
    (rw c.in-Some.ensures.steps at c.loop-timestamp.invariant)

pub returns : goal.returns
returns c = moved_all c.args.committed.entries c.loop-timestamp.timestamp-iterator c.loop-timestamp.made.entries c.in-None.ensures.steps.0 c.loop-timestamp.invariant
