use Rattle.xa_manager.proofs.WhatLasts.{MovedUpto}
use Rattle.xa_manager.proofs.checkpointed.with_writes.Given as goal

abbrev pub invariant-loop-timestamp : goal.invariant-loop-timestamp
invariant-loop-timestamp l = MovedUpto l.fn.committed.entries l.timestamp-iterator l.made.entries
