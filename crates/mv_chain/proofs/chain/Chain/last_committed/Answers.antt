use Rattle.std.proofs.Common.{sym, ◌∙◌, None}
use Rattle.mv_chain.specs.Pool.{versions_of}
use Rattle.mv_chain.proofs.Last.{last_none, last_base, last_some, last_written}
use Rattle.mv_chain.proofs.chain.Chain.last_committed.Goals as goal

pub returns-in_err-slot-clause-last : goal.returns-in_err-slot-clause-last
returns-in_err-slot-clause-last c = λ k.
    rw c.from_residual.ensures (last_none c.args.pool.now c.args.self.now.slots.items (rw c.deref.ensures at (sym c.in_err-slot.ensures)) k.chain)

pub returns-in_err-slot-clause-written : goal.returns-in_err-slot-clause-written
returns-in_err-slot-clause-written c = λ k.
    rw c.from_residual.ensures (last_written (versions_of c.args.pool.now c.args.self.now) None (last_none c.args.pool.now c.args.self.now.slots.items (rw c.deref.ensures at (sym c.in_err-slot.ensures)) k.chain))

pub returns-then-timestamp-eq0-clause-last : goal.returns-then-timestamp-eq0-clause-last
returns-then-timestamp-eq0-clause-last c = λ k.
    last_base c.args.pool.now c.args.self.now.slots.items c.in_ok-slot.slot (rw c.deref.ensures at (sym c.in_ok-slot.ensures)) (sym c.timestamp_at-timestamp.ensures ∙ c.if-timestamp-eq0.true) k.chain

pub returns-then-timestamp-eq0-clause-written : goal.returns-then-timestamp-eq0-clause-written
returns-then-timestamp-eq0-clause-written c = λ k.
    last_written (versions_of c.args.pool.now c.args.self.now) None
    (last_base c.args.pool.now c.args.self.now.slots.items c.in_ok-slot.slot (rw c.deref.ensures at (sym c.in_ok-slot.ensures)) (sym c.timestamp_at-timestamp.ensures ∙ c.if-timestamp-eq0.true) k.chain)

pub returns-clause-last : goal.returns-clause-last
returns-clause-last c = λ k.
    last_some c.args.pool.now c.args.self.now.slots.items c.in_ok-slot.slot c.timestamp_at-timestamp.result _ (rw c.deref.ensures at (sym c.in_ok-slot.ensures)) c.timestamp_at-timestamp.ensures c.if-timestamp-eq0.false
    c.value_at.ensures k.chain

pub returns-clause-written : goal.returns-clause-written
returns-clause-written c = λ k.
    last_written (versions_of c.args.pool.now c.args.self.now) _
    (last_some c.args.pool.now c.args.self.now.slots.items c.in_ok-slot.slot c.timestamp_at-timestamp.result _ (rw c.deref.ensures at (sym c.in_ok-slot.ensures)) c.timestamp_at-timestamp.ensures c.if-timestamp-eq0.false
    c.value_at.ensures k.chain)
