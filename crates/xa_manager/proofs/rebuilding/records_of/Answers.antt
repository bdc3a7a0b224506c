use Rattle.std.proofs.Common.{List, [], map, refl, subst, sym, ◌∙◌}
use Rattle.xa_limits.specs.declared.TheConstants.{MOST_VALUE}
use Rattle.xa_recovery.specs.Durable.{as_committed, as_prepared}
use Rattle.xa_recovery.proofs.ListedMaps.{bodies_are, of_parts}
use Rattle.xa_model.specs.Durable.{CommittedBranch, PreparedBranch, Pairwise, prepares_before}
use Rattle.xa_manager.specs.Rebuilding.{CommittedAreShort, PreparedAreShort, PreparedHaveKeys}
use Rattle.xa_manager.proofs.NewTables.{records_stand}
use Rattle.xa_manager.proofs.ShortWrites.{snapshot_short, snapshot_keys}
use Rattle.xa_manager.proofs.rebuilding.records_of.Goals as goal

pub returns-clause-stands : goal.returns-clause-stands
returns-clause-stands c = λ s h.
    records_stand c.args.durable c.args.boot c.least_of-least.result s (map as_committed c.into_parts-committed.result.0.entries) (map as_prepared c.into_parts-committed.result.1.entries) c.in_ok-records.records c.put_committed.new.records c.put_undecided.new.records
    c.into_parts-committed.ensures.committed c.into_parts-committed.ensures.prepared (c.in_ok-records.ensures.stands 0) c.in_ok-put_committed.ensures.stands c.in_ok-put_undecided.ensures.stands c.least_of-least.ensures.below c.least_of-least.ensures.past h

pub returns-clause-short : goal.returns-clause-short
returns-clause-short c = λ boot limits.
    let short = snapshot_short c.args.durable boot limits in
    let committed = subst (λ (bs : List CommittedBranch). CommittedAreShort bs) (sym c.into_parts-committed.ensures.committed) short.0 in
    let prepared = subst (λ (ps : List PreparedBranch). PreparedAreShort ps) (sym c.into_parts-committed.ensures.prepared) short.1 in
    c.in_ok-put_undecided.ensures.short prepared (c.in_ok-put_committed.ensures.short committed (c.in_ok-records.ensures.within MOST_VALUE))

pub returns-clause-keys : goal.returns-clause-keys
returns-clause-keys c = λ boot limits apart.
    let same = sym c.into_parts-committed.ensures.prepared in
    let keys = subst (λ (ps : List PreparedBranch). PreparedHaveKeys ps) same (snapshot_keys c.args.durable boot limits) in
    let order = subst (λ (ps : List PreparedBranch). Pairwise prepares_before ps) same apart in
    c.in_ok-put_undecided.ensures.keys keys order (c.in_ok-put_committed.ensures.unwritten c.in_ok-records.ensures.own)

pub returns-clause-bodies : goal.returns-clause-bodies
returns-clause-bodies c =
    let parts = c.into_parts-committed.result in
    let is = c.into_parts-committed.ensures in
    bodies_are c.args.boot c.args.durable.boot parts.0.entries parts.1.entries parts.2.entries
    [] c.in_ok-bodies.bodies.items c.put_committed.new.bodies.items
    c.put_undecided.new.bodies.items c.put_decided.new.bodies.items
    refl c.in_ok-bodies.ensures c.in_ok-put_committed.ensures.bodies c.in_ok-put_undecided.ensures.bodies c.in_ok-put_decided.ensures
    ∙ of_parts c.args.durable c.args.boot parts.0.entries parts.1.entries parts.2.entries is.committed is.prepared is.decided
