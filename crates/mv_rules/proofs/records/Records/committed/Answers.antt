use Rattle.std.proofs.Common.{◌∷◌, ℕ, Vec}
use Rattle.std.specs.Map.Iter.{deref_pair}
use Rattle.std.specs.declared.alloc.Global.{Global}
use Rattle.std.proofs.lemmas.Map.Iter.{rest_more}
use Rattle.mv_rules.specs.Committed.{branches_in}
use Rattle.mv_rules.proofs.Passed.{IsGathered, gathered_none, gathered_more, gathered_all, last_added}
use Rattle.mv_rules.proofs.records.Records.committed.Goals as goal

pub loop-key-init : goal.loop-key-init
loop-key-init c =
    let gives = c.into_iter-key-iterator.ensures.into_iter_gives in
    rw (gives.0, c.new-committed.ensures.empty) (gathered_none c.args.self.now gives.5)

pub loop-key-preserved : goal.loop-key-preserved
loop-key-preserved c =
    let e : Vec ℕ Global × ℕ = (c.in-Some.key.now, c.in-Some.index.now) in
    let more = rest_more deref_pair c.loop-key.key-iterator c.next.new.self c.next.result (c.in-Some.key, c.in-Some.index) c.in-Some.is c.next.ensures.steps in
    let before : IsGathered c.args.self.now (e ∷ c.next.new.self) (branches_in c.loop-key.committed.entries) = rw more at c.loop-key.invariant in
    let step = rw c.as_slice-key.ensures.value at c.in_ok-add_key.ensures in
    rw (last_added e.0.items step.last c.loop-key.committed c.add_key.new.committed step.adds)
    (gathered_more c.args.self.now e c.next.new.self (branches_in c.loop-key.committed.entries) step.last (λ h stood. step.is stood.chains.held) before)

pub returns : goal.returns
returns c = λ h stood. gathered_all c.args.self.now c.loop-key.key-iterator (branches_in c.loop-key.committed.entries) c.in-None.ensures.steps.0 c.loop-key.invariant h stood
