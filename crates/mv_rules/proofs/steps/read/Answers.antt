use Rattle.std.proofs.Common.{◌≡◌, ◌∙◌, ap}
use Rattle.mv_chain.specs.declared.look.Look.{Look}
use Rattle.mv_chain.specs.Accesses.{nobody, seen}
use Rattle.mv_chain.specs.Chain.{shows}
use Rattle.mv_chain.specs.Pool.{versions_of}
use Rattle.mv_rules.proofs.Indices.{answered_free}
use Rattle.mv_rules.specs.Tidy.{has_read}
use Rattle.mv_rules.proofs.steps.read.Goals as goal
use Rattle.mv_rules.proofs.steps.read.Goals.{in-None, in-Some+in-Ok}

pub returns-clause-stands : goal.returns-clause-stands
returns-clause-stands c =
    λ k key low writes reads s le.
    let is = c.look-look.ensures.found k in
    let same = s.seen nobody c.args.ts le in
    let from : (shows c.args.ts (versions_of c.args.pool.now c.args.chain.now)).from ≡ (seen key c.args.ts writes).from = ap (λ r. r.from) same in
    let free = answered_free c.args.ts c.look-look.result.from c.look-look.result.pending (seen key c.args.ts writes) (ap (λ (l : Look). l.from) is ∙ from) (ap (λ (l : Look). l.pending) is ∙ ap (λ r. r.pending) same) c.else-look.either in
    elim c.match-value_at.branch [
      | in-None w ↦ rw (w.got-is, from) (c.mark_at.ensures.stands c.args.ts key low writes reads k is s le free)
      | in-Some+in-Ok w ↦ rw (w.got-is, from) (c.mark_at.ensures.stands c.args.ts key low writes reads k is s le free)
    ]

pub returns-clause-same : goal.returns-clause-same
returns-clause-same c =
    λ none.
    elim c.match-value_at.branch [
      | in-None w ↦ absurd (cc (none, ap has_read w.got-is))
      | in-Some+in-Ok w ↦ absurd (cc (none, ap has_read w.got-is))
    ]

pub returns-clause-versions : goal.returns-clause-versions
returns-clause-versions c = λ answered k. c.mark_at.ensures.versions c.args.ts k (c.look-look.ensures.found k)
