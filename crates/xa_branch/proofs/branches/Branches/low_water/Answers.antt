use Rattle.std.proofs.Common.{◌≡◌, ◌<◌, [], arith, rules}
use Rattle.xa_branch.proofs.Oldest.{least_stands, none_stands, no_keys}
use Rattle.xa_branch.proofs.branches.Branches.low_water.Goals as goal

pub returns-in-Some : goal.returns-in-Some
returns-in-Some c = λ s h st. least_stands c.args.self.now s _ st c.in-Some.ensures.member c.in-Some.ensures.least

pub returns-in-None : goal.returns-in-None
returns-in-None c = λ s h st.
    let empty : c.args.self.now.times.keys ≡ [] = no_keys c.args.self.now.times.keys (λ more. cc (c.in-None.ensures.variant.1 more)) in
    let small : c.from.result < 4294967296 = search rules in
    let last = none_stands c.args.self.now s st empty in
    omega (arith, c.saturating_add.ensures, c.from.ensures, st.boot, st.given, h.given, small, last)
