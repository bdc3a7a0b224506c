use Rattle.std.proofs.Common.{◌≡◌, sym, refl, arith}
use Rattle.xa_branch.proofs.Beginning.{new_stands}
use Rattle.xa_branch.proofs.branches.Branches.new.Goals as goal

pub returns-clause-fresh : goal.returns-clause-fresh
returns-clause-fresh c = λ s boot given moment none.
    let before : c.saturating_sub.result ≡ s.given = omega (arith, c.saturating_sub.ensures) in
    new_stands (record { boot = c.args.boot; given = c.saturating_sub.result; moment = c.args.moment; working = c.new.result; lasting = c.new-2.result; times = c.new-3.result; due = c.new-4.result; prepared = 0; completed = 0 }) s (sym boot) before (sym moment) c.new.ensures.empty c.new-2.ensures.empty c.new-3.ensures.empty c.new-4.ensures.empty
    refl refl none
