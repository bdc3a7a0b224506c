use Rattle.std.proofs.Common.{rules, true, false}
use Rattle.std.proofs.lemmas.Fn.{says_at}
use Rattle.std.proofs.lemmas.Iterator.{IsFirst-from_position, YieldsList-from_slice}
use Rattle.std.specs.Fn.{FnReturnsAt}
use Rattle.xa_rows.proofs.table.first_wrong.Goals as goal

pub returns : goal.returns
returns g c =
    IsFirst-from_position _ _ _ (λ row. FnReturnsAt g.F.Fn c.args.is_right row false) (λ row. FnReturnsAt g.F.Fn c.args.is_right row true) c.position.ensures.ran
    (YieldsList-from_slice c.args.rows.now c.iter.ensures.rest)
    (λ x q k. says_at g.F.Fn {y = x} {r = k.met.0.said-raw.1.1.0.result} (search rules) (search rules)) (λ x q k. (search rules, says_at g.F.Fn {y = x} {r = k.met.0.said-raw.1.1.0.result} (search rules) (search rules)))
