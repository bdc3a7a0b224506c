use Rattle.std.proofs.Common.{arith, []}
use Rattle.std.proofs.lemmas.List.Elements.{All-nil, All-same}
use Rattle.xa_reactor.specs.Asking.{IsLent}
use Rattle.xa_reactor.proofs.together.Together.begin.Goals as goal

pub returns-clause-lent : goal.returns-clause-lent
returns-clause-lent c = λ table.
    c.reserve.ensures.lent table
    (record {
      quick = All-same (IsLent table) _ [] c.clear.ensures.items (All-nil (IsLent table));
      waiting = All-same (IsLent table) _ [] c.clear-3.ensures.items (All-nil (IsLent table));
      left = c.clear-2.ensures.items;
      room = omega (arith, c.clear.ensures.len, c.clear-3.ensures.len, c.clear-4.ensures.len);
    })
