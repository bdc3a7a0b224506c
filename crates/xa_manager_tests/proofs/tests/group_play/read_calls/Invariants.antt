use Rattle.std.specs.List.{AllByRecursion}
use Rattle.xa_model.specs.Events.{IsAsked}
use Rattle.xa_manager_tests.proofs.tests.group_play.read_calls.Given as goal

abbrev pub invariant-lines : goal.invariant-lines
invariant-lines l = AllByRecursion (λ c. IsAsked c.request) l.calls.items
