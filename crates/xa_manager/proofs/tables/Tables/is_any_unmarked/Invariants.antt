use Rattle.std.specs.Prelude.{◌≡◌}
use Rattle.std.specs.List.{list_any}
use Rattle.xa_manager.specs.Tables.{TablesSay}
use Rattle.xa_manager.specs.Unmarked.{is_unmarked}
use Rattle.xa_manager.proofs.tables.Tables.is_any_unmarked.Given as goal

abbrev pub invariant-loop-xid : goal.invariant-loop-xid
invariant-loop-xid l = TablesSay l.self (λ s. list_any (is_unmarked s) l.own.keys ≡ list_any (is_unmarked s) l.xid-iterator)
