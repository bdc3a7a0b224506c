use Rattle.std.proofs.Common.{◌≡◌, true, arith, refl}
use Rattle.std.proofs.lemmas.Bool.Decides.{nat_tests}
use Rattle.std.specs.Prelude.{nat_lt}
use Rattle.xa_talk.specs.declared.answer.TheConstants.{MOST_CONNECTIONS}
use Rattle.xa_talk.specs.Numbers.{free_index}
use Rattle.xa_talk.proofs.answer.connect.Goals as goal

pub returns-in_ok-add-in-Ok : goal.returns-in_ok-add-in-Ok
returns-in_ok-add-in-Ok g c =
    let below : nat_lt (free_index c.args.connections.now.numbered.items) MOST_CONNECTIONS ≡ true = grind (arith, nat_tests, c.free_index-index.ensures, c.if-index-ge-MOST_CONNECTIONS.false) in
    rw (below, c.carrying.ensures, c.free_index-index.ensures) (c.in-Ok.connection, refl, c.in_ok-add-in-Ok.ensures)
