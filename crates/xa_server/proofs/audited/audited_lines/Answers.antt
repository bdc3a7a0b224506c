use Rattle.std.proofs.Common.{◌≡◌, ◌==◌, false, rules}
use Rattle.std.proofs.lemmas.Bool.{ne_eqb}
use Rattle.xa_server.proofs.audited.audited_lines.Goals as goal

pub returns-then-dropped-eq0 : goal.returns-then-dropped-eq0
returns-then-dropped-eq0 c =
    rw (c.if-dropped-eq0.true, ← c.found_word-found.ensures) (search (rules, c.format.ensures.ok))

pub returns-else-dropped-eq0 : goal.returns-else-dropped-eq0
returns-else-dropped-eq0 c =
    let some : (c.args.told.dropped == 0) ≡ false = ne_eqb c.args.told.dropped 0 c.if-dropped-eq0.false in
    rw (some, ← c.found_word-found.ensures) (search (rules, c.format-else-dropped-eq0.ensures.ok))
