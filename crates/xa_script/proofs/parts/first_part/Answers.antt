use Rattle.std.proofs.Common.{◌≡◌, ◌==◌, ◌+◌, ◌-◌, length, take, drop, sym, arith}
use Rattle.std.proofs.lemmas.Grind.{common_steps}
use Rattle.xa_script.proofs.Cuts.{cut_at, whole}
use Rattle.xa_script.proofs.parts.first_part.Goals as goal

pub returns-in-None : goal.returns-in-None
returns-in-None c = whole (λ b. b == c.args.separator) c.args.text.now (sym c.in-None.ensures)

pub returns-in-Some : goal.returns-in-Some
returns-in-Some c =
    let rest : take (length c.args.text.now - (c.in-Some.end + 1)) (drop (c.in-Some.end + 1) c.args.text.now) ≡ drop (c.in-Some.end + 1) c.args.text.now
    = grind (arith, common_steps) in
    rw rest (cut_at (λ b. b == c.args.separator) c.args.text.now c.in-Some.end (sym c.in-Some.ensures))
