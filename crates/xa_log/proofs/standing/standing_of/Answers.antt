use Rattle.std.proofs.Common.{◌≡◌, List, ℕ, arith, length, min}
use Rattle.std.proofs.lemmas.List.{length-take}
use Rattle.xa_log.proofs.Standings.{first_bytes}
use Rattle.xa_log.proofs.standing.standing_of.Goals as goal

pub returns-clause-value : goal.returns-clause-value
returns-clause-value g c h len =
    let file : List ℕ = g.D.Disk.seen c.args.disk.now in
    let reads = c.in_ok-read_at.ensures.value h in
    let long : length c.read_at.new.into ≡ min 12 (length file) = grind (arith, length-take) in
    c.standing_by.ensures file len (first_bytes file c.read_at.new.into 12 long reads.bytes_are)
