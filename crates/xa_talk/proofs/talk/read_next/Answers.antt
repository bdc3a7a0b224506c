use Rattle.std.specs.Io.KnownBytes.{IsAtEnd}
use Rattle.xa_talk.proofs.Reading.{keeps_end}
use Rattle.xa_talk.proofs.talk.read_next.Goals as goal

pub returns-in-Ok-eq0 : goal.returns-in-Ok-eq0
returns-in-Ok-eq0 g c =
    let ended : IsAtEnd (g.I.Read.remaining c.args.input.now) = c.in-Ok-eq0.ensures.end c.in-Ok-eq0.field-0-test in
    (ended, keeps_end (g.I.Read.remaining c.args.input.now) (g.I.Read.remaining c.read_until.new.self) ended c.in-Ok-eq0.ensures.rest)
