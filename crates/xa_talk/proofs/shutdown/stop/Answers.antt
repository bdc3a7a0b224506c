use Rattle.std.proofs.Common.{◌≡◌, Ok, Err, Some, None, ap, sym}
use Rattle.xa_talk.specs.Shutdowns.{shutdown_end}
use Rattle.xa_talk.proofs.shutdown.stop.Goals as goal

pub returns-in-Ok-None : goal.returns-in-Ok-None
returns-in-Ok-None g c =
    let is : c.ask_end.result ≡ Ok None = cc in
    (c.ask_end.result, sym (ap shutdown_end is), c.ask_end.ensures)

pub returns-in-Ok-Some : goal.returns-in-Ok-Some
returns-in-Ok-Some g c =
    let is : c.ask_end.result ≡ Ok (Some c.in-Ok-Some.field-0-0) = cc in
    (c.ask_end.result, sym (ap shutdown_end is), c.ask_end.ensures)

pub returns : goal.returns
returns g c =
    let is : c.ask_end.result ≡ Err c.in-Err.fault = cc in
    (c.ask_end.result, sym (ap shutdown_end is), c.ask_end.ensures)
