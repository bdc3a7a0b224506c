use Rattle.std.proofs.Common.{◌≡◌, true, false, arith}
use Rattle.xa_model.specs.Fold.{fits, reading, unread}
use Rattle.xa_recovery.proofs.OneMore.{read_on, refused, was_read}
use Rattle.xa_recovery.proofs.rebuilding.Rebuilding.add.Goals as goal

pub returns-then-not-fits : goal.returns-then-not-fits
returns-then-not-fits c = λ rs h.
    let is = c.fits.ensures (reading unread rs) h.stands in
    let no : fits c.args.record (reading unread rs) ≡ false = grind (arith, is, c.if-not-fits.true) in
    refused c.args.self rs c.args.record h no

pub returns : goal.returns
returns c = λ rs h.
    let is = c.fits.ensures (reading unread rs) h.stands in
    let fit : fits c.args.record (reading unread rs) ≡ true = grind (arith, is, c.if-not-fits.false) in
    read_on c.args.self c.apply.new.self rs c.args.record h fit (c.in_ok-apply.ensures (reading unread rs) (was_read c.args.self rs h) h.stands fit)
