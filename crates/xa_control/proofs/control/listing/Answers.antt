use Rattle.xa_control.proofs.Spelled.{only_listing}
use Rattle.xa_control.proofs.control.listing.Goals as goal

pub returns-clause-only : goal.returns-clause-only
returns-clause-only c k h =
    let m = only_listing c.args.fields.now k h in
    cc (c.in_ok-xid_of.ensures.only m.0 m.2 m.3, m.1)
