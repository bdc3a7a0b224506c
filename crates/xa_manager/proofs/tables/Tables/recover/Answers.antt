use Rattle.std.proofs.Common.{◌≡◌, Option, refl, ap, subst, rules}
use Rattle.xa_xid.specs.Triple.{Triple}
use Rattle.std.specs.Prelude.{option_copied}
use Rattle.xa_model.specs.Durable.{durable}
use Rattle.xa_model.specs.Listed.{list_after}
use Rattle.xa_model.specs.Recovering.{recovered_from}
use Rattle.xa_manager.specs.View.{view_of}
use Rattle.xa_manager.proofs.Listing.{recover_follows}
use Rattle.xa_manager.proofs.tables.Tables.recover.Goals as goal

pub returns-clause-ok : goal.returns-clause-ok
returns-clause-ok c =
    let m = view_of c.args.self.now in
    let m' = view_of (record c.args.self.now { sessions = c.move_scan.new.self }) in
    let copied : option_copied c.as_ref.result ≡ c.in-Ok.cursor = search rules in
    recover_follows m m' c.args.session c.args.flags c.args.count c.in-Ok.cursor c.in_ok-xids.xids.items c.listing.result c.requires (λ s st. ap (recovered_from s c.args.session c.args.flags c.args.count) (c.in-Ok.ensures.cursor s st))
    (λ s st. subst (λ (o : Option Triple). c.in_ok-xids.xids.items ≡ list_after o c.args.count (durable s)) copied (c.in_ok-xids.ensures.listed s st.recoverable.sound st.branches)) c.listing.ensures.value
    (record { name = refl; log_bytes = refl; branches = refl; records = refl; sessions = rw c.as_slice.ensures.value at c.move_scan.ensures.after }) c.listing.ensures.served
