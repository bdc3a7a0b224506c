use Rattle.std.proofs.Common.{◌≡◌, ◌∙◌, rules}
use Rattle.std.specs.Ordering.{is_lt}
use Rattle.xa_xid.specs.Triple.{xid_cmp}
use Rattle.xa_recovery.proofs.Tests.{is_last_name}
use Rattle.xa_recovery.proofs.rebuilding.Rebuilding.is_last_decided.Goals as goal

pub returns-in-Some : goal.returns-in-Some
returns-in-Some c = λ x st.
    let less : c.lt.result ≡ is_lt (xid_cmp c.in-Some.last.now c.args.xid.now) = search rules in
    less ∙ is_last_name c.args.self.now.decided c.in-Some.last.now c.args.xid.now c.in-Some.field-0-1.now x.durable.decided st.decided c.in-Some.ensures.value c.in-Some.ensures.greatest
