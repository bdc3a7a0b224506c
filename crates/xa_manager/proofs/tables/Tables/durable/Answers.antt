use Rattle.std.proofs.Common.{ap, map, sym, ◌∙◌}
use Rattle.mv_rules.specs.Committed.{branches_in}
use Rattle.mv_rules.specs.Ties.{history_of}
use Rattle.mv_rules.proofs.Lasting.{committed_lasts}
use Rattle.xa_model.specs.Durable.{durable}
use Rattle.xa_recovery.specs.Durable.{as_decided}
use Rattle.xa_manager.proofs.WhatLasts.{same_parts, same_decisions}
use Rattle.xa_manager.proofs.tables.Tables.durable.Goals as goal

pub returns : goal.returns
returns c = λ s st logged.
    let sound = st.recoverable.sound in
    same_parts c.new.result (durable s) (c.new.ensures.boot ∙ sym logged)
    (c.new.ensures.committed ∙ (c.in_ok-committed-2.ensures ∙ committed_lasts s (branches_in c.in_ok-committed.field-0.entries) sound (c.in_ok-committed.ensures (history_of s) st.records)))
    (c.new.ensures.prepared ∙ c.in_ok-prepared.ensures s st)
    (c.new.ensures.decided ∙ (ap (map as_decided) (c.in_ok-decided.ensures s sound st.branches) ∙ same_decisions (durable s).decided))
