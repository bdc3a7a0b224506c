use Rattle.std.proofs.Common.{ap, sym, ◌∙◌, arith}
use Rattle.xa_xid.specs.Triple.{Triple}
use Rattle.xa_model.specs.Durable.{is_prepared, is_decided}
use Rattle.xa_branch.specs.declared.lasting.Lasting.TheVariants as lasts
use Rattle.xa_branch.proofs.Returning.{completed_more}
use Rattle.xa_branch.proofs.Setting.{set_same}
use Rattle.xa_branch.proofs.branches.Branches.restore_completed.Goals as goal

pub returns : goal.returns
returns c = λ boot moment ps ds d name direction a b h.
    let m = c.args.self.now in
    completed_more m _ _ boot moment ps ds d (ap (λ (x : Triple). is_prepared x ps) name ∙ a) (ap (λ (x : Triple). is_decided x ds) name ∙ b) h
    (set_same m.lasting _ c.args.xid d.xid (lasts.Completed c.args.direction) (lasts.Completed d.direction) (sym name) (ap lasts.Completed (sym direction)) c.in_ok-add.ensures.ok) (omega (arith, c.len.ensures.small, c.len.ensures.len)) c.saturating_add-self.ensures
