use Rattle.std.proofs.Common.{ℕ, true, ap, sym, ◌∙◌, subst, arith}
use Rattle.xa_xid.specs.Triple.{Triple}
use Rattle.xa_model.specs.Durable.{is_prepared, is_decided}
use Rattle.xa_branch.specs.declared.lasting.Lasting.TheVariants as lasts
use Rattle.xa_branch.specs.Changes.{SetsTime}
use Rattle.xa_branch.proofs.Returning.{prepared_more}
use Rattle.xa_branch.proofs.Setting.{set_same}
use Rattle.xa_branch.proofs.branches.Branches.restore_prepared.Goals as goal

pub returns : goal.returns
returns c = λ boot moment ps ds p name timestamp a b h.
    let m = c.args.self.now in
    prepared_more m _ _ _ boot moment ps ds p (ap (λ (x : Triple). is_prepared x ps) name ∙ a) (ap (λ (x : Triple). is_decided x ds) name ∙ b) h
    (set_same m.lasting _ c.args.xid p.xid (lasts.Prepared c.args.timestamp) (lasts.Prepared p.timestamp) (sym name) (ap lasts.Prepared (sym timestamp)) c.in_ok-add.ensures.ok) (omega (arith, c.len.ensures.small, c.len.ensures.len)) c.saturating_add-self.ensures
    (subst (λ (t : ℕ). SetsTime m.times t true c.add_time.new.times) (sym timestamp) c.in_ok-add_time.ensures.ok)
