use Rattle.std.proofs.Common.{◌≡◌, List, refl, ap, sym, ◌∙◌}
use Rattle.std.specs.Prelude.{option_copied}
use Rattle.xa_frame.specs.declared.body.Body.TheVariants as body
use Rattle.xa_frame.specs.declared.known_branch.KnownBranch.{KnownBranch}
use Rattle.xa_frame.specs.declared.reply.Reply.{Reply}
use Rattle.xa_model.specs.Answer.{carrying}
use Rattle.xa_model.specs.State.{State}
use Rattle.xa_model.specs.KnownBranches.{branches_by}
use Rattle.xa_assoc.specs.Refusals.{is_memory}
use Rattle.xa_manager.specs.View.{view_of}
use Rattle.xa_manager.proofs.Rows.{follows_by}
use Rattle.xa_manager.proofs.tables.Tables.known_branches.Goals as goal

pub returns-clause-ok : goal.returns-clause-ok
returns-clause-ok c =
    let m = view_of c.args.self.now in
    let act = λ (s : State). branches_by s c.args.count (option_copied c.args.after) in
    let is : c.carrying.result ≡ carrying (body.Branches c.in_ok-known.known.items) = c.carrying.ensures ∙ ap (λ (known : List KnownBranch). carrying (body.Branches known)) c.new.ensures in
    follows_by m m act c.carrying.result (ap (λ (r : Reply). is_memory r.detail) is)
    (λ s st. (act s, refl, ap (λ (known : List KnownBranch). carrying (body.Branches known)) (sym (c.in_ok-known.ensures.known s st.recoverable.sound st.branches)) ∙ sym is, λ recoverable. st))
