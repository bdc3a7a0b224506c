use Rattle.std.proofs.Common.{◌≡◌, ◌∙◌, ℕ, Option, Some, ap, sym, subst, arith}
use Rattle.xa_log.specs.Believed.Group.{group_bytes}
use Rattle.xa_log.specs.Reading.{bodies_of}
use Rattle.xa_manager.specs.declared.doubt.Doubt.{Doubt}
use Rattle.xa_manager.specs.declared.doubt.Doubt.TheVariants.{Record as LastRecord}
use Rattle.xa_manager.specs.Managed.{Doubts}
use Rattle.xa_manager.specs.Rereading.{IsCounted}
use Rattle.xa_manager.proofs.Survivors.{found_split}
use Rattle.xa_manager.proofs.manager.Manager.count_after.Goals as goal

pub returns-in-Some-Record : goal.returns-in-Some-Record
returns-in-Some-Record g c = λ s f doubts.
    let end : ℕ = c.in-Some-Record.end in
    let kind : c.in-Some-Record.field-0 ≡ LastRecord end = rw c.in-Some-Record.is at c.in-Some-Record.field-0-is in
    let is : c.args.self.now.doubt ≡ Some (LastRecord end) = c.in-Some-Record.is ∙ ap (λ (d : Doubt). Some d) kind in
    let d : Doubts (Some (LastRecord end)) s = subst (λ (o : Option Doubt). Doubts o s) is doubts in
    let split = found_split g.D.Disk (bodies_of c.args.bodies.now) c.args.self.now.log s f d.1 in
    let bytes : c.saturating_sub.result ≡ group_bytes split.later = omega (arith, c.saturating_sub.ensures, c.end.ensures, d.2, split.bytes) in
    subst (λ (o : Option Doubt). IsCounted o c.count_last.result f.many) (sym is) (c.count_last.ensures split.earlier split.later split.both bytes ∙ split.many_is)
