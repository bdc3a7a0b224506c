use Rattle.std.proofs.Common.{◌≡◌, ◌∙◌, List, Option, None, Some, ap, cond, not, subst, sym, ℕ}
use Rattle.std.specs.Prelude.{is_some}
use Rattle.xa_log.specs.Believed.Pair.{pair_fault}
use Rattle.xa_log.specs.declared.fault.OpenFault.TheVariants as fault
use Rattle.xa_log.proofs.Ended.{is_ended}
use Rattle.xa_log.specs.Contents.{IsContents}
use Rattle.xa_log.specs.Ending.{end_byte, ended, left_out}
use Rattle.xa_log.specs.declared.ending.LeftOut.{LeftOut}
use Rattle.xa_log.specs.declared.finding.Damage.{Damage}
use Rattle.xa_log.proofs.ending.end_damage.Goals as goal

pub returns-in_default-clause-ended : goal.returns-in_default-clause-ended
returns-in_default-clause-ended g c h = (
  sym (c.in_ok-damage.ensures.value h) ∙ c.in_default.is,
  c.in_ok-damage.ensures.same h,
  c.in_ok-damage.ensures.same_second h,
)

pub returns-clause-ended : goal.returns-clause-ended
returns-clause-ended g c h =
    let disk = g.D.Disk in
    let first = c.in_ok-damage.ensures.same h in
    let second = c.in_ok-damage.ensures.same_second h in
    let left = c.left_out-left.result in
    let is : left.damage ≡ c.in-Some.damage = ap (λ (l : LeftOut). l.damage) c.left_out-left.ensures in (
      sym (c.in_ok-damage.ensures.value h) ∙ (c.in-Some.is ∙ ap Some (sym is)),
      (
        c.in_ok-contents.contents,
        c.in_ok-other.other,
        subst (λ (file : List ℕ). IsContents c.args.log_bytes file c.in_ok-contents.contents) first (c.in_ok-contents.ensures.value h),
        subst (λ (file : List ℕ). IsContents c.args.log_bytes file c.in_ok-other.other) second (c.in_ok-other.ensures.value h),
        c.left_out-left.ensures ∙ ap (λ (d : Damage). left_out d c.in_ok-contents.contents c.in_ok-other.other) (sym is),
      ),
      c.in_ok-end_either.ensures.first h ∙ ap (λ (file : List ℕ). ended left.damage.on_first (end_byte left) file) (c.in_ok-contents.ensures.same h ∙ first),
      c.in_ok-end_either.ensures.second h ∙ ap (λ (file : List ℕ). ended (not left.damage.on_first) (end_byte left) file) (c.in_ok-other.ensures.same h ∙ second),
    )

pub returns-clause-whole : goal.returns-clause-whole
returns-clause-whole g c h =
    let disk = g.D.Disk in
    let damaged : pair_fault c.args.log_bytes (disk.seen c.args.first.now) (disk.seen c.args.second.now) ≡ Some fault.Damaged =
    c.in_ok-damage.ensures.fault h ∙ ap (λ (o : Option Damage). cond (is_some o) (Some fault.Damaged) None) c.in-Some.is in
    is_ended c.args.log_bytes _ _ _ _ c.left_out-left.result damaged (returns-clause-ended g c h)
