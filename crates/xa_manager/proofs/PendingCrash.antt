-- What a crash leaves while a group is pending.
use Rattle.std.proofs.Common.{◌≡◌, ℕ, List, [], ◌∷◌, map, length, refl, ap, sym, ◌∙◌, subst, arith}
use Rattle.xa_disk.specs.Time.{LeavesOnly}
use Rattle.xa_disk.specs.declared.disk.Disk.{Ghosts}
use Rattle.xa_log.specs.Believed.Stands.{Leaves, Stands}
use Rattle.xa_log.specs.Believed.LogView.{LogView}
use Rattle.xa_record.specs.Spelling.{spelled}
use Rattle.xa_model.specs.declared.outcome.Appending.TheVariants.{Lost}
use Rattle.xa_model.specs.History.{Leads}
use Rattle.xa_model.specs.Laws.Together.{MayStandTogether, records_of}
use Rattle.xa_model.specs.State.{State}
use Rattle.xa_manager.specs.declared.manager.Manager.{Manager}
use Rattle.xa_manager.specs.declared.pending.PendingGroup.{PendingGroup}
use Rattle.xa_manager.specs.declared.together.Joining.{Joining}
use Rattle.xa_manager.specs.Believed.Crash.{LeavesAppend}
use Rattle.xa_manager.specs.GroupAnswers.{group_after}
use Rattle.xa_manager.specs.Believed.Parts.{with_log}
use Rattle.xa_manager.specs.Believed.Pending.{IsGroupOf, IsPendingFrom, LeavesPending, lost_group, pending_members}
use Rattle.xa_manager.specs.Believed.Together.{Member, member_of, members_of, part_of, parts_of}
use Rattle.xa_manager.proofs.GroupStepping.{crash_together, leads_to}
use Rattle.xa_manager.proofs.Taking.{tables_up}

module _ {D : Type 0} (disks : Ghosts D) where
  -- what the write leaves, of the records that the calls append
  leaves_by : (log mid : LogView D) (group bodies : List (List ℕ)) → group ≡ bodies
      → (disks.honest → (stand : List (List ℕ)) → Stands disks stand log → LeavesOnly disks log.disk mid.disk (Leaves log.log_bytes log.format stand bodies))
      → disks.honest → (stand : List (List ℕ)) → Stands disks stand log → LeavesOnly disks log.disk mid.disk (Leaves log.log_bytes log.format stand group)
  leaves_by log mid group bodies is leaves honest stand stands =
      subst (λ (l : List (List ℕ)). LeavesOnly disks log.disk mid.disk (Leaves log.log_bytes log.format stand l)) (sym is) (leaves honest stand stands)

  leaves_some : (log : LogView D) (m : Manager D) (f : PendingGroup) (s : State) (c : Member) (cs : List Member) → pending_members f ≡ c ∷ cs → IsPendingFrom disks log m f s → LeavesPending disks log m f s
  leaves_some log m f s c cs is fl = λ trusts.
      let stood = tables_up disks (with_log log m) s fl.up fl.stands in
      let may : MayStandTogether s (part_of s c ∷ parts_of s cs) = subst (λ (l : List Member). MayStandTogether s (parts_of s l)) is fl.at.may in
      let leaves = leaves_by log m.log (map spelled (records_of (parts_of s (c ∷ cs)))) _
      (ap (λ (l : List Member). map spelled (records_of (parts_of s l))) (sym is) ∙ fl.bodies) fl.written.leaves in (
        group_after Lost s (parts_of s (c ∷ cs)),
        subst (λ (l : List Member). Leads s (lost_group s l) (group_after Lost s (parts_of s (c ∷ cs)))) (sym is) (leads_to Lost s (part_of s c) (parts_of s cs) stood.recoverable stood.up may),
        crash_together disks (with_log log m) m.log s (part_of s c) (parts_of s cs) fl.stands stood.up trusts may leaves,
      )

  pub leaves_pending : (log : LogView D) (m : Manager D) (f : PendingGroup) (s : State) → IsGroupOf m f → IsPendingFrom disks log m f s → LeavesPending disks log m f s
  leaves_pending log m f s is fl = by f.together.members.items refl
    where
      by : (js : List Joining) → f.together.members.items ≡ js → LeavesPending disks log m f s
      by [] e = let none : length f.together.members.items ≡ 0 = ap (λ (l : List Joining). length l) e in absurd (omega (arith, none, is.some))
      by (j ∷ js) e = leaves_some log m f s (member_of f.calls.items j) (members_of f.calls.items js) (ap (λ (l : List Joining). members_of f.calls.items l) e) fl

  -- with the manager's log as it was
  pub leaves_still : (log : LogView D) (m m' : Manager D) (f : PendingGroup) (s : State) → m'.log ≡ m.log → LeavesPending disks log m f s → LeavesPending disks log m' f s
  leaves_still log m m' f s same leaves = λ trusts.
      let x = leaves trusts in (x.0, x.1, subst (λ (l : LogView D). LeavesAppend disks log l s x.0) (sym same) x.2)
