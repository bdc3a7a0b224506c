use Rattle.std.proofs.Common.{◌≡◌, ◌+◌, ◌<◌, ◌≤◌, ℕ, List, length, None, refl, ap, sym, ◌∙◌, subst, arith}
use Rattle.std.specs.List.{AllByRecursion}
use Rattle.xa_codes.specs.declared.codes.TheConstants.{XAER_RMERR}
use Rattle.xa_codes.specs.declared.detail.Detail.TheVariants as detail
use Rattle.xa_frame.specs.declared.reply.Reply.{Reply}
use Rattle.xa_log.specs.Believed.Chain.{IsBody, newest}
use Rattle.xa_log.specs.Believed.Pair.{generation}
use Rattle.xa_model.specs.Answer.{detailed}
use Rattle.xa_model.specs.State.{State}
use Rattle.xa_model.specs.Trimming.{trim_refusal}
use Rattle.xa_model.specs.declared.outcome.Outcome.TheVariants.{Quiet}
use Rattle.xa_manager.specs.Managed.{ManagerStandsFor}
use Rattle.xa_manager.specs.Believed.LogStands.{snapshot_bodies}
use Rattle.xa_manager.specs.Turns.{HasTrimmed}
use Rattle.xa_manager.specs.declared.done.Done.{Done}
use Rattle.xa_manager.proofs.Reserved.{reserved_stands}
use Rattle.xa_manager.proofs.Trims.{trim_up, trim_recoverable, trim_tables, records_here, refused_trim, snapshot_taken, limit_refusal, full_refusal, no_refusal}
use Rattle.xa_manager.proofs.manager.Manager.trim.Goals as goal
use Rattle.xa_manager.proofs.manager.Manager.trim.Goals.{then-not-can_begin_with-via-then-not-can_begin_with, then-not-can_begin_with-via-else-not-can_begin_with+then-not-has_room_for}

pub returns-then-boot-ge-MOST_TRIM_BOOTS-clause-ok : goal.returns-then-boot-ge-MOST_TRIM_BOOTS-clause-ok
returns-then-boot-ge-MOST_TRIM_BOOTS-clause-ok g c =
    let m = c.args.self.now in
    subst (λ (d : Done). HasTrimmed g.D.Disk m d.reply d.outcome m) (sym (c.now.ensures ∙ ap (λ (r : Reply). record { reply = r; outcome = Quiet }) c.detailed.ensures))
    (refused_trim g.D.Disk m (detailed XAER_RMERR detail.Limit) c.requires.up refl
    (λ s st.
    let logged = (trim_recoverable g.D.Disk m s st c.requires.up).current (trim_up g.D.Disk m s st c.requires.up) in
    let boot = c.boot-boot.ensures.state s (trim_tables g.D.Disk m s st c.requires.up).branches in
    limit_refusal s (omega (arith, logged, boot, c.if-boot-ge-MOST_TRIM_BOOTS.true))))

pub returns-then-not-can_begin_with-clause-ok : goal.returns-then-not-can_begin_with-clause-ok
returns-then-not-can_begin_with-clause-ok g c =
    let m = c.args.self.now in
    subst (λ (d : Done). HasTrimmed g.D.Disk m d.reply d.outcome m)
    (sym (c.now-then-not-can_begin_with.ensures ∙ ap (λ (r : Reply). record { reply = r; outcome = Quiet }) c.detailed-then-not-can_begin_with.ensures))
    (refused_trim g.D.Disk m (detailed XAER_RMERR detail.LogFull) c.requires.up refl
    (λ s st.
    let up = trim_tables g.D.Disk m s st c.requires.up in
    let logged = (trim_recoverable g.D.Disk m s st c.requires.up).current (trim_up g.D.Disk m s st c.requires.up) in
    let boot = c.boot-boot.ensures.state s up.branches in
    let taken = snapshot_taken m.log s (st.backed c.requires.up) (omega (arith, logged, boot, c.if-boot-ge-MOST_TRIM_BOOTS.false)) in
    let same = c.deref.ensures.value ∙ c.in_ok-bodies.ensures s up (logged ∙ sym boot) ∙ ap (λ (n : ℕ). snapshot_bodies s (n + 1)) (boot ∙ sym logged) in
    elim c.then-not-can_begin_with.branch [
      | then-not-can_begin_with-via-then-not-can_begin_with w ↦
          let some : 1 ≤ length c.deref.result.now = omega (arith, taken.some, ap length same) in
          let sizes = subst (λ (b : List (List ℕ)). AllByRecursion (IsBody newest) b) (sym same) taken.sizes in
          let above = subst (λ (b : List (List ℕ)). m.log.generation < generation b) (sym same) taken.above in
          absurd (cc (c.can_begin_with.ensures.other some sizes above, w.if-not-can_begin_with.true))
      | then-not-can_begin_with-via-else-not-can_begin_with+then-not-has_room_for w ↦
          let here = w.deref-else-not-can_begin_with.ensures.value ∙ sym c.deref.ensures.value ∙ same in
          full_refusal s (omega (arith, logged, boot, c.if-boot-ge-MOST_TRIM_BOOTS.false)) (sym (w.has_room_for.ensures s st c.requires.up here) ∙ w.if-not-has_room_for.true)
    ]))

pub returns-clause-ok : goal.returns-clause-ok
returns-clause-ok g c =
    let m = c.args.self.now in
    let mid = record m { log = c.reserve_for.new.log } in
    let r = c.in_ok-reserve_for.ensures.ok in
    record {
      turn = λ s st.
          let it = facts s st in
          c.log_trim.ensures.turn s (reserved_stands g.D.Disk m mid s r refl st) it.0 it.1 it.2;
      leaves = λ s st trusts.
          let it = facts s st in
          let here = records_here g.D.Disk m s st c.requires.up trusts in
          c.log_trim.ensures.leaves m.log s here.0.records r (reserved_stands g.D.Disk m mid s r refl st) trusts here.0.backs here.1 it.0 it.2;
      called = λ s st. c.log_trim.ensures.called m.log s r (reserved_stands g.D.Disk m mid s r refl st) (facts s st).2;
      served = c.log_trim.ensures.served;
    }
  where
    facts : (s : State) → ManagerStandsFor g.D.Disk c.args.self.now s
        → (trim_refusal s ≡ None)
        × (c.boot-boot.result + 1 ≡ s.logged_boot + 1) × (c.deref-3.result.now ≡ snapshot_bodies s (s.logged_boot + 1))
    facts s st =
        let m = c.args.self.now in
        let up = trim_tables g.D.Disk m s st c.requires.up in
        let logged = (trim_recoverable g.D.Disk m s st c.requires.up).current (trim_up g.D.Disk m s st c.requires.up) in
        let boot = c.boot-boot.ensures.state s up.branches in
        let same = c.in_ok-bodies.ensures s up (logged ∙ sym boot) ∙ ap (λ (n : ℕ). snapshot_bodies s (n + 1)) (boot ∙ sym logged) in
        let room = c.has_room_for.ensures s st c.requires.up (c.deref-else-not-can_begin_with.ensures.value ∙ same) in (
          no_refusal s (omega (arith, logged, boot, c.if-boot-ge-MOST_TRIM_BOOTS.false)) (sym room ∙ c.if-not-has_room_for.false),
          ap (λ (n : ℕ). n + 1) (boot ∙ sym logged),
          c.deref-3.ensures.value ∙ same,
        )
