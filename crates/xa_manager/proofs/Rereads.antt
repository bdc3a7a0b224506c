-- What a restart comes to that begins no boot.
use Rattle.std.proofs.Common.{◌≡◌, ◌≢◌, ◌⊎◌, inl, inr, ℕ, false, List, None, Err, refl, ap, sym, ◌∙◌, subst, arith}
use Rattle.xa_disk.specs.declared.disk.Disk.{Ghosts}
use Rattle.xa_codes.specs.declared.codes.TheConstants.{XAER_RMFAIL}
use Rattle.xa_codes.specs.declared.detail.Detail.TheVariants as detail
use Rattle.xa_frame.specs.declared.reply.Reply.{Reply}
use Rattle.xa_frame.specs.declared.request.Request.TheVariants.{Restart}
use Rattle.xa_log.specs.Answers.{CountsFailureOfOne, HasRisen}
use Rattle.xa_log.specs.declared.fault.OpenFault.TheVariants.{Device}
use Rattle.xa_log.specs.Believed.TwoFiles.{first_of, second_of}
use Rattle.xa_model.specs.declared.outcome.Outcome.{Outcome}
use Rattle.xa_model.specs.declared.outcome.Outcome.TheVariants.{Failed, Reread}
use Rattle.xa_model.specs.Answer.{answer, detailed}
use Rattle.xa_model.specs.Durable.{durable}
use Rattle.xa_model.specs.Logging.{down}
use Rattle.xa_model.specs.Restarting.{restart_turn}
use Rattle.xa_model.specs.State.{State}
use Rattle.xa_model.specs.Turn.{taken}
use Rattle.xa_assoc.specs.Refusals.{is_memory}
use Rattle.xa_recovery.specs.Log.{LogRebuilt}
use Rattle.xa_recovery.specs.declared.log_fault.LogFault.{LogFault}
use Rattle.xa_recovery.specs.declared.log_fault.LogFault.TheVariants.{Memory}
use Rattle.xa_manager.specs.declared.manager.Manager.{Manager}
use Rattle.xa_manager.specs.Believed.Answered.{HasCalled, NoneRises, OneRises, StaysFor}
use Rattle.xa_manager.specs.Believed.Crash.{LeavesLook}
use Rattle.xa_manager.specs.Believed.LogStands.{Trusts}
use Rattle.xa_manager.specs.Managed.{ManagerStandsFor}
use Rattle.xa_manager.specs.Rereading.{Found}
use Rattle.xa_manager.specs.Turns.{HasRestarted, HasWanted}
use Rattle.xa_manager.proofs.CrashBoots.{failed_leaves}
use Rattle.xa_manager.proofs.Fates.{is_answer}
use Rattle.xa_manager.proofs.Generations.{never_refused}
use Rattle.xa_manager.proofs.Standing.{failed_stands}

-- The log isn't one that a manager wrote, or not the one that it was: under the premises this never comes.
pub unread_restarts : {D : Type 0} (disks : Ghosts D) (m mid m' : Manager D) (reply : Reply) (o : Outcome)
    → o ≡ Reread 0 None → reply ≡ detailed XAER_RMFAIL detail.Nothing → m' ≡ record mid { up = false }
    → NoneRises disks.failures m.log mid.log → ((s : State) → ManagerStandsFor disks m s → Trusts disks → ⊥)
    → HasRestarted disks m reply o m'
unread_restarts {D} disks m mid m' reply o told replied is quiet never = record {
  turn = λ s st trusts. absurd (never s st trusts);
  leaves = λ s st trusts. absurd (never s st trusts);
  called = subst (λ (x : Outcome). HasCalled disks x m.log m'.log) (sym told)
      (subst (λ (x : Manager D). NoneRises disks.failures m.log x.log) (sym is) quiet);
  served = ap (λ (r : Reply). is_memory r.detail) replied;
}

-- the same, once nothing more was made ready
pub unread_ready : {D : Type 0} (disks : Ghosts D) (m mid ready m' : Manager D) (reply : Reply) (o : Outcome) (bodies : List (List ℕ)) (fault : LogFault)
    → o ≡ Reread 0 None → reply ≡ detailed XAER_RMFAIL detail.Nothing → m' ≡ record ready { up = false } → ready ≡ mid → NoneRises disks.failures m.log mid.log
    → (Trusts disks → (s : State) → ManagerStandsFor disks m s → Found disks bodies mid.log s) → LogRebuilt bodies (Err fault) → fault ≢ Memory → HasRestarted disks m reply o m'
unread_ready {D} disks m mid ready m' reply o bodies fault told replied is same quiet found rebuilt other =
    unread_restarts disks m mid m' reply o told replied (is ∙ ap (λ (x : Manager D). record x { up = false }) same) quiet
    (λ s st trusts. let f = found trusts s st in other (never_refused bodies f.records (durable f.state) fault rebuilt f.spelled_as f.backs.records f.backs.lasts))

one_risen : (a b c d : ℕ) → CountsFailureOfOne Device a b c d → (HasRisen a b × (d ≡ c)) ⊎ ((b ≡ a) × HasRisen c d)
one_risen a b c d (inl h) = inl ((λ low. omega (arith, low, h.0)), h.1)
one_risen a b c d (inr h) = inr (h.0, (λ low. omega (arith, low, h.1)))

-- the device failed as the log was read
pub failed_restarts : {D : Type 0} (disks : Ghosts D) (m mid m' : Manager D) (reply : Reply) (o : Outcome)
    → o ≡ Failed → reply ≡ detailed XAER_RMFAIL detail.Device → m' ≡ record mid { up = false }
    → CountsFailureOfOne Device (disks.failures (first_of m.log)) (disks.failures (first_of mid.log)) (disks.failures (second_of m.log)) (disks.failures (second_of mid.log)) → StaysFor disks m mid
    → ((s : State) → ManagerStandsFor disks m s → Trusts disks → LeavesLook disks m.log mid.log s)
    → HasRestarted disks m reply o m'
failed_restarts {D} disks m mid m' reply o told replied is blames stays look = record {
  turn = λ s st trusts.
      is_answer _ (answer (detailed XAER_RMFAIL detail.Device) (down s)) _ (ap (λ (x : Outcome). taken (restart_turn s) x) told)
      (sym replied, failed_stands disks mid m' s is (stays s st));
  leaves = λ s st trusts.
      failed_leaves disks m.log m'.log s o told (subst (λ (x : Manager D). LeavesLook disks m.log x.log s) (sym is) (look s st trusts));
  called = subst (λ (x : Outcome). HasCalled disks x m.log m'.log) (sym told)
      (subst (λ (x : Manager D). OneRises disks.failures m.log x.log) (sym is) (one_risen _ _ _ _ blames));
  served = ap (λ (r : Reply). is_memory r.detail) replied;
}

-- memory was wanted, and the log was looked at before at the most
pub look_wanted : {D : Type 0} (disks : Ghosts D) (m mid : Manager D) → StaysFor disks m mid → NoneRises disks.failures m.log mid.log
    → ((s : State) → ManagerStandsFor disks m s → Trusts disks → LeavesLook disks m.log mid.log s) → HasWanted disks m Restart mid
look_wanted disks m mid stays quiet look = record {
  may = refl;
  stays = stays;
  quiet = quiet;
  untouched = λ other. absurd (cc other);
  leaves = λ restart s st trusts. look s st trusts;
}
