-- What is known of two disks that no manager was opened on.
use Rattle.std.proofs.Common.{ℕ, ◌≡◌, ◌∙◌, List, subst, sym}
use Rattle.xa_disk.specs.declared.disk.Disk as disk
use Rattle.xa_log.specs.Finding.{damage_of}
use Rattle.xa_log.specs.Believed.Unfit.{unfit_of}
use Rattle.xa_manager.specs.Believed.Opening.{OpenRefused}
use Rattle.xa_server.specs.Believed.Served.{Refuses}
use Rattle.xa_server.specs.declared.serve_fault.ServeFault.{ServeFault}
use Rattle.xa_server.specs.declared.serve_fault.ServeFault.TheVariants as fault

-- the same is known of disks that held what these hold
pub refuses_before : {D : Type 0} (disks : disk.Ghosts D) (path name : List ℕ) (log_bytes : ℕ) (first first' second second' : D)
    (why : ServeFault)
    → (disks.honest → disks.seen first' ≡ disks.seen first) → (disks.honest → disks.seen second' ≡ disks.seen second)
    → Refuses disks path name log_bytes first' second' why → Refuses disks path name log_bytes first second why
refuses_before disks path name log_bytes first first' second second' fault.Memory same same_second h = tt
refuses_before disks path name log_bytes first first' second second' fault.Write same same_second h = absurd h
refuses_before disks path name log_bytes first first' second second' fault.Listen same same_second h = absurd h
refuses_before disks path name log_bytes first first' second second' fault.Start same same_second h = absurd h
refuses_before disks path name log_bytes first first' second second' fault.Wait same same_second h = absurd h
refuses_before disks path name log_bytes first first' second second' fault.Random same same_second h = absurd h
refuses_before disks path name log_bytes first first' second second' (fault.Users users_path cause) same same_second h = absurd h
refuses_before disks path name log_bytes first first' second second' (fault.Open address) same same_second h = absurd h
refuses_before disks path name log_bytes first first' second second' (fault.Group group) same same_second h = absurd h
refuses_before disks path name log_bytes first first' second second' fault.InUse same same_second h = absurd h
refuses_before disks path name log_bytes first first' second second' (fault.History file cause) same same_second h = absurd h
refuses_before disks path name log_bytes first first' second second' (fault.Absent file) same same_second h = absurd h
refuses_before disks path name log_bytes first first' second second' (fault.File file cause) same same_second h = absurd h
refuses_before disks path name log_bytes first first' second second' (fault.Missing file) same same_second h =
    (h.0, λ honest. (λ i. unfit_of log_bytes (sym (same honest) i) (sym (same_second honest) i)) ∙ h.1 honest)
refuses_before disks path name log_bytes first first' second second' (fault.Stray file) same same_second h =
    (h.0, λ honest. (λ i. unfit_of log_bytes (sym (same honest) i) (sym (same_second honest) i)) ∙ h.1 honest)
refuses_before disks path name log_bytes first first' second second' (fault.Damaged file number at) same same_second h =
    (h.0, λ honest. (λ i. damage_of (sym (same honest) i) (sym (same_second honest) i)) ∙ h.1 honest)
refuses_before disks path name log_bytes first first' second second' (fault.Manager e) same same_second h =
    λ honest. subst (λ a. OpenRefused e name log_bytes a (disks.seen second)) (same honest)
    (subst (λ b. OpenRefused e name log_bytes (disks.seen first') b) (same_second honest) (h honest))
