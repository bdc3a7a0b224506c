-- What is known where a server failed.
use Rattle.std.proofs.Common.{ℕ, zero, suc, ◌≡◌, ◌<◌, ◌⊎◌, List, inl, inr, arith}
use Rattle.xa_disk.specs.declared.disk.Disk as disk
use Rattle.xa_disk.specs.declared.file_fault.FileFault.{FileFault}
use Rattle.xa_server.specs.declared.listens.Listens as listens
use Rattle.xa_server.specs.declared.fault.ServerFault.{ServerFault}
use Rattle.xa_server.specs.declared.fault.ServerFault.TheVariants as serving
use Rattle.xa_server.specs.Faults.{serving_fault}
use Rattle.xa_server.specs.Histories.{IsEndFault, IsHistoryFault}
use Rattle.xa_server.specs.Believed.Served.{AreFiles, AreLoops, HasFailedBy, IsEarlyFault, NoLoops, Place, Refuses, WasReady, never}
use Rattle.xa_server.specs.declared.serve_fault.ServeFault.{ServeFault}
use Rattle.xa_server.specs.declared.serve_fault.ServeFault.TheVariants as fault
use Rattle.xa_service.specs.declared.service.TheConstants.{MOST_LOOPS}

-- it failed on the files at a path
pub failed_on_files : {D R : Type 0} (disks : disk.Ghosts D) (opened : D → List ℕ → Type 0)
    (refused : List ℕ → FileFault → Type 0) (net : listens.Ghosts R) (log_bytes : ℕ) (place : Place)
    (late : ServeFault → Type 0) (first second : D) (why : ServeFault)
    → AreFiles opened place.path first second → Refuses disks place.path place.name log_bytes first second why
    → HasFailedBy disks opened refused net log_bytes place late why
failed_on_files disks opened refused net log_bytes place late first second fault.Memory files h = tt
failed_on_files disks opened refused net log_bytes place late first second fault.Write files h = absurd h
failed_on_files disks opened refused net log_bytes place late first second fault.Listen files h = absurd h
failed_on_files disks opened refused net log_bytes place late first second fault.Start files h = absurd h
failed_on_files disks opened refused net log_bytes place late first second fault.Wait files h = absurd h
failed_on_files disks opened refused net log_bytes place late first second fault.Random files h = absurd h
failed_on_files disks opened refused net log_bytes place late first second (fault.Users users_path cause) files h = absurd h
failed_on_files disks opened refused net log_bytes place late first second (fault.Open address) files h = absurd h
failed_on_files disks opened refused net log_bytes place late first second (fault.Group group) files h = absurd h
failed_on_files disks opened refused net log_bytes place late first second fault.InUse files h = absurd h
failed_on_files disks opened refused net log_bytes place late first second (fault.History history_file cause) files h = absurd h
failed_on_files disks opened refused net log_bytes place late first second (fault.Absent log_file) files h = absurd h
failed_on_files disks opened refused net log_bytes place late first second (fault.File log_file cause) files h = absurd h
failed_on_files disks opened refused net log_bytes place late first second (fault.Missing log_file) files h =
    (first, second, files, h)
failed_on_files disks opened refused net log_bytes place late first second (fault.Stray log_file) files h =
    (first, second, files, h)
failed_on_files disks opened refused net log_bytes place late first second (fault.Damaged log_file number at) files h =
    (first, second, files, h)
failed_on_files disks opened refused net log_bytes place late first second (fault.Manager e) files h =
    (first, second, files, h)

-- it failed before it served, whatever may be said later
pub failed_early : {D R : Type 0} (disks : disk.Ghosts D) (opened : D → List ℕ → Type 0)
    (refused : List ℕ → FileFault → Type 0) (net : listens.Ghosts R) (log_bytes : ℕ) (place : Place)
    (late : ServeFault → Type 0) (why : ServeFault)
    → HasFailedBy disks opened refused net log_bytes place never why → HasFailedBy disks opened refused net log_bytes place late why
failed_early disks opened refused net log_bytes place late fault.Memory h = tt
failed_early disks opened refused net log_bytes place late fault.Write h = h
failed_early disks opened refused net log_bytes place late fault.Listen h = h
failed_early disks opened refused net log_bytes place late fault.Start h = absurd h.1
failed_early disks opened refused net log_bytes place late fault.Wait h = absurd h.1
failed_early disks opened refused net log_bytes place late fault.Random h = absurd h.1
failed_early disks opened refused net log_bytes place late (fault.Users users_path cause) h = tt
failed_early disks opened refused net log_bytes place late (fault.Open address) h = tt
failed_early disks opened refused net log_bytes place late (fault.Group group) h = tt
failed_early disks opened refused net log_bytes place late fault.InUse h = h
failed_early disks opened refused net log_bytes place late (fault.History history_file cause) h = h
failed_early disks opened refused net log_bytes place late (fault.Absent log_file) h = h
failed_early disks opened refused net log_bytes place late (fault.File log_file cause) h = h
failed_early disks opened refused net log_bytes place late (fault.Missing log_file) h = h
failed_early disks opened refused net log_bytes place late (fault.Stray log_file) h = h
failed_early disks opened refused net log_bytes place late (fault.Damaged log_file number at) h = h
failed_early disks opened refused net log_bytes place late (fault.Manager e) h = h

-- a number of loops that is none is more than there may be
too_many : (asked loops : ℕ) → AreLoops asked loops → (loops ≡ 0) ⊎ (MOST_LOOPS < loops) → MOST_LOOPS < asked
too_many zero loops are (inl none) = absurd (omega (arith, are.0, none))
too_many zero loops are (inr many) = absurd (omega (arith, are.1, many))
too_many (suc n) loops are (inl none) = absurd (omega (arith, are, none))
too_many (suc n) loops are (inr many) = omega (arith, are, many)

-- all was ready, and its sessions weren't served by loops
pub loops_failed : {D R : Type 0} (disks : disk.Ghosts D) (opened : D → List ℕ → Type 0)
    (refused : List ℕ → FileFault → Type 0) (net : listens.Ghosts R) (log_bytes : ℕ) (place : Place) (asked loops : ℕ)
    (why : ServerFault)
    → WasReady disks opened net log_bytes place → AreLoops asked loops
    → (why ≡ serving.Memory) ⊎ ((why ≡ serving.Wait) ⊎ ((why ≡ serving.Write) ⊎ ((why ≡ serving.Random) ⊎ (why ≡ serving.Loops loops))))
    → (why ≡ serving.Loops loops → (loops ≡ 0) ⊎ (MOST_LOOPS < loops))
    → HasFailedBy disks opened refused net log_bytes place (NoLoops asked) (serving_fault why)
loops_failed disks opened refused net log_bytes place asked loops why ready are (inl memory) none = rw memory tt
loops_failed disks opened refused net log_bytes place asked loops why ready are (inr (inl wait)) none = rw wait (ready, tt)
loops_failed disks opened refused net log_bytes place asked loops why ready are (inr (inr (inl write))) none = rw write ready
loops_failed disks opened refused net log_bytes place asked loops why ready are (inr (inr (inr (inl random)))) none =
    rw random (ready, tt)
loops_failed disks opened refused net log_bytes place asked loops why ready are (inr (inr (inr (inr is)))) none =
    rw is (ready, too_many asked loops are (none is))

-- it was refused before anything was opened
pub early_failed : {D R : Type 0} (disks : disk.Ghosts D) (opened : D → List ℕ → Type 0)
    (refused : List ℕ → FileFault → Type 0) (net : listens.Ghosts R) (log_bytes : ℕ) (place : Place)
    (late : ServeFault → Type 0) (why : ServeFault)
    → IsEarlyFault why → HasFailedBy disks opened refused net log_bytes place late why
early_failed disks opened refused net log_bytes place late fault.Memory h = absurd h
early_failed disks opened refused net log_bytes place late fault.Write h = absurd h
early_failed disks opened refused net log_bytes place late fault.Listen h = absurd h
early_failed disks opened refused net log_bytes place late fault.Start h = absurd h
early_failed disks opened refused net log_bytes place late fault.Wait h = absurd h
early_failed disks opened refused net log_bytes place late fault.Random h = absurd h
early_failed disks opened refused net log_bytes place late (fault.Users users_path cause) h = tt
early_failed disks opened refused net log_bytes place late (fault.Open address) h = tt
early_failed disks opened refused net log_bytes place late (fault.Group group) h = tt
early_failed disks opened refused net log_bytes place late fault.InUse h = absurd h
early_failed disks opened refused net log_bytes place late (fault.History history_file cause) h = absurd h
early_failed disks opened refused net log_bytes place late (fault.Absent log_file) h = absurd h
early_failed disks opened refused net log_bytes place late (fault.File log_file cause) h = absurd h
early_failed disks opened refused net log_bytes place late (fault.Missing log_file) h = absurd h
early_failed disks opened refused net log_bytes place late (fault.Stray log_file) h = absurd h
early_failed disks opened refused net log_bytes place late (fault.Damaged log_file number at) h = absurd h
early_failed disks opened refused net log_bytes place late (fault.Manager e) h = absurd h

-- all was ready, and what is told in the end couldn't be printed, or the history not be written
pub end_failed : {D R : Type 0} (disks : disk.Ghosts D) (opened : D → List ℕ → Type 0)
    (refused : List ℕ → FileFault → Type 0) (net : listens.Ghosts R) (log_bytes : ℕ) (place : Place)
    (late : ServeFault → Type 0) (why : ServeFault)
    → WasReady disks opened net log_bytes place → IsEndFault why
    → HasFailedBy disks opened refused net log_bytes place late why
end_failed disks opened refused net log_bytes place late fault.Memory ready h = tt
end_failed disks opened refused net log_bytes place late fault.Write ready h = ready
end_failed disks opened refused net log_bytes place late fault.Listen ready h = absurd h
end_failed disks opened refused net log_bytes place late fault.Start ready h = absurd h
end_failed disks opened refused net log_bytes place late fault.Wait ready h = absurd h
end_failed disks opened refused net log_bytes place late fault.Random ready h = absurd h
end_failed disks opened refused net log_bytes place late (fault.Users users_path cause) ready h = absurd h
end_failed disks opened refused net log_bytes place late (fault.Open address) ready h = absurd h
end_failed disks opened refused net log_bytes place late (fault.Group group) ready h = absurd h
end_failed disks opened refused net log_bytes place late fault.InUse ready h = absurd h
end_failed disks opened refused net log_bytes place late (fault.History history_file cause) ready h = ready
end_failed disks opened refused net log_bytes place late (fault.Absent log_file) ready h = absurd h
end_failed disks opened refused net log_bytes place late (fault.File log_file cause) ready h = absurd h
end_failed disks opened refused net log_bytes place late (fault.Missing log_file) ready h = absurd h
end_failed disks opened refused net log_bytes place late (fault.Stray log_file) ready h = absurd h
end_failed disks opened refused net log_bytes place late (fault.Damaged log_file number at) ready h = absurd h
end_failed disks opened refused net log_bytes place late (fault.Manager e) ready h = absurd h

-- all was ready, and no files were made for the history
pub history_failed : {D R : Type 0} (disks : disk.Ghosts D) (opened : D → List ℕ → Type 0)
    (refused : List ℕ → FileFault → Type 0) (net : listens.Ghosts R) (log_bytes : ℕ) (place : Place)
    (late : ServeFault → Type 0) (why : ServeFault)
    → WasReady disks opened net log_bytes place → IsHistoryFault why
    → HasFailedBy disks opened refused net log_bytes place late why
history_failed disks opened refused net log_bytes place late fault.Memory ready h = tt
history_failed disks opened refused net log_bytes place late (fault.History history_file cause) ready h = ready
history_failed disks opened refused net log_bytes place late fault.Write ready h = absurd h
history_failed disks opened refused net log_bytes place late fault.Listen ready h = absurd h
history_failed disks opened refused net log_bytes place late fault.Start ready h = absurd h
history_failed disks opened refused net log_bytes place late fault.Wait ready h = absurd h
history_failed disks opened refused net log_bytes place late fault.Random ready h = absurd h
history_failed disks opened refused net log_bytes place late (fault.Users users_path cause) ready h = absurd h
history_failed disks opened refused net log_bytes place late (fault.Open address) ready h = absurd h
history_failed disks opened refused net log_bytes place late (fault.Group group) ready h = absurd h
history_failed disks opened refused net log_bytes place late fault.InUse ready h = absurd h
history_failed disks opened refused net log_bytes place late (fault.Absent log_file) ready h = absurd h
history_failed disks opened refused net log_bytes place late (fault.File log_file cause) ready h = absurd h
history_failed disks opened refused net log_bytes place late (fault.Missing log_file) ready h = absurd h
history_failed disks opened refused net log_bytes place late (fault.Stray log_file) ready h = absurd h
history_failed disks opened refused net log_bytes place late (fault.Damaged log_file number at) ready h = absurd h
history_failed disks opened refused net log_bytes place late (fault.Manager e) ready h = absurd h
