-- What a standby is: a log on two disks that is the log of a running server, as it was at a moment.
use Rattle.std.specs.Prelude.{◌≡◌, ◌⊎◌, ◌≤◌, ◌<◌, Bool, true, false, if◌then◌else◌, ℕ, List, ◌++◌, length, take, Result, MatchResult}
use Rattle.xa_disk.specs.declared.disk.Disk.{Ghosts}
use Rattle.xa_disk.specs.Time.{LeavesOnly}
use Rattle.xa_log.specs.Believed.Chain.{newest}
use Rattle.xa_log.specs.Believed.Checkpoint.{LeavesAny}
use Rattle.xa_log.specs.Believed.Generation.{generation}
use Rattle.xa_log.specs.Believed.LogStates.{IsIn, LogState, MayFind}
use Rattle.xa_log.specs.Believed.LogView.{LogView}
use Rattle.xa_log.specs.Believed.Stands.{Leaves}
use Rattle.xa_log.specs.Believed.TwoFiles.{MayStandPair, Pair}
use Rattle.xa_log.specs.declared.format.Format.{Format}
use Rattle.xa_copy.specs.Copies.{WasLog}
use Rattle.xa_copy.specs.Follows.{taken}
use Rattle.xa_copy.specs.Marks.{Marks}
use Rattle.xa_copy.specs.Moving.{Goes, HasLog, OnlyAppended, State}
use Rattle.xa_copy.specs.Progress.{Follows}
use Rattle.xa_copy.specs.declared.follow_fault.FollowFault.{FollowFault}
use Rattle.xa_copy.specs.declared.piece.Piece.{Piece}
use Rattle.xa_copy.specs.declared.standby.Standby.{Standby}

-- ---- what it stands for

-- Of a file: at a moment before it began with a log of these bodies, had their generation, and went on with what was appended.
pub record Was (format : Format) (bodies : List (List ℕ)) (now : State) : Type 0 where
  pub at : State
  pub until : Goes at now
  pub life : at.life ≡ generation bodies
  pub log : HasLog format bodies at.file
  pub whole : OnlyAppended format bodies at.file

-- The standby's two files are a log of these bodies, with which its source's log began at a moment.
pub record IsStandby {D : Type 0} (disks : Ghosts D) (bodies stood : List (List ℕ)) (now : State)
    (standby : Standby D) : Type 0 where
  pub pair : Pair disks bodies stood standby.log
  pub marks : Marks bodies standby.copied
  pub format : standby.log.format ≡ standby.copied.format
  pub some : 1 ≤ length bodies
  pub was : Was standby.copied.format bodies now

-- What was written to it was lost. Whichever of the logs that an opening may find: with it one of two files began at a moment.
pub record IsLost {D : Type 0} (disks : Ghosts D) (first second : State) (standby : Standby D) : Type 0 where
  pub state : LogState
  pub is : IsIn disks state standby.log
  pub was : (found : List (List ℕ)) → MayFind state found
      → (format : Format) × (Was format found first ⊎ Was format found second)

-- ---- what a crash leaves

-- A disk is as it was, or a crash at any moment leaves what has P.
abbrev pub Leaving : {D : Type 0} → Ghosts D → D → D → (List ℕ → Type 0) → Type 0
Leaving disks old new P = (new ≡ old) ⊎ LeavesOnly disks old new P

-- An image of a file, while a group was appended to a log of these bodies: each first part of it, after them, was a log of the source.
pub record IsPart (most : ℕ) (now : State) (c : List ℕ) : Type 0 where
  pub format : Format
  pub bodies : List (List ℕ)
  pub group : List (List ℕ)
  pub leaves : Leaves most format bodies group c
  pub was : (many : ℕ) → Was format (bodies ++ take many group) now

-- An image of a file, in which these bodies had stood, while a checkpoint writes the snapshot of the source's log to it.
pub record IsSealing (most : ℕ) (stood : List (List ℕ)) (now : State) (c : List ℕ) : Type 0 where
  pub format : Format
  pub fresh : List (List ℕ)
  pub leaves : LeavesAny most newest stood fresh c
  pub was : Was format fresh now

-- ---- a step

-- what became of an append of bodies
abbrev pub AppendsBodies : {D T : Type 0} → Ghosts D → Result T FollowFault → List (List ℕ) → List (List ℕ) → List (List ℕ)
    → LogView D → Type 0
AppendsBodies disks result bodies group stood log =
    MatchResult result (λ _. Pair disks (bodies ++ group) stood log)
    (λ _. Pair disks bodies stood log ⊎ MayStandPair disks bodies group stood log)

-- what became of an append of a piece
abbrev pub HasTaken : {D : Type 0} → Ghosts D → Result Bool FollowFault → List (List ℕ) → List (List ℕ) → Piece
    → Standby D → Standby D → Type 0
HasTaken disks result bodies stood piece old new =
    MatchResult result
    (λ last. (last ≡ piece.is_last) × Pair disks (bodies ++ taken piece) stood new.log × (new.copied ≡ piece.at))
    (λ _. (new.copied ≡ old.copied) × (Pair disks bodies stood new.log ⊎ MayStandPair disks bodies (taken piece) stood new.log))

-- Since a moment, and while its log isn't begun anew, the file begins with a log of these bodies, and they are the standby's.
pub record IsAlong {D : Type 0} (disks : Ghosts D) (begin now : State) (bodies stood : List (List ℕ))
    (standby : Standby D) : Type 0 where
  pub is : IsStandby disks bodies stood now standby
  pub follows : Follows standby.copied.format bodies begin now
  pub life : begin.life ≡ generation bodies

-- it has some bodies more; if these are all, they were the log at a moment since
pub record GoesAlong {D : Type 0} (disks : Ghosts D) (begin now : State) (bodies stood : List (List ℕ)) (standby : Standby D)
    (all : Bool) : Type 0 where
  pub more : List (List ℕ)
  pub along : IsAlong disks begin now (bodies ++ more) stood standby
  pub was : all ≡ true → WasLog standby.copied.format (bodies ++ more) begin now

-- after a fault it stands for such a log, or what was written was lost
abbrev pub StaysOrLost : {D : Type 0} → Ghosts D → List (List ℕ) → State → Standby D → Type 0
StaysOrLost disks before now standby =
    ((bodies stood : List (List ℕ)) × IsStandby disks bodies stood now standby × ((more : List (List ℕ)) × (bodies ≡ before ++ more)))
    ⊎ IsLost disks now now standby

-- ---- a round

-- What a crash meanwhile leaves of the file that is written; the other one stays. It was appended to; or a checkpoint went to the
-- other one, and if that counts, this one was appended to.
abbrev pub LeavesFollowed : {D : Type 0} → Ghosts D → List (List ℕ) → State → LogView D → LogView D → Type 0
LeavesFollowed disks stood now old new =
    ((new.other ≡ old.other) × Leaving disks old.disk new.disk (IsPart old.log_bytes now))
    ⊎ (((new.disk ≡ old.disk) × Leaving disks old.other new.other (IsSealing old.log_bytes stood now))
    ⊎ ((new.other ≡ old.disk) × Leaving disks old.other new.disk (λ c. IsSealing old.log_bytes stood now c ⊎ IsPart old.log_bytes now c)))

-- Of two sources, of which one is the first or the second one: that one of them which is the first or the second.
abbrev pub side : Bool → Bool → State → State → State
side true wanted source other = if wanted then source else other
side false wanted source other = if wanted then other else source

-- It has what it had before, and maybe more; or it was begun anew.
abbrev pub KeepsOn : List (List ℕ) → List (List ℕ) → Type 0
KeepsOn before now = ((more : List (List ℕ)) × (now ≡ before ++ more)) ⊎ (generation before < generation now)

-- after a fault, of two sources
abbrev pub StaysBeside : {D : Type 0} → Ghosts D → List (List ℕ) → Bool → State → State → Standby D → Type 0
StaysBeside disks before on_first source other standby =
    ((bodies stood : List (List ℕ)) × IsStandby disks bodies stood (side on_first standby.copied.on_first source other) standby
    × KeepsOn before bodies)
    ⊎ IsLost disks source other standby

-- Of a standby of these bodies before: it is the log that a file was at a moment since another one; if that wasn't begun
-- anew, it has those bodies and maybe more.
pub record HasFollowed {D : Type 0} (disks : Ghosts D) (bodies : List (List ℕ)) (begin end : State) (standby : Standby D)
    (is_anew : Bool) : Type 0 where
  pub now : List (List ℕ)
  pub stood : List (List ℕ)
  pub is : IsStandby disks now stood end standby
  pub was : WasLog standby.copied.format now begin end
  pub on : is_anew ≡ false → (more : List (List ℕ)) × (now ≡ bodies ++ more)
  pub above : is_anew ≡ true → generation bodies < generation now
