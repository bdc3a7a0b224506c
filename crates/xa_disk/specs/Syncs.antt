-- What a sync that was made apart from a disk was answered.
use Rattle.std.specs.Prelude.{ℕ, ◌≡◌, ◌<◌, IfSome, IsErr, IsSomeAnd, None, MatchOption}
use Rattle.xa_disk.specs.Counts.{top}
use Rattle.xa_disk.specs.declared.file_id.FileId.{FileId}
use Rattle.xa_disk.specs.declared.syncer.SyncAnswer.{SyncAnswer}
use Rattle.xa_disk.specs.declared.syncer.Syncer.{Syncer}
use Rattle.xa_disk.specs.declared.told.Told.{Told}

-- it is of this file, after the last of this many writes
pub record IsDue (told : Told) (file : FileId) (writes : ℕ) : Type 0 where
  pub of_file : told.file ≡ file
  pub behind : told.writes ≡ writes
  pub counted : writes < top

-- It makes the sync of this file, after the last of this many writes; or none, which leaves it to the disk.
pub record IsSyncerOf (syncer : Syncer) (file : FileId) (writes : ℕ) : Type 0 where
  pub of_file : IfSome syncer.handle (λ handle. handle.id ≡ file)
  pub behind : syncer.writes ≡ writes

-- the sync was made, and failed
abbrev pub HasFailed : SyncAnswer → Type 0
HasFailed answer = IsSomeAnd answer.told (λ told. IsErr told.answer)

-- the sync was made, of this file, after the last of this many writes
abbrev pub IsDueSync : SyncAnswer → FileId → ℕ → Type 0
IsDueSync answer file writes = IsSomeAnd answer.told (λ told. IsDue told file writes)

-- What a syncer's sync was answered: of its file, after as many writes as it was made for; or none was made, which leaves
-- it to the disk.
abbrev pub IsAnswerOf : Syncer → SyncAnswer → Type 0
IsAnswerOf syncer answer =
    MatchOption syncer.handle (answer.told ≡ None)
    (λ handle. IsSomeAnd answer.told (λ told. (told.file ≡ handle.id) × (told.writes ≡ syncer.writes)))
