-- What is read of a source after a log that was copied.
use Rattle.std.specs.Prelude.{◌≡◌, true, List, [], ◌∷◌, ◌++◌, ℕ, slice_index, Option, Some, None}
use Rattle.std.specs.List.{AllByRecursion}
use Rattle.xa_log.specs.Believed.Chain.{IsBody}
use Rattle.xa_log.specs.Believed.Damage.{is_appended}
use Rattle.xa_log.specs.Reading.{bodies_of}
use Rattle.xa_log.specs.declared.format.Format.{Format}
use Rattle.xa_copy.specs.Marks.{Marks}
use Rattle.xa_copy.specs.Moving.{State}
use Rattle.xa_copy.specs.Progress.{Closes, Follows}
use Rattle.xa_copy.specs.declared.copied.Copied.{Copied}
use Rattle.xa_copy.specs.declared.copying.Copying.{Copying}
use Rattle.xa_copy.specs.declared.piece.Next.{Next}
use Rattle.xa_copy.specs.declared.piece.Piece.{Piece}

-- as far as was copied, with nothing gathered
pub record IsResumed (at : Copied) (copying : Copying) : Type 0 where
  pub format : copying.format ≡ at.format
  pub digest : copying.digest ≡ at.digest
  pub records : copying.records ≡ at.records
  pub snapshot : copying.is_snapshot ≡ at.is_snapshot
  pub pending : copying.gather.pending ≡ 0
  pub written : copying.gather.written ≡ at.end

-- what a source has after these bodies: one more, or none
abbrev pub IsNext : Type 0 → State → State → List (List ℕ) → Copied → Option Next → Type 0
IsNext honest begin now bodies at None =
    honest → Follows at.format bodies begin now × (now.life ≡ begin.life → Closes at.format bodies now.file)
IsNext honest begin now bodies at (Some next) =
    Marks (bodies ++ next.body.items ∷ []) next.at
    × (honest → Follows next.at.format (bodies ++ next.body.items ∷ []) begin now)

-- the bodies of a piece
abbrev pub taken : Piece → List (List ℕ)
taken piece = bodies_of piece.bodies.items

-- a piece of what a source has after these bodies; if it is the last one, a closing length stands after it
pub record IsPiece (honest : Type 0) (begin now : State) (bodies : List (List ℕ)) (piece : Piece) : Type 0 where
  pub marks : Marks (bodies ++ taken piece) piece.at
  pub follows : honest → Follows piece.at.format (bodies ++ taken piece) begin now
  pub closes : piece.is_last ≡ true → honest → now.life ≡ begin.life
      → Closes piece.at.format (bodies ++ taken piece) now.file

-- bodies that may be appended to a log that has a record
pub record AreTaken (format : Format) (bodies : List (List ℕ)) : Type 0 where
  pub sizes : AllByRecursion (IsBody format) bodies
  pub appended : AllByRecursion (λ body. is_appended (slice_index body 0) ≡ true) bodies
