-- What a copy of a log is, whose server runs.
use Rattle.std.specs.Prelude.{◌≡◌, ◌≤◌, ℕ, false, if◌then◌else◌, List, ◌++◌, length, take, None}
use Rattle.xa_log.specs.Believed.Chain.{closing, logged, text}
use Rattle.xa_log.specs.Believed.Damage.{is_damaged}
use Rattle.xa_log.specs.Believed.Generation.{generation}
use Rattle.xa_log.specs.Believed.Pair.{logged_pair, on_first, pair_fault}
use Rattle.xa_log.specs.Believed.Unfit.{unfit_of}
use Rattle.xa_log.specs.declared.format.Format.{Format}
use Rattle.xa_log.specs.declared.unfit.Unfit.TheVariants.{Neither}
use Rattle.xa_copy.specs.declared.copied.Copied.{Copied}
use Rattle.xa_copy.specs.Marks.{Marks}
use Rattle.xa_copy.specs.Moving.{Goes, HasLog, State}
use Rattle.xa_copy.specs.Progress.{Closes}

-- Two files are a log of these bodies, which an opening takes, of at most this many bytes. The first one is the current
-- one; the second one has the first record alone.
pub record IsPairOf (most : ℕ) (format : Format) (bodies : List (List ℕ)) (first second : List ℕ) : Type 0 where
  pub first_is : first ≡ text format bodies ++ closing
  pub second_is : second ≡ text format (take 1 bodies) ++ closing
  pub logged : logged_pair first second ≡ bodies
  pub opens : pair_fault most first second ≡ None
  pub fits : unfit_of most first second ≡ Neither

-- Of a file since a moment and until another one: it was a log of these bodies at a moment between them, the one that it
-- was at the begin, or gone on.
pub record WasLog (format : Format) (bodies : List (List ℕ)) (begin end : State) : Type 0 where
  pub at : State
  pub since : Goes begin at
  pub until : Goes at end
  pub same : at.life ≡ begin.life
  pub is : Closes format bodies at.file
  pub logged : logged at.file ≡ bodies
  -- it showed no damage after them
  pub whole : is_damaged at.file ≡ false
  -- what stood in it at the begin is in the copy
  pub kept : (stood : List (List ℕ)) → HasLog format stood begin.file → (more : List (List ℕ)) × (bodies ≡ stood ++ more)

-- The copy of a file since a moment and until another one: two files of the log that it was.
pub record CopiesTo (most : ℕ) (begin end : State) (to to' : List ℕ) (copied : Copied) : Type 0 where
  pub format : Format
  pub bodies : List (List ℕ)
  pub was : WasLog format bodies begin end
  pub pair : IsPairOf most format bodies to to'
  pub records : copied.records ≡ length bodies
  pub end_is : copied.end ≡ length (text format bodies)
  pub number : copied.generation ≡ generation bodies
  pub format_is : copied.format ≡ format
  pub some : 1 ≤ length bodies
  pub life : begin.life ≡ generation bodies
  -- what a standby goes on from
  pub marks : Marks bodies copied

-- Which of two files was the current one, by what each was at a moment, and its copy.
pub record Copies (most : ℕ) (first first' second second' : State) (to to' : List ℕ) (copied : Copied) : Type 0 where
  pub first_then : State
  pub second_then : State
  pub since_first : Goes first first_then
  pub since_second : Goes second second_then
  pub chosen : copied.on_first ≡ on_first first_then.file second_then.file
  pub copies : CopiesTo most (if copied.on_first then first_then else second_then)
      (if copied.on_first then first' else second') to to' copied
  -- what stood in that file when the call began is in the copy, unless it was begun anew before it was chosen
  pub kept : (stood : List (List ℕ))
      → (if copied.on_first then first_then else second_then).life ≡ (if copied.on_first then first else second).life
      → HasLog copies.format stood (if copied.on_first then first else second).file
      → (more : List (List ℕ)) × (copies.bodies ≡ stood ++ more)

-- the same of two sources, by what they were and what they are, and of the disks of the copy
abbrev pub CopiesFrom : {S D : Type 0} → (S → State) → (D → List ℕ) → ℕ → S × S → S × S → D × D → Copied → Type 0
CopiesFrom state seen most old new to copied =
    Copies most (state old.0) (state new.0) (state old.1) (state new.1) (seen to.0) (seen to.1) copied
