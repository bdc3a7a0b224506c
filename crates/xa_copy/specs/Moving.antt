-- A log's file that another process may append to, or begin anew, while it is read.
use Rattle.std.specs.Prelude.{◌≡◌, ◌≢◌, ℕ, ◌≤◌, ◌-◌, min, true, slice_index, List, [], ◌∷◌, ◌++◌, length, take, drop}
use Rattle.std.specs.List.{AllByRecursion}
use Rattle.xa_log.specs.Believed.Chain.{IsBody, text}
use Rattle.xa_log.specs.Believed.Damage.{is_appended}
use Rattle.xa_log.specs.Believed.Generation.{generation}
use Rattle.xa_log.specs.declared.format.Format.{Format}

-- What a file is at a moment.
pub record State : Type 0 where
  -- the generation of the log that it has, or that is being written to it
  pub life : ℕ
  pub file : List ℕ

-- The file begins with a log of these bodies, which may go on.
pub record HasLog (format : Format) (bodies : List (List ℕ)) (file : List ℕ) : Type 0 where
  pub rest : List ℕ
  pub split : file ≡ text format bodies ++ rest
  pub sizes : AllByRecursion (IsBody format) bodies

-- If a record stands after these bodies, it was appended: no snapshot is cut.
abbrev pub OnlyAppended : Format → List (List ℕ) → List ℕ → Type 0
OnlyAppended format bodies file = (body : List ℕ) → HasLog format (bodies ++ body ∷ []) file → is_appended (slice_index body 0) ≡ true

-- Each record that stood there stands there, where it stood.
abbrev pub Grows : List ℕ → List ℕ → Type 0
Grows old new = (format : Format) (bodies : List (List ℕ)) → HasLog format bodies old → HasLog format bodies new

-- What may become of a file between two moments: it was only appended to; or its log was begun anew, with a greater
-- generation. Another process writes to it as a server does of whose device no call fails.
pub record Goes (old new : State) : Type 0 where
  pub rises : old.life ≤ new.life
  pub grows : new.life ≡ old.life → Grows old.file new.file

-- A log that has a record has the file's generation.
abbrev pub Tells : State → Type 0
Tells state = (format : Format) (bodies : List (List ℕ)) → bodies ≢ [] → HasLog format bodies state.file
    → generation bodies ≡ state.life

-- The bytes from an offset on that a read gave, as many as there are.
pub record ReadsUpto (file : List ℕ) (at : ℕ) (into : List ℕ) (count : ℕ) : Type 0 where
  pub count_is : count ≡ min (length into) (length file - at)
  pub bytes : take count into ≡ take count (drop at file)
