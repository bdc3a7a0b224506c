-- What two files leave of a state.
use Rattle.std.specs.Prelude.{◌≡◌, ℕ, None, Some, List, map}
use Rattle.xa_record.specs.Spelling.{spelled}
use Rattle.xa_record.specs.declared.record.Record.{Record}
use Rattle.xa_log.specs.Believed.Pair.{pair_fault, logged_pair}
use Rattle.xa_log.specs.Believed.Unfit.{missing_of}
use Rattle.xa_log.specs.declared.unfit.Unfit.TheVariants.{Neither}
use Rattle.xa_model.specs.State.{State}
use Rattle.xa_model.specs.Invariants.Backing.{Backs}
use Rattle.xa_model.specs.Restarting.{survived}

-- the fates of the records that were lost are settled: the records back the state with the first k of them
abbrev pub Settles : List Record → State → Type 0
Settles rs s = (k : ℕ) × (t : State) × (survived s k ≡ Some t) × Backs rs t

-- the bytes of two files are a log of such records, of which neither is missing, and which an opening accepts
pub record FilesStandFor (most : ℕ) (first second : List ℕ) (s : State) : Type 0 where
  pub whole : pair_fault most first second ≡ None
  pub none_missing : missing_of first second ≡ Neither
  pub records : List Record
  pub logged : logged_pair first second ≡ map spelled records
  pub settles : Settles records s
