-- What a copy was, with some sources and disks: no clause says that they are those that the runtime gave.
use Rattle.std.specs.Prelude.{ℕ, List}
use Rattle.xa_commands.specs.Done.{second_path}
use Rattle.xa_copy.specs.Copies.{Copies}
use Rattle.xa_copy.specs.Moving.{State}
use Rattle.xa_copy.specs.declared.copied.Copied.{Copied}
use Rattle.xa_disk.specs.Disk.{Only}

-- Sources were copied, as `copy_log` does, to disks that were opened at two paths: that is all that a crash leaves of them.
pub record WasCopied {S D : Type 0} (source_honest : Type 0) (state : S → State) (disk_honest : Type 0) (seen : D → List ℕ)
    (may_leave : D → List ℕ → Type 0) (opened : D → List ℕ → Type 0) (to to_second : List ℕ) (log_bytes : ℕ)
    (first first' second second' : S) : Type 0 where
  pub empty : D
  pub empty_second : D
  pub made : opened empty to
  pub made_second : opened empty_second to_second
  pub copy : D
  pub second_copy : D
  pub copied : Copied
  pub copies : source_honest → disk_honest
      → Copies log_bytes (state first) (state first') (state second) (state second') (seen copy) (seen second_copy) copied
  pub durable : disk_honest → Only (seen copy) (may_leave copy)
  pub durable_second : disk_honest → Only (seen second_copy) (may_leave second_copy)

-- the sources that were opened at a path, and at the path with `.2` after it, were copied to another one
pub record HasCopied {S D : Type 0} (source_honest : Type 0) (state : S → State) (found : S → List ℕ → Type 0)
    (disk_honest : Type 0) (seen : D → List ℕ) (may_leave : D → List ℕ → Type 0) (opened : D → List ℕ → Type 0)
    (path to : List ℕ) (log_bytes : ℕ) : Type 0 where
  pub first : S
  pub second : S
  pub first_found : found first path
  pub second_found : found second (second_path path)
  pub first' : S
  pub second' : S
  pub was : WasCopied source_honest state disk_honest seen may_leave opened to (second_path to) log_bytes first first' second second'
