-- What the bodies of a log come to.
use Rattle.std.specs.Prelude.{◌≡◌, ℕ, ◌≤◌, List, ◌∷◌, ◌++◌, Result, Ok, Err, length, map}
use Rattle.std.specs.List.{AllByRecursion}
use Rattle.xa_record.specs.declared.record.Record.{Record}
use Rattle.xa_record.specs.declared.record.Record.TheVariants.{Opened}
use Rattle.xa_record.specs.Limits.{IsRecord}
use Rattle.xa_record.specs.Spelling.{spelled}
use Rattle.xa_model.specs.Durable.{Durable}
use Rattle.xa_model.specs.Fold.{fold}
use Rattle.xa_recovery.specs.declared.log_fault.LogFault.{LogFault}
use Rattle.xa_recovery.specs.declared.log_fault.LogFault.TheVariants.{Memory, Malformed, Order}
use Rattle.xa_recovery.specs.declared.bodies.Progress.{Progress}
use Rattle.xa_recovery.specs.declared.bodies.Progress.TheVariants.{InOrder, OutOfOrder}
use Rattle.xa_recovery.specs.declared.rebuilding.Rebuilding.{Rebuilding}
use Rattle.xa_recovery.specs.Rebuilding.{HasRead}

-- the bodies of these records, each within its limits
pub record AreBodiesOf (rs : List Record) (bodies : List (List ℕ)) : Type 0 where
  pub limits : AllByRecursion IsRecord rs
  pub spelling : map spelled rs ≡ bodies

-- the body of no record within its limits
abbrev pub IsNoBody : List ℕ → Type 0
IsNoBody body = (r : Record) → IsRecord r → spelled r ≡ body → ⊥

-- the body with this index is no record's, and those before it are records'
pub record IsFirstMalformed (i : ℕ) (bodies : List (List ℕ)) : Type 0 where
  pub before : List Record
  pub body : List ℕ
  pub behind : List (List ℕ)
  pub parts : bodies ≡ map spelled before ++ body ∷ behind
  pub index : length before ≡ i
  pub limits : AllByRecursion IsRecord before
  pub malformed : IsNoBody body

-- What their records come to; or the index of the first that is malformed; or, if none is, that of the first record
-- out of order; or there was no memory.
abbrev pub LogRebuilt : List (List ℕ) → Result Durable LogFault → Type 0
LogRebuilt bodies (Ok d) = (rs : List Record) × AreBodiesOf rs bodies × (fold rs ≡ Ok d)
LogRebuilt bodies (Err Memory) = Unit {0}
LogRebuilt bodies (Err (Malformed i)) = IsFirstMalformed i bodies
LogRebuilt bodies (Err (Order i)) = (rs : List Record) × AreBodiesOf rs bodies × (fold rs ≡ Err i)

-- the bodies are those of records in order, and it stands for what was read of them
pub record HasReadBodies (m : Rebuilding) (bodies : List (List ℕ)) : Type 0 where
  pub records : List Record
  pub are : AreBodiesOf records bodies
  pub read : HasRead m records

-- so far they are those of records in order, or of records of which this is the first out of order
abbrev pub HasComeTo : Progress → List (List ℕ) → Type 0
HasComeTo (InOrder m) bodies = HasReadBodies m bodies
HasComeTo (OutOfOrder i) bodies = LogRebuilt bodies (Err (Order i))

-- the last of these bodies was read, or why they come to nothing
abbrev pub BodyTaken : List (List ℕ) → Result Progress LogFault → Type 0
BodyTaken bodies (Ok p) = HasComeTo p bodies
BodyTaken bodies (Err Memory) = Unit {0}
BodyTaken bodies (Err (Malformed i)) = IsFirstMalformed i bodies
BodyTaken bodies (Err (Order i)) = ⊥

-- a log's first record is that of a boot, and the last boot isn't below it
abbrev pub BeginsWithBoot : Type 0
BeginsWithBoot =
    (r : Record) (rs : List Record) (d : Durable) → fold (r ∷ rs) ≡ Ok d
    → (boot : ℕ) × (r ≡ Opened boot) × (1 ≤ boot) × (boot ≤ d.boot)
