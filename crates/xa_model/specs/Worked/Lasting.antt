-- Worked rows of what states would leave, and of what records make of them.
use Rattle.std.specs.Prelude.{ℕ, ◌≡◌, Option, Some, Ok, List, [], ◌∷◌, option_map, option_and_then}
use Rattle.xa_codes.specs.declared.direction.Direction.TheVariants.{Commit, Rollback}
use Rattle.xa_codes.specs.declared.flags.TheConstants.{TMNOFLAGS, TMSUCCESS, TMONEPHASE}
use Rattle.xa_frame.specs.declared.request.Request.TheVariants as request
use Rattle.xa_record.specs.declared.record.Record.{Record}
use Rattle.xa_record.specs.declared.record.Record.TheVariants.{Opened, Prepared, Committed, Completed, Decided}
use Rattle.xa_record.specs.declared.record.Record.TheVariants.{Forgotten}
use Rattle.xa_model.specs.declared.outcome.Outcome.{Outcome}
use Rattle.xa_model.specs.State.{State}
use Rattle.xa_model.specs.Turn.{Happening}
use Rattle.xa_model.specs.Step.{step}
use Rattle.xa_model.specs.History.{fresh}
use Rattle.xa_model.specs.Durable.{Durable, durable}
use Rattle.xa_model.specs.Fold.{fold}
use Rattle.xa_model.specs.Logging.{applied}
use Rattle.xa_model.specs.Worked.{xarm, byte, connects, asks, logs}
use Rattle.xa_model.specs.Worked.Log.{xid_1, xid_2, write, delete}

-- the state that these happenings lead to
abbrev pub led : State → List (Happening × Outcome) → Option State
led s [] = Some s
led s (x ∷ xs) = option_and_then (λ a. led a.after xs) (step s x.0 x.1)

-- A branch has put 31 and then 76 at 6b, read it, and deleted 6a; another has only read.
abbrev pub at_work : Option State
at_work =
    led (fresh xarm 1073741824) (
    connects
    ∷ asks (request.Open TMNOFLAGS xarm)
    ∷ asks (request.Start TMNOFLAGS xid_1)
    ∷ asks (request.Put (byte 0x6b) (byte 0x31))
    ∷ asks (request.Put (byte 0x6b) (byte 0x76))
    ∷ asks (request.Get (byte 0x6b))
    ∷ asks (request.Delete (byte 0x6a))
    ∷ asks (request.End TMSUCCESS xid_1)
    ∷ asks (request.Start TMNOFLAGS xid_2)
    ∷ asks (request.Get (byte 0x6c))
    ∷ asks (request.End TMSUCCESS xid_2)
    ∷ [])

-- what a state leaves once it has appended these records, and where the next would begin
abbrev pub after_records : List Record → State → Durable × ℕ
after_records [] s = (durable s, s.end)
after_records (r ∷ rs) s = after_records rs (applied r s)

abbrev pub leaves : List Record → Durable → ℕ → Type 0
leaves rs d end = (option_map (after_records rs) at_work ≡ Some (d, end)) × (fold (Opened 1 ∷ rs) ≡ Ok d)

abbrev pub prepares : Record
prepares = Prepared xid_1 4294967297 (delete 0x6a ∷ write 0x6b 0x76 ∷ [])

abbrev pub commits : Record
commits = Committed xid_1 4294967297 (delete 0x6a ∷ write 0x6b 0x76 ∷ [])

abbrev pub none : Durable
none = record { boot = 1; committed = []; prepared = []; decided = [] }

abbrev pub in_doubt : Durable
in_doubt = record none {
  prepared = record { xid = xid_1; timestamp = 4294967297; writes = delete 0x6a ∷ write 0x6b 0x76 ∷ [] } ∷ [];
}

abbrev pub kept : Durable
kept = record none { committed = record { timestamp = 4294967297; writes = delete 0x6a ∷ write 0x6b 0x76 ∷ [] } ∷ [] }

-- A branch at work leaves nothing; what is prepared, committed, decided and forgotten leaves what its records come to.
abbrev pub StatesLeave : Type 0
StatesLeave =
    leaves [] none 49
    × leaves (prepares ∷ []) in_doubt 113
    × leaves (commits ∷ []) kept 113
    × leaves (prepares ∷ Completed xid_1 Commit ∷ []) kept 159
    × leaves (prepares ∷ Completed xid_1 Rollback ∷ []) none 159
    × leaves (prepares ∷ Decided xid_1 Commit ∷ [])
    (record kept { decided = record { xid = xid_1; direction = Commit } ∷ [] }) 159
    × leaves (prepares ∷ Decided xid_1 Rollback ∷ [])
    (record none { decided = record { xid = xid_1; direction = Rollback } ∷ [] }) 159
    × leaves (prepares ∷ Decided xid_1 Commit ∷ Forgotten xid_1 ∷ []) kept 204

-- What is committed in one phase by a call leaves what its record comes to.
abbrev pub CommittedLeaves : Type 0
CommittedLeaves =
    option_map durable (option_and_then (λ s. led s (logs (request.Commit TMONEPHASE xid_1) ∷ [])) at_work) ≡ Some kept
