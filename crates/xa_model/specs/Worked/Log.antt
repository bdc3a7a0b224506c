-- Worked rows of the log: what records come to, what a restart writes into the other file, and which order is refused.
use Rattle.std.specs.Prelude.{ℕ, ◌≡◌, ◌+◌, Some, None, Result, Ok, Err, List, [], ◌∷◌}
use Rattle.xa_codes.specs.declared.direction.Direction.TheVariants.{Commit, Rollback}
use Rattle.xa_codes.specs.declared.write.Write.{Write}
use Rattle.xa_xid.specs.Triple.{Triple}
use Rattle.xa_record.specs.declared.record.Record.{Record}
use Rattle.xa_record.specs.declared.record.Record.TheVariants.{Opened, Prepared, Committed, Completed, Decided}
use Rattle.xa_record.specs.declared.record.Record.TheVariants.{Forgotten, Base, Held, Known}
use Rattle.xa_model.specs.Durable.{Durable}
use Rattle.xa_model.specs.Fold.{fold, snapshot, size_of}
use Rattle.xa_model.specs.Worked.{byte, xid}

-- where each record begins in a log, and where the next would
abbrev pub offsets : ℕ → List Record → List ℕ
offsets at [] = at ∷ []
offsets at (r ∷ rs) = at ∷ offsets (at + size_of r) rs

-- what a restart with this boot writes into the other file
abbrev pub with_boot : ℕ → Result Durable ℕ → Result (List Record) ℕ
with_boot boot (Ok d) = Ok (snapshot d boot)
with_boot boot (Err i) = Err i

abbrev pub restarted : ℕ → List Record → Result (List Record) ℕ
restarted boot rs = with_boot boot (fold rs)

abbrev pub write : ℕ → ℕ → Write
write key value = record { key = byte key; value = Some (byte value) }

abbrev pub delete : ℕ → Write
delete key = record { key = byte key; value = None }

-- the branch 1:aa:bb, which put 76 at 6b
abbrev pub xid_1 : Triple
xid_1 = xid 0xaa (byte 0xbb)

abbrev pub xid_2 : Triple
xid_2 = xid 0xcc []

abbrev pub put_1 : List Write
put_1 = write 0x6b 0x76 ∷ []

-- A branch that is prepared is held over a restart, and committed over the next one.
abbrev pub HeldAndCommitted : Type 0
HeldAndCommitted =
    let first : List Record = Opened 1 ∷ Prepared xid_1 4294967297 put_1 ∷ [] in
    let second : List Record = Opened 2 ∷ Held xid_1 4294967297 put_1 ∷ [] in
    let committed : List Record = Opened 2 ∷ Held xid_1 4294967297 put_1 ∷ Completed xid_1 Commit ∷ [] in
    let third : List Record = Opened 3 ∷ Base 4294967297 put_1 ∷ [] in
    (offsets 8 first ≡ 8 ∷ 49 ∷ 110 ∷ [])
    × (restarted 2 first ≡ Ok second)
    × (offsets 8 second ≡ 8 ∷ 49 ∷ 110 ∷ [])
    × (offsets 8 committed ≡ 8 ∷ 49 ∷ 110 ∷ 156 ∷ [])
    × (restarted 3 committed ≡ Ok third)
    × (offsets 8 third ≡ 8 ∷ 49 ∷ 102 ∷ [])
    × (restarted 4 third ≡ Ok (Opened 4 ∷ Base 4294967297 put_1 ∷ []))

-- What the operator decided is known over a restart, until it is forgotten.
abbrev pub DecidedAndForgotten : Type 0
DecidedAndForgotten =
    let first : List Record = Opened 1 ∷ Prepared xid_1 4294967297 put_1 ∷ Decided xid_1 Commit ∷ [] in
    let second : List Record = Opened 2 ∷ Base 4294967297 put_1 ∷ Known xid_1 Commit ∷ [] in
    (restarted 2 first ≡ Ok second)
    × (offsets 8 second ≡ 8 ∷ 49 ∷ 102 ∷ 148 ∷ [])
    × (restarted 3 (Opened 2 ∷ Base 4294967297 put_1 ∷ Known xid_1 Commit ∷ Forgotten xid_1 ∷ [])
    ≡ Ok (Opened 3 ∷ Base 4294967297 put_1 ∷ []))
    × (restarted 2 (Opened 1 ∷ Prepared xid_1 4294967297 put_1 ∷ Decided xid_1 Rollback ∷ [])
    ≡ Ok (Opened 2 ∷ Known xid_1 Rollback ∷ []))

-- Rolled back, nothing is left; the XID may come back.
abbrev pub RolledBack : Type 0
RolledBack =
    (restarted 2 (Opened 1 ∷ Prepared xid_1 4294967297 put_1 ∷ Completed xid_1 Rollback ∷ []) ≡ Ok (Opened 2 ∷ []))
    × (restarted 2 (
    Opened 1 ∷ Prepared xid_1 4294967297 put_1 ∷ Completed xid_1 Rollback ∷ Prepared xid_1 4294967298 put_1 ∷ [])
    ≡ Ok (Opened 2 ∷ Held xid_1 4294967298 put_1 ∷ []))

-- The last write of a key is that of the greatest timestamp, whichever was committed last. A delete is kept. A branch
-- whose writes were all overwritten is left out.
abbrev pub LastWrites : Type 0
LastWrites =
    (restarted 2 (
    Opened 1 ∷ Committed xid_2 4294967298 (write 0x6b 0x32 ∷ [])
    ∷ Committed xid_1 4294967297 (write 0x6b 0x31 ∷ write 0x6c 0x31 ∷ []) ∷ [])
    ≡ Ok (Opened 2 ∷ Base 4294967297 (write 0x6c 0x31 ∷ []) ∷ Base 4294967298 (write 0x6b 0x32 ∷ []) ∷ []))
    × (restarted 2 (Opened 1 ∷ Committed xid_1 4294967297 put_1 ∷ Committed xid_2 4294967298 (delete 0x6b ∷ []) ∷ [])
    ≡ Ok (Opened 2 ∷ Base 4294967298 (delete 0x6b ∷ []) ∷ []))

-- Prepared branches stand by timestamp, completed XIDs by XID, in whichever order they were prepared and decided.
abbrev pub InOrder : Type 0
InOrder =
    (restarted 2 (Opened 1 ∷ Prepared xid_2 4294967298 put_1 ∷ Prepared xid_1 4294967297 put_1 ∷ [])
    ≡ Ok (Opened 2 ∷ Held xid_1 4294967297 put_1 ∷ Held xid_2 4294967298 put_1 ∷ []))
    × (restarted 2 (
    Opened 1 ∷ Prepared xid_2 4294967297 put_1 ∷ Prepared xid_1 4294967298 put_1
    ∷ Decided xid_2 Rollback ∷ Decided xid_1 Rollback ∷ [])
    ≡ Ok (Opened 2 ∷ Known xid_1 Rollback ∷ Known xid_2 Rollback ∷ []))

-- The first record that is out of order, by its index.

-- nothing before the first boot, and each boot above those before
abbrev pub BootsInOrder : Type 0
BootsInOrder =
    (fold (Prepared xid_1 4294967297 put_1 ∷ []) ≡ Err 0)
    × (fold (Base 4294967297 put_1 ∷ []) ≡ Err 0)
    × (fold (Opened 2 ∷ Opened 2 ∷ []) ≡ Err 1)
    × (fold (Opened 1 ∷ Opened 3 ∷ Opened 2 ∷ []) ≡ Err 2)

-- A branch that began before the last boot is logged after it, prepared or committed at once. Its writes take their
-- places by its timestamp: those of a branch of the last boot are later.
abbrev pub BegunEarlier : Type 0
BegunEarlier =
    (restarted 3 (Opened 2 ∷ Prepared xid_1 4294967297 put_1 ∷ [])
    ≡ Ok (Opened 3 ∷ Held xid_1 4294967297 put_1 ∷ []))
    × (restarted 3 (Opened 2 ∷ Committed xid_1 4294967297 put_1 ∷ []) ≡ Ok (Opened 3 ∷ Base 4294967297 put_1 ∷ []))
    × (restarted 4 (Opened 3 ∷ Committed xid_2 8589934593 (delete 0x6b ∷ []) ∷ Committed xid_1 4294967297 put_1 ∷ [])
    ≡ Ok (Opened 4 ∷ Base 8589934593 (delete 0x6b ∷ []) ∷ []))
    × (restarted 3 (
    Opened 2 ∷ Base 4294967298 put_1 ∷ Prepared xid_1 4294967297 (write 0x6c 0x31 ∷ []) ∷ Completed xid_1 Commit ∷ [])
    ≡ Ok (Opened 3 ∷ Base 4294967297 (write 0x6c 0x31 ∷ []) ∷ Base 4294967298 put_1 ∷ []))

-- a branch's timestamp is of a boot from 1 to the last, isn't its 0th, and is no other branch's
abbrev pub TimestampsInOrder : Type 0
TimestampsInOrder =
    (fold (Opened 2 ∷ Prepared xid_1 12884901889 put_1 ∷ []) ≡ Err 1)
    × (fold (Opened 2 ∷ Committed xid_1 12884901889 put_1 ∷ []) ≡ Err 1)
    × (fold (Opened 2 ∷ Prepared xid_1 1 put_1 ∷ []) ≡ Err 1)
    × (fold (Opened 1 ∷ Committed xid_1 4294967296 put_1 ∷ []) ≡ Err 1)
    × (fold (Opened 2 ∷ Prepared xid_1 4294967296 put_1 ∷ []) ≡ Err 1)
    × (fold (Opened 2 ∷ Base 4294967297 put_1 ∷ Committed xid_1 4294967297 put_1 ∷ []) ≡ Err 2)
    × (fold (Opened 2 ∷ Held xid_1 4294967297 put_1 ∷ Prepared xid_2 4294967297 put_1 ∷ []) ≡ Err 2)
    × (fold (Opened 2 ∷ Committed xid_1 4294967297 put_1 ∷ Committed xid_2 4294967297 put_1 ∷ []) ≡ Err 2)
    × (fold (Opened 1 ∷ Committed xid_1 4294967297 put_1 ∷ Prepared xid_1 4294967297 put_1 ∷ []) ≡ Err 2)
    × (fold (
    Opened 1 ∷ Prepared xid_1 4294967297 put_1 ∷ Completed xid_1 Rollback ∷ Prepared xid_1 4294967297 put_1 ∷ [])
    ≡ Err 3)

-- an XID isn't prepared twice, and what wasn't prepared isn't completed,
-- nor forgotten what the operator didn't complete
abbrev pub NamesInOrder : Type 0
NamesInOrder =
    (fold (Opened 1 ∷ Prepared xid_1 4294967297 put_1 ∷ Prepared xid_1 4294967298 put_1 ∷ []) ≡ Err 2)
    × (fold (Opened 1 ∷ Prepared xid_1 4294967297 put_1 ∷ Decided xid_1 Commit ∷ Committed xid_1 4294967298 put_1 ∷ [])
    ≡ Err 3)
    × (fold (Opened 1 ∷ Prepared xid_1 4294967297 put_1 ∷ Completed xid_2 Commit ∷ []) ≡ Err 2)
    × (fold (Opened 1 ∷ Prepared xid_1 4294967297 put_1 ∷ Decided xid_1 Commit ∷ Decided xid_1 Commit ∷ []) ≡ Err 3)
    × (fold (Opened 1 ∷ Prepared xid_1 4294967297 put_1 ∷ Forgotten xid_1 ∷ []) ≡ Err 2)

-- a snapshot stands directly after the first boot, of branches of earlier boots, each kind in its order
abbrev pub SnapshotsInOrder : Type 0
SnapshotsInOrder =
    (fold (Opened 2 ∷ Opened 3 ∷ Base 4294967297 put_1 ∷ []) ≡ Err 2)
    × (fold (Opened 2 ∷ Committed xid_1 8589934593 put_1 ∷ Base 4294967297 put_1 ∷ []) ≡ Err 2)
    × (fold (Opened 2 ∷ Base 8589934593 put_1 ∷ []) ≡ Err 1)
    × (fold (Opened 2 ∷ Base 1 put_1 ∷ []) ≡ Err 1)
    × (fold (Opened 3 ∷ Base 8589934592 put_1 ∷ []) ≡ Err 1)
    × (fold (Opened 2 ∷ Base 4294967298 put_1 ∷ Base 4294967297 (delete 0x6c ∷ []) ∷ []) ≡ Err 2)
    × (fold (Opened 2 ∷ Base 4294967297 put_1 ∷ Held xid_1 4294967297 put_1 ∷ []) ≡ Err 2)
    × (fold (Opened 2 ∷ Held xid_1 4294967298 put_1 ∷ Held xid_2 4294967297 put_1 ∷ []) ≡ Err 2)
    × (fold (Opened 2 ∷ Held xid_1 4294967297 put_1 ∷ Base 4294967298 put_1 ∷ []) ≡ Err 2)
    × (fold (Opened 2 ∷ Held xid_1 4294967297 put_1 ∷ Held xid_1 4294967298 put_1 ∷ []) ≡ Err 2)
    × (fold (Opened 2 ∷ Held xid_1 4294967297 put_1 ∷ Known xid_1 Commit ∷ []) ≡ Err 2)
    × (fold (Opened 2 ∷ Known xid_2 Commit ∷ Known xid_1 Commit ∷ []) ≡ Err 2)
    × (fold (Opened 2 ∷ Known xid_1 Commit ∷ Base 4294967297 put_1 ∷ []) ≡ Err 2)
    × (fold (Opened 2 ∷ Known xid_1 Commit ∷ Held xid_2 4294967297 put_1 ∷ []) ≡ Err 2)
