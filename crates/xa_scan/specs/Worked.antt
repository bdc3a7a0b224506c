-- Worked rows: what is printed of logs whose bodies are written out.
use Rattle.std.specs.Prelude.{◌≡◌, ℕ, List, [], ◌∷◌, ◌++◌, length, codes}
use Rattle.xa_log.specs.declared.format.Format.{Format}
use Rattle.xa_log.specs.Believed.Chain.{text}
use Rattle.xa_log.specs.Worked.{opened, prepared, again, held}
use Rattle.xa_scan.specs.Lines.{behind, scan_text}
use Rattle.xa_scan.specs.declared.format.Format.TheVariants.{Text, Json}
use Rattle.xa_limits.specs.declared.TheConstants.{FIRST_OFFSET}

-- a line and its end
abbrev pub ended : List ℕ → List ℕ
ended line = line ++ 10 ∷ []

abbrev pub opened_third : List ℕ
opened_third = 1 ∷ 0 ∷ 0 ∷ 0 ∷ 3 ∷ []

-- the key 6b has the value 76
abbrev pub base : List ℕ
base = 7 ∷ 0 ∷ 0 ∷ 0 ∷ 1 ∷ 0 ∷ 0 ∷ 0 ∷ 1 ∷ 0 ∷ 1 ∷ 1 ∷ 107 ∷ 1 ∷ 0 ∷ 1 ∷ 118 ∷ []

-- the XID 1:aa:bb
abbrev pub name : List ℕ
name = 0 ∷ 0 ∷ 0 ∷ 1 ∷ 1 ∷ 1 ∷ 170 ∷ 187 ∷ []

-- 1:aa:bb was completed by a commit
abbrev pub known : List ℕ
known = 9 ∷ name ++ 1 ∷ []

abbrev pub Prepared : Type 0
Prepared =
    scan_text Text (opened ∷ prepared ∷ [])
    ≡ ended (codes "8 opened 1") ++ ended (codes "49 prepared 1:aa:bb 4294967297 1") ++ ended (codes "end 110")

abbrev pub Held : Type 0
Held =
    scan_text Text (again ∷ held ∷ [])
    ≡ ended (codes "8 opened 2") ++ ended (codes "49 held 1:aa:bb 4294967297 1") ++ ended (codes "end 110")

abbrev pub Based : Type 0
Based =
    scan_text Text (opened_third ∷ base ∷ [])
    ≡ ended (codes "8 opened 3") ++ ended (codes "49 base 4294967297 1") ++ ended (codes "end 102")

abbrev pub Known : Type 0
Known =
    scan_text Text (again ∷ base ∷ known ∷ [])
    ≡ ended (codes "8 opened 2") ++ ended (codes "49 base 4294967297 1")
    ++ ended (codes "102 known 1:aa:bb commit") ++ ended (codes "end 148")

-- 1:aa:bb was committed in one phase, at the second timestamp of boot 1, with a delete of the key 6b
abbrev pub committed : List ℕ
committed = 3 ∷ name ++ 0 ∷ 0 ∷ 0 ∷ 1 ∷ 0 ∷ 0 ∷ 0 ∷ 2 ∷ 0 ∷ 1 ∷ 1 ∷ 107 ∷ 0 ∷ []

-- The other kinds: a branch that was committed in one phase; one that was rolled back; one that the operator rolled
-- back, and that is forgotten. A body that is no record's.
abbrev pub Others : Type 0
Others =
    scan_text Text (committed ∷ (4 ∷ name ++ 2 ∷ []) ∷ (5 ∷ name ++ 2 ∷ []) ∷ (6 ∷ name) ∷ (0 ∷ []) ∷ [])
    ≡ ended (codes "8 committed 1:aa:bb 4294967298 1") ++ ended (codes "66 completed 1:aa:bb rollback")
    ++ ended (codes "112 decided 1:aa:bb rollback")
    ++ ended (codes "158 forgotten 1:aa:bb") ++ ended (codes "203 malformed") ++ ended (codes "end 240")

-- a log without a record
abbrev pub Empty : Type 0
Empty = scan_text Text [] ≡ ended (codes "end 8")

-- The same logs' records as objects: a first boot with a prepared branch; snapshots; the other kinds.
abbrev pub PreparedObjects : Type 0
PreparedObjects =
    scan_text Json (opened ∷ prepared ∷ [])
    ≡ ended (codes "{\"record\":\"opened\",\"offset\":8,\"boot\":1}")
    ++ ended (codes "{\"record\":\"prepared\",\"offset\":49,\"xid\":\"1:aa:bb\",\"timestamp\":4294967297,"
    ++ codes "\"writes\":[{\"key\":\"6b\",\"value\":\"76\"}]}")
    ++ ended (codes "{\"end\":110}")

abbrev pub HeldObjects : Type 0
HeldObjects =
    scan_text Json (again ∷ held ∷ [])
    ≡ ended (codes "{\"record\":\"opened\",\"offset\":8,\"boot\":2}")
    ++ ended (codes "{\"record\":\"held\",\"offset\":49,\"xid\":\"1:aa:bb\",\"timestamp\":4294967297,"
    ++ codes "\"writes\":[{\"key\":\"6b\",\"value\":\"76\"}]}")
    ++ ended (codes "{\"end\":110}")

-- two writes: the key 6b has the value 76, and the key 6c is deleted
abbrev pub base_of_two : List ℕ
base_of_two =
    7 ∷ 0 ∷ 0 ∷ 0 ∷ 1 ∷ 0 ∷ 0 ∷ 0 ∷ 1 ∷ 0 ∷ 2 ∷ 1 ∷ 107 ∷ 1 ∷ 0 ∷ 1 ∷ 118 ∷ 1 ∷ 108 ∷ 0 ∷ []

abbrev pub BasedObjects : Type 0
BasedObjects =
    scan_text Json (base_of_two ∷ known ∷ [])
    ≡ ended (codes "{\"record\":\"base\",\"offset\":8,\"timestamp\":4294967297,"
    ++ codes "\"writes\":[{\"key\":\"6b\",\"value\":\"76\"},{\"key\":\"6c\",\"value\":null}]}")
    ++ ended (codes "{\"record\":\"known\",\"offset\":64,\"xid\":\"1:aa:bb\",\"direction\":\"commit\"}")
    ++ ended (codes "{\"end\":110}")

abbrev pub OtherObjects : Type 0
OtherObjects =
    scan_text Json (committed ∷ (4 ∷ name ++ 2 ∷ []) ∷ (5 ∷ name ++ 2 ∷ []) ∷ (6 ∷ name) ∷ (0 ∷ []) ∷ [])
    ≡ ended (codes "{\"record\":\"committed\",\"offset\":8,\"xid\":\"1:aa:bb\",\"timestamp\":4294967298,"
    ++ codes "\"writes\":[{\"key\":\"6b\",\"value\":null}]}")
    ++ ended (codes "{\"record\":\"completed\",\"offset\":66,\"xid\":\"1:aa:bb\",\"direction\":\"rollback\"}")
    ++ ended (codes "{\"record\":\"decided\",\"offset\":112,\"xid\":\"1:aa:bb\",\"direction\":\"rollback\"}")
    ++ ended (codes "{\"record\":\"forgotten\",\"offset\":158,\"xid\":\"1:aa:bb\"}")
    ++ ended (codes "{\"record\":\"malformed\",\"offset\":203}")
    ++ ended (codes "{\"end\":240}")

-- The offset after some records is the length of the file that has them, in each format.
abbrev pub OffsetsInTheFile : Type 0
OffsetsInTheFile = (format : Format) (bodies : List (List ℕ)) → behind FIRST_OFFSET bodies ≡ length (text format bodies)
