-- Worked rows at the limits: the last that is served, and the first that is refused.
use Rattle.std.specs.Prelude.{ℕ, pos, ◌+◌, ◌-◌, Some, List, [], ◌∷◌, ◌++◌, map, replicate}
use Rattle.std.specs.List.{range_with_len}
use Rattle.xa_codes.specs.declared.codes.TheConstants.{XAER_RMERR, XAER_INVAL, XAER_DUPID}
use Rattle.xa_codes.specs.declared.detail.Detail.TheVariants as detail
use Rattle.xa_xid.specs.Triple.{Triple}
use Rattle.xa_frame.specs.declared.reply.Reply.{Reply}
use Rattle.xa_frame.specs.declared.request.Request.TheVariants.{Put, Delete}
use Rattle.xa_model.specs.State.{State, Session, Branch, Association, Operation, Wrote, Key, Loose}
use Rattle.xa_model.specs.State.{new_work, new_branch, new_session}
use Rattle.xa_model.specs.Associations.{as_opened}
use Rattle.xa_model.specs.Answer.{plain, detailed}
use Rattle.xa_model.specs.Worked.{byte, done, number}
use Rattle.xa_model.specs.Worked.Scripts.{Replied, new_manager, xid_a, xid_b, time, connects, hangs_up, asks_by}
use Rattle.xa_model.specs.Worked.Scripts.{session, two_sessions, begins, joins, resumes, suspends, migrates, ends}
use Rattle.xa_model.specs.Worked.Scripts.{commits}
use Rattle.xa_model.specs.Worked.Refusals.{settled}

abbrev pub at_limit : Reply
at_limit = detailed XAER_RMERR detail.Limit

-- Sessions

-- the sessions 1 to n, opened
abbrev pub sessions_to : ℕ → List Session
sessions_to n = map (λ k. as_opened (new_session k)) (range_with_len 1 n)

-- 1,024 are connected at most, and one that is hung up makes room
abbrev pub ManySessions : Type 0
ManySessions =
    Replied (record new_manager { sessions = sessions_to 1023 })
    (connects (number 1024) ∷ connects at_limit ∷ hangs_up 7 ∷ connects (number 7) ∷ connects at_limit ∷ [])

-- Branches

-- XIDs that differ by their format numbers
abbrev pub formatted : ℕ → Triple
formatted k = record { format = pos k; gtrid = byte 0x67; bqual = [] }

-- n branches, which no session works for
abbrev pub branches_to : ℕ → List Branch
branches_to n = map (λ k. new_branch (4294967296 + (n - k)) (formatted k) (new_work 0 0)) (range_with_len 0 n)

-- 4,096 XIDs are known at most, those that the operator completed among them; a branch that is committed makes room
abbrev pub ManyBranches : Type 0
ManyBranches =
    Replied (record new_manager { given = 4095; branches = branches_to 4093; decided = settled.decided }) (
    two_sessions
    ++ begins 1 xid_a (time 4096)
    ∷ begins 2 xid_b at_limit
    ∷ begins 2 xid_a (plain XAER_DUPID)
    ∷ ends 1 xid_a done
    ∷ commits 1 xid_a done
    ∷ begins 2 xid_b (time 4097)
    ∷ begins 1 xid_a at_limit
    ∷ [])

-- a log may make more of them known: nothing begins until fewer are
abbrev pub MoreBranches : Type 0
MoreBranches =
    Replied (record new_manager { given = 4097; branches = branches_to 4097 }) (
    session 1
    ++ begins 1 xid_a at_limit
    ∷ commits 1 (formatted 0) done
    ∷ begins 1 xid_a at_limit
    ∷ commits 1 (formatted 1) done
    ∷ begins 1 xid_a (time 4098)
    ∷ [])

-- a boot gives 4,294,967,295 timestamps
abbrev pub ManyTimestamps : Type 0
ManyTimestamps =
    Replied (record new_manager { given = 4294967294 })
    (session 1 ++ session 2 ++ begins 1 xid_a (time 4294967295) ∷ begins 2 xid_b at_limit ∷ [])

-- Associations

-- the one branch 1:aa:, which has done this
abbrev pub having : List Operation → List Branch
having operations = record (new_branch 4294967297 xid_a (new_work 0 0)) { operations = operations } ∷ []

abbrev pub loose : Association
loose = record { xid = xid_a; holder = Loose }

-- a branch has at most 64 loose associations; one more is suspended all the same, but not released
abbrev pub ManyLoose : Type 0
ManyLoose =
    Replied (record new_manager { given = 1; branches = having []; associations = replicate 63 loose }) (
    two_sessions
    ++ joins 1 xid_a (time 1)
    ∷ migrates 1 xid_a done
    ∷ joins 2 xid_a (time 1)
    ∷ migrates 2 xid_a at_limit
    ∷ suspends 2 xid_a done
    ∷ resumes 1 xid_a (time 1)
    ∷ migrates 1 xid_a done
    ∷ [])

-- Keys

-- a write of each of the keys 1 to n, of one byte
abbrev pub writes_to : ℕ → List Operation
writes_to n = map (λ k. Wrote (byte k) (Some [])) (range_with_len 1 n)

-- a key that a later branch has read, so that a write of it is late
abbrev pub late_key : List ℕ
late_key = 0x6c ∷ 0x6c ∷ []

abbrev pub many_writes : State
many_writes = record new_manager {
  given = 2;
  branches = having (writes_to 255);
  reads = record { reader = 4294967298; over = Key late_key 0 } ∷ [];
}

-- a branch writes at most 256 keys; a further one is refused, also if it would be late, and leaves no mark
abbrev pub ManyKeys : Type 0
ManyKeys =
    Replied many_writes (
    session 1
    ++ joins 1 xid_a (time 1)
    ∷ asks_by 1 (Put (byte 0) (byte 0x76)) done
    ∷ asks_by 1 (Put (0x6b ∷ 0x6b ∷ []) (byte 0x76)) (detailed XAER_INVAL detail.Limit)
    ∷ asks_by 1 (Delete (0x6b ∷ 0x6b ∷ [])) (detailed XAER_INVAL detail.Limit)
    ∷ asks_by 1 (Put late_key (byte 0x76)) (detailed XAER_INVAL detail.Limit)
    ∷ asks_by 1 (Put (byte 0) []) done
    ∷ asks_by 1 (Delete (byte 0xff)) done
    ∷ [])
