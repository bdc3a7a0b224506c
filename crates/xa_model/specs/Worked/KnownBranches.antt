-- Worked rows of the list of known branches: what is told of each, in their order, above a cursor.
use Rattle.std.specs.Prelude.{ℕ, ℤ, ◌+◌, Some, None, List, [], ◌∷◌, ◌++◌}
use Rattle.xa_codes.specs.declared.codes.TheConstants.{XA_OK, XA_RBROLLBACK, XA_RBOTHER, XA_RBCOMMFAIL}
use Rattle.xa_codes.specs.declared.direction.Direction.TheVariants as direction
use Rattle.xa_xid.specs.Triple.{Triple}
use Rattle.xa_frame.specs.declared.body.Body.TheVariants as body
use Rattle.xa_frame.specs.declared.known_branch.BranchState.{BranchState}
use Rattle.xa_frame.specs.declared.known_branch.BranchState.TheVariants as state
use Rattle.xa_frame.specs.declared.known_branch.KnownBranch.{KnownBranch}
use Rattle.xa_frame.specs.declared.reply.Reply.{Reply}
use Rattle.xa_frame.specs.declared.request.Request.TheVariants.{Branches}
use Rattle.xa_model.specs.declared.outcome.Outcome.TheVariants.{Quiet}
use Rattle.xa_model.specs.Answer.{plain, carrying}
use Rattle.xa_model.specs.Worked.{done}
use Rattle.xa_model.specs.Worked.Log.{xid_1}
use Rattle.xa_model.specs.Worked.Scripts.{Replied, new_manager, xid_a, xid_b, xid_c, time, kept, hangs_up, session}
use Rattle.xa_model.specs.Worked.Scripts.{two_sessions, begins, writes, joins, suspends, migrates, ends, fails}
use Rattle.xa_model.specs.Worked.Scripts.{prepares, decides, forgets, dooms, restarts, branches}
use Rattle.xa_model.specs.Worked.Turns.{Takes, asking, idle, marked_idle, in_doubt, without_branch}

-- the n-th timestamp of the first boot
abbrev pub stamp : ℕ → ℕ
stamp n = 4294967296 + n

-- a branch with this many active, suspended and loose associations
abbrev pub held : Triple → BranchState → ℤ → ℕ → ℕ → ℕ → ℕ → KnownBranch
held xid state mark timestamp active suspended loose = record {
  xid = xid;
  state = state;
  mark = mark;
  timestamp = timestamp;
  associations = record { active = active; suspended = suspended; loose = loose };
}

-- with none
abbrev pub left : Triple → BranchState → ℤ → ℕ → KnownBranch
left xid state mark timestamp = held xid state mark timestamp 0 0 0

abbrev pub tells : List KnownBranch → Reply
tells known = carrying (body.Branches known)

-- sessions work for a branch together, suspend it, and let it migrate; any connected session may ask
abbrev pub TellsHolders : Type 0
TellsHolders =
    Replied new_manager (
    two_sessions
    ++ session 3
    ++ branches 1 256 None (tells [])
    ∷ begins 1 xid_b (time 1)
    ∷ branches 1 256 None (tells (held xid_b state.Working XA_OK (stamp 1) 1 0 0 ∷ []))
    ∷ joins 2 xid_b (time 1)
    ∷ joins 3 xid_b (time 1)
    ∷ suspends 2 xid_b done
    ∷ migrates 3 xid_b done
    ∷ branches 3 1 None (tells (held xid_b state.Working XA_OK (stamp 1) 1 1 1 ∷ []))
    ∷ hangs_up 2
    ∷ branches 3 1 None (tells (held xid_b state.Working XA_RBCOMMFAIL (stamp 1) 1 0 1 ∷ []))
    ∷ [])

-- ascending by XID, whichever began first; above an XID that is known or isn't; at most as many as it asks for
abbrev pub TellsInOrder : Type 0
TellsInOrder =
    let a = left xid_a state.Working XA_RBOTHER (stamp 2) in
    let b = left xid_b state.Working XA_RBROLLBACK (stamp 3) in
    let c = left xid_c state.Working XA_OK (stamp 1) in
    Replied new_manager (
    session 1
    ++ begins 1 xid_c (time 1)
    ∷ ends 1 xid_c done
    ∷ begins 1 xid_a (time 2)
    ∷ ends 1 xid_a done
    ∷ dooms 1 xid_a done
    ∷ begins 1 xid_b (time 3)
    ∷ fails 1 xid_b (plain XA_RBROLLBACK)
    ∷ branches 1 256 None (tells (a ∷ b ∷ c ∷ []))
    ∷ branches 1 2 None (tells (a ∷ b ∷ []))
    ∷ branches 1 2 (Some xid_a) (tells (b ∷ c ∷ []))
    ∷ branches 1 1 (Some xid_1) (tells (b ∷ []))
    ∷ branches 1 2 (Some xid_b) (tells (c ∷ []))
    ∷ branches 1 256 (Some xid_c) (tells [])
    ∷ [])

-- a branch that is prepared keeps its timestamp; one that the operator completed has none, and is told until it is
-- forgotten; a restart leaves only those two
abbrev pub TellsLasting : Type 0
TellsLasting =
    let a = left xid_a state.Committed XA_OK 0 in
    let b = left xid_b state.RolledBack XA_OK 0 in
    let c = left xid_c state.Prepared XA_OK (stamp 3) in
    Replied new_manager (
    session 1
    ++ writes 1 xid_a 1 0x76
    ++ kept (prepares 1 xid_a done)
    ∷ writes 1 xid_b 2 0x77
    ++ kept (prepares 1 xid_b done)
    ∷ writes 1 xid_c 3 0x78
    ++ kept (prepares 1 xid_c done)
    ∷ branches 1 1 None (tells (left xid_a state.Prepared XA_OK (stamp 1) ∷ []))
    ∷ kept (decides 1 direction.Commit xid_a done)
    ∷ kept (decides 1 direction.Rollback xid_b done)
    ∷ begins 1 xid_1 (time 4)
    ∷ branches 1 256 None (tells (a ∷ held xid_1 state.Working XA_OK (stamp 4) 1 0 0 ∷ b ∷ c ∷ []))
    ∷ restarts 1 0 done
    ∷ branches 1 256 None (tells (a ∷ b ∷ c ∷ []))
    ∷ kept (forgets 1 xid_a done)
    ∷ branches 1 256 None (tells (b ∷ c ∷ []))
    ∷ [])

-- nothing changes
abbrev pub ChangesNothing : Type 0
ChangesNothing =
    Takes (asking idle (Branches 256 None)) Quiet (tells (left xid_1 state.Working XA_OK (stamp 1) ∷ [])) idle
    × Takes (asking marked_idle (Branches 1 None)) Quiet (tells (left xid_1 state.Working XA_RBOTHER (stamp 1) ∷ []))
    marked_idle
    × Takes (asking in_doubt (Branches 256 (Some xid_a))) Quiet (tells (left xid_1 state.Prepared XA_OK (stamp 1) ∷ []))
    in_doubt
    × Takes (asking in_doubt (Branches 256 (Some xid_1))) Quiet (tells []) in_doubt
    × Takes (asking without_branch (Branches 256 None)) Quiet (tells []) without_branch
