-- Branches: the known branches, ascending by XID, with what is told of each. Asking changes nothing.
use Rattle.std.specs.Prelude.{ℕ, ℤ, Bool, true, false, ◌&&◌, Option, Some, None, List, ◌++◌, map, filter, filter_map, take}
use Rattle.xa_codes.specs.declared.codes.TheConstants.{XA_OK}
use Rattle.xa_codes.specs.declared.direction.Direction.{Direction}
use Rattle.xa_codes.specs.declared.direction.Direction.TheVariants as direction
use Rattle.xa_xid.specs.Triple.{Triple, xid_eq}
use Rattle.xa_frame.specs.declared.body.Body.TheVariants as body
use Rattle.xa_frame.specs.declared.known_branch.AssociationCounts.{AssociationCounts}
use Rattle.xa_frame.specs.declared.known_branch.BranchState.TheVariants as state
use Rattle.xa_frame.specs.declared.known_branch.KnownBranch.{KnownBranch}
use Rattle.xa_model.specs.State.{State, Branch, Phase, Working, Prepared, Committed, Association, Holder, Active}
use Rattle.xa_model.specs.State.{Suspended, Loose, count, name_of, known_of, decided_of, loose_of}
use Rattle.xa_model.specs.Answer.{Answer, carrying, answer}
use Rattle.xa_model.specs.Listed.{in_order, is_above}

-- the XIDs that are known: of branches at work and in doubt, and those that the operator completed
abbrev pub known_names : State → List Triple
known_names s = filter_map (λ b. name_of b.phase) s.branches ++ map (λ d. d.xid) s.decided

-- the first `count` of them that are above the given one, or of all, in their order
abbrev pub known_after : Option Triple → ℕ → State → List Triple
known_after after count s = take count (filter (is_above after) (in_order (known_names s)))

-- How many associations an XID has: of sessions at work, of sessions that have suspended theirs, and of nobody.

abbrev pub is_of_one_at_work : Holder → Bool
is_of_one_at_work (Active n) = true
is_of_one_at_work (Suspended n) = false
is_of_one_at_work Loose = false

abbrev pub is_of_one_suspended : Holder → Bool
is_of_one_suspended (Active n) = false
is_of_one_suspended (Suspended n) = true
is_of_one_suspended Loose = false

abbrev pub counts_of : List Association → Triple → AssociationCounts
counts_of held xid = record {
  active = count (λ a. is_of_one_at_work a.holder && xid_eq a.xid xid) held;
  suspended = count (λ a. is_of_one_suspended a.holder && xid_eq a.xid xid) held;
  loose = loose_of held xid;
}

-- What is told of an XID: nothing, if it isn't known. The mark is XA_OK if there is none, and the timestamp 0 of a
-- branch that the operator completed.

abbrev pub mark_or_ok : Option ℤ → ℤ
mark_or_ok (Some code) = code
mark_or_ok None = XA_OK

abbrev pub told_by : Triple → AssociationCounts → ℕ → Phase → Option KnownBranch
told_by xid counts timestamp (Working x work) =
    Some (record {
      xid = xid;
      state = state.Working;
      mark = mark_or_ok work.mark;
      timestamp = timestamp;
      associations = counts;
    })
told_by xid counts timestamp (Prepared x) =
    Some (record { xid = xid; state = state.Prepared; mark = XA_OK; timestamp = timestamp; associations = counts })
told_by xid counts timestamp Committed = None

abbrev pub told_completed : Triple → AssociationCounts → Option Direction → Option KnownBranch
told_completed xid counts (Some direction.Commit) =
    Some (record { xid = xid; state = state.Committed; mark = XA_OK; timestamp = 0; associations = counts })
told_completed xid counts (Some direction.Rollback) =
    Some (record { xid = xid; state = state.RolledBack; mark = XA_OK; timestamp = 0; associations = counts })
told_completed xid counts None = None

abbrev pub told_among : Triple → AssociationCounts → Option Branch → Option Direction → Option KnownBranch
told_among xid counts (Some b) direction = told_by xid counts b.timestamp b.phase
told_among xid counts None direction = told_completed xid counts direction

abbrev pub told_of : State → Triple → Option KnownBranch
told_of s xid =
    told_among xid (counts_of s.associations xid) (known_of s.branches xid) (decided_of s.decided xid)

-- what is told of the first `count` known XIDs above the given one, or of all
abbrev pub branches_after : Option Triple → ℕ → State → List KnownBranch
branches_after after count s = filter_map (told_of s) (known_after after count s)

abbrev pub branches_by : State → ℕ → Option Triple → Answer
branches_by s count after = answer (carrying (body.Branches (branches_after after count s))) s
