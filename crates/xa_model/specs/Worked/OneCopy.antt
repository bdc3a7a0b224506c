-- Worked lists of committed branches: which are one copy. And what becomes of a get that is answered.
use Rattle.std.specs.Prelude.{ℕ, ◌≡◌, Option, Some, None, List, [], ◌∷◌}
use Rattle.xa_frame.specs.declared.body.Body.TheVariants as body
use Rattle.xa_frame.specs.declared.request.Request.TheVariants.{Get}
use Rattle.xa_model.specs.declared.event.Event.TheVariants.{Call}
use Rattle.xa_model.specs.declared.outcome.Outcome.TheVariants.{Quiet}
use Rattle.xa_model.specs.State.{State, Branch, Operation, Got, Wrote, Committed, Active, Key, Read}
use Rattle.xa_model.specs.State.{new_work, new_branch, new_session}
use Rattle.xa_model.specs.Associations.{as_opened}
use Rattle.xa_model.specs.Answer.{carrying}
use Rattle.xa_model.specs.Turn.{Asked}
use Rattle.xa_model.specs.Step.{step}
use Rattle.xa_model.specs.OneCopy.{IsOneCopy}
use Rattle.xa_model.specs.Worked.Scripts.{new_manager, xid_a}

abbrev pub branch_at : ℕ → List Operation → Branch
branch_at t operations = record { timestamp = t; operations = operations; phase = Committed }

abbrev key : List ℕ
key = 107 ∷ []

abbrev written : Option (List ℕ)
written = Some (1 ∷ [])

-- the write of 3 is none of the reader's at 2, and its own get is none of its later write
abbrev pub ReadsBelow : Type 0
ReadsBelow =
    IsOneCopy (
    branch_at 3 (Wrote key None ∷ [])
    ∷ branch_at 2 (Wrote key None ∷ Got key written 1 ∷ [])
    ∷ branch_at 1 (Wrote key written ∷ [])
    ∷ [])

-- the reader at 3 doesn't know of the delete by 2
abbrev pub MissesDelete : Type 0
MissesDelete =
    IsOneCopy (
    branch_at 3 (Got key written 1 ∷ [])
    ∷ branch_at 2 (Wrote key None ∷ [])
    ∷ branch_at 1 (Wrote key written ∷ [])
    ∷ [])
    → ⊥

-- nor one of its own
abbrev pub MissesOwnDelete : Type 0
MissesOwnDelete =
    IsOneCopy (branch_at 2 (Got key written 1 ∷ Wrote key None ∷ []) ∷ branch_at 1 (Wrote key written ∷ []) ∷ []) → ⊥

-- the reader at 1 has read what was written later
abbrev pub ReadsAbove : Type 0
ReadsAbove = IsOneCopy (branch_at 2 (Wrote key written ∷ []) ∷ branch_at 1 (Got key written 2 ∷ []) ∷ []) → ⊥

-- session 1 works for a branch at 2, which did this, above a write by 1; these reads were answered
abbrev pub at_work : List Operation → List Read → State
at_work operations reads = record new_manager {
  sessions = as_opened (new_session 1) ∷ [];
  associations = record { xid = xid_a; holder = Active 1 } ∷ [];
  branches =
      record (new_branch 2 xid_a (new_work 0 0)) { operations = operations }
      ∷ branch_at 1 (Wrote key written ∷ []) ∷ [];
  reads = reads;
}

-- a get has in its branch's operations just what it was answered, and its source and its reader among the reads
abbrev pub RecordsRead : Type 0
RecordsRead =
    step (at_work [] []) (Asked (Call 1 (Get key))) Quiet
    ≡ Some (record {
      reply = carrying (body.Value (1 ∷ []));
      after = at_work (Got key written 1 ∷ []) (record { reader = 2; over = Key key 1 } ∷ []);
    })
