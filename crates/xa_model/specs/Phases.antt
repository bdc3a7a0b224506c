-- What becomes of a branch: how it is prepared, completed, marked and forgotten.
use Rattle.std.specs.Prelude.{ℤ, Bool, not, ◌||◌, Option, Some, None, [], ◌∷◌, nat_lt}
use Rattle.xa_codes.specs.declared.codes.TheConstants.{XAER_PROTO, XAER_NOTA, XA_HEURCOM, XA_HEURRB, XA_RBOTHER}
use Rattle.xa_codes.specs.declared.direction.Direction.{Direction}
use Rattle.xa_codes.specs.declared.direction.Direction.TheVariants as direction
use Rattle.xa_xid.specs.Triple.{Triple, xid_eq}
use Rattle.xa_frame.specs.declared.reply.Reply.{Reply}
use Rattle.xa_model.specs.State.{State, Branch, Decided, Phase, Working, Prepared, Committed, Known, Completed}
use Rattle.xa_model.specs.State.{known_as, holders_of, is_known_as, without, change}
use Rattle.xa_model.specs.Answer.{Answer, plain, ok, first, unless}
use Rattle.xa_model.specs.Associations.{is_unknown, is_lasting, with_mark}

-- the branch is rolled back, and gone; the reads that it was answered stay
abbrev pub rolled_back : State → Triple → State
rolled_back s xid = record s { branches = without (is_known_as xid) s.branches }

abbrev pub as_committed : Branch → Branch
as_committed b = record b { phase = Committed }

-- the branch is committed, and no longer known
abbrev pub committed : State → Triple → State
committed s xid = record s { branches = change (is_known_as xid) as_committed s.branches }

-- whether the branch has any association
abbrev pub is_associated : State → Triple → Bool
is_associated s xid = nat_lt 0 (holders_of s.associations xid)

-- what the operator did is answered to whoever asks for another completion, or the same
abbrev pub heuristic_code : Direction → ℤ
heuristic_code direction.Commit = XA_HEURCOM
heuristic_code direction.Rollback = XA_HEURRB

abbrev pub heuristic_refusal : Known → Option Reply
heuristic_refusal (Completed direction) = Some (plain (heuristic_code direction))
heuristic_refusal _ = None

-- Prepare, and Commit with TMONEPHASE: a branch that is associated, prepared or completed is neither prepared nor
-- committed in one phase

abbrev pub unprepared_refusal : Known → Bool → Option Reply
unprepared_refusal known is_associated =
    first ((is_unknown known, plain XAER_NOTA) ∷ (is_associated || is_lasting known, plain XAER_PROTO) ∷ [])

-- Commit in two phases: a branch that is neither prepared nor completed is not committed like this

abbrev pub two_phase_refusal : Known → Option Reply
two_phase_refusal known = first ((is_unknown known, plain XAER_NOTA) ∷ (not (is_lasting known), plain XAER_PROTO) ∷ [])

-- Rollback, by any session: of a branch without associations

abbrev pub rollback_refusal : Known → Bool → Option Reply
rollback_refusal known is_associated =
    first ((is_unknown known, plain XAER_NOTA) ∷ (is_associated, plain XAER_PROTO) ∷ [])

-- Doom, the operator's mark, also of a branch at which sessions work

abbrev pub doom_refusal : Known → Option Reply
doom_refusal known = first ((is_unknown known, plain XAER_NOTA) ∷ (is_lasting known, plain XAER_PROTO) ∷ [])

abbrev pub doomed : State → Triple → State
doomed s xid = record s { branches = change (is_known_as xid) (with_mark XA_RBOTHER) s.branches }

abbrev pub doom_by : State → Triple → Answer
doom_by s xid = unless (doom_refusal (known_as s xid)) s (ok (doomed s xid))

-- What lasts: branches that are prepared, and XIDs whose branches the operator completed

abbrev pub prepared_phase : Phase → Phase
prepared_phase (Working xid work) = Prepared xid
prepared_phase (Prepared xid) = Prepared xid
prepared_phase Committed = Committed

abbrev pub as_prepared : Branch → Branch
as_prepared b = record b { phase = prepared_phase b.phase }

-- the branch at work is prepared
abbrev pub prepared : State → Triple → State
prepared s xid = record s { branches = change (is_known_as xid) as_prepared s.branches }

-- a branch that is completed in this direction
abbrev pub completed : State → Direction → Triple → State
completed s direction.Commit xid = committed s xid
completed s direction.Rollback xid = rolled_back s xid

-- the operator completes the prepared branch, and the XID keeps the direction
abbrev pub decided_by : State → Direction → Triple → State
decided_by s direction xid =
    record (completed s direction xid) { decided = record { xid = xid; direction = direction } ∷ s.decided }

abbrev pub is_decision_of : Triple → Decided → Bool
is_decision_of xid d = xid_eq d.xid xid

-- what the operator decided is forgotten
abbrev pub forgotten : State → Triple → State
forgotten s xid = record s { decided = without (is_decision_of xid) s.decided }
