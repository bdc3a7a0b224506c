-- What a task asks of a server, and what it goes on to ask by the answers.
use Rattle.std.specs.Prelude.{◌==◌, ◌-◌, ℕ, Bool, true, false, not, ◌&&◌, ◌||◌, if◌then◌else◌, List, [], ◌∷◌, ◌++◌, length, take, flat_map, position, slice_get, Some, None}
use Rattle.std.specs.Option.{option_map_or}
use Rattle.std.specs.Ordering.{int_eq}
use Rattle.xa_codes.specs.declared.codes.TheConstants.{XA_OK}
use Rattle.xa_codes.specs.declared.flags.TheConstants.{TMNOFLAGS, TMSTARTRSCAN}
use Rattle.xa_frame.specs.declared.body.Body.{Body}
use Rattle.xa_frame.specs.declared.body.Body.TheVariants as body
use Rattle.xa_frame.specs.declared.known_branch.AssociationCounts.{AssociationCounts}
use Rattle.xa_frame.specs.declared.known_branch.BranchState.{BranchState}
use Rattle.xa_frame.specs.declared.known_branch.BranchState.TheVariants.{Working}
use Rattle.xa_frame.specs.declared.known_branch.KnownBranch.{KnownBranch}
use Rattle.xa_frame.specs.declared.question.Question.TheVariants as question
use Rattle.xa_frame.specs.declared.request.Request.TheVariants as request
use Rattle.xa_operate.specs.declared.agenda.TheConstants.{PAGE}
use Rattle.xa_operate.specs.declared.asking.Asking.{Asking}
use Rattle.xa_operate.specs.declared.asking.Asking.TheVariants as asking
use Rattle.xa_operate.specs.declared.task.Task.{Task}
use Rattle.xa_operate.specs.declared.task.Task.TheVariants.{Status, Metrics, AtWork, Branches, Branch, Abandoned, Recover, RollbackMarked, Commit, Rollback, Forget, Decide, Doom, Disconnect, Trim, Restart}
use Rattle.xa_operate.specs.Askings.{called}
use Rattle.xa_operate.specs.Tasks.{opens_session}
use Rattle.xa_talk.specs.declared.answered.Answered.{Answered}
use Rattle.xa_talk.specs.declared.answered.Answered.TheVariants as answered
use Rattle.xa_xid.specs.Triple.{xid_eq}

abbrev pub question_of : Task → Asking
question_of Status = asking.Question question.Status
question_of Metrics = asking.Question question.Status
question_of AtWork = asking.Question question.Status
question_of Branches = called (request.Branches PAGE None)
question_of (Branch xid) = called (request.Branches PAGE None)
question_of Abandoned = called (request.Branches PAGE None)
question_of RollbackMarked = called (request.Branches PAGE None)
question_of Recover = called (request.Recover TMSTARTRSCAN PAGE)
question_of (Commit xid) = called (request.Commit TMNOFLAGS xid)
question_of (Rollback xid) = called (request.Rollback TMNOFLAGS xid)
question_of (Forget xid) = called (request.Forget TMNOFLAGS xid)
question_of (Decide direction xid) = called (request.Decide direction xid)
question_of (Doom xid) = called (request.Doom xid)
question_of (Disconnect session) = asking.Disconnect session
question_of Trim = called request.Trim
question_of Restart = called request.Restart

-- the resource manager is opened by its name where that is needed, and then the task's question is asked
abbrev pub asked_first : List ℕ → Task → List Asking
asked_first name task =
    if opens_session task then called (request.Open TMNOFLAGS name) ∷ question_of task ∷ []
    else question_of task ∷ []

-- a page that is full: there may be more
abbrev pub is_full : ℕ → Bool
is_full count = count == PAGE

-- the scan goes on
abbrev pub after_scan : ℕ → List Asking
after_scan count = if is_full count then called (request.Recover TMNOFLAGS PAGE) ∷ [] else []

-- the list goes on above its last branch
abbrev pub after_page : List KnownBranch → List Asking
after_page branches =
    if is_full (length branches)
    then option_map_or (λ last. called (request.Branches PAGE (Some last.xid)) ∷ []) (slice_get branches (length branches - 1)) []
    else []

abbrev pub is_working : BranchState → Bool
is_working Working = true
is_working _ = false

abbrev pub has_no_association : AssociationCounts → Bool
has_no_association counts = (counts.active == 0) && (counts.suspended == 0) && (counts.loose == 0)

-- it is marked, so that it can only be rolled back, and nobody is at work for it
abbrev pub is_abandoned : KnownBranch → Bool
is_abandoned branch = is_working branch.state && not (int_eq branch.mark XA_OK) && has_no_association branch.associations

-- which of the branches that are listed are shown
abbrev pub shows : Task → KnownBranch → Bool
shows (Branch xid) branch = xid_eq branch.xid xid
shows Abandoned branch = is_abandoned branch
shows task branch = true

-- it is asked which sessions are at work for a branch: it is shown, and some are, or have suspended their work
abbrev pub is_to_ask : Task → KnownBranch → Bool
is_to_ask task branch = shows task branch && (not (branch.associations.active == 0) || not (branch.associations.suspended == 0))

-- the branches before the first one of which that is asked
abbrev pub before_asked : Task → List KnownBranch → List KnownBranch
before_asked task branches = option_map_or (λ index. take index branches) (position (is_to_ask task) branches) branches

-- With a branch of which it is asked those are shown that are listed between it and the next one.
abbrev pub session_of : Task → KnownBranch → List KnownBranch → List Asking
session_of task branch behind =
    if is_to_ask task branch then asking.Sessions branch (before_asked task behind) ∷ [] else []

-- the same of each
abbrev pub sessions_of : Task → List KnownBranch → List Asking
sessions_of task [] = []
sessions_of task (branch ∷ branches) = session_of task branch branches ++ sessions_of task branches

abbrev pub rollback_of : KnownBranch → List Asking
rollback_of branch = if is_abandoned branch then called (request.Rollback TMNOFLAGS branch.xid) ∷ [] else []

abbrev pub rollbacks_of : List KnownBranch → List Asking
rollbacks_of branches = flat_map rollback_of branches

-- the sessions of branches that are listed, and then the next page
abbrev pub after_listed : Task → List KnownBranch → List Asking
after_listed task branches = sessions_of task branches ++ after_page branches

-- what a task goes on to ask by the body of an answer
abbrev pub behind_body : Task → Body → List Asking
behind_body Recover (body.Xids xids) = after_scan (length xids)
behind_body Metrics (body.Status status) = asking.Metrics ∷ []
behind_body Branches (body.Branches branches) = after_listed Branches branches
behind_body (Branch xid) (body.Branches branches) = after_listed (Branch xid) branches
behind_body Abandoned (body.Branches branches) = after_listed Abandoned branches
behind_body RollbackMarked (body.Branches branches) = rollbacks_of branches ++ after_page branches
behind_body _ _ = []

abbrev pub behind : Task → Answered → List Asking
behind task (answered.Reply reply) = behind_body task reply.body
behind task (answered.Control answer) = []
