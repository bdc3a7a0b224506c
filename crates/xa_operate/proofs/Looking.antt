-- What is asked before a task is done changes nothing.
use Rattle.std.proofs.Common.{◌-◌, Bool, true, false, List, [], ◌∷◌, length, Option, Some, None, All, if◌then◌else◌, slice_get}
use Rattle.std.specs.Option.{option_map_or}
use Rattle.std.proofs.lemmas.List.Elements.{All-append, All-cons, All-nil}
use Rattle.xa_frame.specs.declared.body.Body.{Body}
use Rattle.xa_frame.specs.declared.body.Body.TheVariants as body
use Rattle.xa_frame.specs.declared.known_branch.KnownBranch.{KnownBranch}
use Rattle.xa_frame.specs.declared.request.Request.TheVariants as request
use Rattle.xa_operate.specs.Agendas.{after_listed, after_page, before_asked, behind, behind_body, is_full, is_to_ask, session_of, sessions_of}
use Rattle.xa_operate.specs.Askings.{called}
use Rattle.xa_operate.specs.Previews.{LooksOnly, preview_of}
use Rattle.xa_operate.specs.declared.agenda.TheConstants.{PAGE}
use Rattle.xa_operate.specs.declared.asking.Asking.TheVariants as asking
use Rattle.xa_operate.specs.declared.task.Task.{Task}
use Rattle.xa_operate.specs.declared.task.Task.TheVariants.{Status, Metrics, AtWork, Branches, Branch, Abandoned, Recover, RollbackMarked, Commit, Rollback, Forget, Decide, Doom, Disconnect, Trim, Restart}
use Rattle.xa_talk.specs.declared.answered.Answered.{Answered}
use Rattle.xa_talk.specs.declared.answered.Answered.TheVariants as answered
use Rattle.xa_xid.specs.Triple.{Triple}

if_either : {X : Type 0} (P : X → Type 0) (b : Bool) (xs ys : List X) → All P xs → All P ys → All P (if b then xs else ys)
if_either P true xs ys h k = h
if_either P false xs ys h k = k

sessions_look : (task : Task) (branches : List KnownBranch) → All LooksOnly (sessions_of task branches)
sessions_look task [] = All-nil LooksOnly
sessions_look task (b ∷ branches) =
    All-append LooksOnly (session_of task b branches) (sessions_of task branches)
    (if_either LooksOnly (is_to_ask task b) (asking.Sessions b (before_asked task branches) ∷ []) []
    (All-cons LooksOnly (asking.Sessions b (before_asked task branches)) [] tt (All-nil LooksOnly)) (All-nil LooksOnly))
    (sessions_look task branches)

last_looks : (last : Option KnownBranch)
    → All LooksOnly (option_map_or (λ (b : KnownBranch). called (request.Branches PAGE (Some b.xid)) ∷ []) last [])
last_looks None = All-nil LooksOnly
last_looks (Some b) = All-cons LooksOnly (called (request.Branches PAGE (Some b.xid))) [] tt (All-nil LooksOnly)

page_looks : (branches : List KnownBranch) → All LooksOnly (after_page branches)
page_looks branches =
    if_either LooksOnly (is_full (length branches)) _ [] (last_looks (slice_get branches (length branches - 1))) (All-nil LooksOnly)

listed_looks : (task : Task) (branches : List KnownBranch) → All LooksOnly (after_listed task branches)
listed_looks task branches =
    All-append LooksOnly (sessions_of task branches) (after_page branches) (sessions_look task branches) (page_looks branches)

branch_looks : (xid : Triple) (b : Body) → All LooksOnly (behind_body (Branch xid) b)
branch_looks xid body.Nothing = All-nil LooksOnly
branch_looks xid (body.Number n) = All-nil LooksOnly
branch_looks xid (body.Value v) = All-nil LooksOnly
branch_looks xid body.Absent = All-nil LooksOnly
branch_looks xid (body.Xids xids) = All-nil LooksOnly
branch_looks xid (body.Branches branches) = listed_looks (Branch xid) branches
branch_looks xid (body.Status status) = All-nil LooksOnly

abandoned_looks : (b : Body) → All LooksOnly (behind_body Abandoned b)
abandoned_looks body.Nothing = All-nil LooksOnly
abandoned_looks (body.Number n) = All-nil LooksOnly
abandoned_looks (body.Value v) = All-nil LooksOnly
abandoned_looks body.Absent = All-nil LooksOnly
abandoned_looks (body.Xids xids) = All-nil LooksOnly
abandoned_looks (body.Branches branches) = listed_looks Abandoned branches
abandoned_looks (body.Status status) = All-nil LooksOnly

body_looks : (task : Task) (b : Body) → All LooksOnly (behind_body (preview_of task) b)
body_looks Status b = All-nil LooksOnly
body_looks Metrics b = All-nil LooksOnly
body_looks AtWork b = All-nil LooksOnly
body_looks Branches b = All-nil LooksOnly
body_looks (Branch xid) b = All-nil LooksOnly
body_looks Abandoned b = All-nil LooksOnly
body_looks Recover b = All-nil LooksOnly
body_looks RollbackMarked b = abandoned_looks b
body_looks (Commit xid) b = branch_looks xid b
body_looks (Rollback xid) b = branch_looks xid b
body_looks (Forget xid) b = branch_looks xid b
body_looks (Decide direction xid) b = branch_looks xid b
body_looks (Doom xid) b = branch_looks xid b
body_looks (Disconnect session) b = All-nil LooksOnly
body_looks Trim b = All-nil LooksOnly
body_looks Restart b = All-nil LooksOnly

pub further_looks : (task : Task) (answer : Answered) → All LooksOnly (behind (preview_of task) answer)
further_looks task (answered.Reply reply) = body_looks task reply.body
further_looks task (answered.Control answer) = All-nil LooksOnly
