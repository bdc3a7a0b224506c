-- How worked rows of several sessions are written: each call beside its reply.
use Rattle.std.specs.Prelude.{ℕ, ◌≡◌, ◌+◌, Option, Some, List, [], ◌∷◌, ◌++◌, map}
use Rattle.xa_codes.specs.declared.flags.TheConstants.{TMNOFLAGS, TMJOIN, TMRESUME, TMSUCCESS, TMFAIL, TMSUSPEND}
use Rattle.xa_codes.specs.declared.flags.TheConstants.{TMMIGRATE, TMONEPHASE}
use Rattle.xa_codes.specs.declared.direction.Direction.{Direction}
use Rattle.xa_xid.specs.Triple.{Triple}
use Rattle.xa_frame.specs.declared.body.Body.TheVariants as body
use Rattle.xa_frame.specs.declared.reply.Reply.{Reply}
use Rattle.xa_frame.specs.declared.request.Request.{Request}
use Rattle.xa_frame.specs.declared.request.Request.TheVariants.{Open, Close, Start, End, Prepare, Commit, Rollback}
use Rattle.xa_frame.specs.declared.request.Request.TheVariants.{Forget, Recover, Get, Put, Delete, Decide, Doom}
use Rattle.xa_frame.specs.declared.request.Request.TheVariants.{Restart, Timeout, Tick, Trim, Branches}
use Rattle.xa_model.specs.declared.event.Event.{Event}
use Rattle.xa_model.specs.declared.event.Event.TheVariants.{Connect, Hangup, Call}
use Rattle.xa_model.specs.declared.outcome.Outcome.{Outcome}
use Rattle.xa_model.specs.declared.outcome.Outcome.TheVariants.{Quiet, Appended, Reread}
use Rattle.xa_model.specs.declared.outcome.Appending.TheVariants.{Kept, Refused, Lost}
use Rattle.xa_model.specs.State.{State}
use Rattle.xa_model.specs.Answer.{carrying}
use Rattle.xa_model.specs.Turn.{Asked}
use Rattle.xa_model.specs.History.{Entry, fresh, replay}
use Rattle.xa_model.specs.Laws.{happened}
use Rattle.xa_model.specs.Worked.{xarm, byte, xid, done, number}

-- from this state on, each is replied what stands beside it
abbrev pub Replied : State → List Entry → Type 0
Replied start entries = replay start (happened entries) ≡ Some (map (λ e. e.reply) entries)

-- a new manager with the name xarm and a log of 2 ^ 30 bytes
abbrev pub new_manager : State
new_manager = fresh xarm 1073741824

abbrev pub xid_a : Triple
xid_a = xid 0xaa []

abbrev pub xid_b : Triple
xid_b = xid 0xbb []

abbrev pub xid_c : Triple
xid_c = xid 0xcc []

-- Replies

-- the n-th timestamp of the first boot
abbrev pub time : ℕ → Reply
time n = number (4294967296 + n)

-- a value of one byte, or none
abbrev pub found : ℕ → Reply
found b = carrying (body.Value (byte b))

abbrev pub not_there : Reply
not_there = carrying body.Absent

-- What the device did

abbrev pub with_outcome : Outcome → Entry → Entry
with_outcome outcome e = record e { outcome = outcome }

-- the record that is appended is kept, refused or lost
abbrev pub kept : Entry → Entry
kept e = with_outcome (Appended Kept) e

abbrev pub refused : Entry → Entry
refused e = with_outcome (Appended Refused) e

abbrev pub lost : Entry → Entry
lost e = with_outcome (Appended Lost) e

-- Sessions

abbrev pub quietly : Event → Reply → Entry
quietly event reply = record { happening = Asked event; outcome = Quiet; reply = reply }

abbrev pub connects : Reply → Entry
connects reply = quietly Connect reply

abbrev pub hangs_up : ℕ → Entry
hangs_up n = quietly (Hangup n) done

abbrev pub asks_by : ℕ → Request → Reply → Entry
asks_by n request reply = quietly (Call n request) reply

abbrev pub opens : ℕ → Reply → Entry
opens n reply = asks_by n (Open TMNOFLAGS xarm) reply

abbrev pub closes : ℕ → Reply → Entry
closes n reply = asks_by n (Close TMNOFLAGS) reply

-- the next session is n, and opens
abbrev pub session : ℕ → List Entry
session n = connects (number n) ∷ opens n done ∷ []

abbrev pub two_sessions : List Entry
two_sessions = session 1 ++ session 2

-- What session n asks of the branch with an XID

abbrev pub begins : ℕ → Triple → Reply → Entry
begins n x reply = asks_by n (Start TMNOFLAGS x) reply

abbrev pub joins : ℕ → Triple → Reply → Entry
joins n x reply = asks_by n (Start TMJOIN x) reply

abbrev pub resumes : ℕ → Triple → Reply → Entry
resumes n x reply = asks_by n (Start TMRESUME x) reply

abbrev pub suspends : ℕ → Triple → Reply → Entry
suspends n x reply = asks_by n (End TMSUSPEND x) reply

abbrev pub migrates : ℕ → Triple → Reply → Entry
migrates n x reply = asks_by n (End (TMSUSPEND + TMMIGRATE) x) reply

abbrev pub ends : ℕ → Triple → Reply → Entry
ends n x reply = asks_by n (End TMSUCCESS x) reply

abbrev pub fails : ℕ → Triple → Reply → Entry
fails n x reply = asks_by n (End TMFAIL x) reply

-- in one phase, and in two
abbrev pub commits : ℕ → Triple → Reply → Entry
commits n x reply = asks_by n (Commit TMONEPHASE x) reply

abbrev pub completes : ℕ → Triple → Reply → Entry
completes n x reply = asks_by n (Commit TMNOFLAGS x) reply

abbrev pub prepares : ℕ → Triple → Reply → Entry
prepares n x reply = asks_by n (Prepare TMNOFLAGS x) reply

abbrev pub rolls_back : ℕ → Triple → Reply → Entry
rolls_back n x reply = asks_by n (Rollback TMNOFLAGS x) reply

abbrev pub dooms : ℕ → Triple → Reply → Entry
dooms n x reply = asks_by n (Doom x) reply

abbrev pub decides : ℕ → Direction → Triple → Reply → Entry
decides n direction x reply = asks_by n (Decide direction x) reply

abbrev pub forgets : ℕ → Triple → Reply → Entry
forgets n x reply = asks_by n (Forget TMNOFLAGS x) reply

-- What session n asks of all branches

abbrev pub recovers : ℕ → ℕ → ℕ → Reply → Entry
recovers n flags count reply = asks_by n (Recover flags count) reply

abbrev pub branches : ℕ → ℕ → Option Triple → Reply → Entry
branches n count after reply = asks_by n (Branches count after) reply

-- of the records whose fates were unknown the first `survived` are there, and the new boot is logged
abbrev pub restarts : ℕ → ℕ → Reply → Entry
restarts n survived reply = with_outcome (Reread survived (Some Kept)) (asks_by n Restart reply)

-- a new log begins
abbrev pub trims : ℕ → Reply → Entry
trims n reply = asks_by n Trim reply

-- the time limit of the branches that the session begins from now on, and the moment that it tells
abbrev pub limits : ℕ → ℕ → Reply → Entry
limits n seconds reply = asks_by n (Timeout seconds) reply

abbrev pub ticks : ℕ → ℕ → Reply → Entry
ticks n moment reply = asks_by n (Tick moment) reply

-- What session n asks of the one key that the rows are about, 6b

abbrev pub gets : ℕ → Reply → Entry
gets n reply = asks_by n (Get (byte 0x6b)) reply

abbrev pub puts : ℕ → ℕ → Reply → Entry
puts n b reply = asks_by n (Put (byte 0x6b) (byte b)) reply

abbrev pub deletes : ℕ → Reply → Entry
deletes n reply = asks_by n (Delete (byte 0x6b)) reply

-- Branches

-- it begins the branch with the t-th timestamp, puts this there, and ends its work
abbrev pub writes : ℕ → Triple → ℕ → ℕ → List Entry
writes n x t b = begins n x (time t) ∷ puts n b done ∷ ends n x done ∷ []

-- each of two sessions is at work for a branch, the first for the earlier one
abbrev pub two_branches : List Entry
two_branches = two_sessions ++ begins 1 xid_a (time 1) ∷ begins 2 xid_b (time 2) ∷ []
