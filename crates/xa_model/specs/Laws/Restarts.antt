-- A restart that no session asked for is one that a session asks for: one that is connected, or one that comes for it
-- and goes.
use Rattle.std.specs.Prelude.{◌≡◌, ◌≢◌, ℕ, pos, Some, List, [], ◌∷◌}
use Rattle.xa_frame.specs.declared.body.Body.TheVariants.{Number}
use Rattle.xa_frame.specs.declared.reply.Reply.{Reply}
use Rattle.xa_frame.specs.declared.request.Request.TheVariants.{Restart}
use Rattle.xa_model.specs.declared.event.Event.TheVariants.{Connect, Hangup, Call}
use Rattle.xa_model.specs.declared.outcome.Outcome.{Outcome}
use Rattle.xa_model.specs.declared.outcome.Outcome.TheVariants.{Quiet}
use Rattle.xa_model.specs.State.{State, Session, Ended}
use Rattle.xa_model.specs.Answer.{Answer, plain, carrying}
use Rattle.xa_model.specs.Turn.{Asked, taken}
use Rattle.xa_model.specs.Restarting.{restart_turn}
use Rattle.xa_model.specs.Invariants.Sound.{IsSound}
use Rattle.xa_model.specs.Events.{HaveHappened}
use Rattle.xa_model.specs.History.{Entry, Leads}

-- a session asks for it
abbrev pub asks : ℕ → Outcome → Reply → Entry
asks n outcome reply = record { happening = Asked (Call n Restart); outcome = outcome; reply = reply }

-- a session connects if there is none, and is hung up
abbrev pub comes : Entry
comes = record { happening = Asked Connect; outcome = Quiet; reply = carrying (Number 1) }

abbrev pub goes : Entry
goes = record { happening = Asked (Hangup 1); outcome = Quiet; reply = plain (pos 0) }

-- the entries of a restart with this outcome and reply, by the sessions that are connected
abbrev pub restart_entries : List Session → Outcome → Reply → List Entry
restart_entries [] outcome reply = comes ∷ asks 1 outcome reply ∷ goes ∷ []
restart_entries (x ∷ xs) outcome reply = asks x.number outcome reply ∷ []

-- they lead to the state that the restart leads to
abbrev pub RestartLeads : Type 0
RestartLeads =
    (s : State) (outcome : Outcome) (a : Answer) → IsSound s → s.standing ≢ Ended
    → taken (restart_turn s) outcome ≡ Some a
    → Leads s (restart_entries s.sessions outcome a.reply) a.after

abbrev pub RestartHappens : Type 0
RestartHappens =
    (sessions : List Session) (outcome : Outcome) (reply : Reply)
    → HaveHappened (restart_entries sessions outcome reply)
