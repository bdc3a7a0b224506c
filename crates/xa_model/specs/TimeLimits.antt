-- Time limits: a session's limit holds for the branches that it begins, and a moment that is told marks each branch at
-- work whose limit is over. No clock is read: moments are told in seconds, and never go back.
use Rattle.std.specs.Prelude.{ℕ, ◌+◌, ◌==◌, Bool, false, not, ◌&&◌, map, is_none, nat_lt, if◌then◌else◌}
use Rattle.xa_codes.specs.declared.codes.TheConstants.{XA_RBTIMEOUT}
use Rattle.xa_frame.specs.declared.body.Body.TheVariants as body
use Rattle.xa_model.specs.State.{State, Session, Branch, Work, Phase, Working, Prepared, Committed, count, change}
use Rattle.xa_model.specs.Answer.{Answer, carrying, answer, ok}
use Rattle.xa_model.specs.Associations.{with_mark}

-- Timeout: the limit of the branches that the session begins later, 0 for none. It outlasts Close and Restart, and ends
-- with the connection.

abbrev pub with_limit : ℕ → Session → Session
with_limit limit x = record x { limit = limit }

abbrev pub timeout_by : State → ℕ → ℕ → Answer
timeout_by s n limit = ok (record s { sessions = change (λ x. x.number == n) (with_limit limit) s.sessions })

-- Tick: an unmarked branch at work runs out of time once it is as old as its limit, and is marked XA_RBTIMEOUT. The
-- answer is how many ran out.

abbrev pub is_over : ℕ → Work → Bool
is_over moment work =
    is_none work.mark && (not (work.limit == 0) && not (nat_lt moment (work.start + work.limit)))

abbrev pub runs_out_in : ℕ → Phase → Bool
runs_out_in moment (Working xid work) = is_over moment work
runs_out_in moment (Prepared xid) = false
runs_out_in moment Committed = false

abbrev pub runs_out : ℕ → Branch → Bool
runs_out moment b = runs_out_in moment b.phase

abbrev pub timed_out : ℕ → Branch → Branch
timed_out moment b = if runs_out moment b then with_mark XA_RBTIMEOUT b else b

abbrev pub ticked : State → ℕ → State
ticked s moment = record s { moment = moment; branches = map (timed_out moment) s.branches }

abbrev pub tick_by : State → ℕ → Answer
tick_by s moment = answer (carrying (body.Number (count (runs_out moment) s.branches))) (ticked s moment)
