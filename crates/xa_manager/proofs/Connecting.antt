-- A session more, if one more may be.
use Rattle.std.proofs.Common.{◌≡◌, ◌≢◌, ℕ, Option, Some, None, length, refl, ap, sym, subst}
use Rattle.std.specs.Prelude.{Result, Ok, Err, IfOk, OnOk, OnErr}
use Rattle.xa_codes.specs.declared.codes.TheConstants.{XAER_RMERR}
use Rattle.xa_codes.specs.declared.detail.Detail.TheVariants as detail
use Rattle.xa_frame.specs.declared.body.Body.TheVariants as body
use Rattle.xa_frame.specs.declared.reply.Reply.{Reply}
use Rattle.xa_assoc.specs.Sessions.{SessionsStandFor, Replies, Refuses}
use Rattle.xa_assoc.specs.Sessions.{Follows as SessionsFollow, Stays as SessionsStay}
use Rattle.xa_assoc.specs.declared.fault.ConnectFault.{ConnectFault}
use Rattle.xa_assoc.specs.declared.fault.ConnectFault.TheVariants.{Memory, Full}
use Rattle.xa_assoc.specs.declared.sessions.Sessions.{Sessions}
use Rattle.xa_branch.proofs.Elsewhere.{stands_elsewhere}
use Rattle.xa_model.specs.State.{State}
use Rattle.xa_model.specs.Answer.{Answer, carrying, detailed, unless}
use Rattle.xa_model.specs.Associations.{connected, connect_refusal, connect_by}
use Rattle.xa_model.specs.Invariants.Loggable.{IsRecoverable}
use Rattle.xa_manager.specs.Believed.Answered.{connect_reply}
use Rattle.xa_manager.specs.Stands.{StandsFor, Follows}
use Rattle.xa_manager.specs.View.{View}

connect_stands : (m : View) (x : Sessions) (s : State) (o : Option Reply) → StandsFor m s → SessionsStandFor x (unless o s (connected s)).after
    → IsRecoverable (unless o s (connected s)).after → StandsFor (record m { sessions = x }) (unless o s (connected s)).after
connect_stands m x s None st sessions recoverable = record {
  name = st.name;
  log_bytes = st.log_bytes;
  up = st.up;
  sessions = sessions;
  branches = stands_elsewhere m.branches s (connected s).after refl refl refl refl refl refl st.branches;
  records = st.records;
  recoverable = recoverable;
}
connect_stands m x s (Some reply) st sessions recoverable = record {
  name = st.name;
  log_bytes = st.log_bytes;
  up = st.up;
  sessions = sessions;
  branches = st.branches;
  records = st.records;
  recoverable = recoverable;
}

pub connect_follows : (m : View) (x : Sessions) (r : Result ℕ ConnectFault) → IfOk r (λ n. Replies m.sessions connect_by (carrying (body.Number n)))
    → OnOk r (SessionsFollow m.sessions (λ s. (connect_by s).after) x)
    → (r ≡ Err Full → Refuses m.sessions connect_by (detailed XAER_RMERR detail.Limit)) → OnErr r (SessionsStay m.sessions x)
    → r ≢ Err Memory → Follows m (λ s. connect_by s) (connect_reply r) (record m { sessions = x })
connect_follows m x (Ok n) number follows full stays served = record {
  answers = λ s st. number s st.sessions;
  stands = λ s st recoverable. connect_stands m x s (connect_refusal (length s.sessions)) st (follows s st.recoverable.sound st.sessions) recoverable;
  served = refl;
}
connect_follows m x (Err Full) number follows full stays served = record {
  answers = λ s st. ap (λ (a : Answer). a.reply) (full refl s st.sessions);
  stands = λ s st recoverable.
      let same = ap (λ (a : Answer). a.after) (full refl s st.sessions) in
      connect_stands m x s (connect_refusal (length s.sessions)) st
      (subst (λ (t : State). SessionsStandFor x t) (sym same) (stays s st.sessions)) recoverable;
  served = refl;
}
connect_follows m x (Err Memory) number follows full stays served = absurd (served refl)
