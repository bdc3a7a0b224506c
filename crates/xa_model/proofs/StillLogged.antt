-- While a manager is down, what may be the log's last record stays so: sessions come, go, open and close.
use Rattle.std.proofs.Common.{◌≡◌, ℕ, Bool, true, false, not, List, Option, Some, None, refl, ap, arith}
use Rattle.std.specs.Prelude.{map, filter, length}
use Rattle.std.specs.List.{list_any}
use Rattle.xa_frame.specs.declared.reply.Reply.{Reply}
use Rattle.xa_frame.specs.declared.request.Request.{Request}
use Rattle.xa_frame.specs.declared.request.Request.TheVariants.{Open, Close, Start, End, Prepare, Commit, Rollback, Forget, Recover, Get, Put, Delete, Decide, Doom, Restart, Timeout, Tick, Trim, Branches}
use Rattle.xa_xid.specs.Triple.{xid_eq}
use Rattle.xa_model.specs.declared.event.Event.{Event}
use Rattle.xa_model.specs.declared.event.Event.TheVariants as event
use Rattle.xa_model.specs.State.{State, Down, Session, Association}
use Rattle.xa_model.specs.Answer.{Answer, unless}
use Rattle.xa_model.specs.Early.{early_refusal}
use Rattle.xa_model.specs.Associations.{connect_refusal, connected, close_refusal, is_of_session, left_behind}
use Rattle.xa_model.specs.Turn.{Turn, Now, unless_now}
use Rattle.xa_model.specs.Step.{row, respond, is_up, context_of}
use Rattle.xa_model.specs.Events.{asks_boot, begins_boot}
use Rattle.xa_model.proofs.Counts.{count_filter}
use Rattle.xa_model.proofs.Likeness.{IsLike, same_branches}

-- what is answered at once leaves what may be logged
abbrev pub StillMay : State → Turn → Type 0
StillMay s (Now a) = IsLike s a.after
StillMay s _ = ⊥

itself : (s : State) → IsLike s s
itself s = same_branches s s refl refl refl refl (λ xid none. none)

-- sessions are no part of it
seated : (s : State) (sessions : List Session) → IsLike s (record s { sessions = sessions })
seated s sessions = same_branches s (record s { sessions = sessions }) refl refl refl refl (λ xid none. none)

-- and a hang-up marks branches, and no more
hung_up : (s : State) (n : ℕ) (sessions : List Session)
    → IsLike s (record s {
      sessions = sessions;
      associations = filter (λ a. not (is_of_session n a)) s.associations;
      branches = map (left_behind s.associations n) s.branches;
    })
hung_up s n sessions = record {
  boot = refl;
  logged_boot = refl;
  decided = refl;
  free = λ xid none. let fewer = count_filter (λ (a : Association). not (is_of_session n a)) (λ (a : Association). xid_eq a.xid xid) s.associations in omega (arith, fewer, none);
  held = s.associations;
  session = n;
  branches = refl;
}

-- what is asked of a manager that is down

unless_still : (o : Option Reply) (s : State) (t : Turn) → StillMay s t → StillMay s (unless_now o s t)
unless_still None s t h = h
unless_still (Some reply) s t h = itself s

unless_like : (o : Option Reply) (s : State) (a : Answer) → IsLike s a.after → IsLike s (unless o s a).after
unless_like None s a k = k
unless_like (Some reply) s a k = itself s

down_calls : (s : State) (n : ℕ) (up : Bool) (request : Request) → up ≡ false → asks_boot request ≡ false
    → StillMay s (unless_now (early_refusal (record (context_of s n) { up = up }) request) s (row s n request))
down_calls s n true request down other = absurd (cc down)
down_calls s n false (Open flags info) down other =
    unless_still (early_refusal (record (context_of s n) { up = false }) (Open flags info)) s (row s n (Open flags info)) (seated s _)
down_calls s n false (Close flags) down other =
    unless_still (early_refusal (record (context_of s n) { up = false }) (Close flags)) s (row s n (Close flags))
    (unless_like (close_refusal (list_any (is_of_session n) s.associations)) s _ (seated s _))
down_calls s n false (Start flags xid) down other = itself s
down_calls s n false (End flags xid) down other = itself s
down_calls s n false (Prepare flags xid) down other = itself s
down_calls s n false (Commit flags xid) down other = itself s
down_calls s n false (Rollback flags xid) down other = itself s
down_calls s n false (Forget flags xid) down other = itself s
down_calls s n false (Recover flags count) down other = itself s
down_calls s n false (Get key) down other = itself s
down_calls s n false (Put key value) down other = itself s
down_calls s n false (Delete key) down other = itself s
down_calls s n false (Decide direction xid) down other = itself s
down_calls s n false (Doom xid) down other = itself s
down_calls s n false (Timeout seconds) down other = itself s
down_calls s n false (Tick moment) down other = itself s
down_calls s n false (Branches count after) down other = itself s
down_calls s n false Restart down other = absurd (cc other)
down_calls s n false Trim down other = absurd (cc other)

pub down_still : (s : State) (e : Event) → s.standing ≡ Down → begins_boot e ≡ false → StillMay s (respond s e)
down_still s event.Connect down other = unless_like (connect_refusal (length s.sessions)) s (connected s) (seated s _)
down_still s (event.Hangup n) down other = hung_up s n _
down_still s (event.Call n request) down other = down_calls s n (is_up s.standing) request (ap is_up down) other
