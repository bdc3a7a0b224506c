-- What holds of a state, and of what each way through a start, an end, a get or a put leaves, holds of what the row leaves.
use Rattle.std.proofs.Common.{◌≡◌, ℕ, Bool, false, cond, List, Option, Some, None}
use Rattle.std.specs.Prelude.{is_some}
use Rattle.std.specs.List.{list_any}
use Rattle.xa_codes.specs.Flags.{has}
use Rattle.xa_codes.specs.declared.flags.TheConstants.{TMJOIN, TMRESUME, TMSUSPEND, TMMIGRATE, TMFAIL}
use Rattle.xa_xid.specs.Triple.{Triple}
use Rattle.xa_model.specs.State.{State, Branch, known_as, known_in, active_of, mark_of, suspends, is_loose_with, loose_of, is_with}
use Rattle.xa_model.specs.Source.{source, is_late}
use Rattle.xa_model.specs.Answer.{ok}
use Rattle.xa_model.specs.Associations.{start_refusal, begun, begin_by, is_taken, join_refusal, joined, join_by, resume_refusal, resumed, not_resumed, resume_by, start_by}
use Rattle.xa_model.specs.Associations.{end_refusal, loose_refusal, suspended, not_suspended, suspend_by, can_end, ended, failed, leave_by, end_by, mark_in}
use Rattle.xa_model.specs.Data.{got, get_from, get_by, busy_refusal, is_full, limit_refusal, came_late, written, if_late, put_from, put_by}
use Rattle.xa_model.proofs.OfAnswers.{unless_after, marked_after, cond_after, if_late_after}

module _ (P : State → Type 0) (s : State) (h : P s) where
  pub start_after : (n flags : ℕ) (xid : Triple) → P (joined s n xid).after → P (not_resumed s n xid) → P (resumed s n xid).after
      → (start_refusal (is_some (active_of s.associations n)) (is_taken (known_as s xid)) (known_in s) s.given ≡ None → P (begun s n xid).after)
      → P (start_by s n flags xid).after
  start_after n flags xid joins ends resumes begins =
      cond_after P (has flags TMJOIN) (join_by s n xid) (cond (has flags TMRESUME) (resume_by s n xid) (begin_by s n xid))
      (unless_after P (join_refusal (is_some (active_of s.associations n)) (list_any (suspends n xid) s.associations) (known_as s xid)) s _ h
      (λ none. marked_after P (mark_in (known_as s xid)) s (joined s n xid) h joins))
      (cond_after P (has flags TMRESUME) (resume_by s n xid) (begin_by s n xid)
      (unless_after P
      (resume_refusal (is_some (active_of s.associations n)) (known_as s xid) (list_any (suspends n xid) s.associations)
      (list_any (is_loose_with xid) s.associations)) s _ h
      (λ none. marked_after P (mark_in (known_as s xid)) (not_resumed s n xid) (resumed s n xid) ends resumes))
      (unless_after P (start_refusal (is_some (active_of s.associations n)) (is_taken (known_as s xid)) (known_in s) s.given) s (begun s n xid) h begins))

  pub end_after : (n flags : ℕ) (xid : Triple) → P (not_suspended s n xid)
      → ((migrates : Bool) → loose_refusal migrates (loose_of s.associations xid) ≡ None → P (suspended s n migrates xid))
      → P (ended s n xid) → P (failed s n xid).after → P (end_by s n flags xid).after
  end_after n flags xid ends_active suspends_it ends fails =
      cond_after P (has flags TMSUSPEND) (suspend_by s n (has flags TMMIGRATE) xid) (leave_by s n (has flags TMFAIL) xid)
      (unless_after P (end_refusal (known_as s xid) (is_with xid (active_of s.associations n))) s _ h
      (λ none. marked_after P (mark_in (known_as s xid)) (not_suspended s n xid) _ ends_active
      (unless_after P (loose_refusal (has flags TMMIGRATE) (loose_of s.associations xid)) s (ok (suspended s n (has flags TMMIGRATE) xid)) h
      (suspends_it (has flags TMMIGRATE)))))
      (unless_after P (end_refusal (known_as s xid) (can_end s.associations n xid)) s _ h
      (λ none. marked_after P (mark_in (known_as s xid)) (ended s n xid) (cond (has flags TMFAIL) (failed s n xid) (ok (ended s n xid))) ends
      (cond_after P (has flags TMFAIL) (failed s n xid) (ok (ended s n xid)) fails ends)))

  pub get_after : (key : List ℕ) (xid : Triple) (b : Branch)
      → (busy_refusal b.timestamp (source key b.timestamp s.branches) ≡ None → P (got s key xid b (source key b.timestamp s.branches)).after)
      → P (get_by s key (Some (xid, b))).after
  get_after key xid b gets =
      let v = source key b.timestamp s.branches in
      marked_after P (mark_of b.phase) s (get_from s key xid b v) h (unless_after P (busy_refusal b.timestamp v) s (got s key xid b v) h gets)

  pub put_after : (key : List ℕ) (value : Option (List ℕ)) (xid : Triple) (b : Branch) → P (came_late s xid).after
      → (limit_refusal (is_full key b.operations) ≡ None → is_late key b.timestamp s.reads ≡ false → P (written s key value xid).after)
      → P (put_by s key value (Some (xid, b))).after
  put_after key value xid b comes_late writes =
      marked_after P (mark_of b.phase) s (put_from s key value xid b) h
      (unless_after P (limit_refusal (is_full key b.operations)) s
      (if_late (is_late key b.timestamp s.reads) (came_late s xid) (written s key value xid)) h
      (λ room. if_late_after P (is_late key b.timestamp s.reads) (came_late s xid) (written s key value xid) comes_late (writes room)))
