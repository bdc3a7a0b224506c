-- The rows of the association table keep a state sound.
use Rattle.std.proofs.Common.{◌≡◌, ℕ, ◌+◌, ◌<◌, ◌≤◌, Bool, true, false, cond, ◌∷◌, Option, Some, None, refl, arith, subst}
use Rattle.std.specs.Prelude.{is_some}
use Rattle.std.specs.List.{list_any}
use Rattle.xa_codes.specs.Flags.{has}
use Rattle.xa_codes.specs.declared.codes.TheConstants.{XA_RBROLLBACK}
use Rattle.xa_codes.specs.declared.flags.TheConstants.{TMJOIN, TMRESUME}
use Rattle.xa_xid.specs.Triple.{Triple, xid_eq}
use Rattle.xa_xid.proofs.Same.{xid_same, xid_eq_itself}
use Rattle.xa_model.specs.State.{State, Branch, Association, count, change, without, is_known_as, owns, works_in, suspends, is_loose_with, active_of, known_of, known_as, known_in, session_of, holders_of, loose_of, timestamp_of, Work, new_work, new_branch, limit_of, is_at_work}
use Rattle.xa_model.specs.Answer.{marked}
use Rattle.xa_model.specs.Associations.{is_taken, mark_in, start_refusal, begun, begin_by, join_refusal, joined, join_by, resume_refusal, resumable, resumed, not_resumed, resume_by, start_by, loose_refusal, without_one, ended, end_by, with_mark, held_by}
use Rattle.xa_limits.specs.declared.TheConstants.{MOST_BRANCHES, MOST_GIVEN, MOST_LOOSE}
use Rattle.xa_model.specs.Invariants.Sound.{IsSound, named}
use Rattle.xa_model.proofs.Counts.{count_less, count_without, found_none}
use Rattle.xa_model.proofs.Held.{one_more_sound, with_held}
use Rattle.xa_model.proofs.Holders.{resumed_held, suspended_held, none_own}
use Rattle.xa_model.proofs.Marks.{mark_keeps, changed_sound}
use Rattle.xa_model.proofs.Order.{descends_below}
use Rattle.xa_model.proofs.Parts.{with_fewer_held}
use Rattle.xa_model.proofs.Rows.{passed, below, neither, idle_count, new_named, at_work}
use Rattle.xa_model.proofs.Xids.{both_true}
use Rattle.xa_model.proofs.OfAnswers.{cond_after, marked_after, unless_after}
use Rattle.xa_model.proofs.OfRows.{end_after}

-- a new branch

new_distinct : (s : State) (xid q : Triple) (c : Bool) → xid_eq xid q ≡ c → named s xid ≡ 0 → named s q ≤ 1
    → (cond c 1 0 + count (is_known_as q) s.branches) + count (λ d. xid_eq d.xid q) s.decided ≤ 1
new_distinct s xid q true e free most = let none : named s q ≡ 0 = subst (λ (x : Triple). named s x ≡ 0) (xid_same xid q e) free in omega arith
new_distinct s xid q false e free most = omega arith

new_bound : (s : State) (xid q : Triple) (b : Branch) (c : Bool) → is_at_work (Some b) ≡ true → (is_at_work (known_of s.branches q) ≡ false → holders_of s.associations q ≡ 0)
    → is_at_work (cond c (Some b) (known_of s.branches q)) ≡ false → holders_of s.associations q ≡ 0
new_bound s xid q b true works h none = absurd (cc (works, none))
new_bound s xid q b false works h none = h none

new_works : (b : Branch) (o : Option Branch) (c : Bool) → c ≡ true → is_at_work (Some b) ≡ true → is_at_work (cond c (Some b) o) ≡ true
new_works b o true e works = works
new_works b o false e works = absurd (cc e)

-- before the session is at work for it
abbrev opened_branch : State → Triple → Work → State
opened_branch s xid work = record s { given = s.given + 1; branches = new_branch (timestamp_of s.boot (s.given + 1)) xid work ∷ s.branches }

opened_sound : (s : State) (xid : Triple) (work : Work) → IsSound s → named s xid ≡ 0 → known_in s < MOST_BRANCHES → s.given < MOST_GIVEN → IsSound (opened_branch s xid work)
opened_sound s xid work h free room left = record {
  descends = (omega arith, omega arith, descends_below (timestamp_of s.boot s.given + 1) (timestamp_of s.boot (s.given + 1)) s.branches (omega arith) h.descends);
  distinct = λ q. new_distinct s xid q (xid_eq xid q) refl free (h.distinct q);
  numbered = h.numbered;
  active = h.active;
  own = h.own;
  connected = h.connected;
  bound = λ q none. new_bound s xid q (new_branch (timestamp_of s.boot (s.given + 1)) xid work) (xid_eq xid q) refl (h.bound q) none;
  sessions = h.sessions;
  known = omega arith;
  given = omega arith;
  loose = h.loose;
}

-- nobody holds what isn't known
unheld : (s : State) (n : ℕ) (xid : Triple) → IsSound s → named s xid ≡ 0 → count (owns n xid) s.associations ≡ 0
unheld s n xid h free =
    let fewer = count_less (owns n xid) (λ a. xid_eq a.xid xid) (λ a own. (both_true _ _ own).1) s.associations in
    let unknown : known_of s.branches xid ≡ None = none_of (known_of s.branches xid) (omega arith) refl in
    omega (arith, fewer, h.bound xid (rw unknown refl))
  where
    none_of : (o : Option Branch) → count (is_known_as xid) s.branches ≡ 0 → known_of s.branches xid ≡ o → known_of s.branches xid ≡ None
    none_of o none e = found_none (is_known_as xid) s.branches none

begun_sound : (s : State) (n : ℕ) (xid : Triple) → IsSound s → is_some (session_of s.sessions n) ≡ true → is_some (active_of s.associations n) ≡ false
    → named s xid ≡ 0 → known_in s < MOST_BRANCHES → s.given < MOST_GIVEN → IsSound (begun s n xid).after
begun_sound s n xid h seated idle free room left =
    let work = new_work s.moment (limit_of s n) in
    one_more_sound (opened_branch s xid work) n xid (opened_sound s xid work h free room left) seated
    (new_works (new_branch (timestamp_of s.boot (s.given + 1)) xid work) (known_of s.branches xid) (xid_eq xid xid) (xid_eq_itself xid) refl)
    (idle_count n s.associations idle) (unheld s n xid h free)

pub begin_sound : (s : State) (n : ℕ) (xid : Triple) → IsSound s → is_some (session_of s.sessions n) ≡ true → IsSound (begin_by s n xid).after
begin_sound s n xid h seated =
    unless_after IsSound (start_refusal (is_some (active_of s.associations n)) (is_taken (known_as s xid)) (known_in s) s.given) s (begun s n xid) h
    (λ allowed.
    let first_ = passed _ _ _ allowed in
    let second = passed _ _ _ first_.1 in
    let limits = neither _ _ (passed _ _ _ second.1).0 in
    begun_sound s n xid h seated first_.0 (new_named s xid second.0) (below (known_in s) MOST_BRANCHES limits.0) (below s.given MOST_GIVEN limits.1))

-- one more session joins

join_sound : (s : State) (n : ℕ) (xid : Triple) → IsSound s → is_some (session_of s.sessions n) ≡ true → IsSound (join_by s n xid).after
join_sound s n xid h seated =
    unless_after IsSound (join_refusal (is_some (active_of s.associations n)) (list_any (suspends n xid) s.associations) (known_as s xid)) s
    (marked (mark_in (known_as s xid)) s (joined s n xid)) h
    (λ allowed.
    let first_ = passed _ _ _ allowed in
    let second = passed _ _ _ first_.1 in
    let third = passed _ _ _ second.1 in
    let free = neither (is_some (active_of s.associations n)) (list_any (suspends n xid) s.associations) first_.0 in
    let idle = idle_count n s.associations free.0 in
    marked_after IsSound (mark_in (known_as s xid)) s (joined s n xid) h
    (one_more_sound s n xid h seated (at_work s xid second.0 third.0) idle (none_own n xid s.associations idle free.1)))

-- an association is resumed

resume_sound : (s : State) (n : ℕ) (xid : Triple) → IsSound s → is_some (session_of s.sessions n) ≡ true → IsSound (resume_by s n xid).after
resume_sound s n xid h seated =
    unless_after IsSound (resume_refusal (is_some (active_of s.associations n)) (known_as s xid) (list_any (suspends n xid) s.associations) (list_any (is_loose_with xid) s.associations)) s
    (marked (mark_in (known_as s xid)) (not_resumed s n xid) (resumed s n xid)) h
    (λ allowed.
    let idle = idle_count n s.associations (passed _ _ _ allowed).0 in
    marked_after IsSound (mark_in (known_as s xid)) (not_resumed s n xid) (resumed s n xid)
    (with_fewer_held s (without (resumable s.associations n xid) s.associations) h (λ q. count_without (resumable s.associations n xid) q s.associations))
    (with_held s (change (resumable s.associations n xid) (held_by _) s.associations) h (resumed_held s n xid (list_any (suspends n xid) s.associations) refl h seated idle)))

pub start_sound : (s : State) (n flags : ℕ) (xid : Triple) → IsSound s → is_some (session_of s.sessions n) ≡ true → IsSound (start_by s n flags xid).after
start_sound s n flags xid h seated =
    cond_after IsSound (has flags TMJOIN) (join_by s n xid) (cond (has flags TMRESUME) (resume_by s n xid) (begin_by s n xid)) (join_sound s n xid h seated)
    (cond_after IsSound (has flags TMRESUME) (resume_by s n xid) (begin_by s n xid) (resume_sound s n xid h seated) (begin_sound s n xid h seated))

-- an association is suspended

loose_room : (migrates : Bool) (loose : ℕ) → loose_refusal migrates loose ≡ None → migrates ≡ true → loose < MOST_LOOSE
loose_room true loose allowed e = below loose MOST_LOOSE (passed _ _ _ allowed).0
loose_room false loose allowed e = absurd (cc e)

-- an association ends

one_fewer : (s : State) (n : ℕ) (xid : Triple) (c : Bool) (q : Association → Bool)
    → count q (cond c (without (owns n xid) s.associations) (without (is_loose_with xid) s.associations)) ≤ count q s.associations
one_fewer s n xid true q = count_without (owns n xid) q s.associations
one_fewer s n xid false q = count_without (is_loose_with xid) q s.associations

ended_sound : (s : State) (n : ℕ) (xid : Triple) → IsSound s → IsSound (ended s n xid)
ended_sound s n xid h = with_fewer_held s (without_one s.associations n xid) h (one_fewer s n xid (list_any (owns n xid) s.associations))

pub end_sound : (s : State) (n flags : ℕ) (xid : Triple) → IsSound s → IsSound (end_by s n flags xid).after
end_sound s n flags xid h =
    let ends = ended_sound s n xid h in
    end_after IsSound s h n flags xid
    (with_fewer_held s (without (works_in n xid) s.associations) h (λ q. count_without (works_in n xid) q s.associations))
    (λ migrates room. with_held s _ h (suspended_held s n xid migrates h (loose_room migrates (loose_of s.associations xid) room)))
    ends (changed_sound (ended s n xid) (with_mark XA_RBROLLBACK) xid (mark_keeps XA_RBROLLBACK) ends)
