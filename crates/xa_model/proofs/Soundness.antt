-- What the rows that log nothing leave of a sound state is sound.
use Rattle.std.proofs.Common.{◌≡◌, ℕ, ◌==◌, true, not, ◌&&◌, List, Option, Some, None, refl}
use Rattle.std.specs.Prelude.{is_some, map, option_map}
use Rattle.std.specs.List.{list_any}
use Rattle.xa_codes.specs.declared.codes.TheConstants.{XA_RBTRANSIENT, XA_RBOTHER}
use Rattle.xa_frame.specs.declared.request.Request.{Request}
use Rattle.xa_xid.specs.Triple.{Triple}
use Rattle.xa_model.specs.State.{State, Branch, Got, Walked, Wrote, Session, known_as, change, session_of}
use Rattle.xa_model.specs.Source.{Version, source}
use Rattle.xa_model.specs.Answer.{ok}
use Rattle.xa_model.specs.Early.{early_refusal, call_of, passes_down, Context}
use Rattle.xa_model.specs.Associations.{as_closed, close_refusal, close_by, with_mark, is_of_session}
use Rattle.xa_model.specs.Phases.{doom_refusal, doomed, doom_by}
use Rattle.xa_model.specs.Ranges.{Range}
use Rattle.xa_model.specs.Data.{having_done, got, get_by, put_by, walked}
use Rattle.xa_model.specs.Durable.{durable}
use Rattle.xa_model.specs.Listed.{list_after}
use Rattle.xa_model.specs.TimeLimits.{timed_out, with_limit, tick_by, timeout_by}
use Rattle.xa_model.specs.Recovering.{scan_of, scan_from, scan_after, with_scan, recovered_from, recover_by}
use Rattle.xa_model.specs.Invariants.Sound.{IsSound}
use Rattle.xa_model.proofs.Parts.{sound_beside, with_branches, mapped_kept}
use Rattle.xa_model.proofs.Marks.{mark_keeps, done_keeps, timed_keeps, changed_sound}
use Rattle.xa_model.proofs.Rows.{passed}
use Rattle.xa_model.proofs.Seats.{seat_sound}
use Rattle.xa_model.specs.Step.{context_of}
use Rattle.xa_model.proofs.OfAnswers.{unless_after}
use Rattle.xa_model.proofs.OfRows.{get_after, put_after}

-- the operator's mark

pub doom_sound : (s : State) (xid : Triple) → IsSound s → IsSound (doom_by s xid).after
doom_sound s xid h =
    unless_after IsSound (doom_refusal (known_as s xid)) s (ok (doomed s xid)) h (λ allowed. changed_sound s (with_mark XA_RBOTHER) xid (mark_keeps XA_RBOTHER) h)

-- a moment

pub tick_sound : (s : State) (moment : ℕ) → IsSound s → IsSound (tick_by s moment).after
tick_sound s moment h =
    let t : State = record s { branches = map (timed_out moment) s.branches } in
    sound_beside t t.reads t.logged_boot t.end t.standing t.open_records moment
    (with_branches s (map (timed_out moment) s.branches) h (mapped_kept s (timed_out moment) (timed_keeps moment) h))

-- gets and puts

-- reads are no part of what is sound
more_reads : (s : State) (reads : List _) → IsSound s → IsSound (record s { reads = reads })
more_reads s reads h = sound_beside s reads s.logged_boot s.end s.standing s.open_records s.moment h

got_sound : (s : State) (key : List ℕ) (xid : Triple) (b : Branch) (v : Version) → IsSound s → IsSound (got s key xid b v).after
got_sound s key xid b v h = more_reads _ _ (changed_sound s (having_done (Got key v.value v.timestamp)) xid (done_keeps (Got key v.value v.timestamp)) h)

pub walked_sound : (s : State) (range : Range) (found : List (List ℕ × List ℕ)) (sources : List (List ℕ × ℕ)) (xid : Triple) (b : Branch) → IsSound s
    → IsSound (walked s range found sources xid b)
walked_sound s range found sources xid b h =
    more_reads _ _ (changed_sound s (having_done (Walked range found)) xid (done_keeps (Walked range found)) h)

pub get_sound : (s : State) (key : List ℕ) (o : Option (Triple × Branch)) → IsSound s → IsSound (get_by s key o).after
get_sound s key None h = h
get_sound s key (Some (xid, b)) h = get_after IsSound s h key xid b (λ none. got_sound s key xid b (source key b.timestamp s.branches) h)

pub put_sound : (s : State) (key : List ℕ) (value : Option (List ℕ)) (o : Option (Triple × Branch)) → IsSound s → IsSound (put_by s key value o).after
put_sound s key value None h = h
put_sound s key value (Some (xid, b)) h =
    put_after IsSound s h key value xid b (changed_sound s (with_mark XA_RBTRANSIENT) xid (mark_keeps XA_RBTRANSIENT) h)
    (λ none timely. changed_sound s (having_done (Wrote key value)) xid (done_keeps (Wrote key value)) h)

-- sessions

pub close_sound : (s : State) (n : ℕ) → IsSound s → IsSound (close_by s n).after
close_sound s n h =
    unless_after IsSound (close_refusal (list_any (is_of_session n) s.associations)) s (ok (record s { sessions = change (λ x. x.number == n) as_closed s.sessions })) h
    (λ allowed. seat_sound s n as_closed (λ x. refl) h)

pub timeout_sound : (s : State) (n limit : ℕ) → IsSound s → IsSound (timeout_by s n limit).after
timeout_sound s n limit h = seat_sound s n (with_limit limit) (λ x. refl) h

recovered_sound : (s : State) (n flags count : ℕ) (scan : Option (Option Triple)) → IsSound s → IsSound (recovered_from s n flags count scan).after
recovered_sound s n flags count None h = h
recovered_sound s n flags count (Some cursor) h = seat_sound s n (with_scan (scan_after flags cursor (list_after cursor count (durable s)))) (λ x. refl) h

pub recover_sound : (s : State) (n flags count : ℕ) → IsSound s → IsSound (recover_by s n flags count).after
recover_sound s n flags count h = recovered_sound s n flags count (scan_from flags (scan_of s.sessions n)) h

-- the row is reached only by a session that is connected
reached_by : (c : Context) (request : Request) (o : Option Session) → early_refusal (record c { session = option_map (λ x. x.opened) o }) request ≡ None → is_some o ≡ true
reached_by c request (Some x) allowed = refl
reached_by c request None allowed = let second = (passed (not c.up && not (passes_down (call_of request))) _ _ allowed).1 in absurd (cc second)

pub reached : (s : State) (n : ℕ) (request : Request) → early_refusal (context_of s n) request ≡ None → is_some (session_of s.sessions n) ≡ true
reached s n request allowed = reached_by (context_of s n) request (session_of s.sessions n) allowed
