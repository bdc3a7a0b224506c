-- What each event but a restart leaves of the log.
use Rattle.std.proofs.Common.{◌≡◌, ℕ, ℤ, ◌+◌, Bool, true, false, cond, List, [], ◌∷◌, Option, Some, None, refl, ap, sym, ◌∙◌, subst}
use Rattle.std.specs.Prelude.{find, map, filter_map, reverse, is_some, option_map, option_and_then}
use Rattle.std.specs.List.{list_any, AllByRecursion}
use Rattle.xa_codes.specs.Flags.{has}
use Rattle.xa_codes.specs.declared.codes.TheConstants.{XA_RBTRANSIENT, XA_RBOTHER, XA_RBROLLBACK, XA_RBCOMMFAIL, XA_RBTIMEOUT}
use Rattle.xa_codes.specs.declared.flags.TheConstants.{TMONEPHASE}
use Rattle.xa_frame.specs.declared.request.Request.{Request}
use Rattle.xa_frame.specs.declared.request.Request.TheVariants.{Open, Close, Start, End, Prepare, Commit, Rollback, Forget, Recover, Get, Put, Delete, Decide, Doom, Restart, Timeout, Tick, Trim, Branches}
use Rattle.xa_xid.specs.Triple.{Triple, xid_eq}
use Rattle.xa_xid.proofs.Same.{xid_eq_itself}
use Rattle.xa_model.specs.declared.event.Event.TheVariants as event
use Rattle.xa_model.specs.State.{State, Session, Association, Read, Branch, Got, Wrote, Phase, Working, Prepared, Committed, known_as, known_of, is_known_as, is_active, branch_with, own_branch, change, session_of, is_working, is_at_work}
use Rattle.xa_model.specs.Source.{Version, source}
use Rattle.xa_model.specs.Answer.{ok}
use Rattle.xa_model.specs.Early.{early_refusal}
use Rattle.xa_model.specs.Associations.{connect_refusal, connected, connect_by, hang_up_by, open_by, close_refusal, close_by, as_opened, is_of_session, with_mark, marked_phase, left_behind, is_worked_by, start_by, end_by}
use Rattle.xa_model.specs.Phases.{doom_refusal, doomed, doom_by}
use Rattle.xa_model.specs.Data.{having_done, got, get_by, written, put_by}
use Rattle.xa_model.specs.Completions.{commit_one_phase_turn, commit_two_phase_turn}
use Rattle.xa_model.specs.TimeLimits.{runs_out, timed_out, ticked, tick_by, timeout_by}
use Rattle.xa_model.specs.Recovering.{scan_of, scan_from, recovered_from, recover_by}
use Rattle.xa_model.specs.Step.{row, context_of}
use Rattle.xa_model.specs.Events.{asks_boot}
use Rattle.xa_model.specs.Invariants.Sound.{IsSound}
use Rattle.xa_model.specs.Durable.{durable, last_writes, by_name, writes_of, committed_part, prepared_part}
use Rattle.xa_model.specs.Laws.Logging.{KeepsLog, LogsWhatLasts, EventsLogWhatLasts}
use Rattle.xa_model.proofs.Lists.{found_all}
use Rattle.xa_model.proofs.Splits.{split, uncounted, parts, parts_none}
use Rattle.xa_model.proofs.Applied.{committed_of, prepared_of, same_durable}
use Rattle.xa_model.proofs.Seats.{connected_sound, seat_sound, hung_up_sound}
use Rattle.xa_model.proofs.Working.{start_sound, end_sound}
use Rattle.xa_model.proofs.Soundness.{close_sound, doom_sound, get_sound, put_sound, recover_sound, tick_sound, timeout_sound, reached}
use Rattle.xa_model.proofs.LoggedTurns.{unless_logs, cond_logs, prepares, commits, commits_in_doubt, rolls_back, decides, forgets}
use Rattle.xa_model.proofs.LoggedTurns.{itself as logged_itself}
use Rattle.xa_model.proofs.OfAnswers.{unless_after}
use Rattle.xa_model.proofs.OfRows.{start_after, end_after, get_after, put_after}

-- what is the same of the log
record IsSame (s t : State) : Type 0 where
  lasts : durable t ≡ durable s
  end : t.end ≡ s.end
  boot : t.boot ≡ s.boot
  logged_boot : t.logged_boot ≡ s.logged_boot
  open_records : t.open_records ≡ s.open_records
  standing : t.standing ≡ s.standing

abbrev with_all : State → ℕ → List Session → List Association → List Branch → List Read → State
with_all s given sessions held bs reads = record s { given = given; sessions = sessions; associations = held; branches = bs; reads = reads }

kept : (s : State) (given : ℕ) (sessions : List Session) (held : List Association) (bs : List Branch) (reads : List Read)
    → parts committed_of bs ≡ parts committed_of s.branches → parts prepared_of bs ≡ parts prepared_of s.branches → IsSame s (with_all s given sessions held bs reads)
kept s given sessions held bs reads e f = record {
  lasts = same_durable s.logged_boot (last_writes (parts committed_of bs)) (last_writes (parts committed_of s.branches)) (parts prepared_of bs) (parts prepared_of s.branches) (by_name s.decided) (ap last_writes e) f;
  end = refl;
  boot = refl;
  logged_boot = refl;
  open_records = refl;
  standing = refl;
}

alike : (s : State) (given : ℕ) (sessions : List Session) (held : List Association) (reads : List Read) → IsSame s (with_all s given sessions held s.branches reads)
alike s given sessions held reads = kept s given sessions held s.branches reads refl refl

itself : (s : State) → IsSame s s
itself s = record { lasts = refl; end = refl; boot = refl; logged_boot = refl; open_records = refl; standing = refl }

-- branches

added_by : {B : Type 0} (m : Branch → Option B) (b c : Branch) (xs ys : List Branch) (o : Option B) → m b ≡ o → m c ≡ o → filter_map m xs ≡ filter_map m ys → filter_map m (b ∷ xs) ≡ filter_map m (c ∷ ys)
added_by m b c xs ys None e f h = rw (e, f) h
added_by m b c xs ys (Some y) e f h = rw (e, f) (ap (λ l. y ∷ l) h)

map_made : {B : Type 0} (m : Branch → Option B) (f : Branch → Branch) → ((b : Branch) → m (f b) ≡ m b) → (bs : List Branch) → filter_map m (map f bs) ≡ filter_map m bs
map_made m f same [] = refl
map_made m f same (b ∷ bs) = added_by m (f b) b (map f bs) bs (m b) (same b) refl (map_made m f same bs)

changed_by : {B : Type 0} (m : Branch → Option B) (f : Branch → Branch) (b : Branch) (xs ys : List Branch) (c : Bool) → m (f b) ≡ m b → filter_map m ys ≡ filter_map m xs
    → filter_map m (cond c (f b ∷ xs) (b ∷ ys)) ≡ filter_map m (b ∷ xs)
changed_by m f b xs ys true same rest = added_by m (f b) b xs xs (m b) same refl refl
changed_by m f b xs ys false same rest = added_by m b b ys xs (m b) refl refl rest

change_made : {B : Type 0} (m : Branch → Option B) (p : Branch → Bool) (f : Branch → Branch) → ((b : Branch) → m (f b) ≡ m b) → (bs : List Branch) → filter_map m (change p f bs) ≡ filter_map m bs
change_made m p f same [] = refl
change_made m p f same (b ∷ bs) = changed_by m f b bs (change p f bs) (p b) (same b) (change_made m p f same bs)

mark_committed : (code : ℤ) (b : Branch) (p : Phase) → committed_part b.timestamp (writes_of b.operations) (marked_phase code p) ≡ committed_part b.timestamp (writes_of b.operations) p
mark_committed code b (Working x work) = refl
mark_committed code b (Prepared x) = refl
mark_committed code b Committed = refl

mark_prepared : (code : ℤ) (b : Branch) (p : Phase) → prepared_part b.timestamp (writes_of b.operations) (marked_phase code p) ≡ prepared_part b.timestamp (writes_of b.operations) p
mark_prepared code b (Working x work) = refl
mark_prepared code b (Prepared x) = refl
mark_prepared code b Committed = refl

with_mark_same : (s : State) (given : ℕ) (sessions : List Session) (held : List Association) (xid : Triple) (code : ℤ) (reads : List Read)
    → IsSame s (with_all s given sessions held (change (is_known_as xid) (with_mark code) s.branches) reads)
with_mark_same s given sessions held xid code reads =
    kept s given sessions held (change (is_known_as xid) (with_mark code) s.branches) reads
    (ap reverse (change_made committed_of (is_known_as xid) (with_mark code) (λ b. mark_committed code b b.phase) s.branches))
    (ap reverse (change_made prepared_of (is_known_as xid) (with_mark code) (λ b. mark_prepared code b b.phase) s.branches))

maybe_committed : (code : ℤ) (b : Branch) (c : Bool) → committed_of (cond c (with_mark code b) b) ≡ committed_of b
maybe_committed code b true = mark_committed code b b.phase
maybe_committed code b false = refl

maybe_prepared : (code : ℤ) (b : Branch) (c : Bool) → prepared_of (cond c (with_mark code b) b) ≡ prepared_of b
maybe_prepared code b true = mark_prepared code b b.phase
maybe_prepared code b false = refl

hung_up_same : (s : State) (n : ℕ) (sessions : List Session) (held : List Association) → IsSame s (with_all s s.given sessions held (map (left_behind s.associations n) s.branches) s.reads)
hung_up_same s n sessions held =
    kept s s.given sessions held (map (left_behind s.associations n) s.branches) s.reads
    (ap reverse (map_made committed_of (left_behind s.associations n) (λ b. maybe_committed XA_RBCOMMFAIL b (is_worked_by s.associations n b.phase)) s.branches))
    (ap reverse (map_made prepared_of (left_behind s.associations n) (λ b. maybe_prepared XA_RBCOMMFAIL b (is_worked_by s.associations n b.phase)) s.branches))

ticked_same : (s : State) (moment : ℕ) → IsSame s (ticked s moment)
ticked_same s moment =
    let same = kept s s.given s.sessions s.associations (map (timed_out moment) s.branches) s.reads
    (ap reverse (map_made committed_of (timed_out moment) (λ b. maybe_committed XA_RBTIMEOUT b (runs_out moment b)) s.branches))
    (ap reverse (map_made prepared_of (timed_out moment) (λ b. maybe_prepared XA_RBTIMEOUT b (runs_out moment b)) s.branches)) in
    record { lasts = same.lasts; end = refl; boot = refl; logged_boot = refl; open_records = refl; standing = refl }

-- the association table

start_same : (s : State) (n flags : ℕ) (xid : Triple) → IsSame s (start_by s n flags xid).after
start_same s n flags xid = start_after (IsSame s) s (itself s) n flags xid (alike s s.given s.sessions _ s.reads) (alike s s.given s.sessions _ s.reads) (alike s s.given s.sessions _ s.reads) (λ none. kept s (s.given + 1) s.sessions _ _ s.reads refl refl)

end_same : (s : State) (n flags : ℕ) (xid : Triple) → IsSame s (end_by s n flags xid).after
end_same s n flags xid = end_after (IsSame s) s (itself s) n flags xid (alike s s.given s.sessions _ s.reads) (λ migrates none. alike s s.given s.sessions _ s.reads) (alike s s.given s.sessions _ s.reads) (with_mark_same s s.given s.sessions _ xid XA_RBROLLBACK s.reads)

-- recoveries

recovered_same : (s : State) (n flags count : ℕ) (scan : Option (Option Triple)) → IsSame s (recovered_from s n flags count scan).after
recovered_same s n flags count None = itself s
recovered_same s n flags count (Some cursor) = alike s s.given _ s.associations s.reads

-- gets and puts

got_same : (s : State) (key : List ℕ) (xid : Triple) (b : Branch) (v : Version) → IsSame s (got s key xid b v).after
got_same s key xid b v =
    kept s s.given s.sessions s.associations _ _
    (ap reverse (change_made committed_of (is_known_as xid) (having_done (Got key v.value v.timestamp)) (λ b. refl) s.branches))
    (ap reverse (change_made prepared_of (is_known_as xid) (having_done (Got key v.value v.timestamp)) (λ b. refl) s.branches))

get_same : (s : State) (key : List ℕ) (o : Option (Triple × Branch)) → IsSame s (get_by s key o).after
get_same s key None = itself s
get_same s key (Some (xid, b)) = get_after (IsSame s) s (itself s) key xid b (λ none. got_same s key xid b (source key b.timestamp s.branches))

unmade_by : (b : Branch) (p : Phase) → is_working p ≡ true → (committed_part b.timestamp (writes_of b.operations) p ≡ None) × (prepared_part b.timestamp (writes_of b.operations) p ≡ None)
unmade_by b (Working x work) works = (refl, refl)
unmade_by b (Prepared x) works = absurd (cc works)
unmade_by b Committed works = absurd (cc works)

-- the session's own branch is at work

holds_by : (s : State) (n : ℕ) (x : Triple) (a : Association) (c : Bool) → is_at_work (known_of s.branches x) ≡ c → IsSound s → find (λ (q : Association). is_active n q.holder) s.associations ≡ Some a
    → a.xid ≡ x → c ≡ true
holds_by s n x a true e h found named = refl
holds_by s n x a false e h found named =
    let none : AllByRecursion (λ (q : Association). xid_eq q.xid x ≡ false) s.associations = uncounted (λ (q : Association). xid_eq q.xid x) s.associations (h.bound x e) in
    let apart : xid_eq a.xid x ≡ false = found_all (λ (q : Association). xid_eq q.xid x ≡ false) (λ (q : Association). is_active n q.holder) a s.associations none found in
    let itself : xid_eq x x ≡ false = subst (λ (y : Triple). xid_eq y x ≡ false) named apart in
    absurd (cc (xid_eq_itself x, itself))

record IsOwn (s : State) (xid : Triple) (b : Branch) : Type 0 where
  found : known_of s.branches xid ≡ Some b
  works : is_working b.phase ≡ true

own_by : (s : State) (n : ℕ) (xid : Triple) (b : Branch) (f : Option Association) (o : Option Branch) (x : Triple) (a : Association) → find (λ (q : Association). is_active n q.holder) s.associations ≡ Some a → a.xid ≡ x
    → known_of s.branches x ≡ o → option_map {U = Triple × Branch} (λ (c : Branch). (x, c)) o ≡ Some (xid, b) → IsSound s → IsOwn s xid b
own_by s n xid b f None x a held named found e h = absurd (cc e)
own_by s n xid b f (Some c) x a held named found e h =
    let pair : (x, c) ≡ (xid, b) = cc e in
    let same : x ≡ xid = ap (λ (q : Triple × Branch). q.0) pair in
    let one : c ≡ b = ap (λ (q : Triple × Branch). q.1) pair in
    let work : is_at_work (known_of s.branches x) ≡ true = holds_by s n x a (is_at_work (known_of s.branches x)) refl h held named in
    record {
      found = subst (λ (y : Triple). known_of s.branches y ≡ Some b) same (found ∙ ap (λ (d : Branch). Some d) one);
      works = let here : is_at_work (Some c) ≡ true = sym (ap is_at_work found) ∙ work in subst (λ (d : Branch). is_working d.phase ≡ true) one here;
    }

owned_by : (s : State) (n : ℕ) (xid : Triple) (b : Branch) (f : Option Association) → find (λ (q : Association). is_active n q.holder) s.associations ≡ f
    → option_and_then (branch_with s.branches) (option_map (λ (q : Association). q.xid) f) ≡ Some (xid, b) → IsSound s → IsOwn s xid b
owned_by s n xid b None held e h = absurd (cc e)
owned_by s n xid b (Some a) held e h = own_by s n xid b (Some a) (known_of s.branches a.xid) a.xid a held refl refl e h

owned : (s : State) (n : ℕ) (xid : Triple) (b : Branch) → own_branch s n ≡ Some (xid, b) → IsSound s → IsOwn s xid b
owned s n xid b e h = owned_by s n xid b (find (λ (q : Association). is_active n q.holder) s.associations) refl e h

unmade : {B : Type 0} (m : Branch → Option B) (f : Branch → Branch) (xid : Triple) (b : Branch) (bs : List Branch) → known_of bs xid ≡ Some b → m b ≡ None → m (f b) ≡ None
    → parts m (change (is_known_as xid) f bs) ≡ parts m bs
unmade m f xid b bs found none still =
    let here = split (is_known_as xid) b bs found in
    ap (parts m) (here.changed f) ∙ parts_none m here.front (f b) here.back still ∙ sym (ap (parts m) here.whole ∙ parts_none m here.front b here.back none)

written_same : (s : State) (key : List ℕ) (value : Option (List ℕ)) (xid : Triple) (b : Branch) → IsOwn s xid b → IsSame s (written s key value xid).after
written_same s key value xid b own =
    let none = unmade_by b b.phase own.works in
    let still = unmade_by (having_done (Wrote key value) b) b.phase own.works in
    kept s s.given s.sessions s.associations _ s.reads
    (unmade committed_of (having_done (Wrote key value)) xid b s.branches own.found none.0 still.0)
    (unmade prepared_of (having_done (Wrote key value)) xid b s.branches own.found none.1 still.1)

put_same : (s : State) (n : ℕ) (key : List ℕ) (value : Option (List ℕ)) (o : Option (Triple × Branch)) → own_branch s n ≡ o → IsSound s → IsSame s (put_by s key value o).after
put_same s n key value None e h = itself s
put_same s n key value (Some (xid, b)) e h =
    put_after (IsSame s) s (itself s) key value xid b (with_mark_same s s.given s.sessions s.associations xid XA_RBTRANSIENT s.reads)
    (λ none timely. written_same s key value xid b (owned s n xid b e h))

-- all rows, of a session that is connected

keeps : (s t : State) → IsSame s t → IsSound t → KeepsLog s t
keeps s t same sound = record {
  sound = sound;
  lasts = same.lasts;
  end = same.end;
  boot = same.boot;
  logged_boot = same.logged_boot;
  open_records = same.open_records;
  standing = same.standing;
}

row_logs : (s : State) (n : ℕ) (request : Request) → IsSound s → is_some (session_of s.sessions n) ≡ true → asks_boot request ≡ false → LogsWhatLasts s (row s n request)
row_logs s n (Open flags info) h seated other = keeps s (open_by s n).after (alike s s.given _ s.associations s.reads) (seat_sound s n as_opened (λ x. refl) h)
row_logs s n (Close flags) h seated other =
    keeps s (close_by s n).after (unless_after (IsSame s) (close_refusal (list_any (is_of_session n) s.associations)) s _ (itself s) (λ none. alike s s.given _ s.associations s.reads)) (close_sound s n h)
row_logs s n (Start flags xid) h seated other = keeps s (start_by s n flags xid).after (start_same s n flags xid) (start_sound s n flags xid h seated)
row_logs s n (End flags xid) h seated other = keeps s (end_by s n flags xid).after (end_same s n flags xid) (end_sound s n flags xid h)
row_logs s n (Prepare flags xid) h seated other = prepares s xid h
row_logs s n (Commit flags xid) h seated other =
    cond_logs (has flags TMONEPHASE) s (commit_one_phase_turn s xid) (commit_two_phase_turn s xid) (λ one. commits s xid h) (commits_in_doubt s xid h)
row_logs s n (Rollback flags xid) h seated other = rolls_back s xid h
row_logs s n (Forget flags xid) h seated other = forgets s xid h
row_logs s n (Recover flags count) h seated other =
    keeps s (recover_by s n flags count).after (recovered_same s n flags count (scan_from flags (scan_of s.sessions n))) (recover_sound s n flags count h)
row_logs s n (Get key) h seated other = keeps s (get_by s key (own_branch s n)).after (get_same s key (own_branch s n)) (get_sound s key (own_branch s n) h)
row_logs s n (Put key value) h seated other =
    keeps s (put_by s key (Some value) (own_branch s n)).after (put_same s n key (Some value) (own_branch s n) refl h) (put_sound s key (Some value) (own_branch s n) h)
row_logs s n (Delete key) h seated other =
    keeps s (put_by s key None (own_branch s n)).after (put_same s n key None (own_branch s n) refl h) (put_sound s key None (own_branch s n) h)
row_logs s n (Decide direction xid) h seated other = decides s direction xid h
row_logs s n (Doom xid) h seated other =
    keeps s (doom_by s xid).after (unless_after (IsSame s) (doom_refusal (known_as s xid)) s (ok (doomed s xid)) (itself s) (λ none. with_mark_same s s.given s.sessions s.associations xid XA_RBOTHER s.reads)) (doom_sound s xid h)
row_logs s n Restart h seated other = absurd (cc other)
row_logs s n (Timeout seconds) h seated other = keeps s (timeout_by s n seconds).after (alike s s.given _ s.associations s.reads) (timeout_sound s n seconds h)
row_logs s n (Tick moment) h seated other = keeps s (tick_by s moment).after (ticked_same s moment) (tick_sound s moment h)
row_logs s n Trim h seated other = absurd (cc other)
row_logs s n (Branches count after) h seated other = keeps s s (alike s s.given s.sessions s.associations s.reads) h

pub events_log_what_lasts : EventsLogWhatLasts
events_log_what_lasts s event.Connect h other = keeps s (connect_by s).after (unless_after (IsSame s) (connect_refusal _) s (connected s) (itself s) (λ none. alike s s.given _ s.associations s.reads)) (connected_sound s h)
events_log_what_lasts s (event.Hangup n) h other = keeps s (hang_up_by s n).after (hung_up_same s n _ _) (hung_up_sound s n h)
events_log_what_lasts s (event.Call n request) h other =
    unless_logs (early_refusal (context_of s n) request) s (row s n request) (logged_itself s h)
    (λ allowed. row_logs s n request h (reached s n request allowed) other)
