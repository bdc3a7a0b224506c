-- The calls that log: what is answered at once, and what each outcome of an append leaves.
use Rattle.std.proofs.Common.{◌≡◌, ℤ, Bool, true, false, cond, List, [], ◌∷◌, length, Option, Some, None, refl, ap, ◌∙◌, arith}
use Rattle.std.proofs.lemmas.Bool.{eqb-true}
use Rattle.std.proofs.lemmas.Bool.Decides.{nat_tests}
use Rattle.xa_codes.specs.declared.direction.Direction.{Direction}
use Rattle.xa_codes.specs.declared.direction.Direction.TheVariants as direction
use Rattle.xa_codes.specs.declared.codes.TheConstants.{XAER_RMERR, XA_RETRY, XA_RDONLY}
use Rattle.xa_codes.specs.declared.write.Write.{Write}
use Rattle.xa_frame.specs.declared.reply.Reply.{Reply}
use Rattle.xa_record.specs.declared.record.Record.{Record}
use Rattle.xa_record.specs.declared.record.Record.TheVariants as logged
use Rattle.xa_xid.specs.Triple.{Triple}
use Rattle.xa_model.specs.State.{State, Known, Unknown, AtWork, InDoubt, Completed, known_as, holders_of}
use Rattle.xa_model.specs.Answer.{plain, answer, ok}
use Rattle.xa_model.specs.Associations.{is_unknown, is_lasting, mark_in, timestamp_in}
use Rattle.xa_model.specs.Phases.{is_associated, unprepared_refusal, two_phase_refusal, rollback_refusal, heuristic_refusal, rolled_back, committed}
use Rattle.xa_model.specs.Invariants.Sound.{IsSound}
use Rattle.xa_model.specs.Durable.{durable}
use Rattle.xa_model.specs.Fold.{is_empty, commit_writes}
use Rattle.xa_model.specs.Turn.{Turn, Now, unless_now, marked_now}
use Rattle.xa_model.specs.Logging.{logs, has_room, log_full, writes_in}
use Rattle.xa_model.specs.Completions.{prepare_written, prepare_turn, commit_written, commit_one_phase_turn, commit_two_phase_turn, roll_back_turn, rollback_turn, decide_refusal, decide_turn, forget_refusal, forget_turn, is_completed}
use Rattle.xa_model.specs.Invariants.MayLog.{IsIdle, MayLog}
use Rattle.xa_model.specs.Laws.Logging.{KeepsLog, LogsWhatLasts}
use Rattle.xa_model.proofs.Rows.{passed, neither, at_work}
use Rattle.xa_model.proofs.Names.{gone_sound, committed_sound}
use Rattle.xa_model.proofs.LastWrites.{last_are_last, last_same}
use Rattle.xa_model.proofs.Commits.{commit_nothing}
use Rattle.xa_model.proofs.Splits.{parts}
use Rattle.xa_model.proofs.Applied.{committed_of, committed_lasts, rolled_back_lasts}

-- turns

pub unless_logs : (o : Option Reply) (s : State) (t : Turn) → KeepsLog s s → (o ≡ None → LogsWhatLasts s t) → LogsWhatLasts s (unless_now o s t)
unless_logs None s t h k = k refl
unless_logs (Some reply) s t h k = h

marked_logs : (o : Option ℤ) (s left : State) (t : Turn) → KeepsLog s left → LogsWhatLasts s t → LogsWhatLasts s (marked_now o left t)
marked_logs None s left t h k = k
marked_logs (Some code) s left t h k = h

pub cond_logs : (c : Bool) (s : State) (t u : Turn) → (c ≡ true → LogsWhatLasts s t) → LogsWhatLasts s u → LogsWhatLasts s (cond c t u)
cond_logs true s t u h k = h refl
cond_logs false s t u h k = k

logs_lasts : (s : State) (r : Record) (code : ℤ) (left : State) → MayLog s r → KeepsLog s left → LogsWhatLasts s (logs s r code left)
logs_lasts s r code left may h = (may, refl, h, refl)

pub itself : (s : State) → IsSound s → KeepsLog s s
itself s h = record { sound = h; lasts = refl; end = refl; boot = refl; logged_boot = refl; open_records = refl; standing = refl }

-- an idle branch

pub idle_of : (s : State) (xid : Triple) → is_unknown (known_as s xid) ≡ false → is_associated s xid ≡ false → is_lasting (known_as s xid) ≡ false → IsIdle s xid (timestamp_in s xid) (writes_in s xid)
idle_of s xid known free unsettled = record { free = unheld s xid free; working = at_work s xid known unsettled; timestamp = refl; writes = refl }
  where
    unheld : (s : State) (xid : Triple) → is_associated s xid ≡ false → holders_of s.associations xid ≡ 0
    unheld s xid e = grind (arith, nat_tests)

pub allowed_idle : (s : State) (xid : Triple) → unprepared_refusal (known_as s xid) (is_associated s xid) ≡ None → IsIdle s xid (timestamp_in s xid) (writes_in s xid)
allowed_idle s xid allowed =
    let first = passed _ _ _ allowed in
    let second = neither _ _ (passed _ _ _ first.1).0 in
    idle_of s xid first.0 second.0 second.1

pub gone_keeps : (s : State) (xid : Triple) → IsSound s → IsIdle s xid (timestamp_in s xid) (writes_in s xid) → KeepsLog s (rolled_back s xid)
gone_keeps s xid h idle = record {
  sound = gone_sound s xid h idle.free;
  lasts = rolled_back_lasts s xid (timestamp_in s xid) (writes_in s xid) h idle;
  end = refl;
  boot = refl;
  logged_boot = refl;
  open_records = refl;
  standing = refl;
}

nothing_written : (ws : List Write) → is_empty ws ≡ true → ws ≡ []
nothing_written [] e = refl
nothing_written (w ∷ ws) e = let none : length (w ∷ ws) ≡ 0 = eqb-true (length (w ∷ ws)) 0 e in absurd (omega (arith, none))

read_only_keeps : (s : State) (xid : Triple) → IsSound s → IsIdle s xid (timestamp_in s xid) (writes_in s xid) → is_empty (writes_in s xid) ≡ true → KeepsLog s (committed s xid)
read_only_keeps s xid h idle empty = record {
  sound = committed_sound s xid h idle.free;
  lasts = committed_lasts s xid (timestamp_in s xid) (writes_in s xid) h idle
      ∙ ap (λ ws. commit_writes (timestamp_in s xid) ws (durable s)) (nothing_written (writes_in s xid) empty)
      ∙ ap (λ cs. record (durable s) { committed = cs }) (commit_nothing (timestamp_in s xid) (durable s).committed ∙ last_same (durable s).committed (last_are_last (parts committed_of s.branches)));
  end = refl;
  boot = refl;
  logged_boot = refl;
  open_records = refl;
  standing = refl;
}

-- calls

pub prepares : (s : State) (xid : Triple) → IsSound s → LogsWhatLasts s (prepare_turn s xid)
prepares s xid h =
    unless_logs (unprepared_refusal (known_as s xid) (is_associated s xid)) s _ (itself s h)
    (λ allowed. let idle = allowed_idle s xid allowed in
    marked_logs (mark_in (known_as s xid)) s (rolled_back s xid) _ (gone_keeps s xid h idle)
    (cond_logs (is_empty (writes_in s xid)) s (Now (answer (plain XA_RDONLY) (committed s xid))) (prepare_written s xid) (λ empty. read_only_keeps s xid h idle empty)
    (let r = logged.Prepared xid (timestamp_in s xid) (writes_in s xid) in
    cond_logs (has_room s r 1) s (logs s r XAER_RMERR s) (Now (log_full s xid)) (λ room. logs_lasts s r XAER_RMERR s idle (itself s h)) (gone_keeps s xid h idle))))

pub commits : (s : State) (xid : Triple) → IsSound s → LogsWhatLasts s (commit_one_phase_turn s xid)
commits s xid h =
    unless_logs (unprepared_refusal (known_as s xid) (is_associated s xid)) s _ (itself s h)
    (λ allowed. let idle = allowed_idle s xid allowed in
    marked_logs (mark_in (known_as s xid)) s (rolled_back s xid) _ (gone_keeps s xid h idle)
    (cond_logs (is_empty (writes_in s xid)) s (Now (ok (committed s xid))) (commit_written s xid) (λ empty. read_only_keeps s xid h idle empty)
    (let r = logged.Committed xid (timestamp_in s xid) (writes_in s xid) in
    cond_logs (has_room s r 0) s (logs s r XAER_RMERR (rolled_back s xid)) (Now (log_full s xid)) (λ room. logs_lasts s r XAER_RMERR (rolled_back s xid) idle (gone_keeps s xid h idle)) (gone_keeps s xid h idle))))

pub two_phase_doubt : (k : Known) → two_phase_refusal k ≡ None → heuristic_refusal k ≡ None → k ≡ InDoubt
two_phase_doubt Unknown e f = absurd (cc e)
two_phase_doubt (AtWork mark) e f = absurd (cc e)
two_phase_doubt InDoubt e f = refl
two_phase_doubt (Completed direction) e f = absurd (cc f)

decide_doubt : (k : Known) → decide_refusal k ≡ None → k ≡ InDoubt
decide_doubt Unknown e = absurd (cc e)
decide_doubt (AtWork mark) e = absurd (cc e)
decide_doubt InDoubt e = refl
decide_doubt (Completed direction) e = absurd (cc e)

pub forget_completed : (k : Known) → forget_refusal k ≡ None → is_completed k ≡ true
forget_completed Unknown e = absurd (cc e)
forget_completed (AtWork mark) e = absurd (cc e)
forget_completed InDoubt e = absurd (cc e)
forget_completed (Completed direction) e = refl

marked_keeps : (mark : Option ℤ) (s left : State) → KeepsLog s left → LogsWhatLasts s (marked_now mark left (Now (ok left)))
marked_keeps mark s left h = marked_logs mark s left (Now (ok left)) h h

pub commits_in_doubt : (s : State) (xid : Triple) → IsSound s → LogsWhatLasts s (commit_two_phase_turn s xid)
commits_in_doubt s xid h =
    unless_logs (two_phase_refusal (known_as s xid)) s _ (itself s h)
    (λ allowed. unless_logs (heuristic_refusal (known_as s xid)) s _ (itself s h)
    (λ none. logs_lasts s (logged.Completed xid direction.Commit) XA_RETRY s (two_phase_doubt (known_as s xid) allowed none) (itself s h)))

rolls_back_known : (s : State) (xid : Triple) (k : Known) → known_as s xid ≡ k → is_unknown k ≡ false → is_associated s xid ≡ false → heuristic_refusal k ≡ None → IsSound s
    → LogsWhatLasts s (roll_back_turn s xid k)
rolls_back_known s xid Unknown e known free none h = absurd (cc known)
rolls_back_known s xid (AtWork mark) e known free none h =
    marked_keeps mark s (rolled_back s xid) (gone_keeps s xid h (idle_of s xid (ap is_unknown e) free (ap is_lasting e)))
rolls_back_known s xid InDoubt e known free none h = logs_lasts s (logged.Completed xid direction.Rollback) XAER_RMERR s e (itself s h)
rolls_back_known s xid (Completed direction) e known free none h = absurd (cc none)

pub rolls_back : (s : State) (xid : Triple) → IsSound s → LogsWhatLasts s (rollback_turn s xid)
rolls_back s xid h =
    unless_logs (rollback_refusal (known_as s xid) (is_associated s xid)) s _ (itself s h)
    (λ allowed. let first = passed _ _ _ allowed in let second = passed _ _ _ first.1 in
    unless_logs (heuristic_refusal (known_as s xid)) s _ (itself s h) (λ none. rolls_back_known s xid (known_as s xid) refl first.0 second.0 none h))

pub decides : (s : State) (direction : Direction) (xid : Triple) → IsSound s → LogsWhatLasts s (decide_turn s direction xid)
decides s direction xid h =
    unless_logs (decide_refusal (known_as s xid)) s _ (itself s h)
    (λ allowed. logs_lasts s (logged.Decided xid direction) XAER_RMERR s (decide_doubt (known_as s xid) allowed) (itself s h))

pub forgets : (s : State) (xid : Triple) → IsSound s → LogsWhatLasts s (forget_turn s xid)
forgets s xid h =
    unless_logs (forget_refusal (known_as s xid)) s _ (itself s h)
    (λ allowed. logs_lasts s (logged.Forgotten xid) XAER_RMERR s (forget_completed (known_as s xid) allowed) (itself s h))
