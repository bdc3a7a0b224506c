-- How a row that logs takes its turn, by its plan, the append, and what the tables make of the answer.
use Rattle.std.proofs.Common.{◌≡◌, ◌≢◌, ℕ, ◌+◌, ◌≤◌, Bool, true, false, if◌then◌else◌, Option, Some, None, List, [], ◌∷◌, length, refl, ap, sym, ◌∙◌, subst, arith, w32, to_z, of_z}
use Rattle.mv_chain.specs.declared.fate.Fate.{Fate}
use Rattle.mv_chain.specs.declared.fate.Fate.TheVariants as fate
use Rattle.xa_disk.specs.declared.disk.Disk.{Ghosts}
use Rattle.xa_codes.specs.Flags.{has}
use Rattle.xa_codes.specs.declared.codes.TheConstants.{XAER_RMERR}
use Rattle.xa_codes.specs.declared.flags.TheConstants.{TMONEPHASE}
use Rattle.xa_frame.specs.declared.reply.Reply.{Reply}
use Rattle.xa_limits.specs.declared.TheConstants.{MOST_BODY, MOST_SMALL}
use Rattle.xa_xid.specs.Triple.{Triple}
use Rattle.xa_codes.specs.declared.write.Write.{Write}
use Rattle.xa_record.specs.Limits.{IsBranch, IsRecord}
use Rattle.xa_record.specs.Spelling.{spelled}
use Rattle.xa_record.specs.declared.record.Record.{Record}
use Rattle.xa_log.specs.Believed.Chain.{IsBody, most_body}
use Rattle.xa_log.specs.declared.format.Format.{Format}
use Rattle.xa_log.specs.declared.format.Format.TheVariants as format
use Rattle.xa_model.specs.declared.outcome.Appending.{Appending}
use Rattle.xa_model.specs.declared.outcome.Appending.TheVariants.{Kept as WasKept, Refused, Lost}
use Rattle.xa_model.specs.declared.outcome.Outcome.{Outcome}
use Rattle.xa_model.specs.declared.outcome.Outcome.TheVariants.{Quiet, Appended}
use Rattle.xa_model.specs.State.{State, known_of}
use Rattle.xa_model.specs.Phases.{committed, rolled_back}
use Rattle.xa_model.specs.Completions.{commit_one_phase_turn, commit_two_phase_turn}
use Rattle.xa_model.specs.Fold.{size_of}
use Rattle.xa_model.specs.Step.{commit_turn}
use Rattle.xa_model.specs.Answer.{answer}
use Rattle.xa_model.specs.Turn.{Turn, Now as AtOnce}
use Rattle.xa_assoc.specs.Refusals.{is_memory, IsBare}
use Rattle.xa_manager.specs.declared.manager.Manager.{Manager}
use Rattle.xa_manager.specs.declared.plan.Logging.{Logging}
use Rattle.xa_manager.specs.declared.plan.Plan.TheVariants.{Now, Logs}
use Rattle.xa_manager.specs.declared.row.Row.{Row}
use Rattle.xa_manager.specs.declared.row.Row.TheVariants.{Writes, CommitTwoPhase, Rollback, Decide, Forget}
use Rattle.xa_manager.specs.declared.row.Writing.{Writing}
use Rattle.xa_manager.specs.declared.row.Writing.TheVariants.{Prepare, CommitOnePhase}
use Rattle.xa_manager.specs.declared.tables.Tables.{Tables}
use Rattle.xa_manager.specs.Acts.{BranchBecomes, GivesRoomBack, Settles, TakesPrepared, settled}
use Rattle.xa_manager.specs.Managed.{view, ManagerStandsFor}
use Rattle.xa_manager.specs.Plans.{bytes_of, AnswersAtOnce, Appends, CanLog, IsPlan, IsReady, MakesReady, TakesAnswer}
use Rattle.xa_manager.specs.Rows.{became, commit_row, left_by, record_of, refused_code, row_turn, takes_memory, unwritten_code, written_record}
use Rattle.xa_manager.specs.Stands.{StandsFor, TablesStandFor}
use Rattle.xa_manager.specs.Turns.{HasAppended, HasJournaled, Takes, TakesTurn, doubt_after, reply_to, up_after}
use Rattle.xa_manager.specs.View.{view_of}
use Rattle.xa_manager.proofs.Appending.{alone}
use Rattle.xa_manager.proofs.OnePhase.{known_by}
use Rattle.xa_manager.proofs.Reserved.{appended_same}
use Rattle.xa_manager.proofs.Taking.{by_answer, down_after, lost_is, refused_is, reply_by, served_by, tables_up, takes_now}

-- what the tables make of the answer to a record with writes

pub answers_prepared : (t t' : Tables) (xid : Triple) (a : Appending) → (a ≡ WasKept → TakesPrepared t xid t') → (a ≢ WasKept → GivesRoomBack t xid t') → TakesAnswer t (Writes Prepare) xid a t'
answers_prepared t t' xid a kept left s st may recoverable =
    let r = record_of (Writes Prepare) xid s in
    by_answer (view_of t') s r XAER_RMERR s a
    (λ e found. kept e s (s.end + size_of r) st found)
    (λ e found. left (refused_is a e) s st)
    (λ e found. down_after (view_of t') s r (left (lost_is a e) s st) found) recoverable

pub answers_committed : (t t' : Tables) (xid : Triple) (a : Appending) → (a ≡ WasKept → BranchBecomes t xid committed t') → (a ≡ Refused → BranchBecomes t xid rolled_back t') → (a ≡ Lost → t' ≡ t)
    → TakesAnswer t (Writes CommitOnePhase) xid a t'
answers_committed t t' xid a kept refused lost s st may recoverable =
    let r = record_of (Writes CommitOnePhase) xid s in
    let known = known_by (known_of s.branches xid) may.working in
    by_answer (view_of t') s r XAER_RMERR (rolled_back s xid) a
    (λ e found. kept e s (s.end + size_of r) st known found)
    (λ e found. refused e s s.end st known found)
    (λ e found. down_after (view_of t') s r (subst (λ (k : Tables). StandsFor (view_of k) s) (sym (lost e)) st) found) recoverable

-- what becomes of a branch of which nothing is logged

pub settles_by : (t t' : Tables) (xid : Triple) (f : Fate) → (f ≡ fate.RolledBack → BranchBecomes t xid rolled_back t') → (f ≡ fate.Committed → BranchBecomes t xid committed t') → Settles t (Some f) xid t'
settles_by t t' xid fate.RolledBack rolled done = λ s st known recoverable. rolled refl s s.end st known recoverable
settles_by t t' xid fate.Committed rolled done = λ s st known recoverable. done refl s s.end st known recoverable

-- a record of writes within its limits

pub is_record : (w : Writing) (xid : Triple) (t : ℕ) (ws : List Write) → IsBranch xid t ws → IsRecord (written_record w xid t ws)
is_record Prepare xid t ws h = h
is_record CommitOnePhase xid t ws h = h

pub written_some : (w : Writing) (xid : Triple) (t : ℕ) (ws : List Write) → 1 ≤ length (spelled (written_record w xid t ws))
written_some Prepare xid t ws = omega arith
written_some CommitOnePhase xid t ws = omega arith

-- a row whose record has no writes takes nothing

pub other_rows : (row : Row) → ((w : Writing) → row ≡ Writes w → ⊥) → takes_memory row ≡ false
other_rows (Writes w) h = absurd (h w refl)
other_rows CommitTwoPhase h = refl
other_rows Rollback h = refl
other_rows (Decide direction) h = refl
other_rows Forget h = refl

pub without_none : (w : Writing) → takes_memory (Writes w) ≡ false → ⊥
without_none w e = cc e

pub ready_without : (t : Tables) (row : Row) (xid : Triple) → takes_memory row ≡ false → MakesReady t row xid t
ready_without t (Writes w) xid e = absurd (cc e)
ready_without t CommitTwoPhase xid e = λ s st. st
ready_without t Rollback xid e = λ s st. st
ready_without t (Decide direction) xid e = λ s st. st
ready_without t Forget xid e = λ s st. st

-- a code is a word of its own
pub unwritten_kept : (w : Writing) → to_z w32 (of_z w32 (unwritten_code w)) ≡ unwritten_code w
unwritten_kept Prepare = refl
unwritten_kept CommitOnePhase = refl

pub refused_kept : (row : Row) → to_z w32 (of_z w32 (refused_code row)) ≡ refused_code row
refused_kept (Writes w) = refl
refused_kept CommitTwoPhase = refl
refused_kept Rollback = refl
refused_kept (Decide direction) = refl
refused_kept Forget = refl

-- a commit's row is of one phase or of two

by_phase : (b : Bool) (xid : Triple) (s : State) → (if b then commit_one_phase_turn s xid else commit_two_phase_turn s xid) ≡ row_turn (if b then Writes CommitOnePhase else CommitTwoPhase) xid s
by_phase true xid s = refl
by_phase false xid s = refl

pub commits_by : (flags : ℕ) (xid : Triple) (s : State) → commit_turn s flags xid ≡ row_turn (commit_row flags) xid s
commits_by flags xid s = by_phase (has flags TMONEPHASE) xid s

without_by : (b : Bool) → b ≡ false → takes_memory (if b then Writes CommitOnePhase else CommitTwoPhase) ≡ false
without_by true e = absurd (cc e)
without_by false e = refl

pub commits_without : (flags : ℕ) → has flags TMONEPHASE ≡ false → takes_memory (commit_row flags) ≡ false
commits_without flags e = without_by (has flags TMONEPHASE) e

-- a record without writes is short enough for every log

small_body : (f : Format) (n : ℕ) → n ≤ MOST_SMALL → n ≤ most_body f
small_body format.One n h = omega (arith, h)
small_body format.Two n h = omega (arith, h)

pub body_short : (f : Format) (b : List ℕ) → IsBody f b → length b ≤ MOST_BODY
body_short format.One b h = omega (arith, h.small)
body_short format.Two b h = h.small

module _ {D : Type 0} (disks : Ghosts D) where
  -- what is answered at once

  pub refused_at_once : (m : Manager D) (row : Row) (xid : Triple) (reply : Reply) → is_memory reply.detail ≡ false → IsBare reply → ((s : State) → StandsFor (view m) s → row_turn row xid s ≡ AtOnce (answer reply s))
      → IsPlan disks m row xid (Now reply None)
  refused_at_once m row xid reply served bare turns = record {
    answers = λ s whole is_up. record { turn_is = turns s (tables_up disks m s is_up whole); may = tt };
    served = served;
    bare = bare;
  }

  pub settled_at_once : (m : Manager D) (row : Row) (xid : Triple) (reply : Reply) (fate : Fate) → is_memory reply.detail ≡ false → IsBare reply
      → ((s : State) → ManagerStandsFor disks m s → m.up ≡ true → StandsFor (view m) s → AnswersAtOnce row xid reply (Some fate) s) → IsPlan disks m row xid (Now reply (Some fate))
  settled_at_once m row xid reply fate served bare turns =
      record { answers = λ s whole is_up. turns s whole is_up (tables_up disks m s is_up whole); served = served; bare = bare }

  pub takes_at_once : (m m' : Manager D) (row : Row) (xid : Triple) (reply : Reply) (fate : Option Fate) (outcome : Outcome) → outcome ≡ Quiet → IsPlan disks m row xid (Now reply fate)
      → m'.log ≡ m.log → m'.up ≡ m.up → m'.doubt ≡ m.doubt → Settles m.tables fate xid m'.tables → TakesTurn disks m (row_turn row xid) reply outcome m'
  takes_at_once m m' row xid reply fate outcome quiet plan log up doubt settles =
      takes_now disks m m' (row_turn row xid) reply outcome plan.served quiet log up doubt
      (λ s whole is_up st.
      let x = plan.answers s whole is_up in
      record { answer = answer reply (settled fate xid s); turn_is = x.turn_is; reply_is = refl; tables = λ recoverable. settles s st x.may recoverable })

  -- what is logged

  pub plans_small : (m : Manager D) (row : Row) (xid : Triple) (l : Logging) (r : Record) → l.row ≡ row → l.xid ≡ xid → bytes_of l.body ≡ spelled r → 1 ≤ length (spelled r) → length (spelled r) ≤ MOST_SMALL
      → ((s : State) → ManagerStandsFor disks m s → StandsFor (view m) s → Appends row xid (spelled r) s) → IsPlan disks m row xid (Logs l)
  plans_small m row xid l r row_is xid_is body_is some short appends = (
    row_is,
    xid_is,
    record {
      size = record { some = rw body_is some; small = rw body_is (small_body m.log.format (length (spelled r)) short) };
      small = λ e. rw body_is short;
      appends = λ s whole is_up. rw (row_is, xid_is, body_is) (appends s whole (tables_up disks m s is_up whole));
    },
  )

  pub plans_long : (m : Manager D) (w : Writing) (xid : Triple) (l : Logging) (body : List ℕ) → l.row ≡ Writes w → l.xid ≡ xid → bytes_of l.body ≡ body → IsBody m.log.format body
      → ((s : State) → ManagerStandsFor disks m s → m.up ≡ true → Appends (Writes w) xid body s) → IsPlan disks m (Writes w) xid (Logs l)
  plans_long m w xid l body row_is xid_is body_is size appends = (
    row_is,
    xid_is,
    record {
      size = rw body_is size;
      small = λ e. absurd (without_none w (subst (λ (r : Row). takes_memory r ≡ false) row_is e));
      appends = λ s whole is_up. rw (row_is, xid_is, body_is) (appends s whole is_up);
    },
  )

  -- what was to be appended was journaled, and the tables took the answer
  pub takes_planned : (m mid mid' m' : Manager D) (l : Logging) (a : Appending) (reply : Reply) (outcome : Outcome) → reply ≡ reply_to (refused_code l.row) a → outcome ≡ Appended a
      → CanLog disks m l → IsReady disks m l mid → HasJournaled disks (bytes_of l.body ∷ []) a mid mid' → m'.log ≡ mid'.log → m'.up ≡ mid'.up → m'.doubt ≡ mid'.doubt → TakesAnswer mid'.tables l.row l.xid a m'.tables
      → TakesTurn disks m (row_turn l.row l.xid) reply outcome m'
  takes_planned m mid mid' m' l a reply outcome reply_is is can r j log' up' doubt' took = record {
    takes = λ s st is_up.
        let body = bytes_of l.body in
        let x = can.appends s st is_up in
        let said = record_of l.row l.xid s in
        let code = refused_code l.row in
        let left = left_by l.row l.xid s in
        let is_up' : m'.up ≡ up_after a = up' ∙ j.up (r.up ∙ is_up) in
        let alive : mid.log.lost ≡ false = r.log.fields.lost ∙ st.alive is_up in
        let fits : mid.log.end + 40 + length body ≤ mid.log.log_bytes = rw (r.log.fields.end, st.end is_up, r.log.fields.log_bytes, st.log_bytes) x.fits in
        let there : HasAppended disks (body ∷ []) a m.log mid'.log = appended_same disks m.log mid.log r.log (body ∷ []) a mid'.log (j.appended alive (subst (λ (n : ℕ). mid.log.end + 40 + n ≤ mid.log.log_bytes) (sym (alone body)) fits)) in
        let ready : MakesReady m.tables l.row l.xid mid'.tables = subst (λ (k : Tables). MakesReady m.tables l.row l.xid k) (sym j.tables) r.tables in
        subst (λ (t : Turn). Takes disks m t reply outcome m') (sym x.turn_is)
        (record {
          answer = a;
          reply_is = reply_by s said code left a ∙ sym reply_is;
          outcome_is = is;
          log = subst (λ (b : List ℕ). HasAppended disks (b ∷ []) a m.log m'.log) (sym x.body_is) (rw log' there);
          up = is_up';
          doubt = doubt' ∙ j.doubt ∙ ap (λ (e : ℕ). doubt_after a e) r.log.fields.end;
          tables = λ recoverable. subst (λ (b : Bool). TablesStandFor b (view m') (became l.row l.xid s a).after) (sym is_up') (took s (ready s (tables_up disks m s is_up st)) x.may recoverable);
        });
    served = subst (λ (x : Reply). is_memory x.detail ≡ false) (sym reply_is) (served_by (refused_code l.row) a);
  }

  -- it is a body of the log that has room for it
  pub ready_size : (m mid : Manager D) (l : Logging) → CanLog disks m l → IsReady disks m l mid → IsBody mid.log.format (bytes_of l.body)
  ready_size m mid l can r = subst (λ (f : Format). IsBody f (bytes_of l.body)) (sym r.log.fields.format) can.size

  -- the row and the XID are those that were asked
  pub of_row_asked : (m m' : Manager D) (row named : Row) (xid other : Triple) (reply : Reply) (outcome : Outcome) → named ≡ row → other ≡ xid
      → TakesTurn disks m (row_turn named other) reply outcome m' → TakesTurn disks m (row_turn row xid) reply outcome m'
  of_row_asked m m' row named xid other reply outcome e f h =
      subst (λ (r : Row). TakesTurn disks m (row_turn r xid) reply outcome m') e (subst (λ (x : Triple). TakesTurn disks m (row_turn named x) reply outcome m') f h)
