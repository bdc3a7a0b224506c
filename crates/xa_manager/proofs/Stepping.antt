-- A turn that a manager took is a step, and the manager stands for the step's state.
use Rattle.std.proofs.Common.{◌≡◌, inl, ◌+◌, ◌<◌, ◌≤◌, arith, ℕ, Bool, true, false, cond, nat_eq, List, [], ◌∷◌, ◌++◌, get_or, map, length, Option, Some, None, IsSomeAnd, refl, ap, sym, ◌∙◌, subst}
use Rattle.std.proofs.lemmas.Bool.Decides.{nat_tests}
use Rattle.std.proofs.lemmas.List.{map-append}
use Rattle.std.specs.List.{AllByRecursion}
use Rattle.xa_disk.specs.declared.disk.Disk.{Ghosts}
use Rattle.xa_frame.specs.declared.reply.Reply.{Reply}
use Rattle.xa_record.specs.Spelling.{spelled}
use Rattle.xa_record.specs.declared.record.Record.{Record}
use Rattle.xa_record.specs.declared.record.Record.TheVariants as logged
use Rattle.xa_log.specs.Believed.Damage.{is_appended}
use Rattle.xa_log.specs.Believed.Group.{as_one, first_of_group, IsPlain}
use Rattle.xa_log.specs.Believed.Pair.{generation, number_in}
use Rattle.xa_log.specs.Believed.Stands.{Renumbers}
use Rattle.xa_log.specs.declared.appending.Appended.TheVariants as told
use Rattle.xa_log.specs.Believed.TwoFiles.{MayStandPair, Pair}
use Rattle.xa_log.proofs.Beside.{kept_generation, lost_generation, other_kept, refused_generation}
use Rattle.xa_log.specs.Believed.LogView.{LogView}
use Rattle.xa_model.specs.declared.event.Event.{Event}
use Rattle.xa_model.specs.declared.outcome.Outcome.{Outcome}
use Rattle.xa_model.specs.declared.outcome.Outcome.TheVariants.{Quiet, Appended}
use Rattle.xa_model.specs.declared.outcome.Appending.{Appending}
use Rattle.xa_model.specs.declared.outcome.Appending.TheVariants.{Kept, Refused, Lost}
use Rattle.xa_model.specs.Durable.{durable}
use Rattle.xa_model.specs.Fold.{sizes}
use Rattle.xa_model.specs.State.{State, Standing, Up}
use Rattle.xa_model.specs.Answer.{Answer, ok}
use Rattle.xa_model.specs.Turn.{Turn, Nobody, Now, Appends, Checkpoints, Rereads, Joins, Asked, taken}
use Rattle.xa_model.specs.Step.{respond, asked, or_joins, further_record, turn, step}
use Rattle.xa_model.specs.Events.{IsEvent, begins_boot}
use Rattle.xa_model.specs.Logging.{applied, lost}
use Rattle.xa_model.specs.Phases.{completed}
use Rattle.xa_model.specs.Invariants.MayLog.{MayLog}
use Rattle.xa_codes.specs.declared.direction.Direction.{Direction}
use Rattle.xa_codes.specs.declared.direction.Direction.TheVariants.{Commit, Rollback}
use Rattle.xa_xid.specs.Triple.{Triple}
use Rattle.xa_model.specs.Laws.Logging.{KeepsLog, LogsWhatLasts}
use Rattle.xa_model.specs.Invariants.Backing.{Backs, BacksTurn}
use Rattle.xa_model.specs.Invariants.Loggable.{IsRecoverable, AreOneGroup, is_boot}
use Rattle.xa_model.proofs.LoggedEvents.{events_log_what_lasts}
use Rattle.xa_model.proofs.LogBehind.{keeps_backed}
use Rattle.xa_model.proofs.LastLogged.{LogsLast}
use Rattle.xa_model.proofs.Recoveries.{keeps_recoverable, turn_logs_last}
use Rattle.xa_model.proofs.RoomyRows.{AsksRoom, events_ask_room}
use Rattle.xa_model.proofs.RoomyTurns.{keeps_room}
use Rattle.xa_model.proofs.Trims.{restarts_none, trims_none}
use Rattle.xa_assoc.specs.Refusals.{is_memory}
use Rattle.xa_manager.specs.declared.doubt.Doubt.{Doubt}
use Rattle.xa_manager.specs.declared.doubt.Doubt.TheVariants as doubt
use Rattle.xa_manager.specs.declared.manager.Manager.{Manager}
use Rattle.xa_manager.specs.Believed.Answered.{HasCalled, HasCalledFor}
use Rattle.xa_manager.specs.View.{View as Tables}
use Rattle.xa_manager.specs.Believed.Crash.{LeavesBy, LeavesNow, LeavesWritten, checkpoints}
use Rattle.xa_manager.specs.Believed.LogStands.{Trusts, HasRecords, LogBacks, LogStandsFor}
use Rattle.xa_manager.specs.Managed.{view, Doubts, ManagerStandsFor}
use Rattle.xa_manager.specs.Stands.{StandsFor, TablesStandFor}
use Rattle.xa_manager.proofs.Appending.{alone}
use Rattle.xa_manager.proofs.CrashFiles.{append_files, backs_begun, crash_leaves}
use Rattle.xa_manager.proofs.Generations.{boot_of}
use Rattle.xa_manager.proofs.LogsBehind.{only_records, stands_whole, stands_append, stands_alike, still_backed, backed_alike}
use Rattle.xa_manager.specs.Turns.{HasDone, HasAppended, TakesNow, TakesAppending, Takes, up_after, doubt_after}

-- what the tables say of a state, up or down

pub recoverable_by : (b : Bool) (m : Tables) (s : State) → TablesStandFor b m s → IsRecoverable s
recoverable_by true m s st = st.recoverable
recoverable_by false m s st = st.recoverable

pub asked_by : (b : Bool) (m : Tables) (s : State) (t : Turn) → TablesStandFor b m s → asked s.standing t ≡ t
asked_by true m s t st = ap (λ (standing : Standing). asked standing t) st.up
asked_by false m s t st = ap (λ (standing : Standing). asked standing t) st.down

is_up_by : (b : Bool) (m : Tables) (s : State) → TablesStandFor b m s → s.standing ≡ Up → b ≡ true
is_up_by true m s st e = refl
is_up_by false m s st e = absurd (cc (st.down, e))

appends_alone : (s : State) (o : Option Record) (r : Record) (after : Appending → Answer) → or_joins s o (Appends r after) ≡ Appends r after
appends_alone s None r after = refl
appends_alone s (Some q) r after = refl

now_quiet : (s : State) (o : Option Record) (a : Answer) → taken (or_joins s o (Now a)) Quiet ≡ Some a
now_quiet s None a = refl
now_quiet s (Some r) a = refl

now_backed : (rs : List Record) (s : State) (o : Option Record) (a : Answer) → BacksTurn rs s (or_joins s o (Now a)) → Backs rs a.after
now_backed rs s None a h = h
now_backed rs s (Some r) a h = h.0

-- where nothing was logged

doubts_same : (o : Option Doubt) (s t : State) → t.open_records ≡ s.open_records → t.end ≡ s.end → Doubts o s → Doubts o t
doubts_same None s t e f h = e ∙ h
doubts_same (Some (doubt.Boot boot)) s t e f h = e ∙ h
doubts_same (Some (doubt.Record end)) s t e f h = (
  subst (λ (rs : List Record). 1 ≤ length rs) (sym e) h.0,
  subst (λ (rs : List Record). AllByRecursion (λ (r : Record). is_boot r ≡ false) rs) (sym e) h.1,
  h.2 ∙ sym f,
)

-- a record that may be logged is an appended one, unless it is a boot's
pub kind_appended : (s : State) (r : Record) → MayLog s r → is_boot r ≡ false → is_appended (get_or (spelled r) 0 0) ≡ true
kind_appended s (logged.Opened boot) may other = absurd (cc other)
kind_appended s (logged.Prepared xid ts ws) may other = refl
kind_appended s (logged.Committed xid ts ws) may other = refl
kind_appended s (logged.Completed xid direction) may other = refl
kind_appended s (logged.Decided xid direction) may other = refl
kind_appended s (logged.Forgotten xid) may other = refl
kind_appended s (logged.Base ts ws) may other = absurd may
kind_appended s (logged.Held xid ts ws) may other = absurd may
kind_appended s (logged.Known xid direction) may other = absurd may

module _ {D : Type 0} (disks : Ghosts D) where
  pub log_same : (log : LogView D) (s t : State) → AreOneGroup s.open_records → KeepsLog s t → ((rs : List Record) → Backs rs s → Backs rs t) → LogStandsFor disks log s → LogStandsFor disks log t
  log_same log s t group k backs l = stands_alike disks log s t group k.lasts k.open_records backs l

  -- the log that backs the state, after an append of these records
  pub log_after : (log log' : LogView D) (s t : State) (group : List Record) (a : Appending) → s.open_records ≡ [] → AllByRecursion (λ (r : Record). is_boot r ≡ false) group
      → AllByRecursion (λ (body : List ℕ). is_appended (get_or body 0 0) ≡ true) (map spelled group)
      → HasAppended disks (map spelled group) a log log' → disks.honest
      → (a ≡ Lost → t.open_records ≡ group)
      → (a ≡ Kept → (rs : List Record) → Backs rs s → Backs (rs ++ group) t) → (a ≡ Refused → (rs : List Record) → Backs rs s → Backs rs t) → (a ≡ Lost → (rs : List Record) → Backs rs s → Backs rs t)
      → IsRecoverable s → LogStandsFor disks log s → LogStandsFor disks log' t
  log_after log log' s t group Kept none others kinds h disk lost_ backs bref blost rec l =
      let here : HasRecords disks l.records log = only_records disks log s none l in
      let there : Pair disks (map spelled l.records ++ map spelled group) here.0 log' = h.pair disk (map spelled l.records) here.0 here.1 (inl kinds) in
      stands_whole disks log' t (l.records ++ group) (backs refl l.records l.backs) (
        here.0,
        subst (λ (bs : List (List ℕ)). Pair disks bs here.0 log') (sym (map-append spelled l.records group)) there,
        other_kept disks log log' h.other.0 h.other.1
            (kept_generation disks log log' (map spelled l.records) (map spelled group) (backs_begun log.format l.records s rec l.backs) here.1.current there.current) here.2,
      )
  log_after log log' s t group Refused none others kinds h disk lost_ backs bref blost rec l =
      let here : HasRecords disks l.records log = only_records disks log s none l in
      let there : Pair disks (map spelled l.records) here.0 log' = h.pair disk (map spelled l.records) here.0 here.1 (inl kinds) in
      stands_whole disks log' t l.records (bref refl l.records l.backs)
      (here.0, there, other_kept disks log log' h.other.0 h.other.1 (refused_generation disks log log' (map spelled l.records) here.1.current there.current) here.2)
  log_after log log' s t group Lost none others kinds h disk lost_ backs bref blost rec l =
      let here : HasRecords disks l.records log = only_records disks log s none l in
      let there : MayStandPair disks (map spelled l.records) (map spelled group) here.0 log' = h.pair disk (map spelled l.records) here.0 here.1 (inl kinds) in
      stands_append disks log' t l.records group here.0 (blost refl l.records l.backs) (lost_ refl) others there
      (other_kept disks log log' h.other.0 h.other.1
      (lost_generation disks log log' (map spelled l.records) (map spelled group) (backs_begun log'.format l.records s rec l.backs) here.1.current there.current) here.2)

  bytes_by : (s : State) (direction : Direction) (xid : Triple) → (completed s direction xid).log_bytes ≡ s.log_bytes
  bytes_by s Commit xid = refl
  bytes_by s Rollback xid = refl

  pub applied_bytes : (s : State) (r : Record) → (applied r s).log_bytes ≡ s.log_bytes
  applied_bytes s (logged.Opened boot) = refl
  applied_bytes s (logged.Prepared xid ts ws) = refl
  applied_bytes s (logged.Committed xid ts ws) = refl
  applied_bytes s (logged.Completed xid direction) = bytes_by s direction xid
  applied_bytes s (logged.Decided xid direction) = bytes_by s direction xid
  applied_bytes s (logged.Forgotten xid) = refl
  applied_bytes s (logged.Base ts ws) = refl
  applied_bytes s (logged.Held xid ts ws) = refl
  applied_bytes s (logged.Known xid direction) = refl

  completed_end : (s : State) (direction : Direction) (xid : Triple) → (completed s direction xid).end ≡ s.end
  completed_end s Commit xid = refl
  completed_end s Rollback xid = refl

  pub applied_end : (s : State) (r : Record) → MayLog s r → is_boot r ≡ false → (applied r s).end ≡ s.end + (36 + length (spelled r))
  applied_end s (logged.Opened boot) may e = absurd (cc e)
  applied_end s (logged.Prepared xid ts ws) may e = omega arith
  applied_end s (logged.Committed xid ts ws) may e = omega arith
  applied_end s (logged.Completed xid direction) may e = let same = completed_end s direction xid in omega arith
  applied_end s (logged.Decided xid direction) may e = let same = completed_end s direction xid in omega arith
  applied_end s (logged.Forgotten xid) may e = omega arith
  applied_end s (logged.Base ts ws) may e = absurd may
  applied_end s (logged.Held xid ts ws) may e = absurd may
  applied_end s (logged.Known xid direction) may e = absurd may

  -- what is said of the step
  pub record IsStep (m' : Manager D) (s : State) (e : Event) (reply : Reply) (outcome : Outcome) : Type 0 where
    pub answer : Answer
    pub step_is : step s (Asked e) outcome ≡ Some answer
    pub reply_is : answer.reply ≡ reply
    pub stands : ManagerStandsFor disks m' answer.after

  turn_is : (m : Manager D) (s : State) (e : Event) (r : Record) (after : Appending → Answer) → ManagerStandsFor disks m s → respond s e ≡ Appends r after
      → turn s (Asked e) ≡ Appends r after
  turn_is m s e r after st is =
      ap (λ (t : Turn). or_joins s (further_record s e) t) (asked_by m.up (view m) s (respond s e) st.tables ∙ is) ∙ appends_alone s (further_record s e) r after

  -- what is answered at once is so whether or not a record may be lost with those before it

  now_is : (m : Manager D) (s : State) (e : Event) (a : Answer) → ManagerStandsFor disks m s → respond s e ≡ Now a
      → turn s (Asked e) ≡ or_joins s (further_record s e) (Now a)
  now_is m s e a st is = ap (λ (t : Turn). or_joins s (further_record s e) t) (asked_by m.up (view m) s (respond s e) st.tables ∙ is)

  pub now_steps_by : (m : Manager D) (s : State) (e : Event) (a : Answer) → ManagerStandsFor disks m s → respond s e ≡ Now a
      → step s (Asked e) Quiet ≡ Some a
  now_steps_by m s e a st is = ap (λ (t : Turn). taken t Quiet) (now_is m s e a st is) ∙ now_quiet s (further_record s e) a

  now_steps : (m m' : Manager D) (s : State) (e : Event) (a : Answer) (reply : Reply) (outcome : Outcome) → IsEvent e → begins_boot e ≡ false → ManagerStandsFor disks m s → respond s e ≡ Now a
      → TakesNow m a reply outcome m' → IsStep m' s e reply outcome
  now_steps m m' s e a reply outcome event other st is x =
      let t = now_is m s e a st is in
      let steps : step s (Asked e) outcome ≡ Some a = ap (step s (Asked e)) x.outcome_is ∙ now_steps_by m s e a st is in
      let before = recoverable_by m.up (view m) s st.tables in
      let recoverable = keeps_recoverable s (Asked e) outcome a event before steps in
      let k : KeepsLog s a.after = subst (LogsWhatLasts s) is (events_log_what_lasts s e before.sound other) in
      let bytes : a.after.log_bytes ≡ s.log_bytes = subst (AsksRoom s) is (events_ask_room s e other) in
      let backs = λ (rs : List Record) (b : Backs rs s). now_backed rs s (further_record s e) a (subst (BacksTurn rs s) t (keeps_backed rs s (Asked e) event before b)) in
      record {
        answer = a;
        step_is = steps;
        reply_is = x.reply_is;
        stands = record {
          tables = x.tables recoverable;
          roomy = keeps_room s e outcome a event before st.roomy (restarts_none e other) steps;
          end = λ up. ap (λ (l : LogView D). l.end) x.log ∙ st.end (sym x.up ∙ up) ∙ sym k.end;
          alive = λ up. ap (λ (l : LogView D). l.lost) x.log ∙ st.alive (sym x.up ∙ up);
          modern = λ up. ap (λ (l : LogView D). l.format) x.log ∙ st.modern (sym x.up ∙ up);
          log_bytes = ap (λ (l : LogView D). l.log_bytes) x.log ∙ st.log_bytes ∙ sym bytes;
          doubt = rw x.doubt (doubts_same m.doubt s a.after k.open_records k.end st.doubt);
          backed = λ up. rw x.log (backed_alike m.log s a.after backs (st.backed (sym x.up ∙ up)));
          log = λ trusts.
              rw x.log (log_same m.log s a.after before.group k backs (st.log trusts));
        };
      }

  -- the manager after an append

  pub end_after : (log log' : LogView D) (s t : State) (group : List Record) (a : Appending) → log.end ≡ s.end → HasAppended disks (map spelled group) a log log'
      → (a ≡ Kept → t.end ≡ s.end + (36 + as_one (map spelled group))) → (a ≡ Refused → t.end ≡ s.end) → up_after a ≡ true → log'.end ≡ t.end
  end_after log log' s t group Kept same h ok_ refused_ up = h.moves.0 ∙ ap (λ (n : ℕ). n + (36 + as_one (map spelled group))) same ∙ sym (ok_ refl)
  end_after log log' s t group Refused same h ok_ refused_ up = h.moves.0 ∙ same ∙ sym (refused_ refl)
  end_after log log' s t group Lost same h ok_ refused_ up = absurd (cc up)

  pub alive_after : (log log' : LogView D) (group : List (List ℕ)) (a : Appending) → log.lost ≡ false → HasAppended disks group a log log' → up_after a ≡ true → log'.lost ≡ false
  alive_after log log' group Kept same h up = h.moves.2 ∙ same
  alive_after log log' group Refused same h up = h.moves.3 ∙ same
  alive_after log log' group Lost same h up = absurd (cc up)

  pub format_after : (log log' : LogView D) (group : List (List ℕ)) (a : Appending) → HasAppended disks group a log log' → log'.format ≡ log.format
  format_after log log' group Kept h = h.moves.1
  format_after log log' group Refused h = h.moves.1
  format_after log log' group Lost h = h.moves.1

  -- the records that back the state then, whatever the files hold

  further : (end : ℕ) (r : Record) (rs : List Record) → end ≡ 8 + sizes (r ∷ rs) → nat_eq end 8 ≡ false
  further end r rs e = let more : 8 < end = omega (arith, e) in grind (arith, nat_tests)

  -- where some stood, the log has their generation still
  backed_kept : (log log' : LogView D) (s t : State) (group rs : List Record) → IsRecoverable s → log.end ≡ s.end → Renumbers told.Kept (first_of_group (map spelled group)) log log'
      → Backs rs s → Backs (rs ++ group) t → log.generation ≡ generation (map spelled rs) → LogBacks log' t
  backed_kept log log' s t group [] h same numbers b after number =
      absurd (omega (arith, boot_of (durable s) b.lasts, h.loggable.first, h.loggable.boots))
  backed_kept log log' s t group (r ∷ rs) h same numbers b after number = record {
    records = (r ∷ rs) ++ group;
    backs = after;
    number = numbers ∙ ap (λ (first : Bool). cond first (number_in (first_of_group (map spelled group))) log.generation) (further log.end r rs (same ∙ b.end)) ∙ number;
  }

  pub backed_after : (log log' : LogView D) (s t : State) (group : List Record) (a : Appending) → IsRecoverable s → log.end ≡ s.end → HasAppended disks (map spelled group) a log log'
      → (a ≡ Kept → (rs : List Record) → Backs rs s → Backs (rs ++ group) t) → (a ≡ Refused → (rs : List Record) → Backs rs s → Backs rs t)
      → up_after a ≡ true → LogBacks log s → LogBacks log' t
  backed_after log log' s t group Kept h same x kept refused up b =
      backed_kept log log' s t group b.records h same x.numbers b.backs (kept refl b.records b.backs) b.number
  backed_after log log' s t group Refused h same x kept refused up b =
      still_backed log log' t x.numbers (backed_alike log s t (refused refl) b)
  backed_after log log' s t group Lost h same x kept refused up b = absurd (cc up)

  pub doubt_stands : (s t : State) (group : List Record) (a : Appending) (end : ℕ) → 1 ≤ length group → AllByRecursion (λ (q : Record). is_boot q ≡ false) group → end ≡ s.end
      → (a ≡ Kept → t.open_records ≡ []) → (a ≡ Refused → t.open_records ≡ []) → (a ≡ Lost → t.open_records ≡ group)
      → (a ≡ Lost → t.end ≡ s.end) → Doubts (doubt_after a end) t
  doubt_stands s t group Kept end some others same ok_ refused_ lost_ ends = ok_ refl
  doubt_stands s t group Refused end some others same ok_ refused_ lost_ ends = refused_ refl
  doubt_stands s t group Lost end some others same ok_ refused_ lost_ ends =
      subst (λ (rs : List Record). (1 ≤ length rs) × AllByRecursion (λ (q : Record). is_boot q ≡ false) rs × (end ≡ t.end)) (sym (lost_ refl))
      (some, others, same ∙ sym (ends refl))

  bytes_after : (s : State) (r : Record) (after : Appending → Answer) (a : Appending) → (after Kept ≡ ok (applied r s)) → ((after Refused).after.log_bytes ≡ s.log_bytes) → (after Lost ≡ lost s r) → (after a).after.log_bytes ≡ s.log_bytes
  bytes_after s r after Kept k f l = ap (λ (x : Answer). x.after.log_bytes) k ∙ applied_bytes s r
  bytes_after s r after Refused k f l = f
  bytes_after s r after Lost k f l = ap (λ (x : Answer). x.after.log_bytes) l

  pub settled_up : (m' : Tables) (s : State) → StandsFor m' s → s.open_records ≡ []
  settled_up m' s st = st.recoverable.settled st.up

  pub tables_at : (m' : Tables) (s : State) (a : Appending) → TablesStandFor (up_after a) m' s → (a ≡ Kept → s.open_records ≡ []) × (a ≡ Refused → s.open_records ≡ [])
  tables_at m' s Kept st = (λ e. settled_up m' s st, λ e. settled_up m' s st)
  tables_at m' s Refused st = (λ e. settled_up m' s st, λ e. settled_up m' s st)
  tables_at m' s Lost st = (λ e. absurd (cc e), λ e. absurd (cc e))

  of_answer : (after : Appending → Answer) (P : Answer → Type 0) (a b : Appending) → a ≡ b → P (after b) → P (after a)
  of_answer after P a b e h = subst (λ (x : Appending). P (after x)) (sym e) h

  appending_steps : (m m' : Manager D) (s : State) (e : Event) (r : Record) (after : Appending → Answer) (reply : Reply) (outcome : Outcome) → IsEvent e → begins_boot e ≡ false → ManagerStandsFor disks m s
      → respond s e ≡ Appends r after → m.up ≡ true → TakesAppending disks m r after reply outcome m' → IsStep m' s e reply outcome
  appending_steps m m' s e r after reply outcome event other st is is_up x =
      let t = turn_is m s e r after st is in
      let a = x.answer in
      let next = (after a).after in
      let steps : step s (Asked e) outcome ≡ Some (after a) = ap (λ (u : Turn). taken u outcome) t ∙ ap (taken (Appends r after)) x.outcome_is in
      let before = recoverable_by m.up (view m) s st.tables in
      let recoverable = keeps_recoverable s (Asked e) outcome (after a) event before steps in
      let logs : LogsWhatLasts s (Appends r after) = subst (LogsWhatLasts s) is (events_log_what_lasts s e before.sound other) in
      let asks : AsksRoom s (Appends r after) = subst (AsksRoom s) is (events_ask_room s e other) in
      let last : LogsLast s (Appends r after) = subst (LogsLast s) t (turn_logs_last s (Asked e) event before) in
      let tables = x.tables recoverable in
      let standing = subst (λ (b : Bool). TablesStandFor b (view m') next) x.up tables in
      let opens = tables_at (view m') next a standing in
      let lost_ : a ≡ Lost → next ≡ (lost s r).after = λ q. ap (λ (b : Appending). (after b).after) q ∙ ap (λ (y : Answer). y.after) logs.3 in
      let kept_ : a ≡ Kept → next ≡ applied r s = λ q. ap (λ (b : Appending). (after b).after) q ∙ ap (λ (y : Answer). y.after) logs.1 in
      let none : s.open_records ≡ [] = before.settled last.2 in
      let backed = λ (rs : List Record) (b : Backs rs s). subst (BacksTurn rs s) t (keeps_backed rs s (Asked e) event before b) in
      let kept_backs = λ (q : a ≡ Kept) (rs : List Record) (b : Backs rs s). of_answer after (λ y. Backs (rs ++ r ∷ []) y.after) a Kept q (backed rs b).0 in
      let left_backs = λ (q : a ≡ Refused) (rs : List Record) (b : Backs rs s). of_answer after (λ y. Backs rs y.after) a Refused q (backed rs b).1 in
      record {
        answer = after a;
        step_is = steps;
        reply_is = x.reply_is;
        stands = record {
          tables = tables;
          roomy = keeps_room s e outcome (after a) event before st.roomy (restarts_none e other) steps;
          end = λ up. end_after m.log m'.log s next (r ∷ []) a (st.end is_up) x.log
              (λ q. ap (λ (u : State). u.end) (kept_ q) ∙ applied_end s r logs.0 last.1 ∙ ap (λ (n : ℕ). s.end + (36 + n)) (sym (alone (spelled r))))
              (λ q. of_answer after (λ y. y.after.end ≡ s.end) a Refused q logs.2.end) (sym x.up ∙ up);
          alive = λ up. alive_after m.log m'.log (spelled r ∷ []) a (st.alive is_up) x.log (sym x.up ∙ up);
          modern = λ up. format_after m.log m'.log (spelled r ∷ []) a x.log ∙ st.modern is_up;
          log_bytes = x.log.log_bytes ∙ st.log_bytes ∙ sym (bytes_after s r after a logs.1 asks.1 logs.3);
          doubt = rw x.doubt
              (doubt_stands s next (r ∷ []) a m.log.end (omega arith) (last.1, tt) (st.end is_up) opens.0 opens.1 (λ q. ap (λ (u : State). u.open_records) (lost_ q)) (λ q. ap (λ (u : State). u.end) (lost_ q)));
          backed = λ up. backed_after m.log m'.log s next (r ∷ []) a before (st.end is_up) x.log kept_backs left_backs (sym x.up ∙ up) (st.backed is_up);
          log = λ trusts.
              log_after m.log m'.log s next (r ∷ []) a none (last.1, tt) (kind_appended s r logs.0 last.1, tt) x.log trusts.disk (λ q. ap (λ (u : State). u.open_records) (lost_ q))
              kept_backs left_backs
              (λ q rs b. of_answer after (λ y. Backs rs y.after) a Lost q (backed rs b).2) before (st.log trusts);
        };
      }

  takes_steps : (m m' : Manager D) (s : State) (e : Event) (t : Turn) (reply : Reply) (outcome : Outcome) → IsEvent e → begins_boot e ≡ false → ManagerStandsFor disks m s → respond s e ≡ t
      → Takes disks m t reply outcome m' → IsStep m' s e reply outcome
  takes_steps m m' s e Nobody reply outcome event other st is x = absurd x
  takes_steps m m' s e (Now a) reply outcome event other st is x = now_steps m m' s e a reply outcome event other st is x
  takes_steps m m' s e (Appends r after) reply outcome event other st is x =
      let t = turn_is m s e r after st is in
      let before = recoverable_by m.up (view m) s st.tables in
      let last : LogsLast s (Appends r after) = subst (LogsLast s) t (turn_logs_last s (Asked e) event before) in
      appending_steps m m' s e r after reply outcome event other st is (is_up_by m.up (view m) s st.tables last.2) x
  takes_steps m m' s e (Checkpoints r after) reply outcome event other st is x = absurd x
  takes_steps m m' s e (Rereads failed found) reply outcome event other st is x = absurd x
  takes_steps m m' s e (Joins refused r lost) reply outcome event other st is x = absurd x

  takes_called : (m m' : Manager D) (t : Turn) (reply : Reply) (outcome : Outcome) → Takes disks m t reply outcome m' → HasCalled disks outcome m.log m'.log
  takes_called m m' Nobody reply outcome x = absurd x
  takes_called m m' (Now a) reply outcome x = subst (λ (o : Outcome). HasCalled disks o m.log m'.log) (sym x.outcome_is) x.log
  takes_called m m' (Appends r after) reply outcome x = subst (λ (o : Outcome). HasCalled disks o m.log m'.log) (sym x.outcome_is) (x.log.other.0, x.log.other.1, as_one (spelled r ∷ []), x.log.moves, x.log.calls)
  takes_called m m' (Checkpoints r after) reply outcome x = absurd x
  takes_called m m' (Rereads failed found) reply outcome x = absurd x
  takes_called m m' (Joins refused r lost) reply outcome x = absurd x

  -- what a crash leaves meanwhile

  pub now_leaves : (m : Manager D) (s : State) → ManagerStandsFor disks m s → LeavesNow disks m.log s
  now_leaves m s st first second one two plain = crash_leaves disks m.log s first second (recoverable_by m.up (view m) s st.tables) one two plain

  pub quiet_crash : (m m' : Manager D) (s : State) (t : Turn) (outcome : Outcome) → ManagerStandsFor disks m s → outcome ≡ Quiet → m'.log ≡ m.log
      → LeavesBy disks m.log t outcome m'.log s
  quiet_crash m m' s t outcome st quiet log =
      subst (λ (o : Outcome). LeavesBy disks m.log t o m'.log s) (sym quiet)
      (log, now_leaves m s st)

  appending_crash : (m m' : Manager D) (s : State) (e : Event) (r : Record) (after : Appending → Answer) (reply : Reply) (outcome : Outcome) → IsEvent e → begins_boot e ≡ false → ManagerStandsFor disks m s
      → Trusts disks → respond s e ≡ Appends r after → TakesAppending disks m r after reply outcome m' → LeavesBy disks m.log (turn s (Asked e)) outcome m'.log s
  appending_crash m m' s e r after reply outcome event other st trusts is x =
      let t = turn_is m s e r after st is in
      let steps : taken (turn s (Asked e)) (Appended Lost) ≡ Some (after Lost) = ap (λ (u : Turn). taken u (Appended Lost)) t in
      let before = recoverable_by m.up (view m) s st.tables in
      let recoverable = keeps_recoverable s (Asked e) (Appended Lost) (after Lost) event before steps in
      let logs : LogsWhatLasts s (Appends r after) = subst (LogsWhatLasts s) is (events_log_what_lasts s e before.sound other) in
      let last : LogsLast s (Appends r after) = subst (LogsLast s) t (turn_logs_last s (Asked e) event before) in
      let open_is : (after Lost).after.open_records ≡ r ∷ [] = ap (λ (y : Answer). y.after.open_records) logs.3 in
      subst (λ (o : Outcome). LeavesBy disks m.log (turn s (Asked e)) o m'.log s) (sym x.outcome_is)
      (subst (λ (o : Option Answer). IsSomeAnd o (λ l. LeavesWritten disks (checkpoints (turn s (Asked e))) m.log x.answer m'.log s l.after)) (sym steps)
      (subst (λ (b : Bool). LeavesWritten disks b m.log x.answer m'.log s (after Lost).after) (sym (ap checkpoints t)) (
        subst (λ (rs : List Record). 1 ≤ length rs) (sym open_is) (omega arith),
        λ current other left plain.
            append_files disks m.log plain.records (after Lost).after (r ∷ []) plain.stood current other (last.1, tt) plain.pair
            ((x.log.leaves trusts.disk (map spelled plain.records) plain.pair.current).each current left.current_left)
            (subst (λ (rs : List Record). IsPlain m.log.format (map spelled plain.records) (map spelled rs) current) open_is plain.plain) left.other_left plain.calm recoverable
            (let backed : BacksTurn plain.records s (Appends r after) = subst (BacksTurn plain.records s) t (keeps_backed plain.records s (Asked e) event before plain.backs) in backed.2)
            open_is (st.log trusts).beside,
      )))

  takes_crash : (m m' : Manager D) (s : State) (e : Event) (t : Turn) (reply : Reply) (outcome : Outcome) → IsEvent e → begins_boot e ≡ false → ManagerStandsFor disks m s → Trusts disks → respond s e ≡ t
      → Takes disks m t reply outcome m' → LeavesBy disks m.log (turn s (Asked e)) outcome m'.log s
  takes_crash m m' s e Nobody reply outcome event other st trusts is x = absurd x
  takes_crash m m' s e (Now a) reply outcome event other st trusts is x = quiet_crash m m' s (turn s (Asked e)) outcome st x.outcome_is x.log
  takes_crash m m' s e (Appends r after) reply outcome event other st trusts is x = appending_crash m m' s e r after reply outcome event other st trusts is x
  takes_crash m m' s e (Checkpoints r after) reply outcome event other st trusts is x = absurd x
  takes_crash m m' s e (Rereads failed found) reply outcome event other st trusts is x = absurd x
  takes_crash m m' s e (Joins refused r lost) reply outcome event other st trusts is x = absurd x

  some_and : (m' : Manager D) (s : State) (e : Event) (reply : Reply) (outcome : Outcome) → IsStep m' s e reply outcome
      → IsSomeAnd (step s (Asked e) outcome) (λ a. (a.reply ≡ reply) × ManagerStandsFor disks m' a.after)
  some_and m' s e reply outcome x =
      subst (λ (o : Option Answer). IsSomeAnd o (λ a. (a.reply ≡ reply) × ManagerStandsFor disks m' a.after)) (sym x.step_is) (x.reply_is, x.stands)

  -- a turn of an event was taken
  pub has_done : (m m' : Manager D) (e : Event) (reply : Reply) (outcome : Outcome) → IsEvent e → begins_boot e ≡ false → is_memory reply.detail ≡ false
      → ((s : State) → ManagerStandsFor disks m s → Takes disks m (respond s e) reply outcome m')
      → HasDone disks m e reply outcome m'
  has_done m m' e reply outcome event other served takes = record {
    steps = λ s st premises. some_and m' s e reply outcome (takes_steps m m' s e (respond s e) reply outcome event other st refl (takes s st));
    called = λ s st premises.
        subst (λ (b : Bool). HasCalledFor disks b outcome m.log m'.log) (sym (trims_none e other)) (takes_called m m' (respond s e) reply outcome (takes s st));
    crash = λ s st trusts. takes_crash m m' s e (respond s e) reply outcome event other st trusts refl (takes s st);
    served = served;
  }
