-- What a manager stands for, where its log was read again or a new boot was logged.
use Rattle.std.proofs.Common.{◌≡◌, ◌≢◌, ◌⊎◌, inl, inr, ◌<◌, ◌≤◌, ◌+◌, ℕ, Bool, true, false, List, [], ◌∷◌, map, length, Option, Some, None, refl, ap, sym, ◌∙◌, subst, arith, ltb-true}
use Rattle.std.specs.Prelude.{nat_lt}
use Rattle.xa_disk.specs.declared.disk.Disk.{Ghosts}
use Rattle.xa_record.specs.Spelling.{spelled}
use Rattle.xa_record.specs.declared.record.Record.{Record}
use Rattle.xa_record.specs.declared.record.Record.TheVariants as logged
use Rattle.xa_log.specs.Believed.Chain.{newest, text}
use Rattle.xa_limits.specs.declared.TheConstants.{LENGTH_BYTES}
use Rattle.xa_log.specs.Believed.LogView.{LogView}
use Rattle.xa_log.specs.Believed.Pair.{generation}
use Rattle.xa_log.specs.Believed.Checkpoint.{IsQuiet}
use Rattle.xa_log.specs.Believed.TwoFiles.{HasOther, Pair, MaySeal}
use Rattle.xa_model.specs.State.{State, Up, Down, Ended}
use Rattle.xa_model.specs.Durable.{durable}
use Rattle.xa_model.specs.Fold.{snapshot}
use Rattle.xa_model.specs.Logging.{down}
use Rattle.xa_model.specs.Invariants.Loggable.{IsRecoverable}
use Rattle.xa_model.specs.Invariants.Backing.{Backs}
use Rattle.xa_model.specs.Restarting.{restarted}
use Rattle.xa_limits.specs.declared.TheConstants.{MOST_BOOTS}
use Rattle.xa_model.specs.Invariants.Restored.{IsRestored}
use Rattle.xa_model.specs.Fold.{sizes}
use Rattle.xa_model.specs.Logging.{snapshot_end, prepared_count}
use Rattle.xa_model.specs.Restarting.{without_scan}
use Rattle.xa_model.proofs.Restores.{restarts_restored}
use Rattle.xa_model.proofs.Rooms.{room_is, recoverable_snapshot_ends}
use Rattle.mv_rules.specs.Records.{StandsFor as RecordsStandFor}
use Rattle.mv_rules.specs.Ties.{history_of}
use Rattle.xa_branch.specs.Branches.{BranchesStandFor}
use Rattle.xa_model.proofs.Restarts.{lost_in_doubt}
use Rattle.xa_model.proofs.RoomWith.{none_open, stopped_with}
use Rattle.xa_assoc.specs.Sessions.{SessionsStandFor}
use Rattle.xa_assoc.proofs.Follows.{unmoved}
use Rattle.xa_manager.specs.declared.doubt.Doubt.{Doubt}
use Rattle.xa_manager.specs.declared.doubt.Doubt.TheVariants.{Boot, Record as LastRecord}
use Rattle.xa_manager.specs.declared.manager.Manager.{Manager}
use Rattle.xa_manager.specs.declared.tables.Tables.{Tables}
use Rattle.xa_manager.specs.View.{View, view_of}
use Rattle.xa_manager.proofs.LogLengths.{text_size}
use Rattle.xa_manager.specs.Stands.{StandsFor, StandsDown, TablesStandFor}
use Rattle.xa_manager.specs.Believed.LogStands.{Trusts, HasRecords, LogStandsFor}
use Rattle.xa_manager.specs.Managed.{view, Doubts, ManagerStandsFor}
use Rattle.xa_manager.specs.Rereading.{IsFate, Found}
use Rattle.xa_manager.proofs.LogsBehind.{stands_whole, stands_seal, stands_alike, still_backed}
use Rattle.xa_manager.proofs.Survivors.{none_found}
use Rattle.xa_manager.proofs.Fates.{fate_same, fate_settled, fate_recoverable, failed_recoverable, fate_room, down_backed, lost_room, begun_backed, begun_room}

-- what the tables say whether or not the manager is up
pub record IsOutside (k : View) (s : State) : Type 0 where
  pub name : k.name ≡ s.name
  pub log_bytes : k.log_bytes ≡ s.log_bytes
  pub sessions : SessionsStandFor k.sessions s
  pub moment : k.branches.moment ≡ s.moment
  pub recoverable : IsRecoverable s
  pub standing : s.standing ≢ Ended

pub outside : (up : Bool) (k : View) (s : State) → TablesStandFor up k s → IsOutside k s
outside true k s h = record { name = h.name; log_bytes = h.log_bytes; sessions = h.sessions; moment = h.branches.moment; recoverable = h.recoverable; standing = λ e. absurd (cc (e, h.up)) }
outside false k s h = record { name = h.name; log_bytes = h.log_bytes; sessions = h.sessions; moment = h.moment; recoverable = h.recoverable; standing = λ e. absurd (cc (e, h.down)) }

pub is_up : (up : Bool) (k : View) (s : State) → TablesStandFor up k s → up ≡ true → s.standing ≡ Up
is_up true k s h e = h.up
is_up false k s h e = absurd (cc e)

-- the log alone changed
pub still_stands : {D : Type 0} (disks : Ghosts D) (m m' : Manager D) (s : State)
    → m'.tables ≡ m.tables → m'.up ≡ m.up → m'.doubt ≡ m.doubt → (m.up ≡ true → m'.log.end ≡ s.end) → (m.up ≡ true → m'.log.lost ≡ false)
    → (m.up ≡ true → m'.log.format ≡ newest) → (m.up ≡ true → m'.log.generation ≡ m.log.generation) → m'.log.log_bytes ≡ m.log.log_bytes
    → (Trusts disks → LogStandsFor disks m'.log s) → ManagerStandsFor disks m s → ManagerStandsFor disks m' s
still_stands disks m m' s tables up doubt end alive modern number bytes log st = record {
  tables = subst (λ (b : Bool). TablesStandFor b (view m') s) (sym up) (subst (λ (t : Tables). TablesStandFor m.up (view_of t) s) (sym tables) st.tables);
  roomy = st.roomy;
  end = λ is. end (sym up ∙ is);
  alive = λ is. alive (sym up ∙ is);
  modern = λ is. modern (sym up ∙ is);
  log_bytes = bytes ∙ st.log_bytes;
  doubt = subst (λ (d : Option Doubt). Doubts d s) (sym doubt) st.doubt;
  backed = λ is. still_backed m.log m'.log s (number (sym up ∙ is)) (st.backed (sym up ∙ is));
  log = log;
}

-- the manager is down

pub tables_down : (k : View) (s t : State) (o : List Record) (many : ℕ) → IsOutside k s → IsFate many s t → IsRecoverable (record (down t) { open_records = o })
    → StandsDown k (record (down t) { open_records = o })
tables_down k s t o many h fate recoverable =
    let same = fate_same many s t fate in record {
      name = h.name ∙ sym same.name;
      log_bytes = h.log_bytes ∙ sym same.log_bytes;
      down = refl;
      sessions = unmoved k.sessions s (record (down t) { open_records = o }) same.sessions same.associations h.sessions;
      moment = h.moment ∙ sym same.moment;
      recoverable = recoverable;
    }

pub down_stands : {D : Type 0} (disks : Ghosts D) (m m' : Manager D) (s t : State) (b : ℕ) (rs : List Record)
    → m'.tables ≡ m.tables → m'.up ≡ false → m'.doubt ≡ None → m'.log.log_bytes ≡ m.log.log_bytes → ManagerStandsFor disks m s → IsFate b s t → Backs rs t
    → HasRecords disks rs m'.log → ManagerStandsFor disks m' (down t)
down_stands disks m m' s t b rs tables up doubt bytes st fate backs has =
    let h = outside m.up (view m) s st.tables in
    let none = fate_settled b s t fate in
    let room = fate_room b s t (st.roomy h.standing) fate in record {
      tables = subst (λ (b : Bool). TablesStandFor b (view m') (down t)) (sym up) (subst (λ (k : Tables). StandsDown (view_of k) (down t)) (sym tables) (tables_down (view m) s t t.open_records b h fate (failed_recoverable t (fate_recoverable b s t h.recoverable fate))));
      roomy = λ standing. record { room = room; found = none_open (down t) t.open_records none };
      end = λ is. absurd (cc (is, up));
      alive = λ is. absurd (cc (is, up));
      modern = λ is. absurd (cc (is, up));
      log_bytes = bytes ∙ (st.log_bytes ∙ sym (fate_same b s t fate).log_bytes);
      doubt = subst (λ (d : Option Doubt). Doubts d (down t)) (sym doubt) none;
      backed = λ is. absurd (cc (is, up));
      log = λ trusts. stands_whole disks m'.log (down t) rs (down_backed rs t t.open_records backs) has;
    }

-- a checkpoint was lost
pub lost_stands : {D : Type 0} (disks : Ghosts D) (m m' : Manager D) (s t : State) (b : ℕ) (rs : List Record)
    → m'.tables ≡ m.tables → m'.up ≡ false → m'.doubt ≡ Some (Boot (t.logged_boot + 1)) → m'.log.log_bytes ≡ m.log.log_bytes → ManagerStandsFor disks m s → IsFate b s t → Backs rs t
    → t.logged_boot < MOST_BOOTS
    → (Trusts disks → (ls : List Record) × Backs ls t × MaySeal disks (map spelled ls) (map spelled (snapshot (durable t) (t.logged_boot + 1))) m'.log × HasOther disks m'.log)
    → ManagerStandsFor disks m' (record (down t) { open_records = logged.Opened (t.logged_boot + 1) ∷ [] })
lost_stands disks m m' s t b rs tables up doubt bytes st fate backs less seal =
    let h = outside m.up (view m) s st.tables in
    let recoverable = fate_recoverable b s t h.recoverable fate in
    let room = fate_room b s t (st.roomy h.standing) fate in
    let boot : ℕ = t.logged_boot + 1 in
    let after : State = record (down t) { open_records = logged.Opened boot ∷ [] } in
    let lost = lost_in_doubt t recoverable less in record {
      tables = subst (λ (b : Bool). TablesStandFor b (view m') after) (sym up) (subst (λ (k : Tables). StandsDown (view_of k) after) (sym tables) (tables_down (view m) s t (logged.Opened boot ∷ []) b h fate lost.recoverable));
      roomy = λ standing. lost_room rs t boot recoverable backs room;
      end = λ is. absurd (cc (is, up));
      alive = λ is. absurd (cc (is, up));
      modern = λ is. absurd (cc (is, up));
      log_bytes = bytes ∙ (st.log_bytes ∙ sym (fate_same b s t fate).log_bytes);
      doubt = subst (λ (d : Option Doubt). Doubts d after) (sym doubt) refl;
      backed = λ is. absurd (cc (is, up));
      log = λ trusts.
          let it = seal trusts in
          stands_seal disks m'.log after it.0 boot (down_backed it.0 t (logged.Opened boot ∷ []) it.1) refl it.2 it.3;
    }

-- so a restart may begin from there
pub lost_recoverable : {D : Type 0} (disks : Ghosts D) (m : Manager D) (s t : State) (b : ℕ) → ManagerStandsFor disks m s → IsFate b s t → t.logged_boot < MOST_BOOTS
    → IsRecoverable (record (down t) { open_records = logged.Opened (t.logged_boot + 1) ∷ [] })
lost_recoverable disks m s t b st fate less =
    (lost_in_doubt t (fate_recoverable b s t (outside m.up (view m) s st.tables).recoverable fate) less).recoverable

-- a manager that is up ends its log where it did
pub found_end : {D : Type 0} (disks : Ghosts D) (found : List (List ℕ)) (log' : LogView D) (s : State)
    → IsRecoverable s → s.standing ≡ Up → Found disks found log' s → log'.end ≡ s.end
found_end disks found log' s h up f = f.end ∙ ap (λ (x : State). x.end) (sym (none_found s.open_records s f.state f.many (h.settled up) f.fate))

-- a new boot was logged, and begins
pub begun_stands : {D : Type 0} (disks : Ghosts D) (m m' : Manager D) (s t : State) (b : ℕ) (rs : List Record)
    → m'.tables.name ≡ m.tables.name → m'.tables.log_bytes ≡ m.tables.log_bytes → m'.up ≡ true → m'.doubt ≡ None → m'.log.log_bytes ≡ m.log.log_bytes
    → ManagerStandsFor disks m s → IsFate b s t → Backs rs t → nat_lt t.logged_boot MOST_BOOTS ≡ true
    → ((x y : State) → y.sessions ≡ map without_scan x.sessions → y.associations ≡ [] → SessionsStandFor m.tables.sessions x → SessionsStandFor m'.tables.sessions y)
    → ((x : State) → IsRestored (durable t) (t.logged_boot + 1) x → x.moment ≡ m.tables.branches.moment → BranchesStandFor m'.tables.branches x)
    → ((x : State) → IsRestored (durable t) (t.logged_boot + 1) x → x.moment ≡ m.tables.branches.moment → RecordsStandFor (history_of x) m'.tables.records)
    → m'.log.end ≡ 8 + sizes (snapshot (durable t) (t.logged_boot + 1)) → m'.log.lost ≡ false → m'.log.format ≡ newest
    → m'.log.generation ≡ generation (map spelled (snapshot (durable t) (t.logged_boot + 1)))
    → HasRecords disks (snapshot (durable t) (t.logged_boot + 1)) m'.log
    → ManagerStandsFor disks m' (restarted t (t.logged_boot + 1))
begun_stands disks m m' s t b rs name log_bytes up doubt bytes st fate backs less sessions branches records end alive modern number has =
    let h = outside m.up (view m) s st.tables in
    let same = fate_same b s t fate in
    let none = fate_settled b s t fate in
    let recoverable = fate_recoverable b s t h.recoverable fate in
    let room = fate_room b s t (st.roomy h.standing) fate in
    let boot : ℕ = t.logged_boot + 1 in
    let after : State = restarted t boot in
    let restored = restarts_restored t recoverable none (ltb-true t.logged_boot MOST_BOOTS less) in
    let stands : StandsFor (view m') after = record {
      name = name ∙ (h.name ∙ sym same.name);
      log_bytes = log_bytes ∙ (h.log_bytes ∙ sym same.log_bytes);
      up = refl;
      sessions = sessions s after (ap (λ xs. map without_scan xs) same.sessions) refl h.sessions;
      branches = branches after restored (same.moment ∙ sym h.moment);
      records = records after restored (same.moment ∙ sym h.moment);
      recoverable = restored.recoverable;
    } in record {
      tables = subst (λ (b : Bool). TablesStandFor b (view m') after) (sym up) stands;
      roomy = λ standing. record { room = begun_room rs t boot recoverable backs room; found = none_open after t.open_records none };
      end = λ is. end;
      alive = λ is. alive;
      modern = λ is. modern;
      log_bytes = bytes ∙ (st.log_bytes ∙ sym same.log_bytes);
      doubt = subst (λ (d : Option Doubt). Doubts d after) (sym doubt) none;
      backed = λ is. record { records = snapshot (durable t) boot; backs = begun_backed rs t recoverable none backs less; number = number };
      log = λ trusts. stands_whole disks m'.log after (snapshot (durable t) boot) (begun_backed rs t recoverable none backs less) has;
    }

-- a log that has the records has room for the new boot
pub never_full : {D : Type 0} (disks : Ghosts D) (m : Manager D) (s t : State) (b : ℕ) (rs : List Record)
    → ManagerStandsFor disks m s → IsFate b s t → Backs rs t → (fresh : List (List ℕ)) → fresh ≡ map spelled (snapshot (durable t) (t.logged_boot + 1)) → m.log.log_bytes < length (text newest fresh) + LENGTH_BYTES → ⊥
never_full disks m s t b rs st fate backs fresh same full =
    let h = outside m.up (view m) s st.tables in
    let short : snapshot_end t (t.logged_boot + 1) ≤ t.end = recoverable_snapshot_ends rs t (t.logged_boot + 1) (fate_recoverable b s t h.recoverable fate) backs in
    let room = room_is t.log_bytes t.end (prepared_count t) (length t.decided) (fate_room b s t (st.roomy h.standing) fate) in
    let bytes : m.log.log_bytes ≡ t.log_bytes = st.log_bytes ∙ sym (fate_same b s t fate).log_bytes in
    let size : length (text newest fresh) ≡ 8 + sizes (snapshot (durable t) (t.logged_boot + 1)) = ap (λ (ys : List (List ℕ)). length (text newest ys)) same ∙ text_size newest (snapshot (durable t) (t.logged_boot + 1)) in
    omega (arith, short, room, bytes, size, full)

pub refused_pair : {D : Type 0} (disks : Ghosts D) (bodies stood : List (List ℕ)) (log : LogView D)
    → Pair disks bodies stood log ⊎ (Pair disks bodies [] log × IsQuiet disks [] log.other) → HasOther disks log
    → (other : List (List ℕ)) × Pair disks bodies other log × HasOther disks log
refused_pair disks bodies stood log (inl pair) beside = (stood, pair, beside)
refused_pair disks bodies stood log (inr both) beside = ([], both.0, beside)

-- the log could not be read

doubts_down : (d : Option Doubt) (s : State) → Doubts d s → Doubts d (down s)
doubts_down None s h = h
doubts_down (Some (Boot boot)) s h = h
doubts_down (Some (LastRecord end)) s h = h

pub failed_stands : {D : Type 0} (disks : Ghosts D) (m m' : Manager D) (s : State)
    → m' ≡ record m { up = false } → ManagerStandsFor disks m s → ManagerStandsFor disks m' (down s)
failed_stands {D} disks m m' s is st =
    let h = outside m.up (view m) s st.tables in
    let room = st.roomy h.standing in
    subst (λ (x : Manager D). ManagerStandsFor disks x (down s)) (sym is) (record {
      tables = record {
        name = h.name;
        log_bytes = h.log_bytes;
        down = refl;
        sessions = unmoved m.tables.sessions s (down s) refl refl h.sessions;
        moment = h.moment;
        recoverable = failed_recoverable s h.recoverable;
      };
      roomy = λ standing. record { room = room.room; found = stopped_with s.open_records s Down s.open_records room.found };
      end = λ up. absurd (cc up);
      alive = λ up. absurd (cc up);
      modern = λ up. absurd (cc up);
      log_bytes = st.log_bytes;
      doubt = doubts_down m.doubt s st.doubt;
      backed = λ up. absurd (cc up);
      log = λ trusts. stands_alike disks m.log s (down s) h.recoverable.group refl refl (λ rs backs. down_backed rs s s.open_records backs) (st.log trusts);
    })
