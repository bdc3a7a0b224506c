-- A group that was appended is steps one after another, and the manager stands for where they lead.
use Rattle.std.proofs.Common.{◌≡◌, ◌+◌, ◌≤◌, arith, ℕ, Bool, true, false, List, [], ◌∷◌, ◌++◌, get_or, map, length, refl, ap, sym, ◌∙◌, subst}
use Rattle.std.specs.List.{AllByRecursion}
use Rattle.std.proofs.lemmas.Bool.Decides.{nat_tests}
use Rattle.std.proofs.lemmas.List.{append-nil, append_assoc}
use Rattle.xa_disk.specs.Time.{LeavesOnly}
use Rattle.xa_disk.specs.declared.disk.Disk.{Ghosts}
use Rattle.xa_record.specs.Spelling.{spelled}
use Rattle.xa_record.specs.declared.record.Record.{Record}
use Rattle.xa_log.specs.Believed.Damage.{is_appended}
use Rattle.xa_log.specs.Believed.Group.{as_one, group_bytes}
use Rattle.xa_log.specs.Believed.Stands.{Leaves, Stands}
use Rattle.xa_log.specs.Believed.LogView.{LogView}
use Rattle.xa_model.specs.declared.outcome.Outcome.{Outcome}
use Rattle.xa_model.specs.declared.outcome.Outcome.TheVariants.{Appended, Joined}
use Rattle.xa_model.specs.declared.outcome.Appending.{Appending}
use Rattle.xa_model.specs.declared.outcome.Appending.TheVariants.{Kept, Refused, Lost}
use Rattle.xa_model.specs.State.{State, Up}
use Rattle.xa_model.specs.Answer.{answer}
use Rattle.xa_model.specs.Turn.{Asked}
use Rattle.xa_model.specs.History.{Leads}
use Rattle.xa_model.specs.Logging.{applied, applied_all, down, log_room, prepared_count}
use Rattle.xa_model.specs.Laws.Together.{Part, AppendsOf, AreApart, HaveRoom, MayStandTogether, entry_of, group_entries, left_by, left_by_all, records_of, replied}
use Rattle.xa_model.specs.Invariants.Backing.{Backs}
use Rattle.xa_model.specs.Invariants.Loggable.{IsRecoverable, MayFollow, is_boot}
use Rattle.xa_model.specs.Invariants.Room.{IsRoomy}
use Rattle.xa_model.proofs.GroupSteps.{asked_by, begins_none, kept_together, lost_together}
use Rattle.xa_model.proofs.GroupSteps as keeping
use Rattle.xa_model.proofs.GroupsBacked.{backs_together}
use Rattle.xa_model.proofs.Recoveries.{keeps_recoverable}
use Rattle.xa_model.proofs.RefusedSteps.{refused_together}
use Rattle.xa_model.proofs.RefusedSteps as refusing
use Rattle.xa_model.proofs.RoomyTurns.{keeps_room}
use Rattle.xa_model.proofs.Trims.{restarts_none}
use Rattle.xa_manager.specs.declared.manager.Manager.{Manager}
use Rattle.xa_manager.specs.Believed.Crash.{LeavesAppend}
use Rattle.xa_manager.specs.Believed.LogStands.{Trusts}
use Rattle.xa_manager.specs.Managed.{view, ManagerStandsFor}
use Rattle.xa_manager.specs.Stands.{TablesStandFor}
use Rattle.xa_manager.specs.GroupAnswers.{group_after}
use Rattle.xa_manager.specs.Turns.{HasAppended, up_after, doubt_after}
use Rattle.xa_manager.proofs.CrashFiles.{append_files}
use Rattle.xa_manager.proofs.Stepping.{alive_after, applied_bytes, applied_end, backed_after, doubt_stands, end_after, format_after, kind_appended, log_after, recoverable_by, tables_at}

-- what each of its calls did

pub leads_to : (a : Appending) (s : State) (p : Part) (ps : List Part) → IsRecoverable s → s.standing ≡ Up → MayStandTogether s (p ∷ ps)
    → Leads s (group_entries a p ps) (group_after a s (p ∷ ps))
leads_to Kept s p ps h up may = kept_together s p ps h up may
leads_to Refused s p ps h up may = (refused_together s p ps h up may).0
leads_to Lost s p ps h up may = lost_together s p ps h up may

-- what holds of each state that they lead to
record Sane (s : State) : Type 0 where
  recovers : IsRecoverable s
  roomy : IsRoomy s

one_sane : (s first mid : State) (o : Outcome) (a : Appending) (p : Part) → AppendsOf s p → Sane first → Leads first (entry_of o a p ∷ []) mid → Sane mid
one_sane s first mid o a p appends h leads =
    let e = asked_by p in
    let next = answer (replied a p.request) leads.0 in
    let there : Sane leads.0 = record {
      recovers = keeps_recoverable first (Asked e) o next appends.event h.recovers leads.1;
      roomy = keeps_room first e o next appends.event h.recovers h.roomy (restarts_none e (begins_none p.request p.xid appends.of_xid)) leads.1;
    } in
    subst Sane (sym leads.2) there

rest_sane : (s first last : State) (a : Appending) (ps : List Part) → AllByRecursion (AppendsOf s) ps → Sane first → Leads first (map (entry_of (Joined a) a) ps) last → Sane last
rest_sane s first last a [] appends h leads = subst Sane (sym leads) h
rest_sane s first last a (p ∷ ps) appends h leads =
    rest_sane s leads.0 last a ps appends.1 (one_sane s first leads.0 (Joined a) a p appends.0 h (leads.0, leads.1, refl)) leads.2

all_sane : (s last : State) (a : Appending) (p : Part) (ps : List Part) → AllByRecursion (AppendsOf s) (p ∷ ps) → Sane s → Leads s (group_entries a p ps) last → Sane last
all_sane s last a p ps appends h leads =
    rest_sane s leads.0 last a ps appends.1 (one_sane s s leads.0 (Appended a) a p appends.0 h (leads.0, leads.1, refl)) leads.2

-- what the records come to that are kept

kept_walk : (s w : State) (rs : List Record) (ps : List Part) → s.standing ≡ Up → keeping.Walk s w rs ps → AllByRecursion (AppendsOf s) ps → AreApart ps → HaveRoom s rs ps
    → keeping.Walk s (applied_all (records_of ps) w) (rs ++ records_of ps) []
kept_walk s w rs [] up walk appends apart room = subst (λ (l : List Record). keeping.Walk s w l []) (sym (append-nil rs)) walk
kept_walk s w rs (p ∷ ps) up walk appends apart room =
    let t = keeping.next_turn s w rs p ps up walk appends.0 room.0 in
    subst (λ (l : List Record). keeping.Walk s (applied_all (records_of ps) (applied p.appended w)) l []) (append_assoc rs (p.appended ∷ []) (records_of ps))
    (kept_walk s (applied p.appended w) (rs ++ p.appended ∷ []) ps up (keeping.next_walk s w rs p ps walk appends.0 t apart.0) appends.1 apart.1 room.1)

pub all_kept : (s : State) (ps : List Part) → IsRecoverable s → s.standing ≡ Up → MayStandTogether s ps
    → keeping.Walk s (applied_all (records_of ps) s) (records_of ps) []
all_kept s ps h up may = kept_walk s s [] ps up (keeping.begins s ps h up) may.appends may.apart may.room

-- what the calls leave whose records are refused
refused_walk : (s w : State) (rs : List Record) (ps : List Part) → s.standing ≡ Up → refusing.Walk s w ps → AllByRecursion (AppendsOf s) ps → AreApart ps → HaveRoom s rs ps
    → refusing.Walk s (left_by_all ps w) []
refused_walk s w rs [] up walk appends apart room = walk
refused_walk s w rs (p ∷ ps) up walk appends apart room =
    let t = refusing.next_turn s w rs p ps up walk appends.0 room.0 in
    refused_walk s (left_by p.request w) (rs ++ p.appended ∷ []) ps up (refusing.next_walk s w p ps walk appends.0 t apart.0) appends.1 apart.1 room.1

all_refused : (s : State) (ps : List Part) → IsRecoverable s → s.standing ≡ Up → MayStandTogether s ps → refusing.Walk s (left_by_all ps s) []
all_refused s ps h up may = refused_walk s s [] ps up (refusing.begins s ps h) may.appends may.apart may.room

-- the room that the last of the states keeps is room for all of the records
room_left : (most end prepared decided from size bytes : ℕ) → log_room most end prepared decided ≡ true → end ≡ from + (36 + size) → most ≡ bytes → from + 40 + size ≤ bytes
room_left most end prepared decided from size bytes room ends same = grind (arith, nat_tests, room, ends, same)

kinds_appended : (rs : List Record) (s : State) → MayFollow s rs → AllByRecursion (λ (r : Record). is_boot r ≡ false) rs
    → AllByRecursion (λ (body : List ℕ). is_appended (get_or body 0 0) ≡ true) (map spelled rs)
kinds_appended [] s follow others = tt
kinds_appended (r ∷ rs) s follow others = (kind_appended s r follow.0.may others.0, kinds_appended rs (applied r s) follow.1 others.1)

module _ {D : Type 0} (disks : Ghosts D) where
  kept_bytes : (rs : List Record) (s : State) → (applied_all rs s).log_bytes ≡ s.log_bytes
  kept_bytes [] s = refl
  kept_bytes (r ∷ rs) s = kept_bytes rs (applied r s) ∙ applied_bytes disks s r

  kept_end : (rs : List Record) (s : State) → MayFollow s rs → AllByRecursion (λ (r : Record). is_boot r ≡ false) rs
      → (applied_all rs s).end ≡ s.end + group_bytes (map spelled rs)
  kept_end [] s follow others = omega arith
  kept_end (r ∷ rs) s follow others =
      let one : (applied r s).end ≡ s.end + (36 + length (spelled r)) = applied_end disks s r follow.0.may others.0 in
      let rest : (applied_all rs (applied r s)).end ≡ (applied r s).end + group_bytes (map spelled rs) = kept_end rs (applied r s) follow.1 others.1 in
      omega (arith, one, rest)

  end_together : (s : State) (p : Part) (ps : List Part) → IsRecoverable s → s.standing ≡ Up → MayStandTogether s (p ∷ ps)
      → (applied_all (records_of (p ∷ ps)) s).end ≡ s.end + (36 + as_one (map spelled (records_of (p ∷ ps))))
  end_together s p ps h up may =
      let walk = all_kept s (p ∷ ps) h up may in
      let ends : (applied_all (records_of (p ∷ ps)) s).end ≡ s.end + group_bytes (map spelled (records_of (p ∷ ps)))
      = kept_end (records_of (p ∷ ps)) s walk.follow walk.group in
      omega (arith, ends)

  bytes_together : (a : Appending) (s : State) (p : Part) (ps : List Part) → IsRecoverable s → s.standing ≡ Up → MayStandTogether s (p ∷ ps)
      → (group_after a s (p ∷ ps)).log_bytes ≡ s.log_bytes
  bytes_together Kept s p ps h up may = kept_bytes (records_of (p ∷ ps)) s
  bytes_together Refused s p ps h up may = (all_refused s (p ∷ ps) h up may).log_bytes
  bytes_together Lost s p ps h up may = refl

  -- the manager after an append of a group
  pub stands_together : (m m' : Manager D) (s : State) (p : Part) (ps : List Part) (a : Appending) → ManagerStandsFor disks m s → m.up ≡ true → s.standing ≡ Up → MayStandTogether s (p ∷ ps)
      → HasAppended disks (map spelled (records_of (p ∷ ps))) a m.log m'.log → m'.up ≡ up_after a → m'.doubt ≡ doubt_after a m.log.end
      → (IsRecoverable (group_after a s (p ∷ ps)) → TablesStandFor (up_after a) (view m') (group_after a s (p ∷ ps)))
      → ManagerStandsFor disks m' (group_after a s (p ∷ ps))
  stands_together m m' s p ps a st is_up up may x now_up doubt took =
      let h : IsRecoverable s = recoverable_by m.up (view m) s st.tables in
      let rs = records_of (p ∷ ps) in
      let next = group_after a s (p ∷ ps) in
      let sane : Sane next = all_sane s next a p ps may.appends (record { recovers = h; roomy = st.roomy }) (leads_to a s p ps h up may) in
      let walk = all_kept s (p ∷ ps) h up may in
      let others = walk.group in
      let left = all_refused s (p ∷ ps) h up may in
      let standing : TablesStandFor (up_after a) (view m') next = took sane.recovers in
      let opens = tables_at disks (view m') next a standing in
      let none : s.open_records ≡ [] = h.settled up in
      let kept_ : a ≡ Kept → next ≡ applied_all rs s = λ q. ap (λ (b : Appending). group_after b s (p ∷ ps)) q in
      let refused_ : a ≡ Refused → next ≡ left_by_all (p ∷ ps) s = λ q. ap (λ (b : Appending). group_after b s (p ∷ ps)) q in
      let lost_ : a ≡ Lost → next ≡ record (down s) { open_records = rs } = λ q. ap (λ (b : Appending). group_after b s (p ∷ ps)) q in
      let backed = λ (ls : List Record) (b : Backs ls s). backs_together ls s p ps h up may b in
      let kept_backs = λ (q : a ≡ Kept) (ls : List Record) (b : Backs ls s). subst (Backs (ls ++ rs)) (sym (kept_ q)) (backed ls b).0 in
      let left_backs = λ (q : a ≡ Refused) (ls : List Record) (b : Backs ls s). subst (Backs ls) (sym (refused_ q)) (backed ls b).1 in
      record {
        tables = subst (λ (b : Bool). TablesStandFor b (view m') next) (sym now_up) standing;
        roomy = sane.roomy;
        end = λ e. end_after disks m.log m'.log s next rs a (st.end is_up) x
            (λ q. ap (λ (u : State). u.end) (kept_ q) ∙ end_together s p ps h up may)
            (λ q. ap (λ (u : State). u.end) (refused_ q) ∙ left.keeps.end) (sym now_up ∙ e);
        alive = λ e. alive_after disks m.log m'.log (map spelled rs) a (st.alive is_up) x (sym now_up ∙ e);
        modern = λ e. format_after disks m.log m'.log (map spelled rs) a x ∙ st.modern is_up;
        log_bytes = x.log_bytes ∙ st.log_bytes ∙ sym (bytes_together a s p ps h up may);
        doubt = rw doubt
            (doubt_stands disks s next rs a m.log.end (omega arith) others (st.end is_up) opens.0 opens.1 (λ q. ap (λ (u : State). u.open_records) (lost_ q)) (λ q. ap (λ (u : State). u.end) (lost_ q)));
        backed = λ e. backed_after disks m.log m'.log s next rs a h (st.end is_up) x kept_backs left_backs (sym now_up ∙ e) (st.backed is_up);
        log = λ trusts.
            log_after disks m.log m'.log s next rs a none others (kinds_appended rs s walk.follow walk.group) x trusts.disk (λ q. ap (λ (u : State). u.open_records) (lost_ q))
            kept_backs left_backs
            (λ q ls b. subst (Backs ls) (sym (lost_ q)) (backed ls b).2) h (st.log trusts);
      }

  -- What a crash at any moment of it leaves stands for the state to which the calls lead where their records are lost.
  pub crash_together : (m : Manager D) (log : LogView D) (s : State) (p : Part) (ps : List Part) → ManagerStandsFor disks m s → s.standing ≡ Up → Trusts disks → MayStandTogether s (p ∷ ps)
      → (disks.honest → (bodies : List (List ℕ)) → Stands disks bodies m.log → LeavesOnly disks m.log.disk log.disk (Leaves m.log.log_bytes m.log.format bodies (map spelled (records_of (p ∷ ps)))))
      → LeavesAppend disks m.log log s (group_after Lost s (p ∷ ps))
  crash_together m log s p ps st up trusts may leaves =
      let h : IsRecoverable s = recoverable_by m.up (view m) s st.tables in
      let rs = records_of (p ∷ ps) in
      let lost = group_after Lost s (p ∷ ps) in
      let sane : Sane lost = all_sane s lost Lost p ps may.appends (record { recovers = h; roomy = st.roomy }) (leads_to Lost s p ps h up may) in
      let others = (all_kept s (p ∷ ps) h up may).group in (
        omega arith,
        λ current other left plain.
            append_files disks m.log plain.records lost rs plain.stood current other others plain.pair
            ((leaves trusts.disk (map spelled plain.records) plain.pair.current).each current left.current_left)
            plain.plain left.other_left plain.calm sane.recovers (backs_together plain.records s p ps h up may plain.backs).2 refl (st.log trusts).beside,
      )
