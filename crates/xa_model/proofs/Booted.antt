-- Restarts and openings: the records that are settled, and the snapshot of a new boot, back the states that they lead to.
use Rattle.std.proofs.Common.{◌≡◌, ℕ, zero, suc, ◌+◌, ◌<◌, ◌≤◌, ◌==◌, Bool, true, false, not, ◌&&◌, cond, Ok, List, [], ◌∷◌, ◌++◌, Option, Some, None, refl, ap, sym, ◌∙◌, subst, arith}
use Rattle.std.specs.Prelude.{map, filter, option_map, nat_lt, IfSome, take}
use Rattle.std.specs.List.{AllByRecursion}
use Rattle.std.proofs.lemmas.Bool.{and_parts, ltb-true}
use Rattle.std.proofs.lemmas.List.{append-nil}
use Rattle.std.proofs.lemmas.Bool.Decides.{nat_tests}
use Rattle.xa_codes.specs.declared.codes.TheConstants.{XAER_RMFAIL}
use Rattle.xa_codes.specs.declared.detail.Detail.TheVariants as detail
use Rattle.xa_record.specs.declared.record.Record.{Record}
use Rattle.xa_record.specs.declared.record.Record.TheVariants as logged
use Rattle.xa_model.specs.State.{State, Session, Association, Branch, Decided, Standing, timestamp_of, is_working}
use Rattle.xa_model.specs.Answer.{answer, detailed, ok}
use Rattle.xa_model.specs.Durable.{Durable, CommittedBranch, PreparedBranch, IsDurable, durable, is_past}
use Rattle.xa_model.specs.Fold.{Reading, read, reading, unread, base, held, known, snapshot, fold, fold_from, is_used}
use Rattle.xa_model.specs.Turn.{Rereading, Stops, Opens, Checkpoints, unless_now}
use Rattle.xa_model.specs.Laws.Backing.{BacksFound, SettlesGroup}
use Rattle.xa_model.specs.Logging.{applied, down, lost_too, is_boot}
use Rattle.xa_model.specs.Invariants.Loggable.{IsRecoverable, MayBeLast, MayFollow}
use Rattle.xa_model.specs.Invariants.Backing.{Backs, BacksReading, BacksTurn, settled, settled_first}
use Rattle.xa_model.specs.Restarting.{with_first, looked, survived, lasts, restarted, boot_became, restarting, restart_turn, refused_opening, reopened, reopen_became, reopening, reopen_turn, can_open}
use Rattle.xa_model.proofs.Inserts.{all_imply, none_passes}
use Rattle.xa_model.proofs.Written.{snapshot_is_written}
use Rattle.xa_model.proofs.Snapshots.{snapshot_folds}
use Rattle.xa_model.proofs.Readings.{AreUsed, AreUsedIn, IsRead, read_is, nothing_is, fold_is_durable}
use Rattle.xa_model.proofs.AppliedAll.{if_imply, if_mapped}
use Rattle.xa_model.proofs.AppliedDecisions.{applied_sound}
use Rattle.xa_model.proofs.LoggedOrder.{LogsOn, logs_on}
use Rattle.xa_model.proofs.Recordable.{applied_loggable}
use Rattle.xa_model.proofs.Restarts.{booted_lasts, found_both}
use Rattle.xa_model.proofs.Folds.{stepped, fold_reads}
use Rattle.xa_model.proofs.Newer.{AreUnused}
use Rattle.xa_model.proofs.Tests.{used_apart}
use Rattle.xa_model.proofs.Trims.{may_trim}
use Rattle.xa_model.proofs.Appended.{appended_backed}
use Rattle.xa_model.specs.Trimming.{trim_refusal, trimmed, trim_became, trim_turn}
use Rattle.xa_frame.specs.declared.reply.Reply.{Reply}

-- what logs back says nothing of settings, sessions, standing, the open record and the moment
abbrev with_others : State → List ℕ → ℕ → List Session → List Association → Standing → List Record → ℕ → State
with_others s name log_bytes sessions associations standing o moment = record s {
  name = name;
  log_bytes = log_bytes;
  sessions = sessions;
  associations = associations;
  standing = standing;
  open_records = o;
  moment = moment;
}

pub same_backed : (rs : List Record) (s : State) (name : List ℕ) (log_bytes : ℕ) (sessions : List Session) (associations : List Association) (standing : Standing) (o : List Record) (moment : ℕ)
    → Backs rs s → Backs rs (with_others s name log_bytes sessions associations standing o moment)
same_backed rs s name log_bytes sessions associations standing o moment k = record {
  records = k.records;
  lasts = k.lasts;
  end = k.end;
  new = λ current. let new = k.new current in record { given = new.given; unused = new.unused };
}

down_backed : (rs : List Record) (s : State) (o : List Record) → Backs rs s → Backs rs (record (down s) { open_records = o })
down_backed rs s o k = same_backed rs s s.name s.log_bytes s.sessions s.associations _ o s.moment k

pub lost_backed : (rs : List Record) (s : State) (r : Record) → Backs rs s → Backs rs (record (down s) { open_records = r ∷ [] })
lost_backed rs s r k = down_backed rs s (r ∷ []) k

ended_backed : (rs : List Record) (s : State) (name : List ℕ) (log_bytes : ℕ) (o : List Record) → Backs rs s
    → Backs rs (record (refused_opening s name log_bytes) { open_records = o })
ended_backed rs s name log_bytes o k = same_backed rs s name log_bytes [] [] _ o s.moment k

-- the timestamps of a snapshot are those of its branches

known_times : (P : ℕ → Type 0) (x : Reading) (ds : List Decided) → AllByRecursion P x.timestamps
    → AllByRecursion P (reading x (map known ds)).timestamps
known_times P x [] h = h
known_times P x (d ∷ ds) h = known_times P (read (known d) x) ds h

held_times : (P : ℕ → Type 0) (x : Reading) (ps : List PreparedBranch) (ds : List Decided) → AllByRecursion P x.timestamps
    → AllByRecursion (λ p. P p.timestamp) ps
    → AllByRecursion P (reading x (map held ps ++ map known ds)).timestamps
held_times P x [] ds h k = known_times P x ds h
held_times P x (p ∷ ps) ds h k = held_times P (read (held p) x) ps ds (k.0, h) k.1

base_times : (P : ℕ → Type 0) (x : Reading) (cs : List CommittedBranch) (ps : List PreparedBranch) (ds : List Decided)
    → AllByRecursion P x.timestamps → AllByRecursion (λ c. P c.timestamp) cs
    → AllByRecursion (λ p. P p.timestamp) ps → AllByRecursion P (reading x (map base cs ++ (map held ps ++ map known ds))).timestamps
base_times P x [] ps ds h k l = held_times P x ps ds h l
base_times P x (c ∷ cs) ps ds h k l = base_times P (read (base c) x) cs ps ds (k.0, h) k.1 l

pub past_given : (last boot t : ℕ) → last < boot → is_past (last + 1) t ≡ true → t ≤ timestamp_of boot 0
past_given last boot t less e = grind (arith, nat_tests)

pub snapshot_given : (d : Durable) (boot : ℕ) → IsDurable d → d.boot < boot
    → AllByRecursion (λ t. t ≤ timestamp_of boot 0) (reading unread (snapshot d boot)).timestamps
snapshot_given d boot h less =
    base_times (λ t. t ≤ timestamp_of boot 0) _ d.committed d.prepared d.decided tt
    (all_imply (λ c. is_past (d.boot + 1) c.timestamp ≡ true) (λ c. c.timestamp ≤ timestamp_of boot 0)
    (λ c past. past_given d.boot boot c.timestamp less past) d.committed h.committed_past)
    (all_imply (λ p. is_past (d.boot + 1) p.timestamp ≡ true) (λ p. p.timestamp ≤ timestamp_of boot 0)
    (λ p past. past_given d.boot boot p.timestamp less past) d.prepared h.prepared_past)

-- a new boot

idle_by : (ts : List ℕ) (b : Branch) (bs : List Branch) (c : Bool) → not (is_working b.phase) ≡ c → AreUnused ts bs
    → AreUnused ts (cond c (b ∷ bs) bs)
idle_by ts b bs true e h = ((λ works. absurd (cc (e, works))), h)
idle_by ts b bs false e h = h

idle_unused : (ts : List ℕ) (bs : List Branch) → AreUnused ts (filter lasts bs)
idle_unused ts [] = tt
idle_unused ts (b ∷ bs) = idle_by ts b (filter lasts bs) (lasts b) refl (idle_unused ts bs)

booted_backed : (rs : List Record) (s : State) → Backs rs s → s.logged_boot < 4294967295
    → Backs (snapshot (durable s) (s.logged_boot + 1)) (restarted s (s.logged_boot + 1))
booted_backed rs s k less =
    let form : IsDurable (durable s) = fold_is_durable rs (durable s) k.lasts in
    record {
      records = snapshot_is_written rs (durable s) (s.logged_boot + 1) k.records k.lasts (omega arith) (omega (arith, less));
      lasts = snapshot_folds (durable s) (s.logged_boot + 1) form (omega arith) ∙ ap (λ d. Ok d) (sym (booted_lasts s (s.logged_boot + 1)));
      end = refl;
      new = λ current. record {
        given = snapshot_given (durable s) (s.logged_boot + 1) form (omega arith);
        unused = idle_unused (reading unread (snapshot (durable s) (s.logged_boot + 1))).timestamps s.branches;
      };
    }

restarts_by : (rs : List Record) (s : State) (c : Bool) → nat_lt s.logged_boot 4294967295 ≡ c → Backs rs s
    → BacksReading rs s (cond c (Opens (logged.Opened (s.logged_boot + 1)) (boot_became s (s.logged_boot + 1))) (Stops (answer (detailed XAER_RMFAIL detail.Limit) (down s))))
restarts_by rs s true e k = (
  booted_backed rs s k (ltb-true s.logged_boot 4294967295 e),
  down_backed rs s s.open_records k,
  down_backed rs s
      (logged.Opened (s.logged_boot + 1) ∷ []) k,
)
restarts_by rs s false e k = down_backed rs s s.open_records k

restarts : (rs : List Record) (s : State) → Backs rs s → BacksReading rs s (restarting s)
restarts rs s k = restarts_by rs s (nat_lt s.logged_boot 4294967295) refl k

reopened_backed : (rs : List Record) (s : State) (name : List ℕ) (log_bytes : ℕ) → Backs rs s → s.logged_boot < 4294967295
    → Backs (snapshot (durable s) (s.logged_boot + 1)) (reopened s name log_bytes (s.logged_boot + 1))
reopened_backed rs s name log_bytes k less =
    let t = restarted s (s.logged_boot + 1) in
    same_backed (snapshot (durable s) (s.logged_boot + 1)) t name log_bytes [] t.associations t.standing t.open_records 0 (booted_backed rs s k less)

reopens_by : (rs : List Record) (s : State) (name : List ℕ) (log_bytes : ℕ) (c : Bool)
    → (nat_lt s.logged_boot 4294967295 && can_open s log_bytes (s.logged_boot + 1)) ≡ c → Backs rs s
    → BacksReading rs s (cond c (Opens (logged.Opened (s.logged_boot + 1)) (reopen_became s name log_bytes (s.logged_boot + 1))) (Stops (ok (refused_opening s name log_bytes))))
reopens_by rs s name log_bytes true e k =
    let both = and_parts (nat_lt s.logged_boot 4294967295) (can_open s log_bytes (s.logged_boot + 1)) e in (
      reopened_backed rs s name log_bytes k (ltb-true s.logged_boot 4294967295 both.0),
      ended_backed rs s name log_bytes s.open_records k,
      ended_backed rs s name log_bytes (logged.Opened (s.logged_boot + 1) ∷ []) k,
    )
reopens_by rs s name log_bytes false e k = ended_backed rs s name log_bytes s.open_records k

reopens : (rs : List Record) (s : State) (name : List ℕ) (log_bytes : ℕ) → Backs rs s → BacksReading rs s (reopening name log_bytes s)
reopens rs s name log_bytes k = reopens_by rs s name log_bytes (nat_lt s.logged_boot 4294967295 && can_open s log_bytes (s.logged_boot + 1)) refl k

-- a trim: none of the work that goes on has a timestamp of what lasts

read_from : (i : ℕ) (x : Reading) (rs : List Record) (d : Durable) → IsRead x → fold_from i x rs ≡ Ok d → IsRead (reading x rs)
read_from i x [] d h e = h
read_from i x (r ∷ rs) d h e = let both = stepped r x i rs d e in read_from (i + 1) (read r x) rs d (read_is r x both.0 h) both.1

snapshot_unused : (rs : List Record) (d : Durable) (boot t : ℕ) → fold rs ≡ Ok d → is_used t (reading unread rs).timestamps ≡ false
    → is_used t (reading unread (snapshot d boot)).timestamps ≡ false
snapshot_unused rs d boot t e unused =
    let ts = (reading unread rs).timestamps in
    let same : (reading unread rs).durable ≡ d = fold_reads rs d e in
    let is : IsRead (reading unread rs) = read_from 0 unread rs d nothing_is e in
    none_passes (λ u. u == t) (reading unread (snapshot d boot)).timestamps
    (base_times (λ u. (u == t) ≡ false) _ d.committed d.prepared d.decided tt
    (all_imply (λ c. is_used c.timestamp ts ≡ true) (λ c. (c.timestamp == t) ≡ false) (λ c used. used_apart c.timestamp t ts used unused) d.committed
    (subst (λ (x : Durable). AreUsed x.committed ts) same is.committed))
    (all_imply (λ p. is_used p.timestamp ts ≡ true) (λ p. (p.timestamp == t) ≡ false) (λ p used. used_apart p.timestamp t ts used unused) d.prepared
    (subst (λ (x : Durable). AreUsedIn x.prepared ts) same is.prepared)))

pub trimmed_backed : (rs : List Record) (s : State) → Backs rs s → s.logged_boot ≡ s.boot → s.logged_boot < 4294967295
    → Backs (snapshot (durable s) (s.logged_boot + 1)) (trimmed s (s.logged_boot + 1))
trimmed_backed rs s k current less =
    let form : IsDurable (durable s) = fold_is_durable rs (durable s) k.lasts in
    record {
      records = snapshot_is_written rs (durable s) (s.logged_boot + 1) k.records k.lasts (omega arith) (omega (arith, less));
      lasts = snapshot_folds (durable s) (s.logged_boot + 1) form (omega arith);
      end = refl;
      new = λ now. record {
        given = snapshot_given (durable s) (s.logged_boot + 1) form (omega arith);
        unused = all_imply (λ (b : Branch). is_working b.phase ≡ true → is_used b.timestamp (reading unread rs).timestamps ≡ false)
            (λ (b : Branch). is_working b.phase ≡ true → is_used b.timestamp (reading unread (snapshot (durable s) (s.logged_boot + 1))).timestamps ≡ false)
            (λ b unused works. snapshot_unused rs (durable s) (s.logged_boot + 1) b.timestamp k.lasts (unused works)) s.branches (k.new current).unused;
      };
    }

trims_by : (rs : List Record) (s : State) (o : Option Reply) → trim_refusal s ≡ o → Backs rs s → s.logged_boot ≡ s.boot
    → BacksTurn rs s (unless_now o s (Checkpoints (logged.Opened (s.logged_boot + 1)) (trim_became s (s.logged_boot + 1))))
trims_by rs s (Some reply) e k current = k
trims_by rs s None e k current =
    let may = may_trim s e in
    (trimmed_backed rs s k current (omega (arith, may.boots)), k, lost_backed rs s (logged.Opened (s.logged_boot + 1)) k)

pub trim_backed : (rs : List Record) (s : State) → Backs rs s → s.logged_boot ≡ s.boot → BacksTurn rs s (trim_turn s)
trim_backed rs s k current = trims_by rs s (trim_refusal s) refl k current

-- the open records are settled

opened_backed : (rs : List Record) (s : State) (boot : ℕ) → LogsOn s → Backs rs s → MayBeLast s (logged.Opened boot)
    → Backs (snapshot (durable s) boot) (applied (logged.Opened boot) s)
opened_backed rs s boot h k last =
    let may : s.logged_boot < boot = last.may in
    record {
      records = snapshot_is_written rs (durable s) boot k.records k.lasts last.limits.0 last.limits.1;
      lasts = snapshot_folds (durable s) boot (fold_is_durable rs (durable s) k.lasts) may;
      end = refl;
      new = λ current. absurd (omega (arith, current, may, h.loggable.boots));
    }

pub settles : (rs : List Record) (s : State) (r : Record) → LogsOn s → Backs rs s → MayBeLast s r → Backs (settled rs s r) (applied r s)
settles rs s (logged.Opened boot) h k last = opened_backed rs s boot h k last
settles rs s (logged.Prepared xid t ws) h k last = appended_backed rs s (logged.Prepared xid t ws) h k last refl
settles rs s (logged.Committed xid t ws) h k last = appended_backed rs s (logged.Committed xid t ws) h k last refl
settles rs s (logged.Completed xid direction) h k last = appended_backed rs s (logged.Completed xid direction) h k last refl
settles rs s (logged.Decided xid direction) h k last = appended_backed rs s (logged.Decided xid direction) h k last refl
settles rs s (logged.Forgotten xid) h k last = appended_backed rs s (logged.Forgotten xid) h k last refl
settles rs s (logged.Base t ws) h k last = absurd last.may
settles rs s (logged.Held xid t ws) h k last = absurd last.may
settles rs s (logged.Known xid direction) h k last = absurd last.may

-- the first n of them
first_backed : (k : ℕ) (lost rs : List Record) (s : State) → LogsOn s → Backs rs s → MayFollow s lost
    → IfSome (with_first k lost s) (Backs (settled_first k lost rs s))
first_backed zero lost rs s h b follow = b
first_backed (suc k) [] rs s h b follow = tt
first_backed (suc k) (r ∷ lost) rs s h b follow =
    first_backed k lost (settled rs s r) (applied r s)
    (record { sound = applied_sound s r h.sound follow.0.may; loggable = applied_loggable s r h.loggable follow.0.may follow.0.limits })
    (settles rs s r h b follow.0) follow.1

looked_backed : (rs : List Record) (t : State) → Backs rs t → Backs rs (looked t)
looked_backed rs t b = same_backed rs t t.name t.log_bytes t.sessions t.associations t.standing [] t.moment b

pub survived_backed : (rs : List Record) (s : State) → IsRecoverable s → Backs rs s → (k : ℕ)
    → IfSome (survived s k) (Backs (settled_first k s.open_records rs s))
survived_backed rs s h b k =
    let log = settled_first k s.open_records rs s in
    if_mapped (Backs log) looked (with_first k s.open_records s)
    (if_imply (Backs log) (λ t. Backs log (looked t)) (looked_backed log) (with_first k s.open_records s)
    (first_backed k s.open_records rs s (logs_on s h) b h.open_records))

found_backed : (rs : List Record) (s : State) (boot : State → Rereading) → ((log : List Record) (t : State) → Backs log t → BacksReading log t (boot t))
    → IsRecoverable s → Backs rs s → (k : ℕ)
    → IfSome (survived s k) (λ t. IfSome (option_map boot (survived s k)) (BacksReading (settled_first k s.open_records rs s) t))
found_backed rs s boot boots h b k =
    let log = settled_first k s.open_records rs s in
    found_both (Backs log) (BacksReading log) boot (survived s k) (λ t c. boots log t c) (survived_backed rs s h b k)

pub restart_backed : (rs : List Record) (s : State) → IsRecoverable s → Backs rs s → BacksTurn rs s (restart_turn s)
restart_backed rs s h k = (down_backed rs s s.open_records k, found_backed rs s restarting restarts h k)

pub reopen_backed : (rs : List Record) (s : State) (name : List ℕ) (log_bytes : ℕ) → IsRecoverable s → Backs rs s
    → BacksTurn rs s (reopen_turn s name log_bytes)
reopen_backed rs s name log_bytes h k =
    (ended_backed rs s name log_bytes s.open_records k, found_backed rs s (reopening name log_bytes) (λ log t b. reopens log t name log_bytes b) h k)

-- one more record of a group is lost
pub too_backed : (rs : List Record) (s : State) (r : Record) → Backs rs s → Backs rs (lost_too s r).after
too_backed rs s r k = same_backed rs s s.name s.log_bytes s.sessions s.associations s.standing (s.open_records ++ r ∷ []) s.moment k

pub backs_found : BacksFound
backs_found rs s k t h b found =
    subst (λ (o : Option State). IfSome o (Backs (settled_first k s.open_records rs s))) found (survived_backed rs s h b k)

-- a record of a group stands after the others
settled_other : (rs : List Record) (s : State) (r : Record) → is_boot r ≡ false → settled rs s r ≡ rs ++ r ∷ []
settled_other rs s (logged.Opened boot) other = absurd (cc other)
settled_other rs s (logged.Prepared xid t ws) other = refl
settled_other rs s (logged.Committed xid t ws) other = refl
settled_other rs s (logged.Completed xid way) other = refl
settled_other rs s (logged.Decided xid way) other = refl
settled_other rs s (logged.Forgotten xid) other = refl
settled_other rs s (logged.Base t ws) other = refl
settled_other rs s (logged.Held xid t ws) other = refl
settled_other rs s (logged.Known xid way) other = refl

then_more : (rs : List Record) (r : Record) (more : List Record) → (rs ++ r ∷ []) ++ more ≡ rs ++ r ∷ more
then_more [] r more = refl
then_more (q ∷ rs) r more = ap (λ (l : List Record). q ∷ l) (then_more rs r more)

pub settles_group : SettlesGroup
settles_group zero lost rs s others = sym (append-nil rs)
settles_group (suc k) [] rs s others = sym (append-nil rs)
settles_group (suc k) (r ∷ lost) rs s others =
    settles_group k lost (settled rs s r) (applied r s) others.1
    ∙ ap (λ (l : List Record). l ++ take k lost) (settled_other rs s r others.0)
    ∙ then_more rs r (take k lost)
