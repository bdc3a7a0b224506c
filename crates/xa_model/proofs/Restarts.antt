-- Restarts and openings: what lasts is settled, and the new boot begins with it.
use Rattle.std.proofs.Common.{◌≡◌, ℕ, ◌+◌, ◌<◌, ◌≤◌, ◌==◌, Bool, true, false, not, ◌&&◌, cond, List, [], ◌∷◌, length, Option, Some, None, refl, ap, sym, subst, arith, inl, inr}
use Rattle.std.specs.Prelude.{filter, filter_map, map, reverse, is_some, nat_lt, option_map, take, Contains, IfSome}
use Rattle.xa_record.specs.declared.record.Record.{Record}
use Rattle.xa_record.specs.declared.record.Record.TheVariants as logged
use Rattle.xa_model.specs.State.{State, Session, Branch, Phase, Working, Prepared, Committed, Up, is_known_as, name_of, timestamp_of, is_working}
use Rattle.xa_codes.specs.declared.codes.TheConstants.{XAER_RMFAIL}
use Rattle.xa_codes.specs.declared.detail.Detail.TheVariants as detail
use Rattle.xa_model.specs.Answer.{answer, detailed, ok}
use Rattle.xa_model.specs.Invariants.Sound.{IsSound, Descends}
use Rattle.xa_model.specs.Durable.{durable, last_writes, by_name, writes_of, committed_part, prepared_part}
use Rattle.xa_model.specs.Turn.{Rereading, Stops, Opens}
use Rattle.xa_model.specs.Restarting.{refused_opening, fates, with_first, looked, survived, without_scan, lasts, restarted, boot_became, reopen_became, restarting, reopened, reopening, can_open}
use Rattle.xa_model.specs.Logging.{down}
use Rattle.xa_model.specs.Invariants.Loggable.{MayBeLast, MayFollow, AreOneGroup, IsLoggable, IsRecoverable}
use Rattle.xa_model.specs.Laws.Logging.{Fails, BootLasts, RestartLasts, ReopenLasts, IsInDoubt, apply_all}
use Rattle.std.proofs.lemmas.Bool.{and_parts}
use Rattle.std.proofs.lemmas.Bool.Decides.{nat_tests}
use Rattle.xa_model.proofs.Counts.{count_filter, count_map}
use Rattle.xa_model.proofs.Order.{descends_below}
use Rattle.xa_model.proofs.Applied.{committed_of, prepared_of, same_durable}
use Rattle.xa_model.proofs.AppliedAll.{IsFirst, first_is, same_fates, if_imply, if_mapped}
use Rattle.xa_model.proofs.Likeness.{IsLike, like_group}
use Rattle.xa_model.proofs.Parts.{sound_beside, left_sound}
use Rattle.xa_model.proofs.Stopped.{down_sound, ended_sound, down_like, ended_like}
use Rattle.xa_model.proofs.Recordable.{recordable, loggable, relogged, lasting_recordable}

-- branches that were at work are gone, and nothing that lasts

kept_by : {B : Type 0} (m : Branch → Option B) (b : Branch) (bs : List Branch) (c : Bool) → lasts b ≡ c → (lasts b ≡ false → m b ≡ None) → filter_map m (filter lasts bs) ≡ filter_map m bs
    → filter_map m (cond c (b ∷ filter lasts bs) (filter lasts bs)) ≡ filter_map m (b ∷ bs)
kept_by m b bs true e gone rest = by_part m b (filter lasts bs) bs (m b) refl rest
  where
    by_part : {B : Type 0} (m : Branch → Option B) (b : Branch) (xs ys : List Branch) (o : Option B) → m b ≡ o → filter_map m xs ≡ filter_map m ys → filter_map m (b ∷ xs) ≡ filter_map m (b ∷ ys)
    by_part m b xs ys None e h = rw e h
    by_part m b xs ys (Some y) e h = rw e (ap (λ l. y ∷ l) h)
kept_by m b bs false e gone rest = rw (gone e) rest

kept : {B : Type 0} (m : Branch → Option B) → ((b : Branch) → lasts b ≡ false → m b ≡ None) → (bs : List Branch) → filter_map m (filter lasts bs) ≡ filter_map m bs
kept m gone [] = refl
kept m gone (b ∷ bs) = kept_by m b bs (lasts b) refl (gone b) (kept m gone bs)

uncommitted : (b : Branch) (p : Phase) → not (is_working p) ≡ false → committed_part b.timestamp (writes_of b.operations) p ≡ None
uncommitted b (Working x work) e = refl
uncommitted b (Prepared x) e = absurd (cc e)
uncommitted b Committed e = absurd (cc e)

unprepared : (b : Branch) (p : Phase) → not (is_working p) ≡ false → prepared_part b.timestamp (writes_of b.operations) p ≡ None
unprepared b (Working x work) e = refl
unprepared b (Prepared x) e = absurd (cc e)
unprepared b Committed e = absurd (cc e)

pub booted_lasts : (s : State) (boot : ℕ) → durable (restarted s boot) ≡ record (durable s) { boot = boot }
booted_lasts s boot =
    same_durable boot (last_writes (reverse (filter_map committed_of (filter lasts s.branches)))) (last_writes (reverse (filter_map committed_of s.branches)))
    (reverse (filter_map prepared_of (filter lasts s.branches))) (reverse (filter_map prepared_of s.branches)) (by_name s.decided)
    (ap (λ l. last_writes (reverse l)) (kept committed_of (λ b e. uncommitted b b.phase e) s.branches))
    (ap reverse (kept prepared_of (λ b e. unprepared b b.phase e) s.branches))

-- and the state is sound

left_descend_by : (limit : ℕ) (b : Branch) (bs ys : List Branch) (c : Bool) → Descends limit (b ∷ bs) → Descends b.timestamp ys → Descends limit (cond c (b ∷ ys) ys)
left_descend_by limit b bs ys true h rest = (h.0, h.1, rest)
left_descend_by limit b bs ys false h rest = descends_below b.timestamp limit ys (omega (arith, h.1)) rest

left_descend : (limit : ℕ) (bs : List Branch) → Descends limit bs → Descends limit (filter lasts bs)
left_descend limit [] h = tt
left_descend limit (b ∷ bs) h = left_descend_by limit b bs (filter lasts bs) (lasts b) h (left_descend b.timestamp bs h.2)

pub next_above : (boot given next : ℕ) → given ≤ 4294967295 → boot < next → timestamp_of boot given + 1 ≤ timestamp_of next 0 + 1
next_above boot given next most less = omega (arith, most, less)

same_length : (xs : List Session) → length (map without_scan xs) ≡ length xs
same_length [] = refl
same_length (x ∷ xs) = let rest : length (map without_scan xs) ≡ length xs = same_length xs in omega (arith, rest)

booted_sound : (s : State) (next : ℕ) → IsSound s → s.boot < next → IsSound (restarted s next)
booted_sound s next h less = record {
  descends = descends_below (timestamp_of s.boot s.given + 1) (timestamp_of next 0 + 1) (filter lasts s.branches) (next_above s.boot s.given next h.given less)
      (left_descend (timestamp_of s.boot s.given + 1) s.branches h.descends);
  distinct = λ xid. omega (arith, h.distinct xid, count_filter lasts (is_known_as xid) s.branches);
  numbered = λ n. let same = count_map without_scan (λ (x : Session). x.number == n) (λ x. refl) s.sessions in omega (arith, same, h.numbered n);
  active = λ n. omega arith;
  own = λ n xid. omega arith;
  connected = λ n none. refl;
  bound = λ xid none. refl;
  sessions = let same = same_length s.sessions in omega (arith, same, h.sessions);
  known = omega (arith, h.known, count_filter lasts (λ b. is_some (name_of b.phase)) s.branches);
  given = omega arith;
  loose = λ xid. omega arith;
}

reopened_sound : (s : State) (name : List ℕ) (log_bytes next : ℕ) → IsSound s → s.boot < next → IsSound (reopened s name log_bytes next)
reopened_sound s name log_bytes next h less =
    let t = restarted s next in
    let left : State = record t { name = name; log_bytes = log_bytes; sessions = []; associations = [] } in
    sound_beside left left.reads left.logged_boot left.end left.standing left.open_records 0 (left_sound t name log_bytes (booted_sound s next h less))

-- a manager that is down, or ended

-- t's settings and sessions, with what s knows and these open records
abbrev stopped : State → State → List Record → State
stopped s t rs = record t { boot = s.boot; logged_boot = s.logged_boot; branches = s.branches; decided = s.decided; open_records = rs }

stopped_loggable : (s t : State) (rs : List Record) → IsLoggable s → IsLoggable (stopped s t rs)
stopped_loggable s t rs h = relogged s (stopped s t rs) h refl refl (recordable s h)

stopped_fails : (s t : State) → IsRecoverable s → (t.standing ≡ Up → ⊥) → IsSound (stopped s t s.open_records) → IsLike s (stopped s t s.open_records)
    → Fails s (stopped s t s.open_records)
stopped_fails s t h never sound like =
    let rs = s.open_records in
    let follow : MayFollow (stopped s t rs) rs = like_group s (stopped s t rs) rs h.group like h.open_records in
    record {
      recoverable = record {
        sound = sound;
        loggable = stopped_loggable s t rs h.loggable;
        open_records = follow;
        group = h.group;
        settled = λ up. absurd (never up);
        current = λ up. absurd (never up);
      };
      fates = same_fates s (stopped s t rs) rs h.sound sound h.open_records follow refl;
    }

down_fails : (s : State) → IsRecoverable s → Fails s (down s)
down_fails s h = stopped_fails s (down s) h (λ up. cc up) (down_sound s s.open_records h.sound) (down_like s s.open_records)

ended_fails : (s : State) (name : List ℕ) (log_bytes : ℕ) → IsRecoverable s → Fails s (refused_opening s name log_bytes)
ended_fails s name log_bytes h =
    stopped_fails s (refused_opening s name log_bytes) h (λ up. cc up) (ended_sound s name log_bytes s.open_records h.sound) (ended_like s name log_bytes s.open_records)

-- the next boot

booted_loggable : (s : State) → IsLoggable s → s.logged_boot < 4294967295 → IsLoggable (restarted s (s.logged_boot + 1))
booted_loggable s h less =
    loggable (restarted s (s.logged_boot + 1)) (record { first = omega arith; boots = omega arith; last = omega (arith, less) })
    (lasting_recordable s.logged_boot (s.logged_boot + 1) s.branches (omega arith) (recordable s h))

pub none_follow : (s : State) (rs : List Record) → rs ≡ [] → MayFollow s rs
none_follow s rs e = subst (λ (l : List Record). MayFollow s l) (sym e) tt

pub none_grouped : (rs : List Record) → rs ≡ [] → AreOneGroup rs
none_grouped rs e = subst AreOneGroup (sym e) (inl tt)

-- no record is open
pub with_none_open : (s : State) → IsSound s → IsLoggable s → s.open_records ≡ [] → s.logged_boot ≡ s.boot → IsRecoverable s
with_none_open s sound loggable settled current = record {
  sound = sound;
  loggable = loggable;
  open_records = none_follow s s.open_records settled;
  group = none_grouped s.open_records settled;
  settled = λ up. settled;
  current = λ up. current;
}

pub booted_recoverable : (s : State) → IsRecoverable s → s.open_records ≡ [] → s.logged_boot < 4294967295 → IsRecoverable (restarted s (s.logged_boot + 1))
booted_recoverable s h settled less =
    with_none_open (restarted s (s.logged_boot + 1)) (booted_sound s (s.logged_boot + 1) h.sound (omega (arith, h.loggable.boots))) (booted_loggable s h.loggable less)
    settled refl

pub reopened_recoverable : (s : State) (name : List ℕ) (log_bytes : ℕ) → IsRecoverable s → s.open_records ≡ [] → s.logged_boot < 4294967295
    → IsRecoverable (reopened s name log_bytes (s.logged_boot + 1))
reopened_recoverable s name log_bytes h settled less =
    let t = reopened s name log_bytes (s.logged_boot + 1) in
    let booted = booted_loggable s h.loggable less in
    with_none_open t (reopened_sound s name log_bytes (s.logged_boot + 1) h.sound (omega (arith, h.loggable.boots)))
    (relogged (restarted s (s.logged_boot + 1)) t booted refl refl (recordable (restarted s (s.logged_boot + 1)) booted)) settled refl

-- its record was lost

opened_last : (t : State) → t.logged_boot < 4294967295 → MayBeLast t (logged.Opened (t.logged_boot + 1))
opened_last t less = record { may = omega arith; limits = (omega arith, omega (arith, less)); current = λ other. absurd (cc other) }

stopped_in_doubt : (s t : State) → IsRecoverable s → s.logged_boot < 4294967295 → (t.standing ≡ Up → ⊥)
    → IsSound (stopped s t (logged.Opened (s.logged_boot + 1) ∷ [])) → IsInDoubt s (logged.Opened (s.logged_boot + 1)) (stopped s t (logged.Opened (s.logged_boot + 1) ∷ []))
stopped_in_doubt s t h less never sound =
    let rs = logged.Opened (s.logged_boot + 1) ∷ [] in record {
      recoverable = record {
        sound = sound;
        loggable = stopped_loggable s t rs h.loggable;
        open_records = (opened_last (stopped s t rs) less, tt);
        group = inr refl;
        settled = λ up. absurd (never up);
        current = λ up. absurd (never up);
      };
      lasts = refl;
      open_records = refl;
    }

pub lost_in_doubt : (s : State) → IsRecoverable s → s.logged_boot < 4294967295
    → IsInDoubt s (logged.Opened (s.logged_boot + 1)) (record (down s) { open_records = logged.Opened (s.logged_boot + 1) ∷ [] })
lost_in_doubt s h less = stopped_in_doubt s (down s) h less (λ up. cc up) (down_sound s (logged.Opened (s.logged_boot + 1) ∷ []) h.sound)

-- once the open record is settled

restarts_by : (s : State) (c : Bool) → nat_lt s.logged_boot 4294967295 ≡ c → IsRecoverable s → s.open_records ≡ []
    → BootLasts s (cond c (Opens (logged.Opened (s.logged_boot + 1)) (boot_became s (s.logged_boot + 1))) (Stops (answer (detailed XAER_RMFAIL detail.Limit) (down s))))
restarts_by s true e h settled =
    let less : s.logged_boot < 4294967295 = grind (arith, nat_tests) in (
      refl,
      record {
        recoverable = booted_recoverable s h settled less;
        lasts = booted_lasts s (s.logged_boot + 1);
        boot = refl;
        up = refl;
        settled = settled;
      },
      down_fails s h,
      lost_in_doubt s h less,
    )
restarts_by s false e h settled = down_fails s h

pub restarts : (s : State) → IsRecoverable s → s.open_records ≡ [] → BootLasts s (restarting s)
restarts s h settled = restarts_by s (nat_lt s.logged_boot 4294967295) refl h settled

reopens_by : (s : State) (name : List ℕ) (log_bytes : ℕ) (c : Bool) → (nat_lt s.logged_boot 4294967295 && can_open s log_bytes (s.logged_boot + 1)) ≡ c → IsRecoverable s → s.open_records ≡ []
    → BootLasts s (cond c (Opens (logged.Opened (s.logged_boot + 1)) (reopen_became s name log_bytes (s.logged_boot + 1))) (Stops (ok (refused_opening s name log_bytes))))
reopens_by s name log_bytes true e h settled =
    let first = (and_parts (nat_lt s.logged_boot 4294967295) (can_open s log_bytes (s.logged_boot + 1)) e).0 in
    let less : s.logged_boot < 4294967295 = grind (arith, nat_tests) in (
      refl,
      record {
        recoverable = reopened_recoverable s name log_bytes h settled less;
        lasts = booted_lasts s (s.logged_boot + 1);
        boot = refl;
        up = refl;
        settled = settled;
      },
      ended_fails s name log_bytes h,
      stopped_in_doubt s (refused_opening s name log_bytes) h less (λ up. cc up) (ended_sound s name log_bytes (logged.Opened (s.logged_boot + 1) ∷ []) h.sound),
    )
reopens_by s name log_bytes false e h settled = ended_fails s name log_bytes h

pub reopens : (s : State) (name : List ℕ) (log_bytes : ℕ) → IsRecoverable s → s.open_records ≡ [] → BootLasts s (reopening name log_bytes s)
reopens s name log_bytes h settled = reopens_by s name log_bytes (nat_lt s.logged_boot 4294967295 && can_open s log_bytes (s.logged_boot + 1)) refl h settled

-- the open records are settled

settled_recoverable : (s t : State) (k : ℕ) (rs : List Record) → IsFirst s k rs t → IsRecoverable (looked t)
settled_recoverable s t k rs x = record {
  sound = sound_beside t t.reads t.logged_boot t.end t.standing [] t.moment x.sound;
  loggable = relogged t (looked t) x.loggable refl refl (recordable t x.loggable);
  open_records = tt;
  group = inl tt;
  settled = λ up. refl;
  current = x.current;
}

pub open_first : (s : State) (k : ℕ) → IsRecoverable s → IfSome (with_first k s.open_records s) (IsFirst s k s.open_records)
open_first s k h = first_is k s.open_records s h.sound h.loggable h.open_records h.settled h.current

-- what is found after a look
pub record IsFound (s : State) (k : ℕ) (t : State) : Type 0 where
  pub recoverable : IsRecoverable t
  pub settled : t.open_records ≡ []
  pub lasts : durable t ≡ apply_all (take k s.open_records) (durable s)
  pub fate : Contains (fates s) (durable t)

pub survived_found : (s : State) (k : ℕ) → IsRecoverable s → IfSome (survived s k) (IsFound s k)
survived_found s k h =
    if_mapped (IsFound s k) looked (with_first k s.open_records s)
    (if_imply (IsFirst s k s.open_records) (λ t. IsFound s k (looked t)) found (with_first k s.open_records s) (open_first s k h))
  where
    found : (t : State) → IsFirst s k s.open_records t → IsFound s k (looked t)
    found t x = record { recoverable = settled_recoverable s t k s.open_records x; settled = refl; lasts = x.lasts; fate = x.fate }

-- what goes on with a state that is found, of which this holds, has that
pub found_boots : (P : State → Type 0) (Q : Rereading → Type 0) (s : State) (k : ℕ) (boot : State → Rereading)
    → ((t : State) → P t → Q (boot t)) → IfSome (survived s k) P → IfSome (option_map boot (survived s k)) Q
found_boots P Q s k boot f h = if_mapped Q boot (survived s k) (if_imply P (λ t. Q (boot t)) f (survived s k) h)

-- and of the two together
pub found_both : (P : State → Type 0) (Q : State → Rereading → Type 0) (boot : State → Rereading) (o : Option State)
    → ((t : State) → P t → Q t (boot t)) → IfSome o P → IfSome o (λ t. IfSome (option_map boot o) (Q t))
found_both P Q boot None f h = tt
found_both P Q boot (Some t) f h = f t h

settles : (s : State) (boot : State → Rereading) → ((t : State) → IsRecoverable t → t.open_records ≡ [] → BootLasts t (boot t)) → IsRecoverable s → (k : ℕ)
    → IfSome (survived s k)
    (λ t. (durable t ≡ apply_all (take k s.open_records) (durable s)) × IfSome (option_map boot (survived s k)) (BootLasts t))
settles s boot boots h k = by_look (survived s k) (survived_found s k h)
  where
    by_look : (o : Option State) → IfSome o (IsFound s k)
        → IfSome o (λ t. (durable t ≡ apply_all (take k s.open_records) (durable s)) × IfSome (option_map boot o) (BootLasts t))
    by_look None found = tt
    by_look (Some t) found = (found.lasts, boots t found.recoverable found.settled)

pub restart_lasts : RestartLasts
restart_lasts s h = (down_fails s h, settles s restarting restarts h)

pub reopen_lasts : ReopenLasts
reopen_lasts s name log_bytes h =
    (ended_fails s name log_bytes h, settles s (reopening name log_bytes) (λ t k none. reopens t name log_bytes k none) h)
