-- The states that a read of the log settles: the first n of the records whose fates were unknown survived.
use Rattle.std.proofs.Common.{◌≡◌, ◌+◌, ℕ, zero, suc, Bool, true, false, cond, List, [], ◌∷◌, length, Option, Some, None, refl, ap, sym, ◌∙◌, subst, arith}
use Rattle.std.specs.Prelude.{nat_lt, IfSome, option_map, option_and_then, IsSomeAnd}
use Rattle.xa_codes.specs.declared.direction.Direction.TheVariants as direction
use Rattle.xa_codes.specs.declared.codes.TheConstants.{XAER_RMFAIL}
use Rattle.xa_codes.specs.declared.detail.Detail.TheVariants as detail
use Rattle.xa_record.specs.declared.record.Record.{Record}
use Rattle.xa_record.specs.declared.record.Record.TheVariants as logged
use Rattle.xa_model.specs.declared.outcome.Outcome.TheVariants.{Reread}
use Rattle.xa_model.specs.declared.outcome.Appending.{Appending}
use Rattle.xa_model.specs.State.{State}
use Rattle.xa_model.specs.Answer.{Answer, detailed, answer}
use Rattle.xa_model.specs.Turn.{Stops, Opens, going_on, taken}
use Rattle.xa_model.specs.Logging.{applied, prepared_count, down}
use Rattle.xa_model.specs.Restarting.{looked, with_first, survived, restarted, restarting, restart_turn, boot_became}
use Rattle.xa_limits.specs.declared.TheConstants.{MOST_BOOTS}
use Rattle.xa_model.specs.Invariants.Loggable.{IsRecoverable}
use Rattle.xa_model.specs.Durable.{Durable, durable}
use Rattle.xa_model.specs.Fold.{snapshot}
use Rattle.xa_model.specs.Invariants.Backing.{Backs, BacksReading}
use Rattle.xa_model.specs.Invariants.Room.{HasRoom, HasRoomAnyway}
use Rattle.xa_model.proofs.AppliedAll.{if_imply, if_some, if_mapped}
use Rattle.xa_model.proofs.Booted.{same_backed, restart_backed}
use Rattle.xa_model.proofs.Restarts.{IsFound, survived_found, booted_lasts, restart_lasts}
use Rattle.xa_model.proofs.RoomWith.{survived_room}
use Rattle.xa_model.proofs.Rooms.{still_room, prepared_lasting, recoverable_snapshot_ends}
use Rattle.xa_manager.specs.Rereading.{IsFate}

-- what a fate leaves as it was
pub record IsSameOutside (s t : State) : Type 0 where
  pub name : t.name ≡ s.name
  pub log_bytes : t.log_bytes ≡ s.log_bytes
  pub sessions : t.sessions ≡ s.sessions
  pub associations : t.associations ≡ s.associations
  pub moment : t.moment ≡ s.moment
  pub standing : t.standing ≡ s.standing

applied_same : (r : Record) (s : State) → IsSameOutside s (applied r s)
applied_same (logged.Opened boot) s = record { name = refl; log_bytes = refl; sessions = refl; associations = refl; moment = refl; standing = refl }
applied_same (logged.Prepared xid t ws) s = record { name = refl; log_bytes = refl; sessions = refl; associations = refl; moment = refl; standing = refl }
applied_same (logged.Committed xid t ws) s = record { name = refl; log_bytes = refl; sessions = refl; associations = refl; moment = refl; standing = refl }
applied_same (logged.Completed xid direction.Commit) s = record { name = refl; log_bytes = refl; sessions = refl; associations = refl; moment = refl; standing = refl }
applied_same (logged.Completed xid direction.Rollback) s = record { name = refl; log_bytes = refl; sessions = refl; associations = refl; moment = refl; standing = refl }
applied_same (logged.Decided xid direction.Commit) s = record { name = refl; log_bytes = refl; sessions = refl; associations = refl; moment = refl; standing = refl }
applied_same (logged.Decided xid direction.Rollback) s = record { name = refl; log_bytes = refl; sessions = refl; associations = refl; moment = refl; standing = refl }
applied_same (logged.Forgotten xid) s = record { name = refl; log_bytes = refl; sessions = refl; associations = refl; moment = refl; standing = refl }
applied_same (logged.Base t ws) s = record { name = refl; log_bytes = refl; sessions = refl; associations = refl; moment = refl; standing = refl }
applied_same (logged.Held xid t ws) s = record { name = refl; log_bytes = refl; sessions = refl; associations = refl; moment = refl; standing = refl }
applied_same (logged.Known xid d) s = record { name = refl; log_bytes = refl; sessions = refl; associations = refl; moment = refl; standing = refl }

same_then : (s t u : State) → IsSameOutside s t → IsSameOutside t u → IsSameOutside s u
same_then s t u h k = record {
  name = k.name ∙ h.name;
  log_bytes = k.log_bytes ∙ h.log_bytes;
  sessions = k.sessions ∙ h.sessions;
  associations = k.associations ∙ h.associations;
  moment = k.moment ∙ h.moment;
  standing = k.standing ∙ h.standing;
}

looked_same : (s t : State) → IsSameOutside s t → IsSameOutside s (looked t)
looked_same s t h = record { name = h.name; log_bytes = h.log_bytes; sessions = h.sessions; associations = h.associations; moment = h.moment; standing = h.standing }

first_same : (k : ℕ) (rs : List Record) (s : State) → IfSome (with_first k rs s) (IsSameOutside s)
first_same zero rs s = record { name = refl; log_bytes = refl; sessions = refl; associations = refl; moment = refl; standing = refl }
first_same (suc k) [] s = tt
first_same (suc k) (r ∷ rs) s =
    if_imply (IsSameOutside (applied r s)) (IsSameOutside s) (λ t h. same_then s (applied r s) t (applied_same r s) h) (with_first k rs (applied r s)) (first_same k rs (applied r s))

-- what is said of the state that is found
of_fate : (k : ℕ) (s t : State) (P : State → Type 0) → IsFate k s t → IfSome (survived s k) P → P t
of_fate k s t P fate h = subst (λ (o : Option State). IfSome o P) fate h

pub fate_same : (k : ℕ) (s t : State) → IsFate k s t → IsSameOutside s t
fate_same k s t fate =
    of_fate k s t (IsSameOutside s) fate
    (if_mapped (IsSameOutside s) looked (with_first k s.open_records s)
    (if_imply (IsSameOutside s) (λ u. IsSameOutside s (looked u)) (looked_same s) (with_first k s.open_records s) (first_same k s.open_records s)))

pub fate_settled : (k : ℕ) (s t : State) → IsFate k s t → t.open_records ≡ []
fate_settled k s t fate =
    of_fate k s t (λ u. u.open_records ≡ []) fate
    (if_mapped (λ (u : State). u.open_records ≡ []) looked (with_first k s.open_records s)
    (if_some (λ (u : State). (looked u).open_records ≡ []) (with_first k s.open_records s) (λ u is. refl)))

pub fate_recoverable : (k : ℕ) (s t : State) → IsRecoverable s → IsFate k s t → IsRecoverable t
fate_recoverable k s t h fate = let found : IsFound s k t = of_fate k s t (IsFound s k) fate (survived_found s k h) in found.recoverable

-- a restart whose look failed
pub failed_recoverable : (s : State) → IsRecoverable s → IsRecoverable (down s)
failed_recoverable s h = (restart_lasts s h).0.recoverable

pub fate_room : (k : ℕ) (s t : State) → HasRoomAnyway s → IsFate k s t → HasRoom t
fate_room k s t h fate = of_fate k s t HasRoom fate (survived_room s k h)

-- the states that a restart leads to

pub down_backed : (rs : List Record) (t : State) (o : List Record) → Backs rs t → Backs rs (record (down t) { open_records = o })
down_backed rs t o k = same_backed rs t t.name t.log_bytes t.sessions t.associations _ o t.moment k

looked_is : (t : State) → t.open_records ≡ [] → looked t ≡ t
looked_is t none = ap (λ (o : List Record). record t { open_records = o }) (sym none)

begun_by : (rs : List Record) (t : State) (c : Bool) → c ≡ true
    → BacksReading rs t (cond c (Opens (logged.Opened (t.logged_boot + 1)) (boot_became t (t.logged_boot + 1))) (Stops (answer (detailed XAER_RMFAIL detail.Limit) (down t))))
    → Backs (snapshot (durable t) (t.logged_boot + 1)) (restarted t (t.logged_boot + 1))
begun_by rs t true e k = k.0
begun_by rs t false e k = absurd (cc e)

pub begun_backed : (rs : List Record) (t : State) → IsRecoverable t → t.open_records ≡ [] → Backs rs t → nat_lt t.logged_boot MOST_BOOTS ≡ true
    → Backs (snapshot (durable t) (t.logged_boot + 1)) (restarted t (t.logged_boot + 1))
begun_backed rs t h none k less =
    let reading : BacksReading rs t (restarting t) = subst (λ (x : State). BacksReading rs x (restarting x)) (looked_is t none) ((restart_backed rs t h k).1 0) in
    begun_by rs t (nat_lt t.logged_boot MOST_BOOTS) less reading

pub begun_room : (rs : List Record) (t : State) (boot : ℕ) → IsRecoverable t → Backs rs t → HasRoom t → HasRoom (restarted t boot)
begun_room rs t boot h k room =
    let short = recoverable_snapshot_ends rs t boot h k in
    let counted : prepared_count (restarted t boot) ≡ prepared_count t = sym (prepared_lasting (restarted t boot)) ∙ (ap (λ (d : Durable). length d.prepared) (booted_lasts t boot) ∙ prepared_lasting t) in
    still_room t (restarted t boot) refl (rw counted (omega (arith, short))) room

pub lost_room : (rs : List Record) (t : State) (boot : ℕ) → IsRecoverable t → Backs rs t → HasRoom t → HasRoomAnyway (record (down t) { open_records = logged.Opened boot ∷ [] })
lost_room rs t boot h k room = record {
  room = room;
  found =
      let short = recoverable_snapshot_ends rs t boot h k in
      (still_room t (applied (logged.Opened boot) (record (down t) { open_records = logged.Opened boot ∷ [] })) refl (omega (arith, short)) room, tt);
}

-- what a restart answers

pub fate_taken : (k : ℕ) (s t : State) (o : Option Appending) → IsFate k s t → taken (restart_turn s) (Reread k o) ≡ going_on o (restarting t)
fate_taken k s t o fate = ap (λ (u : Option State). option_and_then (going_on o) (option_map restarting u)) fate

stops_by : (t : State) (c : Bool) → c ≡ false
    → going_on None (cond c (Opens (logged.Opened (t.logged_boot + 1)) (boot_became t (t.logged_boot + 1))) (Stops (answer (detailed XAER_RMFAIL detail.Limit) (down t)))) ≡ Some (answer (detailed XAER_RMFAIL detail.Limit) (down t))
stops_by t true e = absurd (cc e)
stops_by t false e = refl

opens_by : (t : State) (a : Appending) (c : Bool) → c ≡ true
    → going_on (Some a) (cond c (Opens (logged.Opened (t.logged_boot + 1)) (boot_became t (t.logged_boot + 1))) (Stops (answer (detailed XAER_RMFAIL detail.Limit) (down t)))) ≡ Some (boot_became t (t.logged_boot + 1) a)
opens_by t a true e = refl
opens_by t a false e = absurd (cc e)

pub turn_stops : (b : ℕ) (s t : State) → IsFate b s t → nat_lt t.logged_boot MOST_BOOTS ≡ false → taken (restart_turn s) (Reread b None) ≡ Some (answer (detailed XAER_RMFAIL detail.Limit) (down t))
turn_stops b s t fate used = fate_taken b s t None fate ∙ stops_by t (nat_lt t.logged_boot MOST_BOOTS) used

pub turn_opens : (b : ℕ) (s t : State) (a : Appending) → IsFate b s t → nat_lt t.logged_boot MOST_BOOTS ≡ true → taken (restart_turn s) (Reread b (Some a)) ≡ Some (boot_became t (t.logged_boot + 1) a)
turn_opens b s t a fate less = fate_taken b s t (Some a) fate ∙ opens_by t a (nat_lt t.logged_boot MOST_BOOTS) less

pub is_answer : (o : Option Answer) (a : Answer) (P : Answer → Type 0) → o ≡ Some a → P a → IsSomeAnd o P
is_answer o a P e p = subst (λ (q : Option Answer). IsSomeAnd q P) (sym e) p
