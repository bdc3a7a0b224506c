-- A state stays sound where one of its parts changes and keeps what soundness asks of that part.
use Rattle.std.proofs.Common.{◌≡◌, ◌+◌, ℕ, ◌≤◌, Bool, false, List, [], Option, Some, None, refl, arith, sym, ◌∙◌}
use Rattle.std.specs.Prelude.{is_some, map}
use Rattle.xa_record.specs.declared.record.Record.{Record}
use Rattle.xa_xid.specs.Triple.{Triple, xid_eq}
use Rattle.xa_limits.specs.declared.TheConstants.{MOST_GIVEN}
use Rattle.xa_model.specs.State.{State, Branch, Association, Decided, Read, Standing, known_in, count, change, name_of, is_known_as, is_active, owns, is_loose_with, known_of, holders_of, timestamp_of, is_working, is_at_work}
use Rattle.xa_model.specs.Associations.{is_of_session}
use Rattle.xa_model.specs.Invariants.Sound.{IsSound, Descends, named, most_known}
use Rattle.xa_model.proofs.Counts.{count_same, count_map}
use Rattle.xa_model.proofs.Finds.{told, told_change, told_map}
use Rattle.xa_model.proofs.Order.{KeepsTimestamp, change_descends, map_descends}

-- What other branches keep: none is known that wasn't, in the order of timestamps, and who is held is at work.
pub record IsKept (s : State) (bs : List Branch) : Type 0 where
  pub descends : Descends (timestamp_of s.boot s.given + 1) bs
  pub names : (xid : Triple) → count (is_known_as xid) bs ≤ count (is_known_as xid) s.branches
  pub known : count (λ b. is_some (name_of b.phase)) bs ≤ count (λ b. is_some (name_of b.phase)) s.branches
  pub bound : (xid : Triple) → is_at_work (known_of bs xid) ≡ false → holders_of s.associations xid ≡ 0

pub with_branches : (s : State) (bs : List Branch) → IsSound s → IsKept s bs → IsSound (record s { branches = bs })
with_branches s bs h k = record {
  descends = k.descends;
  distinct = λ xid. omega (arith, h.distinct xid, k.names xid);
  numbered = h.numbered;
  active = h.active;
  own = h.own;
  connected = h.connected;
  bound = k.bound;
  sessions = h.sessions;
  known = omega (arith, h.known, k.known);
  given = h.given;
  loose = h.loose;
}

-- where as many are counted as before or fewer, whatever is counted
pub with_fewer_held : (s : State) (held : List Association) → IsSound s → ((q : Association → Bool) → count q held ≤ count q s.associations) → IsSound (record s { associations = held })
with_fewer_held s held h fewer = record {
  descends = h.descends;
  distinct = h.distinct;
  numbered = h.numbered;
  active = λ n. omega (arith, h.active n, fewer (λ a. is_active n a.holder));
  own = λ n xid. omega (arith, h.own n xid, fewer (owns n xid));
  connected = λ n none. omega (arith, h.connected n none, fewer (is_of_session n));
  bound = λ xid none. omega (arith, h.bound xid none, fewer (λ a. xid_eq a.xid xid));
  sessions = h.sessions;
  known = h.known;
  given = h.given;
  loose = λ xid. omega (arith, h.loose xid, fewer (is_loose_with xid));
}

-- the same branches and associations are sound also beside another boot, other decisions, and whatever else t has
pub sound_within : (s t : State) → IsSound s → Descends (timestamp_of t.boot t.given + 1) s.branches
    → ((q : Triple) → named (record s { decided = t.decided }) q ≤ 1) → known_in (record s { decided = t.decided }) ≤ most_known → t.given ≤ MOST_GIVEN
    → IsSound (record t { sessions = s.sessions; associations = s.associations; branches = s.branches })
sound_within s t h descends distinct known given = record {
  descends = descends;
  distinct = distinct;
  numbered = h.numbered;
  active = h.active;
  own = h.own;
  connected = h.connected;
  bound = h.bound;
  sessions = h.sessions;
  known = known;
  given = given;
  loose = h.loose;
}

-- of the decisions it matters that no XID has two, and how many they are
pub with_decided : (s : State) (ds : List Decided) → IsSound s → ((q : Triple) → named (record s { decided = ds }) q ≤ 1)
    → known_in (record s { decided = ds }) ≤ most_known → IsSound (record s { decided = ds })
with_decided s ds h distinct known = sound_within s (record s { decided = ds }) h h.descends distinct known h.given

-- the answered reads, the log, whether anybody answers, and the moment are no part of what is sound
pub sound_beside : (s : State) (reads : List Read) (logged_boot end : ℕ) (standing : Standing) (open_records : List Record) (moment : ℕ)
    → IsSound s
    → IsSound (record s { reads = reads; logged_boot = logged_boot; end = end; standing = standing; open_records = open_records; moment = moment })
sound_beside s reads logged_boot end standing open_records moment h =
    sound_within s (record s { reads = reads; logged_boot = logged_boot; end = end; standing = standing; open_records = open_records; moment = moment })
    h h.descends h.distinct h.known h.given

-- without sessions it matters only which branches and decisions there are
pub unheld_sound : (s : State) → Descends (timestamp_of s.boot s.given + 1) s.branches → ((q : Triple) → named s q ≤ 1) → known_in s ≤ most_known
    → s.given ≤ MOST_GIVEN → IsSound (record s { sessions = []; associations = [] })
unheld_sound s descends distinct known given = record {
  descends = descends;
  distinct = distinct;
  numbered = λ n. omega arith;
  active = λ n. omega arith;
  own = λ n xid. omega arith;
  connected = λ n none. refl;
  bound = λ xid none. refl;
  sessions = omega arith;
  known = known;
  given = given;
  loose = λ xid. omega arith;
}

-- the settings are no part of it either; and nobody need be connected
pub left_sound : (s : State) (name : List ℕ) (log_bytes : ℕ) → IsSound s
    → IsSound (record s { name = name; log_bytes = log_bytes; sessions = []; associations = [] })
left_sound s name log_bytes h = unheld_sound (record s { name = name; log_bytes = log_bytes }) h.descends h.distinct h.known h.given

-- a change of a branch that leaves its timestamp, its name, and whether it is at work
pub record KeepsName (f : Branch → Branch) : Type 0 where
  pub time : KeepsTimestamp f
  pub name : (b : Branch) → name_of (f b).phase ≡ name_of b.phase
  pub working : (b : Branch) → is_working (f b).phase ≡ is_working b.phase

known_same : (f : Branch → Branch) (k : KeepsName f) (xid : Triple) (b : Branch) → is_known_as xid (f b) ≡ is_known_as xid b
known_same f k xid b = rw (k.name b) refl

at_work_told : (o : Option Branch) → is_at_work o ≡ told (λ b. is_working b.phase) o
at_work_told None = refl
at_work_told (Some b) = refl

pub at_work_change : (p : Branch → Bool) (f : Branch → Branch) (k : KeepsName f) (xid : Triple) (bs : List Branch) → is_at_work (known_of (change p f bs) xid) ≡ is_at_work (known_of bs xid)
at_work_change p f k xid bs =
    at_work_told (known_of (change p f bs) xid)
    ∙ told_change p f (is_known_as xid) (λ b. is_working b.phase) (λ b. (known_same f k xid b, k.working b)) bs
    ∙ sym (at_work_told (known_of bs xid))

pub changed_kept : (s : State) (p : Branch → Bool) (f : Branch → Branch) → KeepsName f → IsSound s → IsKept s (change p f s.branches)
changed_kept s p f k h = record {
  descends = change_descends f k.time p (timestamp_of s.boot s.given + 1) s.branches h.descends;
  names = λ xid. omega (arith, count_same p f (is_known_as xid) (known_same f k xid) s.branches);
  known = omega (arith, count_same p f (λ b. is_some (name_of b.phase)) (λ b. rw (k.name b) refl) s.branches);
  bound = λ xid none. h.bound xid (sym (at_work_change p f k xid s.branches) ∙ none);
}

pub at_work_map : (f : Branch → Branch) (k : KeepsName f) (xid : Triple) (bs : List Branch) → is_at_work (known_of (map f bs) xid) ≡ is_at_work (known_of bs xid)
at_work_map f k xid bs =
    at_work_told (known_of (map f bs) xid)
    ∙ told_map f (is_known_as xid) (λ b. is_working b.phase) (λ b. (known_same f k xid b, k.working b)) bs
    ∙ sym (at_work_told (known_of bs xid))

pub mapped_kept : (s : State) (f : Branch → Branch) → KeepsName f → IsSound s → IsKept s (map f s.branches)
mapped_kept s f k h = record {
  descends = map_descends f k.time (timestamp_of s.boot s.given + 1) s.branches h.descends;
  names = λ xid. omega (arith, count_map f (is_known_as xid) (known_same f k xid) s.branches);
  known = omega (arith, count_map f (λ b. is_some (name_of b.phase)) (λ b. rw (k.name b) refl) s.branches);
  bound = λ xid none. h.bound xid (sym (at_work_map f k xid s.branches) ∙ none);
}
