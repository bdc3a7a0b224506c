-- A group is written after the end of a log.
use Rattle.std.proofs.Common.{◌≡◌, inl, inr, ℕ, ◌+◌, ◌-◌, ◌≤◌, true, false, cond, nat_eq, List, length, subst, arith}
use Rattle.std.specs.List.{AllByRecursion}
use Rattle.xa_disk.specs.declared.disk.Disk.{Ghosts}
use Rattle.xa_disk.specs.Disk.{Torn}
use Rattle.xa_disk.specs.Time.{TimePasses}
use Rattle.xa_log.specs.Ahead.{ready, ready_for}
use Rattle.xa_log.specs.Answers.{LeftWritten}
use Rattle.xa_log.specs.Buffer.{Holds, KeepsRoom}
use Rattle.xa_log.specs.Calls.{WritesAhead}
use Rattle.xa_log.specs.Believed.Chain.{IsBody, last}
use Rattle.xa_log.specs.Believed.Group.{as_one, closed, closed_by, first_of_group, group_bytes}
use Rattle.xa_log.specs.Believed.Pair.{number_in}
use Rattle.xa_log.specs.Written.{HasWritten, range_of}
use Rattle.xa_log.specs.Believed.LogView.{LogView}
use Rattle.xa_log.specs.declared.written.Written.{Written}
use Rattle.xa_log.proofs.GroupSteps.{ready_same}
use Rattle.xa_log.proofs.Grouped.{bytes_as_one, length-closed_by, range_moments}

-- a buffer of this many bytes holds the records
pub buffer_holds : {D : Type 0} (log : LogView D) (group : List (List ℕ)) (to : ℕ) → 1 ≤ length group → to ≡ log.end + group_bytes group + 4 → Holds log (as_one group)
    → 1048576 ≤ log.room → to - log.end ≤ log.room
buffer_holds log group to some is (inl few) wide = omega (arith, is, few, wide, bytes_as_one group some)
buffer_holds log group to some is (inr holds) wide = omega (arith, is, holds, bytes_as_one group some)

module _ {D : Type 0} (disks : Ghosts D) (only_now : (d : D) (c : List ℕ) → disks.left_since d (disks.moment d) c → disks.may_leave d c) (group : List (List ℕ)) (w : Written) (old new : LogView D) (more : ℕ)
    (alive : old.lost ≡ false) (some : 1 ≤ length group) (sizes : AllByRecursion (IsBody old.format) group)
    (to : w.to ≡ old.end + group_bytes group + 4) (exact : more ≡ ready old.end w.to old.log_bytes old.known) (fits : w.to + more ≤ old.log_bytes)
    (digest : w.digest ≡ last old.digest group) (number : w.generation ≡ cond (nat_eq old.end 8) (number_in (first_of_group group)) old.generation)
    (buffer : w.to - old.end ≤ new.room)
    (went : disks.honest → LeftWritten disks w.write old.end (closed old.digest group) (closed_by more old.digest group) old.disk new.disk)
    (time : disks.honest → TimePasses disks (Torn old.end (length (closed_by more old.digest group))) old.disk new.disk)
    (calls : WritesAhead more w.write (disks.failures old.disk) (disks.failures new.disk) (disks.counts old.disk) (disks.counts new.disk))
    (other : new.other ≡ old.other) (on_first : new.on_first ≡ old.on_first) (log_bytes : new.log_bytes ≡ old.log_bytes) (format : new.format ≡ old.format)
    (end : new.end ≡ old.end) (digest_is : new.digest ≡ old.digest) (number_is : new.generation ≡ old.generation)
    (known : new.known ≡ old.known) (other_known : new.other_known ≡ old.other_known) (lost : new.lost ≡ true) (room : KeepsRoom old new) where
  same : more ≡ ready_for old (as_one group)
  same = ready_same group some old.end w.to to more old.log_bytes old.known exact

  pub has_written : HasWritten disks group w old new
  has_written = record {
    alive = alive;
    some = some;
    sizes = sizes;
    to = to;
    digest = digest;
    number = number;
    fits = subst (λ m. w.to + m ≤ old.log_bytes) same fits;
    range = (omega (arith, to, end), omega (arith, fits, log_bytes), omega (arith, buffer, end));
    went = λ honest. subst (λ m. LeftWritten disks w.write old.end (range_of old group) (closed_by m old.digest group) old.disk new.disk) same (went honest);
    time = λ honest. subst (λ m. TimePasses disks (Torn old.end (length (closed_by m old.digest group))) old.disk new.disk) same (time honest);
    leaves = λ honest stand s. range_moments disks stand group old s (only_now old.disk) sizes new.disk more w.to (closed_by more old.digest group)
        (length-closed_by more old.digest group) to fits (time honest);
    calls = subst (λ m. WritesAhead m w.write (disks.failures old.disk) (disks.failures new.disk) (disks.counts old.disk) (disks.counts new.disk)) same calls;
    other = (other, on_first);
    settings = (log_bytes, format);
    ends = (end, digest_is, number_is);
    known = (known, other_known);
    lost = lost;
    room = room;
  }
