-- A group that was written is settled: what is said of its append, from the log before it on.
use Rattle.std.proofs.Common.{◌≡◌, ◌≢◌, ◌⊎◌, inl, inr, ℕ, ◌+◌, ◌-◌, ◌≤◌, true, false, List, length, refl, sym, ◌∙◌, ap, subst, arith}
use Rattle.std.specs.Prelude.{max}
use Rattle.xa_disk.specs.declared.disk.Disk.{Ghosts}
use Rattle.xa_disk.specs.Disk.{Torn}
use Rattle.xa_disk.specs.Time.{TimePasses}
use Rattle.xa_log.specs.Ahead.{ready_for, IsKnown}
use Rattle.xa_log.specs.Answers.{LeftWritten, PutAheadBecame}
use Rattle.xa_log.specs.Buffer.{KeepsRoom}
use Rattle.xa_log.specs.Calls.{AppendsAhead}
use Rattle.xa_log.specs.Believed.Damage.{AreAppended}
use Rattle.xa_log.specs.Believed.Group.{as_one, first_of_group}
use Rattle.xa_log.specs.Believed.Stands.{Answers, Moves, Renumbers, Stands}
use Rattle.xa_log.specs.Written.{AppendsGroup, HasWritten, range_of, ready_range_of}
use Rattle.xa_log.specs.declared.appending.Appended.{Appended}
use Rattle.xa_log.specs.declared.appending.Appended.TheVariants.{Kept, Refused, Lost, Full}
use Rattle.xa_log.specs.Believed.LogView.{LogView}
use Rattle.xa_log.specs.declared.written.Written.{Written}
use Rattle.xa_log.proofs.Append.{kept_ahead}
use Rattle.xa_log.proofs.Grouped.{answers_kept, answers_refused, answers_lost, length-closed, length-closed_by, range_moments}
use Rattle.xa_log.proofs.GroupPair.{appends_group, known_group, known_group_still, writes_group}
use Rattle.xa_log.proofs.GroupSteps.{ends, end_after, room_of}

module _ {D : Type 0} (disks : Ghosts D) (group : List (List ℕ)) (w : Written) (old mid : LogView D) (h : HasWritten disks group w old mid) where
  pub long : length (range_of old group) ≡ w.to - mid.end
  long = omega (arith, length-closed old.digest group, h.to, h.ends.0)

  pub less : length (range_of old group) ≤ length (ready_range_of old group)
  less = omega (arith, length-closed old.digest group, length-closed_by (ready_for old (as_one group)) old.digest group)

  pub within : w.to - mid.end ≤ length (ready_range_of old group)
  within = omega (arith, long, less)

  pub left : disks.honest → LeftWritten disks w.write mid.end (range_of old group) (ready_range_of old group) old.disk mid.disk
  left honest = subst (λ e. LeftWritten disks w.write e (range_of old group) (ready_range_of old group) old.disk mid.disk) (sym h.ends.0) (h.went honest)

  pub passed : disks.honest → TimePasses disks (Torn mid.end (length (ready_range_of old group))) old.disk mid.disk
  passed honest = subst (λ e. TimePasses disks (Torn e (length (ready_range_of old group))) old.disk mid.disk) (sym h.ends.0) (h.time honest)

-- what its sync, or the zeros after a sync that failed, came to on the disk
pub record Settles {D : Type 0} (disks : Ghosts D) (group : List (List ℕ)) (old mid : LogView D) (o : Appended) (disk : D) : Type 0 where
  pub not_full : o ≢ Full
  pub went : disks.honest → PutAheadBecame disks o mid.end (range_of old group) (ready_range_of old group) old.disk disk
  pub time : disks.honest → TimePasses disks (Torn mid.end (length (ready_range_of old group))) old.disk disk
  pub calls : AppendsAhead (ready_for old (as_one group)) o (disks.failures old.disk) (disks.failures disk) (disks.counts old.disk) (disks.counts disk)

-- of the log no more changes, whatever the group came to
abbrev pub Beside : {D : Type 0} → LogView D → LogView D → Type 0
Beside mid new =
    new ≡ record mid { disk = new.disk; end = new.end; digest = new.digest; generation = new.generation; known = new.known; lost = new.lost; room = new.room }

module _ {D : Type 0} (disks : Ghosts D)
    (tears_torn : (f : List ℕ) (at : ℕ) (bytes g : List ℕ) → disks.tears f at bytes g → Torn at (length bytes) f g)
    (only_now : (d : D) (c : List ℕ) → disks.left_since d (disks.moment d) c → disks.may_leave d c)
    (group : List (List ℕ)) (w : Written) (old mid new : LogView D) (h : HasWritten disks group w old mid) (o : Appended)
    (settles : Settles disks group old mid o new.disk) (b : Beside mid new) (keeps : KeepsRoom mid new) where
  went : disks.honest → PutAheadBecame disks o old.end (range_of old group) (ready_range_of old group) old.disk new.disk
  went honest = subst (λ e. PutAheadBecame disks o e (range_of old group) (ready_range_of old group) old.disk new.disk) h.ends.0 (settles.went honest)

  time : disks.honest → TimePasses disks (Torn old.end (length (ready_range_of old group))) old.disk new.disk
  time honest = subst (λ e. TimePasses disks (Torn e (length (ready_range_of old group))) old.disk new.disk) h.ends.0 (settles.time honest)

  log_bytes : new.log_bytes ≡ old.log_bytes
  log_bytes = ap (λ l. l.log_bytes) b ∙ h.settings.0

  format : new.format ≡ old.format
  format = ap (λ l. l.format) b ∙ h.settings.1

  other : new.other ≡ old.other
  other = ap (λ l. l.other) b ∙ h.other.0

  other_known : new.other_known ≡ old.other_known
  other_known = ap (λ l. l.other_known) b ∙ h.known.1

  on_first : new.on_first ≡ old.on_first
  on_first = ap (λ l. l.on_first) b ∙ h.other.1

  abbrev Room : Type 0
  Room = (old.end + (40 + as_one group + ready_for old (as_one group)) ≤ old.log_bytes) × (new.log_bytes ≡ old.log_bytes) × (new.format ≡ old.format)

  room : Room
  room = (room_of group h.some old.end w.to h.to (ready_for old (as_one group)) old.log_bytes h.fits, log_bytes, format)

  -- the rest of what is said, with these parts of it
  with_parts : (disks.honest → (stand : List (List ℕ)) → Stands disks stand old → AreAppended stand group → Answers disks o stand group new) → Moves o (as_one group) old new
      → Renumbers o (first_of_group group) old new → (disks.honest → IsKnown disks old → IsKnown disks new) → AppendsGroup disks group o old new
  with_parts answer moves numbers known = record {
    answer = answer;
    any_moment = λ honest stand s. range_moments disks stand group old s (only_now old.disk) h.sizes new.disk (ready_for old (as_one group)) w.to (ready_range_of old group)
        (length-closed_by (ready_for old (as_one group)) old.digest group) h.to h.fits (time honest);
    pair = λ honest stand stood p appended. appends_group disks stand group stood old new p o (answer honest stand p.current appended) other on_first log_bytes;
    moves = moves;
    numbers = numbers;
    calls = settles.calls;
    kept = λ low same. kept_ahead _ o _ _ _ _ settles.calls low same settles.not_full;
    not_full = settles.not_full;
    settings = log_bytes;
    other = (other, on_first);
    writes = λ honest is. writes_group disks group old new.disk (ready_for old (as_one group)) o refl is (went honest);
    known = known;
    room = λ n holds. keeps n (h.room n holds);
  }

  pub settled_kept : o ≡ Kept → new.end ≡ w.to - 4 → new.digest ≡ w.digest → new.generation ≡ w.generation → new.lost ≡ false → new.known ≡ max mid.known w.to → AppendsGroup disks group o old new
  settled_kept is end digest number alive known =
      let at : new.end ≡ old.end + (36 + as_one group) = end ∙ end_after group h.some old.end w.to h.to in
      let far : new.known ≡ max old.known (old.end + 40 + as_one group) = known ∙ (λ i. max (h.known.0 i) (ends group h.some old.end w.to h.to i)) in
      let lost : new.lost ≡ old.lost = alive ∙ sym h.alive in
      with_parts
      (λ honest stand s appended. answers_kept disks stand group (ready_for old (as_one group)) old new tears_torn s h.some h.sizes appended room o is (went honest) at (digest ∙ h.digest) (number ∙ h.number) lost)
      (subst (λ x. Moves x (as_one group) old new) (sym is) (at, format, lost, far, other_known))
      (subst (λ x. Renumbers x (first_of_group group) old new) (sym is) (number ∙ h.number))
      (λ honest k. known_group disks tears_torn group (ready_for old (as_one group)) old new other other_known o (went honest) k h.some is far)

  module _ (end_is : new.end ≡ mid.end) (digest_is : new.digest ≡ mid.digest) (number_is : new.generation ≡ mid.generation) (known_is : new.known ≡ mid.known) where
    end : new.end ≡ old.end
    end = end_is ∙ h.ends.0

    digest : new.digest ≡ old.digest
    digest = digest_is ∙ h.ends.1

    number : new.generation ≡ old.generation
    number = number_is ∙ h.ends.2

    far : new.known ≡ old.known
    far = known_is ∙ h.known.0

    known : disks.honest → IsKnown disks old → IsKnown disks new
    known honest k = known_group_still disks tears_torn group (ready_for old (as_one group)) old new other other_known o (went honest) k far

    refused : (o ≡ Refused) ⊎ (o ≡ Full) → o ≡ Refused
    refused (inl is) = is
    refused (inr is) = absurd (settles.not_full is)

    pub settled_refused : (o ≡ Refused) ⊎ (o ≡ Full) → new.lost ≡ false → AppendsGroup disks group o old new
    settled_refused is alive =
        let lost : new.lost ≡ old.lost = alive ∙ sym h.alive in
        with_parts
        (λ honest stand s appended. answers_refused disks stand group (ready_for old (as_one group)) old new tears_torn s h.some h.sizes appended room o is settles.not_full (went honest) end digest number lost)
        (subst (λ x. Moves x (as_one group) old new) (sym (refused is)) (end, format, digest, lost, far, other_known))
        (subst (λ x. Renumbers x (first_of_group group) old new) (sym (refused is)) number)
        known

    lost_or : (o ≡ Lost) ⊎ (o ≡ Full) → o ≡ Lost
    lost_or (inl is) = is
    lost_or (inr is) = absurd (settles.not_full is)

    pub settled_lost : (o ≡ Lost) ⊎ (o ≡ Full) → new.lost ≡ true → AppendsGroup disks group o old new
    settled_lost is lost =
        with_parts
        (λ honest stand s appended. answers_lost disks stand group (ready_for old (as_one group)) old new tears_torn s h.some h.sizes appended room o (lost_or is) (went honest) lost (time honest).follows)
        (subst (λ x. Moves x (as_one group) old new) (sym (lost_or is)) (end, format, digest, lost, far, other_known))
        (subst (λ x. Renumbers x (first_of_group group) old new) (sym (lost_or is)) number)
        known
