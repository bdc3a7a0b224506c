-- A group's append, beside the other file.
use Rattle.std.proofs.Common.{◌≡◌, ℕ, ◌+◌, ◌≤◌, Bool, List, ◌++◌, length, take, sym, ◌∙◌, ap, subst, arith}
use Rattle.std.specs.Prelude.{max}
use Rattle.xa_disk.specs.declared.disk.Disk.{Ghosts}
use Rattle.xa_disk.specs.Disk.{Torn}
use Rattle.xa_log.specs.Ahead.{ready_for, IsKnown}
use Rattle.xa_log.specs.Answers.{Wrote, PutAheadBecame}
use Rattle.xa_log.specs.Calls.{AppendsAhead}
use Rattle.xa_log.specs.Believed.Checkpoint.{IsOther}
use Rattle.xa_log.specs.Believed.Group.{as_one, closed, closed_by}
use Rattle.xa_log.specs.Believed.Pair.{beats, IsCalm}
use Rattle.xa_log.specs.Believed.Stands.{Answers}
use Rattle.xa_log.specs.Believed.TwoFiles.{AppendsTo, Pair}
use Rattle.xa_log.specs.declared.appending.Appended.{Appended}
use Rattle.xa_log.specs.declared.appending.Appended.TheVariants.{Kept, Refused, Lost, Full}
use Rattle.xa_log.specs.Believed.LogView.{LogView}
use Rattle.xa_log.proofs.Grouped.{beats_group, bytes_as_one, length-closed, length-closed_by}
use Rattle.xa_log.proofs.Known.{append_grows, append_reaches}
use Rattle.xa_log.proofs.Two.{pair_on}

pub appends_group : {D : Type 0} (disks : Ghosts D) (bodies group stood : List (List ℕ)) (old new : LogView D) (p : Pair disks bodies stood old) (o : Appended)
    → Answers disks o bodies group new → new.other ≡ old.other → new.on_first ≡ old.on_first → new.log_bytes ≡ old.log_bytes
    → AppendsTo disks o bodies group stood new
appends_group disks bodies group stood old new p Kept a other first most = pair_on disks bodies stood old new p (bodies ++ group) a other first most (beats_group old.on_first bodies group stood p.older)
appends_group disks bodies group stood old new p Refused a other first most = pair_on disks bodies stood old new p bodies a.0 other first most p.older
appends_group disks bodies group stood old new p Lost a other first most = record {
  current = a;
  other = subst (λ m. IsOther disks m stood new.other) (sym most) (subst (λ d. IsOther disks old.log_bytes stood d) (sym other) p.other);
  calm_on = λ lucky. subst (λ d. IsCalm stood (disks.seen d)) (sym other) (p.calm_on lucky);
  older = λ many. ap (λ (b : Bool). beats b (bodies ++ take many group) stood) first ∙ beats_group old.on_first bodies (take many group) stood p.older;
}
appends_group disks bodies group stood old new p Full a other first most = pair_on disks bodies stood old new p bodies a other first most p.older

-- ---- how far the files are known to reach

module _ {D : Type 0} (disks : Ghosts D) (tears_torn : (old : List ℕ) (at : ℕ) (bytes new : List ℕ) → disks.tears old at bytes new → Torn at (length bytes) old new)
    (group : List (List ℕ)) (more : ℕ) (old new : LogView D) (other : new.other ≡ old.other) (other_known : new.other_known ≡ old.other_known) (o : Appended)
    (went : PutAheadBecame disks o old.end (closed old.digest group) (closed_by more old.digest group) old.disk new.disk) (k : IsKnown disks old) where
  grows : length (disks.seen old.disk) ≤ length (disks.seen new.disk)
  grows = append_grows disks tears_torn old.end (closed old.digest group) (closed_by more old.digest group) old.disk new.disk o went

  beside : new.other_known ≤ length (disks.seen new.other)
  beside = omega (arith, other_known, k.other, ap (λ (d : D). length (disks.seen d)) other)

  pub known_group : 1 ≤ length group → o ≡ Kept → new.known ≡ max old.known (old.end + 40 + as_one group) → IsKnown disks new
  known_group some kept is =
      let it : PutAheadBecame disks Kept old.end (closed old.digest group) (closed_by more old.digest group) old.disk new.disk =
      subst (λ x. PutAheadBecame disks x old.end (closed old.digest group) (closed_by more old.digest group) old.disk new.disk) kept went in
      let less : length (closed old.digest group) ≤ length (closed_by more old.digest group) = omega (arith, length-closed old.digest group, length-closed_by more old.digest group) in
      let long = append_reaches disks tears_torn old.end (closed old.digest group) (closed_by more old.digest group) old.disk new.disk less it.0 in
      record { current = omega (arith, is, k.current, grows, long, length-closed old.digest group, bytes_as_one group some); other = beside }

  pub known_group_still : new.known ≡ old.known → IsKnown disks new
  known_group_still is = record { current = omega (arith, is, k.current, grows); other = beside }

-- ---- what was written, and by which calls

module _ {D : Type 0} (disks : Ghosts D) (group : List (List ℕ)) (old : LogView D) (new : D) (more : ℕ) (o : Appended) (exact : more ≡ ready_for old (as_one group)) where
  pub writes_group : o ≡ Kept → PutAheadBecame disks o old.end (closed old.digest group) (closed_by more old.digest group) old.disk new
      → Wrote disks old.end (closed old.digest group) (closed_by (ready_for old (as_one group)) old.digest group) old.disk new
  writes_group is went =
      let it : PutAheadBecame disks Kept old.end (closed old.digest group) (closed_by more old.digest group) old.disk new =
      subst (λ x. PutAheadBecame disks x old.end (closed old.digest group) (closed_by more old.digest group) old.disk new) is went in
      subst (λ n. Wrote disks old.end (closed old.digest group) (closed_by n old.digest group) old.disk new) exact it.0

  pub group_by : AppendsAhead more o (disks.failures old.disk) (disks.failures new) (disks.counts old.disk) (disks.counts new)
      → AppendsAhead (ready_for old (as_one group)) o (disks.failures old.disk) (disks.failures new) (disks.counts old.disk) (disks.counts new)
  group_by calls = subst (λ n. AppendsAhead n o (disks.failures old.disk) (disks.failures new) (disks.counts old.disk) (disks.counts new)) exact calls
