-- The records of a snapshot are within the limits of records, where those that it stands for were.
use Rattle.std.proofs.Common.{◌≡◌, ℕ, ◌+◌, ◌≤◌, Bool, true, false, not, cond, Ok, List, [], ◌∷◌, ◌++◌, length, Option, Some, None, refl, ap, subst, arith}
use Rattle.std.specs.Prelude.{find, filter, map}
use Rattle.std.specs.List.{AllByRecursion}
use Rattle.std.specs.Cmp.Lexicographic.{slice_cmp}
use Rattle.std.specs.Ordering.{nat_cmp, is_lt}
use Rattle.std.specs.declared.cmp.Ordering.TheVariants.{Less}
use Rattle.std.proofs.lemmas.Cmp.{nat_list_cmp_total}
use Rattle.xa_codes.specs.declared.direction.Direction.{Direction}
use Rattle.xa_codes.specs.declared.direction.Direction.TheVariants.{Commit, Rollback}
use Rattle.xa_codes.specs.declared.write.Write.{Write}
use Rattle.xa_xid.specs.Triple.{Triple, IsWithinLimits, xid_eq}
use Rattle.xa_record.specs.Limits.{IsWrite, AscendsFrom, IsStamped, IsBranch, IsRecord}
use Rattle.xa_record.specs.declared.record.Record.{Record}
use Rattle.xa_record.specs.declared.record.Record.TheVariants.{Opened, Prepared, Committed, Completed, Decided, Forgotten, Base, Held, Known}
use Rattle.xa_model.specs.State.{without}
use Rattle.xa_model.specs.State.{Decided as Decision}
use Rattle.xa_model.specs.Durable.{Durable, CommittedBranch, PreparedBranch, Pairwise, keys_before, insert, commit, commits_before, prepares_before, named_before, is_written, not_overwritten, with_writes, last_writes}
use Rattle.xa_model.specs.Fold.{Reading, apply, complete, commit_prepared, prepared_as, read, fold, fold_from, unread, base, held, known}
use Rattle.xa_model.specs.Laws.Durable.{FoldIsByKey, SnapshotIsWritten}
use Rattle.xa_model.proofs.Lists.{found_all, without_all}
use Rattle.xa_model.proofs.Inserts.{all_imply, insert_all}
use Rattle.xa_model.proofs.Folds.{stepped}

-- some of the writes are writes, in their order

ascends_lower : (key k : List ℕ) (ws : List Write) → slice_cmp nat_cmp key k ≡ Less → AscendsFrom k ws → AscendsFrom key ws
ascends_lower key k [] less h = tt
ascends_lower key k (w ∷ ws) less h = (nat_list_cmp_total.trans key k w.key less h.0, h.1)

ascends_by : (key : List ℕ) (w : Write) (ws : List Write) (c : Bool) → slice_cmp nat_cmp key w.key ≡ Less → AscendsFrom w.key ws → AscendsFrom key (cond c (w ∷ ws) ws)
ascends_by key w ws true less h = (less, h)
ascends_by key w ws false less h = ascends_lower key w.key ws less h

some_ascend : (p : Write → Bool) (key : List ℕ) (ws : List Write) → AscendsFrom key ws → AscendsFrom key (filter p ws)
some_ascend p key [] h = tt
some_ascend p key (w ∷ ws) h = ascends_by key w (filter p ws) (p w) h.0 (some_ascend p w.key ws h.1)

each_by : (w : Write) (ws : List Write) (c : Bool) → IsWrite w → AllByRecursion IsWrite ws → AllByRecursion IsWrite (cond c (w ∷ ws) ws)
each_by w ws true here h = (here, h)
each_by w ws false here h = h

some_writes : (p : Write → Bool) (ws : List Write) → AllByRecursion IsWrite ws → AllByRecursion IsWrite (filter p ws)
some_writes p [] h = tt
some_writes p (w ∷ ws) h = each_by w (filter p ws) (p w) h.0 (some_writes p ws h.1)

fewer_by : (w : Write) (ws vs : List Write) (c : Bool) → length vs ≤ length ws → length (cond c (w ∷ vs) vs) ≤ length (w ∷ ws)
fewer_by w ws vs true h = omega arith
fewer_by w ws vs false h = omega arith

fewer : (p : Write → Bool) (ws : List Write) → length (filter p ws) ≤ length ws
fewer p [] = omega arith
fewer p (w ∷ ws) = fewer_by w ws (filter p ws) (p w) (fewer p ws)

some_stamped : (p : Write → Bool) (t : ℕ) (ws : List Write) → IsStamped t ws → 1 ≤ length (filter p ws) → IsStamped t (filter p ws)
some_stamped p t ws h some = record {
  stamp = h.stamp;
  writes = record {
    some = some;
    few = omega (arith, fewer p ws, h.writes.few);
    each = some_writes p ws h.writes.each;
    ascending = some_ascend p [] ws h.writes.ascending;
  };
}

-- last writes are within limits

abbrev pub AreStamped : List CommittedBranch → Type 0
AreStamped bs = AllByRecursion (λ b. IsStamped b.timestamp b.writes) bs

with_stamped : (t : ℕ) (ws : List Write) (bs : List CommittedBranch) → (1 ≤ length ws → IsStamped t ws) → AreStamped bs → AreStamped (with_writes t ws bs)
with_stamped t [] bs here h = h
with_stamped t (w ∷ ws) bs here h = (here (omega arith), h)

last_stamped : (bs : List CommittedBranch) → AreStamped bs → AreStamped (last_writes bs)
last_stamped [] h = tt
last_stamped (b ∷ later) h =
    with_stamped b.timestamp (not_overwritten later b.writes) (last_writes later) (λ some. some_stamped (λ w. not (is_written w.key later)) b.timestamp b.writes h.0 some) (last_stamped later h.1)

commit_stamped : (b : CommittedBranch) (bs : List CommittedBranch) → IsStamped b.timestamp b.writes → AreStamped bs → AreStamped (commit b bs)
commit_stamped b bs here h = last_stamped (insert commits_before b bs) (insert_all (λ c. IsStamped c.timestamp c.writes) commits_before b bs here h)

-- what records within their limits come to

abbrev pub AreBranches : List PreparedBranch → Type 0
AreBranches ps = AllByRecursion (λ p. IsBranch p.xid p.timestamp p.writes) ps

pub record IsWritten (d : Durable) : Type 0 where
  pub committed : AreStamped d.committed
  pub prepared : AreBranches d.prepared
  pub decided : AllByRecursion (λ e. IsWithinLimits e.xid) d.decided

written_prepared : (xid : Triple) (d : Durable) (o : Option PreparedBranch) → find (prepared_as xid) d.prepared ≡ o → IsWritten d
    → IsWritten (commit_prepared o (record d { prepared = without (prepared_as xid) d.prepared }))
written_prepared xid d None e h =
    record { committed = h.committed; prepared = without_all (λ p. IsBranch p.xid p.timestamp p.writes) (prepared_as xid) d.prepared h.prepared; decided = h.decided }
written_prepared xid d (Some p) e h =
    let found : IsBranch p.xid p.timestamp p.writes = found_all (λ q. IsBranch q.xid q.timestamp q.writes) (prepared_as xid) p d.prepared h.prepared e in
    record {
      committed = commit_stamped (record { timestamp = p.timestamp; writes = p.writes }) d.committed found.stamped h.committed;
      prepared = without_all (λ q. IsBranch q.xid q.timestamp q.writes) (prepared_as xid) d.prepared h.prepared;
      decided = h.decided;
    }

complete_written : (xid : Triple) (direction : Direction) (d : Durable) → IsWritten d → IsWritten (complete xid direction d)
complete_written xid Commit d h = written_prepared xid d (find (prepared_as xid) d.prepared) refl h
complete_written xid Rollback d h =
    record { committed = h.committed; prepared = without_all (λ p. IsBranch p.xid p.timestamp p.writes) (prepared_as xid) d.prepared h.prepared; decided = h.decided }

prepare_written : (xid : Triple) (t : ℕ) (ws : List Write) (ps : List PreparedBranch) → IsBranch xid t ws → AreBranches ps → AreBranches (insert prepares_before (record { xid = xid; timestamp = t; writes = ws }) ps)
prepare_written xid t ws ps k h = insert_all (λ p. IsBranch p.xid p.timestamp p.writes) prepares_before (record { xid = xid; timestamp = t; writes = ws }) ps k h

decide_written : (xid : Triple) (direction : Direction) (ds : List Decision) → IsWithinLimits xid → AllByRecursion (λ e. IsWithinLimits e.xid) ds
    → AllByRecursion (λ e. IsWithinLimits e.xid) (insert named_before (record { xid = xid; direction = direction }) ds)
decide_written xid direction ds k h = insert_all (λ e. IsWithinLimits e.xid) named_before (record { xid = xid; direction = direction }) ds k h

apply_written : (r : Record) (d : Durable) → IsRecord r → IsWritten d → IsWritten (apply r d)
apply_written (Opened boot) d k h = record { committed = h.committed; prepared = h.prepared; decided = h.decided }
apply_written (Prepared xid t ws) d k h = record { committed = h.committed; prepared = prepare_written xid t ws d.prepared k h.prepared; decided = h.decided }
apply_written (Committed xid t ws) d k h = record { committed = commit_stamped (record { timestamp = t; writes = ws }) d.committed k.stamped h.committed; prepared = h.prepared; decided = h.decided }
apply_written (Completed xid direction) d k h = complete_written xid direction d h
apply_written (Decided xid direction) d k h =
    let done : IsWritten (complete xid direction d) = complete_written xid direction d h in
    record { committed = done.committed; prepared = done.prepared; decided = decide_written xid direction (complete xid direction d).decided k done.decided }
apply_written (Forgotten xid) d k h = record { committed = h.committed; prepared = h.prepared; decided = without_all (λ e. IsWithinLimits e.xid) (λ e. xid_eq e.xid xid) d.decided h.decided }
apply_written (Base t ws) d k h = record { committed = commit_stamped (record { timestamp = t; writes = ws }) d.committed k h.committed; prepared = h.prepared; decided = h.decided }
apply_written (Held xid t ws) d k h = record { committed = h.committed; prepared = prepare_written xid t ws d.prepared k h.prepared; decided = h.decided }
apply_written (Known xid direction) d k h = record { committed = h.committed; prepared = h.prepared; decided = decide_written xid direction d.decided k h.decided }

fold_written : (i : ℕ) (x : Reading) (rs : List Record) (d : Durable) → AllByRecursion IsRecord rs → IsWritten x.durable → fold_from i x rs ≡ Ok d → IsWritten d
fold_written i x [] d k h e = let same : x.durable ≡ d = cc e in subst IsWritten same h
fold_written i x (r ∷ rs) d k h e = fold_written (i + 1) (read r x) rs d k.1 (apply_written r x.durable k.0 h) (stepped r x i rs d e).1

pub log_written : (rs : List Record) (d : Durable) → AllByRecursion IsRecord rs → fold rs ≡ Ok d → IsWritten d
log_written rs d k e = fold_written 0 unread rs d k (record { committed = tt; prepared = tt; decided = tt }) e

-- in which writes ascend by key

all_above : (key : List ℕ) (ws : List Write) → AscendsFrom key ws → AllByRecursion (λ w. is_lt (slice_cmp nat_cmp key w.key) ≡ true) ws
all_above key [] h = tt
all_above key (w ∷ ws) h = (ap is_lt h.0, all_above key ws (ascends_lower key w.key ws h.0 h.1))

pub by_key : (key : List ℕ) (ws : List Write) → AscendsFrom key ws → Pairwise keys_before ws
by_key key [] h = tt
by_key key (w ∷ ws) h = (all_above w.key ws h.1, by_key w.key ws h.1)

pub fold_is_by_key : FoldIsByKey
fold_is_by_key rs d k e =
    let h : IsWritten d = log_written rs d k e in
    all_imply (λ b. IsStamped b.timestamp b.writes) (λ b. Pairwise keys_before b.writes) (λ b stamped. by_key [] b.writes stamped.writes.ascending) d.committed h.committed

-- its snapshot

all_append : {A : Type 0} (P : A → Type 0) (xs ys : List A) → AllByRecursion P xs → AllByRecursion P ys → AllByRecursion P (xs ++ ys)
all_append P [] ys h k = k
all_append P (x ∷ xs) ys h k = (h.0, all_append P xs ys h.1 k)

all_map : {A B : Type 0} (P : B → Type 0) (f : A → B) (xs : List A) → AllByRecursion (λ x. P (f x)) xs → AllByRecursion P (map f xs)
all_map P f [] h = tt
all_map P f (x ∷ xs) h = (h.0, all_map P f xs h.1)

pub snapshot_is_written : SnapshotIsWritten
snapshot_is_written rs d boot k e low high =
    let h : IsWritten d = log_written rs d k e in (
      (low, high),
      all_append IsRecord (map base d.committed) (map held d.prepared ++ map known d.decided) (all_map IsRecord base d.committed h.committed)
          (all_append IsRecord (map held d.prepared) (map known d.decided) (all_map IsRecord held d.prepared h.prepared) (all_map IsRecord known d.decided h.decided)),
    )
