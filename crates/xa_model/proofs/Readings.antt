-- What records come to is in the one form, whatever they are: a branch that is read has a timestamp that none has yet.
use Rattle.std.proofs.Common.{◌≡◌, ℕ, ◌+◌, ◌==◌, Bool, true, false, not, ◌&&◌, Ok, List, [], ◌∷◌, Option, Some, None, refl, ap, subst, ◌∙◌}
use Rattle.std.specs.Prelude.{find, nat_lt}
use Rattle.std.specs.List.{AllByRecursion, list_all}
use Rattle.std.specs.Ordering.{is_lt}
use Rattle.std.proofs.lemmas.Bool.{and_parts, not-true, ltb-true}
use Rattle.xa_codes.specs.declared.direction.Direction.{Direction}
use Rattle.xa_codes.specs.declared.direction.Direction.TheVariants.{Commit, Rollback}
use Rattle.xa_codes.specs.declared.write.Write.{Write}
use Rattle.xa_xid.specs.Triple.{Triple, xid_eq, xid_cmp}
use Rattle.xa_record.specs.declared.record.Record.{Record}
use Rattle.xa_record.specs.declared.record.Record.TheVariants.{Opened, Prepared, Committed, Completed, Decided, Forgotten, Base, Held, Known}
use Rattle.xa_model.specs.State.{without}
use Rattle.xa_model.specs.Durable.{Durable, CommittedBranch, PreparedBranch, IsDurable, insert, commit, commits_before, prepares_before, is_prepared, is_decided, is_past}
use Rattle.xa_model.specs.Fold.{Reading, prepare, commit_writes, commit_prepared, complete, decide, prepared_as, read, fits, is_new, is_unknown, is_used, is_empty, fold_from, unread}
use Rattle.xa_model.specs.Laws.Durable.{FoldIsDurable}
use Rattle.xa_model.proofs.Lists.{found_all, without_all}
use Rattle.xa_model.proofs.Inserts.{all_imply, insert_all}
use Rattle.xa_model.proofs.LastWrites.{last_all}
use Rattle.xa_model.proofs.Tests.{past_next, used_apart, still_used, now_used, unused_above}
use Rattle.xa_model.proofs.OneForm.{IsUnused, prepare_durable, commit_durable, complete_durable, complete_gone, complete_knows, decide_durable, forget_durable, open_durable, undecided, above_undecided}
use Rattle.xa_model.proofs.Folds.{stepped}

abbrev pub AreUsed : List CommittedBranch → List ℕ → Type 0
AreUsed bs ts = AllByRecursion (λ b. is_used b.timestamp ts ≡ true) bs

abbrev pub AreUsedIn : List PreparedBranch → List ℕ → Type 0
AreUsedIn ps ts = AllByRecursion (λ p. is_used p.timestamp ts ≡ true) ps

-- what was read is in the one form, and the timestamps of all branches in it were read
pub record IsRead (x : Reading) : Type 0 where
  pub durable : IsDurable x.durable
  pub committed : AreUsed x.durable.committed x.timestamps
  pub prepared : AreUsedIn x.durable.prepared x.timestamps

-- what a record has to be that fits

pub record IsFresh (x : Reading) (t : ℕ) : Type 0 where
  pub past : is_past (x.durable.boot + 1) t ≡ true
  pub unused : is_used t x.timestamps ≡ false

pub record IsUnknown (xid : Triple) (d : Durable) : Type 0 where
  pub unprepared : is_prepared xid d.prepared ≡ false
  pub undecided : is_decided xid d.decided ≡ false

unknown_is : (xid : Triple) (d : Durable) → is_unknown xid d ≡ true → IsUnknown xid d
unknown_is xid d e =
    let both = and_parts (not (is_prepared xid d.prepared)) (not (is_decided xid d.decided)) e in
    record { unprepared = not-true (is_prepared xid d.prepared) both.0; undecided = not-true (is_decided xid d.decided) both.1 }

pub new_is : (xid : Triple) (t : ℕ) (x : Reading) → is_new xid t x ≡ true → IsFresh x t × IsUnknown xid x.durable
new_is xid t x e =
    let boot = x.durable.boot in
    let unknown = and_parts (is_past (boot + 1) t && not (is_used t x.timestamps)) (is_unknown xid x.durable) e in
    let unused = and_parts (is_past (boot + 1) t) (not (is_used t x.timestamps)) unknown.0 in
    (record { past = unused.0; unused = not-true (is_used t x.timestamps) unused.1 }, unknown_is xid x.durable unknown.1)

pub base_is : (t : ℕ) (ws : List Write) (x : Reading) → fits (Base t ws) x ≡ true → IsFresh x t
base_is t ws x e =
    let d = x.durable in
    let above = and_parts (x.is_snapshot && is_empty d.prepared && is_empty d.decided && is_past d.boot t) (list_all (λ u. nat_lt u t) x.timestamps) e in
    let past = and_parts (x.is_snapshot && is_empty d.prepared && is_empty d.decided) (is_past d.boot t) above.0 in
    record { past = past_next d.boot t past.1; unused = unused_above t x.timestamps above.1 }

pub held_is : (xid : Triple) (t : ℕ) (ws : List Write) (x : Reading) → fits (Held xid t ws) x ≡ true → IsFresh x t × IsUnknown xid x.durable
held_is xid t ws x e =
    let d = x.durable in
    let all = list_all (λ (p : PreparedBranch). nat_lt p.timestamp t) d.prepared in
    let unknown = and_parts (x.is_snapshot && is_empty d.decided && is_past d.boot t && not (is_used t x.timestamps) && all) (is_unknown xid d) e in
    let above = and_parts (x.is_snapshot && is_empty d.decided && is_past d.boot t && not (is_used t x.timestamps)) all unknown.0 in
    let unused = and_parts (x.is_snapshot && is_empty d.decided && is_past d.boot t) (not (is_used t x.timestamps)) above.0 in
    let past = and_parts (x.is_snapshot && is_empty d.decided) (is_past d.boot t) unused.0 in
    (record { past = past_next d.boot t past.1; unused = not-true (is_used t x.timestamps) unused.1 }, unknown_is xid d unknown.1)

pub known_is : (xid : Triple) (direction : Direction) (x : Reading) → fits (Known xid direction) x ≡ true → IsUnknown xid x.durable
known_is xid direction x e =
    let d = x.durable in
    let above = and_parts (x.is_snapshot && not (is_prepared xid d.prepared)) (list_all (λ f. is_lt (xid_cmp f.xid xid)) d.decided) e in
    let apart = and_parts x.is_snapshot (not (is_prepared xid d.prepared)) above.0 in
    record { unprepared = not-true (is_prepared xid d.prepared) apart.1; undecided = above_undecided xid d.decided above.1 }

-- so no branch has its timestamp

unused_is : (t : ℕ) (x : Reading) → IsRead x → IsFresh x t → IsUnused x.durable t
unused_is t x h fresh = record {
  past = fresh.past;
  committed = all_imply (λ b. is_used b.timestamp x.timestamps ≡ true) (λ b. (b.timestamp == t) ≡ false) (λ b used. used_apart b.timestamp t x.timestamps used fresh.unused) x.durable.committed h.committed;
  prepared = all_imply (λ p. is_used p.timestamp x.timestamps ≡ true) (λ p. (p.timestamp == t) ≡ false) (λ p used. used_apart p.timestamp t x.timestamps used fresh.unused) x.durable.prepared h.prepared;
}

-- what is read

more_committed : (t : ℕ) (bs : List CommittedBranch) (ts : List ℕ) → AreUsed bs ts → AreUsed bs (t ∷ ts)
more_committed t bs ts h = all_imply (λ b. is_used b.timestamp ts ≡ true) (λ b. is_used b.timestamp (t ∷ ts) ≡ true) (λ b used. still_used t b.timestamp ts used) bs h

more_prepared : (t : ℕ) (ps : List PreparedBranch) (ts : List ℕ) → AreUsedIn ps ts → AreUsedIn ps (t ∷ ts)
more_prepared t ps ts h = all_imply (λ p. is_used p.timestamp ts ≡ true) (λ p. is_used p.timestamp (t ∷ ts) ≡ true) (λ p used. still_used t p.timestamp ts used) ps h

used_commit : (b : CommittedBranch) (bs : List CommittedBranch) (ts : List ℕ) → is_used b.timestamp ts ≡ true → AreUsed bs ts → AreUsed (commit b bs) ts
used_commit b bs ts here h =
    last_all (λ u. is_used u ts ≡ true) (insert commits_before b bs) (insert_all (λ c. is_used c.timestamp ts ≡ true) commits_before b bs here h)

prepare_read : (xid : Triple) (t : ℕ) (ws : List Write) (x : Reading) (snapshot : Bool) → IsRead x → IsFresh x t → IsUnknown xid x.durable
    → IsRead (record { durable = prepare xid t ws x.durable; is_snapshot = snapshot; timestamps = t ∷ x.timestamps })
prepare_read xid t ws x snapshot h fresh unknown = record {
  durable = prepare_durable xid t ws x.durable h.durable (unused_is t x h fresh) unknown.unprepared unknown.undecided;
  committed = more_committed t x.durable.committed x.timestamps h.committed;
  prepared = insert_all (λ p. is_used p.timestamp (t ∷ x.timestamps) ≡ true) prepares_before (record { xid = xid; timestamp = t; writes = ws }) x.durable.prepared
      (now_used t x.timestamps) (more_prepared t x.durable.prepared x.timestamps h.prepared);
}

commit_read : (t : ℕ) (ws : List Write) (x : Reading) (snapshot : Bool) → IsRead x → IsFresh x t
    → IsRead (record { durable = commit_writes t ws x.durable; is_snapshot = snapshot; timestamps = t ∷ x.timestamps })
commit_read t ws x snapshot h fresh = record {
  durable = commit_durable t ws x.durable h.durable (unused_is t x h fresh);
  committed = used_commit (record { timestamp = t; writes = ws }) x.durable.committed (t ∷ x.timestamps) (now_used t x.timestamps) (more_committed t x.durable.committed x.timestamps h.committed);
  prepared = more_prepared t x.durable.prepared x.timestamps h.prepared;
}

-- a completion has no timestamp of its own

used_completed : (xid : Triple) (d : Durable) (ts : List ℕ) (o : Option PreparedBranch) → find (prepared_as xid) d.prepared ≡ o → AreUsed d.committed ts → AreUsedIn d.prepared ts
    → AreUsed (commit_prepared o (record d { prepared = without (prepared_as xid) d.prepared })).committed ts
used_completed xid d ts None e h k = h
used_completed xid d ts (Some p) e h k =
    used_commit (record { timestamp = p.timestamp; writes = p.writes }) d.committed ts (found_all (λ q. is_used q.timestamp ts ≡ true) (prepared_as xid) p d.prepared k e) h

left_completed : (xid : Triple) (d : Durable) (ts : List ℕ) (o : Option PreparedBranch) → AreUsedIn d.prepared ts → AreUsedIn (commit_prepared o (record d { prepared = without (prepared_as xid) d.prepared })).prepared ts
left_completed xid d ts None k = without_all (λ p. is_used p.timestamp ts ≡ true) (prepared_as xid) d.prepared k
left_completed xid d ts (Some p) k = without_all (λ p. is_used p.timestamp ts ≡ true) (prepared_as xid) d.prepared k

pub complete_read : (xid : Triple) (direction : Direction) (x : Reading) (snapshot : Bool) → IsRead x
    → IsRead (record { durable = complete xid direction x.durable; is_snapshot = snapshot; timestamps = x.timestamps })
complete_read xid Commit x snapshot h = record {
  durable = complete_durable xid Commit x.durable h.durable;
  committed = used_completed xid x.durable x.timestamps (find (prepared_as xid) x.durable.prepared) refl h.committed h.prepared;
  prepared = left_completed xid x.durable x.timestamps (find (prepared_as xid) x.durable.prepared) h.prepared;
}
complete_read xid Rollback x snapshot h = record {
  durable = complete_durable xid Rollback x.durable h.durable;
  committed = h.committed;
  prepared = without_all (λ p. is_used p.timestamp x.timestamps ≡ true) (prepared_as xid) x.durable.prepared h.prepared;
}

decide_read : (xid : Triple) (direction : Direction) (x : Reading) (snapshot : Bool) → IsRead x → IsUnknown xid x.durable
    → IsRead (record { durable = decide xid direction x.durable; is_snapshot = snapshot; timestamps = x.timestamps })
decide_read xid direction x snapshot h unknown = record {
  durable = decide_durable xid direction x.durable h.durable unknown.unprepared unknown.undecided;
  committed = h.committed;
  prepared = h.prepared;
}

pub completed_unknown : (xid : Triple) (direction : Direction) (d : Durable) → IsDurable d → is_prepared xid d.prepared ≡ true → IsUnknown xid (complete xid direction d)
completed_unknown xid direction d h some = record {
  unprepared = complete_gone xid direction d h;
  undecided = ap (λ ds. is_decided xid ds) (complete_knows xid direction d) ∙ undecided xid d h some;
}

pub read_is : (r : Record) (x : Reading) → fits r x ≡ true → IsRead x → IsRead (read r x)
read_is (Opened boot) x e h = record { durable = open_durable boot x.durable (ltb-true x.durable.boot boot e) h.durable; committed = h.committed; prepared = h.prepared }
read_is (Prepared xid t ws) x e h = let new = new_is xid t x e in prepare_read xid t ws x false h new.0 new.1
read_is (Committed xid t ws) x e h = let new = new_is xid t x e in commit_read t ws x false h new.0
read_is (Completed xid direction) x e h = complete_read xid direction x false h
read_is (Decided xid direction) x e h =
    decide_read xid direction (record { durable = complete xid direction x.durable; is_snapshot = false; timestamps = x.timestamps }) false
    (complete_read xid direction x false h) (completed_unknown xid direction x.durable h.durable e)
read_is (Forgotten xid) x e h = record { durable = forget_durable (λ f. xid_eq f.xid xid) x.durable h.durable; committed = h.committed; prepared = h.prepared }
read_is (Base t ws) x e h = commit_read t ws x x.is_snapshot h (base_is t ws x e)
read_is (Held xid t ws) x e h = let new = held_is xid t ws x e in prepare_read xid t ws x x.is_snapshot h new.0 new.1
read_is (Known xid direction) x e h = decide_read xid direction x x.is_snapshot h (known_is xid direction x e)

fold_is : (i : ℕ) (x : Reading) (rs : List Record) (d : Durable) → IsRead x → fold_from i x rs ≡ Ok d → IsDurable d
fold_is i x [] d h e = let same : x.durable ≡ d = cc e in subst IsDurable same h.durable
fold_is i x (r ∷ rs) d h e = let both = stepped r x i rs d e in fold_is (i + 1) (read r x) rs d (read_is r x both.0 h) both.1

pub nothing_is : IsRead unread
nothing_is = record {
  durable = record { committed = tt; prepared = tt; decided = tt; apart = tt; committed_past = tt; prepared_past = tt; last = tt; distinct = tt; unknown = tt };
  committed = tt;
  prepared = tt;
}

pub fold_is_durable : FoldIsDurable
fold_is_durable rs d e = fold_is 0 unread rs d nothing_is e
