-- What the log's records come to, in which order they may stand, and the records that a new file begins with.
use Rattle.std.specs.Prelude.{ℕ, ◌+◌, ◌==◌, nat_lt, Bool, false, not, ◌&&◌, Option, Some, None, Result, Ok, Err}
use Rattle.std.specs.Prelude.{List, [], ◌∷◌, ◌++◌, length, map, find, if◌then◌else◌}
use Rattle.std.specs.List.{list_any, list_all}
use Rattle.std.specs.Ordering.{is_lt}
use Rattle.xa_codes.specs.declared.direction.Direction.{Direction}
use Rattle.xa_codes.specs.declared.direction.Direction.TheVariants.{Commit, Rollback}
use Rattle.xa_codes.specs.declared.write.Write.{Write}
use Rattle.xa_xid.specs.Triple.{Triple, xid_eq, xid_cmp}
use Rattle.xa_record.specs.Spelling.{spelled}
use Rattle.xa_record.specs.declared.record.Record.{Record}
use Rattle.xa_record.specs.declared.record.Record.TheVariants.{Opened, Prepared, Committed, Completed, Decided}
use Rattle.xa_record.specs.declared.record.Record.TheVariants.{Forgotten, Base, Held, Known}
use Rattle.xa_limits.specs.declared.TheConstants.{AROUND_BODY}
use Rattle.xa_model.specs.State.{without}
use Rattle.xa_model.specs.State.{Decided as Decision}
use Rattle.xa_model.specs.Durable.{Durable, CommittedBranch, PreparedBranch, insert, commit, prepares_before}
use Rattle.xa_model.specs.Durable.{named_before, is_prepared, is_decided, is_past}

-- What a record does

abbrev pub prepare : Triple → ℕ → List Write → Durable → Durable
prepare xid t ws d =
    record d { prepared = insert prepares_before (record { xid = xid; timestamp = t; writes = ws }) d.prepared }

abbrev pub commit_writes : ℕ → List Write → Durable → Durable
commit_writes t ws d = record d { committed = commit (record { timestamp = t; writes = ws }) d.committed }

abbrev pub decide : Triple → Direction → Durable → Durable
decide xid direction d =
    record d { decided = insert named_before (record { xid = xid; direction = direction }) d.decided }

-- the writes of a branch that was prepared are committed
abbrev pub commit_prepared : Option PreparedBranch → Durable → Durable
commit_prepared None d = d
commit_prepared (Some p) d = commit_writes p.timestamp p.writes d

abbrev pub prepared_as : Triple → PreparedBranch → Bool
prepared_as xid p = xid_eq p.xid xid

-- a prepared branch is committed or rolled back, and no longer prepared
abbrev pub complete : Triple → Direction → Durable → Durable
complete xid Commit d =
    commit_prepared (find (prepared_as xid) d.prepared) (record d { prepared = without (prepared_as xid) d.prepared })
complete xid Rollback d = record d { prepared = without (prepared_as xid) d.prepared }

abbrev pub apply : Record → Durable → Durable
apply (Opened boot) d = record d { boot = boot }
apply (Prepared xid t ws) d = prepare xid t ws d
apply (Committed xid t ws) d = commit_writes t ws d
apply (Completed xid direction) d = complete xid direction d
apply (Decided xid direction) d = decide xid direction (complete xid direction d)
apply (Forgotten xid) d = record d { decided = without (λ e. xid_eq e.xid xid) d.decided }
apply (Base t ws) d = commit_writes t ws d
apply (Held xid t ws) d = prepare xid t ws d
apply (Known xid direction) d = decide xid direction d

-- The order of records

-- What was read so far: what it comes to, whether it is the first boot and its
-- snapshot alone, and the timestamps of its branches.
pub record Reading : Type 0 where
  pub durable : Durable
  pub is_snapshot : Bool
  pub timestamps : List ℕ

abbrev pub nothing : Durable
nothing = record { boot = 0; committed = []; prepared = []; decided = [] }

abbrev pub unread : Reading
unread = record { durable = nothing; is_snapshot = false; timestamps = [] }

abbrev pub is_empty : {A : Type 0} → List A → Bool
is_empty xs = length xs == 0

abbrev pub is_unknown : Triple → Durable → Bool
is_unknown xid d = not (is_prepared xid d.prepared) && not (is_decided xid d.decided)

abbrev pub is_used : ℕ → List ℕ → Bool
is_used t timestamps = list_any (λ u. u == t) timestamps

-- A timestamp that a boot up to the last one gave, and that no record has yet. A branch keeps its timestamp for as long
-- as it is at work, also while later boots begin, so it may come after an Opened of a later boot than its own. Of each
-- timestamp the log has at most one branch: those of all that was read are kept.
abbrev pub is_timely : ℕ → Reading → Bool
is_timely t x = is_past (x.durable.boot + 1) t && not (is_used t x.timestamps)

-- a branch of such a timestamp, of which nothing is known yet
abbrev pub is_new : Triple → ℕ → Reading → Bool
is_new xid t x = is_timely t x && is_unknown xid x.durable

-- A snapshot stands after the first boot: committed branches, prepared ones,
-- XIDs that the operator completed, each ascending.
abbrev pub fits : Record → Reading → Bool
fits (Opened boot) x = nat_lt x.durable.boot boot
fits (Prepared xid t ws) x = is_new xid t x
fits (Committed xid t ws) x = is_new xid t x
fits (Completed xid direction) x = is_prepared xid x.durable.prepared
fits (Decided xid direction) x = is_prepared xid x.durable.prepared
fits (Forgotten xid) x = is_decided xid x.durable.decided
fits (Base t ws) x =
    x.is_snapshot && is_empty x.durable.prepared && is_empty x.durable.decided
    && is_past x.durable.boot t && list_all (λ u. nat_lt u t) x.timestamps
fits (Held xid t ws) x =
    x.is_snapshot && is_empty x.durable.decided
    && is_past x.durable.boot t && not (is_used t x.timestamps)
    && list_all (λ p. nat_lt p.timestamp t) x.durable.prepared && is_unknown xid x.durable
fits (Known xid direction) x =
    x.is_snapshot && not (is_prepared xid x.durable.prepared)
    && list_all (λ d. is_lt (xid_cmp d.xid xid)) x.durable.decided

-- whether a record leaves the reading at the first boot and its snapshot
abbrev pub stays_snapshot : Record → Reading → Bool
stays_snapshot (Opened boot) x = x.durable.boot == 0
stays_snapshot (Base t ws) x = x.is_snapshot
stays_snapshot (Held xid t ws) x = x.is_snapshot
stays_snapshot (Known xid direction) x = x.is_snapshot
stays_snapshot _ x = false

abbrev pub timestamps_with : Record → List ℕ → List ℕ
timestamps_with (Prepared xid t ws) ts = t ∷ ts
timestamps_with (Committed xid t ws) ts = t ∷ ts
timestamps_with (Base t ws) ts = t ∷ ts
timestamps_with (Held xid t ws) ts = t ∷ ts
timestamps_with _ ts = ts

abbrev pub read : Record → Reading → Reading
read r x = record {
  durable = apply r x.durable;
  is_snapshot = stays_snapshot r x;
  timestamps = timestamps_with r x.timestamps;
}

-- what the records come to, read from the one with this index; or the index of the first that is out of order
abbrev pub fold_from : ℕ → Reading → List Record → Result Durable ℕ
fold_from i x [] = Ok x.durable
fold_from i x (r ∷ rs) = if fits r x then fold_from (i + 1) (read r x) rs else Err i

abbrev pub fold : List Record → Result Durable ℕ
fold rs = fold_from 0 unread rs

-- what was read of records in any order
abbrev pub reading : Reading → List Record → Reading
reading x [] = x
reading x (r ∷ rs) = reading (read r x) rs

-- Snapshots

abbrev pub base : CommittedBranch → Record
base b = Base b.timestamp b.writes

abbrev pub held : PreparedBranch → Record
held p = Held p.xid p.timestamp p.writes

abbrev pub known : Decision → Record
known e = Known e.xid e.direction

abbrev pub snapshot : Durable → ℕ → List Record
snapshot d boot = Opened boot ∷ (map base d.committed ++ (map held d.prepared ++ map known d.decided))

-- Sizes

-- the bytes of a record in the log: a length, the body, and a digest
abbrev pub size_of : Record → ℕ
size_of r = length (spelled r) + AROUND_BODY

abbrev pub sizes : List Record → ℕ
sizes [] = 0
sizes (r ∷ rs) = size_of r + sizes rs
