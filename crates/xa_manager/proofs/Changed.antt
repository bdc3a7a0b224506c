-- A manager stands for a state, after a get or a put was answered.
use Rattle.std.proofs.Common.{ℕ, ◌≡◌, ◌≢◌, ◌≤◌, List, Option, map, refl, ◌∙◌}
use Rattle.mv_chain.specs.Accesses.{seen, has_undecided, is_late, IsUnsettled}
use Rattle.mv_rules.specs.declared.answers.Got.{Got}
use Rattle.mv_rules.specs.declared.answers.Got.TheVariants as got_as
use Rattle.mv_rules.specs.declared.answers.Put.{Put}
use Rattle.mv_rules.specs.declared.answers.Put.TheVariants as put_as
use Rattle.mv_rules.specs.declared.records.Records.{Records}
use Rattle.mv_rules.specs.Accesses.{Accesses, answer_of, reads_after, undecided_keys, put_of, after_put}
use Rattle.mv_rules.specs.Records.{StandsFor as RecordsStandFor}
use Rattle.mv_rules.specs.Ties.{history_of, low_of, writes_in, read_as}
use Rattle.mv_rules.proofs.Remade.{low_rises}
use Rattle.xa_xid.specs.Triple.{Triple}
use Rattle.xa_model.specs.State.{State, Operation, Read}
use Rattle.xa_model.specs.Data.{did}
use Rattle.xa_model.specs.Invariants.Loggable.{IsRecoverable}
use Rattle.xa_model.proofs.ChangedWaters.{done_water, done_floor}
use Rattle.xa_assoc.proofs.Follows.{unmoved}
use Rattle.xa_branch.proofs.Elsewhere.{stands_elsewhere, done_stands as branch_done}
use Rattle.xa_manager.specs.View.{View}
use Rattle.xa_manager.specs.Stands.{StandsFor}
use Rattle.xa_manager.proofs.Lows.{stays_with}

-- the settings and the tables stay
pub record IsSameBeside (m m' : View) : Type 0 where
  pub name : m'.name ≡ m.name
  pub log_bytes : m'.log_bytes ≡ m.log_bytes
  pub sessions : m'.sessions ≡ m.sessions
  pub branches : m'.branches ≡ m.branches

-- a get was answered so
pub record Gets (m : View) (t : ℕ) (key : List ℕ) (got : Got) (m' : View) : Type 0 where
  pub same : IsSameBeside m m'
  pub answer : (h : Accesses) → RecordsStandFor h m.records → h.low ≤ t → got ≢ got_as.Memory → got ≡ answer_of t (seen key t h.writes)
  pub records : (h : Accesses) → RecordsStandFor h m.records → h.low ≤ t → RecordsStandFor (record h { reads = reads_after got t key (seen key t h.writes).from h.reads }) m'.records

-- a put, or a delete, was answered so
pub record Puts (m : View) (t : ℕ) (key : List ℕ) (value : Option (List ℕ)) (put : Put) (m' : View) : Type 0 where
  pub same : IsSameBeside m m'
  pub answer : (h : Accesses) → RecordsStandFor h m.records → IsUnsettled t h.low h.writes → put ≢ put_as.Memory → put ≡ put_of (has_undecided key t h.writes) (undecided_keys t h.writes) (is_late key t h.reads)
  pub records : (h : Accesses) → RecordsStandFor h m.records → IsUnsettled t h.low h.writes → RecordsStandFor (after_put put t key value h) m'.records

-- nothing but the records changed
pub same_beside : (m : View) (r : Records) → IsSameBeside m (record m { records = r })
same_beside m r = record { name = refl; log_bytes = refl; sessions = refl; branches = refl }

-- the same but for records that stand for the same history
pub stays_by : (m m' : View) (s : State) → StandsFor m s → IsSameBeside m m' → RecordsStandFor (history_of s) m'.records → StandsFor m' s
stays_by m m' s st same records = record {
  name = same.name ∙ st.name;
  log_bytes = same.log_bytes ∙ st.log_bytes;
  up = st.up;
  sessions = rw same.sessions st.sessions;
  branches = rw same.branches st.branches;
  records = records;
  recoverable = st.recoverable;
}

-- a branch did something
pub done_stands : (m m' : View) (s : State) (xid : Triple) (op : Operation) (reads : List Read) → StandsFor m s → IsSameBeside m m'
    → RecordsStandFor (record { low = low_of s; writes = writes_in (did xid op s.branches); reads = map read_as reads }) m'.records
    → IsRecoverable (record s { branches = did xid op s.branches; reads = reads }) → StandsFor m' (record s { branches = did xid op s.branches; reads = reads })
done_stands m m' s xid op reads st same records recoverable = record {
  name = same.name ∙ st.name;
  log_bytes = same.log_bytes ∙ st.log_bytes;
  up = st.up;
  sessions = rw same.sessions (unmoved m.sessions s (record s { branches = did xid op s.branches; reads = reads }) refl refl st.sessions);
  branches =
      rw same.branches (stands_elsewhere m.branches (record s { branches = did xid op s.branches }) (record s { branches = did xid op s.branches; reads = reads }) refl refl refl refl refl refl
      (branch_done m.branches s xid op st.branches));
  records =
      low_rises (record { low = low_of s; writes = writes_in (did xid op s.branches); reads = map read_as reads }) m'.records (low_of (record s { branches = did xid op s.branches; reads = reads })) records
      (stays_with s (record s { branches = did xid op s.branches; reads = reads }) (done_floor s xid op) (done_water s xid op));
  recoverable = recoverable;
}
