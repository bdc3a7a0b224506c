-- What becomes of the tables as each call of a group takes the device's answer.
use Rattle.std.proofs.Common.{◌≡◌, ◌≢◌, ◌+◌, Bool, true, false, cond, List, [], ◌∷◌, ◌++◌, Option, Some, None, refl, ap, sym, ◌∙◌, subst}
use Rattle.std.specs.List.{AllByRecursion}
use Rattle.xa_codes.specs.Flags.{has}
use Rattle.xa_codes.specs.declared.flags.TheConstants.{TMONEPHASE}
use Rattle.xa_frame.specs.declared.request.Request.{Request}
use Rattle.xa_frame.specs.declared.request.Request.TheVariants as request
use Rattle.xa_xid.specs.Triple.{Triple, xid_eq}
use Rattle.xa_record.specs.declared.record.Record.{Record}
use Rattle.xa_branch.specs.Room.{IsApart}
use Rattle.xa_branch.proofs.Rooms.{no_rooms_yet}
use Rattle.xa_model.specs.declared.outcome.Appending.{Appending}
use Rattle.xa_model.specs.declared.outcome.Appending.TheVariants.{Kept, Refused, Lost}
use Rattle.xa_model.specs.State.{State, Branch, Up, known_of}
use Rattle.xa_model.specs.Associations.{timestamp_by}
use Rattle.xa_model.specs.Fold.{size_of}
use Rattle.xa_model.specs.Logging.{applied, writes_by}
use Rattle.xa_model.specs.Phases.{rolled_back}
use Rattle.xa_model.specs.Turn.{Asked}
use Rattle.xa_model.specs.Invariants.Loggable.{IsRecoverable}
use Rattle.xa_model.specs.Invariants.MayLog.{MayLog}
use Rattle.xa_model.specs.Laws.Together.{Part, AppendsOf, AreApart, HaveRoom, left_by}
use Rattle.xa_model.proofs.GroupSteps as keeping
use Rattle.xa_model.proofs.Recoveries.{logged_record}
use Rattle.xa_model.proofs.RefusedSteps as refusing
use Rattle.xa_manager.specs.declared.row.Row.{Row}
use Rattle.xa_manager.specs.declared.row.Row.TheVariants.{Writes, CommitTwoPhase, Rollback, Decide, Forget}
use Rattle.xa_manager.specs.declared.row.Writing.TheVariants.{Prepare, CommitOnePhase}
use Rattle.xa_manager.specs.declared.tables.Tables.{Tables}
use Rattle.xa_manager.specs.Acts.{GivesFirstRoomBack, TakesFirstPrepared}
use Rattle.xa_manager.specs.Plans.{StandsReady, TakesAnswer}
use Rattle.xa_manager.specs.Rows.{asked_row, record_of, written_record}
use Rattle.xa_manager.specs.Rows as rows
use Rattle.xa_manager.specs.Stands.{StandsFor, StandsWithRooms}
use Rattle.xa_manager.specs.GroupAnswers.{AreTogether, TakesFirst, group_after}
use Rattle.xa_manager.specs.Believed.Together.{Member, PreparesFirst, is_prepare, part_of, parts_of, prepares_of}
use Rattle.xa_manager.specs.View.{View, view_of}
use Rattle.xa_manager.proofs.Finishing.{without_rooms}

-- a prepare takes the answer first of those that have their rooms
pub first_by : (t t' : Tables) (xid : Triple) (a : Appending) → (a ≡ Kept → TakesFirstPrepared t xid t') → (a ≢ Kept → GivesFirstRoomBack t xid t') → TakesFirst t (Writes Prepare) xid a t'
first_by t t' xid Kept kept left = kept refl
first_by t t' xid Refused kept left = left (λ e. cc e)
first_by t t' xid Lost kept left = left (λ e. cc e)

pub with_no_rooms : (m : View) (s : State) → StandsFor m s → StandsWithRooms [] m s
with_no_rooms m s st = record {
  name = st.name;
  log_bytes = st.log_bytes;
  up = st.up;
  sessions = st.sessions;
  branches = no_rooms_yet m.branches s st.branches;
  records = st.records;
  recoverable = st.recoverable;
}

-- the record of a row is the same where its branch is
pub record_same : (row : Row) (xid : Triple) (s w : State) → known_of w.branches xid ≡ known_of s.branches xid → record_of row xid w ≡ record_of row xid s
record_same (Writes writing) xid s w same = ap (λ (o : Option Branch). written_record writing xid (timestamp_by o) (writes_by o)) same
record_same CommitTwoPhase xid s w same = refl
record_same Rollback xid s w same = refl
record_same (Decide direction) xid s w same = refl
record_same Forget xid s w same = refl

-- what a refused row leaves is what its request leaves

abbrev left_in : State → Option (Row × Triple) → State
left_in s (Some pair) = rows.left_by pair.0 pair.1 s
left_in s None = s

commit_left : (b : Bool) (xid : Triple) (s : State) → rows.left_by (cond b (Writes CommitOnePhase) CommitTwoPhase) xid s ≡ cond b (rolled_back s xid) s
commit_left true xid s = refl
commit_left false xid s = refl

left_same : (request : Request) (row : Row) (xid : Triple) (s : State) → asked_row request ≡ Some (row, xid) → rows.left_by row xid s ≡ left_by request s
left_same (request.Prepare flags x) row xid s e = ap (left_in s) (sym e)
left_same (request.Commit flags x) row xid s e = ap (left_in s) (sym e) ∙ commit_left (has flags TMONEPHASE) x s
left_same (request.Rollback flags x) row xid s e = ap (left_in s) (sym e)
left_same (request.Forget flags x) row xid s e = ap (left_in s) (sym e)
left_same (request.Decide direction x) row xid s e = ap (left_in s) (sym e)
left_same r row xid s e = absurd (cc e)

-- those that prepare are apart from one that is apart from all
prepares_apart : (xid : Triple) (s : State) (cs : List Member) → AllByRecursion (λ (q : Part). xid_eq xid q.xid ≡ false) (parts_of s cs) → IsApart xid (prepares_of cs)
prepares_apart xid s [] apart = tt
prepares_apart xid s (c ∷ cs) apart = by (is_prepare c.row) (prepares_apart xid s cs apart.1)
  where
    by : (b : Bool) → IsApart xid (prepares_of cs) → IsApart xid (cond b (c.xid ∷ prepares_of cs) (prepares_of cs))
    by true rest = (apart.0, rest)
    by false rest = rest

ready_row : (row : Row) (xid : Triple) (m : View) (s : State) → is_prepare row ≡ false → StandsFor m s → StandsReady row xid m s
ready_row (Writes Prepare) xid m s e st = absurd (cc e)
ready_row (Writes CommitOnePhase) xid m s e st = st
ready_row CommitTwoPhase xid m s e st = st
ready_row Rollback xid m s e st = st
ready_row (Decide direction) xid m s e st = st
ready_row Forget xid m s e st = st

-- what the walk through the group's states has come to
abbrev pub WalkBy : Appending → State → State → List Record → List Part → Type 0
WalkBy Kept s w rs ps = keeping.Walk s w rs ps
WalkBy Refused s w rs ps = refusing.Walk s w ps
WalkBy Lost s w rs ps = ⊥

-- Some calls of a group have taken the answer: the tables stand for where they lead, with the rooms of those that are
-- still to take it.
pub record Took (a : Appending) (s : State) (all left : List Member) (m : View) : Type 0 where
  pub at : State
  pub records : List Record
  pub walk : WalkBy a s at records (parts_of s left)
  pub tables : StandsWithRooms (prepares_of left) m at
  pub comes : group_after a at (parts_of s left) ≡ group_after a s (parts_of s all)
  pub appends : AllByRecursion (AppendsOf s) (parts_of s left)
  pub apart : AreApart (parts_of s left)
  pub room : HaveRoom s records (parts_of s left)
  pub rows : AllByRecursion (λ (c : Member). asked_row c.request ≡ Some (c.row, c.xid)) left
  pub first : PreparesFirst left

pub none_took : (a : Appending) (s : State) (cs : List Member) (m : View) → a ≢ Lost → AreTogether s cs → StandsWithRooms (prepares_of cs) m s → Took a s cs cs m
none_took a s cs m found together st = record {
  at = s;
  records = [];
  walk = by a found;
  tables = st;
  comes = refl;
  appends = together.may.appends;
  apart = together.may.apart;
  room = together.may.room;
  rows = together.rows;
  first = together.first;
}
  where
    by : (x : Appending) → x ≢ Lost → WalkBy x s s [] (parts_of s cs)
    by Kept f = keeping.begins s (parts_of s cs) st.recoverable st.up
    by Refused f = refusing.begins s (parts_of s cs) st.recoverable
    by Lost f = absurd (f refl)

pub all_took : (a : Appending) (s : State) (cs : List Member) (m : View) → a ≢ Lost → Took a s cs [] m → StandsFor m (group_after a s (parts_of s cs))
all_took Kept s cs m found took = subst (StandsFor m) took.comes (without_rooms m took.at took.tables)
all_took Refused s cs m found took = subst (StandsFor m) took.comes (without_rooms m took.at took.tables)
all_took Lost s cs m found took = absurd (found refl)

-- the tables after one call, by what its row is

prepare_is : (row : Row) → is_prepare row ≡ true → row ≡ Writes Prepare
prepare_is (Writes Prepare) e = refl
prepare_is (Writes CommitOnePhase) e = absurd (cc e)
prepare_is CommitTwoPhase e = absurd (cc e)
prepare_is Rollback e = absurd (cc e)
prepare_is (Decide direction) e = absurd (cc e)
prepare_is Forget e = absurd (cc e)

kept_next : (t t' : Tables) (s w : State) (c : Member) (cs : List Member) → is_prepare c.row ≡ true → TakesFirst t c.row c.xid Kept t' → IsApart c.xid (prepares_of cs)
    → StandsWithRooms (c.xid ∷ prepares_of cs) (view_of t) w → IsRecoverable (applied (record_of c.row c.xid s) w)
    → StandsWithRooms (prepares_of cs) (view_of t') (applied (record_of c.row c.xid s) w)
kept_next t t' s w c cs e takes apart st =
    subst (λ (row : Row). TakesFirst t row c.xid Kept t' → IsRecoverable (applied (record_of row c.xid s) w) → StandsWithRooms (prepares_of cs) (view_of t') (applied (record_of row c.xid s) w)) (sym (prepare_is c.row e))
    (λ first. first (prepares_of cs) w (w.end + size_of (record_of (Writes Prepare) c.xid s)) apart st) takes

refused_next : (t t' : Tables) (w : State) (c : Member) (cs : List Member) → is_prepare c.row ≡ true → TakesFirst t c.row c.xid Refused t' → IsApart c.xid (prepares_of cs)
    → StandsWithRooms (c.xid ∷ prepares_of cs) (view_of t) w → StandsWithRooms (prepares_of cs) (view_of t') (rows.left_by c.row c.xid w)
refused_next t t' w c cs e takes apart st =
    subst (λ (row : Row). TakesFirst t row c.xid Refused t' → StandsWithRooms (prepares_of cs) (view_of t') (rows.left_by row c.xid w)) (sym (prepare_is c.row e))
    (λ first. first (prepares_of cs) w apart st) takes

-- a call that doesn't prepare finds no rooms
no_rooms_at : (c : Member) (cs : List Member) (m : View) (w : State) → is_prepare c.row ≡ false → PreparesFirst (c ∷ cs) → StandsWithRooms (prepares_of (c ∷ cs)) m w → StandsFor m w
no_rooms_at c cs m w e first st =
    without_rooms m w (subst (λ (l : List Triple). StandsWithRooms l m w) (first.0 e)
    (subst (λ (b : Bool). StandsWithRooms (cond b (c.xid ∷ prepares_of cs) (prepares_of cs)) m w) e st))

rooms_at : (c : Member) (cs : List Member) (m : View) (w : State) → is_prepare c.row ≡ true → StandsWithRooms (prepares_of (c ∷ cs)) m w → StandsWithRooms (c.xid ∷ prepares_of cs) m w
rooms_at c cs m w e st = subst (λ (b : Bool). StandsWithRooms (cond b (c.xid ∷ prepares_of cs) (prepares_of cs)) m w) e st

no_rooms_after : (c : Member) (cs : List Member) (m : View) (w : State) → is_prepare c.row ≡ false → PreparesFirst (c ∷ cs) → StandsFor m w → StandsWithRooms (prepares_of cs) m w
no_rooms_after c cs m w e first st = subst (λ (l : List Triple). StandsWithRooms l m w) (sym (first.0 e)) (with_no_rooms m w st)

-- the next call takes it

goes_on : (a : Appending) (s w : State) (all : List Member) (c : Member) (cs : List Member) (m m' : View) (took : Took a s all (c ∷ cs) m) → WalkBy a s w (took.records ++ (part_of s c).appended ∷ []) (parts_of s cs)
    → StandsWithRooms (prepares_of cs) m' w → group_after a w (parts_of s cs) ≡ group_after a s (parts_of s all) → Took a s all cs m'
goes_on a s w all c cs m m' took walk tables comes = record {
  at = w;
  records = took.records ++ (part_of s c).appended ∷ [];
  walk = walk;
  tables = tables;
  comes = comes;
  appends = took.appends.1;
  apart = took.apart.1;
  room = took.room.1;
  rows = took.rows.1;
  first = took.first.1;
}

took_kept : (t t' : Tables) (s : State) (all : List Member) (c : Member) (cs : List Member) → s.standing ≡ Up → TakesAnswer t c.row c.xid Kept t' → TakesFirst t c.row c.xid Kept t'
    → Took Kept s all (c ∷ cs) (view_of t) → Took Kept s all cs (view_of t')
took_kept t t' s all c cs up takes first took =
    let p = part_of s c in
    let w = took.at in
    let now = keeping.next_turn s w took.records p (parts_of s cs) up took.walk took.appends.0 took.room.0 in
    let next = keeping.next_walk s w took.records p (parts_of s cs) took.walk took.appends.0 now took.apart.0 in
    let same : record_of c.row c.xid w ≡ p.appended = record_same c.row c.xid s w took.walk.same.0.known in
    goes_on Kept s (applied p.appended w) all c cs (view_of t) (view_of t') took next (by (is_prepare c.row) refl next.recovers same now.last.may) took.comes
  where
    by : (b : Bool) → is_prepare c.row ≡ b → IsRecoverable (applied (record_of c.row c.xid s) took.at) → record_of c.row c.xid took.at ≡ record_of c.row c.xid s → MayLog took.at (record_of c.row c.xid s)
        → StandsWithRooms (prepares_of cs) (view_of t') (applied (record_of c.row c.xid s) took.at)
    by true e recovers same may = kept_next t t' s took.at c cs e first (prepares_apart c.xid s cs took.apart.0) (rooms_at c cs (view_of t) took.at e took.tables) recovers
    by false e recovers same may =
        no_rooms_after c cs (view_of t') (applied (record_of c.row c.xid s) took.at) e took.first
        (subst (λ (r : Record). StandsFor (view_of t') (applied r took.at)) same
        (takes took.at (ready_row c.row c.xid (view_of t) took.at e (no_rooms_at c cs (view_of t) took.at e took.first took.tables))
        (subst (λ (r : Record). MayLog took.at r) (sym same) may) (subst (λ (r : Record). IsRecoverable (applied r took.at)) (sym same) recovers)))

took_refused : (t t' : Tables) (s : State) (all : List Member) (c : Member) (cs : List Member) → s.standing ≡ Up → TakesAnswer t c.row c.xid Refused t' → TakesFirst t c.row c.xid Refused t'
    → Took Refused s all (c ∷ cs) (view_of t) → Took Refused s all cs (view_of t')
took_refused t t' s all c cs up takes first took =
    let p = part_of s c in
    let w = took.at in
    let now = refusing.next_turn s w took.records p (parts_of s cs) up took.walk took.appends.0 took.room.0 in
    let next = refusing.next_walk s w p (parts_of s cs) took.walk took.appends.0 now took.apart.0 in
    let same : record_of c.row c.xid w ≡ p.appended = record_same c.row c.xid s w took.walk.same.0.known in
    let left : rows.left_by c.row c.xid w ≡ left_by c.request w = left_same c.request c.row c.xid w took.rows.0 in
    let last = logged_record w (Asked (keeping.asked_by p)) p.appended now.after took.appends.0.event took.walk.recovers now.appends in
    let tables = subst (λ (u : State). StandsWithRooms (prepares_of cs) (view_of t') u) left (by (is_prepare c.row) refl (subst IsRecoverable (sym left) next.recovers) same last.may) in
    goes_on Refused s (left_by c.request w) all c cs (view_of t) (view_of t') took next tables took.comes
  where
    by : (b : Bool) → is_prepare c.row ≡ b → IsRecoverable (rows.left_by c.row c.xid took.at) → record_of c.row c.xid took.at ≡ record_of c.row c.xid s → MayLog took.at (record_of c.row c.xid s)
        → StandsWithRooms (prepares_of cs) (view_of t') (rows.left_by c.row c.xid took.at)
    by true e recovers same may = refused_next t t' took.at c cs e first (prepares_apart c.xid s cs took.apart.0) (rooms_at c cs (view_of t) took.at e took.tables)
    by false e recovers same may =
        no_rooms_after c cs (view_of t') (rows.left_by c.row c.xid took.at) e took.first
        (takes took.at (ready_row c.row c.xid (view_of t) took.at e (no_rooms_at c cs (view_of t) took.at e took.first took.tables))
        (subst (λ (r : Record). MayLog took.at r) (sym same) may) recovers)

pub took_next : (a : Appending) (t t' : Tables) (s : State) (all : List Member) (c : Member) (cs : List Member) → s.standing ≡ Up → TakesAnswer t c.row c.xid a t' → TakesFirst t c.row c.xid a t'
    → Took a s all (c ∷ cs) (view_of t) → Took a s all cs (view_of t')
took_next Kept t t' s all c cs up takes first took = took_kept t t' s all c cs up takes first took
took_next Refused t t' s all c cs up takes first took = took_refused t t' s all c cs up takes first took
took_next Lost t t' s all c cs up takes first took = absurd took.walk
