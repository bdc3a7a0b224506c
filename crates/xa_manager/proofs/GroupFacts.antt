-- What is known of a group, of whichever state the manager stands for.
use Rattle.std.proofs.Common.{◌≡◌, ℕ, ℤ, Bool, true, false, cond, List, [], ◌∷◌, map, length, Option, Some, None, refl, ap, sym, ◌∙◌, arith}
use Rattle.std.specs.List.{AllByRecursion}
use Rattle.xa_codes.specs.Flags.{has}
use Rattle.xa_codes.specs.declared.codes.TheConstants.{XA_RETRY, XAER_RMERR}
use Rattle.xa_codes.specs.declared.flags.TheConstants.{TMONEPHASE}
use Rattle.xa_disk.specs.declared.disk.Disk.{Ghosts}
use Rattle.xa_frame.specs.declared.request.Request.{Request}
use Rattle.xa_frame.specs.declared.request.Request.TheVariants as request
use Rattle.xa_xid.specs.Triple.{Triple, xid_eq}
use Rattle.xa_record.specs.Spelling.{spelled}
use Rattle.xa_log.specs.Believed.Chain.{IsBody}
use Rattle.xa_branch.specs.Room.{IsApart}
use Rattle.xa_assoc.proofs.Follows.{unmoved}
use Rattle.xa_model.specs.declared.outcome.Appending.{Appending}
use Rattle.xa_model.specs.declared.outcome.Appending.TheVariants.{Kept, Refused, Lost}
use Rattle.xa_model.specs.State.{State}
use Rattle.xa_model.specs.Invariants.Loggable.{IsRecoverable}
use Rattle.xa_model.specs.Laws.Together.{Part, AppendsOf, AreApart, records_of, replied}
use Rattle.xa_model.specs.Laws.Together as laws
use Rattle.xa_manager.specs.declared.manager.Manager.{Manager}
use Rattle.xa_manager.specs.declared.row.Row.{Row}
use Rattle.xa_manager.specs.declared.row.Row.TheVariants.{Writes, CommitTwoPhase}
use Rattle.xa_manager.specs.declared.row.Writing.TheVariants.{CommitOnePhase}
use Rattle.xa_manager.specs.declared.together.Asked.{Asked}
use Rattle.xa_manager.specs.declared.together.Joining.{Joining}
use Rattle.xa_manager.specs.declared.together.Together.{Together}
use Rattle.xa_manager.specs.Acts.{AreDistinct}
use Rattle.xa_manager.specs.Managed.{ManagerStandsFor}
use Rattle.xa_manager.specs.Rows.{asked_row}
use Rattle.xa_manager.specs.Rows as rows
use Rattle.xa_manager.specs.Stands.{StandsFor, StandsDown}
use Rattle.xa_manager.specs.GroupAnswers.{AreTogether, group_after}
use Rattle.xa_manager.specs.Believed.Together.{AppendAlone, IsGroup, Member, is_prepare, members_of, parts_of, prepares_of}
use Rattle.xa_log.specs.Reading.{bodies_of}
use Rattle.xa_manager.specs.Turns.{reply_to}
use Rattle.xa_manager.specs.View.{View}

-- distinct XIDs

each_apart : (s : State) (calls : List Asked) (xid : Triple) (js : List Joining) → IsApart xid (map (λ (j : Joining). j.xid) js)
    → AllByRecursion (λ (q : Part). xid_eq xid q.xid ≡ false) (parts_of s (members_of calls js))
each_apart s calls xid [] apart = tt
each_apart s calls xid (j ∷ js) apart = (apart.0, each_apart s calls xid js apart.1)

are_apart : (s : State) (calls : List Asked) (js : List Joining) → AreDistinct (map (λ (j : Joining). j.xid) js) → AreApart (parts_of s (members_of calls js))
are_apart s calls [] distinct = tt
are_apart s calls (j ∷ js) distinct = (each_apart s calls j.xid js distinct.0, are_apart s calls js distinct.1)

prepares_apart : (xid : Triple) (calls : List Asked) (js : List Joining) → IsApart xid (map (λ (j : Joining). j.xid) js) → IsApart xid (prepares_of (members_of calls js))
prepares_apart xid calls [] apart = tt
prepares_apart xid calls (j ∷ js) apart = by (is_prepare j.row) (prepares_apart xid calls js apart.1)
  where
    by : (b : Bool) → IsApart xid (prepares_of (members_of calls js)) → IsApart xid (cond b (j.xid ∷ prepares_of (members_of calls js)) (prepares_of (members_of calls js)))
    by true rest = (apart.0, rest)
    by false rest = rest

pub prepares_distinct : (calls : List Asked) (js : List Joining) → AreDistinct (map (λ (j : Joining). j.xid) js) → AreDistinct (prepares_of (members_of calls js))
prepares_distinct calls [] distinct = tt
prepares_distinct calls (j ∷ js) distinct = by (is_prepare j.row) (prepares_distinct calls js distinct.1)
  where
    by : (b : Bool) → AreDistinct (prepares_of (members_of calls js)) → AreDistinct (cond b (j.xid ∷ prepares_of (members_of calls js)) (prepares_of (members_of calls js)))
    by true rest = (prepares_apart j.xid calls js distinct.0, rest)
    by false rest = rest

-- the reply to a call whose row's record became this

code_by : (b : Bool) → rows.refused_code (cond b (Writes CommitOnePhase) CommitTwoPhase) ≡ cond b XAER_RMERR XA_RETRY
code_by true = refl
code_by false = refl

abbrev code_in : Option (Row × Triple) → ℤ
code_in (Some pair) = rows.refused_code pair.0
code_in None = XAER_RMERR

code_same : (request : Request) (row : Row) (xid : Triple) → asked_row request ≡ Some (row, xid) → rows.refused_code row ≡ laws.refused_code request
code_same (request.Prepare flags x) row xid e = ap code_in (sym e)
code_same (request.Commit flags x) row xid e = ap code_in (sym e) ∙ code_by (has flags TMONEPHASE)
code_same (request.Rollback flags x) row xid e = ap code_in (sym e)
code_same (request.Forget flags x) row xid e = ap code_in (sym e)
code_same (request.Decide direction x) row xid e = ap code_in (sym e)
code_same r row xid e = absurd (cc e)

pub reply_same : (a : Appending) (request : Request) (row : Row) (xid : Triple) → asked_row request ≡ Some (row, xid) → reply_to (rows.refused_code row) a ≡ replied a request
reply_same Kept request row xid e = refl
reply_same Refused request row xid e = ap (λ (code : ℤ). reply_to code Refused) (code_same request row xid e)
reply_same Lost request row xid e = refl

-- where the records are lost the manager is down
pub down_together : (m : View) (s : State) (ps : List Part) → StandsFor m s → IsRecoverable (group_after Lost s ps) → StandsDown m (group_after Lost s ps)
down_together m s ps st recoverable = record {
  name = st.name;
  log_bytes = st.log_bytes;
  down = refl;
  sessions = unmoved m.sessions s (group_after Lost s ps) refl refl st.sessions;
  moment = st.branches.moment;
  recoverable = recoverable;
}

module _ {D : Type 0} (disks : Ghosts D) where
  each_appends : (m : Manager D) (s : State) (cs : List Member) (bodies : List (List ℕ)) → ManagerStandsFor disks m s → AppendAlone disks m cs bodies
      → AllByRecursion (AppendsOf s) (parts_of s cs)
  each_appends m s [] [] st each = tt
  each_appends m s [] (b ∷ bs) st each = absurd each
  each_appends m s (c ∷ cs) [] st each = absurd each
  each_appends m s (c ∷ cs) (b ∷ bs) st each = ((each.0.appends s st).0, each_appends m s cs bs st each.1)

  pub each_row : (m : Manager D) (cs : List Member) (bodies : List (List ℕ)) → AppendAlone disks m cs bodies
      → AllByRecursion (λ (c : Member). asked_row c.request ≡ Some (c.row, c.xid)) cs
  each_row m [] [] each = tt
  each_row m [] (b ∷ bs) each = absurd each
  each_row m (c ∷ cs) [] each = absurd each
  each_row m (c ∷ cs) (b ∷ bs) each = (each.0.asked, each_row m cs bs each.1)

  pub each_size : (m : Manager D) (cs : List Member) (bodies : List (List ℕ)) → AppendAlone disks m cs bodies → AllByRecursion (IsBody m.log.format) bodies
  each_size m [] [] each = tt
  each_size m [] (b ∷ bs) each = absurd each
  each_size m (c ∷ cs) [] each = absurd each
  each_size m (c ∷ cs) (b ∷ bs) each = (each.0.size, each_size m cs bs each.1)

  pub as_many : (m : Manager D) (cs : List Member) (bodies : List (List ℕ)) → AppendAlone disks m cs bodies → length bodies ≡ length cs
  as_many m [] [] each = refl
  as_many m [] (b ∷ bs) each = absurd each
  as_many m (c ∷ cs) [] each = absurd each
  as_many m (c ∷ cs) (b ∷ bs) each = let rest = as_many m cs bs each.1 in omega (arith, rest)

  pub bodies_are : (m : Manager D) (s : State) (cs : List Member) (bodies : List (List ℕ)) → ManagerStandsFor disks m s → AppendAlone disks m cs bodies
      → map spelled (records_of (parts_of s cs)) ≡ bodies
  bodies_are m s [] [] st each = refl
  bodies_are m s [] (b ∷ bs) st each = absurd each
  bodies_are m s (c ∷ cs) [] st each = absurd each
  bodies_are m s (c ∷ cs) (b ∷ bs) st each =
      ap (λ (x : List ℕ). x ∷ map spelled (records_of (parts_of s cs))) (each.0.appends s st).1.body_is ∙ ap (λ (l : List (List ℕ)). b ∷ l) (bodies_are m s cs bs st each.1)

  pub group_stands : (m : Manager D) (calls : List Asked) (t : Together) (s : State) → ManagerStandsFor disks m s → IsGroup disks m calls t → AreTogether s (members_of calls t.members.items)
  group_stands m calls t s st g = record {
    may = record {
      appends = each_appends m s (members_of calls t.members.items) (bodies_of t.bodies.items) st g.appends;
      apart = are_apart s calls t.members.items g.distinct;
      room = g.room s st;
    };
    rows = each_row m (members_of calls t.members.items) (bodies_of t.bodies.items) g.appends;
    first = g.first;
  }
