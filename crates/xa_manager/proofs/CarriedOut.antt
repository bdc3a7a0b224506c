-- A group whose append was carried out: what was answered, and what the manager stands for.
use Rattle.std.proofs.Common.{◌≡◌, ◌≢◌, true, List, ◌∷◌, map, refl, subst}
use Rattle.xa_disk.specs.declared.disk.Disk.{Ghosts}
use Rattle.xa_record.specs.Spelling.{spelled}
use Rattle.xa_log.specs.Believed.Group.{as_one}
use Rattle.xa_xid.specs.Triple.{Triple}
use Rattle.xa_model.specs.declared.outcome.Appending.{Appending}
use Rattle.xa_model.specs.declared.outcome.Appending.TheVariants.{Kept, Refused, Lost}
use Rattle.xa_model.specs.State.{State}
use Rattle.xa_model.specs.Invariants.Loggable.{IsRecoverable}
use Rattle.xa_model.specs.Laws.Together.{records_of}
use Rattle.xa_manager.specs.declared.manager.Manager.{Manager}
use Rattle.xa_manager.specs.declared.tables.Tables.{Tables}
use Rattle.xa_manager.specs.declared.together.Asked.{Asked}
use Rattle.xa_manager.specs.declared.together.Together.{Together}
use Rattle.xa_manager.specs.Acts.{AreDistinct, GiveRoomsBack}
use Rattle.xa_manager.specs.Believed.Pending.{FinishesFrom}
use Rattle.xa_manager.specs.GroupAnswers.{AreTogether, TakeAnswers, group_after}
use Rattle.xa_manager.specs.Managed.{view, ManagerStandsFor}
use Rattle.xa_manager.specs.Stands.{StandsWithRooms, TablesStandFor}
use Rattle.xa_manager.specs.Believed.Together.{Member, members_of, part_of, parts_of, prepares_of}
use Rattle.xa_manager.specs.Turns.{HasAppended, up_after, doubt_after}
use Rattle.xa_manager.specs.View.{view_of}
use Rattle.xa_manager.proofs.GroupFacts.{down_together}
use Rattle.xa_manager.proofs.GroupStepping.{crash_together, leads_to, stands_together}
use Rattle.xa_manager.proofs.Taking.{tables_up}

module _ {D : Type 0} (disks : Ghosts D) where
  -- what was carried out, of one state that the manager stood for
  pub record OfState (m m' : Manager D) (calls : List Asked) (t : Together) (a : Appending) (s : State) : Type 0 where
    pub at : AreTogether s (members_of calls t.members.items)
    pub appended : HasAppended disks (map spelled (records_of (parts_of s (members_of calls t.members.items)))) a m.log m'.log
    pub tables : IsRecoverable (group_after a s (parts_of s (members_of calls t.members.items)))
        → TablesStandFor (up_after a) (view m') (group_after a s (parts_of s (members_of calls t.members.items)))

  -- what the calls were answered, of that state
  pub finishes : (m m' : Manager D) (calls : List Asked) (t : Together) (a : Appending) (s : State) (c : Member) (cs : List Member) → members_of calls t.members.items ≡ c ∷ cs
      → ManagerStandsFor disks m s → m.up ≡ true → OfState m m' calls t a s → m'.up ≡ up_after a → m'.doubt ≡ doubt_after a m.log.end → FinishesFrom disks m.log s c cs a m'
  finishes m m' calls t a s c cs is st is_up x up doubt =
      let stood = tables_up disks m s is_up st in
      let may = (subst (λ (l : List Member). AreTogether s l) is x.at).may in
      let appended : HasAppended disks (map spelled (records_of (parts_of s (c ∷ cs)))) a m.log m'.log
      = subst (λ (l : List Member). HasAppended disks (map spelled (records_of (parts_of s l))) a m.log m'.log) is x.appended in
      record {
        leads = (
          group_after a s (parts_of s (c ∷ cs)),
          leads_to a s (part_of s c) (parts_of s cs) stood.recoverable stood.up may,
          stands_together disks m m' s (part_of s c) (parts_of s cs) a st is_up stood.up may appended up doubt
              (subst (λ (l : List Member). IsRecoverable (group_after a s (parts_of s l)) → TablesStandFor (up_after a) (view m') (group_after a s (parts_of s l))) is x.tables),
        );
        called = (appended.other.0, appended.other.1, as_one (map spelled (records_of (parts_of s (c ∷ cs)))), appended.moves, appended.calls);
        crash = λ trusts. (
          group_after Lost s (parts_of s (c ∷ cs)),
          leads_to Lost s (part_of s c) (parts_of s cs) stood.recoverable stood.up may,
          crash_together disks m m'.log s (part_of s c) (parts_of s cs) st stood.up trusts may appended.leaves,
        );
      }

  -- by the answer, the tables stand for what the group came to
  pub tables_by : (t t' : Tables) (calls : List Asked) (g : Together) (s : State) (a : Appending) → AreTogether s (members_of calls g.members.items) → AreDistinct g.prepares.items → g.prepares.items ≡ prepares_of (members_of calls g.members.items)
      → (a ≢ Lost → TakeAnswers t g.members.items a t') → (a ≡ Lost → GiveRoomsBack t g.prepares.items t') → StandsWithRooms g.prepares.items (view_of t) s
      → IsRecoverable (group_after a s (parts_of s (members_of calls g.members.items)))
      → TablesStandFor (up_after a) (view_of t') (group_after a s (parts_of s (members_of calls g.members.items)))
  tables_by t t' calls g s Kept at distinct same took gave st recoverable = took (λ e. cc e) calls s (λ e. cc e) at (subst (λ (l : List Triple). StandsWithRooms l (view_of t) s) same st)
  tables_by t t' calls g s Refused at distinct same took gave st recoverable = took (λ e. cc e) calls s (λ e. cc e) at (subst (λ (l : List Triple). StandsWithRooms l (view_of t) s) same st)
  tables_by t t' calls g s Lost at distinct same took gave st recoverable = down_together (view_of t') s (parts_of s (members_of calls g.members.items)) (gave refl s distinct st) recoverable
