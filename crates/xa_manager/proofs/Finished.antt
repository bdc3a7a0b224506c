-- A pending group: what stays of it, and what its calls are answered when it is finished.
use Rattle.std.proofs.Common.{◌≡◌, ◌≢◌, ℕ, List, [], ◌∷◌, map, length, refl, ap, sym, ◌∙◌, subst, arith}
use Rattle.xa_disk.specs.declared.disk.Disk.{Ghosts}
use Rattle.xa_frame.specs.declared.reply.Reply.{Reply}
use Rattle.xa_log.specs.Calls.{SettlesBy}
use Rattle.xa_log.specs.Reading.{bodies_of}
use Rattle.xa_log.specs.Written.{HasWritten}
use Rattle.xa_log.specs.Believed.LogView.{LogView}
use Rattle.xa_model.specs.declared.outcome.Appending.{Appending}
use Rattle.xa_model.specs.declared.outcome.Appending.TheVariants.{Lost}
use Rattle.xa_model.specs.declared.outcome.Outcome.TheVariants.{Appended}
use Rattle.xa_model.specs.State.{State}
use Rattle.xa_manager.specs.declared.pending.PendingGroup.{PendingGroup}
use Rattle.xa_manager.specs.declared.manager.Manager.{Manager}
use Rattle.xa_manager.specs.declared.tables.Tables.{Tables}
use Rattle.xa_manager.specs.declared.together.Joining.{Joining}
use Rattle.xa_branch.specs.Room.{AreRooms, rooms_of}
use Rattle.xa_manager.specs.Acts.{AreDistinct, GiveRoomsBack}
use Rattle.xa_manager.specs.Believed.Answered.{HasCalled, StaysFor, as_appended}
use Rattle.xa_manager.specs.Believed.Crash.{LeavesAppend}
use Rattle.xa_manager.specs.Believed.Parts.{with_log}
use Rattle.xa_manager.specs.Believed.Pending.{IsPendingFrom, HasFinished, IsGroupOf, FinishesFrom, pending_members}
use Rattle.xa_manager.specs.GroupAnswers.{AreReplies, TakeAnswers, told}
use Rattle.xa_manager.specs.Managed.{view}
use Rattle.xa_manager.specs.Stands.{Stays, StandsWithRooms}
use Rattle.xa_manager.specs.Believed.Together.{Member, member_of, members_of}
use Rattle.xa_manager.specs.Turns.{HasAppended, HasSettled, doubt_after}
use Rattle.xa_manager.specs.View.{view_of}
use Rattle.xa_manager.proofs.CarriedOut.{finishes, tables_by}
use Rattle.xa_manager.proofs.Finishing.{with_rooms}
use Rattle.xa_manager.proofs.GroupFacts.{prepares_distinct}
use Rattle.xa_manager.proofs.GroupReplies.{replies_are}
use Rattle.xa_manager.proofs.Taking.{stays_up, tables_up}

module _ {D : Type 0} (disks : Ghosts D) where
  pub distinct_prepares : (m : Manager D) (f : PendingGroup) → IsGroupOf m f → AreDistinct f.together.prepares.items
  distinct_prepares m f is = subst AreDistinct (sym is.prepares) (prepares_distinct f.calls.items f.together.members.items is.distinct)

  -- it pends on where the tables stand for what they stood for
  pub still_pending : (m m' : Manager D) (f : PendingGroup) (log : LogView D) (s : State) → m'.up ≡ m.up → m'.log ≡ m.log → m'.doubt ≡ m.doubt → Stays (view m) (view m') → rooms_of (view m').branches ≡ rooms_of (view m).branches
      → IsPendingFrom disks log m f s → IsPendingFrom disks log m' f s
  still_pending m m' f log s up same doubt stays rooms fl = record {
    stands = stays_up disks (with_log log m) (with_log log m') fl.up up refl doubt stays s fl.stands;
    up = up ∙ fl.up;
    written = subst (λ (l : LogView D). HasWritten disks (bodies_of f.together.bodies.items) f.written log l) (sym same) fl.written;
    at = fl.at;
    bodies = fl.bodies;
    rooms = subst (AreRooms f.together.prepares.items) (sym rooms) fl.rooms;
  }

  -- ---- it finishes

  module _ (m mid' m' : Manager D) (f : PendingGroup) (a : Appending) (is : IsGroupOf m f) (j : HasSettled disks f.written a m mid') (log' : m'.log ≡ mid'.log) (up' : m'.up ≡ mid'.up) (doubt' : m'.doubt ≡ mid'.doubt)
      (took : a ≢ Lost → TakeAnswers mid'.tables f.together.members.items a m'.tables) (gave : a ≡ Lost → GiveRoomsBack mid'.tables f.together.prepares.items m'.tables) where
    pub finished : (log : LogView D) (s : State) → IsPendingFrom disks log m f s → (c : Member) (cs : List Member) → pending_members f ≡ c ∷ cs → FinishesFrom disks log s c cs a m'
    finished log s fl c cs are =
        let there : HasAppended disks (bodies_of f.together.bodies.items) a log mid'.log = j.appended log (bodies_of f.together.bodies.items) fl.written in
        let stood = tables_up disks (with_log log m) s fl.up fl.stands in
        let distinct = distinct_prepares m f is in
        let rooms : StandsWithRooms f.together.prepares.items (view_of mid'.tables) s = subst (λ (k : Tables). StandsWithRooms f.together.prepares.items (view_of k) s) (sym j.tables) (with_rooms f.together.prepares.items (view m) s fl.rooms stood) in
        finishes disks (with_log log m) m' f.calls.items f.together a s c cs are fl.stands fl.up
        (record {
          at = fl.at;
          appended = subst (λ (l : List (List ℕ)). HasAppended disks l a log m'.log) (sym fl.bodies) (rw log' there);
          tables = λ recoverable. tables_by disks mid'.tables m'.tables f.calls.items f.together s a fl.at distinct is.prepares took gave rooms recoverable;
        })
        (up' ∙ j.up fl.up) (doubt' ∙ j.doubt ∙ ap (λ (e : ℕ). doubt_after a e) fl.written.ends.0)

  -- the manager stays so afterwards
  pub finishes_still : (log : LogView D) (s : State) (c : Member) (cs : List Member) (a : Appending) (m' m'' : Manager D) → StaysFor disks m' m'' → m''.log ≡ m'.log
      → FinishesFrom disks log s c cs a m' → FinishesFrom disks log s c cs a m''
  finishes_still log s c cs a m' m'' stays same x = record {
    leads = (x.leads.0, x.leads.1, stays x.leads.0 x.leads.2);
    called = subst (λ (l : LogView D). HasCalled disks (Appended a) log l) (sym same) x.called;
    crash = λ trusts. let y = x.crash trusts in (y.0, y.1, subst (λ (l : LogView D). LeavesAppend disks log l s y.0) (sym same) y.2);
  }

  pub has_finished : (m m'' : Manager D) (f : PendingGroup) (a : Appending) (replies : List (ℕ × Reply)) → IsGroupOf m f → replies ≡ map (told a) f.together.members.items → SettlesBy f.written.write (as_appended a) (disks.failures m.log.disk) (disks.failures m''.log.disk)
      → ((log : LogView D) (s : State) → IsPendingFrom disks log m f s → (c : Member) (cs : List Member) → pending_members f ≡ c ∷ cs → FinishesFrom disks log s c cs a m'') → HasFinished disks m f replies m''
  has_finished m m'' f a replies is are fails finish_all = subst (λ (l : List (ℕ × Reply)). HasFinished disks m f l m'') (sym are) (by f.together.members.items refl)
    where
      by : (js : List Joining) → f.together.members.items ≡ js → HasFinished disks m f (map (told a) js) m''
      by [] e = let none : length f.together.members.items ≡ 0 = ap (λ (l : List Joining). length l) e in absurd (omega (arith, none, is.some))
      by (j ∷ js) e = (
        member_of f.calls.items j,
        members_of f.calls.items js,
        a,
        subst (λ (l : List Joining). AreReplies f.calls.items a (members_of f.calls.items l) (map (told a) l)) e (replies_are f.calls.items a f.together.members.items is.places is.rows),
        fails,
        λ log s fl. finish_all log s fl (member_of f.calls.items j) (members_of f.calls.items js) (ap (λ (l : List Joining). members_of f.calls.items l) e),
      )
