-- What a server that ended did, and what is known where it failed.
use Rattle.std.specs.Prelude.{◌≡◌, ◌⊎◌, ◌<◌, ◌≤◌, ◌++◌, ◌&&◌, ◌||◌, ℕ, zero, suc, Bool, true, false, not, if◌then◌else◌, is_some, List, [], IsSomeAnd, Option, None, Some, codes}
use Rattle.std.specs.declared.net.TcpListener.{TcpListener}
use Rattle.xa_disk.specs.declared.disk.Disk as disk
use Rattle.xa_disk.specs.declared.file_fault.FileFault.{FileFault}
use Rattle.xa_disk.specs.declared.file_fault.FileFault.TheVariants as file
use Rattle.xa_log.specs.Finding.{damage_of}
use Rattle.xa_log.specs.Believed.Unfit.{unfit_of}
use Rattle.xa_log.specs.declared.fault.OpenFault.TheVariants as log
use Rattle.xa_log.specs.declared.unfit.Unfit.TheVariants.{Neither, MissingFirst, MissingSecond, StrayFirst, StraySecond}
use Rattle.xa_manager.specs.declared.fault.ManagerFault.TheVariants as opening
use Rattle.xa_manager.specs.declared.manager.Manager.{Manager}
use Rattle.xa_manager.specs.Believed.Files.{FilesStandFor}
use Rattle.xa_manager.specs.Believed.LogStands.{Trusts}
use Rattle.xa_manager.specs.Managed.{ManagerStandsFor}
use Rattle.xa_manager.specs.Believed.Opening.{HasBegunOn, OpenRefused}
use Rattle.xa_model.specs.declared.outcome.Appending.TheVariants.{Kept}
use Rattle.xa_model.specs.declared.outcome.Outcome.TheVariants.{Reread}
use Rattle.xa_model.specs.History.{fresh}
use Rattle.xa_model.specs.Invariants.Loggable.{IsRecoverable}
use Rattle.xa_model.specs.State.{State}
use Rattle.xa_model.specs.Step.{step}
use Rattle.xa_model.specs.Turn.{Reopened}
use Rattle.xa_reactor.specs.declared.common.Settings.{Settings}
use Rattle.xa_sequencer.specs.Believed.GroupManager.{alone, manages_of}
use Rattle.xa_server.specs.declared.listening.Listening.{Listening}
use Rattle.xa_server.specs.declared.listening.Listening.TheVariants.{Tcp, Unix, Both}
use Rattle.xa_server.specs.declared.audited.Audited.{Audited}
use Rattle.xa_server.specs.declared.engine.Looped.{Looped}
use Rattle.xa_server.specs.declared.listens.Listens as listens
use Rattle.xa_server.specs.Believed.Loops.{ServesByLoops}
use Rattle.xa_server.specs.Believed.Audits.{ServesAudited}
use Rattle.xa_server.specs.declared.serve_fault.ServeFault.{ServeFault}
use Rattle.xa_server.specs.declared.serve_fault.ServeFault.TheVariants as fault
use Rattle.xa_server.specs.declared.workers.Worked.{Worked}
use Rattle.xa_service.specs.declared.at.At.{At}
use Rattle.xa_service.specs.declared.at.At.TheVariants as at
use Rattle.xa_service.specs.declared.service.Service.{Service}
use Rattle.xa_service.specs.declared.service.TheConstants.{MOST_LOOPS}
use Rattle.xa_users.specs.Believed.Users.{SaysUsers, all_of}
use Rattle.xa_users.specs.declared.users.Users.{Users}

-- The manager is what these two disks were opened to: one that begins with what their records come to; a new one, if
-- both were empty; and one that stands for the opening of each state that they stood for. The first holds of any disks,
-- but for what their bytes are.
pub record HasOpened {D : Type 0} (disks : disk.Ghosts D) (first second : D) (name : List ℕ) (log_bytes : ℕ)
    (m : Manager D) : Type 0 where
  pub begun : HasBegunOn disks (disks.seen first) (disks.seen second) name log_bytes m
  pub fresh_one : Trusts disks → disks.seen first ≡ [] → disks.seen second ≡ []
      → ManagerStandsFor disks m (fresh name log_bytes)
  pub reopens : Trusts disks → (s : State) → IsRecoverable s
      → FilesStandFor log_bytes (disks.seen first) (disks.seen second) s
      → (survived : ℕ)
      × IsSomeAnd (step s (Reopened name log_bytes) (Reread survived (Some Kept)))
      (λ a. ManagerStandsFor disks m a.after)

-- where a server listens: at an address, on a port; at a path; or at both
pub data Where : Type 0 where
  OnPort : (address : List ℕ) (port : ℕ) → Where
  AtPath : (path : List ℕ) → Where
  AtBoth : (address : List ℕ) (port : ℕ) (path : List ℕ) → Where

abbrev pub where_of : At → Where
where_of (at.Port address port) = OnPort address.now port
where_of (at.Socket path) = AtPath path.now
where_of (at.Both address port path) = AtBoth address.now port path.now

abbrev pub IsListening : {R : Type 0} → listens.Ghosts R → Listening → Where → Type 0
IsListening net (Tcp listener) (OnPort address port) = net.listens listener address port
IsListening net (Unix listener) (AtPath path) = net.listens_at listener path
IsListening net (Both tcp unix) (AtBoth address port path) = net.listens tcp address port × net.listens_at unix path
IsListening net _ _ = ⊥

-- it was refused: if it is to be both, the port, or the path once the port was had
abbrev pub IsRefusedAt : {R : Type 0} → listens.Ghosts R → Where → Type 0
IsRefusedAt net (OnPort address port) = net.refuses address port
IsRefusedAt net (AtPath path) = net.refuses_at path
IsRefusedAt net (AtBoth address port path) =
    net.refuses address port ⊎ ((tcp : TcpListener) × net.listens tcp address port × net.refuses_at path)

-- where the log is that a server is to open, by which name, and where it is to listen
pub record Place : Type 0 where
  pub path : List ℕ
  pub name : List ℕ
  pub at : Where

abbrev pub place_of : Service → Place
place_of service = record {
  path = service.path.now;
  name = service.name.now;
  at = where_of service.at;
}

abbrev pub second_path : List ℕ → List ℕ
second_path path = path ++ codes ".2"

-- these disks were opened at a path, and at the path with `.2` after it
abbrev pub AreFiles : {D : Type 0} → (D → List ℕ → Type 0) → List ℕ → D → D → Type 0
AreFiles opened path first second = opened first path × opened second (second_path path)

-- the same, and neither file was missing, or had something in it that is no log
pub record AreFit {D : Type 0} (disks : disk.Ghosts D) (opened : D → List ℕ → Type 0) (log_bytes : ℕ) (path : List ℕ)
    (first second : D) : Type 0 where
  pub files : AreFiles opened path first second
  pub fit : disks.honest → unfit_of log_bytes (disks.seen first) (disks.seen second) ≡ Neither

-- The log's two files were opened at the path that was asked for; the listener listens where it is to; and this manager
-- was opened on the files.
pub record IsReady {D R : Type 0} (disks : disk.Ghosts D) (opened : D → List ℕ → Type 0) (net : listens.Ghosts R)
    (log_bytes : ℕ) (place : Place) (listener : Listening) (manager : Manager D) : Type 0 where
  pub first : D
  pub second : D
  pub files : AreFit disks opened log_bytes place.path first second
  pub listening : IsListening net listener place.at
  pub has_opened : HasOpened disks first second place.name log_bytes manager

-- how many loops are to run: as many as were asked for, or 1 to 4 if none were
abbrev pub AreLoops : ℕ → ℕ → Type 0
AreLoops zero loops = (0 < loops) × (loops ≤ 4)
AreLoops (suc n) loops = loops ≡ suc n

-- what is asked of its loops
abbrev pub settings_of : Service → Settings
settings_of service = record {
  connections = service.connections;
  frame_seconds = service.frame_seconds;
  idle_seconds = service.idle_seconds;
  branch_seconds = service.branch_seconds;
  ends_when_down = service.ends_when_down;
  trim_bytes = service.trim_bytes;
  log_bytes = service.log_bytes;
  tick_seconds = service.tick_seconds;
}

-- The manager's sessions were served by loops, from each state that it stood for: without an audit, or with one, which told
-- this.
abbrev pub ServesAs : {D : Type 0} → disk.Ghosts D → Manager D → Option Users → ℕ → Looped → Option Audited → Type 0
ServesAs disks manager users loops told None =
    ServesByLoops (manages_of disks) ((manages_of disks).stands (alone manager)) ((manages_of disks).failures (alone manager))
    users loops told
ServesAs disks manager users loops told (Some audited) =
    (done : Worked) × (done.looped ≡ told) × (done.audited ≡ audited)
    × ServesAudited (manages_of disks) ((manages_of disks).stands (alone manager))
    ((manages_of disks).failures (alone manager)) users loops done

-- who may log in: those that a text says, if a file of users is named, else nobody has to
abbrev pub AreUsers : Bool → Option Users → Type 0
AreUsers false users = users ≡ None
AreUsers true users = (those : Users) × (users ≡ Some those) × (text : List ℕ) × SaysUsers text (all_of those)

-- unless an audit found a fault
abbrev pub is_sound : Option Audited → Bool
is_sound None = true
is_sound (Some audited) = audited.is_whole

-- All was ready, and the manager's sessions were served by loops, as was asked. All is well, unless an audit found a fault, or a
-- server that is down was to end, and the manager is down, or the loops ended since it was.
pub record HasServed {D R : Type 0} (disks : disk.Ghosts D) (opened : D → List ℕ → Type 0) (net : listens.Ghosts R)
    (service : Service) (is_well : Bool) : Type 0 where
  pub listener : Listening
  pub manager : Manager D
  pub ready : IsReady disks opened net service.log_bytes (place_of service) listener manager
  pub users : Option Users
  pub users_are : AreUsers (is_some service.users) users
  pub loops : ℕ
  pub loops_are : AreLoops service.loops loops
  pub told : Looped
  pub audited : Option Audited
  pub audits : is_some audited ≡ service.audits
  pub serves : ServesAs disks manager users loops told audited
  pub whole : told.is_whole ≡ true
  pub settings : told.settings ≡ settings_of service
  pub well : is_well ≡ (not (service.ends_when_down && (told.is_down || told.ended_down)) && is_sound audited)

-- ---- where it failed

-- One of the two files at a path was refused for this reason: the first one; or the second one, once the first was opened.
abbrev pub IsRefused : {D : Type 0} → (D → List ℕ → Type 0) → (List ℕ → FileFault → Type 0) → List ℕ → Bool → FileFault
    → Type 0
IsRefused opened refused path false why = refused path why
IsRefused {D} opened refused path true why = (first : D) × opened first path × refused (second_path path) why

-- a fault of opening files
abbrev pub IsFileFault : {D : Type 0} → (D → List ℕ → Type 0) → (List ℕ → FileFault → Type 0) → List ℕ → ServeFault
    → Type 0
IsFileFault opened refused path fault.Memory = Unit {0}
IsFileFault opened refused path fault.InUse = (is_second : Bool) × IsRefused opened refused path is_second file.InUse
IsFileFault opened refused path (fault.Absent log_file) =
    (log_file.path.now ≡ path) × IsRefused opened refused path log_file.is_second file.Absent
IsFileFault opened refused path (fault.File log_file why) =
    (log_file.path.now ≡ path) × IsRefused opened refused path log_file.is_second why
IsFileFault opened refused path _ = ⊥

-- Where two disks are damaged: in the file that it names, at the record and byte that it tells; or that isn't told.
abbrev pub IsDamage : {D : Type 0} → disk.Ghosts D → List ℕ → D → D → ServeFault → Type 0
IsDamage disks path first second (fault.Damaged file number at) =
    (file.path.now ≡ path)
    × (disks.honest
    → damage_of (disks.seen first) (disks.seen second)
    ≡ Some (record { on_first = not file.is_second; number = number; at = at }))
IsDamage disks path first second why = why ≡ fault.Manager (opening.Log log.Damaged)

-- What is known of two disks if a server failed on them: no manager was opened on them, for a reason that it tells;
-- or the one that it names is missing, or has something in it that is no log, or is damaged.
abbrev pub Refuses : {D : Type 0} → disk.Ghosts D → List ℕ → List ℕ → ℕ → D → D → ServeFault → Type 0
Refuses disks path name log_bytes first second fault.Memory = Unit {0}
Refuses disks path name log_bytes first second (fault.Manager e) =
    disks.honest → OpenRefused e name log_bytes (disks.seen first) (disks.seen second)
Refuses disks path name log_bytes first second (fault.Missing file) =
    (file.path.now ≡ path)
    × (disks.honest
    → unfit_of log_bytes (disks.seen first) (disks.seen second) ≡ (if file.is_second then MissingSecond else MissingFirst))
Refuses disks path name log_bytes first second (fault.Stray file) =
    (file.path.now ≡ path)
    × (disks.honest
    → unfit_of log_bytes (disks.seen first) (disks.seen second) ≡ (if file.is_second then StraySecond else StrayFirst))
Refuses disks path name log_bytes first second (fault.Damaged file number at) =
    IsDamage disks path first second (fault.Damaged file number at)
Refuses disks path name log_bytes first second _ = ⊥

-- the disks that it failed on were opened on the files at a path
abbrev pub HasRefused : {D : Type 0} → disk.Ghosts D → (D → List ℕ → Type 0) → ℕ → Place → ServeFault → Type 0
HasRefused {D} disks opened log_bytes place why =
    (first : D) × (second : D) × AreFiles opened place.path first second
    × Refuses disks place.path place.name log_bytes first second why

-- all was ready
abbrev pub WasReady : {D R : Type 0} → disk.Ghosts D → (D → List ℕ → Type 0) → listens.Ghosts R → ℕ → Place → Type 0
WasReady {D} disks opened net log_bytes place =
    (listener : Listening) × (manager : Manager D) × IsReady disks opened net log_bytes place listener manager

-- What was asked before it failed, and how that ended: the file of users says none, it may not listen there, or there is no such
-- group, and nothing was opened; a file was refused; no manager was opened on the files, or one of them is missing, is no log or is
-- damaged; the files were there, and the port was refused; all was ready, and it couldn't print, or write the history, or it didn't
-- serve for what `late` says.
abbrev pub HasFailedBy : {D R : Type 0} → disk.Ghosts D → (D → List ℕ → Type 0) → (List ℕ → FileFault → Type 0)
    → listens.Ghosts R → ℕ → Place → (ServeFault → Type 0) → ServeFault → Type 0
HasFailedBy disks opened refused net log_bytes place late fault.Memory = Unit {0}
HasFailedBy disks opened refused net log_bytes place late fault.InUse =
    IsFileFault opened refused place.path fault.InUse
HasFailedBy disks opened refused net log_bytes place late (fault.Absent log_file) =
    IsFileFault opened refused place.path (fault.Absent log_file)
HasFailedBy disks opened refused net log_bytes place late (fault.File log_file why) =
    IsFileFault opened refused place.path (fault.File log_file why)
HasFailedBy disks opened refused net log_bytes place late (fault.Manager e) =
    HasRefused disks opened log_bytes place (fault.Manager e)
HasFailedBy disks opened refused net log_bytes place late (fault.Missing file) =
    HasRefused disks opened log_bytes place (fault.Missing file)
HasFailedBy disks opened refused net log_bytes place late (fault.Stray file) =
    HasRefused disks opened log_bytes place (fault.Stray file)
HasFailedBy disks opened refused net log_bytes place late (fault.Damaged file number at) =
    HasRefused disks opened log_bytes place (fault.Damaged file number at)
HasFailedBy {D} disks opened refused net log_bytes place late fault.Listen =
    (first : D) × (second : D) × AreFit disks opened log_bytes place.path first second
    × IsRefusedAt net place.at
HasFailedBy disks opened refused net log_bytes place late fault.Write = WasReady disks opened net log_bytes place
HasFailedBy disks opened refused net log_bytes place late (fault.History history_file why) =
    WasReady disks opened net log_bytes place
HasFailedBy disks opened refused net log_bytes place late (fault.Users users_file why) = Unit {0}
HasFailedBy disks opened refused net log_bytes place late (fault.Open address) = Unit {0}
HasFailedBy disks opened refused net log_bytes place late (fault.Group group_name) = Unit {0}
HasFailedBy disks opened refused net log_bytes place late fault.Random = WasReady disks opened net log_bytes place × late fault.Random
HasFailedBy disks opened refused net log_bytes place late fault.Start =
    WasReady disks opened net log_bytes place × late fault.Start
HasFailedBy disks opened refused net log_bytes place late fault.Wait =
    WasReady disks opened net log_bytes place × late fault.Wait

-- before anything was opened: it may not listen there, its Unix socket is to have a group that there isn't, or the file of
-- users says none
abbrev pub IsEarlyFault : ServeFault → Type 0
IsEarlyFault (fault.Open address) = Unit {0}
IsEarlyFault (fault.Group group_name) = Unit {0}
IsEarlyFault (fault.Users users_path why) = Unit {0}
IsEarlyFault _ = ⊥

-- before it serves, nothing
abbrev pub never : ServeFault → Type 0
never why = ⊥

-- there are no such loops, or the system gave nothing to wait for connections by, or no random bytes
abbrev pub NoLoops : ℕ → ServeFault → Type 0
NoLoops loops fault.Start = MOST_LOOPS < loops
NoLoops loops fault.Wait = Unit {0}
NoLoops loops fault.Random = Unit {0}
NoLoops loops _ = ⊥

-- all was ready, with this manager
abbrev pub HasListened : {D R : Type 0} → disk.Ghosts D → (D → List ℕ → Type 0) → listens.Ghosts R → Service → Manager D
    → Type 0
HasListened disks opened net service manager =
    (listener : Listening) × IsReady disks opened net service.log_bytes (place_of service) listener manager

abbrev pub HasFailed : {D R : Type 0} → disk.Ghosts D → (D → List ℕ → Type 0) → (List ℕ → FileFault → Type 0)
    → listens.Ghosts R → Service → ServeFault → Type 0
HasFailed disks opened refused net service why =
    HasFailedBy disks opened refused net service.log_bytes (place_of service) (NoLoops service.loops) why
