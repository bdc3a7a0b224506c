use Rattle.std.proofs.Common.{◌≡◌, ℕ, List, ap, sym, ◌∙◌, subst}
use Rattle.std.specs.Prelude.{Vec, Err}
use Rattle.std.specs.declared.alloc.Global.{Global}
use Rattle.xa_log.specs.Reading.{bodies_of}
use Rattle.xa_log.specs.Believed.TwoFiles.{first_of, second_of}
use Rattle.xa_manager.specs.declared.fault.ManagerFault.TheVariants as fault
use Rattle.xa_manager.specs.Believed.Opening.{IsFound}
use Rattle.xa_manager.specs.Believed.Refused.{LeavesFinding}
use Rattle.xa_manager.proofs.CrashOpenings.{crash_opening}
use Rattle.xa_manager.proofs.FoundLogs.{found_log}
use Rattle.xa_manager.proofs.OpenedStates.{begun_on, begun_read, fresh_opened, reopens_opened}
use Rattle.xa_manager.proofs.Refusing.{refused_by, begun_logs, refused_left, refused_missing, left_missing, there_by}
use Rattle.xa_manager.proofs.Results.{on_ok}
use Rattle.xa_manager.proofs.manager.Manager.open_returning.Given.{Over}
use Rattle.xa_manager.proofs.manager.Manager.open_returning.Goals.{After-begin}
use Rattle.xa_manager.proofs.manager.Manager.open_returning.Goals as goal

pub begin-requires-clause-made : goal.begin-requires-clause-made
begin-requires-clause-made g c = λ new.
    ap (λ (v : Vec (Vec ℕ Global) Global). bodies_of v.items) c.on-log.ensures.bodies ∙ ap (λ (l : List (Vec ℕ Global)). bodies_of l) (c.in-Ok.ensures.made new).0

pub begin-requires-clause-modern : goal.begin-requires-clause-modern
begin-requires-clause-modern g c = λ new. c.on-log.ensures.format ∙ c.in-Ok.ensures.modern new

-- the log was made or read

same_bodies : (g : Over) (c : After-begin g) → bodies_of c.on-log.result.1.items ≡ bodies_of c.in-Ok.opened.scan.bodies.items
same_bodies g c = ap (λ (v : Vec (Vec ℕ Global) Global). bodies_of v.items) c.on-log.ensures.bodies

found : (g : Over) (c : After-begin g) → g.D.Disk.honest → IsFound g.D.Disk c.in-Ok.is_new (bodies_of c.on-log.result.1.items) c.on-log.result.0
found g c h =
    found_log g.D.Disk c.in-Ok.is_new (bodies_of c.on-log.result.1.items) c.on-log.result.0 c.find_log.new.second
    (c.on-log.ensures.log h (c.in-Ok.ensures.stands h))
    (λ new. (
      same_bodies g c ∙ ap (λ (l : List (Vec ℕ Global)). bodies_of l) (c.in-Ok.ensures.made new).0,
      c.on-log.ensures.on_first ∙ (c.in-Ok.ensures.made new).1,
      c.in-Ok.ensures.made_beside h new,
    ))
    c.on-log.ensures.disks.1

finding : (g : Over) (c : After-begin g) → g.D.Disk.honest → LeavesFinding g.D.Disk c.args.first (first_of c.on-log.result.0) c.args.second (second_of c.on-log.result.0)
finding g c h =
    subst (λ d. LeavesFinding g.D.Disk c.args.first d c.args.second (second_of c.on-log.result.0)) (sym c.on-log.ensures.disks.0)
    (subst (λ d. LeavesFinding g.D.Disk c.args.first c.find_log.new.first c.args.second d) (sym c.on-log.ensures.disks.1) (c.in-Ok.ensures.leaves h))

pub returns-in_default-clause-begun : goal.returns-in_default-clause-begun
returns-in_default-clause-begun g c =
    begun_on g.D.Disk c.begin.result (g.D.Disk.seen c.args.first) (g.D.Disk.seen c.args.second) (bodies_of c.on-log.result.1.items) c.args.settings.name c.args.settings.log_bytes
    (λ h. c.in-Ok.ensures.logged h ∙ sym (same_bodies g c))
    (c.begin.ensures.begun (found g c) (c.on-log.ensures.settings ∙ c.in-Ok.ensures.settings))

pub returns-in_default-clause-fresh : goal.returns-in_default-clause-fresh
returns-in_default-clause-fresh g c = λ trusts ea eb.
    fresh_opened g.D.Disk c.begin.result c.args.settings.name c.args.settings.log_bytes (g.D.Disk.seen c.args.first) (g.D.Disk.seen c.args.second)
    (begun_read g.D.Disk c.begin.result (g.D.Disk.seen c.args.first) (g.D.Disk.seen c.args.second) c.args.settings.name c.args.settings.log_bytes trusts.disk (returns-in_default-clause-begun g c)) ea eb

pub returns-in_default-clause-reopens : goal.returns-in_default-clause-reopens
returns-in_default-clause-reopens g c = λ trusts s rec files.
    reopens_opened g.D.Disk c.begin.result s c.args.settings.name c.args.settings.log_bytes (g.D.Disk.seen c.args.first) (g.D.Disk.seen c.args.second)
    rec files (begun_read g.D.Disk c.begin.result (g.D.Disk.seen c.args.first) (g.D.Disk.seen c.args.second) c.args.settings.name c.args.settings.log_bytes trusts.disk (returns-in_default-clause-begun g c))

pub returns-in_default-clause-refused : goal.returns-in_default-clause-refused
returns-in_default-clause-refused g c = λ h.
    refused_by c.begin.result (bodies_of c.on-log.result.1.items) c.args.settings.name c.args.settings.log_bytes (g.D.Disk.seen c.args.first) (g.D.Disk.seen c.args.second)
    c.begin.ensures.refused (c.in-Ok.ensures.whole h) (c.in-Ok.ensures.logged h ∙ sym (same_bodies g c))

pub returns-in_default-clause-logs : goal.returns-in_default-clause-logs
returns-in_default-clause-logs g c =
    begun_logs g.D.Disk c.args.first c.args.second c.in-Ok.is_new (bodies_of c.on-log.result.1.items) c.args.settings.log_bytes c.on-log.result.0 (finding g c)
    (λ h. c.in-Ok.ensures.logged h ∙ sym (same_bodies g c)) (found g c) (c.on-log.ensures.settings ∙ c.in-Ok.ensures.settings) c.in-Ok.ensures.made_of
    c.begin.result c.begin.ensures.logs

pub returns-in_default-clause-leaves : goal.returns-in_default-clause-leaves
returns-in_default-clause-leaves g c =
    refused_left g.D.Disk c.args.first c.args.second c.in-Ok.is_new (bodies_of c.on-log.result.1.items) c.args.settings.log_bytes c.on-log.result.0 (finding g c)
    (λ h. c.in-Ok.ensures.logged h ∙ sym (same_bodies g c)) (found g c) (c.on-log.ensures.settings ∙ c.in-Ok.ensures.settings) c.in-Ok.ensures.made_of
    c.begin.result c.begin.ensures.refused c.begin.ensures.leaves

pub returns-in_default-clause-crash : goal.returns-in_default-clause-crash
returns-in_default-clause-crash g c =
    crash_opening g.D.Disk g.met.D.Disk.only_now c.args.first c.args.second c.args.settings.name c.args.settings.log_bytes c.begin.result
    (returns-in_default-clause-logs g c) (returns-in_default-clause-leaves g c)

pub returns-in_default-clause-there : goal.returns-in_default-clause-there
returns-in_default-clause-there g c = λ h. on_ok c.begin.result _ (λ m is.
    there_by c.in-Ok.is_new (g.D.Disk.seen c.args.first) (g.D.Disk.seen c.args.second) (c.in-Ok.ensures.made_of h)
    (λ read. c.in_default.ensures.none read (g.D.Disk.seen c.args.first) (g.D.Disk.seen c.args.second) (c.in-Ok.ensures.found h read)))

pub returns-in-Some-clause-refused : goal.returns-in-Some-clause-refused
returns-in-Some-clause-refused g c = λ h.
    let (read, kind, misses) = c.in-Some.ensures.some in
    let found = c.in-Ok.ensures.found h read in
    refused_missing c.in-Some.fault c.args.settings.name c.args.settings.log_bytes (g.D.Disk.seen c.args.first) (g.D.Disk.seen c.args.second) c.in-Ok.opened found c.in-Ok.ensures.settings
    (misses (g.D.Disk.seen c.args.first) (g.D.Disk.seen c.args.second) found)

pub returns-in-Some-clause-leaves : goal.returns-in-Some-clause-leaves
returns-in-Some-clause-leaves g c =
    left_missing g.D.Disk c.in-Some.fault c.args.settings.log_bytes c.args.first c.find_log.new.first c.args.second c.find_log.new.second c.in-Some.ensures.some.1 c.in-Ok.ensures.leaves

pub returns-in-Some-clause-crash : goal.returns-in-Some-clause-crash
returns-in-Some-clause-crash g c =
    crash_opening g.D.Disk g.met.D.Disk.only_now c.args.first c.args.second c.args.settings.name c.args.settings.log_bytes
    (Err (record { fault = c.in-Some.fault; first = c.find_log.new.first; second = c.find_log.new.second })) tt (returns-in-Some-clause-leaves g c)

pub returns-in-Err-clause-crash : goal.returns-in-Err-clause-crash
returns-in-Err-clause-crash g c =
    crash_opening g.D.Disk g.met.D.Disk.only_now c.args.first c.args.second c.args.settings.name c.args.settings.log_bytes
    (Err (record { fault = fault.Log c.in-Err.fault; first = c.find_log.new.first; second = c.find_log.new.second })) tt c.in-Err.ensures.leaves

pub returns-in-Err-clause-leaves : goal.returns-in-Err-clause-leaves
returns-in-Err-clause-leaves g c = c.in-Err.ensures.leaves
