use Rattle.std.proofs.Common.{List, ℕ, Err, ap, refl, subst, inl, inr}
use Rattle.std.proofs.lemmas.Result.{err_from_is_err_and}
use Rattle.xa_disk.specs.declared.memory.MemDisk.{MemDisk}
use Rattle.xa_manager.specs.Believed.Opening.{IsBadSetting}
use Rattle.xa_manager.specs.declared.manager.Manager.{Manager}
use Rattle.xa_manager.specs.declared.settings.Settings.{Settings}
use Rattle.xa_play.specs.Played.{ScriptEnds}
use Rattle.xa_play.specs.Faults.{end_of}
use Rattle.xa_play.specs.declared.fault.PlayFault.TheVariants.{Read, Setting, TooLong}
use Rattle.xa_play.proofs.Ends.{fault_is, lines_are_played, opening_is_not_long, ran, refused_setting, script_is_no_setting, script_is_short, taken_setting, unopened, unplayed, unread, whichever}
use Rattle.xa_play.proofs.play.play_run.Goals as goal

pub returns-in_err-manager-clause-played : goal.returns-in_err-manager-clause-played
returns-in_err-manager-clause-played g c =
    let p = err_from_is_err_and c.from_residual.result c.from_residual.ensures.1 in
    let faults = c.in_err-manager.ensures.faults in
    rw (p.1, p.2)
    (unplayed (Unit {0}) c.in_err-manager.field-0.0 c.args.settings.name c.args.settings.log_bytes (g.R.Read.remaining c.args.reader.now) (g.W.Write.contents c.args.writer.now)
    (λ e. elim faults [ inl setting ↦ cc | inr (inl memory) ↦ cc | inr (inr refused) ↦ let is = refused.1 in cc ]))

pub returns-in_err-manager-clause-setting : goal.returns-in_err-manager-clause-setting
returns-in_err-manager-clause-setting g c =
    let p = err_from_is_err_and c.from_residual.result c.from_residual.ensures.1 in
    rw (p.1, p.2) (refused_setting (Unit {0}) (Manager MemDisk × Settings) c.in_err-manager.field-0.0
    (IsBadSetting c.args.settings.name c.args.settings.log_bytes) c.in_err-manager.ensures.setting)

pub returns-in_err-manager-clause-unread : goal.returns-in_err-manager-clause-unread
returns-in_err-manager-clause-unread g c = λ e. (refl, refl)

pub returns-in_err-manager-clause-too_long : goal.returns-in_err-manager-clause-too_long
returns-in_err-manager-clause-too_long g c =
    let p = err_from_is_err_and c.from_residual.result c.from_residual.ensures.1 in
    rw (p.1, p.2) (λ e. absurd (opening_is_not_long (Unit {0}) c.in_err-manager.field-0.0 c.in_err-manager.ensures.faults e))

pub returns-in_err-manager-clause-longer : goal.returns-in_err-manager-clause-longer
returns-in_err-manager-clause-longer g c =
    let p = err_from_is_err_and c.from_residual.result c.from_residual.ensures.1 in
    rw (p.1, p.2) (whichever (g.R.Read.remaining c.args.reader.now) _ (λ bytes long. (unopened (Unit {0}) c.in_err-manager.field-0.0 c.in_err-manager.ensures.faults, refl)))

pub returns-in_err-manager-clause-unwritten : goal.returns-in_err-manager-clause-unwritten
returns-in_err-manager-clause-unwritten g c = λ e. refl

pub returns-in_err-script-clause-played : goal.returns-in_err-script-clause-played
returns-in_err-script-clause-played g c =
    let p = err_from_is_err_and c.from_residual-in_err-script.result c.from_residual-in_err-script.ensures.1 in
    let faults = c.in_err-script.ensures.faults in
    rw (p.1, p.2)
    (unplayed (Unit {0}) c.in_err-script.field-0.0 c.args.settings.name c.args.settings.log_bytes (g.R.Read.remaining c.args.reader.now) (g.W.Write.contents c.args.writer.now)
    (λ e. elim faults [ inl memory ↦ cc | inr (inl read) ↦ cc | inr (inr long) ↦ cc ]))

pub returns-in_err-script-clause-longer : goal.returns-in_err-script-clause-longer
returns-in_err-script-clause-longer g c =
    let p = err_from_is_err_and c.from_residual-in_err-script.result c.from_residual-in_err-script.ensures.1 in
    rw (p.1, p.2) (whichever (g.R.Read.remaining c.args.reader.now) _ (λ bytes long. (unread (Unit {0}) c.in_err-script.field-0.0 c.in_err-script.ensures.faults, refl)))

pub returns-in_err-script-clause-setting : goal.returns-in_err-script-clause-setting
returns-in_err-script-clause-setting g c =
    let p = err_from_is_err_and c.from_residual-in_err-script.result c.from_residual-in_err-script.ensures.1 in
    rw (p.1, p.2)
    (taken_setting (Unit {0}) (Manager MemDisk × Settings) (c.in_ok-manager.manager, c.in_ok-manager.kept) (Err c.in_err-script.field-0.0) (IsBadSetting c.args.settings.name c.args.settings.log_bytes)
    (script_is_no_setting (Unit {0}) c.in_err-script.field-0.0 c.in_err-script.ensures.faults)
    c.in_ok-manager.ensures.setting.1)

pub returns-in_err-script-clause-unread : goal.returns-in_err-script-clause-unread
returns-in_err-script-clause-unread g c =
    let p = err_from_is_err_and c.from_residual-in_err-script.result c.from_residual-in_err-script.ensures.1 in
    rw (p.1, p.2) (λ e. absurd (script_is_no_setting (Unit {0}) c.in_err-script.field-0.0 c.in_err-script.ensures.faults e))

pub returns-in_err-script-clause-too_long : goal.returns-in_err-script-clause-too_long
returns-in_err-script-clause-too_long g c =
    let p = err_from_is_err_and c.from_residual-in_err-script.result c.from_residual-in_err-script.ensures.1 in
    rw (p.1, p.2) (λ e. c.in_err-script.ensures.too_long (ap Err (fault_is (Unit {0}) c.in_err-script.field-0.0 TooLong e)))

pub returns-in_err-script-clause-unwritten : goal.returns-in_err-script-clause-unwritten
returns-in_err-script-clause-unwritten g c = λ e. refl

pub returns-clause-played : goal.returns-clause-played
returns-clause-played g c =
    let old = g.W.Write.contents c.args.writer.now in
    let mid = g.W.Write.contents c.play_lines-played.new.writer in
    let new = g.W.Write.contents c.flush-flushed.new.self in
    let played = c.play_lines-played.ensures.played in
    let at_script = subst (λ (script : List ℕ). ScriptEnds c.in_ok-manager.kept.name c.in_ok-manager.kept.log_bytes c.play_lines-played.result c.in_ok-manager.manager script played.0) c.as_slice.ensures.value played.2 in
    let ends = subst (λ (kept : Settings). ScriptEnds kept.name kept.log_bytes c.play_lines-played.result c.in_ok-manager.manager c.in_ok-script.script.items played.0) c.in_ok-manager.ensures.kept at_script in
    rw c.end_of.ensures
    (ran c.files_stand.ensures (Unit {0}) _ c.play_lines-played.result c.flush-flushed.result c.in_ok-manager.manager c.args.settings.name c.args.settings.log_bytes (g.R.Read.remaining c.args.reader.now) old mid new
    c.in_ok-script.script.items played.0 c.in_ok-script.ensures.all c.in_ok-script.ensures.limit played.1 c.flush-flushed.ensures.bytes ends c.in_ok-manager.ensures.stands)

pub returns-clause-setting : goal.returns-clause-setting
returns-clause-setting g c =
    rw c.end_of.ensures
    (taken_setting (Unit {0}) (Manager MemDisk × Settings) (c.in_ok-manager.manager, c.in_ok-manager.kept) (end_of c.play_lines-played.result c.flush-flushed.result) (IsBadSetting c.args.settings.name c.args.settings.log_bytes)
    (lines_are_played (Unit {0}) _ c.play_lines-played.result c.flush-flushed.result c.play_lines-played.ensures.faults Setting (inl refl))
    c.in_ok-manager.ensures.setting.1)

pub returns-clause-unread : goal.returns-clause-unread
returns-clause-unread g c =
    rw c.end_of.ensures (λ e. absurd (lines_are_played (Unit {0}) _ c.play_lines-played.result c.flush-flushed.result c.play_lines-played.ensures.faults Setting (inl refl) e))

pub returns-clause-too_long : goal.returns-clause-too_long
returns-clause-too_long g c =
    rw c.end_of.ensures (λ e. absurd (lines_are_played (Unit {0}) _ c.play_lines-played.result c.flush-flushed.result c.play_lines-played.ensures.faults TooLong (inr (inl refl)) e))

pub returns-clause-longer : goal.returns-clause-longer
returns-clause-longer g c = script_is_short (g.R.Read.remaining c.args.reader.now) c.in_ok-script.script.items _ c.in_ok-script.ensures.all c.in_ok-script.ensures.limit

pub returns-clause-unwritten : goal.returns-clause-unwritten
returns-clause-unwritten g c =
    let other = lines_are_played (Unit {0}) _ c.play_lines-played.result c.flush-flushed.result c.play_lines-played.ensures.faults in
    rw c.end_of.ensures (λ e. elim e [ inl read ↦ absurd (other Read (inr (inr refl)) read) | inr long ↦ absurd (other TooLong (inr (inl refl)) long) ])
