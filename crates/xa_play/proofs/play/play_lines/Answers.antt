use Rattle.std.proofs.Common.{◌≡◌, [], ◌++◌, subst, ap, Option, List, ℕ, None, Some}
use Rattle.std.specs.Option.{option_copied}
use Rattle.std.proofs.lemmas.Result.{err_from_is_err_and}
use Rattle.xa_output.proofs.Pieces.{appends_both, nothing_appended}
use Rattle.xa_play.proofs.Playing.{PlayedSoFar, all_played, line_failed, line_faults, line_more, nothing_played}
use Rattle.xa_play.proofs.play.play_lines.Goals as goal

pub loop-rest-init : goal.loop-rest-init
loop-rest-init g c = (
  [],
  nothing_appended (g.W.Write.contents c.args.writer.now),
  nothing_played c.args.settings.now.name c.args.settings.now.log_bytes c.args.manager c.args.script.now,
)

pub loop-rest-preserved : goal.loop-rest-preserved
loop-rest-preserved g c =
    let name = c.args.settings.now.name in
    let n = c.args.settings.now.log_bytes in
    let before = c.loop-rest.invariant in
    let now = c.in_ok-manager.ensures in
    let rest : option_copied c.loop-rest.rest ≡ Some c.in-Some.lines.now = ap option_copied c.in-Some.is in
    let so_far = subst (λ (o : Option (List ℕ)). PlayedSoFar name n c.args.manager c.args.script.now before.0 c.loop-rest.manager o) rest before.2 in (
      before.0 ++ now.0,
      appends_both _ _ _ before.0 now.0 before.1 now.1,
      line_more c.runs_are_lawful.ensures name n c.args.manager c.loop-rest.manager c.in_ok-manager.manager c.args.script.now before.0 c.first_part.result.0.now c.in-Some.lines.now now.0
          (option_copied c.first_part.result.1) c.first_part.ensures so_far now.2.0,
    )

pub returns-clause-played : goal.returns-clause-played
returns-clause-played g c =
    let name = c.args.settings.now.name in
    let n = c.args.settings.now.log_bytes in
    let before = c.loop-rest.invariant in
    let over : option_copied c.loop-rest.rest ≡ None = ap option_copied c.in_default.is in
    let so_far = subst (λ (o : Option (List ℕ)). PlayedSoFar name n c.args.manager c.args.script.now before.0 c.loop-rest.manager o) over before.2 in
    (before.0, before.1, all_played name n c.args.manager c.loop-rest.manager c.args.script.now before.0 so_far)

pub returns-in_err-manager-clause-played : goal.returns-in_err-manager-clause-played
returns-in_err-manager-clause-played g c =
    let name = c.args.settings.now.name in
    let n = c.args.settings.now.log_bytes in
    let p = err_from_is_err_and c.from_residual.result c.from_residual.ensures.1 in
    let before = c.loop-rest.invariant in
    let now = c.in_err-manager.ensures in
    let rest : option_copied c.loop-rest.rest ≡ Some c.in-Some.lines.now = ap option_copied c.in-Some.is in
    let so_far = subst (λ (o : Option (List ℕ)). PlayedSoFar name n c.args.manager c.args.script.now before.0 c.loop-rest.manager o) rest before.2 in
    rw (p.1, p.2) (
      before.0 ++ now.0,
      appends_both _ _ _ before.0 now.0 before.1 now.1,
      line_failed (Unit {0}) c.in_err-manager.field-0.0 name n c.args.manager c.loop-rest.manager c.args.script.now before.0 c.first_part.result.0.now c.in-Some.lines.now now.0
          (option_copied c.first_part.result.1) c.first_part.ensures so_far now.2,
    )

pub returns-in_err-manager-clause-faults : goal.returns-in_err-manager-clause-faults
returns-in_err-manager-clause-faults g c =
    let p = err_from_is_err_and c.from_residual.result c.from_residual.ensures.1 in
    let now = c.in_err-manager.ensures in
    rw (p.1, p.2) (line_faults c.in_err-manager.field-0.0 c.args.settings.now.name c.args.settings.now.log_bytes c.loop-rest.manager c.first_part.result.0.now now.0 now.2)
