use Rattle.std.proofs.Common.{◌≡◌, [], refl, List, ℕ}
use Rattle.std.proofs.lemmas.Result.{err_from_is_err_and}
use Rattle.xa_output.proofs.Pieces.{nothing_appended}
use Rattle.xa_play.specs.Played.{printed}
use Rattle.xa_play.proofs.Playing.{line_played, line_unanswered, line_unwritten}
use Rattle.xa_play.proofs.play.play_line.Goals as goal

pub returns-in_err-said : goal.returns-in_err-said
returns-in_err-said g c =
    let p = err_from_is_err_and c.from_residual.result c.from_residual.ensures.1 in
    rw (p.1, p.2) ([], nothing_appended (g.W.Write.contents c.args.writer.now), refl)

pub returns-in_err-manager : goal.returns-in_err-manager
returns-in_err-manager g c =
    let p = err_from_is_err_and c.from_residual-in_err-manager.result c.from_residual-in_err-manager.ensures.1 in
    rw (p.1, p.2) (
      [],
      nothing_appended (g.W.Write.contents c.args.writer.now),
      line_unanswered c.in_err-manager.field-0.0 c.args.settings.now.name c.args.settings.now.log_bytes c.args.manager c.args.line.now c.in_ok-said.said c.in_ok-said.ensures.value c.in_err-manager.ensures.err,
    )

pub returns-in_err-write_reply : goal.returns-in_err-write_reply
returns-in_err-write_reply g c =
    let p = err_from_is_err_and c.from_residual-in_err-write_reply.result c.from_residual-in_err-write_reply.ensures.1 in
    let name = c.args.settings.now.name in
    let n = c.args.settings.now.log_bytes in
    let written = c.in_err-write_reply.ensures in
    let played = line_played c.memory_is_trusted.ensures c.files_stand.ensures c.runs_are_lawful.ensures name n c.args.manager c.in_ok-manager.manager c.args.line.now c.in_ok-said.said c.in_ok-manager.reply (printed c.in_ok-manager.reply)
    c.in_ok-said.ensures.value c.in_ok-manager.ensures.answered refl in
    rw (p.1, p.2) (
      written.0,
      written.1,
      line_unwritten c.in_err-write_reply.field-0.0 name n c.args.manager c.in_ok-manager.manager c.args.line.now written.0 c.in_ok-manager.reply played written.2,
    )

pub returns : goal.returns
returns g c =
    let written = c.in_ok-write_reply.ensures in (
      written.0,
      written.1,
      (
        line_played c.memory_is_trusted.ensures c.files_stand.ensures c.runs_are_lawful.ensures c.args.settings.now.name c.args.settings.now.log_bytes c.args.manager c.in_ok-manager.manager c.args.line.now c.in_ok-said.said
            c.in_ok-manager.reply written.0 c.in_ok-said.ensures.value c.in_ok-manager.ensures.answered written.2,
        (c.in_ok-said.said, c.in_ok-manager.reply, c.in_ok-said.ensures.value, c.in_ok-manager.ensures.answered),
      ),
    )
