use Rattle.std.proofs.Common.{Some, refl, sym, subst}
use Rattle.xa_manager.specs.Status.{versions_of}
use Rattle.xa_script.specs.declared.line.Line.{Line}
use Rattle.xa_script.specs.declared.line.Line.TheVariants as line
use Rattle.xa_play.specs.Played.{LineAnswered}
use Rattle.xa_play.proofs.answer.answer.Goals as goal

pub returns-in-Status-clause-answered : goal.returns-in-Status-clause-answered
returns-in-Status-clause-answered c =
    let name = c.args.settings.now.name in
    let log_bytes = c.args.settings.now.log_bytes in
    let told : LineAnswered name log_bytes c.args.manager (line.Status c.in-Status.session) (Some c.status-reply.result) c.args.manager
    = (versions_of c.args.manager, c.args.calls, c.status-reply.ensures, refl) in
    subst (λ (said : Line). LineAnswered name log_bytes c.args.manager said (Some c.status-reply.result) c.args.manager) (sym c.in-Status.is) told

pub returns-in-Control-clause-answered : goal.returns-in-Control-clause-answered
returns-in-Control-clause-answered c =
    let name = c.args.settings.now.name in
    let log_bytes = c.args.settings.now.log_bytes in
    let told : LineAnswered name log_bytes c.args.manager (line.Control c.in-Control.session c.in-Control.field-1) (Some c.control-reply.result) c.args.manager
    = (c.control-reply.ensures, refl) in
    subst (λ (said : Line). LineAnswered name log_bytes c.args.manager said (Some c.control-reply.result) c.args.manager) (sym c.in-Control.is) told
