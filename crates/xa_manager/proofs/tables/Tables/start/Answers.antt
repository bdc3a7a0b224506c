use Rattle.std.proofs.Common.{rules}
use Rattle.std.proofs.lemmas.Result.{IfOk-weaker}
use Rattle.xa_manager.specs.View.{view_of}
use Rattle.xa_manager.proofs.Flags.{start_resumes, start_begins}
use Rattle.xa_manager.proofs.tables.Tables.start.Goals as goal

pub returns-then-flags-eq-TMRESUME-clause-ok : goal.returns-then-flags-eq-TMRESUME-clause-ok
returns-then-flags-eq-TMRESUME-clause-ok c =
    IfOk-weaker c.resume.result _ _ (λ r f. start_resumes (view_of c.args.self.now) (view_of c.resume.new.self) c.args.session c.args.flags c.args.xid.now r (search rules) (search rules) f) c.resume.ensures.ok

pub returns-else-flags-eq-TMRESUME-clause-ok : goal.returns-else-flags-eq-TMRESUME-clause-ok
returns-else-flags-eq-TMRESUME-clause-ok c =
    IfOk-weaker c.begin.result _ _ (λ r f. start_begins (view_of c.args.self.now) (view_of c.begin.new.self) c.args.session c.args.flags c.args.xid.now r (search rules) (search rules) f) c.begin.ensures.ok
