use Rattle.std.proofs.Common.{◌++◌, ◌∙◌, inl, refl}
use Rattle.xa_copy.proofs.Following.{goes_on}
use Rattle.xa_copy.proofs.Standing.{along_all, along_on, leaving_on, on_err, stays_all}
use Rattle.xa_copy.proofs.standby.Standby.take_all.Goals as goal

pub returns-in_err-take_piece-clause-stays : goal.returns-in_err-take_piece-clause-stays
returns-in_err-take_piece-clause-stays g c h k begin tells heads bodies stood a =
    let was = c.pieces.invariant.along h k begin tells heads bodies stood a in
    on_err c.from_residual.result _ (stays_all g.D.Disk bodies was.0 (g.S.Source.state c.take_piece.new.source) c.take_piece.new.self
    (c.in_err-take_piece.ensures.stays h k begin tells heads (bodies ++ was.0) stood was.1))

pub returns-then-branch-clause-all : goal.returns-then-branch-clause-all
returns-then-branch-clause-all g c h k begin tells heads bodies stood a =
    let was = c.pieces.invariant.along h k begin tells heads bodies stood a in
    let now = c.in_ok-take_piece.ensures.takes h k begin tells heads (bodies ++ was.0) stood was.1 in
    along_all g.D.Disk begin (g.S.Source.state c.take_piece.new.source) bodies was.0 stood c.take_piece.new.self _ (rw c.if-branch.true at now)

pub pieces-preserved : goal.pieces-preserved
pieces-preserved g c = record {
  beside = c.take_piece.ensures.beside ∙ c.pieces.invariant.beside;
  settings = c.take_piece.ensures.settings ∙ c.pieces.invariant.settings;
  moments = λ h k begin tells heads bodies stood a.
      let was = c.pieces.invariant.along h k begin tells heads bodies stood a in
      (leaving_on g.D.Disk c.args.self.now.log.log_bytes c.pieces.self.log.log_bytes (g.S.Source.state c.pieces.source) (g.S.Source.state c.take_piece.new.source)
      c.args.self.now.log.disk c.pieces.self.log.disk c.take_piece.new.self.log.disk c.pieces.invariant.settings (c.take_piece.ensures.goes h)
      (c.pieces.invariant.moments h k begin tells heads bodies stood a)
      (c.take_piece.ensures.any_moment h k begin tells heads (bodies ++ was.0) stood was.1));
  on_first = c.take_piece.ensures.on_first ∙ c.pieces.invariant.on_first;
  goes = λ h.
      goes_on (g.S.Source.state c.args.source.now) (g.S.Source.state c.pieces.source) (g.S.Source.state c.take_piece.new.source)
      (c.pieces.invariant.goes h) (c.take_piece.ensures.goes h);
  along = λ h k begin tells heads bodies stood a.
      let was = c.pieces.invariant.along h k begin tells heads bodies stood a in
      along_on g.D.Disk begin (g.S.Source.state c.take_piece.new.source) bodies was.0 stood c.take_piece.new.self _
      (c.in_ok-take_piece.ensures.takes h k begin tells heads (bodies ++ was.0) stood was.1);
}

pub returns-clause-stays : goal.returns-clause-stays
returns-clause-stays g c h k begin tells heads bodies stood a =
    let was = c.pieces.invariant.along h k begin tells heads bodies stood a in inl (bodies ++ was.0, stood, was.1.is, (was.0, refl))

pub returns-in_err-take_piece-clause-any_moment : goal.returns-in_err-take_piece-clause-any_moment
returns-in_err-take_piece-clause-any_moment g c h k begin tells heads bodies stood a =
    let was = c.pieces.invariant.along h k begin tells heads bodies stood a in
    (leaving_on g.D.Disk c.args.self.now.log.log_bytes c.pieces.self.log.log_bytes (g.S.Source.state c.pieces.source) (g.S.Source.state c.take_piece.new.source)
    c.args.self.now.log.disk c.pieces.self.log.disk c.take_piece.new.self.log.disk c.pieces.invariant.settings (c.take_piece.ensures.goes h)
    (c.pieces.invariant.moments h k begin tells heads bodies stood a)
    (c.take_piece.ensures.any_moment h k begin tells heads (bodies ++ was.0) stood was.1))

pub returns-then-branch-clause-any_moment : goal.returns-then-branch-clause-any_moment
returns-then-branch-clause-any_moment g c h k begin tells heads bodies stood a =
    let was = c.pieces.invariant.along h k begin tells heads bodies stood a in
    (leaving_on g.D.Disk c.args.self.now.log.log_bytes c.pieces.self.log.log_bytes (g.S.Source.state c.pieces.source) (g.S.Source.state c.take_piece.new.source)
    c.args.self.now.log.disk c.pieces.self.log.disk c.take_piece.new.self.log.disk c.pieces.invariant.settings (c.take_piece.ensures.goes h)
    (c.pieces.invariant.moments h k begin tells heads bodies stood a)
    (c.take_piece.ensures.any_moment h k begin tells heads (bodies ++ was.0) stood was.1))
