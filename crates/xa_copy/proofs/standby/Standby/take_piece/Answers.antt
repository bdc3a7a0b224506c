use Rattle.xa_copy.proofs.Following.{goes_on}
use Rattle.xa_copy.proofs.Standing.{goes_along, leaving_piece, lost_along, on_err, stays_on}
use Rattle.xa_copy.proofs.standby.Standby.take_piece.Goals as goal

pub returns-in_err-piece-clause-stays : goal.returns-in_err-piece-clause-stays
returns-in_err-piece-clause-stays g c h k begin tells heads bodies stood a =
    on_err c.from_residual.result _
    (stays_on g.D.Disk bodies stood (g.S.Source.state c.args.source.now) (g.S.Source.state c.read.new.source) c.args.self.now a.is (c.read.ensures.goes h))

pub returns-in_err-ensure_same-clause-stays : goal.returns-in_err-ensure_same-clause-stays
returns-in_err-ensure_same-clause-stays g c h k begin tells heads bodies stood a =
    let before = g.S.Source.state c.args.source.now in
    let now = g.S.Source.state c.ensure_same.new.source in
    on_err c.from_residual-in_err-ensure_same.result _
    (stays_on g.D.Disk bodies stood before now c.args.self.now a.is
    (goes_on before (g.S.Source.state c.read.new.source) now (c.read.ensures.goes h) (c.ensure_same.ensures.goes h)))

pub returns-in_err-all-clause-stays : goal.returns-in_err-all-clause-stays
returns-in_err-all-clause-stays g c h k begin tells heads bodies stood a =
    let before = g.S.Source.state c.args.source.now in
    let mid = g.S.Source.state c.read.new.source in
    let now = g.S.Source.state c.ensure_same.new.source in
    let old = c.args.self.now in
    let piece = c.in_ok-piece.ensures.piece begin bodies a.is.marks (λ _. a.follows) in
    let it = c.in_err-all.ensures.taken k bodies stood a.is.pair a.is.some in
    on_err c.from_residual-in_err-all.result _
    (lost_along g.D.Disk g.S.Source.honest h begin before mid now bodies stood old c.append.new.self c.in_ok-piece.piece a piece
    (goes_on before mid now (c.read.ensures.goes h) (c.ensure_same.ensures.goes h)) (c.ensure_same.ensures.goes h)
    (c.in_ok-ensure_same.ensures.same h begin tells heads) c.append.ensures.log it.0 it.1
    c.in_ok-piece.ensures.taken (c.in_ok-piece.ensures.whole h begin bodies a.is.marks a.follows))

pub returns-clause-takes : goal.returns-clause-takes
returns-clause-takes g c h k begin tells heads bodies stood a =
    let before = g.S.Source.state c.args.source.now in
    let mid = g.S.Source.state c.read.new.source in
    let now = g.S.Source.state c.ensure_same.new.source in
    let piece = c.in_ok-piece.ensures.piece begin bodies a.is.marks (λ _. a.follows) in
    let it = c.in_ok-all.ensures.taken k bodies stood a.is.pair a.is.some in
    goes_along g.D.Disk g.S.Source.honest h begin before mid now bodies stood c.args.self.now c.append.new.self c.in_ok-piece.piece c.in_ok-all.all a piece
    c.in_ok-piece.ensures.format (c.ensure_same.ensures.goes h) (c.in_ok-ensure_same.ensures.same h begin tells heads) c.append.ensures.log it.0 it.1 it.2
    (c.in_ok-piece.ensures.whole h begin bodies a.is.marks a.follows)

pub returns-in_err-all-clause-any_moment : goal.returns-in_err-all-clause-any_moment
returns-in_err-all-clause-any_moment g c h k begin tells heads bodies stood a =
    let before = g.S.Source.state c.args.source.now in
    let mid = g.S.Source.state c.read.new.source in
    let now = g.S.Source.state c.ensure_same.new.source in
    let piece = c.in_ok-piece.ensures.piece begin bodies a.is.marks (λ _. a.follows) in
    leaving_piece g.D.Disk g.S.Source.honest h begin before mid now bodies stood c.args.self.now c.in_ok-piece.piece c.append.new.self.log.disk a piece
    c.in_ok-piece.ensures.format (c.ensure_same.ensures.goes h) (c.in_ok-ensure_same.ensures.same h begin tells heads)
    c.in_ok-piece.ensures.taken (c.in_ok-piece.ensures.whole h begin bodies a.is.marks a.follows) (c.append.ensures.any_moment k bodies stood a.is.pair)

pub returns-clause-any_moment : goal.returns-clause-any_moment
returns-clause-any_moment g c h k begin tells heads bodies stood a =
    let before = g.S.Source.state c.args.source.now in
    let mid = g.S.Source.state c.read.new.source in
    let now = g.S.Source.state c.ensure_same.new.source in
    let piece = c.in_ok-piece.ensures.piece begin bodies a.is.marks (λ _. a.follows) in
    leaving_piece g.D.Disk g.S.Source.honest h begin before mid now bodies stood c.args.self.now c.in_ok-piece.piece c.append.new.self.log.disk a piece
    c.in_ok-piece.ensures.format (c.ensure_same.ensures.goes h) (c.in_ok-ensure_same.ensures.same h begin tells heads)
    c.in_ok-piece.ensures.taken (c.in_ok-piece.ensures.whole h begin bodies a.is.marks a.follows) (c.append.ensures.any_moment k bodies stood a.is.pair)
