use Rattle.std.proofs.Common.{◌∙◌}
use Rattle.xa_copy.proofs.Following.{goes_on}
use Rattle.xa_copy.proofs.Renewing.{above_by, anew_along, anew_followed, anew_not, beside_on, fresh_was, keeps_anew, leaving_anew, leaving_not}
use Rattle.xa_copy.proofs.Rounds.{beside_by}
use Rattle.xa_copy.proofs.Standing.{on_err}
use Rattle.xa_copy.proofs.standby.Standby.follow_anew.Goals as goal

pub returns-in_err-snapshot-clause-stays : goal.returns-in_err-snapshot-clause-stays
returns-in_err-snapshot-clause-stays g c h k tells heads bodies stood other s =
    on_err c.from_residual.result _
    (beside_on g.D.Disk c.args.on_first (g.S.Source.state c.args.source.now) (g.S.Source.state c.read.new.source) other bodies stood c.args.self.now s
    (c.read.ensures.goes h))

pub returns-in_err-ensure_same-clause-stays : goal.returns-in_err-ensure_same-clause-stays
returns-in_err-ensure_same-clause-stays g c h k tells heads bodies stood other s =
    let begin = g.S.Source.state c.args.source.now in
    let now = g.S.Source.state c.ensure_same.new.source in
    on_err c.from_residual-in_err-ensure_same.result _
    (beside_on g.D.Disk c.args.on_first begin now other bodies stood c.args.self.now s
    (goes_on begin (g.S.Source.state c.read.new.source) now (c.read.ensures.goes h) (c.ensure_same.ensures.goes h)))

pub returns-in_err-begin_anew-clause-stays : goal.returns-in_err-begin_anew-clause-stays
returns-in_err-begin_anew-clause-stays g c h k tells heads bodies stood other s =
    let begin = g.S.Source.state c.args.source.now in
    let mid = g.S.Source.state c.read.new.source in
    let now = g.S.Source.state c.ensure_same.new.source in
    let goes = goes_on begin mid now (c.read.ensures.goes h) (c.ensure_same.ensures.goes h) in
    let snapshot = c.in_ok-snapshot.ensures.snapshot h heads in
    let on = c.ensure_same.ensures.goes h in
    let whole = c.in_ok-snapshot.ensures.whole h heads in
    let it = c.in_err-begin_anew.ensures.begins k bodies stood s.pair in
    on_err c.from_residual-in_err-begin_anew.result _
    (anew_not g.D.Disk c.args.on_first begin mid now other bodies stood c.in_ok-snapshot.snapshot c.args.self.now c.begin_anew.new.self s snapshot on whole goes
    (c.in_ok-ensure_same.ensures.same h begin tells heads) (c.in_ok-ensure_same.ensures.tells h) it.0 it.1 it.2)

pub returns-in_err-take_all-clause-stays : goal.returns-in_err-take_all-clause-stays
returns-in_err-take_all-clause-stays g c h k tells heads bodies stood other s =
    let begin = g.S.Source.state c.args.source.now in
    let mid = g.S.Source.state c.read.new.source in
    let now = g.S.Source.state c.ensure_same.new.source in
    let snapshot = c.in_ok-snapshot.ensures.snapshot h heads in
    let on = c.ensure_same.ensures.goes h in
    let whole = c.in_ok-snapshot.ensures.whole h heads in
    let it = c.in_ok-begin_anew.ensures.begins k bodies stood s.pair in
    let a = anew_along g.D.Disk begin mid now bodies c.in_ok-snapshot.snapshot c.begin_anew.new.self snapshot on whole
    (c.in_ok-ensure_same.ensures.same h begin tells heads) (c.in_ok-ensure_same.ensures.tells h) it.0 it.1 it.2 it.3 in
    on_err c.from_residual-in_err-take_all.result _
    (beside_by g.D.Disk c.args.on_first (g.S.Source.state c.take_all.new.source) other bodies c.in_ok-snapshot.snapshot.bodies.items c.take_all.new.self
    (c.in_err-take_all.ensures.stays h k begin tells heads c.in_ok-snapshot.snapshot.bodies.items bodies a)
    (c.take_all.ensures.on_first ∙ c.in_ok-begin_anew.ensures.on_first ∙ c.in_ok-snapshot.ensures.on_first)
    (keeps_anew bodies c.in_ok-snapshot.snapshot.bodies.items it.3 (above_by _ _ _ it.4 s.pair.current.number)))

pub returns-clause-follows : goal.returns-clause-follows
returns-clause-follows g c h k tells heads bodies stood other s =
    let begin = g.S.Source.state c.args.source.now in
    let mid = g.S.Source.state c.read.new.source in
    let now = g.S.Source.state c.ensure_same.new.source in
    let snapshot = c.in_ok-snapshot.ensures.snapshot h heads in
    let on = c.ensure_same.ensures.goes h in
    let whole = c.in_ok-snapshot.ensures.whole h heads in
    let it = c.in_ok-begin_anew.ensures.begins k bodies stood s.pair in
    let a = anew_along g.D.Disk begin mid now bodies c.in_ok-snapshot.snapshot c.begin_anew.new.self snapshot on whole
    (c.in_ok-ensure_same.ensures.same h begin tells heads) (c.in_ok-ensure_same.ensures.tells h) it.0 it.1 it.2 it.3 in
    anew_followed g.D.Disk begin (g.S.Source.state c.take_all.new.source) bodies c.in_ok-snapshot.snapshot.bodies.items bodies c.take_all.new.self
    (c.in_ok-take_all.ensures.all h k begin tells heads c.in_ok-snapshot.snapshot.bodies.items bodies a) it.3
    (above_by _ _ _ it.4 s.pair.current.number)

pub returns-in_err-begin_anew-clause-any_moment : goal.returns-in_err-begin_anew-clause-any_moment
returns-in_err-begin_anew-clause-any_moment g c h k tells heads bodies stood other s =
    let begin = g.S.Source.state c.args.source.now in
    let mid = g.S.Source.state c.read.new.source in
    let now = g.S.Source.state c.ensure_same.new.source in
    let snapshot = c.in_ok-snapshot.ensures.snapshot h heads in
    let on = c.ensure_same.ensures.goes h in
    let whole = c.in_ok-snapshot.ensures.whole h heads in
    let same = c.in_ok-ensure_same.ensures.same h begin tells heads in
    let tells' = c.in_ok-ensure_same.ensures.tells h in
    leaving_not g.D.Disk stood c.in_ok-snapshot.snapshot now c.args.self.now.log c.begin_anew.new.self.log
    (λ some. fresh_was g.D.Disk begin mid now c.in_ok-snapshot.snapshot snapshot on whole same tells' some)
    (c.in_err-begin_anew.ensures.any_moment k bodies stood s.pair)

pub returns-in_err-take_all-clause-any_moment : goal.returns-in_err-take_all-clause-any_moment
returns-in_err-take_all-clause-any_moment g c h k tells heads bodies stood other s =
    let begin = g.S.Source.state c.args.source.now in
    let mid = g.S.Source.state c.read.new.source in
    let now = g.S.Source.state c.ensure_same.new.source in
    let snapshot = c.in_ok-snapshot.ensures.snapshot h heads in
    let on = c.ensure_same.ensures.goes h in
    let whole = c.in_ok-snapshot.ensures.whole h heads in
    let same = c.in_ok-ensure_same.ensures.same h begin tells heads in
    let tells' = c.in_ok-ensure_same.ensures.tells h in
    let it = c.in_ok-begin_anew.ensures.begins k bodies stood s.pair in
    let leaves = c.in_ok-begin_anew.ensures.any_moment k bodies stood s.pair in
    let a = anew_along g.D.Disk begin mid now bodies c.in_ok-snapshot.snapshot c.begin_anew.new.self snapshot on whole same tells' it.0 it.1 it.2 it.3 in
    leaving_anew g.D.Disk stood c.in_ok-snapshot.snapshot now (g.S.Source.state c.take_all.new.source) c.args.self.now.log c.begin_anew.new.self.log c.take_all.new.self.log
    (c.take_all.ensures.goes h) (fresh_was g.D.Disk begin mid now c.in_ok-snapshot.snapshot snapshot on whole same tells' it.3)
    leaves.0 c.take_all.ensures.beside c.begin_anew.ensures.settings leaves.1
    (c.take_all.ensures.any_moment h k begin tells heads c.in_ok-snapshot.snapshot.bodies.items bodies a)

pub returns-clause-any_moment : goal.returns-clause-any_moment
returns-clause-any_moment g c h k tells heads bodies stood other s =
    let begin = g.S.Source.state c.args.source.now in
    let mid = g.S.Source.state c.read.new.source in
    let now = g.S.Source.state c.ensure_same.new.source in
    let snapshot = c.in_ok-snapshot.ensures.snapshot h heads in
    let on = c.ensure_same.ensures.goes h in
    let whole = c.in_ok-snapshot.ensures.whole h heads in
    let same = c.in_ok-ensure_same.ensures.same h begin tells heads in
    let tells' = c.in_ok-ensure_same.ensures.tells h in
    let it = c.in_ok-begin_anew.ensures.begins k bodies stood s.pair in
    let leaves = c.in_ok-begin_anew.ensures.any_moment k bodies stood s.pair in
    let a = anew_along g.D.Disk begin mid now bodies c.in_ok-snapshot.snapshot c.begin_anew.new.self snapshot on whole same tells' it.0 it.1 it.2 it.3 in
    leaving_anew g.D.Disk stood c.in_ok-snapshot.snapshot now (g.S.Source.state c.take_all.new.source) c.args.self.now.log c.begin_anew.new.self.log c.take_all.new.self.log
    (c.take_all.ensures.goes h) (fresh_was g.D.Disk begin mid now c.in_ok-snapshot.snapshot snapshot on whole same tells' it.3)
    leaves.0 c.take_all.ensures.beside c.begin_anew.ensures.settings leaves.1
    (c.take_all.ensures.any_moment h k begin tells heads c.in_ok-snapshot.snapshot.bodies.items bodies a)
