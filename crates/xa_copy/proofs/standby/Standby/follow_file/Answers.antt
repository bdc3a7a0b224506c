use Rattle.std.proofs.Common.{◌≡◌, ◌∙◌, inl, arith}
use Rattle.xa_log.specs.Believed.Generation.{generation}
use Rattle.xa_copy.specs.Heads.{Heads}
use Rattle.xa_copy.proofs.Finishing.{life_by}
use Rattle.xa_copy.proofs.Rounds.{along_by, beside_by, followed_by, same_side}
use Rattle.xa_copy.proofs.Standing.{on_err}
use Rattle.xa_copy.proofs.standby.Standby.follow_file.Goals as goal

pub returns-in_err-take_all-clause-stays : goal.returns-in_err-take_all-clause-stays
returns-in_err-take_all-clause-stays g c h k tells is_head bodies stood other s =
    let begin = g.S.Source.state c.args.source.now in
    let now = g.S.Source.state c.take_all.new.source in
    let heads : Heads begin.file c.in-Some.head = rw c.in-Some.is at is_head in
    let number = s.pair.current.number in
    let lives = life_by begin c.in-Some.head tells heads in
    let life : begin.life ≡ generation bodies =
    omega (arith, lives, number, c.if-head-generation.false, c.if-head-generation-2.false, c.generation.ensures, c.generation-2.ensures) in
    let mine = same_side c.args.on_first c.args.self.now.copied.on_first c.if-on_first-self.false in
    let a = along_by g.D.Disk c.args.on_first begin other bodies stood c.args.self.now s mine life in
    on_err c.from_residual-in_err-take_all.result _
    (beside_by g.D.Disk c.args.on_first now other bodies bodies c.take_all.new.self (c.in_err-take_all.ensures.stays h k begin tells heads bodies stood a)
    (c.take_all.ensures.on_first ∙ mine) (λ l kept. inl kept))

pub returns-clause-follows : goal.returns-clause-follows
returns-clause-follows g c h k tells is_head bodies stood other s =
    let begin = g.S.Source.state c.args.source.now in
    let now = g.S.Source.state c.take_all.new.source in
    let heads : Heads begin.file c.in-Some.head = rw c.in-Some.is at is_head in
    let number = s.pair.current.number in
    let lives = life_by begin c.in-Some.head tells heads in
    let life : begin.life ≡ generation bodies =
    omega (arith, lives, number, c.if-head-generation.false, c.if-head-generation-2.false, c.generation.ensures, c.generation-2.ensures) in
    let mine = same_side c.args.on_first c.args.self.now.copied.on_first c.if-on_first-self.false in
    let a = along_by g.D.Disk c.args.on_first begin other bodies stood c.args.self.now s mine life in
    followed_by g.D.Disk begin now bodies stood c.take_all.new.self (c.in_ok-take_all.ensures.all h k begin tells heads bodies stood a)

pub returns-in_err-follow_anew-clause-stays : goal.returns-in_err-follow_anew-clause-stays
returns-in_err-follow_anew-clause-stays g c h k tells is_head bodies stood other s =
    let begin = g.S.Source.state c.args.source.now in
    let heads : Heads begin.file c.in-Some.head = rw c.in-Some.is at is_head in
    on_err c.from_residual.result _ (c.in_err-follow_anew.ensures.stays h k tells heads bodies stood other s)

pub returns-then-head-generation-clause-follows : goal.returns-then-head-generation-clause-follows
returns-then-head-generation-clause-follows g c h k tells is_head bodies stood other s =
    let begin = g.S.Source.state c.args.source.now in
    let heads : Heads begin.file c.in-Some.head = rw c.in-Some.is at is_head in
    c.in_ok-follow_anew.ensures.follows h k tells heads bodies stood other s

pub returns-in_err-follow_anew-clause-any_moment : goal.returns-in_err-follow_anew-clause-any_moment
returns-in_err-follow_anew-clause-any_moment g c h k tells is_head bodies stood other s =
    let begin = g.S.Source.state c.args.source.now in
    let heads : Heads begin.file c.in-Some.head = rw c.in-Some.is at is_head in
    c.follow_anew.ensures.any_moment h k tells heads bodies stood other s

pub returns-then-head-generation-clause-any_moment : goal.returns-then-head-generation-clause-any_moment
returns-then-head-generation-clause-any_moment g c h k tells is_head bodies stood other s =
    let begin = g.S.Source.state c.args.source.now in
    let heads : Heads begin.file c.in-Some.head = rw c.in-Some.is at is_head in
    c.follow_anew.ensures.any_moment h k tells heads bodies stood other s

pub returns-in_err-take_all-clause-any_moment : goal.returns-in_err-take_all-clause-any_moment
returns-in_err-take_all-clause-any_moment g c h k tells is_head bodies stood other s =
    let begin = g.S.Source.state c.args.source.now in
    let heads : Heads begin.file c.in-Some.head = rw c.in-Some.is at is_head in
    let number = s.pair.current.number in
    let lives = life_by begin c.in-Some.head tells heads in
    let life : begin.life ≡ generation bodies =
    omega (arith, lives, number, c.if-head-generation.false, c.if-head-generation-2.false, c.generation.ensures, c.generation-2.ensures) in
    let mine = same_side c.args.on_first c.args.self.now.copied.on_first c.if-on_first-self.false in
    let a = along_by g.D.Disk c.args.on_first begin other bodies stood c.args.self.now s mine life in
    inl (c.take_all.ensures.beside, c.take_all.ensures.any_moment h k begin tells heads bodies stood a)

pub returns-clause-any_moment : goal.returns-clause-any_moment
returns-clause-any_moment g c h k tells is_head bodies stood other s =
    let begin = g.S.Source.state c.args.source.now in
    let heads : Heads begin.file c.in-Some.head = rw c.in-Some.is at is_head in
    let number = s.pair.current.number in
    let lives = life_by begin c.in-Some.head tells heads in
    let life : begin.life ≡ generation bodies =
    omega (arith, lives, number, c.if-head-generation.false, c.if-head-generation-2.false, c.generation.ensures, c.generation-2.ensures) in
    let mine = same_side c.args.on_first c.args.self.now.copied.on_first c.if-on_first-self.false in
    let a = along_by g.D.Disk c.args.on_first begin other bodies stood c.args.self.now s mine life in
    inl (c.take_all.ensures.beside, c.take_all.ensures.any_moment h k begin tells heads bodies stood a)
