use Rattle.std.proofs.Common.{◌≡◌, ◌∙◌, subst, arith, length}
use Rattle.std.proofs.lemmas.List.{nil_from_length}
use Rattle.xa_disk.specs.Disk.{Only}
use Rattle.xa_log.proofs.opening.settle_empty.Goals as goal

pub returns-clause-empty : goal.returns-clause-empty
returns-clause-empty g c h =
    let none : length (g.D.Disk.seen c.args.first.now) ≡ 0 = omega (arith, c.in_ok-len.ensures.value h) in
    let none_second : length (g.D.Disk.seen c.args.second.now) ≡ 0 = omega (arith, c.in_ok-other_len.ensures.value h) in
    (nil_from_length (g.D.Disk.seen c.args.first.now) none, nil_from_length (g.D.Disk.seen c.args.second.now) none_second)

pub returns-clause-durable : goal.returns-clause-durable
returns-clause-durable g c h =
    subst (λ f. Only f (g.D.Disk.may_leave c.sync.new.self)) (c.length-2.ensures.same h ∙ (returns-clause-empty g c h).1) (c.in_ok-sync.ensures.durable h)
