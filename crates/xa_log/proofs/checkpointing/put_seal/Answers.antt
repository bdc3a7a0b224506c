use Rattle.std.proofs.Common.{◌≡◌, List, ℕ, length, subst, ap}
use Rattle.xa_disk.specs.Disk.{Torn, Passes}
use Rattle.xa_disk.specs.Images.{torn_same}
use Rattle.xa_log.proofs.Ready.{leaves_by}
use Rattle.xa_log.proofs.Parts.{seal_sealed}
use Rattle.xa_log.proofs.checkpointing.put_seal.Goals as goal

pub returns-clause-any_moment : goal.returns-clause-any_moment
returns-clause-any_moment g c h most format bodies ready size fits durable =
    let n : length c.to_be_bytes-bytes.result ≡ 4 = ap (λ (l : List ℕ). length l) c.to_be_bytes-bytes.ensures in
    leaves_by g.D.Disk c.args.disk.now c.put_or_clear.new.disk (Torn 8 4) _ (g.met.D.Disk.only_now c.args.disk.now) (torn_same 8 4)
    (λ d x left torn.
    let torn_file : Torn 8 4 (g.D.Disk.seen c.args.disk.now) x = subst (λ f. Torn 8 4 f x) (durable d left) torn in
    seal_sealed format bodies (g.D.Disk.seen c.args.disk.now) ready most x fits torn_file)
    (subst (λ k. Passes (Torn 8 k) (g.D.Disk.moment c.args.disk.now) (g.D.Disk.moment c.put_or_clear.new.disk) (g.D.Disk.left_since c.args.disk.now)
    (g.D.Disk.left_since c.put_or_clear.new.disk) (g.D.Disk.may_leave c.args.disk.now) (g.D.Disk.may_leave c.put_or_clear.new.disk)) n (c.put_or_clear.ensures.time h))
