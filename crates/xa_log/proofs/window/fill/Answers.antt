use Rattle.std.proofs.Common.{◌∙◌, refl, arith, ◌+◌, rules}
use Rattle.xa_log.proofs.Cached.{cached}
use Rattle.xa_log.proofs.Fetch.{piece, length-piece, joined, on_fault}
use Rattle.xa_log.proofs.window.fill.Goals as goal

pub returns-in_err-read_at-clause-fetched : goal.returns-in_err-read_at-clause-fetched
returns-in_err-read_at-clause-fetched g c start f =
    let r = c.requires in
    on_fault _ _ c.from_residual.result c.from_residual.ensures.0
    (record {
      bounded = omega arith;
      upto = c.args.at + c.min-have.result;
      fetched = piece c.args.len c.args.span.from c.args.span.have c.args.at c.args.count c.keep_from-kept.result c.min-have.result _ _ start _ _ f r.begins r.reaches r.inside r.within r.fits
          (c.if-covers.ensures.no (search rules) r.begins r.reaches) c.keep_from-kept.ensures.kept (omega arith) (length-piece c.keep_from-kept.new.window c.keep_from-kept.result c.min-have.result (omega arith) (omega arith) (omega arith)) refl c.read_at.ensures.calls;
    })

pub returns-clause-caches : goal.returns-clause-caches
returns-clause-caches g c h first =
    let read = c.in_ok-read_at.ensures.value h in
    joined (g.D.Disk.seen c.args.disk.now) c.keep_from-kept.new.window c.read_at.new.into _ c.args.at c.keep_from-kept.result c.min-have.result (omega arith) (omega arith)
    (c.keep_from-kept.ensures.moved ∙ cached (g.D.Disk.seen c.args.disk.now) c.args.window.now c.args.span c.args.at c.keep_from-kept.result first (record { begins = c.requires.begins; reaches = omega arith }))
    (c.read_at.auto.into ∙ length-piece c.keep_from-kept.new.window c.keep_from-kept.result c.min-have.result (omega arith) (omega arith) (omega arith)) read.bytes_are

pub returns-clause-fetched : goal.returns-clause-fetched
returns-clause-fetched g c start f =
    let r = c.requires in
    piece c.args.len c.args.span.from c.args.span.have c.args.at c.args.count c.keep_from-kept.result c.min-have.result _ _ start _ _ f r.begins r.reaches r.inside r.within r.fits
    (c.if-covers.ensures.no (search rules) r.begins r.reaches) c.keep_from-kept.ensures.kept (omega arith) (length-piece c.keep_from-kept.new.window c.keep_from-kept.result c.min-have.result (omega arith) (omega arith) (omega arith)) (omega arith) c.read_at.ensures.calls
