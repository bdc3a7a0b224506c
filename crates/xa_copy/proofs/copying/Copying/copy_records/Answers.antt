use Rattle.std.proofs.Common.{◌∙◌}
use Rattle.xa_copy.proofs.Following.{ends_by, goes_on}
use Rattle.xa_copy.proofs.copying.Copying.copy_records.Goals as goal

pub records-preserved : goal.records-preserved
records-preserved g c =
    let was = c.records.invariant in
    let now = c.in_ok-copy_record.ensures in
    record {
      within = now.within;
      goes = λ h. goes_on (g.S.Source.state c.args.source.now) (g.S.Source.state c.records.source) (g.S.Source.state c.copy_record.new.source) (was.goes h) (now.goes h);
      format = now.format ∙ was.format;
      stands = λ begin bodies s.
          let there = was.stands begin bodies s in
          let next = rw c.if-branch.true at (now.steps begin there.0 there.1) in (_, next.1);
    }

pub returns-clause-ends : goal.returns-clause-ends
returns-clause-ends g c begin bodies s =
    let there = c.records.invariant.stands begin bodies s in
    let now = c.in_ok-copy_record.ensures in
    ends_by g.S.Source.honest g.D.Disk.honest begin (g.S.Source.state c.copy_record.new.source) (g.D.Disk.seen c.copy_record.new.to) c.copy_record.new.self there.0
    (rw c.if-branch.false at (now.steps begin there.0 there.1))
