use Rattle.std.proofs.Common.{◌∙◌, refl}
use Rattle.xa_copy.proofs.Following.{goes_on, goes_stay}
use Rattle.xa_copy.proofs.Renewing.{held_none, snapshot_none}
use Rattle.xa_copy.proofs.snapshot.Snapshot.read.Goals as goal

pub records-init : goal.records-init
records-init g c =
    let begin = g.S.Source.state c.args.source.now in
    let none = c.none_of.ensures in
    record {
      held = held_none _ c.new.ensures.items refl;
      on_first = none.on_first;
      goes = λ h. goes_stay begin;
      snapshot = λ h heads. snapshot_none begin c.args.head.now _ c.new.ensures.items none.marks none.format heads;
    }

pub returns-then-not-branch-clause-snapshot : goal.returns-then-not-branch-clause-snapshot
returns-then-not-branch-clause-snapshot g c h heads =
    c.in_ok-read_more.ensures.snapshot h (g.S.Source.state c.args.source.now) (c.records.invariant.snapshot h heads)

pub records-preserved : goal.records-preserved
records-preserved g c =
    let was = c.records.invariant in
    let now = c.in_ok-read_more.ensures in
    record {
      held = now.held was.held;
      on_first = now.on_first ∙ was.on_first;
      goes = λ h.
          goes_on (g.S.Source.state c.args.source.now) (g.S.Source.state c.records.source) (g.S.Source.state c.read_more.new.source) (was.goes h) (now.goes h);
      snapshot = λ h heads. now.snapshot h (g.S.Source.state c.args.source.now) (was.snapshot h heads);
    }

pub returns-then-not-branch-clause-whole : goal.returns-then-not-branch-clause-whole
returns-then-not-branch-clause-whole g c h heads =
    c.in_ok-read_more.ensures.whole h (g.S.Source.state c.args.source.now) (c.records.invariant.snapshot h heads) c.if-not-branch.true
