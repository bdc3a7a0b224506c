use Rattle.std.proofs.Common.{◌∙◌}
use Rattle.xa_copy.proofs.Following.{goes_on}
use Rattle.xa_copy.proofs.piece.Piece.read.Goals as goal

pub records-preserved : goal.records-preserved
records-preserved g c =
    let was = c.records.invariant in
    let now = c.in_ok-read_more.ensures in
    record {
      going = now.more c.if-not-branch.false;
      format = now.format ∙ was.format;
      on_first = now.on_first ∙ was.on_first;
      taken = now.taken was.taken;
      goes = λ h. goes_on (g.S.Source.state c.args.source.now) (g.S.Source.state c.records.source) (g.S.Source.state c.read_more.new.source) (was.goes h) (now.goes h);
      piece = λ begin bodies marks follows. now.piece begin bodies (was.piece begin bodies marks follows);
    }

pub returns-then-not-branch-clause-piece : goal.returns-then-not-branch-clause-piece
returns-then-not-branch-clause-piece g c begin bodies marks follows =
    c.in_ok-read_more.ensures.piece begin bodies (c.records.invariant.piece begin bodies marks follows)

pub returns-then-not-branch-clause-whole : goal.returns-then-not-branch-clause-whole
returns-then-not-branch-clause-whole g c h begin bodies marks follows =
    c.in_ok-read_more.ensures.whole h begin bodies (c.records.invariant.piece begin bodies marks (λ _. follows)) c.if-not-branch.true
