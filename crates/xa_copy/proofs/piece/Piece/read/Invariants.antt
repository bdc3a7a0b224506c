use Rattle.std.proofs.Common.{◌≡◌, false, List, ℕ}
use Rattle.xa_copy.specs.Follows.{AreTaken, IsPiece, taken}
use Rattle.xa_copy.specs.Marks.{Marks}
use Rattle.xa_copy.specs.Moving.{Goes, State}
use Rattle.xa_copy.specs.Progress.{Follows}
use Rattle.xa_copy.proofs.piece.Piece.read.Given as goal

abbrev pub invariant-records : goal.invariant-records
invariant-records g l = record {
  going : l.piece.is_last ≡ false;
  format : l.piece.at.format ≡ l.fn.at.format;
  on_first : l.piece.at.on_first ≡ l.fn.at.on_first;
  taken : AreTaken l.piece.at.format (taken l.piece);
  goes : g.S.Source.honest → Goes (g.S.Source.state l.fn.source) (g.S.Source.state l.source);
  piece : (begin : State) (bodies : List (List ℕ)) → Marks bodies l.fn.at
      → (g.S.Source.honest → Follows l.fn.at.format bodies begin (g.S.Source.state l.fn.source))
      → IsPiece g.S.Source.honest begin (g.S.Source.state l.source) bodies l.piece;
}
