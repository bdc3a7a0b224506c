use Rattle.std.proofs.Common.{◌≡◌, ◌∙◌, sym, ℕ, take, drop, arith, length-drop}
use Rattle.std.proofs.lemmas.Slice.Eq.{bytes_eq-Decides}
use Rattle.xa_log.specs.Believed.Chain.{closing}
use Rattle.xa_copy.proofs.Following.{closes_by, follow_on}
use Rattle.xa_copy.proofs.Unbroken.{front_by, whole_by}
use Rattle.xa_copy.proofs.copying.Copying.next_size.Goals as goal

pub returns-then-is_closing-clause-none : goal.returns-then-is_closing-clause-none
returns-then-is_closing-clause-none g c h begin bodies has f none same =
    let now = g.S.Source.state c.read_at.new.self in
    let copying = c.args.self.now in
    let at : ℕ = c.end-at.result in
    let follows = follow_on copying.format bodies begin (g.S.Source.state c.args.source.now) now f (c.in_ok-have.ensures.goes h) in
    let read = c.in_ok-have.ensures.read h in
    let zeros : take 4 c.read_at.new.into ≡ closing = (bytes_eq-Decides (take 4 c.read_at.new.into) closing).0 (sym c.is_closing.ensures ∙ c.if-is_closing.true) in
    let there : take 4 (drop at now.file) ≡ closing = front_by c.read_at.new.into (drop at now.file) c.in_ok-have.have (omega arith) read.bytes ∙ zeros in
    let at_is = c.end-at.ensures ∙ has.end in
    let on = c.is_cut.ensures (drop at now.file) (omega (arith, read.count_is, c.read_at.auto.into, length-drop at now.file)) (omega arith) read.bytes c.if-is_cut.false in
    closes_by copying.format bodies now.file at (follows.holds same) at_is there
    (whole_by copying bodies now.file at has at_is there on)
