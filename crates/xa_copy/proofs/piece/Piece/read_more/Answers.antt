use Rattle.std.proofs.Common.{◌++◌, ◌∷◌, ◌∙◌, [], ap, subst, sym, List, ℕ}
use Rattle.std.specs.Prelude.{slice_index}
use Rattle.xa_log.specs.Believed.Damage.{is_appended}
use Rattle.xa_copy.specs.Moving.{HasLog}
use Rattle.xa_copy.proofs.Appends.{only_closed, only_next}
use Rattle.xa_copy.specs.Follows.{taken}
use Rattle.xa_copy.proofs.Reading.{piece_more}
use Rattle.xa_copy.proofs.piece.Piece.read_more.Goals as goal

pub returns-in_default-clause-piece : goal.returns-in_default-clause-piece
returns-in_default-clause-piece g c begin bodies p =
    let n = rw c.in_default.is at (c.in_ok-next.ensures.next begin (bodies ++ taken c.args.self.now) p.marks p.follows) in
    record { marks = p.marks; follows = λ h. (n h).0; closes = λ last h. (n h).1 }

pub returns-clause-piece : goal.returns-clause-piece
returns-clause-piece g c begin bodies p =
    let n = rw c.in-Some.is at (c.in_ok-next.ensures.next begin (bodies ++ taken c.args.self.now) p.marks p.follows) in
    piece_more g.S.Source.honest begin (g.S.Source.state c.read_next.new.source) bodies c.args.self.now _ c.in-Some.next.body c.in_ok-push.ensures.items
    c.requires n.0 n.1

pub returns-in_default-clause-whole : goal.returns-in_default-clause-whole
returns-in_default-clause-whole g c h begin bodies p done life =
    let old = c.args.self.now in
    let n = rw c.in_default.is at (c.in_ok-next.ensures.next begin (bodies ++ taken old) p.marks p.follows) in
    only_closed old.at.format (bodies ++ taken old) (g.S.Source.state c.read_next.new.source).file ((n h).1 life)

pub returns-then-saturating_sub-gt-MOST_READ-clause-whole : goal.returns-then-saturating_sub-gt-MOST_READ-clause-whole
returns-then-saturating_sub-gt-MOST_READ-clause-whole g c h begin bodies p done life =
    let old = c.args.self.now in
    let now = g.S.Source.state c.read_next.new.source in
    let n = rw c.in-Some.is at (c.in_ok-next.ensures.next begin (bodies ++ taken old) p.marks p.follows) in
    let format = rw c.in-Some.is at c.in_ok-next.ensures.format in
    only_next old.at.format (bodies ++ taken old) c.in-Some.next.body.items now.file
    (subst (λ f. HasLog f ((bodies ++ taken old) ++ c.in-Some.next.body.items ∷ []) now.file) format ((n.1 h).holds life))
    (ap (λ (l : List ℕ). is_appended (slice_index l 0)) (sym c.deref.ensures.value) ∙ sym c.begins_appended.ensures ∙ c.if-not-begins_appended.false)
