use Rattle.std.proofs.Common.{◌≡◌, ◌∷◌, ◌++◌, ◌∙◌, [], refl, sym, ap, subst, arith, List, ℕ, take, drop}
use Rattle.xa_copy.specs.Marks.{Marks}
use Rattle.xa_copy.specs.Progress.{Closes, Follows}
use Rattle.xa_copy.specs.declared.copying.Copying.{Copying}
use Rattle.xa_copy.proofs.Following.{follow_on, stands_more, stands_roomed}
use Rattle.xa_copy.proofs.Reading.{body_taken, has_resumed, stands_resumed}
use Rattle.xa_copy.proofs.piece.read_next.Goals as goal

pub returns-in_default-clause-next : goal.returns-in_default-clause-next
returns-in_default-clause-next g c begin bodies marks follows h =
    let old = g.S.Source.state c.args.source.now in
    let now = g.S.Source.state c.next_size.new.source in
    let at = c.args.at.now in
    let copying = c.in_ok-copying.copying in
    let same = c.in_ok-copying.ensures.same in
    let f = subst (λ k. Follows k bodies begin old) (sym same.format) (follows h) in (
      follow_on at.format bodies begin old now (follows h) (c.next_size.ensures.goes h),
      λ life. subst (λ k. Closes k bodies now.file) same.format
          (c.in_ok-size.ensures.none h begin bodies (has_resumed bodies at copying marks same) f c.in_default.is life),
    )

pub returns-clause-next : goal.returns-clause-next
returns-clause-next g c begin bodies marks follows =
    let before = g.S.Source.state c.args.source.now in
    let mid = g.S.Source.state c.next_size.new.source in
    let now = g.S.Source.state c.take_record.new.source in
    let at = c.args.at.now in
    let copying = c.in_ok-copying.copying in
    let same = c.in_ok-copying.ensures.same in
    let stands = stands_resumed g.S.Source.honest begin before mid bodies at copying marks same follows c.next_size.ensures.goes
    (λ h goes f. follow_on at.format bodies begin before mid f goes) in
    let old : Copying = record copying { gather = record copying.gather { buffer = c.resize.new.self } } in
    let roomed = stands_roomed g.S.Source.honest ⊥ begin mid [] [] bodies copying old.gather stands refl (λ k. absurd k) in
    let takes = c.in_ok-take_record.ensures.takes c.if-not-branch.false in
    let new = c.take_record.new.self in
    let all = stands_more g.S.Source.honest ⊥ begin mid now [] bodies old new at.end roomed c.take_record.ensures.goes (omega (arith, same.pending, same.written)) takes in
    let body : c.in_ok-body.body.items ≡ takes.body =
    c.in_ok-body.ensures ∙ ap (λ (l : List ℕ). take c.in-Some.size (drop 4 l)) c.deref.ensures.value
    ∙ body_taken g.S.Source.honest at.end c.in-Some.size now old new takes same.pending (c.in_ok-take_record.ensures.same c.if-not-branch.false) in
    let is : bodies ++ takes.body ∷ [] ≡ bodies ++ c.in_ok-body.body.items ∷ [] = ap (λ (b : List ℕ). bodies ++ b ∷ []) (sym body) in (
      subst (λ l. Marks l c.mark_of.result) is (c.mark_of.ensures.marks (bodies ++ takes.body ∷ []) all.has),
      λ h. subst (λ k. Follows k (bodies ++ c.in_ok-body.body.items ∷ []) begin now) (sym c.mark_of.ensures.format)
          (subst (λ l. Follows new.format l begin now) is (all.follows h)),
    )
