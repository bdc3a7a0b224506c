use Rattle.std.proofs.Common.{◌≡◌, ◌+◌, ◌<◌, ◌∷◌, ◌∙◌, List, [], length, drop, ap, sym, subst, arith}
use Rattle.std.proofs.lemmas.List.{at_drop_all, at_drop_more}
use Rattle.xa_manager.specs.declared.together.Joining.{Joining}
use Rattle.xa_manager.specs.Believed.Together.{member_of, members_of}
use Rattle.xa_manager.specs.View.{view_of}
use Rattle.xa_manager.proofs.TookAnswers.{Took, all_took, took_next}
use Rattle.xa_manager.proofs.tables.Tables.take_answers.Goals as goal

pub members-preserved : goal.members-preserved
members-preserved c = record {
  took = λ calls s found together st.
      let js = c.args.members.now in
      let i = c.members.member-index in
      let j = c.member-item.result in
      let all = members_of calls js in
      let less : i < length js = omega (arith, c.members-test.true) in
      let next : drop i js ≡ j ∷ drop (i + 1) js = at_drop_more (λ (l : List Joining). l) js i j less ∙ ap (λ (x : Joining). x ∷ drop (i + 1) js) (sym c.member-item.is) in
      let before : Took c.args.answer s all (member_of calls j ∷ members_of calls (drop (i + 1) js)) (view_of c.members.self)
      = subst (λ (l : List Joining). Took c.args.answer s all (members_of calls l) (view_of c.members.self)) next (c.members.invariant.took calls s found together st) in
      took_next c.args.answer c.members.self c.take_answer.new.self s all (member_of calls j) (members_of calls (drop (i + 1) js)) st.up c.take_answer.ensures.takes c.take_answer.ensures.first before;
  company = c.take_answer.ensures.company ∙ c.members.invariant.company;
}

pub returns-clause-takes : goal.returns-clause-takes
returns-clause-takes c = λ calls s found together st.
    let js = c.args.members.now in
    let i = c.members.member-index in
    let all = members_of calls js in
    let none : drop i js ≡ [] = at_drop_all (λ (l : List Joining). l) js i (omega (arith, c.members-test.false)) in
    all_took c.args.answer s all (view_of c.members.self) found
    (subst (λ (l : List Joining). Took c.args.answer s all (members_of calls l) (view_of c.members.self)) none (c.members.invariant.took calls s found together st))
