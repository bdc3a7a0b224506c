-- What a connection may ask, content by content.
use Rattle.std.proofs.Common.{◌≡◌, ◌∙◌, ℕ, Bool, true, false, true≢false, List, [], ◌∷◌, ◌++◌, Option, Some, refl, sym, subst, inl, inr}
use Rattle.xa_control.specs.declared.control.Control.{Control}
use Rattle.xa_frame.specs.declared.question.Question.{Question}
use Rattle.xa_frame.specs.declared.reply.Reply.{Reply}
use Rattle.xa_desk.specs.Believed.Serving.{Answers, AnswersAll}
use Rattle.xa_roles.specs.declared.role.Role.{Role}
use Rattle.xa_roles.specs.declared.role.Role.TheVariants.{Operator}
use Rattle.xa_roles.specs.Believed.Roles.{may_ask, may_order}
use Rattle.xa_roles.proofs.Growing.{all_asked, all_ordered}
use Rattle.xa_connection.specs.Believed.Access.{AnswersAllTo, AnswersTo, IsDenied, Permitted}

pub answers-append-to : {D : Type 0} (standing : Option Role) (called : D → Question → Reply → D → Type 0) (d m e : D) (cs ds : List (List ℕ)) (rs qs : List Reply)
    → AnswersAllTo standing called d cs rs m → AnswersAllTo standing called m ds qs e → AnswersAllTo standing called d (cs ++ ds) (rs ++ qs) e
answers-append-to {D} standing called d m e [] ds [] qs h k = subst (λ (x : D). AnswersAllTo standing called x ds qs e) (sym h) k
answers-append-to standing called d m e [] ds (y ∷ rs) qs h k = absurd h
answers-append-to standing called d m e (x ∷ cs) ds [] qs h k = absurd h
answers-append-to standing called d m e (x ∷ cs) ds (y ∷ rs) qs h k = (h.0, h.1, answers-append-to standing called h.0 m e cs ds rs qs h.2 k)

-- an operator is denied nothing
never-denied : (content : List ℕ) → IsDenied (Some Operator) content → ⊥
never-denied content (inl (q, spells, refused)) = true≢false (sym (all_asked q) ∙ refused)
never-denied content (inr (c, spells, refused)) = true≢false (sym (all_ordered c) ∙ refused)

operator-answer : {D : Type 0} (called : D → Question → Reply → D → Type 0) (d e : D) (content : List ℕ) (reply : Reply)
    → AnswersTo (Some Operator) called d content reply e → Answers called d content reply e
operator-answer called d e content reply (inl (inl (q, spells, (may, did)))) = inl (q, spells, did)
operator-answer called d e content reply (inl (inr (inl h))) = inr (inl h)
operator-answer called d e content reply (inl (inr (inr (inl h)))) = inr (inr (inl h))
operator-answer called d e content reply (inl (inr (inr (inr (s, is, same, told, (may, did)))))) = inr (inr (inr (s, is, same, told, did)))
operator-answer called d e content reply (inr (denied, is, same)) = absurd (never-denied content denied)

-- so an operator is answered all that is asked
pub operator-answers : {D : Type 0} (called : D → Question → Reply → D → Type 0) (d e : D) (cs : List (List ℕ)) (rs : List Reply)
    → AnswersAllTo (Some Operator) called d cs rs e → AnswersAll called d cs rs e
operator-answers called d e [] [] h = h
operator-answers called d e [] (r ∷ rs) h = absurd h
operator-answers called d e (c ∷ cs) [] h = absurd h
operator-answers called d e (c ∷ cs) (r ∷ rs) h = (h.0, operator-answer called d h.0 c r h.1, operator-answers called h.0 e cs rs h.2)
