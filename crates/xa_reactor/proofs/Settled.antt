-- What a loop does leaves nothing that was posted to be answered, if there was nothing.
use Rattle.std.proofs.Common.{ℕ, List, [], ◌∷◌, Option, Result, Ok, Err, sym, subst, inl, inr}
use Rattle.xa_assoc.specs.declared.fault.ConnectFault.{ConnectFault}
use Rattle.xa_desk.specs.Believed.Serving.{Answers}
use Rattle.xa_connection.specs.Believed.Access.{AnswersAllTo, AnswersTo}
use Rattle.xa_roles.specs.declared.role.Role.{Role}
use Rattle.xa_frame.specs.declared.question.Question.{Question}
use Rattle.xa_frame.specs.declared.question.Question.TheVariants.{Call}
use Rattle.xa_frame.specs.declared.reply.Reply.{Reply}
use Rattle.xa_users.specs.declared.users.Users.{Users}
use Rattle.xa_reactor.specs.Reception.{KeepsSettled}
use Rattle.xa_reactor.specs.Believed.Tending.{Does, Table, Tends}
use Rattle.xa_reactor.proofs.Doing.{does_keep}

module _ {D : Type 0} (users : Option Users) (connected : D → Result ℕ ConnectFault → D → Type 0)
    (called : ℕ → D → Question → Reply → D → Type 0) (left : ℕ → D → D → Type 0) (is_settled : D → Type 0)
    (keeps : KeepsSettled connected called left is_settled) where
  answers_keep : (session : ℕ) (content : List ℕ) (reply : Reply) (d e : D) → Answers (called session) d content reply e
      → is_settled d → is_settled e
  answers_keep session content reply d e (inl h) settled = keeps.call session d e (Call h.0) reply h.2 settled
  answers_keep session content reply d e (inr (inl h)) settled = subst is_settled (sym h.3) settled
  answers_keep session content reply d e (inr (inr (inl h))) settled = subst is_settled (sym h.1) settled
  answers_keep session content reply d e (inr (inr (inr h))) settled = subst is_settled (sym h.2) settled

  one_to_keeps : (standing : Option Role) (session : ℕ) (content : List ℕ) (reply : Reply) (d e : D)
      → AnswersTo standing (called session) d content reply e → is_settled d → is_settled e
  one_to_keeps standing session content reply d e (inl (inl h)) settled = keeps.call session d e (Call h.0) reply h.2.1 settled
  one_to_keeps standing session content reply d e (inl (inr (inl h))) settled = subst is_settled (sym h.3) settled
  one_to_keeps standing session content reply d e (inl (inr (inr (inl h)))) settled = subst is_settled (sym h.1) settled
  one_to_keeps standing session content reply d e (inl (inr (inr (inr h)))) settled = subst is_settled (sym h.2) settled
  one_to_keeps standing session content reply d e (inr h) settled = subst is_settled (sym h.2) settled

  answered_keep : (standing : Option Role) (session : ℕ) (contents : List (List ℕ)) (replies : List Reply) (d e : D)
      → AnswersAllTo standing (called session) d contents replies e → is_settled d → is_settled e
  answered_keep standing session [] [] d e h settled = subst is_settled h settled
  answered_keep standing session [] (r ∷ rs) d e h settled = absurd h
  answered_keep standing session (c ∷ cs) [] d e h settled = absurd h
  answered_keep standing session (c ∷ cs) (r ∷ rs) d e h settled =
      answered_keep standing session cs rs h.0 e h.2 (one_to_keeps standing session c r d h.0 h.1 settled)

  one_keeps : (a b : Table) (d e : D) → Does users connected called left a b d e → is_settled d → is_settled e
  one_keeps a b d e (inl h) settled = keeps.connect d e (Ok h.seat.session) h.connects settled
  one_keeps a b d e (inr (inl h)) settled = keeps.connect d e (Err h.fault) h.refuses settled
  one_keeps a b d e (inr (inr (inl h))) settled =
      answered_keep h.seat.standing h.seat.session h.contents h.replies d e h.answers settled
  one_keeps a b d e (inr (inr (inr (inl h)))) settled = keeps.hangup h.seat.session d e h.leaves settled
  one_keeps a b d e (inr (inr (inr (inr (inr h))))) settled = subst is_settled h.1 settled
  one_keeps a b d e (inr (inr (inr (inr (inl h))))) settled =
      let v = h.visits in
      keeps.hangup v.session v.asked e v.leaves
      (answers_keep v.session h.content h.reply v.came v.asked v.answers (keeps.connect d v.came (Ok v.session) v.connects settled))

  pub still_settled : (a b : Table) (d e : D) → Tends users connected called left a d b e → is_settled d → is_settled e
  still_settled a b d e tends settled = does_keep (Does users connected called left) is_settled one_keeps a b d e tends settled
