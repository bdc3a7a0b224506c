-- What a loop did at its door, where it is known by a part of the door, is said of the part.
use Rattle.std.proofs.Common.{ℕ, List, [], ◌∷◌, Option, Result, ap, inl, inr}
use Rattle.xa_assoc.specs.declared.fault.ConnectFault.{ConnectFault}
use Rattle.xa_desk.specs.Believed.Serving.{Answers}
use Rattle.xa_connection.specs.Believed.Access.{AnswersAllTo, AnswersTo, Permitted}
use Rattle.xa_frame.specs.declared.question.Question.{Question}
use Rattle.xa_frame.specs.declared.reply.Reply.{Reply}
use Rattle.xa_frame.specs.declared.request.Request.{Request}
use Rattle.xa_roles.specs.declared.role.Role.{Role}
use Rattle.xa_users.specs.declared.users.Users.{Users}
use Rattle.xa_reactor.specs.Aside.{Visits}
use Rattle.xa_reactor.specs.Believed.Tending.{Does, DoesOrPosts, HasTended, Table, nobody}
use Rattle.xa_reactor.proofs.Doing.{does_by}

module _ {D E : Type 0} (f : D → E) (posts : ℕ → Request → E → E → Type 0) (users : Option Users)
    (connected : E → Result ℕ ConnectFault → E → Type 0) (called : ℕ → E → Question → Reply → E → Type 0)
    (left : ℕ → E → E → Type 0) where
  answered_one : (session : ℕ) (content : List ℕ) (reply : Reply) (d e : D)
      → Answers (λ x q r y. called session (f x) q r (f y)) d content reply e → Answers (called session) (f d) content reply (f e)
  answered_one session content reply d e (inl h) = inl h
  answered_one session content reply d e (inr (inl h)) = inr (inl (h.0, h.1, h.2, ap f h.3, h.4))
  answered_one session content reply d e (inr (inr (inl h))) = inr (inr (inl (h.0, ap f h.1, h.2)))
  answered_one session content reply d e (inr (inr (inr h))) = inr (inr (inr (h.0, h.1, ap f h.2, h.3, h.4)))

  -- of what a connection may ask
  permitted_one : (standing : Option Role) (session : ℕ) (content : List ℕ) (reply : Reply) (d e : D)
      → Answers (Permitted standing (λ x q r y. called session (f x) q r (f y))) d content reply e
      → Answers (Permitted standing (called session)) (f d) content reply (f e)
  permitted_one standing session content reply d e (inl h) = inl h
  permitted_one standing session content reply d e (inr (inl h)) = inr (inl (h.0, h.1, h.2, ap f h.3, h.4))
  permitted_one standing session content reply d e (inr (inr (inl h))) = inr (inr (inl (h.0, ap f h.1, h.2)))
  permitted_one standing session content reply d e (inr (inr (inr h))) = inr (inr (inr (h.0, h.1, ap f h.2, h.3, h.4)))

  one_to : (standing : Option Role) (session : ℕ) (content : List ℕ) (reply : Reply) (d e : D)
      → AnswersTo standing (λ x q r y. called session (f x) q r (f y)) d content reply e
      → AnswersTo standing (called session) (f d) content reply (f e)
  one_to standing session content reply d e (inl h) = inl (permitted_one standing session content reply d e h)
  one_to standing session content reply d e (inr h) = inr (h.0, h.1, ap f h.2)

  answered : (standing : Option Role) (session : ℕ) (contents : List (List ℕ)) (replies : List Reply) (d e : D)
      → AnswersAllTo standing (λ x q r y. called session (f x) q r (f y)) d contents replies e
      → AnswersAllTo standing (called session) (f d) contents replies (f e)
  answered standing session [] [] d e h = ap f h
  answered standing session [] (r ∷ rs) d e h = absurd h
  answered standing session (c ∷ cs) [] d e h = absurd h
  answered standing session (c ∷ cs) (r ∷ rs) d e h =
      (f h.0, one_to standing session c r d h.0 h.1, answered standing session cs rs h.0 e h.2)

  visited : (content : List ℕ) (reply : Reply) (d e : D)
      → Visits (λ x r y. connected (f x) r (f y)) (λ s x q r y. called s (f x) q r (f y)) (λ s x y. left s (f x) (f y)) content d reply e
      → Visits connected called left content (f d) reply (f e)
  visited content reply d e v = record {
    session = v.session;
    came = f v.came;
    asked = f v.asked;
    connects = v.connects;
    answers = answered_one v.session content reply v.came v.asked v.answers;
    leaves = v.leaves;
  }

  abbrev OnParts : Table → Table → D → D → Type 0
  OnParts a b d e =
      Does users (λ x r y. connected (f x) r (f y)) (λ s x q r y. called s (f x) q r (f y)) (λ s x y. left s (f x) (f y)) a b d e

  does : (a b : Table) (d e : D) → OnParts a b d e → Does users connected called left a b (f d) (f e)
  does a b d e (inl h) =
      inl (record { key = h.key; seat = h.seat; free = h.free; first = h.first; connects = h.connects; puts = h.puts })
  does a b d e (inr (inl h)) = inr (inl (record { fault = h.fault; refuses = h.refuses; same = h.same }))
  does a b d e (inr (inr (inl h))) =
      inr (inr (inl (record {
        key = h.key;
        seat = h.seat;
        has = h.has;
        contents = h.contents;
        replies = h.replies;
        answers = answered h.seat.standing h.seat.session h.contents h.replies d e h.answers;
        same = h.same;
      })))
  does a b d e (inr (inr (inr (inl h)))) =
      inr (inr (inr (inl (record { key = h.key; seat = h.seat; has = h.has; leaves = h.leaves; puts = h.puts }))))
  does a b d e (inr (inr (inr (inr (inl h))))) =
      inr (inr (inr (inr (inl (record {
        content = h.content;
        own = h.own;
        reply = h.reply;
        visits = visited h.content h.reply d e h.visits;
        same = h.same;
      })))))
  does a b d e (inr (inr (inr (inr (inr h))))) = inr (inr (inr (inr (inr (h.0, ap f h.1)))))

  abbrev PartDoes : Table → Table → D → D → Type 0
  PartDoes a b d e =
      DoesOrPosts (λ s q x y. posts s q (f x) (f y)) users (λ x r y. connected (f x) r (f y))
      (λ s x q r y. called s (f x) q r (f y)) (λ s x y. left s (f x) (f y)) a b d e

  does_or_posts : (a b : Table) (d e : D) → PartDoes a b d e → DoesOrPosts posts users connected called left a b (f d) (f e)
  does_or_posts a b d e (inl h) = inl (does a b d e h)
  does_or_posts a b d e (inr h) =
      inr (record {
        key = h.key;
        seat = h.seat;
        has = h.has;
        request = h.request;
        may = h.may;
        posted = h.posted;
        same = h.same;
      })

  pub has_tended_by : (is_settled : E → Type 0) (d e : D)
      → HasTended (λ s q x y. posts s q (f x) (f y)) users (λ x r y. connected (f x) r (f y))
      (λ s x q r y. called s (f x) q r (f y)) (λ s x y. left s (f x) (f y)) (λ x. is_settled (f x)) d e
      → HasTended posts users connected called left is_settled (f d) (f e)
  has_tended_by is_settled d e h = record {
    tends = does_by f PartDoes (DoesOrPosts posts users connected called left) does_or_posts nobody nobody d e h.tends;
    settled = h.settled;
  }
