-- What loops did at their posts, said of their accounts.
use Rattle.std.proofs.Common.{◌≡◌, ◌∙◌, ℕ, suc, arith, length, map, Bool, true, false, not, List, [], ◌∷◌, ◌++◌, Option, Result, Ok, Err, refl, sym, ap, inl, inr}
use Rattle.std.specs.List.{AllByRecursion}
use Rattle.std.specs.Prelude.{sum_by}
use Rattle.std.proofs.lemmas.List.Sums.{sum_by-cons}
use Rattle.xa_assoc.specs.Refusals.{is_memory}
use Rattle.xa_assoc.specs.declared.fault.ConnectFault.{ConnectFault}
use Rattle.xa_desk.specs.Believed.Serving.{Answers}
use Rattle.xa_connection.specs.Believed.Access.{AnswersAllTo, AnswersTo}
use Rattle.xa_roles.specs.declared.role.Role.{Role}
use Rattle.xa_frame.specs.declared.reply.Reply.{Reply}
use Rattle.xa_frame.specs.declared.question.Question.{Question}
use Rattle.xa_frame.specs.declared.question.Question.TheVariants.{Call, Status}
use Rattle.xa_handles.specs.Believed.Accounts.{AsksAtOnce, Ends, HasAsked}
use Rattle.xa_manager.specs.Believed.Answered.{connect_reply}
use Rattle.xa_model.specs.State.{State}
use Rattle.xa_model.specs.declared.event.Event.{Event}
use Rattle.xa_model.specs.declared.event.Event.TheVariants.{Connect, Hangup}
use Rattle.xa_reactor.specs.declared.loops.Ended.{Ended}
use Rattle.xa_reactor.specs.Believed.Tending.{Does, DoesOrPosts, HaveTended, Table, nobody}
use Rattle.xa_reactor.proofs.Doing.{does_keep}
use Rattle.xa_reactor.proofs.Parts.{has_tended_by}
use Rattle.xa_history.specs.Believed.Manages.{Behaviour}
use Rattle.xa_server.specs.Believed.Loops.{AllLoop, Called, Connected, HasLooped, IsFresh, Left, Posted}
use Rattle.xa_tokens.specs.Believed.Account.{Account, Owes}
use Rattle.xa_tokens.specs.declared.ask.Ask.{Ask}
use Rattle.xa_tokens.specs.declared.receipt.Receipt.{Receipt}
use Rattle.xa_users.specs.declared.users.Users.{Users}

-- ---- accounts by which nothing was asked

owes_none : (a : Account) → IsFresh a → Owes a 0
owes_none a h =
    let asked : length a.asked ≡ 0 = ap (λ (xs : List Ask). length xs) h.0 in
    let told : length a.told ≡ 0 = ap (λ (xs : List Receipt). length xs) h.1 in
    let given_up : length a.given_up ≡ 0 = ap (λ (xs : List Ask). length xs) h.2 in
    omega (arith, asked, told, given_up)

pub fresh_more : {A : Type 0} (f : A → Account) (xs : List A) (x : A) → AllByRecursion IsFresh (map f xs) → IsFresh (f x)
    → AllByRecursion IsFresh (map f (xs ++ x ∷ []))
fresh_more f [] x all one = (one, tt)
fresh_more f (y ∷ ys) x all one = (all.0, fresh_more f ys x all.1 one)

-- ---- a share keeps its parts

parts_at_once : (is_none : Bool) (a : Account) (event : Event) (reply : Reply) (b : Account) → AsksAtOnce is_none a event reply b
    → b.parts ≡ a.parts
parts_at_once true a event reply b h = ap (λ (x : Account). x.parts) h
parts_at_once false a event reply b h = ap (λ (x : Account). x.parts) h.0

parts_ended : (is_none : Bool) (a : Account) (ask : Ask) (reply : Reply) (b : Account) → Ends is_none a ask reply b → b.parts ≡ a.parts
parts_ended true a ask reply b h = ap (λ (x : Account). x.parts) h
parts_ended false a ask reply b h = ap (λ (x : Account). x.parts) h.0

parts_asked : (a : Account) (ask : Ask) (b : Account) → HasAsked a ask b → b.parts ≡ a.parts
parts_asked a ask b (inl h) = ap (λ (x : Account). x.parts) h.1
parts_asked a ask b (inr h) = ap (λ (x : Account). x.parts) h.0

module _ {M : Type 0} (m : Behaviour M) (start : State → Type 0) (base : ℕ × ℕ) (users : Option Users) where
  parts_called : (session : ℕ) (a : Account) (question : Question) (reply : Reply) (b : Account)
      → Called m start base session a question reply b → b.parts ≡ a.parts
  parts_called session a (Call request) reply b h =
      parts_ended (is_memory reply.detail) h.before h.ask reply b h.ends ∙ parts_asked a h.ask h.before h.asked
  parts_called session a Status reply b h = ap (λ (x : Account). x.parts) h.0

  parts_one : (session : ℕ) (content : List ℕ) (reply : Reply) (a b : Account)
      → Answers (Called m start base session) a content reply b → b.parts ≡ a.parts
  parts_one session content reply a b (inl h) = parts_called session a (Call h.0) reply b h.2
  parts_one session content reply a b (inr (inl h)) = ap (λ (x : Account). x.parts) h.3
  parts_one session content reply a b (inr (inr (inl h))) = ap (λ (x : Account). x.parts) h.1
  parts_one session content reply a b (inr (inr (inr h))) = ap (λ (x : Account). x.parts) h.2

  parts_one_to : (standing : Option Role) (session : ℕ) (content : List ℕ) (reply : Reply) (a b : Account)
      → AnswersTo standing (Called m start base session) a content reply b → b.parts ≡ a.parts
  parts_one_to standing session content reply a b (inl (inl h)) = parts_called session a (Call h.0) reply b h.2.1
  parts_one_to standing session content reply a b (inl (inr (inl h))) = ap (λ (x : Account). x.parts) h.3
  parts_one_to standing session content reply a b (inl (inr (inr (inl h)))) = ap (λ (x : Account). x.parts) h.1
  parts_one_to standing session content reply a b (inl (inr (inr (inr h)))) = ap (λ (x : Account). x.parts) h.2
  parts_one_to standing session content reply a b (inr h) = ap (λ (x : Account). x.parts) h.2

  parts_answered : (standing : Option Role) (session : ℕ) (contents : List (List ℕ)) (replies : List Reply) (a b : Account)
      → AnswersAllTo standing (Called m start base session) a contents replies b → b.parts ≡ a.parts
  parts_answered standing session [] [] a b h = ap (λ (x : Account). x.parts) (sym h)
  parts_answered standing session [] (r ∷ rs) a b h = absurd h
  parts_answered standing session (c ∷ cs) [] a b h = absurd h
  parts_answered standing session (c ∷ cs) (r ∷ rs) a b h =
      parts_answered standing session cs rs h.0 b h.2 ∙ parts_one_to standing session c r a h.0 h.1

  parts_connected : (a : Account) (result : Result ℕ ConnectFault) (b : Account) → Connected m start base a result b → b.parts ≡ a.parts
  parts_connected a result b h = parts_at_once (is_memory (connect_reply result).detail) a Connect h.reply b h.told

  parts_done : (x y : Table) (a b : Account)
      → Does {D = Account} users (Connected m start base) (Called m start base) (Left m start base) x y a b → b.parts ≡ a.parts
  parts_done x y a b (inl h) = parts_connected a (Ok h.seat.session) b h.connects
  parts_done x y a b (inr (inl h)) = parts_connected a (Err h.fault) b h.refuses
  parts_done x y a b (inr (inr (inl h))) =
      parts_answered h.seat.standing h.seat.session h.contents h.replies a b h.answers
  parts_done x y a b (inr (inr (inr (inl h)))) =
      parts_at_once (not h.leaves.0) a (Hangup h.seat.session) h.leaves.1.reply b h.leaves.1.told
  parts_done x y a b (inr (inr (inr (inr (inr h))))) = ap (λ (s : Account). s.parts) (sym h.1)
  parts_done x y a b (inr (inr (inr (inr (inl h))))) =
      let v = h.visits in
      parts_at_once (not v.leaves.0) v.asked (Hangup v.session) v.leaves.1.reply b v.leaves.1.told
      ∙ parts_one v.session h.content h.reply v.came v.asked v.answers
      ∙ parts_connected a (Ok v.session) v.came v.connects

  abbrev Step : Table → Table → Account → Account → Type 0
  Step x y a b = DoesOrPosts {D = Account} Posted users (Connected m start base) (Called m start base) (Left m start base) x y a b

  parts_step : (x y : Table) (a b : Account) → Step x y a b → b.parts ≡ a.parts
  parts_step x y a b (inl h) = parts_done x y a b h
  parts_step x y a b (inr h) = ap (λ (s : Account). s.parts) h.posted

  parts_looped : (a b : Account) → HasLooped m start base users a b → b.parts ≡ a.parts
  parts_looped a b h =
      does_keep Step (λ (s : Account). s.parts ≡ a.parts) (λ x y c d one kept. parts_step x y c d one ∙ kept) nobody nobody a b h.tends refl

  -- ---- all doors

  -- by the accounts of doors of any type
  abbrev Tended : {D : Type 0} → (D → Account) → List D → List (Ended D) → Type 0
  Tended f doors ended =
      HaveTended (λ s q x y. Posted s q (f x) (f y)) users (λ x r y. Connected m start base (f x) r (f y))
      (λ s x q r y. Called m start base s (f x) q r (f y)) (λ s x y. Left m start base s (f x) (f y)) (λ x. Owes (f x) 0) doors ended

  module _ {D : Type 0} (f : D → Account) where
    looped : (doors : List D) (ended : List (Ended D)) (d : D) (e : Ended D) → Tended f (d ∷ doors) (e ∷ ended)
        → HasLooped m start base users (f d) (f e.door)
    looped doors ended d e each =
        has_tended_by f Posted users (Connected m start base) (Called m start base) (Left m start base) (λ (a : Account). Owes a 0) d e.door
        (each 0 d e (omega arith))

    rest : (doors : List D) (ended : List (Ended D)) (d : D) (e : Ended D) → Tended f (d ∷ doors) (e ∷ ended) → Tended f doors ended
    rest doors ended d e each = λ i x y lt. each (suc i) x y (omega (arith, lt))

    pub all_loop : (doors : List D) (ended : List (Ended D)) → length ended ≡ length doors → Tended f doors ended
        → AllLoop m start base users (map f doors) (map (λ e. f e.door) ended)
    all_loop [] [] len each = tt
    all_loop [] (e ∷ es) len each = absurd (omega (arith, len))
    all_loop (d ∷ ds) [] len each = absurd (omega (arith, len))
    all_loop (d ∷ ds) (e ∷ es) len each = (looped ds es d e each, all_loop ds es (omega (arith, len)) (rest ds es d e each))

    pub same_parts : (doors : List D) (ended : List (Ended D)) → length ended ≡ length doors → Tended f doors ended
        → sum_by (λ e. (f e.door).parts) ended ≡ sum_by (λ d. (f d).parts) doors
    same_parts [] [] len each = refl
    same_parts [] (e ∷ es) len each = absurd (omega (arith, len))
    same_parts (d ∷ ds) [] len each = absurd (omega (arith, len))
    same_parts (d ∷ ds) (e ∷ es) len each =
        let one : (f e.door).parts ≡ (f d).parts = parts_looped (f d) (f e.door) (looped ds es d e each) in
        let others = same_parts ds es (omega (arith, len)) (rest ds es d e each) in
        omega (arith, one, others, sum_by-cons (λ e. (f e.door).parts) e es, sum_by-cons (λ d. (f d).parts) d ds)

    -- what began fresh owes nothing in the end
    pub all_settled : (doors : List D) (ended : List (Ended D)) → length ended ≡ length doors → Tended f doors ended
        → AllByRecursion IsFresh (map f doors) → AllByRecursion (λ e. Owes (f e.door) 0) ended
    all_settled [] [] len each fresh = tt
    all_settled [] (e ∷ es) len each fresh = absurd (omega (arith, len))
    all_settled (d ∷ ds) [] len each fresh = absurd (omega (arith, len))
    all_settled (d ∷ ds) (e ∷ es) len each fresh = (
      (looped ds es d e each).settled (owes_none (f d) fresh.0),
      all_settled ds es (omega (arith, len)) (rest ds es d e each) fresh.1,
    )
