-- What reaches a door of a connection that has shown this role, or none: only what that may ask.
use Rattle.std.specs.Prelude.{◌≡◌, ◌⊎◌, ℕ, Bool, true, false, List, [], ◌∷◌, Option}
use Rattle.xa_codes.specs.declared.codes.TheConstants.{XAER_INVAL}
use Rattle.xa_codes.specs.declared.detail.Detail.TheVariants as detail
use Rattle.xa_control.specs.declared.control.Control.{Control}
use Rattle.xa_control.specs.Controls.{SpellsControl}
use Rattle.xa_frame.specs.declared.question.Question.{Question}
use Rattle.xa_frame.specs.declared.reply.Reply.{Reply}
use Rattle.xa_frame.specs.Made.{detailed}
use Rattle.xa_frame.specs.Questions.{SpellsQuestion}
use Rattle.xa_desk.specs.Believed.Serving.{Answers}
use Rattle.xa_roles.specs.declared.role.Role.{Role}
use Rattle.xa_roles.specs.Believed.Roles.{may_ask, may_order}

-- what is answered where it may not be asked
abbrev pub no_access : Reply
no_access = detailed XAER_INVAL detail.Access

-- the content asks for what may not be asked by who has shown this
abbrev pub IsDenied : Option Role → List ℕ → Type 0
IsDenied standing content =
    ((q : Question) × SpellsQuestion content q × (may_ask standing q ≡ false))
    ⊎ ((c : Control) × SpellsControl content c × (may_order standing c ≡ false))

-- the door answered a question that may be asked
abbrev pub Permitted : {D : Type 0} → Option Role → (D → Question → Reply → D → Type 0) → D → Question → Reply → D → Type 0
Permitted standing called d q reply e = (may_ask standing q ≡ true) × called d q reply e

-- one content and its reply: a question that may be asked is answered at the door; what may not be asked reaches none
abbrev pub AnswersTo : {D : Type 0} → Option Role → (D → Question → Reply → D → Type 0) → D → List ℕ → Reply → D → Type 0
AnswersTo standing called d content reply e =
    Answers (Permitted standing called) d content reply e ⊎ (IsDenied standing content × (reply ≡ no_access) × (e ≡ d))

-- contents and their replies, in order
abbrev pub AnswersAllTo : {D : Type 0} → Option Role → (D → Question → Reply → D → Type 0) → D → List (List ℕ) → List Reply → D → Type 0
AnswersAllTo standing called d [] [] e = d ≡ e
AnswersAllTo standing called d [] (r ∷ rs) e = ⊥
AnswersAllTo standing called d (c ∷ cs) [] e = ⊥
AnswersAllTo {D} standing called d (c ∷ cs) (r ∷ rs) e =
    (m : D) × AnswersTo standing called d c r m × AnswersAllTo standing called m cs rs e
