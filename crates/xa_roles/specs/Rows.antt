-- Worked rows, and what holds of all roles.
use Rattle.std.specs.Prelude.{◌≡◌, true, false, List, [], ◌∷◌, Option, Some, None, map, codes}
use Rattle.xa_control.specs.declared.control.Control.{Control}
use Rattle.xa_control.specs.declared.control.Control.TheVariants as control
use Rattle.xa_frame.specs.declared.question.Question.{Question}
use Rattle.xa_frame.specs.declared.question.Question.TheVariants as question
use Rattle.xa_frame.specs.declared.request.Request.TheVariants as request
use Rattle.xa_roles.specs.declared.role.Role.{Role}
use Rattle.xa_roles.specs.declared.role.Role.TheVariants.{Monitor, Client, Operator}
use Rattle.xa_roles.specs.Believed.Roles.{includes, may_ask, may_order, named, text_of}

abbrev everybody : List (Option Role)
everybody = None ∷ Some Monitor ∷ Some Client ∷ Some Operator ∷ []

-- nobody, a monitor, a client and an operator: a list of the branches, a get, a restart and the status
abbrev pub AreTold : Type 0
AreTold =
    (map (λ s. may_ask s (question.Call (request.Branches 1 None))) everybody ≡ false ∷ true ∷ true ∷ true ∷ [])
    × (map (λ s. may_ask s (question.Call (request.Get (107 ∷ [])))) everybody ≡ false ∷ false ∷ true ∷ true ∷ [])
    × (map (λ s. may_ask s (question.Call request.Restart)) everybody ≡ false ∷ false ∷ false ∷ true ∷ [])
    × (map (λ s. may_ask s question.Status) everybody ≡ false ∷ true ∷ true ∷ true ∷ [])
    -- the first message of a login, what was counted, and an end of the server
    × (map (λ s. may_order s (control.First [])) everybody ≡ true ∷ true ∷ true ∷ true ∷ [])
    × (map (λ s. may_order s control.Metrics) everybody ≡ false ∷ true ∷ true ∷ true ∷ [])
    × (map (λ s. may_order s control.Shutdown) everybody ≡ false ∷ false ∷ false ∷ true ∷ [])
    × (map named (codes "monitor" ∷ codes "client" ∷ codes "operator" ∷ codes "root" ∷ [])
    ≡ Some Monitor ∷ Some Client ∷ Some Operator ∷ None ∷ [])

-- a greater role may ask what a lesser one may, an operator all, and who has shown none nothing of a manager
pub record Grows : Type 0 where
  pub more : (role lesser : Role) (q : Question) → includes role lesser ≡ true → may_ask (Some lesser) q ≡ true
      → may_ask (Some role) q ≡ true
  pub ordered : (role lesser : Role) (c : Control) → includes role lesser ≡ true → may_order (Some lesser) c ≡ true
      → may_order (Some role) c ≡ true
  pub all : (q : Question) → may_ask (Some Operator) q ≡ true
  pub every : (c : Control) → may_order (Some Operator) c ≡ true
  pub none : (q : Question) → may_ask None q ≡ false
  pub names : (role : Role) → named (text_of role) ≡ Some role
