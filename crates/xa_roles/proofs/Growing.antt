-- A greater role may ask what a lesser one may.
use Rattle.std.proofs.Common.{◌≡◌, true, Option, Some, None, refl}
use Rattle.xa_control.specs.declared.control.Control.{Control}
use Rattle.xa_frame.specs.declared.question.Question.{Question}
use Rattle.xa_roles.specs.declared.role.Role.{Role}
use Rattle.xa_roles.specs.declared.role.Role.TheVariants.{Monitor, Client, Operator}
use Rattle.xa_roles.specs.Believed.Roles.{has_role, includes, least_of, least_to_order, may_ask, may_order}

includes_all : (least : Role) → includes Operator least ≡ true
includes_all Monitor = refl
includes_all Client = refl
includes_all Operator = refl

pub includes_more : (role lesser least : Role) → includes role lesser ≡ true → includes lesser least ≡ true → includes role least ≡ true
includes_more Operator lesser least h k = includes_all least
includes_more Client Client least h k = k
includes_more Client Monitor Monitor h k = refl
includes_more Client Monitor Client h k = absurd (cc k)
includes_more Client Monitor Operator h k = absurd (cc k)
includes_more Client Operator least h k = absurd (cc h)
includes_more Monitor Monitor least h k = k
includes_more Monitor Client least h k = absurd (cc h)
includes_more Monitor Operator least h k = absurd (cc h)

-- an operator may ask all
pub all_asked : (q : Question) → may_ask (Some Operator) q ≡ true
all_asked q = includes_all (least_of q)

all_roles : (least : Option Role) → has_role (Some Operator) least ≡ true
all_roles None = refl
all_roles (Some least) = includes_all least

pub all_ordered : (c : Control) → may_order (Some Operator) c ≡ true
all_ordered c = all_roles (least_to_order c)

more_roles : (role lesser : Role) (least : Option Role) → includes role lesser ≡ true → has_role (Some lesser) least ≡ true
    → has_role (Some role) least ≡ true
more_roles role lesser None h k = refl
more_roles role lesser (Some least) h k = includes_more role lesser least h k

pub more_asked : (role lesser : Role) (q : Question) → includes role lesser ≡ true → may_ask (Some lesser) q ≡ true → may_ask (Some role) q ≡ true
more_asked role lesser q h k = includes_more role lesser (least_of q) h k

pub more_ordered : (role lesser : Role) (c : Control) → includes role lesser ≡ true → may_order (Some lesser) c ≡ true → may_order (Some role) c ≡ true
more_ordered role lesser c h k = more_roles role lesser (least_to_order c) h k
