use Rattle.std.proofs.Common.{refl}
use Rattle.xa_roles.specs.declared.role.Role.TheVariants.{Monitor, Client, Operator}
use Rattle.xa_roles.proofs.Growing.{all_asked, all_ordered, more_asked, more_ordered}
use Rattle.xa_roles.proofs.laws.roles_are_told_apart.Goals as goal

pub returns-clause-rows : goal.returns-clause-rows
returns-clause-rows c = (refl, refl, refl, refl, refl, refl, refl, refl)

pub returns-clause-grows : goal.returns-clause-grows
returns-clause-grows c = record {
  more = more_asked;
  ordered = more_ordered;
  all = all_asked;
  every = all_ordered;
  none = λ q. refl;
  names = elim [ Monitor ↦ refl | Client ↦ refl | Operator ↦ refl ];
}
