use Rattle.xa_xid.proofs.Same.{xid_same, xid_eq_same, xid_cmp_same, xid_cmp_equal}
use Rattle.xa_xid.proofs.laws.equal_is_same.Goals as goal

pub returns-clause-eq : goal.returns-clause-eq
returns-clause-eq c x y = (xid_same x y, xid_eq_same x y)

pub returns-clause-cmp : goal.returns-clause-cmp
returns-clause-cmp c x y = (xid_cmp_same x y, xid_cmp_equal x y)
