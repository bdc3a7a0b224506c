use Rattle.std.proofs.Common.{rules}
use Rattle.std.proofs.lemmas.Slice.Eq.{slice_eq-Decides}
use Rattle.std.specs.Cmp.Rules.{comparing}
use Rattle.xa_xid.specs.Triple.{Triple, xid_eq}
use Rattle.xa_room.proofs.comparing.same_xids.Goals as goal

pub returns : goal.returns
returns c = slice_eq-Decides {A = Triple} {E = xid_eq} (λ a b. search (comparing, rules) depth 9) c.args.one.now c.args.other.now c.eq.result c.eq.ensures
