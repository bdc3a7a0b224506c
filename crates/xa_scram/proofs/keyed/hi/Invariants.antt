use Rattle.std.proofs.Common.{◌≡◌, ◌-◌, ◌≤◌}
use Rattle.xa_scram.specs.Believed.Keyed.{folded, link}
use Rattle.xa_scram.proofs.keyed.hi.Given as goal

abbrev pub invariant-loop-i : goal.invariant-loop-i
invariant-loop-i l = record {
  none : l.count ≤ 1 → l._i ≡ 1;
  now : l.link ≡ link l.secret l.salt (l._i - 1);
  all : l.folded ≡ folded l.secret l.salt (l._i - 1);
}
