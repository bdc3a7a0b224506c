use Rattle.std.proofs.Common.{None, List}
use Rattle.xa_codes.specs.declared.write.Write.{Write}
use Rattle.mv_rules.specs.Accesses.{Accesses}
use Rattle.mv_rules.specs.Noted.{PutsAll}
use Rattle.mv_rules.specs.Records.{StandsFor}
use Rattle.mv_rules.specs.Restoring.{with_branch}
use Rattle.mv_rules.proofs.Rebuilt.{restorable_unsettled, branch_decided}
use Rattle.mv_rules.proofs.records.Records.restore.Goals as goal

pub returns-clause-stands : goal.returns-clause-stands
returns-clause-stands c =
    let ws : List Write = c.args.writes.now in
    λ h s e.
    let before : Accesses = record h { writes = with_branch c.args.ts None ws h.writes } in
    let stood : StandsFor before c.put_all.new.self = c.in_ok-put_all.ensures.stands h (c.in_ok-make_all.ensures.stands h s) e in
    let after = c.settle.ensures.stands before stood (restorable_unsettled c.args.ts h ws e).all_undecided in
    rw (c.in-Some.is, ← branch_decided c.args.ts h ws c.in-Some.decided e) after

pub returns-clause-restores : goal.returns-clause-restores
returns-clause-restores c =
    let ws : List Write = c.args.writes.now in
    λ h s e.
    let before : Accesses = record h { writes = with_branch c.args.ts None ws h.writes } in
    let begun : StandsFor h c.make_all.new.self = c.in_ok-make_all.ensures.stands h s in
    let stood : StandsFor before c.put_all.new.self = c.in_ok-put_all.ensures.stands h begun e in
    record {
      begun = c.make_all.new.self;
      put = c.put_all.new.self;
      begins = c.in_ok-make_all.ensures.begins h s;
      puts = c.in_ok-put_all.ensures.puts h begun e;
      settles = rw c.in-Some.is (c.settle.ensures.settles before stood);
    }

pub returns-clause-within : goal.returns-clause-within
returns-clause-within c = λ n kept short. c.settle.ensures.within n (c.put_all.ensures.within n (c.make_all.ensures.within n kept) short)
