use Rattle.std.proofs.Common.{Some, None, sym, refl, subst}
use Rattle.mv_chain.specs.Last.{lent, IsLastWritten}
use Rattle.mv_chain.proofs.Frames.{then_ok}
use Rattle.mv_rules.specs.Held.{shown_in}
use Rattle.std.specs.Prelude.{option_copied}
use Rattle.xa_codes.specs.declared.write.Write.{Write}
use Rattle.mv_rules.specs.Committed.{AddsCommitted}
use Rattle.mv_rules.proofs.Passed.{write_as}
use Rattle.mv_rules.proofs.committed.add_key.Goals as goal

pub returns-in_default-last_committed : goal.returns-in_default-last_committed
returns-in_default-last_committed c =
    record {
      last = None;
      is = λ held. subst (λ o. IsLastWritten (shown_in c.args.pool.now o) None) c.in-Some.ensures (c.in_default-last_committed.ensures.written (held.kept c.args.index c.in-Some.chain.now (sym c.in-Some.ensures)));
      adds = refl;
    }

pub returns : goal.returns
returns c =
    then_ok c.add_committed.result c.add_committed.ensures
    (λ adds. record {
      last = lent (Some (c.in-Some-last_committed.timestamp, c.in-Some-last_committed.value));
      is = λ held. subst (λ o. IsLastWritten (shown_in c.args.pool.now o) (lent (Some (c.in-Some-last_committed.timestamp, c.in-Some-last_committed.value)))) c.in-Some.ensures
          (c.in-Some-last_committed.ensures.written (held.kept c.args.index c.in-Some.chain.now (sym c.in-Some.ensures)));
      adds = subst (λ (w : Write). AddsCommitted c.in-Some-last_committed.timestamp w c.args.committed.now c.add_committed.new.committed)
          (write_as c.in_ok-write.write c.args.key.now (option_copied c.in-Some-last_committed.value) c.in_ok-write.ensures.key c.in_ok-write.ensures.value) adds;
    })
