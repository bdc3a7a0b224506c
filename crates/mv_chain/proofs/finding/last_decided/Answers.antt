use Rattle.std.proofs.Common.{rules, ◌∙◌}
use borrow.Author.Tests.{tests}
use Rattle.std.proofs.lemmas.Iterator.Search.{find_from_yields_List}
use Rattle.std.proofs.lemmas.Iterator.Adapters.{YieldsList-from_rev_slice}
use Rattle.mv_chain.specs.Slots.{is_decided_at}
use Rattle.mv_chain.proofs.finding.last_decided.Goals as goal

pub returns : goal.returns
returns c =
    c.copied.ensures
    ∙ find_from_yields_List (is_decided_at c.args.pool.now) _ _ c.find.result c.find.ensures.ran (YieldsList-from_rev_slice c.args.slots.now (cc)) (λ x b q k. search (rules, tests))
