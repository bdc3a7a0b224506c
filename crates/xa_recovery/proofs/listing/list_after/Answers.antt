use Rattle.std.proofs.Common.{◌≡◌, List, IfOk, option_copied, take, ap, ◌∙◌, subst}
use Rattle.xa_xid.specs.Triple.{Triple}
use Rattle.xa_model.specs.Listed.{list_after}
use Rattle.xa_recovery.proofs.ListedMaps.{listed_maps}
use Rattle.xa_recovery.proofs.listing.list_after.Goals as goal

pub returns : goal.returns
returns c =
    let after = option_copied c.args.after in
    let inside = c.durable.inside in
    let all = listed_maps after inside.prepared.entries inside.decided.entries c.new-above.result.keys c.add_prepared.new.above.keys c.add_decided.new.above.keys c.new-above.ensures.empty c.in_ok-add_prepared.ensures c.in_ok-add_decided.ensures in
    subst (λ (xs : List Triple). IfOk c.first.result (λ v. v.items ≡ xs)) (ap (take c.args.count) all ∙ ap (list_after after c.args.count) c.durable.view_is) c.first.ensures
