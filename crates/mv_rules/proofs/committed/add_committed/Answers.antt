use Rattle.std.proofs.Common.{◌≡◌, ◌∙◌, ◌∷◌, ◌++◌, [], Some, None, List, sym, ap}
use Rattle.std.specs.BTreeMap.{get_by}
use Rattle.std.specs.Option.{option_map_or}
use Rattle.std.specs.Ordering.{nat_cmp}
use Rattle.xa_codes.specs.declared.write.Write.{Write}
use Rattle.mv_rules.proofs.ByTimestamp.{written_through}
use Rattle.mv_rules.proofs.committed.add_committed.Goals as goal

pub returns-in-Some : goal.returns-in-Some
returns-in-Some c =
    let here : get_by (nat_cmp c.args.timestamp) c.args.committed.now ≡ Some c.in-Some.writes.now = sym c.in-Some.ensures.value in
    record {
      left = c.push.new.self;
      writes = c.in_ok-push.ensures.items ∙ ap (λ (xs : List Write). xs ++ c.args.write ∷ []) (sym (ap (λ o. option_map_or (λ v. v.items) o []) here));
      entries = (c.get_mut.follows.holds c.push.new.self).0 ∙ written_through c.args.timestamp c.args.committed.now.entries c.in-Some.writes.now c.push.new.self c.in-Some.ensures.ordered here;
      ordered = c.in-Some.ensures.ordered;
    }

pub returns : goal.returns
returns c =
    let none : get_by (nat_cmp c.args.timestamp) c.args.committed.now ≡ None = sym c.in_default.ensures.value in
    record {
      left = c.push-2.new.self;
      writes = c.in_ok-push-2.ensures.items ∙ ap (λ (xs : List Write). xs ++ c.args.write ∷ []) (c.new-writes.ensures.items ∙ sym (ap (λ o. option_map_or (λ v. v.items) o []) none));
      entries = rw c.get_mut.follows.holds-at-none at c.in_ok-insert.ensures.entries;
      ordered = c.in_default.ensures.ordered;
    }
