use Rattle.std.proofs.Common.{◌≡◌, ◌∙◌, ap, map, not}
use Rattle.std.specs.Map.Iter.{deref_pair}
use Rattle.std.proofs.lemmas.Map.Iter.{iter_end}
use Rattle.mv_ranges.specs.Ranges.{is_one}
use Rattle.mv_ranges.specs.Marks.{lower_keys}
use Rattle.mv_ranges.proofs.marks.copies.Goals as goal

pub returns : goal.returns
returns c =
    let all : map deref_pair c.loop-key.yielded ≡ c.args.boundaries = (iter_end deref_pair c.args.boundaries c.loop-key.yielded c.into_iter-key-iterator.result c.loop-key.key-iterator c.next.new.self c.next.result c.into_iter-key-iterator.ensures.into_iter_gives c.loop-key.yielded_by c.in-None.is c.next.ensures.steps).0 in
    c.loop-key.invariant ∙ ap (lower_keys (λ k. not (is_one k (map (λ x. x.items) c.args.but.now))) c.args.reader) all
