use Rattle.std.proofs.Common.{◌≡◌, None, sym, ap, ◌∙◌, rules}
use Rattle.std.specs.BTreeMap.{insert_entry, is_at}
use Rattle.std.specs.Map.{lookup}
use Rattle.mv_ranges.specs.Ranges.{Boundaries, last_mark}
use Rattle.mv_ranges.proofs.Boundaries.{mark_put, found_kept, keys_cmp, query}
use Rattle.mv_ranges.proofs.marks.split.Goals as goal

pub returns-clause-same : goal.returns-clause-same
returns-clause-same c =
    λ q.
    let bs : Boundaries = c.args.marks.now.entries in
    let k = c.in_ok-copy.copy in
    let copied : k.items ≡ c.args.key.now.items = search rules in
    let absent : lookup (is_at (query c.args.key.now.items)) bs ≡ None = search rules in
    let none : lookup (is_at (query k.items)) bs ≡ None = rw copied absent in
    let mark : c.over-mark.result ≡ last_mark 0 k.items bs = c.over-mark.ensures.mark ∙ ap (λ x. last_mark 0 x bs) (sym copied) in
    ap (λ x. last_mark 0 q x) c.in_ok-insert.ensures.entries ∙ (ap (λ v. last_mark 0 q (insert_entry keys_cmp bs k v)) mark ∙ mark_put 0 q k bs none)

pub returns-clause-kept : goal.returns-clause-kept
returns-clause-kept c = λ q is. rw c.in_ok-insert.ensures.entries (found_kept q c.in_ok-copy.copy c.over-mark.result c.args.marks.now.entries is)
