use Rattle.std.proofs.Common.{◌≡◌, ◌+◌, ◌++◌, List, ℕ, length, take, drop, ◌∙◌, ap, rules}
use Rattle.xa_disk.proofs.Put.{put_grown, written_back}
use Rattle.xa_disk.proofs.bytes.put_bytes.Goals as goal

pub returns-clause-ok : goal.returns-clause-ok
returns-clause-ok c =
    let back : take c.grow.new.bytes.len (c.overlay.new.bytes ++ drop (length c.overlay.new.bytes) c.grow.new.bytes.items) ≡ c.overlay.new.bytes = written_back _ _ _ (search rules) (search rules) in
    let grown = put_grown c.args.bytes.now.items c.args.at c.args.from.now c.in_ok-end.end (search rules) in
    back ∙ c.overlay.ensures
    ∙ ap (λ (w : List ℕ). take c.args.at w ++ c.args.from.now ++ drop (c.args.at + length c.args.from.now) w) (c.deref_mut.ensures.value ∙ c.in_ok-grow.ensures.ok)
    ∙ grown
