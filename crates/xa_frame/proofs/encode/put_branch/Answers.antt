use Rattle.std.proofs.Common.{[], ◌∷◌, ◌++◌, ap, ◌∙◌, arith, rules}
use Rattle.std.proofs.lemmas.Grind.{common_steps}
use Rattle.xa_xid.specs.Spelling.{bytes_of}
use Rattle.std.specs.Int.{w64, to_be_bytes}
use Rattle.xa_frame.specs.Spelling.{code_bytes, state_bytes, counts_bytes}
use Rattle.xa_frame.proofs.Lists.{put_five}
use Rattle.xa_frame.proofs.encode.put_branch.Goals as goal

pub returns-clause-bytes : goal.returns-clause-bytes
returns-clause-bytes c =
    let b = c.args.branch.now in
    put_five c.args.out.now.items c.put_xid.new.out.items c.push.new.self.items c.extend_from_slice.new.self.items c.put_u64.new.out.items c.put_counts.new.out.items
    (bytes_of b.xid) (state_bytes b.state) (code_bytes b.mark) (to_be_bytes w64 b.timestamp) (counts_bytes b.associations)
    c.in_ok-put_xid.ensures.bytes (c.in_ok-push.ensures.items ∙ ap (λ n. c.put_xid.new.out.items ++ n ∷ []) c.state_number.ensures)
    (first_of (search rules, grind (arith, common_steps))) c.in_ok-put_u64.ensures c.in_ok-put_counts.ensures.bytes
