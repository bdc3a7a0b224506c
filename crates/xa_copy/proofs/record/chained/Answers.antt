use Rattle.std.proofs.Common.{◌∙◌, sym, ap, ℕ}
use Rattle.std.specs.Int.{w32, to_be_bytes}
use Rattle.xa_copy.proofs.RecordBytes.{chains_slices, unchained_slices}
use Rattle.xa_copy.proofs.record.chained.Goals as goal

pub returns-then-is_same-clause-chains : goal.returns-then-is_same-clause-chains
returns-then-is_same-clause-chains c =
    chains_slices c.args.size c.args.prev.now c.args.bytes.now c.digest_of-digest.result c.requires.long (sym c.size_of.ensures.value ∙ c.if-size_of-size.false)
    c.digest_of-digest.ensures c.requires.some c.requires.small (c.size_of.ensures.spelled ∙ ap (λ (n : ℕ). to_be_bytes w32 n) c.if-size_of-size.false)
    (sym c.is_same.ensures ∙ c.if-is_same.true)

pub returns-else-is_same-clause-none : goal.returns-else-is_same-clause-none
returns-else-is_same-clause-none c none is format =
    unchained_slices c.args.size c.args.prev.now c.args.bytes.now c.digest_of-digest.result c.requires.long is
    c.digest_of-digest.ensures (sym c.is_same.ensures ∙ c.if-is_same.false) format
