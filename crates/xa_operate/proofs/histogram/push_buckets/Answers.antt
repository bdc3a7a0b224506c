use Rattle.std.proofs.Common.{◌∙◌, ◌+◌, ℕ, ap}
use Rattle.xa_operate.specs.Told.{count_of}
use Rattle.xa_operate.proofs.Counting.{bucket_more, line_more}
use Rattle.xa_operate.proofs.histogram.push_buckets.Goals as goal

pub loop-bucket-preserved : goal.loop-bucket-preserved
loop-bucket-preserved c =
    let before = c.loop-bucket.invariant in
    let count = c.count_of.ensures ∙ ap (λ (x : ℕ). count_of c.args.numbers.now (c.first_id-first.result + x)) c.from.ensures in
    let more = bucket_more c.args.histogram c.args.numbers.now c.loop-bucket.bucket c.loop-bucket.under c.count_of.result c.first_id-first.result
    c.saturating_add-under.result before.under c.first_id-first.ensures.value count c.saturating_add-under.ensures in
    record {
      lines = line_more c.args.histogram c.args.numbers.now c.loop-bucket.bucket c.saturating_add-under.result c.args.text.now.items c.loop-bucket.text.items
          c.push_bucket.new.text.items before.lines more c.in_ok-push_bucket.ensures;
      under = more;
    }
