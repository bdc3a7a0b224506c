use Rattle.std.proofs.Common.{◌≡◌, ◌++◌}
use Rattle.xa_operate.specs.Histograms.{bucket_lines, in_buckets}
use Rattle.xa_operate.proofs.histogram.push_buckets.Given as goal

-- the lines of the buckets so far
abbrev pub invariant-loop-bucket : goal.invariant-loop-bucket
invariant-loop-bucket l = record {
  lines : l.text.items ≡ l.initial.text.items ++ bucket_lines l.histogram l.numbers l.bucket;
  under : l.under ≡ in_buckets l.histogram l.numbers l.bucket;
}
