-- What a put has to do.
use Rattle.std.specs.Prelude.{ℕ, Bool, true, false, not, ◌&&◌, nat_le}
use Rattle.xa_limits.specs.declared.TheConstants.{MOST_WRITES}
use Rattle.mv_rules.specs.declared.answers.Put.TheVariants.{Late, Limit}
use Rattle.mv_rules.specs.declared.verdict.Verdict.{Verdict}
use Rattle.mv_rules.specs.declared.verdict.Verdict.TheVariants.{Refused, Again, First}

abbrev pub verdict_by : Bool → Bool → Bool → Verdict
verdict_by own true late = Refused Limit
verdict_by own false true = Refused Late
verdict_by true false false = Again
verdict_by false false false = First

-- own says whether the branch wrote the key before, count how many keys it wrote
abbrev pub verdict_of : Bool → ℕ → Bool → Verdict
verdict_of own count late = verdict_by own (not own && nat_le MOST_WRITES count) late
