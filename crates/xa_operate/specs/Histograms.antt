-- How many of what was measured were at most this long, or this many, as Prometheus reads it.
use Rattle.std.specs.Fmt.{decimal}
use Rattle.std.specs.Prelude.{ℕ, zero, suc, min, ◌+◌, ◌-◌, ◌/◌, ◌%◌, ◌^◌, nat_lt, List, [], ◌∷◌, ◌++◌, codes, if◌then◌else◌}
use Rattle.xa_operate.specs.Families.{labelled}
use Rattle.xa_operate.specs.Metrics.{heading, worded}
use Rattle.xa_operate.specs.Told.{count_of}
use Rattle.xa_operate.specs.declared.histogram.Histogram.{Histogram}
use Rattle.xa_operate.specs.declared.histogram.Histogram.TheVariants.{Syncs, Groups}
use Rattle.xa_operate.specs.declared.histogram.TheConstants.{GROUPS}

abbrev pub histogram_name : Histogram → List ℕ
histogram_name Syncs = codes "xarm_sync_seconds"
histogram_name Groups = codes "xarm_group_calls"

abbrev pub histogram_help : Histogram → List ℕ
histogram_help Syncs = codes "How long the log's syncs for groups of calls took."
histogram_help Groups = codes "How many calls shared a sync."

-- bucket k has those of at most 2 ^ k, and more than the bucket before it
abbrev pub buckets : Histogram → ℕ
buckets Syncs = 25
buckets Groups = 17

abbrev pub first_id : Histogram → ℕ
first_id Syncs = 1000
first_id Groups = 1100

-- the id of what was measured in all
abbrev pub sum_id : Histogram → ℕ
sum_id Syncs = 5
sum_id Groups = 4

-- how many are in the first buckets, as far as that can be counted
abbrev pub in_buckets : Histogram → List ℕ → ℕ → ℕ
in_buckets histogram numbers zero = 0
in_buckets histogram numbers (suc k) =
    min (in_buckets histogram numbers k + count_of numbers (first_id histogram + k)) (2 ^ 64 - 1)

-- how many groups there were: at least those in the buckets
abbrev pub all : List ℕ → ℕ → ℕ
all numbers under = if nat_lt (count_of numbers GROUPS) under then under else count_of numbers GROUPS

abbrev pub digit : ℕ → ℕ → ℕ
digit n unit = 48 + n / unit % 10

abbrev pub six_digits : ℕ → List ℕ
six_digits n = digit n 100000 ∷ digit n 10000 ∷ digit n 1000 ∷ digit n 100 ∷ digit n 10 ∷ digit n 1 ∷ []

-- microseconds in seconds
abbrev pub seconds_text : ℕ → List ℕ
seconds_text n = (decimal (n / 1000000) ++ 46 ∷ []) ++ six_digits n

-- a number as it is printed
abbrev pub number_text : Histogram → ℕ → List ℕ
number_text Syncs n = seconds_text n
number_text Groups n = decimal n

abbrev pub bucket_line : Histogram → ℕ → ℕ → List ℕ
bucket_line histogram k n = histogram_name histogram ++ labelled (codes "_bucket") (codes "le") (number_text histogram (2 ^ k)) n

-- a line for each of the first buckets: how many were at most its bound
abbrev pub bucket_lines : Histogram → List ℕ → ℕ → List ℕ
bucket_lines histogram numbers zero = []
bucket_lines histogram numbers (suc k) =
    bucket_lines histogram numbers k ++ bucket_line histogram k (in_buckets histogram numbers (suc k))

-- how many there were, and what they come to
abbrev pub last_lines : Histogram → List ℕ → List ℕ
last_lines histogram numbers =
    let n = all numbers (in_buckets histogram numbers (buckets histogram)) in
    (histogram_name histogram ++ labelled (codes "_bucket") (codes "le") (codes "+Inf") n)
    ++ worded (histogram_name histogram) (codes "_sum") (number_text histogram (count_of numbers (sum_id histogram)))
    ++ worded (histogram_name histogram) (codes "_count") (decimal n)

abbrev pub histogram_heading : Histogram → List ℕ
histogram_heading histogram = heading (histogram_name histogram) (codes "histogram") (histogram_help histogram)

abbrev pub histogram_text : Histogram → List ℕ → List ℕ
histogram_text histogram numbers =
    histogram_heading histogram ++ bucket_lines histogram numbers (buckets histogram) ++ last_lines histogram numbers
