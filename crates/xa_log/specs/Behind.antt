-- What a read finds after a log's last record.
use Rattle.std.specs.Prelude.{◌≡◌, ◌<◌, ℕ, List, length, slice_index}
use Rattle.xa_limits.specs.declared.TheConstants.{LENGTH_BYTES}
use Rattle.xa_log.specs.declared.behind.Behind.{Behind}
use Rattle.xa_log.specs.declared.behind.Behind.TheVariants.{Cut, Length, First}

abbrev pub IsBehind : List ℕ → Behind → Type 0
IsBehind tail Cut = length tail < LENGTH_BYTES
IsBehind tail Length = length tail ≡ LENGTH_BYTES
IsBehind tail (First byte) = (LENGTH_BYTES < length tail) × (slice_index tail LENGTH_BYTES ≡ byte)
