-- What contracts say of refusals besides their values.
use Rattle.std.specs.Prelude.{Bool, true, false}
use Rattle.xa_codes.specs.declared.detail.Detail.{Detail}
use Rattle.xa_codes.specs.declared.detail.Detail.TheVariants.{Memory}
pub use Rattle.xa_frame.specs.Made.{IsBare}

abbrev pub is_memory : Detail → Bool
is_memory Memory = true
is_memory _ = false
