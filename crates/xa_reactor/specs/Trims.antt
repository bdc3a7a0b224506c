-- When the log is trimmed.
use Rattle.std.specs.Prelude.{ℕ, ◌≡◌, ◌⊎◌, ◌-◌, ◌/◌, min, Bool, true, false, ◌&&◌, ◌||◌, nat_lt, nat_le, Option, Some, None, is_none, if◌then◌else◌}
use Rattle.xa_reactor.specs.declared.common.Settings.{Settings}
use Rattle.xa_reactor.specs.declared.trims.Refused.{Refused}
use Rattle.xa_reactor.specs.declared.trims.Trims.{Trims}

-- what was asked for, or a quarter of the greatest size if that is above half of it
abbrev pub bound_of : ℕ → ℕ → ℕ
bound_of asked log_bytes = if nat_lt (log_bytes / 2) asked then log_bytes / 4 else asked

-- By the end that the last snapshot left: the log ends above the bound, and at least four times as far, or so that half
-- of what was left free is used up.
abbrev pub is_due : ℕ → ℕ → ℕ → ℕ → Bool
is_due end base bound log_bytes =
    nat_lt bound end && (nat_le base (end / 4) || nat_le ((log_bytes - base) / 2) (end - base))

-- none was refused, or a minute ago, or the log grew by a quarter since
abbrev pub may_try : Option Refused → ℕ → ℕ → Bool
may_try None now end = true
may_try (Some refused) now end = nat_le 60000 (now - refused.at) || nat_le (refused.end / 4) (end - refused.end)

-- none was told, or a minute ago
abbrev pub is_news : Option ℕ → ℕ → Bool
is_news None now = true
is_news (Some told) now = nat_le 60000 (now - told)

abbrev pub is_to_trim : Trims → Settings → ℕ → ℕ → Bool
is_to_trim trims settings now end =
    nat_lt 0 settings.trim_bytes
    && is_due end trims.base (bound_of settings.trim_bytes settings.log_bytes) settings.log_bytes
    && may_try trims.refused now end

-- none was refused, and the log grew by a MiB since the last snapshot
abbrev pub has_grown : Trims → ℕ → Bool
has_grown trims end = is_none trims.refused && nat_le 1048576 (end - trims.base)

-- 64 MiB are trimmed in less than a second
abbrev pub is_quick : ℕ → Bool
is_quick end = nat_le end 67108864

-- a door is as it was, or the log ended at such a place before, as was answered there
abbrev pub IsTrimmedAt : {D : Type 0} → (D → ℕ → Type 0) → (ℕ → Type 0) → D → D → Type 0
IsTrimmedAt ends at d e = (e ≡ d) ⊎ ((end : ℕ) × ends d end × at end)

-- no end was seen
abbrev pub new_trims : Trims
new_trims = record { base = 18446744073709551615; refused = None; told = None }

abbrev pub after_look : Trims → ℕ → Trims
after_look trims end = record trims { base = min trims.base end }

abbrev pub after_trim : Trims → ℕ → Trims
after_trim trims end = record trims { base = end; refused = None }

abbrev pub refused_by : Trims → ℕ → ℕ → Trims
refused_by trims now end =
    record trims {
      refused = Some (record { at = now; end = end });
      told = if is_news trims.told now then Some now else trims.told;
    }

-- ---- worked rows

-- The log's greatest size is 1 GiB or 1 MiB; the bound 64 MiB, or for the small one a quarter of it. A log with little
-- that lasts is trimmed right above the bound; one of which 100 MiB last, at 400 MiB; one of which 600 MiB last, once half
-- of the rest is used up; a small one of which 800 KiB last, likewise.
pub record DueRows : Type 0 where
  pub bounds : (bound_of 67108864 1073741824 ≡ 67108864) × (bound_of 67108864 1048576 ≡ 262144)
  pub least : (is_due 67108864 110 67108864 1073741824 ≡ false) × (is_due 67108865 110 67108864 1073741824 ≡ true)
  pub four : (is_due 419430399 104857600 67108864 1073741824 ≡ false)
      × (is_due 419430400 104857600 67108864 1073741824 ≡ true)
  pub half : (is_due 851443711 629145600 67108864 1073741824 ≡ false)
      × (is_due 851443712 629145600 67108864 1073741824 ≡ true)
  pub small : (is_due 933887 819200 262144 1048576 ≡ false) × (is_due 933888 819200 262144 1048576 ≡ true)
