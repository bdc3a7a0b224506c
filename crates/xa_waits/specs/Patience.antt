-- How often a loop looks for more requests before it waits for a device.
use Rattle.std.specs.Prelude.{ℕ, ◌+◌, ◌-◌, ◌*◌, min, Bool, true, false, nat_lt, if◌then◌else◌}
use Rattle.xa_waits.specs.declared.patience.Patience.{Patience}

abbrev pub new_patience : Patience
new_patience = record { skips = 0; left = 0 }

-- not at all where it is left out, else 100 times
abbrev pub looks_now : Patience → ℕ
looks_now patience = if nat_lt 0 patience.left then 0 else 100

abbrev pub after_look : Patience → Patience
after_look patience = record patience { left = patience.left - 1 }

-- it is left out once after one in vain, then twice as often and once more each time, at most 63 times
abbrev pub skips_after : ℕ → Bool → ℕ
skips_after skips true = 0
skips_after skips false = min 63 (2 * skips + 1)

abbrev pub learned : Patience → Bool → Patience
learned patience came = record { skips = skips_after patience.skips came; left = skips_after patience.skips came }
