-- By which ids a server counts what it does.
use Rattle.std.specs.Prelude.{ℕ, ℤ, zero, suc, pos, negsuc, ◌+◌, ◌-◌, ◌/◌, ◌==◌, nat_le, if◌then◌else◌}
use Rattle.xa_codes.specs.declared.call.Call.{Call}
use Rattle.xa_frame.specs.Spelling.{operation}

-- a call that was answered
abbrev pub call_id : Call → ℕ
call_id call = 100 + operation call

-- a reply with this code, of -9 to 107
abbrev pub code_id : ℤ → ℕ
code_id (pos n) = if nat_le n 107 then 500 + n else 490
code_id (negsuc n) = if nat_le n 8 then 500 - suc n else 490

-- how often a number can be halved until it is 0, this many times at most
abbrev pub halvings : ℕ → ℕ → ℕ
halvings zero n = 0
halvings (suc most) n = if n == 0 then 0 else suc (halvings most (n / 2))

-- the least exponent whose power of two is at least n, or the last
abbrev pub bucket : ℕ → ℕ → ℕ
bucket n last = halvings last (n - 1)
