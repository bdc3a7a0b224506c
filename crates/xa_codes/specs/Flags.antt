-- Which flags a call may have (C193, with the calls on records and the operator's besides it).
use Rattle.std.specs.Prelude.{ℕ, ◌==◌, Bool, not, ◌&&◌, ◌||◌, bit_and, ◌-◌, ◌+◌}
use Rattle.xa_codes.specs.declared.flags.TheConstants.{TMONEPHASE, TMFAIL, TMNOWAIT, TMRESUME, TMSUCCESS, TMSUSPEND}
use Rattle.xa_codes.specs.declared.flags.TheConstants.{TMSTARTRSCAN, TMENDRSCAN, TMJOIN, TMMIGRATE}
use Rattle.xa_codes.specs.declared.call.Call.{Call}
use Rattle.xa_codes.specs.declared.call.Call.TheVariants.{Start, End, Commit, Recover}

-- no flag is set but those of the mask
abbrev pub within : ℕ → ℕ → Bool
within flags mask = bit_and flags (0xffff_ffff - mask) == 0

-- each flag of the mask is set
abbrev pub has : ℕ → ℕ → Bool
has flags mask = bit_and flags mask == mask

-- the flags but TMASYNC
abbrev pub waiting : ℕ → ℕ
waiting flags = bit_and flags 0x7fff_ffff

abbrev pub legal : Call → ℕ → Bool
legal Recover flags = within flags (TMSTARTRSCAN + TMENDRSCAN)
legal Start flags =
    within (waiting flags) (TMJOIN + TMRESUME + TMNOWAIT) && not (has (waiting flags) (TMJOIN + TMRESUME))
legal End flags =
    (waiting flags == TMSUCCESS) || (waiting flags == TMFAIL) || (waiting flags == TMSUSPEND)
    || (waiting flags == TMSUSPEND + TMMIGRATE)
legal Commit flags = within (waiting flags) (TMONEPHASE + TMNOWAIT)
legal _ flags = waiting flags == 0
