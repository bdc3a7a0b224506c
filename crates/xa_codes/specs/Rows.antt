-- Worked rows: flags, in the numbers of C193's header, and the directions' numbers.
use Rattle.std.specs.Prelude.{◌≡◌, true, false}
use Rattle.xa_codes.specs.Flags.{legal}
use Rattle.xa_codes.specs.declared.flags.TheConstants.{TMNOFLAGS, TMASYNC, TMONEPHASE, TMFAIL, TMNOWAIT, TMRESUME}
use Rattle.xa_codes.specs.declared.flags.TheConstants.{TMSUCCESS, TMSUSPEND, TMSTARTRSCAN, TMENDRSCAN, TMMULTIPLE}
use Rattle.xa_codes.specs.declared.flags.TheConstants.{TMJOIN, TMMIGRATE}
use Rattle.xa_codes.specs.declared.direction.TheConstants.{COMMIT, ROLLBACK}
use Rattle.xa_codes.specs.declared.call.Call.TheVariants.{Open, Close, Start, End, Prepare, Commit, Rollback, Recover}
use Rattle.xa_codes.specs.declared.call.Call.TheVariants.{Forget, Get, Put, Restart, Timeout, Tick, Trim, Branches}

-- the flags' values
abbrev pub HasValues : Type 0
HasValues =
    (TMNOFLAGS ≡ 0)
    × (TMASYNC ≡ 0x8000_0000)
    × (TMONEPHASE ≡ 0x4000_0000)
    × (TMFAIL ≡ 0x2000_0000)
    × (TMNOWAIT ≡ 0x1000_0000)
    × (TMRESUME ≡ 0x0800_0000)
    × (TMSUCCESS ≡ 0x0400_0000)
    × (TMSUSPEND ≡ 0x0200_0000)
    × (TMSTARTRSCAN ≡ 0x0100_0000)
    × (TMENDRSCAN ≡ 0x0080_0000)
    × (TMMULTIPLE ≡ 0x0040_0000)
    × (TMJOIN ≡ 0x0020_0000)
    × (TMMIGRATE ≡ 0x0010_0000)

-- the directions' numbers
abbrev pub HasNumbers : Type 0
HasNumbers = (COMMIT ≡ 1) × (ROLLBACK ≡ 2)

-- flags together that a call may have
abbrev pub MayHave : Type 0
MayHave =
    (legal Open 0 ≡ true)
    × (legal Close 0 ≡ true)
    -- TMNOFLAGS, TMJOIN, TMRESUME|TMNOWAIT
    × (legal Start 0 ≡ true)
    × (legal Start 0x0020_0000 ≡ true)
    × (legal Start 0x1800_0000 ≡ true)
    -- TMSUCCESS, TMFAIL, TMSUSPEND, TMSUSPEND|TMMIGRATE
    × (legal End 0x0400_0000 ≡ true)
    × (legal End 0x2000_0000 ≡ true)
    × (legal End 0x0200_0000 ≡ true)
    × (legal End 0x0210_0000 ≡ true)
    -- TMNOFLAGS, TMONEPHASE|TMNOWAIT
    × (legal Commit 0 ≡ true)
    × (legal Commit 0x5000_0000 ≡ true)
    -- TMNOFLAGS, TMSTARTRSCAN|TMENDRSCAN
    × (legal Recover 0 ≡ true)
    × (legal Recover 0x0180_0000 ≡ true)
    -- TMASYNC is taken away, and answered XAER_ASYNC where it means something
    × (legal Start 0x8000_0000 ≡ true)
    × (legal Get 0x8000_0000 ≡ true)
    × (legal Timeout 0x8000_0000 ≡ true)
    × (legal Branches 0x8000_0000 ≡ true)
    -- no flags
    × (legal Timeout 0 ≡ true)
    × (legal Tick 0 ≡ true)
    × (legal Trim 0 ≡ true)
    × (legal Branches 0 ≡ true)

-- flags together that a call may not have
abbrev pub MayNotHave : Type 0
MayNotHave =
    -- TMJOIN|TMRESUME
    (legal Start 0x0820_0000 ≡ false)
    -- TMNOFLAGS, TMSUCCESS|TMMIGRATE, TMSUCCESS|TMFAIL, TMMIGRATE
    × (legal End 0 ≡ false)
    × (legal End 0x0410_0000 ≡ false)
    × (legal End 0x2400_0000 ≡ false)
    × (legal End 0x0010_0000 ≡ false)
    -- TMASYNC
    × (legal Recover 0x8000_0000 ≡ false)
    -- TMNOWAIT
    × (legal Prepare 0x1000_0000 ≡ false)
    × (legal Rollback 0x1000_0000 ≡ false)
    × (legal Forget 0x1000_0000 ≡ false)
    -- TMMULTIPLE
    × (legal Open 0x0040_0000 ≡ false)
    × (legal Commit 0x0040_0000 ≡ false)
    -- a bit that no flag has
    × (legal Put 1 ≡ false)
    × (legal Restart 1 ≡ false)
    × (legal Timeout 1 ≡ false)
    × (legal Tick 1 ≡ false)
    × (legal Trim 1 ≡ false)
    × (legal Branches 1 ≡ false)
