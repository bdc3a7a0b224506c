-- Records that were given the low water stand for what they stood for.
use Rattle.std.proofs.Common.{◌≡◌, ℕ, ◌+◌, max, subst, map, arith}
use Rattle.mv_chain.specs.Accesses.{AreWhole}
use Rattle.mv_rules.specs.declared.records.Records.{Records}
use Rattle.mv_rules.specs.Accesses.{Accesses}
use Rattle.mv_rules.specs.Records.{StandsFor as RecordsStandFor}
use Rattle.mv_rules.specs.Ties.{history_of, writes_in, read_as}
use Rattle.mv_rules.proofs.Undecided.{are_whole}
use Rattle.xa_model.specs.Invariants.LowWater.{low_water, work_floor}
use Rattle.xa_model.specs.Invariants.Sound.{IsSound}
use Rattle.xa_model.specs.State.{State, timestamp_of}

-- what the records are given is no more than what they count from
no_higher : (first low given : ℕ) → given ≡ low → max (max first low) given ≡ max first low
no_higher first low given e = omega (arith, e)

pub given_stands : (s : State) (r r' : Records) (given : ℕ) → given ≡ low_water s → IsSound s
    → ((h : Accesses) → RecordsStandFor h r → AreWhole h.writes → RecordsStandFor (record h { low = max h.low given }) r')
    → RecordsStandFor (history_of s) r → RecordsStandFor (history_of s) r'
given_stands s r r' given e sound gives st =
    subst (λ (low : ℕ). RecordsStandFor (record { low = low; writes = writes_in s.branches; reads = map read_as s.reads }) r') (no_higher (work_floor s) (low_water s) given e)
    (gives (history_of s) st (are_whole (timestamp_of s.boot s.given + 1) s.branches sound.descends))
