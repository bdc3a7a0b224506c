-- What a branch has written is within the limits of a record.
use Rattle.std.proofs.Common.{◌≡◌, ◌≤◌, ◌<◌, ◌^◌, ℕ, List, [], ◌∷◌, length, refl, arith}
use Rattle.std.specs.List.{AllByRecursion as Each}
use Rattle.std.specs.Cmp.Lexicographic.{slice_cmp}
use Rattle.std.specs.Ordering.{nat_cmp}
use Rattle.std.specs.declared.cmp.Ordering.TheVariants.{Less}
use Rattle.xa_codes.specs.declared.write.Write.{Write}
use Rattle.xa_limits.specs.declared.TheConstants.{MOST_VALUE}
use Rattle.xa_xid.specs.Triple.{Triple, IsWithinLimits}
use Rattle.xa_record.specs.Limits.{IsWrite, AscendsFrom, IsBranch}
use Rattle.mv_rules.specs.Accesses.{IsAscending}
use Rattle.mv_rules.specs.Within.{IsKey, AreShort, HaveKeys}

each_write : (ws : List Write) → Each (λ w. IsKey w.key) ws → AreShort MOST_VALUE ws → Each IsWrite ws
each_write [] keys short = tt
each_write (w ∷ ws) keys short = (record { some = keys.0.0; short = keys.0.1; value = short.0 }, each_write ws keys.1 short.1)

ascends : (key : List ℕ) (ws : List Write) → Each (λ w. slice_cmp nat_cmp key w.key ≡ Less) ws → IsAscending ws → AscendsFrom key ws
ascends key [] above h = tt
ascends key (w ∷ ws) above h = (above.0, ascends w.key ws h.0 h.1)

above_none : (key : List ℕ) → 1 ≤ length key → slice_cmp nat_cmp [] key ≡ Less
above_none [] some = absurd (omega arith)
above_none (b ∷ key) some = refl

all_above : (ws : List Write) → Each (λ w. IsKey w.key) ws → Each (λ w. slice_cmp nat_cmp [] w.key ≡ Less) ws
all_above [] keys = tt
all_above (w ∷ ws) keys = (above_none w.key keys.0.0, all_above ws keys.1)

pub is_within : (xid named : Triple) (t : ℕ) (ws spelled : List Write) → named ≡ xid → spelled ≡ ws → IsWithinLimits xid → t < 2 ^ 64 → 1 ≤ length ws → IsAscending ws → AreShort MOST_VALUE ws → HaveKeys ws
    → IsBranch named t spelled
is_within xid named t ws spelled is same name stamp some ascending short keys = rw (is, same) (record {
  name = name;
  stamped = record {
    stamp = stamp;
    writes = record { some = some; few = keys.0; each = each_write ws keys.1 short; ascending = ascends [] ws (all_above ws keys.1) ascending };
  };
})
