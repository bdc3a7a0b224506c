-- Boots rise: what records come to has no boot below one that was read.
use Rattle.std.proofs.Common.{◌≡◌, ◌<◌, ◌≤◌, ◌+◌, ℕ, true, false, Ok, List, [], ◌∷◌, Option, Some, None, refl, ap, sym, arith}
use Rattle.std.specs.Prelude.{find}
use Rattle.std.proofs.lemmas.Bool.{ltb-true}
use Rattle.xa_codes.specs.declared.direction.Direction.{Direction}
use Rattle.xa_codes.specs.declared.direction.Direction.TheVariants.{Commit, Rollback}
use Rattle.xa_xid.specs.Triple.{Triple}
use Rattle.xa_record.specs.declared.record.Record.{Record}
use Rattle.xa_record.specs.declared.record.Record.TheVariants.{Opened, Prepared, Committed, Completed, Decided, Forgotten, Base, Held, Known}
use Rattle.xa_model.specs.Durable.{Durable, PreparedBranch}
use Rattle.xa_model.specs.State.{without}
use Rattle.xa_model.specs.Fold.{Reading, apply, read, fits, complete, commit_prepared, prepared_as, fold_from, is_new, unread}
use Rattle.xa_model.proofs.Folds.{stepped}
use Rattle.xa_model.proofs.Tests.{none_past}
use Rattle.xa_recovery.specs.Log.{BeginsWithBoot}

committed_boot : (o : Option PreparedBranch) (d : Durable) → (commit_prepared o d).boot ≡ d.boot
committed_boot None d = refl
committed_boot (Some p) d = refl

completed_boot : (xid : Triple) (direction : Direction) (d : Durable) → (complete xid direction d).boot ≡ d.boot
completed_boot xid Commit d = committed_boot (find (prepared_as xid) d.prepared) (record d { prepared = without (prepared_as xid) d.prepared })
completed_boot xid Rollback d = refl

not_below : (m n : ℕ) → n ≡ m → m ≤ n
not_below m n e = omega (arith, e)

boot_rises : (r : Record) (x : Reading) → fits r x ≡ true → x.durable.boot ≤ (apply r x.durable).boot
boot_rises (Opened boot) x fit = let less : x.durable.boot < boot = ltb-true x.durable.boot boot fit in omega (arith, less)
boot_rises (Prepared xid t ws) x fit = omega arith
boot_rises (Committed xid t ws) x fit = omega arith
boot_rises (Completed xid direction) x fit = not_below x.durable.boot (complete xid direction x.durable).boot (completed_boot xid direction x.durable)
boot_rises (Decided xid direction) x fit = not_below x.durable.boot (complete xid direction x.durable).boot (completed_boot xid direction x.durable)
boot_rises (Forgotten xid) x fit = omega arith
boot_rises (Base t ws) x fit = omega arith
boot_rises (Held xid t ws) x fit = omega arith
boot_rises (Known xid direction) x fit = omega arith

boots_rise : (i : ℕ) (x : Reading) (rs : List Record) (d : Durable) → fold_from i x rs ≡ Ok d → x.durable.boot ≤ d.boot
boots_rise i x [] d e = let same : x.durable ≡ d = cc e in not_below x.durable.boot d.boot (ap (λ (y : Durable). y.boot) (sym same))
boots_rise i x (r ∷ rs) d e =
    let both = stepped r x i rs d e in
    let here = boot_rises r x both.0 in
    let rest = boots_rise (i + 1) (read r x) rs d both.1 in
    omega (arith, here, rest)

-- before the first boot nothing was given
new_before : (xid : Triple) (t : ℕ) → is_new xid t unread ≡ false
new_before xid t = rw (none_past t) refl

pub begins_with_boot : BeginsWithBoot
begins_with_boot (Opened boot) rs d e =
    let both = stepped (Opened boot) unread 0 rs d e in
    let some : 0 < boot = ltb-true 0 boot both.0 in
    (boot, refl, omega (arith, some), boots_rise 1 (read (Opened boot) unread) rs d both.1)
begins_with_boot (Prepared xid t ws) rs d e = absurd (cc (new_before xid t, (stepped (Prepared xid t ws) unread 0 rs d e).0))
begins_with_boot (Committed xid t ws) rs d e = absurd (cc (new_before xid t, (stepped (Committed xid t ws) unread 0 rs d e).0))
begins_with_boot (Completed xid direction) rs d e = absurd (cc e)
begins_with_boot (Decided xid direction) rs d e = absurd (cc e)
begins_with_boot (Forgotten xid) rs d e = absurd (cc e)
begins_with_boot (Base t ws) rs d e = absurd (cc e)
begins_with_boot (Held xid t ws) rs d e = absurd (cc e)
begins_with_boot (Known xid direction) rs d e = absurd (cc e)
