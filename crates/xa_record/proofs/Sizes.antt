-- How long bodies are.
use Rattle.std.proofs.Common.{◌≡◌, ℕ, ◌+◌, ◌*◌, ◌<◌, ◌≤◌, List, [], ◌∷◌, length, Option, Some, None, refl, arith}
use Rattle.std.specs.List.{AllByRecursion}
use Rattle.std.specs.Prelude.{IfSome, flat_map}
use Rattle.std.proofs.lemmas.List.{length-append}
use Rattle.xa_codes.specs.declared.direction.Direction.{Direction}
use Rattle.xa_limits.specs.declared.TheConstants.{MOST_BODY, MOST_KEY, MOST_SMALL, MOST_VALUE, MOST_WRITES, XID_BYTES}
use Rattle.xa_codes.specs.declared.write.Write.{Write}
use Rattle.xa_xid.specs.Triple.{Triple, IsWithinLimits}
use Rattle.xa_xid.specs.Spelling.{bytes_of}
use Rattle.xa_fields.specs.Spelling.{direction_bytes}
use Rattle.xa_record.specs.declared.record.Record.{Record}
use Rattle.xa_record.specs.declared.record.Record.TheVariants.{Opened, Prepared, Committed, Completed, Decided, Forgotten, Base, Held, Known}
use Rattle.xa_record.specs.Limits.{IsWrite, IsStamped, IsBranch, IsRecord}
use Rattle.xa_record.specs.Spelling.{left_bytes, write_bytes, stamped_bytes, branch_bytes, spelled}

name_short : (x : Triple) → IsWithinLimits x → length (bytes_of x) ≤ XID_BYTES
name_short x h = omega (arith, length-append x.gtrid x.bqual, h.lengths.2, h.lengths.3)

pub opened : (boot : ℕ) → length (spelled (Opened boot)) ≡ 5
opened boot = refl

pub completed : (x : Triple) (d : Direction) → IsWithinLimits x → length (spelled (Completed x d)) ≤ MOST_SMALL
completed x d h = omega (arith, name_short x h, length-append (bytes_of x) (direction_bytes d))

pub decided : (x : Triple) (d : Direction) → IsWithinLimits x → length (spelled (Decided x d)) ≤ MOST_SMALL
decided x d h = omega (arith, name_short x h, length-append (bytes_of x) (direction_bytes d))

pub forgotten : (x : Triple) → IsWithinLimits x → length (spelled (Forgotten x)) < MOST_SMALL
forgotten x h = omega (arith, name_short x h)

pub known : (x : Triple) (d : Direction) → IsWithinLimits x → length (spelled (Known x d)) ≤ MOST_SMALL
known x d h = omega (arith, name_short x h, length-append (bytes_of x) (direction_bytes d))

-- what is left at a key, in bytes, at most; and a write, its key after a length of 1
abbrev most_left : ℕ
most_left = 3 + MOST_VALUE

abbrev most_write : ℕ
most_write = 1 + MOST_KEY + most_left

-- a timestamp, a count, and the writes; and an XID before them
abbrev most_stamped : ℕ
most_stamped = 10 + most_write * MOST_WRITES

abbrev most_branch : ℕ
most_branch = XID_BYTES + most_stamped

left_short : (v : Option (List ℕ)) → IfSome v (λ s. length s ≤ MOST_VALUE) → length (left_bytes v) ≤ most_left
left_short None h = omega arith
left_short (Some s) h = omega (arith, h)

write_short : (w : Write) → IsWrite w → length (write_bytes w) ≤ most_write
write_short w h = omega (arith, h.short, left_short w.value h.value, length-append w.key (left_bytes w.value))

writes_short : (ws : List Write) → AllByRecursion IsWrite ws → length (flat_map write_bytes ws) ≤ most_write * length ws
writes_short [] h = omega arith
writes_short (w ∷ ws) h = omega (arith, write_short w h.0, writes_short ws h.1, length-append (write_bytes w) (flat_map write_bytes ws))

stamped_short : (t : ℕ) (ws : List Write) → IsStamped t ws → length (stamped_bytes t ws) ≤ most_stamped
stamped_short t ws h = omega (arith, writes_short ws h.writes.each, h.writes.few)

branch_short : (x : Triple) (t : ℕ) (ws : List Write) → IsBranch x t ws → length (branch_bytes x t ws) ≤ most_branch
branch_short x t ws h = omega (arith, name_short x h.name, stamped_short t ws h.stamped, length-append (bytes_of x) (stamped_bytes t ws))

pub any : (r : Record) → IsRecord r → (1 ≤ length (spelled r)) × (length (spelled r) ≤ MOST_BODY)
any (Opened boot) h = (omega arith, omega arith)
any (Prepared x t ws) h = (omega arith, omega (arith, branch_short x t ws h))
any (Committed x t ws) h = (omega arith, omega (arith, branch_short x t ws h))
any (Completed x d) h = (omega arith, omega (arith, completed x d h))
any (Decided x d) h = (omega arith, omega (arith, decided x d h))
any (Forgotten x) h = (omega arith, omega (arith, forgotten x h))
any (Base t ws) h = (omega arith, omega (arith, stamped_short t ws h))
any (Held x t ws) h = (omega arith, omega (arith, branch_short x t ws h))
any (Known x d) h = (omega arith, omega (arith, known x d h))
