-- What stands after the last record of a log that chains: if a record is shown there that doesn't, also with another
-- length than it was written with, those that chain after it.
use Rattle.std.specs.Prelude.{ℕ, zero, suc, ◌+◌, ◌^◌, Bool, false, not, ◌&&◌, ◌||◌, ◌==◌, nat_le, nat_lt, bit_xor, if◌then◌else◌}
use Rattle.std.specs.Prelude.{List, [], ◌∷◌, ◌++◌, length, take, drop, slice_index}
use Rattle.std.specs.Int.{w32, to_be_bytes, from_be_bytes}
use Rattle.xa_limits.specs.declared.TheConstants.{AROUND_BODY, DIGEST_BYTES, LENGTH_BYTES, MOST_BODY_OF_ONE}
use Rattle.xa_log.specs.Believed.Chain.{start, last, behind_text, bodies_from}
use Rattle.xa_log.specs.Believed.Chain.{digest_at, is_record, most_body, rest_at, size_at}
use Rattle.xa_log.specs.Believed.Generation.{generation}
use Rattle.xa_log.specs.declared.format.Format.{Format}
use Rattle.xa_log.specs.declared.mending.TheConstants.{LENGTH_BITS}
use Rattle.xa_log.specs.declared.left_out.TheConstants.{BOOT_BYTES, COMMITTED, MOST_GROUP, PREPARED, STAMP_OFFSET, FIRST_PART, SECOND_PART}

-- a record is shown at the front of these bytes, whether or not it chains: a length that its format takes, and as many bytes
abbrev pub shows_record : Format → List ℕ → Bool
shows_record format bytes =
    nat_le 1 (size_at bytes)
    && (nat_le (size_at bytes) (most_body format) && nat_le (AROUND_BODY + size_at bytes) (length bytes))

-- the digest that stands after its body
abbrev pub stored_at : List ℕ → List ℕ
stored_at bytes = take DIGEST_BYTES (drop (LENGTH_BYTES + size_at bytes) bytes)

-- The digest on which a record chains after it: the one that stands there, unless only on the one that its length and its
-- body have.
abbrev pub digest_left : Format → List ℕ → List ℕ → List ℕ
digest_left format prev bytes =
    if is_record format (stored_at bytes) (rest_at bytes) then stored_at bytes else digest_at prev bytes

-- the bodies that chain after the record that is shown at the front, none if none is
abbrev pub bodies_left : Format → List ℕ → List ℕ → List (List ℕ)
bodies_left format prev bytes =
    if shows_record format bytes
    then bodies_from format (length bytes) (digest_left format prev bytes) (rest_at bytes) else []

-- these bytes with another length at their front
unfoldable pub with_size : ℕ → List ℕ → List ℕ
with_size size bytes = to_be_bytes w32 size ++ drop LENGTH_BYTES bytes

-- with this length a record chains at their front, and a window has room for it
unfoldable pub chains_with : Format → List ℕ → List ℕ → ℕ → Bool
chains_with format prev bytes size = nat_le size MOST_BODY_OF_ONE && is_record format prev (with_size size bytes)

-- These bytes with the first length with which a record chains at their front, of those that differ from theirs in one of this
-- many bits, from the highest on; as they are if none does.
unfoldable pub mended : Format → List ℕ → List ℕ → ℕ → List ℕ
mended format prev bytes zero = bytes
mended format prev bytes (suc bit) =
    if chains_with format prev bytes (bit_xor (size_at bytes) (2 ^ bit))
    then with_size (bit_xor (size_at bytes) (2 ^ bit)) bytes else mended format prev bytes bit

-- a record is shown for which a window has no room
unfoldable pub shows_long : Format → List ℕ → Bool
shows_long format bytes = nat_lt MOST_BODY_OF_ONE (size_at bytes) && shows_record format bytes

-- These bytes, at whose front no record chains, as they were written, if in a length there only one bit has changed. A length
-- of 0 ends a log, and by the length of a long record that is shown it is taken as it stands.
unfoldable pub as_written : Format → List ℕ → List ℕ → List ℕ
as_written format prev bytes =
    if not (size_at bytes == 0) && not (shows_long format bytes) then mended format prev bytes LENGTH_BITS else bytes

-- the same of what stands after a log of these bodies
abbrev pub written_behind : Format → List (List ℕ) → List ℕ → List ℕ
written_behind format bodies file = as_written format (last (start format) bodies) (behind_text format bodies file)

-- what a log of these bodies, of which there is one at least, leaves out: what chains after a record that is shown after
-- them
abbrev pub left_out : Format → List (List ℕ) → List ℕ → List (List ℕ)
left_out format [] file = []
left_out format (body ∷ bodies) file =
    bodies_left format (last (start format) (body ∷ bodies)) (written_behind format (body ∷ bodies) file)

-- where the stamp of a body that has one stands: after its kind and an XID, of which two bytes say how long its parts are
abbrev pub stamp_at : List ℕ → ℕ
stamp_at body = STAMP_OFFSET + (slice_index body FIRST_PART + slice_index body SECOND_PART)

-- the boot in which the branch of a body began
abbrev pub boot_in : List ℕ → ℕ
boot_in body = from_be_bytes w32 (take BOOT_BYTES (drop (stamp_at body) body))

-- A body that was appended to a log of this generation, and to none that its file had before: it has a stamp of its boot. What
-- was appended to an older log of the same file has stamps of older boots; so have branches that began before a Trim.
abbrev pub is_own : ℕ → List ℕ → Bool
is_own generation body =
    (slice_index body 0 == PREPARED || slice_index body 0 == COMMITTED)
    && (nat_le (stamp_at body + BOOT_BYTES) (length body) && nat_le generation (boot_in body))

-- of bodies whose records stand this far after a place, one is the log's own that stands farther after it than a group goes
abbrev pub has_own : ℕ → ℕ → List (List ℕ) → Bool
has_own generation at [] = false
has_own generation at (body ∷ bodies) =
    (nat_le MOST_GROUP at && is_own generation body) || has_own generation (at + (AROUND_BODY + length body)) bodies

-- A log stops short if a record is shown after its bodies that doesn't chain, and what chains after it was appended later
-- than with it: all of that was synced before.
unfoldable pub stops_short : Format → List (List ℕ) → List ℕ → Bool
stops_short format bodies file =
    has_own (generation bodies) (AROUND_BODY + size_at (written_behind format bodies file)) (left_out format bodies file)
