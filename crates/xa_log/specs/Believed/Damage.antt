-- Where a log's bytes show that they were damaged: what a checkpoint made stable is no longer there.
use Rattle.std.specs.Prelude.{◌≡◌, ◌⊎◌, ℕ, ◌+◌, ◌≤◌, Bool, true, false, not, ◌&&◌, ◌||◌, ◌==◌, nat_le, nat_lt}
use Rattle.std.specs.Prelude.{List, [], ◌∷◌, length, take, drop, slice_index, is_some}
use Rattle.std.specs.List.{AllByRecursion}
use Rattle.std.specs.Str.{bytes_eq}
use Rattle.xa_limits.specs.declared.TheConstants.{DIGEST_BYTES, FORMAT_BYTES, LENGTH_BYTES}
use Rattle.xa_log.specs.Believed.Chain.{start, behind_text, begins, digest, format_in, format_of, logged, size_at}
use Rattle.xa_log.specs.Believed.Generation.{generation, number_in}
use Rattle.xa_log.specs.Believed.LeftOut.{stops_short}
use Rattle.xa_log.specs.declared.damage.TheConstants.{BOOT_RECORD, LEAST_APPENDED, MOST_APPENDED}
use Rattle.xa_log.specs.declared.format.Format.{Format}
use Rattle.xa_log.specs.declared.format.Format.TheVariants.{One, Two}
use Rattle.xa_log.specs.declared.looking.TheConstants.{NUMBER_END}

-- what an appended body begins with; a checkpoint's bodies begin with others
abbrev pub is_appended : ℕ → Bool
is_appended kind = nat_le LEAST_APPENDED kind && nat_le kind MOST_APPENDED

-- none of these bodies was appended
abbrev pub is_snapshot : List (List ℕ) → Bool
is_snapshot [] = true
is_snapshot (body ∷ bodies) = not (is_appended (slice_index body 0)) && is_snapshot bodies

-- What may follow a snapshot: a closing length, or the length of a record that was about to be appended; and if there are
-- more bytes, a zero, or what an appended body begins with.
abbrev pub goes_on : List ℕ → Bool
goes_on tail =
    nat_le LENGTH_BYTES (length tail)
    && (nat_le (length tail) LENGTH_BYTES
    || (slice_index tail LENGTH_BYTES == 0 || is_appended (slice_index tail LENGTH_BYTES)))

abbrev pub other_than : Format → Format
other_than One = Two
other_than Two = One

-- Bytes show the first record of a checkpoint, of generation 2 or more: a length that isn't 0, and a body that doesn't begin
-- as an appended one does and has such a number.
abbrev pub shows_first : List ℕ → Bool
shows_first bytes =
    not (size_at bytes == 0)
    && (not (is_appended (slice_index bytes LENGTH_BYTES)) && nat_lt 1 (number_in (take NUMBER_END (drop LENGTH_BYTES bytes))))

-- A boot's record, by its length, has the digest that it has after the other format's name: a header that was torn may have
-- come before it.
abbrev pub is_renamed : Format → List ℕ → Bool
is_renamed format bytes =
    nat_le BOOT_RECORD (length bytes)
    && ((size_at bytes == NUMBER_END)
    && bytes_eq (take DIGEST_BYTES (drop (LENGTH_BYTES + NUMBER_END) bytes))
    (digest (start (other_than format)) (take NUMBER_END (drop LENGTH_BYTES bytes))))

-- After a file's name no record chains, but the first one of a checkpoint is shown.
abbrev pub lost_first : Format → List ℕ → Bool
lost_first format bytes = shows_first bytes && not (is_renamed format bytes)

-- No record was appended to a log of generation 2 or more, and what follows isn't what may follow a snapshot. In the first
-- format any bytes may: its checkpoints ended in a closing length alone, before what an older log had left.
unfoldable pub is_cut : Format → List (List ℕ) → List ℕ → Bool
is_cut One bodies file = false
is_cut Two bodies file =
    nat_lt 1 (generation bodies) && (is_snapshot bodies && not (goes_on (behind_text Two bodies file)))

-- after records that chain, the snapshot is cut, or the log stops short
abbrev pub breaks_behind : Format → List (List ℕ) → List ℕ → Bool
breaks_behind format bodies file = is_cut format bodies file || stops_short format bodies file

-- A log of generation 2 or more begins with the snapshot that a checkpoint wrote and synced before it counted. It breaks
-- off if its first record is shown but doesn't chain, or if its snapshot is cut; and any log does if it stops short of
-- what was appended and synced later.
unfoldable pub breaks_off : Format → List (List ℕ) → List ℕ → Bool
breaks_off format [] file = lost_first format (take BOOT_RECORD (behind_text format [] file))
breaks_off format (body ∷ bodies) file = breaks_behind format (body ∷ bodies) file

-- the log that a file is breaks off
unfoldable pub is_damaged : List ℕ → Bool
is_damaged file = breaks_off (format_in file) (logged file) file

-- a file that is a log breaks off before its first record
unfoldable pub is_headless : List ℕ → Bool
is_headless file =
    is_some (format_of (take FORMAT_BYTES file))
    && (not (begins file) && lost_first (format_in file) (take BOOT_RECORD (drop FORMAT_BYTES file)))

-- What is appended to a log of these bodies begins as appended bodies do, or is the beginning of the first generation.
abbrev pub AreAppended : List (List ℕ) → List (List ℕ) → Type 0
AreAppended bodies group =
    AllByRecursion (λ body. is_appended (slice_index body 0) ≡ true) group
    ⊎ ((bodies ≡ []) × (generation group ≤ 1))
