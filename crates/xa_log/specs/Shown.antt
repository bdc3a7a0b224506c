-- What reading finds if a record is shown, whether or not it chains.
use Rattle.std.specs.Prelude.{◌≡◌, ◌⊎◌, ℕ, ◌+◌, ◌≤◌, min, true, false, List, [], length, take, drop, Option, Some, None}
use Rattle.std.specs.Int.{w32, to_be_bytes}
use Rattle.xa_disk.specs.declared.counts.Counts.{Counts}
use Rattle.xa_limits.specs.declared.TheConstants.{AROUND_BODY, LENGTH_BYTES, MOST_BODY}
use Rattle.xa_log.specs.Calls.{FetchedUpto, FetchedWithin, ReachesTo}
use Rattle.xa_log.specs.Believed.Chain.{behind_text, body_at, digest_at, is_record, most_body, size_at}
use Rattle.xa_log.specs.Believed.LeftOut.{bodies_left, chains_with, left_out, shows_long}
use Rattle.xa_log.specs.Believed.LeftOut.{shows_record, stored_at, with_size, written_behind}
use Rattle.xa_log.specs.Reading.{Finds, Fits, bodies_of}
use Rattle.xa_log.specs.Window.{Caches}
use Rattle.xa_log.specs.declared.format.Format.{Format}
use Rattle.xa_log.specs.declared.found.Found.{Found}
use Rattle.xa_log.specs.declared.found.Shown.{Shown}
use Rattle.xa_log.specs.declared.chaining.Next.{Next}
use Rattle.xa_log.specs.declared.chaining.Next.TheVariants.{Chains, Short, Long}
use Rattle.xa_log.specs.declared.left_out.Left.{Left}
use Rattle.xa_log.specs.declared.mending.Mended.{Mended}
use Rattle.xa_log.specs.declared.record.TheConstants.{SHORT_RECORD}
use Rattle.xa_log.specs.declared.window.Span.{Span}
use Rattle.xa_log.specs.declared.window.TheConstants.{WINDOW}

-- the body and the digest that stand at an offset by the length there, and what the window has of the file by then
pub record IsShown (file : List ℕ) (at : ℕ) (window : List ℕ) (shown : Shown) : Type 0 where
  pub spelled : take LENGTH_BYTES (drop at file) ≡ to_be_bytes w32 (length shown.body.items)
  pub body : shown.body.items ≡ body_at (drop at file)
  pub stored : shown.stored ≡ stored_at (drop at file)
  pub caches : Caches file window shown.span

-- the record that is shown at an offset, or that none is
abbrev pub Shows : Format → List ℕ → ℕ → List ℕ → Option Shown → Type 0
Shows format file at window None = shows_record format (drop at file) ≡ false
Shows format file at window (Some shown) = (shows_record format (drop at file) ≡ true) × IsShown file at window shown

-- as the record that it is if it chains on its own digest
abbrev pub as_found : Shown → Found
as_found shown = record { body = shown.body; digest = shown.stored; span = shown.span }

-- if a record is shown, the file was read up to where a window has it
abbrev pub FetchedShown : ℕ → ℕ → Counts → Counts → Option Shown → Type 0
FetchedShown len most first now None = FetchedWithin len most first now
FetchedShown len most first now (Some shown) = FetchedUpto len most first now shown.span

-- of a file of this length a window has the bytes from an offset on, as far as it reaches
pub record HasFrom (at len : ℕ) (span : Span) : Type 0 where
  pub begins : span.from ≤ at
  pub reaches : at ≤ span.from + span.have
  pub held : span.have ≤ WINDOW
  pub inside : span.from + span.have ≤ len

-- of the record that is shown at an offset, the size of its body, or 0 if none is, and what the window has by then
pub record IsShownSize (format : Format) (file : List ℕ) (at : ℕ) (window : List ℕ) (size : ℕ) (span : Span) : Type 0 where
  pub none : size ≡ 0 → shows_record format (drop at file) ≡ false
  pub some : 1 ≤ size → shows_record format (drop at file) ≡ true
  pub spelled : 1 ≤ size → take LENGTH_BYTES (drop at file) ≡ to_be_bytes w32 size
  pub caches : Caches file window span

pub record FitsSize (format : Format) (at len size : ℕ) (span : Span) : Type 0 where
  pub has : HasFrom at len span
  pub small : size ≤ most_body format
  pub within : 1 ≤ size → at + (AROUND_BODY + size) ≤ len
  pub length_read : 1 ≤ size → at + LENGTH_BYTES ≤ span.from + span.have

-- this much of the file was read for it, and reading it up to its end stays within the same bound
pub record FetchedSize (len most at size : ℕ) (first now : Counts) (span : Span) : Type 0 where
  pub upto : FetchedUpto len most first now span
  pub reaches : 1 ≤ size → ReachesTo (at + (AROUND_BODY + size)) (span.from + span.have) most

-- The record that stands at an offset and chains. If none does, the window has what stands there, unless it has no room for
-- the record that is shown.
abbrev pub Stands : Format → List ℕ → List ℕ → ℕ → List ℕ → Next → Type 0
Stands format prev file at window (Chains found) = Finds format prev file at window (Some found)
Stands format prev file at window (Short span) =
    (is_record format prev (drop at file) ≡ false) × (shows_long format (drop at file) ≡ false) × Caches file window span
Stands format prev file at window (Long shown) =
    (is_record format prev (drop at file) ≡ false) × (shows_long format (drop at file) ≡ true)
    × Shows format file at window (Some shown)

abbrev pub FitsNext : Format → ℕ → ℕ → Next → Type 0
FitsNext format at len (Chains found) = Fits format at len WINDOW found
FitsNext format at len (Short span) = HasFrom at len span
FitsNext format at len (Long shown) = Fits format at len WINDOW (as_found shown) × (length shown.body.items ≤ MOST_BODY)

-- what the window has by then
abbrev pub span_of : Next → Span
span_of (Chains found) = found.span
span_of (Short span) = span
span_of (Long shown) = shown.span

-- with this length a record chains at the front of these bytes, and has this digest
pub record IsMended (format : Format) (prev bytes : List ℕ) (mended : Mended) : Type 0 where
  pub chains : is_record format prev (with_size mended.size bytes) ≡ true
  pub digest : mended.digest ≡ digest_at prev (with_size mended.size bytes)

-- as many of these bytes from the front on as a window has room for in a record
pub record IsFrontOf (front bytes : List ℕ) : Type 0 where
  pub front_is : front ≡ take (length front) bytes
  pub whole : min (length bytes) SHORT_RECORD ≤ length front

-- the digest that the record has then, or that none chains then
abbrev pub IfChainsWith : Format → List ℕ → List ℕ → ℕ → Option (List ℕ) → Type 0
IfChainsWith format prev bytes size None = chains_with format prev bytes size ≡ false
IfChainsWith format prev bytes size (Some digest) =
    (chains_with format prev bytes size ≡ true) × (digest ≡ digest_at prev (with_size size bytes))

-- as they were written, or as they are
abbrev pub IsWritten : Format → List ℕ → List ℕ → List ℕ → Option Mended → Type 0
IsWritten format prev bytes written None = written ≡ bytes
IsWritten format prev bytes written (Some mended) =
    (written ≡ with_size mended.size bytes) × IsMended format prev bytes mended

-- what chains after the record that is shown at the front of these bytes, and how far after
pub record IsLeft (format : Format) (prev bytes : List ℕ) (left : Left) : Type 0 where
  pub bodies : bodies_of left.bodies.items ≡ bodies_left format prev bytes
  pub distance : shows_record format bytes ≡ true → left.distance ≡ AROUND_BODY + size_at bytes

-- what a log of these bodies leaves out, and if anything is, how far it begins after them
pub record IsLeftOut (format : Format) (bodies : List (List ℕ)) (file : List ℕ) (left : Left) : Type 0 where
  pub bodies_are : bodies_of left.bodies.items ≡ left_out format bodies file
  pub distance : (bodies_of left.bodies.items ≡ []) ⊎ (left.distance ≡ AROUND_BODY + size_at (written_behind format bodies file))
