-- What is at the front of bytes.
use Rattle.std.specs.Prelude.{ℕ, ◌≡◌, ◌≢◌, ◌+◌, ◌≤◌, List, [], ◌++◌, length, take, drop}
use Rattle.xa_limits.specs.declared.TheConstants.{MOST_CONTENT}
use Rattle.xa_desk.specs.Believed.Frames.{frame}
use Rattle.xa_desk.specs.Believed.Serving.{IsCut, IsTooLong}
use Rattle.xa_connection.specs.declared.front.Front.{Front}
use Rattle.xa_connection.specs.declared.front.Front.TheVariants.{Whole, Cut, TooLong}

-- a frame, whose content has this many bytes, and the bytes after it
pub record BeginsWhole (bytes : List ℕ) (count : ℕ) : Type 0 where
  pub short : count ≤ MOST_CONTENT
  pub fits : 4 + count ≤ length bytes
  pub parts : bytes ≡ frame (take count (drop 4 bytes)) ++ drop (4 + count) bytes

-- a length that is too great for a frame
abbrev pub BeginsTooLong : List ℕ → Type 0
BeginsTooLong bytes = (read : List ℕ) × (rest : List ℕ) × IsTooLong read × (bytes ≡ read ++ rest)

abbrev pub IsFront : List ℕ → Front → Type 0
IsFront bytes (Whole count) = BeginsWhole bytes count
IsFront bytes Cut = IsCut bytes
IsFront bytes TooLong = BeginsTooLong bytes

-- some bytes of a frame, and not all: neither are they none, nor is a whole frame at the front, nor a length too great
abbrev pub IsInsideFrame : List ℕ → Type 0
IsInsideFrame bytes = (bytes ≢ []) × IsCut bytes

-- of a frame: its content is short
abbrev pub IsShortFront : Front → Type 0
IsShortFront (Whole count) = count ≤ MOST_CONTENT
IsShortFront _ = Unit {0}
