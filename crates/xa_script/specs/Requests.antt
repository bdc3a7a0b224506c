-- What a session asks for, by the words after its number.
use Rattle.std.specs.Prelude.{◌≡◌, ℕ, ◌*◌, ◌&&◌, nat_le, Bool, if◌then◌else◌, bytes_eq, codes}
use Rattle.std.specs.Prelude.{List, [], ◌∷◌, length, find, Option, Some, None, IfSome, option_and_then}
use Rattle.std.specs.Option.{option_map}
use Rattle.std.specs.List.{list_all}
use Rattle.xa_script.specs.Flags.{flags_of}
use Rattle.xa_script.specs.Hexadecimal.{bytes_of}
use Rattle.xa_script.specs.Numbers.{count_of, moment_of}
use Rattle.xa_script.specs.Texts.{is_quoted, text_of as bytes_of_text}
use Rattle.xa_script.specs.Words.{alone, by_one, two_of, by_two}
use Rattle.xa_codes.specs.declared.call.Call.{Call}
use Rattle.xa_codes.specs.declared.call.Call.TheVariants as call
use Rattle.xa_codes.specs.declared.direction.Direction.{Direction}
use Rattle.xa_codes.specs.declared.direction.Direction.TheVariants as direction
use Rattle.xa_limits.specs.declared.TheConstants.{MOST_INFO, MOST_KEY, MOST_VALUE}
use Rattle.xa_xid.specs.Triple.{Triple, IsWithinLimits}
use Rattle.xa_xid.specs.Spelling.{text_of}
use Rattle.xa_frame.specs.declared.request.Request.{Request}
use Rattle.xa_frame.specs.declared.request.Request.TheVariants.{Open, Close, Start, End, Prepare, Commit, Rollback, Forget}
use Rattle.xa_frame.specs.declared.request.Request.TheVariants.{Recover, Get, Put, Delete, Decide, Doom, Restart, Timeout, Tick, Trim, Branches}

-- the words that name a request
abbrev pub named_verbs : List (List ℕ × Call)
named_verbs =
    (codes "open", call.Open)
    ∷ (codes "close", call.Close)
    ∷ (codes "start", call.Start)
    ∷ (codes "end", call.End)
    ∷ (codes "prepare", call.Prepare)
    ∷ (codes "commit", call.Commit)
    ∷ (codes "rollback", call.Rollback)
    ∷ (codes "forget", call.Forget)
    ∷ (codes "recover", call.Recover)
    ∷ (codes "get", call.Get)
    ∷ (codes "put", call.Put)
    ∷ (codes "delete", call.Delete)
    ∷ (codes "decide", call.Decide)
    ∷ (codes "doom", call.Doom)
    ∷ (codes "restart", call.Restart)
    ∷ (codes "timeout", call.Timeout)
    ∷ (codes "tick", call.Tick)
    ∷ (codes "trim", call.Trim)
    ∷ (codes "branches", call.Branches)
    ∷ []

abbrev pub verb_of : List ℕ → Option Call
verb_of word = option_map (λ entry. entry.1) (find (λ entry. bytes_eq entry.0 word) named_verbs)

-- 1 to MOST_INFO bytes from ! to ~
abbrev pub is_graphic : List ℕ → Bool
is_graphic word = list_all (λ c. nat_le 33 c && nat_le c 126) word

abbrev pub is_name : List ℕ → Bool
is_name word = nat_le 1 (length word) && nat_le (length word) MOST_INFO && is_graphic word

-- this many bytes at the least, and at the most
abbrev pub between : ℕ → ℕ → List ℕ → Option (List ℕ)
between least most bytes = if nat_le least (length bytes) && nat_le (length bytes) most then Some bytes else None

-- 1 to MOST_KEY bytes, of two digits each, or as text in quotes
abbrev pub key_of : List ℕ → Option (List ℕ)
key_of word =
    if is_quoted word then option_and_then (between 1 MOST_KEY) (bytes_of_text word)
    else if nat_le 1 (length word) && nat_le (length word) (2 * MOST_KEY) then bytes_of word
    else None

-- at most MOST_VALUE bytes, likewise; the empty value is also a dash
abbrev pub value_of : List ℕ → Option (List ℕ)
value_of word =
    if is_quoted word then option_and_then (between 0 MOST_VALUE) (bytes_of_text word)
    else if bytes_eq word (codes "-") then Some []
    else if nat_le 1 (length word) && nat_le (length word) (2 * MOST_VALUE) then bytes_of word
    else None

-- what the words after `open` ask
abbrev pub open_by : List (List ℕ) → Option Request
open_by words =
    option_and_then
    (λ w. if is_name w.1 then option_map (λ flags. Open flags w.1) (flags_of w.0) else None)
    (two_of words)

-- what the words after `put` ask
abbrev pub put_by : List (List ℕ) → Option Request
put_by words = by_two key_of value_of (λ key value. Put key value) words

abbrev pub direction_of : List ℕ → Option Direction
direction_of word =
    if bytes_eq word (codes "commit") then Some direction.Commit
    else if bytes_eq word (codes "rollback") then Some direction.Rollback
    else None

-- a function that gives the XID of each XID's text, and of no other text
pub record ReadsTexts (xid_of : List ℕ → Option Triple) : Type 0 where
  pub each : (x : Triple) → IsWithinLimits x → xid_of (text_of x) ≡ Some x
  pub only : (text : List ℕ) → IfSome (xid_of text) (λ x. IsWithinLimits x × (text ≡ text_of x))

-- over what reads the texts of XIDs
module _ (xid_of : List ℕ → Option Triple) where
  -- flags and an XID
  abbrev pub branch_pair : List (List ℕ) → Option (ℕ × Triple)
  branch_pair words = by_two flags_of xid_of (λ flags xid. (flags, xid)) words

  -- one word is an XID, no word none
  abbrev pub cursor_of : List (List ℕ) → Option (Option Triple)
  cursor_of [] = Some None
  cursor_of (word ∷ []) = option_map (λ xid. Some xid) (xid_of word)
  cursor_of _ = None

  -- what the words after `branches` ask
  abbrev pub branches_by : List (List ℕ) → Option Request
  branches_by [] = None
  branches_by (word ∷ words) =
      option_and_then (λ count. option_map (λ after. Branches count after) (cursor_of words)) (count_of word)

  abbrev pub request_of : Call → List (List ℕ) → Option Request
  request_of call.Open words = open_by words
  request_of call.Close words = by_one flags_of (λ flags. Close flags) words
  request_of call.Start words = option_map (λ pair. Start pair.0 pair.1) (branch_pair words)
  request_of call.End words = option_map (λ pair. End pair.0 pair.1) (branch_pair words)
  request_of call.Prepare words = option_map (λ pair. Prepare pair.0 pair.1) (branch_pair words)
  request_of call.Commit words = option_map (λ pair. Commit pair.0 pair.1) (branch_pair words)
  request_of call.Rollback words = option_map (λ pair. Rollback pair.0 pair.1) (branch_pair words)
  request_of call.Forget words = option_map (λ pair. Forget pair.0 pair.1) (branch_pair words)
  request_of call.Recover words = by_two flags_of count_of (λ flags count. Recover flags count) words
  request_of call.Get words = by_one key_of (λ key. Get key) words
  request_of call.Put words = put_by words
  request_of call.Delete words = by_one key_of (λ key. Delete key) words
  request_of call.Decide words = by_two direction_of xid_of (λ direction xid. Decide direction xid) words
  request_of call.Doom words = by_one xid_of (λ xid. Doom xid) words
  request_of call.Restart words = alone Restart words
  request_of call.Timeout words = by_one count_of (λ seconds. Timeout seconds) words
  request_of call.Tick words = by_one moment_of (λ moment. Tick moment) words
  request_of call.Trim words = alone Trim words
  request_of call.Branches words = branches_by words
