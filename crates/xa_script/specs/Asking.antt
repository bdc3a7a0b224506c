-- The line that asks something of a session, without the line's end.
use Rattle.std.specs.Prelude.{ℕ, ◌==◌, ◌<◌, if◌then◌else◌, codes, IsTrue, All}
use Rattle.std.specs.Prelude.{List, [], ◌∷◌, ◌++◌, flat_map, find, Option, Some, None, unwrap_or}
use Rattle.std.specs.Fmt.{decimal}
use Rattle.std.specs.Int.{w32, to_be_bytes}
use Rattle.std.specs.Option.{option_map}
use Rattle.xa_codes.specs.declared.direction.Direction.{Direction}
use Rattle.xa_codes.specs.declared.direction.Direction.TheVariants as direction
use Rattle.xa_script.specs.Flags.{named_flags}
use Rattle.xa_script.specs.Replies.{value_text}
use Rattle.xa_script.specs.Requests.{is_name}
use Rattle.xa_frame.specs.declared.request.Request.{Request}
use Rattle.xa_frame.specs.declared.request.Request.TheVariants.{Open, Close, Start, End, Prepare, Commit, Rollback, Forget}
use Rattle.xa_frame.specs.declared.request.Request.TheVariants.{Recover, Get, Put, Delete, Decide, Doom, Restart, Timeout, Tick, Trim, Branches}
use Rattle.xa_xid.specs.Spelling.{hex, text_of}
use Rattle.xa_xid.specs.Triple.{Triple}

-- flags that are written by names: none, two pairs that stand together in C193, and each by itself
abbrev pub flag_texts : List (List ℕ × ℕ)
flag_texts =
    (codes "TMNOFLAGS", 0)
    ∷ (codes "TMSTARTRSCAN|TMENDRSCAN", 0x0180_0000)
    ∷ (codes "TMSUSPEND|TMMIGRATE", 0x0210_0000)
    ∷ named_flags

abbrev pub flags_name : ℕ → Option (List ℕ)
flags_name flags = option_map (λ entry. entry.0) (find (λ entry. entry.1 == flags) flag_texts)

-- those, and others as eight digits after 0x
abbrev pub flags_text : ℕ → List ℕ
flags_text flags = unwrap_or (flags_name flags) (codes "0x" ++ hex (to_be_bytes w32 flags))

-- a script spells an info that is a name; any other is a question mark
abbrev pub info_text : List ℕ → List ℕ
info_text info = if is_name info then info else codes "?"

abbrev pub direction_text : Direction → List ℕ
direction_text direction.Commit = codes "commit"
direction_text direction.Rollback = codes "rollback"

abbrev pub cursor_words : Option Triple → List (List ℕ)
cursor_words None = []
cursor_words (Some xid) = text_of xid ∷ []

-- the verb, and what it wants
abbrev pub words_of : Request → List (List ℕ)
words_of (Open flags info) = codes "open" ∷ flags_text flags ∷ info_text info ∷ []
words_of (Close flags) = codes "close" ∷ flags_text flags ∷ []
words_of (Start flags xid) = codes "start" ∷ flags_text flags ∷ text_of xid ∷ []
words_of (End flags xid) = codes "end" ∷ flags_text flags ∷ text_of xid ∷ []
words_of (Prepare flags xid) = codes "prepare" ∷ flags_text flags ∷ text_of xid ∷ []
words_of (Commit flags xid) = codes "commit" ∷ flags_text flags ∷ text_of xid ∷ []
words_of (Rollback flags xid) = codes "rollback" ∷ flags_text flags ∷ text_of xid ∷ []
words_of (Forget flags xid) = codes "forget" ∷ flags_text flags ∷ text_of xid ∷ []
words_of (Recover flags count) = codes "recover" ∷ flags_text flags ∷ decimal count ∷ []
words_of (Get key) = codes "get" ∷ hex key ∷ []
words_of (Put key value) = codes "put" ∷ hex key ∷ value_text value ∷ []
words_of (Delete key) = codes "delete" ∷ hex key ∷ []
words_of (Decide direction xid) = codes "decide" ∷ direction_text direction ∷ text_of xid ∷ []
words_of (Doom xid) = codes "doom" ∷ text_of xid ∷ []
words_of Restart = codes "restart" ∷ []
words_of (Timeout seconds) = codes "timeout" ∷ decimal seconds ∷ []
words_of (Tick moment) = codes "tick" ∷ decimal moment ∷ []
words_of Trim = codes "trim" ∷ []
words_of (Branches count after) = codes "branches" ∷ decimal count ∷ cursor_words after

-- words, each after a blank
abbrev pub words_text : List (List ℕ) → List ℕ
words_text words = flat_map (λ word. 32 ∷ word) words

abbrev pub request_line : ℕ → Request → List ℕ
request_line session request = decimal session ++ words_text (words_of request)

-- a line spells the info of an Open if it is a name: one that begins with a quote too, since no word stands after it
abbrev pub HasName : Request → Type 0
HasName (Open flags info) = IsTrue (is_name info)
HasName _ = Unit {0}

-- what the types of a program hold anyway: keys and values are bytes
abbrev pub HoldsBytes : Request → Type 0
HoldsBytes (Get key) = All (λ b. b < 256) key
HoldsBytes (Put key value) = All (λ b. b < 256) key × All (λ b. b < 256) value
HoldsBytes (Delete key) = All (λ b. b < 256) key
HoldsBytes _ = Unit {0}
