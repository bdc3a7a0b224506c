-- What a line of a script says.
use Rattle.std.specs.Prelude.{ℕ, ◌==◌, Bool, true, if◌then◌else◌, bytes_eq, codes}
use Rattle.std.specs.Prelude.{List, [], ◌∷◌, Option, Some, None, option_and_then, unwrap_or}
use Rattle.std.specs.Io.BufRead.{strip_last}
use Rattle.std.specs.Option.{option_map}
use Rattle.xa_control.specs.declared.control.Control.TheVariants as control
use Rattle.xa_control.specs.declared.hello.TheConstants.{REVISION}
use Rattle.xa_script.specs.Words.{alone, by_one, by_two, words}
use Rattle.xa_script.specs.Numbers.{byte_count_of, call_number_of, number_of}
use Rattle.xa_script.specs.Requests.{verb_of, request_of}
use Rattle.xa_script.specs.declared.call_effect.CallEffect.{CallEffect}
use Rattle.xa_script.specs.declared.call_effect.CallEffect.TheVariants.{Kept, Lost}
use Rattle.xa_script.specs.declared.log_file.LogFile.{LogFile}
use Rattle.xa_script.specs.declared.log_file.LogFile.TheVariants.{Current, Other}
use Rattle.xa_script.specs.declared.line.Line.{Line}
use Rattle.xa_script.specs.declared.line.Line.TheVariants.{Silent, Unknown, Connect, Hangup, Call, Status, Control, Fail, Stop, Reopen, Crash}
use Rattle.xa_frame.specs.Limits.{IsRequest}
use Rattle.xa_xid.specs.Triple.{Triple}

-- an empty line or a comment
abbrev pub is_silent : List ℕ → Bool
is_silent [] = true
is_silent (c ∷ cs) = c == 35

-- a request of the line is within the limits
abbrev pub IsWithinLimits : Line → Type 0
IsWithinLimits (Call n request) = IsRequest request
IsWithinLimits _ = Unit {0}

-- what a line of one word says
abbrev pub sole_of : List ℕ → Line
sole_of word =
    if bytes_eq word (codes "connect") then Connect
    else if bytes_eq word (codes "reopen") then Reopen
    else if bytes_eq word (codes "crash") then Crash Current 0
    else Unknown

-- what a device call that is to fail does all the same
abbrev pub effect_of : List ℕ → Option CallEffect
effect_of word =
    if bytes_eq word (codes "kept") then Some Kept
    else if bytes_eq word (codes "lost") then Some Lost
    else None

-- a device call of that file's disk, and its effect
abbrev pub fail_of : LogFile → List (List ℕ) → Option Line
fail_of file words = by_two call_number_of effect_of (λ call effect. Fail file call effect) words

-- the first device call that is to fail of that file's disk
abbrev pub stop_of : LogFile → List (List ℕ) → Option Line
stop_of file words = by_one call_number_of (λ call. Stop file call) words

-- how many bytes of that file's disk a crash keeps
abbrev pub crash_of : LogFile → List (List ℕ) → Option Line
crash_of file words = by_one byte_count_of (λ keeps. Crash file keeps) words

-- which log file words speak of, and what they say of it: the other one after the word `other`, else the current one
abbrev pub file_of : List (List ℕ) → LogFile × List (List ℕ)
file_of [] = (Current, [])
file_of (word ∷ words) = if bytes_eq word (codes "other") then (Other, words) else (Current, word ∷ words)

abbrev pub by_file : (LogFile → List (List ℕ) → Option Line) → List (List ℕ) → Option Line
by_file asked words = asked (file_of words).0 (file_of words).1

-- that the session of a number be hung up
abbrev pub disconnect_of : ℕ → List (List ℕ) → Option Line
disconnect_of n words = by_one number_of (λ other. Control n (control.Disconnect other)) words

-- over what reads the texts of XIDs
module _ (xid_of : List ℕ → Option Triple) where
  abbrev pub call_of : ℕ → List ℕ → List (List ℕ) → Option Line
  call_of n name arguments =
      option_and_then
      (λ v. option_map (λ request. Call n request) (request_of xid_of v arguments))
      (verb_of name)

  -- which sessions have an association with the branch of an XID
  abbrev pub sessions_of : ℕ → List (List ℕ) → Option Line
  sessions_of n words = by_one xid_of (λ xid. Control n (control.Sessions xid)) words

  -- what a session asks of its server, or by a call
  abbrev pub asks_of : ℕ → List ℕ → List (List ℕ) → Option Line
  asks_of n name arguments =
      if bytes_eq name (codes "shutdown") then alone (Control n control.Shutdown) arguments
      else if bytes_eq name (codes "hello")
      then alone (Control n (control.Hello (record { revision = REVISION; features = 0 }))) arguments
      else if bytes_eq name (codes "metrics") then alone (Control n control.Metrics) arguments
      else if bytes_eq name (codes "disconnect") then disconnect_of n arguments
      else if bytes_eq name (codes "sessions") then sessions_of n arguments
      else call_of n name arguments

  -- what a session's number says, and the words after it
  abbrev pub asked_of : List ℕ → List (List ℕ) → Option Line
  asked_of session [] = None
  asked_of session (name ∷ arguments) =
      option_and_then
      (λ n. if bytes_eq name (codes "hangup") then alone (Hangup n) arguments
      else if bytes_eq name (codes "status") then alone (Status n) arguments
      else asks_of n name arguments)
      (number_of session)

  -- what a first word asks, and the words after it
  abbrev pub asked_by : List ℕ → List (List ℕ) → Option Line
  asked_by first words =
      if bytes_eq first (codes "fail") then by_file fail_of words
      else if bytes_eq first (codes "stop") then by_file stop_of words
      else if bytes_eq first (codes "crash") then by_file crash_of words
      else asked_of first words

  abbrev pub by_words : List (List ℕ) → Line
  by_words [] = Unknown
  by_words (word ∷ []) = sole_of word
  by_words (first ∷ second ∷ others) = unwrap_or (asked_by first (second ∷ others)) Unknown

  abbrev pub said_of : List ℕ → Line
  said_of text = if is_silent text then Silent else by_words (words text)

  -- a carriage return at the end isn't read
  abbrev pub line_of : List ℕ → Line
  line_of line = said_of (strip_last 13 line)
