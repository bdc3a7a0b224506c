-- What a server answers, and the one content that spells each: a reply's, with place 0, and bodies of five more kinds.
use Rattle.std.specs.Prelude.{◌≡◌, ◌≢◌, ℕ, pos, ◌<◌, ◌^◌, ◌≤◌, List, [], ◌∷◌, ◌++◌, All, length, FitsSigned}
use Rattle.std.specs.Int.{w32, w64, to_be_bytes}
use Rattle.xa_codes.specs.declared.detail.Detail.TheVariants.{Nothing}
use Rattle.xa_frame.specs.declared.reply.Reply.{Reply}
use Rattle.xa_frame.specs.Made.{detailed}
use Rattle.xa_frame.specs.Spelling.{Spells, bytes_of_reply, counted_bytes}
use Rattle.xa_control.specs.declared.answer.Answer.{Answer}
use Rattle.xa_control.specs.declared.answer.Answer.TheVariants.{Done, Refused, Hello, Metrics, Sessions, Challenge, Welcome}
use Rattle.xa_control.specs.declared.numbers.TheConstants.{MOST_NUMBERS}
use Rattle.xa_control.specs.Controls.{HoldsHello, hello_bytes}
use Rattle.xa_control.specs.Messages.{IsMessage}

-- the version, code 0, detail 0, place 0: up to the kind of the body
abbrev pub well_bytes : List ℕ
well_bytes = 1 ∷ 0 ∷ 0 ∷ 0 ∷ 0 ∷ 0 ∷ 0 ∷ 0 ∷ 0 ∷ 0 ∷ 0 ∷ 0 ∷ 0 ∷ 0 ∷ []

abbrev pub bytes_of_answer : Answer → List ℕ
bytes_of_answer Done = bytes_of_reply (detailed (pos 0) Nothing)
bytes_of_answer (Refused code detail) = bytes_of_reply (detailed code detail)
bytes_of_answer (Hello hello) = well_bytes ++ 8 ∷ hello_bytes hello
bytes_of_answer (Metrics numbers) = well_bytes ++ 9 ∷ counted_bytes (to_be_bytes w64) numbers
bytes_of_answer (Sessions numbers) = well_bytes ++ 10 ∷ counted_bytes (to_be_bytes w64) numbers
bytes_of_answer (Challenge message) = well_bytes ++ 11 ∷ message
bytes_of_answer (Welcome message) = well_bytes ++ 12 ∷ message

-- a refusal has another code than 0; there are few numbers
abbrev pub IsAnswer : Answer → Type 0
IsAnswer (Refused code detail) = code ≢ pos 0
IsAnswer (Metrics numbers) = length numbers ≤ MOST_NUMBERS
IsAnswer (Sessions numbers) = length numbers ≤ MOST_NUMBERS
IsAnswer _ = Unit {0}

-- what the types of a program hold anyway
abbrev pub HoldsAnswer : Answer → Type 0
HoldsAnswer (Refused code detail) = FitsSigned w32 code
HoldsAnswer (Hello hello) = HoldsHello hello
HoldsAnswer (Metrics numbers) = All (λ n. n < 2 ^ 64) numbers
HoldsAnswer (Sessions numbers) = All (λ n. n < 2 ^ 64) numbers
HoldsAnswer (Challenge message) = IsMessage message
HoldsAnswer (Welcome message) = IsMessage message
HoldsAnswer Done = Unit {0}

-- these bytes are the content of this answer
abbrev pub SpellsAnswer : List ℕ → Answer → Type 0
SpellsAnswer = Spells IsAnswer HoldsAnswer bytes_of_answer

-- an answer that is spelled as this reply is
abbrev pub Says : Reply → Answer → Type 0
Says reply Done = reply ≡ detailed (pos 0) Nothing
Says reply (Refused code detail) = (code ≢ pos 0) × (reply ≡ detailed code detail)
Says reply _ = ⊥

-- these bytes are few numbers, after how many they are
pub record IsCounted (bytes numbers : List ℕ) : Type 0 where
  pub few : length numbers ≤ MOST_NUMBERS
  pub holds : All (λ n. n < 2 ^ 64) numbers
  pub bytes_are : bytes ≡ counted_bytes (to_be_bytes w64) numbers
