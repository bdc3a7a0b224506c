-- What may stand in a frame that comes in: a request, or what asks for the status, which is no event of the history.
use Rattle.std.specs.Prelude.{◌≡◌, ℕ, List, [], ◌∷◌, Option, ◌==◌, if◌then◌else◌}
use Rattle.xa_frame.specs.declared.fault.FrameFault.{FrameFault}
use Rattle.xa_frame.specs.declared.question.Question.{Question}
use Rattle.xa_frame.specs.declared.question.Question.TheVariants.{Call, Status}
use Rattle.xa_frame.specs.Faults.{fault_in, fault_of_operation, fault_unless_long}
use Rattle.xa_frame.specs.Limits.{IsRequest}
use Rattle.xa_frame.specs.Spelling.{SpellsRequest, bytes_of_request}

-- the number of the operation that asks for the status
abbrev pub status_operation : ℕ
status_operation = 67

-- the version, the operation, no field
abbrev pub status_content : List ℕ
status_content = 1 ∷ status_operation ∷ []

abbrev pub IsQuestion : Question → Type 0
IsQuestion (Call request) = IsRequest request
IsQuestion Status = Unit {0}

abbrev pub bytes_of_question : Question → List ℕ
bytes_of_question (Call request) = bytes_of_request request
bytes_of_question Status = status_content

-- these bytes are the content of this question
abbrev pub SpellsQuestion : List ℕ → Question → Type 0
SpellsQuestion bytes (Call request) = SpellsRequest bytes request
SpellsQuestion bytes Status = bytes ≡ status_content

abbrev pub fault_behind_operation : List ℕ → Option FrameFault
fault_behind_operation [] = fault_of_operation []
fault_behind_operation (n ∷ bytes) =
    if n == status_operation then fault_in [] bytes else fault_of_operation (n ∷ bytes)

-- the fault of a content, or none
abbrev pub fault_of_question : List ℕ → Option FrameFault
fault_of_question bytes = fault_unless_long fault_behind_operation bytes
