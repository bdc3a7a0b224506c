-- The line that shows what a server answers that is asked something.
use Rattle.std.specs.Prelude.{ℕ, ℤ, pos, Bool, List, [], ◌∷◌, ◌++◌, codes, flat_map}
use Rattle.std.specs.Fmt.{decimal}
use Rattle.xa_codes.specs.declared.detail.Detail.{Detail}
use Rattle.xa_codes.specs.declared.detail.Detail.TheVariants as detail
use Rattle.xa_control.specs.declared.answer.Answer.{Answer}
use Rattle.xa_control.specs.declared.answer.Answer.TheVariants.{Refused, Hello, Metrics, Sessions, Challenge, Welcome}
use Rattle.xa_script.specs.Replies.{code_text, name_of}

abbrev pub code_of : Answer → ℤ
code_of (Refused code detail) = code
code_of _ = pos 0

abbrev pub detail_of : Answer → Detail
detail_of (Refused code detail) = detail
detail_of _ = detail.Nothing

-- numbers, each after a blank
abbrev pub numbers_text : List ℕ → List ℕ
numbers_text numbers = flat_map (λ n. 32 ∷ decimal n) numbers

-- the revision and the features, what was measured, or the sessions that were asked for; a login's messages aren't shown
abbrev pub answer_text : Answer → List ℕ
answer_text (Hello hello) = codes " hello" ++ (32 ∷ decimal hello.revision) ++ (32 ∷ decimal hello.features)
answer_text (Metrics numbers) = codes " metrics" ++ numbers_text numbers
answer_text (Sessions numbers) = codes " sessions" ++ numbers_text numbers
answer_text (Challenge message) = codes " challenge"
answer_text (Welcome message) = codes " welcome"
answer_text _ = []

-- the code's text, a blank, the detail's name, what the answer carries and the line's end
abbrev pub answer_line : Bool → Answer → List ℕ
answer_line named answer =
    code_text named (code_of answer) ++ (32 ∷ name_of (detail_of answer)) ++ answer_text answer ++ 10 ∷ []
