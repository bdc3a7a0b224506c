-- Metrics whose label says what is counted, as Prometheus reads them.
use Rattle.std.specs.Fmt.{decimal}
use Rattle.std.specs.Option.{option_map, option_map_or}
use Rattle.std.specs.Prelude.{ℕ, ℤ, pos, negsuc, ◌==◌, ◌+◌, ◌-◌, List, [], ◌∷◌, ◌++◌, Option, codes, find, if◌then◌else◌}
use Rattle.xa_codes.specs.Names.{named}
use Rattle.xa_frame.specs.Spelling.{operation}
use Rattle.xa_operate.specs.Metrics.{heading}
use Rattle.xa_operate.specs.declared.family.Family.{Family}
use Rattle.xa_operate.specs.declared.family.Family.TheVariants.{Calls, Codes}
use Rattle.xa_script.specs.Requests.{named_verbs}

-- a sample's name and label
abbrev pub opening : List ℕ → List ℕ → List ℕ
opening name label = name ++ 123 ∷ label ++ codes "=\""

-- the label's value, and the sample's
abbrev pub closing : List ℕ → List ℕ → List ℕ
closing value digits = value ++ codes "\"} " ++ digits ++ 10 ∷ []

-- a sample with a label
abbrev pub labelled : List ℕ → List ℕ → List ℕ → ℕ → List ℕ
labelled name label value n = opening name label ++ closing value (decimal n)

abbrev pub family_name : Family → List ℕ
family_name Calls = codes "xarm_requests_total"
family_name Codes = codes "xarm_replies_total"

abbrev pub family_help : Family → List ℕ
family_help Calls = codes "Calls answered since the server started, by what was called."
family_help Codes = codes "Replies since the server started, by their codes."

abbrev pub family_label : Family → List ℕ
family_label Calls = codes "call"
family_label Codes = codes "code"

-- the word of scripts for the call whose number on the wire is an id's distance from 100
abbrev pub call_word : ℕ → Option (List ℕ)
call_word id = option_map (λ verb. verb.0) (find (λ verb. 100 + operation verb.1 == id) named_verbs)

-- an id's distance from 500 is a code
abbrev pub code_id : ℤ → ℕ
code_id (pos n) = 500 + n
code_id (negsuc n) = 499 - n

-- C193's name of that code
abbrev pub code_word : ℕ → Option (List ℕ)
code_word id = option_map (λ entry. entry.1) (find (λ entry. code_id entry.0 == id) named)

abbrev pub value_of : Family → ℕ → Option (List ℕ)
value_of Calls id = call_word id
value_of Codes id = code_word id

-- a sample of a count that isn't 0
abbrev pub sample : Family → ℕ → ℕ → List ℕ
sample family id n =
    if n == 0 then []
    else option_map_or (λ value. labelled (family_name family) (family_label family) value n) (value_of family id) []

abbrev pub samples : Family → List ℕ → List ℕ
samples family [] = []
samples family (id ∷ []) = []
samples family (id ∷ count ∷ numbers) = sample family id count ++ samples family numbers

-- samples have a heading
abbrev pub headed : List ℕ → List ℕ → List ℕ
headed heading [] = []
headed heading (c ∷ cs) = heading ++ c ∷ cs

abbrev pub family_heading : Family → List ℕ
family_heading family = heading (family_name family) (codes "counter") (family_help family)

abbrev pub family_text : Family → List ℕ → List ℕ
family_text family numbers = headed (family_heading family) (samples family numbers)
