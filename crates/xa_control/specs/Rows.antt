-- Worked contents: how some of what a server is asked and answers is spelled.
use Rattle.std.specs.Prelude.{◌≡◌, negsuc, [], ◌∷◌}
use Rattle.xa_codes.specs.declared.codes.TheConstants.{XAER_INVAL, XAER_RMFAIL}
use Rattle.xa_codes.specs.declared.detail.Detail.TheVariants as detail
use Rattle.xa_xid.specs.Triple.{Triple}
use Rattle.xa_control.specs.declared.answer.Answer.TheVariants as answer
use Rattle.xa_control.specs.declared.control.Control.TheVariants as control
use Rattle.xa_control.specs.declared.hello.Hello.{Hello}
use Rattle.xa_control.specs.Answers.{bytes_of_answer}
use Rattle.xa_control.specs.Controls.{bytes_of_control}

-- revision 1, with the features of bits 0 and 40
abbrev pub greeting : Hello
greeting = record { revision = 1; features = 1099511627777 }

-- -2:aabb:cc
abbrev pub branch : Triple
branch = record { format = negsuc 1; gtrid = 170 ∷ 187 ∷ []; bqual = 204 ∷ [] }

abbrev pub SpelledSo : Type 0
SpelledSo =
    (bytes_of_control control.Shutdown ≡ 1 ∷ 69 ∷ [])
    × (bytes_of_control (control.Hello greeting) ≡ 1 ∷ 70 ∷ 0 ∷ 0 ∷ 0 ∷ 1 ∷ 0 ∷ 0 ∷ 1 ∷ 0 ∷ 0 ∷ 0 ∷ 0 ∷ 1 ∷ [])
    × (bytes_of_control (control.Disconnect 4294967299) ≡ 1 ∷ 71 ∷ 0 ∷ 0 ∷ 0 ∷ 1 ∷ 0 ∷ 0 ∷ 0 ∷ 3 ∷ [])
    × (bytes_of_control control.Metrics ≡ 1 ∷ 72 ∷ [])
    × (bytes_of_control (control.Sessions branch) ≡ 1 ∷ 73 ∷ 255 ∷ 255 ∷ 255 ∷ 254 ∷ 2 ∷ 1 ∷ 170 ∷ 187 ∷ 204 ∷ [])
    -- "n,,n=u", no message, and "c=biws"
    × (bytes_of_control (control.First (110 ∷ 44 ∷ 44 ∷ 110 ∷ 61 ∷ 117 ∷ [])) ≡ 1 ∷ 74 ∷ 110 ∷ 44 ∷ 44 ∷ 110 ∷ 61 ∷ 117 ∷ [])
    × (bytes_of_control (control.First []) ≡ 1 ∷ 74 ∷ [])
    × (bytes_of_control (control.Final (99 ∷ 61 ∷ 98 ∷ 105 ∷ 119 ∷ 115 ∷ [])) ≡ 1 ∷ 75 ∷ 99 ∷ 61 ∷ 98 ∷ 105 ∷ 119 ∷ 115 ∷ [])
    × (bytes_of_answer answer.Done ≡ 1 ∷ 0 ∷ 0 ∷ 0 ∷ 0 ∷ 0 ∷ 0 ∷ 0 ∷ 0 ∷ 0 ∷ 0 ∷ 0 ∷ 0 ∷ 0 ∷ 0 ∷ [])
    -- no connection has that session, and no memory
    × (bytes_of_answer (answer.Refused XAER_INVAL detail.Nothing)
    ≡ 1 ∷ 255 ∷ 255 ∷ 255 ∷ 251 ∷ 0 ∷ 0 ∷ 0 ∷ 0 ∷ 0 ∷ 0 ∷ 0 ∷ 0 ∷ 0 ∷ 0 ∷ [])
    × (bytes_of_answer (answer.Refused XAER_RMFAIL detail.Memory)
    ≡ 1 ∷ 255 ∷ 255 ∷ 255 ∷ 249 ∷ 1 ∷ 0 ∷ 0 ∷ 0 ∷ 0 ∷ 0 ∷ 0 ∷ 0 ∷ 0 ∷ 0 ∷ [])
    × (bytes_of_answer (answer.Hello greeting)
    ≡ 1 ∷ 0 ∷ 0 ∷ 0 ∷ 0 ∷ 0 ∷ 0 ∷ 0 ∷ 0 ∷ 0 ∷ 0 ∷ 0 ∷ 0 ∷ 0 ∷ 8 ∷ 0 ∷ 0 ∷ 0 ∷ 1 ∷ 0 ∷ 0 ∷ 1 ∷ 0 ∷ 0 ∷ 0 ∷ 0 ∷ 1 ∷ [])
    -- no number, and two
    × (bytes_of_answer (answer.Metrics []) ≡ 1 ∷ 0 ∷ 0 ∷ 0 ∷ 0 ∷ 0 ∷ 0 ∷ 0 ∷ 0 ∷ 0 ∷ 0 ∷ 0 ∷ 0 ∷ 0 ∷ 9 ∷ 0 ∷ 0 ∷ [])
    × (bytes_of_answer (answer.Metrics (7 ∷ 258 ∷ []))
    ≡ 1 ∷ 0 ∷ 0 ∷ 0 ∷ 0 ∷ 0 ∷ 0 ∷ 0 ∷ 0 ∷ 0 ∷ 0 ∷ 0 ∷ 0 ∷ 0 ∷ 9 ∷ 0 ∷ 2 ∷ 0 ∷ 0 ∷ 0 ∷ 0 ∷ 0 ∷ 0 ∷ 0 ∷ 7 ∷ 0 ∷ 0 ∷ 0 ∷ 0 ∷ 0
    ∷ 0 ∷ 1 ∷ 2 ∷ [])
    -- sessions 3 and 4,294,967,299
    × (bytes_of_answer (answer.Sessions (3 ∷ 4294967299 ∷ []))
    ≡ 1 ∷ 0 ∷ 0 ∷ 0 ∷ 0 ∷ 0 ∷ 0 ∷ 0 ∷ 0 ∷ 0 ∷ 0 ∷ 0 ∷ 0 ∷ 0 ∷ 10 ∷ 0 ∷ 2 ∷ 0 ∷ 0 ∷ 0 ∷ 0 ∷ 0 ∷ 0 ∷ 0 ∷ 3 ∷ 0 ∷ 0 ∷ 0 ∷ 1
    ∷ 0 ∷ 0 ∷ 0 ∷ 3 ∷ [])
    -- "i=4096", no message, and "v=6r"
    × (bytes_of_answer (answer.Challenge (105 ∷ 61 ∷ 52 ∷ 48 ∷ 57 ∷ 54 ∷ []))
    ≡ 1 ∷ 0 ∷ 0 ∷ 0 ∷ 0 ∷ 0 ∷ 0 ∷ 0 ∷ 0 ∷ 0 ∷ 0 ∷ 0 ∷ 0 ∷ 0 ∷ 11 ∷ 105 ∷ 61 ∷ 52 ∷ 48 ∷ 57 ∷ 54 ∷ [])
    × (bytes_of_answer (answer.Challenge []) ≡ 1 ∷ 0 ∷ 0 ∷ 0 ∷ 0 ∷ 0 ∷ 0 ∷ 0 ∷ 0 ∷ 0 ∷ 0 ∷ 0 ∷ 0 ∷ 0 ∷ 11 ∷ [])
    × (bytes_of_answer (answer.Welcome (118 ∷ 61 ∷ 54 ∷ 114 ∷ []))
    ≡ 1 ∷ 0 ∷ 0 ∷ 0 ∷ 0 ∷ 0 ∷ 0 ∷ 0 ∷ 0 ∷ 0 ∷ 0 ∷ 0 ∷ 0 ∷ 0 ∷ 12 ∷ 118 ∷ 61 ∷ 54 ∷ 114 ∷ [])
