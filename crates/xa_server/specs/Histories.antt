-- A history as the lines of a script, and its replies.
use Rattle.std.specs.Prelude.{ℕ, List, ◌++◌, codes, flat_map}
use Rattle.std.specs.Fmt.{decimal}
use Rattle.xa_history.specs.declared.receipt.Receipt.{Receipt}
use Rattle.xa_model.specs.declared.event.Event.{Event}
use Rattle.xa_model.specs.declared.event.Event.TheVariants as event
use Rattle.xa_script.specs.Asking.{request_line}
use Rattle.xa_script.specs.Replies.{line_of}
use Rattle.xa_server.specs.declared.serve_fault.ServeFault.{ServeFault}
use Rattle.xa_server.specs.declared.serve_fault.ServeFault.TheVariants as fault

-- the line that asks for an event
abbrev pub event_line : Event → List ℕ
event_line event.Connect = codes "connect\n"
event_line (event.Hangup session) = decimal session ++ codes " hangup\n"
event_line (event.Call session request) = request_line session request ++ codes "\n"

abbrev pub script_of : List Receipt → List ℕ
script_of history = flat_map (λ (r : Receipt). event_line r.event) history

abbrev pub replies_of : List Receipt → List ℕ
replies_of history = flat_map (λ (r : Receipt). line_of r.reply) history

-- no file was made for it
abbrev pub IsHistoryFault : ServeFault → Type 0
IsHistoryFault fault.Memory = Unit {0}
IsHistoryFault (fault.History file why) = Unit {0}
IsHistoryFault _ = ⊥

-- what was served wasn't told, or its history wasn't written
abbrev pub IsEndFault : ServeFault → Type 0
IsEndFault fault.Memory = Unit {0}
IsEndFault fault.Write = Unit {0}
IsEndFault (fault.History file why) = Unit {0}
IsEndFault _ = ⊥
