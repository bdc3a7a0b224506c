-- The least role that may ask for each thing.
use Rattle.std.specs.Prelude.{ℕ, Bool, true, false, bytes_eq, codes, List, Option, Some, None, nat_le, if◌then◌else◌}
use Rattle.xa_codes.specs.declared.call.Call.{Call}
use Rattle.xa_codes.specs.declared.call.Call.TheVariants as call
use Rattle.xa_control.specs.declared.control.Control.{Control}
use Rattle.xa_control.specs.declared.control.Control.TheVariants as control
use Rattle.xa_frame.specs.Spelling.{call_of}
use Rattle.xa_frame.specs.declared.question.Question.{Question}
use Rattle.xa_frame.specs.declared.question.Question.TheVariants as question
use Rattle.xa_roles.specs.declared.role.Role.{Role}
use Rattle.xa_roles.specs.declared.role.Role.TheVariants.{Monitor, Client, Operator}

abbrev pub rank : Role → ℕ
rank Monitor = 1
rank Client = 2
rank Operator = 3

-- the first may ask what the second one may
abbrev pub includes : Role → Role → Bool
includes role least = nat_le (rank least) (rank role)

abbrev pub least : Call → Role
least call.Branches = Monitor
-- C193's calls
least call.Open = Client
least call.Close = Client
least call.Start = Client
least call.End = Client
least call.Prepare = Client
least call.Commit = Client
least call.Rollback = Client
least call.Recover = Client
least call.Forget = Client
-- the session's time limits, and records
least call.Timeout = Client
least call.Get = Client
least call.Put = Client
least call.Delete = Client
-- what ends others' work, or is the server's own
least call.Decide = Operator
least call.Doom = Operator
least call.Restart = Operator
least call.Tick = Operator
least call.Trim = Operator

abbrev pub least_of : Question → Role
least_of (question.Call request) = least (call_of request)
least_of question.Status = Monitor

-- None where everybody may, also who has shown no name
abbrev pub least_to_order : Control → Option Role
least_to_order (control.Hello hello) = None
least_to_order (control.First message) = None
least_to_order (control.Final message) = None
least_to_order control.Metrics = Some Monitor
least_to_order (control.Sessions xid) = Some Operator
least_to_order (control.Disconnect session) = Some Operator
least_to_order control.Shutdown = Some Operator

-- What a connection may ask a manager, and what the server itself, by the role that it has shown, if any.
abbrev pub may_ask : Option Role → Question → Bool
may_ask None q = false
may_ask (Some role) q = includes role (least_of q)

abbrev pub has_role : Option Role → Option Role → Bool
has_role standing None = true
has_role None (Some least) = false
has_role (Some role) (Some least) = includes role least

abbrev pub may_order : Option Role → Control → Bool
may_order standing control = has_role standing (least_to_order control)

-- the roles' names

abbrev pub text_of : Role → List ℕ
text_of Monitor = codes "monitor"
text_of Client = codes "client"
text_of Operator = codes "operator"

abbrev pub named : List ℕ → Option Role
named text =
    if bytes_eq text (codes "monitor") then Some Monitor
    else if bytes_eq text (codes "client") then Some Client
    else if bytes_eq text (codes "operator") then Some Operator else None
