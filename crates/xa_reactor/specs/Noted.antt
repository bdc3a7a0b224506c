-- What a server tells of, and from where it came.
use Rattle.std.specs.Prelude.{ℤ, ◌≡◌, ◌≢◌, IfSome, Option, Some, None}
use Rattle.xa_codes.specs.declared.codes.TheConstants.{XA_OK}
use Rattle.xa_control.specs.declared.answer.Answer.{Answer}
use Rattle.xa_control.specs.declared.answer.Answer.TheVariants as answer
use Rattle.xa_control.specs.declared.control.Control.{Control}
use Rattle.xa_control.specs.declared.control.Control.TheVariants as control
use Rattle.xa_frame.specs.declared.request.Request.{Request}
use Rattle.xa_frame.specs.declared.request.Request.TheVariants as request
use Rattle.xa_reactor.specs.declared.noted.Order.{Order}
use Rattle.xa_reactor.specs.declared.noted.Order.TheVariants.{Decide, Doom, Restart, Trim, Disconnect}
use Rattle.xa_reactor.specs.declared.noted.Noted.{Noted}
use Rattle.xa_reactor.specs.declared.peer.Opened.{Opened}
use Rattle.xa_reactor.specs.declared.peer.Opened.TheVariants.{Asks, Over}
use Rattle.xa_reactor.specs.declared.peer.Peer.{Peer}
use Rattle.xa_reactor.specs.declared.socket.Socket.{Socket}
use Rattle.xa_reactor.specs.declared.socket.Socket.TheVariants.{Tcp, Unix}
use Rattle.xa_reactor.specs.declared.socket.Source.{Source}
use Rattle.xa_reactor.specs.declared.socket.Source.TheVariants.{Path}

-- an operator's call
abbrev pub order_of : Request → Option Order
order_of (request.Decide direction xid) = Some (Decide direction xid)
order_of (request.Doom xid) = Some (Doom xid)
order_of request.Restart = Some Restart
order_of request.Trim = Some Trim
order_of _ = None

-- what an operator asks of the server itself, and is answered
abbrev pub order_in : Control → Option Order
order_in (control.Disconnect session) = Some (Disconnect session)
order_in _ = None

-- the code of an answer
abbrev pub code_of : Answer → ℤ
code_of (answer.Refused code detail) = code
code_of _ = XA_OK

-- where a socket's connection may come from, as it is told
abbrev pub MayBeFrom : Socket → Source → Type 0
MayBeFrom (Tcp stream) source = source ≢ Path
MayBeFrom (Unix stream) source = source ≡ Path

-- what is noted of an order, if it is one: what it is, and where it came from
abbrev pub IsNoted : Socket → Option Order → Option Noted → Type 0
IsNoted socket None noted = noted ≡ None
IsNoted socket (Some order) noted =
    (source : Source) × MayBeFrom socket source × (noted ≡ Some (record { source = source; order = order }))

-- of a turn that was opened the request is noted that is to be answered, if it is an order
abbrev pub Notes : Opened → Peer → Type 0
Notes (Asks ask) p = IfSome ask.request (λ request. IsNoted p.socket (order_of request) p.noted)
Notes (Over step) p = Unit {0}
