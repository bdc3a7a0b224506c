-- What a server is asked, and the one content that spells each. Numbers are big-endian.
use Rattle.std.specs.Prelude.{ℕ, ◌<◌, ◌^◌, List, [], ◌∷◌, ◌++◌}
use Rattle.std.specs.Int.{w32, w64, to_be_bytes}
use Rattle.xa_xid.specs.Triple.{IsWithinLimits}
use Rattle.xa_xid.specs.Spelling.{bytes_of}
use Rattle.xa_frame.specs.Spelling.{Spells}
use Rattle.xa_control.specs.declared.control.Control.{Control}
use Rattle.xa_control.specs.declared.control.Control.TheVariants.{Shutdown, Hello as Greeting, Disconnect, Metrics, Sessions, First, Final}
use Rattle.xa_control.specs.declared.hello.Hello.{Hello}
use Rattle.xa_control.specs.Messages.{IsMessage}
use Rattle.xa_control.specs.Shutdown.{shutdown_content}

-- the revision, the features
abbrev pub hello_bytes : Hello → List ℕ
hello_bytes hello = to_be_bytes w32 hello.revision ++ to_be_bytes w64 hello.features

-- the version, the operation, the fields
abbrev pub bytes_of_control : Control → List ℕ
bytes_of_control Shutdown = shutdown_content
bytes_of_control (Greeting hello) = 1 ∷ 70 ∷ hello_bytes hello
bytes_of_control (Disconnect session) = 1 ∷ 71 ∷ to_be_bytes w64 session
bytes_of_control Metrics = 1 ∷ 72 ∷ []
bytes_of_control (Sessions xid) = 1 ∷ 73 ∷ bytes_of xid
bytes_of_control (First message) = 1 ∷ 74 ∷ message
bytes_of_control (Final message) = 1 ∷ 75 ∷ message

-- what the types of a program hold anyway: numbers with a fixed number of bits, XIDs, and messages of few bytes

abbrev pub HoldsHello : Hello → Type 0
HoldsHello hello = (hello.revision < 2 ^ 32) × (hello.features < 2 ^ 64)

abbrev pub HoldsControl : Control → Type 0
HoldsControl (Greeting hello) = HoldsHello hello
HoldsControl (Disconnect session) = session < 2 ^ 64
HoldsControl (Sessions xid) = IsWithinLimits xid
HoldsControl (First message) = IsMessage message
HoldsControl (Final message) = IsMessage message
HoldsControl _ = Unit {0}

-- these bytes are the content of this
abbrev pub SpellsControl : List ℕ → Control → Type 0
SpellsControl = Spells (λ control. Unit {0}) HoldsControl bytes_of_control

-- these bytes ask a server for nothing of the kind
abbrev pub IsNoControl : List ℕ → Type 0
IsNoControl bytes = (control : Control) → SpellsControl bytes control → ⊥
