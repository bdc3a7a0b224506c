-- Which happenings there are: requests are those that some frame spells.
use Rattle.std.specs.Prelude.{Bool, true, false, List}
use Rattle.std.specs.List.{AllByRecursion}
use Rattle.xa_frame.specs.Limits.{IsRequest, Holds}
use Rattle.xa_frame.specs.declared.request.Request.{Request}
use Rattle.xa_frame.specs.declared.request.Request.TheVariants.{Restart, Trim}
use Rattle.xa_model.specs.declared.event.Event.{Event}
use Rattle.xa_model.specs.declared.event.Event.TheVariants.{Connect, Hangup, Call}
use Rattle.xa_model.specs.Turn.{Happening, Asked, Reopened}
use Rattle.xa_model.specs.History.{Entry}

-- within the limits of frames, and of what the types of a program hold
pub record IsAsked (request : Request) : Type 0 where
  pub limits : IsRequest request
  pub held : Holds request

abbrev pub IsEvent : Event → Type 0
IsEvent Connect = Unit {0}
IsEvent (Hangup session) = Unit {0}
IsEvent (Call session request) = IsAsked request

abbrev pub AreEvents : List Event → Type 0
AreEvents events = AllByRecursion IsEvent events

abbrev pub IsHappening : Happening → Type 0
IsHappening (Asked event) = IsEvent event
IsHappening (Reopened name log_bytes) = Unit {0}

abbrev pub HaveHappened : List Entry → Type 0
HaveHappened entries = AllByRecursion (λ e. IsHappening e.happening) entries

-- a restart is asked
abbrev pub asks_restart : Request → Bool
asks_restart Restart = true
asks_restart _ = false

abbrev pub is_restart : Event → Bool
is_restart (Call n request) = asks_restart request
is_restart _ = false

-- a boot is asked for: by a restart, which reads the log again, or by a trim
abbrev pub asks_boot : Request → Bool
asks_boot Restart = true
asks_boot Trim = true
asks_boot _ = false

abbrev pub begins_boot : Event → Bool
begins_boot (Call n request) = asks_boot request
begins_boot _ = false

-- a trim is asked
abbrev pub asks_trim : Request → Bool
asks_trim Trim = true
asks_trim _ = false

abbrev pub is_trim : Event → Bool
is_trim (Call n request) = asks_trim request
is_trim _ = false
