-- What the words of `serve` ask for. `--workers N` means N loops with an audit: then it ends after as many connections as
-- it may, and calls its manager only for its clients, unless the words say else.
use Rattle.std.specs.Prelude.{◌≡◌, ◌≢◌, ℕ, Bool, List, [], Option, Some, None, codes, is_some, nat_eq, not, option_map, ◌&&◌, ◌||◌, if◌then◌else◌}
use Rattle.clap.specs.Walk.{Row, Text, first_of, one_of}
use Rattle.xa_limits.specs.declared.TheConstants.{MOST_LOG}
use Rattle.xa_service.specs.declared.at.At.{At}
use Rattle.xa_service.specs.declared.at.At.TheVariants as at
use Rattle.xa_service.specs.declared.service.Service.{Service}
use Rattle.xa_service.specs.declared.service.TheConstants.{MOST_SERVED}
use Rattle.xa_words.specs.Given.{is_given}
use Rattle.xa_words.specs.Modes.{mode_of}
use Rattle.xa_words.specs.Rows.{IsPort, IsSet, most_16, most_64, number_in, text_in}

-- the number of workers, 0 if none is given
abbrev pub workers_in : List Row → ℕ
workers_in rows = number_in rows (codes "workers") most_64 0

abbrev pub gives_workers : List Row → Bool
gives_workers rows = not (nat_eq (workers_in rows) 0)

-- loops are counted by `--workers` and by `--loops`
abbrev pub counts_twice : List Row → Bool
counts_twice rows = gives_workers rows && is_given (codes "loops") rows

-- how many loops serve: 0 for as many as the machine has cores, at most 4
abbrev pub loops_in : List Row → ℕ
loops_in rows = if gives_workers rows then workers_in rows else number_in rows (codes "loops") most_64 0

-- after how many connections it ends, 0 for never
abbrev pub connections_in : List Row → ℕ
connections_in rows = number_in rows (codes "connections") most_64 (if gives_workers rows then MOST_SERVED else 0)

-- by which number the server calls its manager of its own accord, 0 for never
abbrev pub own_number_in : List Row → Text → ℕ → ℕ
own_number_in rows id absent =
    if gives_workers rows && not (is_given id rows) then 0 else number_in rows id most_64 absent

-- the history is written to a file at the end
abbrev pub writes_history : List Row → Bool
writes_history rows = is_some (first_of (codes "audit-out") rows)

-- the history is kept, and audited at the end
abbrev pub IsAudited : List Row → Bool → Type 0
IsAudited rows audits =
    (flag : Bool) × IsSet (one_of (codes "audit") rows) flag
    × (audits ≡ (flag || (gives_workers rows || writes_history rows)))

-- where it is to listen: at the path and on the port, if both are given; at one of them, if it alone is
abbrev pub IsAtIn : List Row → Option At → Type 0
IsAtIn rows (Some (at.Socket path)) =
    (first_of (codes "socket") rows ≡ Some path.now) × (number_in rows (codes "port") most_16 0 ≡ 0)
IsAtIn rows (Some (at.Port address port)) =
    IsPort rows port × (port ≢ 0) × (address.now ≡ text_in rows (codes "listen") (codes "127.0.0.1"))
IsAtIn rows (Some (at.Both address port path)) =
    (first_of (codes "socket") rows ≡ Some path.now) × (port ≡ number_in rows (codes "port") most_16 0) × (port ≢ 0)
    × (address.now ≡ text_in rows (codes "listen") (codes "127.0.0.1"))
IsAtIn rows None = IsPort rows 0

-- the permissions of its Unix socket; None if the word spells none
abbrev pub mode_in : List Row → Option ℕ
mode_in rows = mode_of (text_in rows (codes "socket-mode") (codes "0600"))

-- each field of what is to be served is that of its own argument
pub record IsServiceIn (rows : List Row) (service : Service) : Type 0 where
  pub path : service.path.now ≡ text_in rows (codes "log") []
  pub name : service.name.now ≡ text_in rows (codes "name") []
  pub at : IsAtIn rows (Some service.at)
  pub log_bytes : service.log_bytes ≡ number_in rows (codes "log-bytes") most_64 MOST_LOG
  pub loops : service.loops ≡ loops_in rows
  pub connections : service.connections ≡ connections_in rows
  pub frame_seconds : service.frame_seconds ≡ number_in rows (codes "frame-seconds") most_64 30
  pub idle_seconds : service.idle_seconds ≡ number_in rows (codes "idle-seconds") most_64 0
  pub branch_seconds : service.branch_seconds ≡ number_in rows (codes "branch-seconds") most_64 0
  pub trim_bytes : service.trim_bytes ≡ own_number_in rows (codes "trim") 67108864
  pub tick_seconds : service.tick_seconds ≡ own_number_in rows (codes "tick") 1
  pub ends_when_down : IsSet (one_of (codes "exit-when-down") rows) service.ends_when_down
  pub audits : IsAudited rows service.audits
  pub history : option_map (λ path. path.now) service.history ≡ first_of (codes "audit-out") rows
  pub users : option_map (λ path. path.now) service.users ≡ first_of (codes "users") rows
  pub opens_to_all : IsSet (one_of (codes "open-to-all") rows) service.opens_to_all
  pub socket_mode : mode_in rows ≡ Some service.socket_mode
  pub socket_group : option_map (λ group. group.now) service.socket_group ≡ first_of (codes "socket-group") rows
