-- Which task the words after an operator's command name.
use Rattle.std.specs.Prelude.{◌≡◌, Bool, true, false, List, [], Option, Some, None, codes, bytes_eq, if◌then◌else◌}
use Rattle.clap.specs.Walk.{Row, Text}
use Rattle.xa_codes.specs.declared.direction.Direction.{Direction}
use Rattle.xa_operate.specs.declared.format.Format.{Format}
use Rattle.xa_operate.specs.declared.format.Format.TheVariants as format
use Rattle.xa_operate.specs.declared.task.Task.{Task}
use Rattle.xa_operate.specs.declared.task.Task.TheVariants.{Status, Metrics, AtWork, Branches, Branch, Abandoned, Recover, RollbackMarked, Commit, Rollback, Forget, Decide, Doom, Disconnect, Trim, Restart}
use Rattle.xa_script.specs.Requests.{direction_of, is_name}
use Rattle.xa_words.specs.Rows.{most_64, number_in, text_in}
use Rattle.xa_words.specs.declared.malformed.Malformed.{Malformed}
use Rattle.xa_words.specs.declared.malformed.Malformed.TheVariants as malformed
use Rattle.xa_words.specs.declared.verb.Verb.{Verb}
use Rattle.xa_words.specs.declared.verb.Verb.TheVariants as verb
use Rattle.xa_xid.specs.Spelling.{text_of}
use Rattle.xa_xid.specs.Triple.{IsWithinLimits, Triple}

abbrev pub format_named : Text → Option Format
format_named word =
    if bytes_eq word (codes "text") then Some format.Text
    else if bytes_eq word (codes "json") then Some format.Json
    else None

-- a server's numbers are to be printed for Prometheus
abbrev pub is_metrics : List Row → Bool
is_metrics rows = bytes_eq (text_in rows (codes "format") (codes "text")) (codes "prometheus")

-- the same of a status: for Prometheus there is one format
abbrev pub status_format : Text → Option Format
status_format word = if bytes_eq word (codes "prometheus") then Some format.Text else format_named word

-- the format of a command's answers
abbrev pub format_by : Verb → Text → Option Format
format_by verb.Status word = status_format word
format_by _ word = format_named word

-- what is told of a word that is no format
abbrev pub format_fault : Verb → Malformed
format_fault verb.Status = malformed.StatusFormat
format_fault _ = malformed.Format

-- the XID that is given
pub record IsXidIn (rows : List Row) (xid : Triple) : Type 0 where
  pub limits : IsWithinLimits xid
  pub spelled : text_in rows (codes "xid") [] ≡ text_of xid

-- the direction that is given
abbrev pub IsDirectionIn : List Row → Direction → Type 0
IsDirectionIn rows direction = direction_of (text_in rows (codes "direction") []) ≡ Some direction

-- the name under which the resource manager is opened: one that a script can have
pub record IsNameIn (rows : List Row) (name : Text) : Type 0 where
  pub given : name ≡ text_in rows (codes "name") (codes "xarm")
  pub graphic : is_name name ≡ true

abbrev pub IsTaskIn : Verb → List Row → Task → Type 0
IsTaskIn command rows Status = (command ≡ verb.Status) × (is_metrics rows ≡ false)
IsTaskIn command rows Metrics = (command ≡ verb.Status) × (is_metrics rows ≡ true)
-- no command names one of these
IsTaskIn command rows AtWork = ⊥
IsTaskIn command rows (Branch xid) = ⊥
IsTaskIn command rows Abandoned = ⊥
IsTaskIn command rows Branches = command ≡ verb.Branches
IsTaskIn command rows Recover = command ≡ verb.Recover
IsTaskIn command rows RollbackMarked = command ≡ verb.RollbackMarked
IsTaskIn command rows (Commit xid) = (command ≡ verb.Commit) × IsXidIn rows xid
IsTaskIn command rows (Rollback xid) = (command ≡ verb.Rollback) × IsXidIn rows xid
IsTaskIn command rows (Forget xid) = (command ≡ verb.Forget) × IsXidIn rows xid
IsTaskIn command rows (Decide direction xid) =
    (command ≡ verb.Decide) × IsDirectionIn rows direction × IsXidIn rows xid
IsTaskIn command rows (Doom xid) = (command ≡ verb.Doom) × IsXidIn rows xid
IsTaskIn command rows (Disconnect session) =
    (command ≡ verb.Disconnect) × (session ≡ number_in rows (codes "session") most_64 0)
IsTaskIn command rows Trim = command ≡ verb.Trim
IsTaskIn command rows Restart = command ≡ verb.Restart

-- what a task is about, as it was given: the session's number, or the XID, if it names one
abbrev pub about_in : Task → List Row → Text
about_in (Disconnect session) rows = text_in rows (codes "session") []
about_in _ rows = text_in rows (codes "xid") []

-- the word that isn't as it has to be, other than the format
abbrev pub IsMalformedIn : List Row → Malformed → Type 0
IsMalformedIn rows malformed.Xid = (xid : Triple) → IsXidIn rows xid → ⊥
IsMalformedIn rows malformed.Direction = direction_of (text_in rows (codes "direction") []) ≡ None
IsMalformedIn rows malformed.Name = is_name (text_in rows (codes "name") (codes "xarm")) ≡ false
IsMalformedIn rows _ = ⊥
