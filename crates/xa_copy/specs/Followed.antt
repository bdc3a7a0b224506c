-- What a round of a standby comes to.
use Rattle.std.specs.Prelude.{◌≡◌, ◌-◌, ◌<◌, true, false, if◌then◌else◌, ℕ, List, ◌++◌, length}
use Rattle.xa_disk.specs.declared.disk.Disk.{Ghosts}
use Rattle.xa_log.specs.Believed.Chain.{text}
use Rattle.xa_log.specs.Believed.Generation.{generation}
use Rattle.xa_log.specs.Believed.Pair.{on_first}
use Rattle.xa_copy.specs.Copies.{WasLog}
use Rattle.xa_copy.specs.Moving.{Goes, HasLog, State}
use Rattle.xa_copy.specs.Standbys.{IsStandby}
use Rattle.xa_copy.specs.declared.followed.Followed.{Followed}
use Rattle.xa_copy.specs.declared.standby.Standby.{Standby}

-- Of a standby of these bodies before: which of two files was the current one, by what each was at a moment of the call, and
-- that the standby is the log that this one was at a moment since.
pub record FollowsTo {D : Type 0} (disks : Ghosts D) (bodies : List (List ℕ)) (first first' second second' : State)
    (standby : Standby D) (followed : Followed) : Type 0 where
  pub first_then : State
  pub second_then : State
  pub since_first : Goes first first_then
  pub since_second : Goes second second_then
  pub chosen : standby.copied.on_first ≡ on_first first_then.file second_then.file
  pub now : List (List ℕ)
  pub stood : List (List ℕ)
  pub is : IsStandby disks now stood (if standby.copied.on_first then first' else second') standby
  pub was : WasLog standby.copied.format now (if standby.copied.on_first then first_then else second_then)
      (if standby.copied.on_first then first' else second')
  -- if the log wasn't begun anew, the standby has what it had, and maybe more
  pub on : followed.is_anew ≡ false → (more : List (List ℕ)) × (now ≡ bodies ++ more)
  pub above : followed.is_anew ≡ true → generation bodies < generation now
  -- what stood in that file when the call began is in it, unless it was begun anew before it was chosen
  pub kept : (before : List (List ℕ))
      → (if standby.copied.on_first then first_then else second_then).life ≡ (if standby.copied.on_first then first else second).life
      → HasLog standby.copied.format before (if standby.copied.on_first then first else second).file
      → (more : List (List ℕ)) × (now ≡ before ++ more)
  pub records : followed.records ≡ length now - (if followed.is_anew then 0 else length bodies)
  pub end : followed.end ≡ length (text standby.copied.format now)
  pub number : followed.generation ≡ generation now
