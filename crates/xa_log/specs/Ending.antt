-- How a damaged log is ended, so that what stands is opened.
use Rattle.std.specs.Prelude.{◌≡◌, ℕ, Bool, false, not, ◌&&◌, if◌then◌else◌, List, replicate, Option, Some, None}
use Rattle.xa_disk.specs.Disk.{put}
use Rattle.xa_limits.specs.declared.TheConstants.{FIRST_OFFSET}
use Rattle.xa_log.specs.Believed.Chain.{logged}
use Rattle.xa_log.specs.Contents.{IsContents}
use Rattle.xa_log.specs.Believed.Damage.{is_damaged}
use Rattle.xa_log.specs.Finding.{damage_of}
use Rattle.xa_log.specs.Believed.Pair.{is_nil, logged_pair}
use Rattle.xa_log.specs.Reading.{bodies_of}
use Rattle.xa_log.specs.declared.checkpointing.TheConstants.{CLEARED_BYTES}
use Rattle.xa_log.specs.declared.contents.Contents.{Contents}
use Rattle.xa_log.specs.declared.contents.Contents.TheVariants.{Log}
use Rattle.xa_log.specs.declared.ending.LeftOut.{LeftOut}
use Rattle.xa_log.specs.declared.finding.Damage.{Damage}

-- a closing length, and a zero where a body's first byte would be
abbrev pub cleared : List ℕ
cleared = replicate CLEARED_BYTES 0

-- a log that is damaged before any record that was appended
abbrev pub is_cut_in : Contents → Bool
is_cut_in (Log log) = log.cut
is_cut_in _ = false

-- a log that has records
abbrev pub has_records : Contents → Bool
has_records (Log log) = not (is_nil (bodies_of log.bodies.items))
has_records _ = false

-- What is left out if two files are damaged: if a snapshot is cut, and the other file has records, no record before
-- the damage stays.
abbrev pub left_out : Damage → Contents → Contents → LeftOut
left_out damage first second = record {
  damage = damage;
  is_whole =
      if damage.on_first then is_cut_in first && has_records second else is_cut_in second && has_records first;
}

-- the byte at which the log is ended
abbrev pub end_byte : LeftOut → ℕ
end_byte left = if left.is_whole then FIRST_OFFSET else left.damage.at

-- a file that is ended there, if the damage is in it
abbrev pub ended : Bool → ℕ → List ℕ → List ℕ
ended here at file = if here then put file at cleared else file

-- The damage of two files was ended, of which this was left out; or they have none, and nothing changed.
abbrev pub HasEnded : ℕ → List ℕ → List ℕ → List ℕ → List ℕ → Option LeftOut → Type 0
HasEnded most first second first' second' None =
    (damage_of first second ≡ None) × (first' ≡ first) × (second' ≡ second)
HasEnded most first second first' second' (Some left) =
    (damage_of first second ≡ Some left.damage)
    × ((a : Contents) × (b : Contents) × IsContents most first a × IsContents most second b
    × (left ≡ left_out left.damage a b))
    × (first' ≡ ended left.damage.on_first (end_byte left) first)
    × (second' ≡ ended (not left.damage.on_first) (end_byte left) second)

-- What stands of two files, of which the damage of one was ended. That one is no longer damaged, so what still is, is the
-- other one. An opening takes the records that it had taken; if none of them is left, those of the other file.
pub record IsEnded (left : LeftOut) (first second first' second' : List ℕ) : Type 0 where
  pub sound : is_damaged (if left.damage.on_first then first' else second') ≡ false
  pub beside : (damage : Damage) → damage_of first' second' ≡ Some damage → damage.on_first ≡ not left.damage.on_first
  pub stands :
      logged_pair first' second'
      ≡ (if left.is_whole then logged (if left.damage.on_first then second else first) else logged_pair first second)
