-- A resource manager's name that a script can have is short enough to be opened.
use Rattle.std.proofs.Common.{◌≡◌, ◌≤◌, ℕ, Bool, true, false, List, length, Option, Some, None, refl, arith}
use Rattle.std.specs.Prelude.{◌&&◌, nat_le}
use Rattle.std.proofs.lemmas.Bool.Decides.{nat_tests}
use Rattle.clap.specs.Walk.{Row, Text}
use Rattle.xa_limits.specs.declared.TheConstants.{MOST_INFO}
use Rattle.xa_script.specs.Requests.{is_graphic, is_name}
use Rattle.xa_words.specs.Asks.{AsksOf}
use Rattle.xa_words.specs.Runs.{NamesWell}
use Rattle.xa_words.specs.declared.asked.Asked.{Asked}
use Rattle.xa_words.specs.declared.asked.Asked.TheVariants.{Play, Scan, Check, Copy, AddUser, Serve, Talk, Tick, Shutdown, Operate}
use Rattle.xa_words.specs.declared.asked.Asked.TheVariants.{Script, Unconfirmed, Malformed, Conflict, Nowhere}

both_true : (a b : Bool) → (a && b) ≡ true → (a ≡ true) × (b ≡ true)
both_true true b h = (refl, h)
both_true false b h = absurd (cc h)

pub name_fits : (name : List ℕ) → is_name name ≡ true → length name ≤ MOST_INFO
name_fits name h =
    let sized = both_true (nat_le 1 (length name) && nat_le (length name) MOST_INFO) (is_graphic name) h in
    let most = both_true (nat_le 1 (length name)) (nat_le (length name) MOST_INFO) sized.0 in
    grind (arith, nat_tests, most.1)

pub asks_well : (found : Option (Text × List Row)) (asked : Asked) → AsksOf found asked → NamesWell asked
asks_well None asked asks = absurd asks
asks_well (Some found) (Operate reach user seconds format name task) asks = asks.1.graphic
asks_well (Some found) (Play name log_bytes) asks = tt
asks_well (Some found) (Scan path format) asks = tt
asks_well (Some found) (Check path log_bytes) asks = tt
asks_well (Some found) (Copy path to log_bytes follows) asks = tt
asks_well (Some found) (AddUser path name role secret) asks = tt
asks_well (Some found) (Serve service accepts) asks = tt
asks_well (Some found) (Talk reach user seconds style strict) asks = tt
asks_well (Some found) (Tick reach user every) asks = tt
asks_well (Some found) (Shutdown reach user) asks = tt
asks_well (Some found) (Script name task) asks = tt
asks_well (Some found) (Unconfirmed reach user seconds format name task about) asks = asks.1.graphic
asks_well (Some found) (Malformed what) asks = tt
asks_well (Some found) Conflict asks = tt
asks_well (Some found) Nowhere asks = tt
