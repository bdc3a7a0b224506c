-- What is last committed of a key: what its writes show, once each branch that is undecided is rolled back.
use Rattle.std.specs.Prelude.{◌≡◌, ℕ, ◌≤◌, Bool, true, ◌==◌, List, Option, Some, None}
use Rattle.std.specs.Prelude.{option_map, option_copied, if◌then◌else◌}
use denote.Ref.{Bor}
use Rattle.std.specs.List.{AllByRecursion as Each}
use Rattle.mv_chain.specs.declared.version.Version.{Version}
use Rattle.mv_chain.specs.Accesses.{Written, Answered, Seen, seen_without}
use Rattle.mv_chain.specs.Chain.{StandsFor, shows_without}

-- every undecided branch is thought gone
abbrev pub everybody : ℕ → Bool
everybody timestamp = true

-- what is seen, as its timestamp and its value; None of a key that nobody wrote
abbrev pub stamped : Seen → Option (ℕ × Option (List ℕ))
stamped s = if s.from == 0 then None else Some (s.from, s.value)

-- no write is above t
abbrev pub AreUpto : ℕ → List Written → Type 0
AreUpto t writes = Each (λ w. w.timestamp ≤ t) writes

-- a timestamp and a value that is lent
abbrev pub lent : Option (ℕ × Option (Bor (List ℕ))) → Option (ℕ × Option (List ℕ))
lent last = option_map (λ p. (p.0, option_copied p.1)) last

-- it is the last of these versions that isn't pending
abbrev pub IsLastOf : List Version → Option (ℕ × Option (List ℕ)) → Type 0
IsLastOf versions last =
    (t : ℕ) → Each (λ v. v.timestamp ≤ t) versions → last ≡ stamped (shows_without everybody t versions)

-- and so the last committed write of the key, in each history that they stand for
abbrev pub IsLastWritten : List Version → Option (ℕ × Option (List ℕ)) → Type 0
IsLastWritten versions last =
    (key : List ℕ) (low : ℕ) (writes : List Written) (reads : List Answered) (t : ℕ)
    → StandsFor key low writes reads versions → low ≤ t → AreUpto t writes
    → last ≡ stamped (seen_without everybody key t writes)
