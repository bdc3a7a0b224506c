-- A scan lists what recovery lists: from its start on, in order, each XID once.
use Rattle.std.specs.Prelude.{ℕ, ◌≡◌, ◌<◌, ◌≤◌, true, false, Some, List, [], ◌∷◌, length, map, take, flat_map, sum_by}
use Rattle.std.specs.List.{AllByRecursion}
use Rattle.std.specs.Ordering.{is_lt}
use Rattle.xa_codes.specs.Flags.{has}
use Rattle.xa_codes.specs.declared.flags.TheConstants.{TMSTARTRSCAN}
use Rattle.xa_frame.specs.declared.request.Request.TheVariants.{Recover}
use Rattle.xa_limits.specs.declared.TheConstants.{MOST_XIDS}
use Rattle.xa_xid.specs.Triple.{Triple, xid_cmp}
use Rattle.xa_model.specs.declared.event.Event.TheVariants.{Call}
use Rattle.xa_model.specs.declared.outcome.Outcome.TheVariants.{Quiet}
use Rattle.xa_model.specs.State.{State, Up}
use Rattle.xa_model.specs.Durable.{Durable, Pairwise, durable}
use Rattle.xa_model.specs.Listed.{listed}
use Rattle.xa_model.specs.Turn.{Asked}
use Rattle.xa_model.specs.Step.{opened_of}
use Rattle.xa_model.specs.Recovering.{listing}
use Rattle.xa_model.specs.History.{Entry, Leads}

-- recovery lists XIDs in their order, each once
abbrev pub ListedAscends : Type 0
ListedAscends = (d : Durable) → Pairwise (λ x y. is_lt (xid_cmp x y)) (listed d)

-- a call of Recover that is answered with XIDs: its flags, how many it asked for, and which it was answered
pub record Portion : Type 0 where
  pub flags : ℕ
  pub count : ℕ
  pub xids : List Triple

abbrev pub recovers : ℕ → Portion → Entry
recovers n p =
    record { happening = Asked (Call n (Recover p.flags p.count)); outcome = Quiet; reply = listing p.xids }

-- its first call begins the scan, and none begins it again
abbrev pub IsOneScan : List Portion → Type 0
IsOneScan [] = Unit {0}
IsOneScan (p ∷ ps) = (has p.flags TMSTARTRSCAN ≡ true) × AllByRecursion (λ q. has q.flags TMSTARTRSCAN ≡ false) ps

abbrev pub asked_for : List Portion → ℕ
asked_for portions = sum_by (λ p. p.count) portions

abbrev pub answered : List Portion → List Triple
answered portions = flat_map (λ p. p.xids) portions

-- the calls of one scan, with nothing between them, are answered the first XIDs of what recovery lists, as many as they
-- ask for
abbrev pub ScanListsFirst : Type 0
ScanListsFirst =
    (s last : State) (n : ℕ) (portions : List Portion) → IsOneScan portions
    → Leads s (map (recovers n) portions) last
    → answered portions ≡ take (asked_for portions) (listed (durable s))

-- so a scan that is answered fewer than it asked for is answered all
abbrev pub ScanListsAll : Type 0
ScanListsAll =
    (s last : State) (n : ℕ) (portions : List Portion) → IsOneScan portions
    → Leads s (map (recovers n) portions) last → length (answered portions) < asked_for portions
    → answered portions ≡ listed (durable s)

-- and an opened session of a manager that is up is answered a scan of any counts that a call may ask for
abbrev pub ScanIsAnswered : Type 0
ScanIsAnswered =
    (s : State) (n : ℕ) (counts : List ℕ) → s.standing ≡ Up → opened_of s n ≡ Some true
    → AllByRecursion (λ count. count ≤ MOST_XIDS) counts
    → (portions : List Portion) × (last : State) × (map (λ p. p.count) portions ≡ counts) × IsOneScan portions
    × Leads s (map (recovers n) portions) last
