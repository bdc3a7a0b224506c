-- What the look-ups of known branches answer.
use Rattle.std.proofs.Common.{◌≡◌, ℕ, Bool, true, false, ◌||◌, Option, Some, None, refl, ap, sym, ◌∙◌, arith}
use Rattle.std.specs.Prelude.{nat_lt}
use Rattle.xa_codes.specs.declared.codes.TheConstants.{XAER_PROTO, XAER_NOTA}
use Rattle.xa_codes.specs.declared.direction.Direction.TheVariants as direction
use Rattle.xa_xid.specs.Triple.{Triple}
use Rattle.xa_model.specs.State.{State as ModelState, Known, AtWork, known_as, holders_of, loose_of}
use Rattle.xa_model.specs.Associations.{timestamp_by, timestamp_in}
use Rattle.xa_model.specs.Phases.{is_associated}
use Rattle.xa_model.specs.Invariants.Sound.{IsSound}
use Rattle.xa_branch.specs.declared.branches.Branches.{Branches}
use Rattle.xa_branch.specs.declared.kind.Kind.TheVariants as kind
use Rattle.xa_branch.specs.declared.lasting.Lasting.{Lasting}
use Rattle.xa_branch.specs.declared.lasting.Lasting.TheVariants as lasts
use Rattle.xa_branch.specs.declared.state.State.{State}
use Rattle.xa_branch.specs.declared.working.Working.{Working as Kept}
use Rattle.xa_branch.specs.Kinds.{held_as}
use Rattle.xa_branch.specs.Branches.{BranchesStandFor, working_at, lasting_at}
use Rattle.xa_branch.specs.Calls.{readiness}
use Rattle.xa_branch.specs.State.{state_by, state_of}
use Rattle.xa_branch.proofs.Looks.{IsWorking, Seen, Nowhere, Doubtful, Done, seen_at, works_at, idle_at, fact_at, known_is}
use Rattle.xa_branch.proofs.Counting.{holders_by_kind, any_by_kind, loose_is}

-- associations

abbrev is_held : Kept → Bool
is_held w = nat_lt 0 w.active || (nat_lt 0 w.suspended || nat_lt 0 w.loose)

held_seen : (s : ModelState) (xid : Triple) (w : Kept) → IsWorking s xid w → is_associated s xid ≡ is_held w
held_seen s xid w is =
    any_by_kind (holders_of s.associations xid) (held_as kind.Active s.associations xid) (held_as kind.Suspended s.associations xid) (held_as kind.Loose s.associations xid) (holders_by_kind s.associations xid)
    ∙ sym (ap (λ (k : Kept). is_held k) is.kept)

pub associated_is : (m : Branches) (s : ModelState) (xid : Triple) (w : Kept) → BranchesStandFor m s → working_at m xid ≡ Some w
    → is_associated s xid ≡ (nat_lt 0 w.active || (nat_lt 0 w.suspended || nat_lt 0 w.loose))
associated_is m s xid w st e = held_seen s xid w (works_at m s xid w st e)

pub unassociated : (m : Branches) (s : ModelState) (xid : Triple) → IsSound s → BranchesStandFor m s → working_at m xid ≡ None → is_associated s xid ≡ false
unassociated m s xid h st e = let zero : holders_of s.associations xid ≡ 0 = h.bound xid (idle_at m s xid st e) in rw zero refl

-- whether a branch may be prepared

pub unready_unknown : (m : Branches) (s : ModelState) (xid : Triple) → BranchesStandFor m s → working_at m xid ≡ None → lasting_at m xid ≡ None → readiness (known_as s xid) (is_associated s xid) ≡ Some XAER_NOTA
unready_unknown m s xid st e h = ap (λ (k : Known). readiness k (is_associated s xid)) (known_is m s xid None None st e h)

unready_by : (l : Lasting) (b : Bool) → readiness (fact_at None (Some l)) b ≡ Some XAER_PROTO
unready_by (lasts.Prepared t) b = refl
unready_by (lasts.Completed direction) b = refl

pub unready_lasting : (m : Branches) (s : ModelState) (xid : Triple) (l : Lasting) → BranchesStandFor m s → working_at m xid ≡ None → lasting_at m xid ≡ Some l
    → readiness (known_as s xid) (is_associated s xid) ≡ Some XAER_PROTO
unready_lasting m s xid l st e h = ap (λ (k : Known). readiness k (is_associated s xid)) (known_is m s xid None (Some l) st e h) ∙ unready_by l (is_associated s xid)

readiness_of : (m : Branches) (s : ModelState) (xid : Triple) (w : Kept) (b : Bool) → BranchesStandFor m s → working_at m xid ≡ Some w → (nat_lt 0 w.active || (nat_lt 0 w.suspended || nat_lt 0 w.loose)) ≡ b
    → readiness (known_as s xid) (is_associated s xid) ≡ readiness (AtWork w.mark) b
readiness_of m s xid w b st e h =
    ap (λ (k : Known). readiness k (is_associated s xid)) (known_is m s xid (Some w) (lasting_at m xid) st e refl) ∙ ap (λ (c : Bool). readiness (AtWork w.mark) c) (associated_is m s xid w st e ∙ h)

pub unready_associated : (m : Branches) (s : ModelState) (xid : Triple) (w : Kept) → BranchesStandFor m s → working_at m xid ≡ Some w → (nat_lt 0 w.active || (nat_lt 0 w.suspended || nat_lt 0 w.loose)) ≡ true
    → readiness (known_as s xid) (is_associated s xid) ≡ Some XAER_PROTO
unready_associated m s xid w st e h = readiness_of m s xid w true st e h

pub ready_by_mark : (m : Branches) (s : ModelState) (xid : Triple) (w : Kept) → BranchesStandFor m s → working_at m xid ≡ Some w → (nat_lt 0 w.active || (nat_lt 0 w.suspended || nat_lt 0 w.loose)) ≡ false
    → readiness (known_as s xid) (is_associated s xid) ≡ w.mark
ready_by_mark m s xid w st e h = readiness_of m s xid w false st e h

-- the state

abbrev state_as : ModelState → Triple → Known → Option State
state_as s xid k = state_by k (nat_lt 0 (held_as kind.Active s.associations xid)) (nat_lt 0 (held_as kind.Suspended s.associations xid) || nat_lt 0 (held_as kind.Loose s.associations xid))

idle_state : (l : Option Lasting) (b c : Bool) → state_by (fact_at None l) b c ≡ state_by (fact_at None l) false false
idle_state None b c = refl
idle_state (Some (lasts.Prepared t)) b c = refl
idle_state (Some (lasts.Completed direction.Commit)) b c = refl
idle_state (Some (lasts.Completed direction.Rollback)) b c = refl

pub state_lasting : (m : Branches) (s : ModelState) (xid : Triple) (l : Option Lasting) → BranchesStandFor m s → working_at m xid ≡ None → lasting_at m xid ≡ l → state_of s xid ≡ state_by (fact_at None l) false false
state_lasting m s xid l st e h =
    ap (state_as s xid) (known_is m s xid None l st e h)
    ∙ idle_state l (nat_lt 0 (held_as kind.Active s.associations xid)) (nat_lt 0 (held_as kind.Suspended s.associations xid) || nat_lt 0 (held_as kind.Loose s.associations xid))

pub state_is : (m : Branches) (s : ModelState) (xid : Triple) (w : Kept) → BranchesStandFor m s → working_at m xid ≡ Some w
    → state_of s xid ≡ state_by (AtWork w.mark) (nat_lt 0 w.active) (nat_lt 0 w.suspended || nat_lt 0 w.loose)
state_is m s xid w st e =
    ap (state_as s xid) (known_is m s xid (Some w) (lasting_at m xid) st e refl)
    ∙ sym (ap (λ (k : Kept). state_by (AtWork w.mark) (nat_lt 0 k.active) (nat_lt 0 k.suspended || nat_lt 0 k.loose)) (works_at m s xid w st e).kept)

-- loose associations

pub loose_at : (m : Branches) (s : ModelState) (xid : Triple) (w : Kept) → BranchesStandFor m s → working_at m xid ≡ Some w → w.loose ≡ loose_of s.associations xid
loose_at m s xid w st e = ap (λ (k : Kept). k.loose) (works_at m s xid w st e).kept ∙ loose_is s.associations xid

pub no_loose : (m : Branches) (s : ModelState) (xid : Triple) → IsSound s → BranchesStandFor m s → working_at m xid ≡ None → loose_of s.associations xid ≡ 0
no_loose m s xid h st e =
    let zero : holders_of s.associations xid ≡ 0 = h.bound xid (idle_at m s xid st e) in omega (arith, holders_by_kind s.associations xid, loose_is s.associations xid)

-- timestamps

pub timestamp_at : (m : Branches) (s : ModelState) (xid : Triple) (w : Kept) → BranchesStandFor m s → working_at m xid ≡ Some w → w.timestamp ≡ timestamp_in s xid
timestamp_at m s xid w st e = let is = works_at m s xid w st e in ap (λ (k : Kept). k.timestamp) is.kept ∙ sym (ap timestamp_by is.found)

-- the timestamp of what lasts
abbrev pub lasting_time : Option Lasting → ℕ
lasting_time (Some (lasts.Prepared t)) = t
lasting_time (Some (lasts.Completed direction)) = 0
lasting_time None = 0

lasting_seen : (s : ModelState) (xid : Triple) (l : Option Lasting) → Seen s xid None l → timestamp_in s xid ≡ lasting_time l
lasting_seen s xid None (Nowhere e h) = ap timestamp_by e
lasting_seen s xid (Some l) (Doubtful t is) = ap timestamp_by is.found ∙ is.time
lasting_seen s xid (Some l) (Done direction e h) = ap timestamp_by e

pub lasting_timestamp : (m : Branches) (s : ModelState) (xid : Triple) (l : Option Lasting) → BranchesStandFor m s → working_at m xid ≡ None → lasting_at m xid ≡ l → timestamp_in s xid ≡ lasting_time l
lasting_timestamp m s xid l st e h = lasting_seen s xid l (seen_at m s xid None l st e h)
