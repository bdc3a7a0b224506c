-- What is kept at an XID, and what the branches stand for there.
use Rattle.std.proofs.Common.{◌≡◌, ℕ, true, false, Option, Some, None, refl, sym, ◌∙◌, subst}
use Rattle.std.specs.Prelude.{option_map, option_and_then}
use Rattle.xa_codes.specs.declared.direction.Direction.{Direction}
use Rattle.xa_xid.specs.Triple.{Triple}
use Rattle.xa_model.specs.State.{State, Branch, Phase, Working, Prepared, Committed, Known, Unknown, AtWork, InDoubt, Completed, is_known_as, known_of, known_as, decided_of, is_at_work}
use Rattle.xa_model.proofs.Lists.{found_passes}
use Rattle.xa_branch.specs.declared.branches.Branches.{Branches}
use Rattle.xa_branch.specs.declared.lasting.Lasting.{Lasting}
use Rattle.xa_branch.specs.declared.lasting.Lasting.TheVariants as lasts
use Rattle.xa_branch.specs.declared.working.Working.{Working as Kept}
use Rattle.xa_branch.specs.Due.{work_of}
use Rattle.xa_branch.specs.Branches.{BranchesStandFor, kept_of, working_at, working_by, working_in, working_known, lasting_at, lasting_by, lasting_among, lasting_known}

-- a known branch at work
pub record IsWorking (s : State) (xid : Triple) (w : Kept) : Type 0 where
  pub branch : Branch
  pub named : Triple
  pub found : known_of s.branches xid ≡ Some branch
  pub phase : branch.phase ≡ Working named (work_of w)
  pub kept : w ≡ kept_of s.associations xid branch.timestamp (work_of w)

-- a prepared branch with this timestamp
pub record IsPrepared (s : State) (xid : Triple) (t : ℕ) : Type 0 where
  pub branch : Branch
  pub named : Triple
  pub found : known_of s.branches xid ≡ Some branch
  pub phase : branch.phase ≡ Prepared named
  pub time : branch.timestamp ≡ t

-- nothing is known of an XID, a branch at work, a prepared one, or what the operator decided
pub data Seen (s : State) (xid : Triple) : Option Kept → Option Lasting → Type 0 where
  Nowhere : known_of s.branches xid ≡ None → decided_of s.decided xid ≡ None → Seen s xid None None
  There : (w : Kept) → IsWorking s xid w → Seen s xid (Some w) None
  Doubtful : (t : ℕ) → IsPrepared s xid t → Seen s xid None (Some (lasts.Prepared t))
  Done : (direction : Direction) → known_of s.branches xid ≡ None → decided_of s.decided xid ≡ Some direction → Seen s xid None (Some (lasts.Completed direction))

seen_phase : (s : State) (xid : Triple) (b : Branch) (p : Phase) → b.phase ≡ p → known_of s.branches xid ≡ Some b → is_known_as xid b ≡ true
    → Seen s xid (working_by s.associations xid b.timestamp p) (lasting_by b.timestamp p)
seen_phase s xid b (Working x work) e found passes = There (kept_of s.associations xid b.timestamp work) (record { branch = b; named = x; found = found; phase = e; kept = refl })
seen_phase s xid b (Prepared x) e found passes = Doubtful b.timestamp (record { branch = b; named = x; found = found; phase = e; time = refl })
seen_phase s xid b Committed e found passes = let no : false ≡ true = simp e at passes in absurd (cc no)

seen_none : (s : State) (xid : Triple) (d : Option Direction) → known_of s.branches xid ≡ None → decided_of s.decided xid ≡ d → Seen s xid None (option_map lasts.Completed d)
seen_none s xid None e h = Nowhere e h
seen_none s xid (Some direction) e h = Done direction e h

seen_by : (s : State) (xid : Triple) (o : Option Branch) → known_of s.branches xid ≡ o → Seen s xid (option_and_then (working_in s.associations xid) o) (lasting_among o (decided_of s.decided xid))
seen_by s xid None e = seen_none s xid (decided_of s.decided xid) e refl
seen_by s xid (Some b) e = seen_phase s xid b b.phase refl e (found_passes (is_known_as xid) b s.branches e)

pub seen : (s : State) (xid : Triple) → Seen s xid (working_known s xid) (lasting_known s xid)
seen s xid = seen_by s xid (known_of s.branches xid) refl

pub seen_at : (m : Branches) (s : State) (xid : Triple) (o : Option Kept) (l : Option Lasting) → BranchesStandFor m s → working_at m xid ≡ o → lasting_at m xid ≡ l → Seen s xid o l
seen_at m s xid o l st e h =
    subst (λ (j : Option Lasting). Seen s xid o j) (sym (st.lasting xid) ∙ h) (subst (λ (k : Option Kept). Seen s xid k (lasting_known s xid)) (sym (st.working xid) ∙ e) (seen s xid))

-- a branch that is kept as at work is

pub works : (s : State) (xid : Triple) (w : Kept) (l : Option Lasting) → Seen s xid (Some w) l → IsWorking s xid w
works s xid w None (There v is) = is
works s xid w (Some l) x = elim x [ ]

pub works_at : (m : Branches) (s : State) (xid : Triple) (w : Kept) → BranchesStandFor m s → working_at m xid ≡ Some w → IsWorking s xid w
works_at m s xid w st e = works s xid w (lasting_at m xid) (seen_at m s xid (Some w) (lasting_at m xid) st e refl)

pub idle : (s : State) (xid : Triple) (l : Option Lasting) → Seen s xid None l → is_at_work (known_of s.branches xid) ≡ false
idle s xid None (Nowhere e h) = rw e refl
idle s xid (Some l) (Doubtful t is) = rw (is.found, is.phase) refl
idle s xid (Some l) (Done direction e h) = rw e refl

pub idle_at : (m : Branches) (s : State) (xid : Triple) → BranchesStandFor m s → working_at m xid ≡ None → is_at_work (known_of s.branches xid) ≡ false
idle_at m s xid st e = idle s xid (lasting_at m xid) (seen_at m s xid None (lasting_at m xid) st e refl)

-- the facts of an XID
abbrev pub fact_at : Option Kept → Option Lasting → Known
fact_at (Some w) l = AtWork w.mark
fact_at None (Some (lasts.Prepared t)) = InDoubt
fact_at None (Some (lasts.Completed direction)) = Completed direction
fact_at None None = Unknown

known_seen : (s : State) (xid : Triple) (o : Option Kept) (l : Option Lasting) → Seen s xid o l → known_as s xid ≡ fact_at o l
known_seen s xid None None (Nowhere e h) = rw (e, h) refl
known_seen s xid (Some w) None (There v is) = rw (is.found, is.phase) refl
known_seen s xid (Some w) (Some l) x = elim x [ ]
known_seen s xid None (Some l) (Doubtful t is) = rw (is.found, is.phase) refl
known_seen s xid None (Some l) (Done direction e h) = rw (e, h) refl

pub known_is : (m : Branches) (s : State) (xid : Triple) (o : Option Kept) (l : Option Lasting) → BranchesStandFor m s → working_at m xid ≡ o → lasting_at m xid ≡ l → known_as s xid ≡ fact_at o l
known_is m s xid o l st e h = known_seen s xid o l (seen_at m s xid o l st e h)
