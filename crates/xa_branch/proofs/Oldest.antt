-- The first of the timestamps is the low water.
use Rattle.std.proofs.Common.{◌≡◌, ℕ, ◌<◌, ◌≤◌, ◌==◌, Bool, true, false, ◌&&◌, ◌||◌, ◌⊎◌, inl, inr, List, [], ◌∷◌, length, refl, sym, ◌∙◌, arith, rules}
use Rattle.std.specs.BTreeSet.{IsLowerBound}
use Rattle.std.specs.Cmp.Rules.{comparing}
use Rattle.std.specs.Ordering.{nat_cmp, is_gt}
use Rattle.std.proofs.lemmas.Bool.Decides.{nat_tests}
use Rattle.xa_model.specs.State.{State, Branch, known_count, timestamp_of}
use Rattle.xa_model.specs.Invariants.LowWater.{is_known, is_known_at, low_water}
use Rattle.xa_model.proofs.LowWaters.{AreAbove, below_known, is_reached}
use Rattle.xa_branch.specs.declared.branches.Branches.{Branches}
use Rattle.xa_branch.specs.Branches.{BranchesStandFor, timed_at}
use Rattle.xa_branch.proofs.Timed.{times_none}

above_is : (n k : ℕ) → is_gt (nat_cmp n k) ≡ false → n ≤ k
above_is n k e = search (comparing, rules, e) depth 9

-- what is at most each known timestamp is at most one of them
at_one : (m t u : ℕ) (q c : Bool) → (u == t) ≡ c → m ≤ u → (q ≡ true → m ≤ t) → (c || q) ≡ true → m ≤ t
at_one m t u q true e less rest any = grind (arith, nat_tests, e, less)
at_one m t u q false e less rest any = rest any

at_by : (m t : ℕ) (b : Branch) (q c : Bool) → is_known b ≡ c → (is_known b ≡ true → m ≤ b.timestamp) → (q ≡ true → m ≤ t) → ((c && (b.timestamp == t)) || q) ≡ true → m ≤ t
at_by m t b q true e above rest any = at_one m t b.timestamp q (b.timestamp == t) refl (above e) rest any
at_by m t b q false e above rest any = rest any

at_known : (m t : ℕ) (bs : List Branch) → AreAbove m bs → is_known_at t bs ≡ true → m ≤ t
at_known m t [] h any = absurd (cc any)
at_known m t (b ∷ bs) h any = at_by m t b (is_known_at t bs) (is_known b) refl h.0 (at_known m t bs h.1) any

least_by : (m : Branches) (s : State) (k : ℕ) → BranchesStandFor m s → timed_at m k ≡ true → IsLowerBound nat_cmp m.times k
    → (is_known_at (low_water s) s.branches ≡ true) ⊎ ((known_count s.branches ≡ 0) × (low_water s ≡ timestamp_of s.boot s.given)) → k ≡ low_water s
least_by m s k st there least (inl known) =
    let below : low_water s ≤ k = at_known (low_water s) k s.branches (below_known s) (sym (st.times k) ∙ there) in
    let above : k ≤ low_water s = above_is k (low_water s) (least (low_water s) (st.times (low_water s) ∙ known)) in
    omega (arith, below, above)
least_by m s k st there least (inr (none, last)) = absurd (cc (sym there ∙ st.times k ∙ times_none k s.branches none))

pub least_stands : (m : Branches) (s : State) (k : ℕ) → BranchesStandFor m s → timed_at m k ≡ true → IsLowerBound nat_cmp m.times k → k ≡ low_water s
least_stands m s k st there least = least_by m s k st there least (is_reached s)

none_by : (m : Branches) (s : State) → BranchesStandFor m s → m.times.keys ≡ []
    → (is_known_at (low_water s) s.branches ≡ true) ⊎ ((known_count s.branches ≡ 0) × (low_water s ≡ timestamp_of s.boot s.given)) → low_water s ≡ timestamp_of s.boot s.given
none_by m s st empty (inl known) =
    let there : timed_at m (low_water s) ≡ true = st.times (low_water s) ∙ known in
    let none : timed_at m (low_water s) ≡ false = rw empty refl in absurd (cc (sym none ∙ there))
none_by m s st empty (inr (none, last)) = last

pub none_stands : (m : Branches) (s : State) → BranchesStandFor m s → m.times.keys ≡ [] → low_water s ≡ timestamp_of s.boot s.given
none_stands m s st empty = none_by m s st empty (is_reached s)

pub no_keys : (ts : List ℕ) → (0 < length ts → ⊥) → ts ≡ []
no_keys [] none = refl
no_keys (t ∷ ts) none = absurd (none (omega arith))
