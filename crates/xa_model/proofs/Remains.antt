-- What branches come to: of a branch at work nothing lasts, and one in doubt is held.
use Rattle.std.proofs.Common.{◌≡◌, ℕ, ◌+◌, ◌≤◌, true, false, List, Option, Some, None, refl, ap, sym, ◌∙◌, arith}
use Rattle.xa_codes.specs.declared.write.Write.{Write}
use Rattle.xa_xid.specs.Triple.{Triple, xid_eq}
use Rattle.xa_xid.proofs.Same.{xid_same}
use Rattle.xa_model.specs.State.{State, Branch, Phase, Working, Prepared, Committed, count, is_known_as, known_of, timestamp_of, is_working}
use Rattle.xa_model.specs.Invariants.Sound.{IsSound}
use Rattle.xa_model.specs.Durable.{CommittedBranch, PreparedBranch, writes_of, committed_part, prepared_part}
use Rattle.xa_model.specs.Fold.{prepared_as}
use Rattle.xa_model.proofs.Lists.{found_passes}
use Rattle.xa_model.proofs.Ascending.{IsTimed, IsNamed}

abbrev pub left : Branch → Option CommittedBranch
left b = committed_part b.timestamp (writes_of b.operations) b.phase

abbrev pub held_of : Branch → Option PreparedBranch
held_of b = prepared_part b.timestamp (writes_of b.operations) b.phase

abbrev pub time : CommittedBranch → ℕ
time c = c.timestamp

abbrev pub time_of : PreparedBranch → ℕ
time_of p = p.timestamp

left_time : (t : ℕ) (ws : List Write) (phase : Phase) (x : CommittedBranch) → committed_part t ws phase ≡ Some x → x.timestamp ≡ t
left_time t ws (Working xid work) x e = absurd (cc e)
left_time t ws (Prepared xid) x e = absurd (cc e)
left_time t ws Committed x e = let same : record { timestamp = t; writes = ws } ≡ x = cc e in ap (λ (y : CommittedBranch). y.timestamp) (sym same)

pub left_timed : IsTimed left time
left_timed = record { timed = λ b x e. left_time b.timestamp (writes_of b.operations) b.phase x e }

held_time : (t : ℕ) (ws : List Write) (phase : Phase) (x : PreparedBranch) → prepared_part t ws phase ≡ Some x → x.timestamp ≡ t
held_time t ws (Working xid work) x e = absurd (cc e)
held_time t ws (Prepared xid) x e = let same : record { xid = xid; timestamp = t; writes = ws } ≡ x = cc e in ap (λ (y : PreparedBranch). y.timestamp) (sym same)
held_time t ws Committed x e = absurd (cc e)

pub held_timed : IsTimed held_of time_of
held_timed = record { timed = λ b x e. held_time b.timestamp (writes_of b.operations) b.phase x e }

held_name : (xid : Triple) (b : Branch) (phase : Phase) (x : PreparedBranch) → b.phase ≡ phase → prepared_part b.timestamp (writes_of b.operations) phase ≡ Some x → prepared_as xid x ≡ is_known_as xid b
held_name xid b (Working y work) x k e = absurd (cc e)
held_name xid b (Prepared y) x k e =
    let same : record { xid = y; timestamp = b.timestamp; writes = writes_of b.operations } ≡ x = cc e in
    ap (λ (z : PreparedBranch). xid_eq z.xid xid) (sym same) ∙ rw k refl
held_name xid b Committed x k e = absurd (cc e)

pub held_named : (xid : Triple) → IsNamed held_of (is_known_as xid) (prepared_as xid)
held_named xid = record { named = λ b x e. held_name xid b b.phase x refl e }

-- a branch at work isn't held

pub working_held : (t : ℕ) (ws : List Write) (phase : Phase) → is_working phase ≡ true → prepared_part t ws phase ≡ None
working_held t ws (Working xid work) e = refl
working_held t ws (Prepared xid) e = absurd (cc e)
working_held t ws Committed e = absurd (cc e)

-- a known branch that isn't at work is held

abbrev pub held_as : Triple → Branch → PreparedBranch
held_as xid b = record { xid = xid; timestamp = b.timestamp; writes = writes_of b.operations }

doubt_by : (xid : Triple) (b : Branch) (phase : Phase) → b.phase ≡ phase → is_known_as xid b ≡ true → is_working phase ≡ false
    → prepared_part b.timestamp (writes_of b.operations) phase ≡ Some (held_as xid b)
doubt_by xid b (Working y work) k known e = absurd (cc e)
doubt_by xid b (Prepared y) k known e =
    let named : xid_eq y xid ≡ true = rw k at known in
    ap (λ z. Some (held_as z b)) (xid_same y xid named)
doubt_by xid b Committed k known e = let no : false ≡ true = rw k at known in absurd (cc no)

pub in_doubt : (xid : Triple) (b : Branch) (bs : List Branch) → known_of bs xid ≡ Some b → is_working b.phase ≡ false → held_of b ≡ Some (held_as xid b)
in_doubt xid b bs known e = doubt_by xid b b.phase refl (found_passes (is_known_as xid) b bs known) e

-- the parts of a state

abbrev pub limit : State → ℕ
limit s = timestamp_of s.boot s.given + 1

pub once : (s : State) (xid : Triple) → IsSound s → count (is_known_as xid) s.branches ≤ 1
once s xid h = omega (arith, h.distinct xid)

pub distinct_names : (s : State) → IsSound s → (xid : Triple) → count (λ d. xid_eq d.xid xid) s.decided ≤ 1
distinct_names s h xid = omega (arith, h.distinct xid)
