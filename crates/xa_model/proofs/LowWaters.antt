-- The low water is at most each known branch's timestamp, is one of them or the last that was given, and never falls.
use Rattle.std.proofs.Common.{◌≡◌, ℕ, ◌+◌, ◌<◌, ◌≤◌, ◌==◌, Bool, true, false, ◌||◌, cond, ◌⊎◌, inl, inr, List, [], ◌∷◌, Option, Some, None, min, unwrap_or, nat_le, refl, sym, ◌∙◌, subst, arith}
use Rattle.std.specs.List.{AllByRecursion}
use Rattle.std.proofs.lemmas.Bool.Decides.{nat_tests}
use Rattle.xa_xid.specs.Triple.{Triple}
use Rattle.xa_model.specs.State.{State, Branch, Operation, Work, Phase, Working, Prepared, Committed, is_known_as, is_committed, name_of, known_count, timestamp_of, new_work, new_branch}
use Rattle.xa_model.specs.Data.{having_done, did}
use Rattle.xa_model.specs.Invariants.Sound.{IsSound}
use Rattle.xa_model.specs.Step.{turn}
use Rattle.xa_model.specs.Invariants.LowWater.{is_known, is_known_at, lesser, least_known, low_water}
use Rattle.xa_model.specs.Laws.LowWater.{BelowKnown, IsReached, BelowNext, NeverFalls}
use Rattle.xa_model.proofs.Applied.{below_all}
use Rattle.xa_model.proofs.Inserts.{all_imply}
use Rattle.xa_model.proofs.Lists.{change_all}
use Rattle.xa_model.proofs.Moves.{Core, core, GoesOn, Remain, Moves, remains, restarts, trims, begins, gets, walks, puts}
use Rattle.xa_model.proofs.MovingRows.{Moved}
use Rattle.xa_model.proofs.MovingTurns.{turn_moved}
use Rattle.xa_model.proofs.Pins.{IsOrdered, remain_all}
use Rattle.xa_model.proofs.Replies.{taken_all}

-- The lesser of two

pub lesser_first : (t : ℕ) (o : Option ℕ) → lesser t o ≤ t
lesser_first t None = omega arith
lesser_first t (Some u) = omega arith

lesser_rest : (t : ℕ) (o : Option ℕ) → lesser t o ≤ unwrap_or o t
lesser_rest t None = omega arith
lesser_rest t (Some u) = omega arith

lesser_most : (m t : ℕ) (o : Option ℕ) → m ≤ t → m ≤ unwrap_or o t → m ≤ lesser t o
lesser_most m t None first rest = first
lesser_most m t (Some u) first rest = omega (arith, first, rest)

lesser_is : (t : ℕ) (o : Option ℕ) → (lesser t o ≡ t) ⊎ (lesser t o ≡ unwrap_or o t)
lesser_is t None = inl refl
lesser_is t (Some u) = by (nat_le t u) refl
  where
    by : (q : Bool) → nat_le t u ≡ q → (min t u ≡ t) ⊎ (min t u ≡ u)
    by true e = inl (grind (arith, nat_tests))
    by false e = inr (grind (arith, nat_tests))

-- What is at most each known branch's timestamp

abbrev pub AreAbove : ℕ → List Branch → Type 0
AreAbove m bs = AllByRecursion (λ b. is_known b ≡ true → m ≤ b.timestamp) bs

pub lower : (m n : ℕ) (bs : List Branch) → n ≤ m → AreAbove m bs → AreAbove n bs
lower m n bs less h =
    all_imply (λ (b : Branch). is_known b ≡ true → m ≤ b.timestamp) (λ (b : Branch). is_known b ≡ true → n ≤ b.timestamp)
    (λ b above known. omega (arith, less, above known)) bs h

-- the least is, whatever is taken where there is none
known_above_by : (d : ℕ) (b : Branch) (bs : List Branch) (c : Bool) → is_known b ≡ c → ((e : ℕ) → AreAbove (unwrap_or (least_known bs) e) bs)
    → AreAbove (unwrap_or (cond c (Some (lesser b.timestamp (least_known bs))) (least_known bs)) d) (b ∷ bs)
known_above_by d b bs true e rest = (
  (λ known. lesser_first b.timestamp (least_known bs)),
  lower (unwrap_or (least_known bs) b.timestamp) (lesser b.timestamp (least_known bs)) bs (lesser_rest b.timestamp (least_known bs)) (rest b.timestamp),
)
known_above_by d b bs false e rest = ((λ known. absurd (cc (e, known))), rest d)

pub known_above : (d : ℕ) (bs : List Branch) → AreAbove (unwrap_or (least_known bs) d) bs
known_above d [] = tt
known_above d (b ∷ bs) = known_above_by d b bs (is_known b) refl (λ e. known_above e bs)

-- and what is so is at most the least
at_most_by : (m d : ℕ) (b : Branch) (bs : List Branch) (c : Bool) → is_known b ≡ c → m ≤ d → (is_known b ≡ true → m ≤ b.timestamp)
    → ((e : ℕ) → m ≤ e → m ≤ unwrap_or (least_known bs) e) → m ≤ unwrap_or (cond c (Some (lesser b.timestamp (least_known bs))) (least_known bs)) d
at_most_by m d b bs true e less h rest = lesser_most m b.timestamp (least_known bs) (h e) (rest b.timestamp (h e))
at_most_by m d b bs false e less h rest = rest d less

pub at_most : (m d : ℕ) (bs : List Branch) → AreAbove m bs → m ≤ d → m ≤ unwrap_or (least_known bs) d
at_most m d [] h less = less
at_most m d (b ∷ bs) h less = at_most_by m d b bs (is_known b) refl less h.0 (λ e k. at_most m e bs h.1 k)

-- it is below what all timestamps are below
below_by : (limit d : ℕ) (b : Branch) (bs : List Branch) (c : Bool) → b.timestamp < limit → unwrap_or (least_known bs) d < limit
    → unwrap_or (cond c (Some (lesser b.timestamp (least_known bs))) (least_known bs)) d < limit
below_by limit d b bs true less rest = omega (arith, less, lesser_first b.timestamp (least_known bs))
below_by limit d b bs false less rest = rest

pub below : (limit d : ℕ) (bs : List Branch) → AllByRecursion (λ (c : Branch). c.timestamp < limit) bs → d < limit → unwrap_or (least_known bs) d < limit
below limit d [] h less = less
below limit d (b ∷ bs) h less = below_by limit d b bs (is_known b) h.0 (below limit d bs h.1 less)

-- some known branch has it, or none is known

abbrev Reached : ℕ → List Branch → Type 0
Reached d bs =
    (is_known_at (unwrap_or (least_known bs) d) bs ≡ true) ⊎ ((known_count bs ≡ 0) × (unwrap_or (least_known bs) d ≡ d))

here : (t v : ℕ) (q : Bool) → v ≡ t → ((t == v) || q) ≡ true
here t v q same = let is : (t == v) ≡ true = grind (arith, nat_tests) in rw is refl

there : (p q : Bool) → q ≡ true → (p || q) ≡ true
there true q e = refl
there false q e = e

first_or_rest : (t v w : ℕ) (bs : List Branch) → (v ≡ t) ⊎ (v ≡ w) → (is_known_at w bs ≡ true) ⊎ ((known_count bs ≡ 0) × (w ≡ t))
    → ((t == v) || is_known_at v bs) ≡ true
first_or_rest t v w bs (inl same) rest = here t v (is_known_at v bs) same
first_or_rest t v w bs (inr same) (inl is) = there (t == v) (is_known_at v bs) (rw same is)
first_or_rest t v w bs (inr same) (inr (none, last)) = here t v (is_known_at v bs) (same ∙ last)

reached_by : (d : ℕ) (b : Branch) (bs : List Branch) (c : Bool) → is_known b ≡ c → ((e : ℕ) → Reached e bs)
    → (let v = unwrap_or (cond c (Some (lesser b.timestamp (least_known bs))) (least_known bs)) d in
    (is_known_at v (b ∷ bs) ≡ true) ⊎ ((known_count (b ∷ bs) ≡ 0) × (v ≡ d)))
reached_by d b bs true e rest =
    inl
    (rw e (first_or_rest b.timestamp (lesser b.timestamp (least_known bs)) (unwrap_or (least_known bs) b.timestamp) bs (lesser_is b.timestamp (least_known bs)) (rest b.timestamp)))
reached_by d b bs false e rest = rw e (passed_on (rest d))
  where
    passed_on : Reached d bs
        → (is_known_at (unwrap_or (least_known bs) d) bs ≡ true) ⊎ ((0 + known_count bs ≡ 0) × (unwrap_or (least_known bs) d ≡ d))
    passed_on (inl is) = inl is
    passed_on (inr (none, last)) = inr (omega (arith, none), last)

reached : (d : ℕ) (bs : List Branch) → Reached d bs
reached d [] = inr (refl, refl)
reached d (b ∷ bs) = reached_by d b bs (is_known b) refl (λ e. reached e bs)

-- The low water of a state

pub below_known : BelowKnown
below_known s = known_above (timestamp_of s.boot s.given) s.branches

pub is_reached : IsReached
is_reached s = reached (timestamp_of s.boot s.given) s.branches

-- what the moves of timestamps leave of it
abbrev pub water : Core → ℕ
water c = unwrap_or (least_known c.branches) (timestamp_of c.boot c.given)

pub ordered : (s : State) → IsSound s → IsOrdered (core s)
ordered s h = record { few = omega (arith, h.given); descends = h.descends }

-- it is at most the last timestamp that was given
pub water_given : (c : Core) → IsOrdered c → water c ≤ timestamp_of c.boot c.given
water_given c o =
    let limit : ℕ = timestamp_of c.boot c.given + 1 in
    let less : water c < limit = below limit (timestamp_of c.boot c.given) c.branches (below_all limit c.branches o.descends) (omega arith) in
    omega (arith, less)

pub below_next : BelowNext
below_next s n h more = omega (arith, water_given (core s) (ordered s h), more)

-- who is known isn't committed
known_is : (p : Phase) → name_of p ≡ None → is_committed p ≡ true
known_is (Working xid work) e = absurd (cc e)
known_is (Prepared xid) e = absurd (cc e)
known_is Committed e = refl

unknown_by : (b c : Branch) (o u : Option Triple) → name_of b.phase ≡ o → name_of c.phase ≡ u → GoesOn b c → is_known c ≡ true → is_known b ≡ true
unknown_by b c (Some xid) u e f g known = rw e refl
unknown_by b c None (Some xid) e f g known = absurd (stays_committed c.phase f (g.committed (known_is b.phase e)))
  where
    stays_committed : (p : Phase) → name_of p ≡ Some xid → is_committed p ≡ true → ⊥
    stays_committed (Working x work) e h = cc h
    stays_committed (Prepared x) e h = cc h
    stays_committed Committed e h = cc e
unknown_by b c None None e f g known = absurd (cc (f, known))

was_known : (b c : Branch) → GoesOn b c → is_known c ≡ true → is_known b ≡ true
was_known b c g known = unknown_by b c (name_of b.phase) (name_of c.phase) refl refl g known

pub remain_above : (m : ℕ) {bs cs : List Branch} → Remain bs cs → AreAbove m bs → AreAbove m cs
remain_above m r h =
    remain_all (λ (b : Branch). is_known b ≡ true → m ≤ b.timestamp) (λ (b : Branch). is_known b ≡ true → m ≤ b.timestamp)
    (λ b c g above known. subst (λ (t : ℕ). m ≤ t) (sym g.timestamp) (above (was_known b c g known))) r h

remains_rise : (c : Core) (bs : List Branch) → Remain c.branches bs → IsOrdered c → water c ≤ water (record c { branches = bs })
remains_rise c bs r o =
    at_most (water c) (timestamp_of c.boot c.given) bs (remain_above (water c) r (known_above (timestamp_of c.boot c.given) c.branches)) (water_given c o)

restarts_rise : (c : Core) (boot : ℕ) (bs : List Branch) → c.boot < boot → Remain c.branches bs → IsOrdered c → water c ≤ water (record { boot = boot; given = 0; branches = bs; reads = [] })
restarts_rise c boot bs less r o =
    at_most (water c) (timestamp_of boot 0) bs (remain_above (water c) r (known_above (timestamp_of c.boot c.given) c.branches)) (omega (arith, water_given c o, less, o.few))

trims_rise : (c : Core) (boot : ℕ) → c.boot < boot → IsOrdered c → water c ≤ water (record c { boot = boot; given = 0 })
trims_rise c boot less o =
    at_most (water c) (timestamp_of boot 0) c.branches (known_above (timestamp_of c.boot c.given) c.branches) (omega (arith, water_given c o, less, o.few))

begins_rise : (c : Core) (xid : Triple) (work : Work) → IsOrdered c
    → water c ≤ water (record c {
      given = c.given + 1;
      branches = new_branch (timestamp_of c.boot (c.given + 1)) xid work ∷ c.branches;
    })
begins_rise c xid work o =
    let next : water c ≤ timestamp_of c.boot (c.given + 1) = omega (arith, water_given c o) in
    at_most (water c) (timestamp_of c.boot (c.given + 1)) (new_branch (timestamp_of c.boot (c.given + 1)) xid work ∷ c.branches)
    ((λ known. next), known_above (timestamp_of c.boot c.given) c.branches) next

-- what a branch does changes neither its timestamp nor its phase
done_above : (m : ℕ) (xid : Triple) (op : Operation) (bs : List Branch) → AreAbove m bs → AreAbove m (did xid op bs)
done_above m xid op bs h = change_all (λ (b : Branch). is_known b ≡ true → m ≤ b.timestamp) (is_known_as xid) (having_done op) (λ x k. k) bs h

done_rises : (c : Core) (xid : Triple) (op : Operation) → IsOrdered c
    → water c ≤ unwrap_or (least_known (did xid op c.branches)) (timestamp_of c.boot c.given)
done_rises c xid op o =
    at_most (water c) (timestamp_of c.boot c.given) (did xid op c.branches)
    (done_above (water c) xid op c.branches (known_above (timestamp_of c.boot c.given) c.branches)) (water_given c o)

pub moves_rise : {c d : Core} → Moves c d → IsOrdered c → water c ≤ water d
moves_rise (remains bs r) o = remains_rise _ bs r o
moves_rise (restarts boot bs less r idle) o = restarts_rise _ boot bs less r o
moves_rise (trims boot less) o = trims_rise _ boot less o
moves_rise (begins xid start limit) o = begins_rise _ xid (new_work start limit) o
moves_rise (gets key xid b found free) o = done_rises _ xid _ o
moves_rise (walks range records stamps xid b found sees) o = done_rises _ xid _ o
moves_rise (puts key value xid b found works on_time) o = done_rises _ xid _ o

-- a state that is a move away
pub rises : (s t : State) → IsSound s → Moves (core s) (core t) → low_water s ≤ low_water t
rises s t h m = moves_rise m (ordered s h)

pub never_falls : NeverFalls
never_falls s happening outcome a h e =
    let moves : Moved s a = taken_all (Moved s) (turn s happening) outcome a (turn_moved s happening h) e in
    rises s a.after h.sound moves
