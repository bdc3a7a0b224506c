-- A state stays sound where sessions come, change, and go.
use Rattle.std.proofs.Common.{◌≡◌, ℕ, ◌+◌, ◌≤◌, ◌<◌, ◌==◌, Bool, true, false, not, cond, List, [], ◌∷◌, length, Option, Some, None, refl, arith, subst}
use Rattle.std.specs.Prelude.{filter}
use Rattle.std.proofs.lemmas.Bool.Decides.{nat_tests}
use Rattle.xa_model.specs.State.{State, Session, count, change, without, session_of, free_number, new_session}
use Rattle.xa_model.specs.Associations.{is_of_session, connect_refusal, connected, connect_by, hang_up_by, left_behind}
use Rattle.xa_limits.specs.declared.TheConstants.{MOST_SESSIONS}
use Rattle.xa_model.specs.Invariants.Sound.{IsSound}
use Rattle.xa_model.proofs.Counts.{count_none, count_same, count_without, count_filter, count_out}
use Rattle.xa_model.proofs.Finds.{none_before, find_without}
use Rattle.xa_model.proofs.Lists.{length-change}
use Rattle.xa_model.proofs.Marks.{left_keeps}
use Rattle.xa_model.proofs.Numbers.{free_number_free}
use Rattle.xa_model.proofs.Parts.{with_branches, with_fewer_held, mapped_kept}
use Rattle.xa_model.proofs.Rows.{passed, below}
use Rattle.xa_model.proofs.OfAnswers.{unless_after}

-- what soundness asks of the sessions
pub record AreSeated (s : State) (sessions : List Session) : Type 0 where
  pub numbered : (n : ℕ) → count (λ x. x.number == n) sessions ≤ 1
  pub connected : (n : ℕ) → session_of sessions n ≡ None → count (is_of_session n) s.associations ≡ 0
  pub limit : length sessions ≤ MOST_SESSIONS

pub with_sessions : (s : State) (sessions : List Session) → IsSound s → AreSeated s sessions → IsSound (record s { sessions = sessions })
with_sessions s sessions h k = record {
  descends = h.descends;
  distinct = h.distinct;
  numbered = k.numbered;
  active = h.active;
  own = h.own;
  connected = k.connected;
  bound = h.bound;
  sessions = k.limit;
  known = h.known;
  given = h.given;
  loose = h.loose;
}

new_numbered : (xs : List Session) (n m : ℕ) (c : Bool) → (n == m) ≡ c → session_of xs n ≡ None → count (λ x. x.number == m) xs ≤ 1 → cond c 1 0 + count (λ x. x.number == m) xs ≤ 1
new_numbered xs n m true e none most =
    let same : n ≡ m = grind (arith, nat_tests) in
    let free : count (λ x. x.number == m) xs ≡ 0 = count_none (λ x. x.number == m) xs (subst (λ (k : ℕ). session_of xs k ≡ None) same none) in omega arith
new_numbered xs n m false e none most = omega arith

new_none : (x : Session) (o : Option Session) (c : Bool) → cond c (Some x) o ≡ None → o ≡ None
new_none x o true e = absurd (cc e)
new_none x o false e = e

pub connected_sound : (s : State) → IsSound s → IsSound (connect_by s).after
connected_sound s h =
    unless_after IsSound (connect_refusal (length s.sessions)) s (connected s) h
    (λ allowed.
    let room : length s.sessions < MOST_SESSIONS = below (length s.sessions) MOST_SESSIONS (passed _ _ _ allowed).0 in
    let n = free_number s.sessions in
    with_sessions s (new_session n ∷ s.sessions) h (record {
      numbered = λ m. new_numbered s.sessions n m (n == m) refl (free_number_free s.sessions) (h.numbered m);
      connected = λ m none. h.connected m (new_none (new_session n) (session_of s.sessions m) (n == m) none);
      limit = omega arith;
    }))

-- a change of a session that leaves its number
pub seat_sound : (s : State) (n : ℕ) (f : Session → Session) → ((x : Session) → (f x).number ≡ x.number) → IsSound s → IsSound (record s { sessions = change (λ x. x.number == n) f s.sessions })
seat_sound s n f keeps h = with_sessions s (change (λ x. x.number == n) f s.sessions) h (record {
  numbered = λ m. omega (arith, h.numbered m, count_same (λ x. x.number == n) f (λ x. x.number == m) (λ x. rw (keeps x) refl) s.sessions);
  connected = λ m none. h.connected m (none_before (λ x. x.number == n) f (λ x. x.number == m) (λ x. rw (keeps x) refl) s.sessions none);
  limit = omega (arith, h.sessions, length-change (λ x. x.number == n) f s.sessions);
})

length-without : {A : Type 0} (p : A → Bool) (xs : List A) → length (without p xs) ≤ length xs
length-without p [] = omega arith
length-without p (x ∷ xs) = by p x xs (p x) (length-without p xs)
  where
    by : {A : Type 0} (p : A → Bool) (x : A) (xs : List A) (c : Bool) → length (without p xs) ≤ length xs → length (cond c xs (x ∷ without p xs)) ≤ length (x ∷ xs)
    by p x xs true rest = omega arith
    by p x xs false rest = omega arith

left_seated : (s : State) (n m : ℕ) (c : Bool) → (n == m) ≡ c → IsSound s → session_of (without (λ x. x.number == n) s.sessions) m ≡ None
    → count (is_of_session m) (filter (λ a. not (is_of_session n a)) s.associations) ≡ 0
left_seated s n m true e h none =
    let same : n ≡ m = grind (arith, nat_tests) in
    subst (λ (k : ℕ). count (is_of_session k) (filter (λ a. not (is_of_session n a)) s.associations) ≡ 0) same (count_out (is_of_session n) s.associations)
left_seated s n m false e h none =
    let others = find_without (λ x. x.number == n) (λ x. x.number == m) (λ x is. other x is) s.sessions in
    let before : session_of s.sessions m ≡ None = subst (λ (o : Option Session). o ≡ None) others none in
    omega (arith, h.connected m before, count_filter (λ a. not (is_of_session n a)) (is_of_session m) s.associations)
  where
    other : (x : Session) → (x.number == n) ≡ true → (x.number == m) ≡ false
    other x is = grind (arith, nat_tests)

pub hung_up_sound : (s : State) (n : ℕ) → IsSound s → IsSound (hang_up_by s n).after
hung_up_sound s n h =
    let marked : IsSound _ = with_branches s _ h (mapped_kept s (left_behind s.associations n) (left_keeps s.associations n) h) in
    let left = with_fewer_held (record s { branches = _ }) (filter (λ a. not (is_of_session n a)) s.associations) marked (λ q. count_filter (λ a. not (is_of_session n a)) q s.associations) in
    with_sessions _ (without (λ x. x.number == n) s.sessions) left (record {
      numbered = λ m. omega (arith, h.numbered m, count_without (λ x. x.number == n) (λ x. x.number == m) s.sessions);
      connected = λ m none. left_seated s n m (n == m) refl h none;
      limit = omega (arith, h.sessions, length-without (λ x. x.number == n) s.sessions);
    })
