-- A table of sessions where a session connects, or hangs up.
use Rattle.std.proofs.Common.{◌≡◌, ℕ, ◌+◌, ◌<◌, ◌==◌, nat_lt, Bool, true, false, not, cond, List, [], ◌∷◌, length, Option, Some, None, refl, ap, sym, ◌∙◌, subst, arith}
use Rattle.std.specs.Prelude.{option_map, option_and_then, is_some, OnOk, Result, Ok, Err, is_err}
use Rattle.std.proofs.lemmas.Bool.Decides.{nat_tests}
use Rattle.xa_codes.specs.declared.codes.TheConstants.{XAER_RMERR}
use Rattle.xa_codes.specs.declared.detail.Detail.TheVariants as detail
use Rattle.xa_xid.specs.Triple.{Triple}
use Rattle.xa_frame.specs.declared.body.Body.TheVariants as body
use Rattle.xa_frame.specs.declared.reply.Reply.{Reply}
use Rattle.xa_model.specs.State.{State, Session, session_of, free_number, new_session, limit_by}
use Rattle.xa_model.specs.Answer.{Answer, answer, carrying, detailed, first, unless}
use Rattle.xa_model.specs.Associations.{connected, connect_by, connect_refusal}
use Rattle.xa_limits.specs.declared.TheConstants.{MOST_SESSIONS}
use Rattle.xa_assoc.specs.declared.seat.Seat.{Seat}
use Rattle.xa_assoc.specs.declared.sessions.Sessions.{Sessions}
use Rattle.xa_assoc.specs.Free.{is_free}
use Rattle.xa_assoc.specs.Seats.{seat_at, opened_at, active_at, owns_at, holds}
use Rattle.xa_assoc.specs.Changes.{Comes}
use Rattle.xa_assoc.specs.Sessions.{SessionsStandFor, Follows}
use Rattle.xa_assoc.proofs.Moves.{same_number}
use Rattle.xa_assoc.proofs.Arrivals.{least_number, never_full}

-- Connect

pub opened_some : (o : Option Session) → is_some (option_map (λ x. x.opened) o) ≡ is_some o
opened_some None = refl
opened_some (Some x) = refl

not_flips : (a b : Bool) → a ≡ not b → b ≡ not a
not_flips a true e = rw e refl
not_flips a false e = rw e refl

taken_is : (m : Sessions) (s : State) (k : ℕ) → SessionsStandFor m s → k < 1024 → is_some (session_of s.sessions (k + 1)) ≡ not (is_free m.free k)
taken_is m s k st below =
    sym (opened_some (session_of s.sessions (k + 1))) ∙ ap (λ (o : Option Bool). is_some o) (sym (st.opened (k + 1))) ∙ not_flips (is_free m.free k) (is_some (opened_at m (k + 1))) (st.free k below)

-- the first index that is free
pub record IsFirst (m : Sessions) (t : ℕ) : Type 0 where
  pub within : t < 1024
  pub free : is_free m.free t ≡ true
  pub least : (k : ℕ) → k < t → is_free m.free k ≡ false

pub number_is_free : (m : Sessions) (s : State) (t : ℕ) → SessionsStandFor m s → IsFirst m t → free_number s.sessions ≡ t + 1
number_is_free m s t st f =
    least_number s.sessions t (taken_is m s t st f.within ∙ ap not f.free) (λ j low. taken_is m s j st (omega (arith, f.within)) ∙ ap not (f.least j low))

pub none_is_full : (m : Sessions) (s : State) → SessionsStandFor m s → length m.seats.entries < 1024 → ((k : ℕ) → k < 1024 → is_free m.free k ≡ false) → ⊥
none_is_full m s st fewer none = never_full s.sessions 1024 (omega (arith, st.connected)) (λ j low. taken_is m s j st low ∙ ap not (none j low))

-- over plain variables, since the tactics would compute the row
pub unless_none : (o : Option Reply) (s : State) (a : Answer) → o ≡ None → unless o s a ≡ a
unless_none None s a e = refl
unless_none (Some r) s a e = absurd (cc e)

pub unless_some : (o : Option Reply) (r : Reply) (s : State) (a : Answer) → o ≡ Some r → unless o s a ≡ answer r s
unless_some None r s a e = absurd (cc e)
unless_some (Some p) r s a e = ap (λ (o : Option Reply). unless o s a) e

refusal_same : (m : Sessions) (s : State) (o : Option Reply) → SessionsStandFor m s → connect_refusal (length m.seats.entries) ≡ o → connect_refusal (length s.sessions) ≡ o
refusal_same m s o st e = ap connect_refusal (sym st.connected) ∙ e

pub connect_goes_on : (m : Sessions) (s : State) → SessionsStandFor m s → connect_refusal (length m.seats.entries) ≡ None → connect_by s ≡ connected s
connect_goes_on m s st e = unless_none (connect_refusal (length s.sessions)) s (connected s) (refusal_same m s None st e)

pub connect_refuses : (m : Sessions) (s : State) (r : Reply) → SessionsStandFor m s → connect_refusal (length m.seats.entries) ≡ Some r → connect_by s ≡ answer r s
connect_refuses m s r st e = unless_some (connect_refusal (length s.sessions)) r s (connected s) (refusal_same m s (Some r) st e)

fewer_by : (n : ℕ) (c : Bool) → nat_lt n MOST_SESSIONS ≡ c → first ((not c, detailed XAER_RMERR detail.Limit) ∷ []) ≡ None → n < 1024
fewer_by n true e h = grind (arith, nat_tests)
fewer_by n false e h = absurd (cc h)

pub fewer : (n : ℕ) → connect_refusal n ≡ None → n < 1024
fewer n h = fewer_by n (nat_lt n MOST_SESSIONS) refl h

pub connect_number : (m : Sessions) (s : State) (t : ℕ) → SessionsStandFor m s → connect_refusal (length m.seats.entries) ≡ None → IsFirst m t → (connect_by s).reply ≡ carrying (body.Number (t + 1))
connect_number m s t st e f = ap (λ (a : Answer). a.reply) (connect_goes_on m s st e) ∙ ap (λ (n : ℕ). carrying (body.Number n)) (number_is_free m s t st f)

-- a session of a number that isn't connected holds nothing

unseated : (m : Sessions) (n : ℕ) → opened_at m n ≡ None → seat_at m n ≡ None
unseated m n e = by_seat (seat_at m n) e
  where
    by_seat : (o : Option Seat) → option_map (λ x. x.opened) o ≡ None → o ≡ None
    by_seat None h = refl
    by_seat (Some x) h = absurd (cc h)

nothing_at : {A : Type 0} (n k : ℕ) (v : A) (f : ℕ → A) (c : Bool) → (n == k) ≡ c → f n ≡ v → cond c v (f k) ≡ f k
nothing_at n k v f true e none = sym (subst (λ (i : ℕ). f i ≡ v) (same_number n k e) none)
nothing_at n k v f false e none = refl

came_opened : (n k : ℕ) (xs : List Session) (c : Bool)
    → option_map (λ (x : Session). x.opened) (cond c (Some (new_session n)) (session_of xs k)) ≡ cond c (Some false) (option_map (λ (x : Session). x.opened) (session_of xs k))
came_opened n k xs true = refl
came_opened n k xs false = refl

came_scan : (n k : ℕ) (xs : List Session) (c : Bool)
    → option_and_then (λ (x : Session). x.scan) (cond c (Some (new_session n)) (session_of xs k)) ≡ cond c None (option_and_then (λ (x : Session). x.scan) (session_of xs k))
came_scan n k xs true = refl
came_scan n k xs false = refl

came_limit : (n k : ℕ) (xs : List Session) (c : Bool) → limit_by (cond c (Some (new_session n)) (session_of xs k)) ≡ cond c 0 (limit_by (session_of xs k))
came_limit n k xs true = refl
came_limit n k xs false = refl

came_free : (b c : Bool) (o : Option Bool) → b ≡ not (is_some o) → cond c false b ≡ not (is_some (cond c (Some false) o))
came_free b true o e = refl
came_free b false o e = e

came : (m m' : Sessions) (n : ℕ) (s : State) → Comes m n m' → opened_at m n ≡ None → SessionsStandFor m s
    → SessionsStandFor m' (record s { sessions = new_session n ∷ s.sessions })
came m m' n s d none st = record {
  opened = λ k. d.opened k ∙ ap (λ (o : Option Bool). cond (n == k) (Some false) o) (st.opened k) ∙ sym (came_opened n k s.sessions (n == k));
  active = λ k. d.active k ∙ nothing_at n k None (active_at m) (n == k) refl (ap (option_and_then (λ x. x.active)) (unseated m n none)) ∙ st.active k;
  own = λ k q. d.own k q ∙ nothing_at n k false (λ (i : ℕ). owns_at m i q) (n == k) refl (ap (holds q) (unseated m n none)) ∙ st.own k q;
  scan = λ k. d.scan k ∙ ap (λ (o : Option (Option Triple)). cond (n == k) None o) (st.scan k) ∙ sym (came_scan n k s.sessions (n == k));
  limit = λ k. d.limit k ∙ ap (λ (l : ℕ). cond (n == k) 0 l) (st.limit k) ∙ sym (came_limit n k s.sessions (n == k));
  connected = omega (arith, d.connected none, st.connected);
  free = λ k below. d.free k below ∙ came_free (is_free m.free k) (n == k + 1) (opened_at m (k + 1)) (st.free k below) ∙ ap (λ (o : Option Bool). not (is_some o)) (sym (d.opened (k + 1)));
}

-- what holds of a success
pub done : {A F : Type 0} (r : Result A F) (P : Type 0) → is_err r ≡ false → OnOk r P → P
done (Ok x) P e h = h
done (Err f) P e h = absurd (cc e)

is_nothing : (o : Option Bool) → true ≡ not (is_some o) → o ≡ None
is_nothing None e = refl
is_nothing (Some x) e = absurd (cc e)

pub connect_follows : (m m' : Sessions) (t : ℕ) → IsFirst m t → connect_refusal (length m.seats.entries) ≡ None → Comes m (t + 1) m' → Follows m (λ s. (connect_by s).after) m'
connect_follows m m' t f e d = λ s sound st.
    let none : opened_at m (t + 1) ≡ None = is_nothing (opened_at m (t + 1)) (sym f.free ∙ st.free t f.within) in
    let stands = came m m' (t + 1) s d none st in
    let same : connect_by s ≡ connected s = connect_goes_on m s st e in
    let at : SessionsStandFor m' (connected s).after
    = subst (λ (n : ℕ). SessionsStandFor m' (record s { sessions = new_session n ∷ s.sessions })) (sym (number_is_free m s t st f)) stands in
    subst (λ (a : Answer). SessionsStandFor m' a.after) (sym same) at
