-- A table of sessions where a session hangs up.
use Rattle.std.proofs.Common.{◌≡◌, ℕ, ◌+◌, ◌≤◌, ◌==◌, Bool, true, false, not, cond, List, [], ◌∷◌, length, Option, Some, None, refl, ap, sym, ◌∙◌, subst, arith}
use Rattle.std.specs.Prelude.{filter, option_map, option_and_then, is_some, if◌then◌else◌}
use Rattle.std.specs.List.{list_any}
use Rattle.std.proofs.lemmas.Bool.Decides.{nat_tests}
use Rattle.xa_xid.specs.Triple.{Triple, xid_eq}
use Rattle.xa_model.proofs.Xids.{both_true}
use Rattle.xa_model.specs.State.{Session, Association, count, is_active, is_own, owns, active_of, session_of, without, limit_by}
use Rattle.xa_model.specs.Associations.{hang_up_by, is_of_session}
use Rattle.xa_model.proofs.Finds.{find_without}
use Rattle.xa_model.proofs.Counts.{found_none, count_out, count_less, count_without, count_nowhere}
use Rattle.xa_assoc.specs.declared.sessions.Sessions.{Sessions}
use Rattle.xa_assoc.specs.Free.{is_free}
use Rattle.xa_assoc.specs.Seats.{opened_at}
use Rattle.xa_assoc.specs.Changes.{Goes}
use Rattle.xa_assoc.specs.Sessions.{Follows}
use Rattle.xa_assoc.proofs.Anys.{any_filter, find_filter, count_gone}
use Rattle.xa_assoc.proofs.Held.{own_number, active_own}
use Rattle.xa_assoc.proofs.Moves.{same_number}
use Rattle.xa_assoc.proofs.Arrivals.{apart_numbers}
use Rattle.xa_assoc.proofs.Connecting.{opened_some}
use Rattle.xa_model.proofs.Leaving.{none_counted}

-- the session

abbrev has_number : ℕ → Session → Bool
has_number n x = x.number == n

none_left : (n : ℕ) (xs : List Session) (c : Bool) → list_any (has_number n) xs ≡ c → count (has_number n) xs ≤ 1 → count (has_number n) (without (has_number n) xs) ≡ 0
none_left n xs true e one = let fewer = count_gone (has_number n) (has_number n) (λ x is. is) xs e in omega (arith, fewer)
none_left n xs false e one =
    let none : count (has_number n) xs ≡ 0 = count_nowhere (has_number n) xs e in
    let fewer = count_without (has_number n) (has_number n) xs in omega (arith, fewer)

-- whatever is looked up of it
gone_by : {A : Type 0} (g : Option Session → A) (n k : ℕ) (xs : List Session) (c : Bool) → (n == k) ≡ c → count (has_number n) xs ≤ 1
    → cond c (g None) (g (session_of xs k)) ≡ g (session_of (without (has_number n) xs) k)
gone_by g n k xs true e one =
    let none : session_of (without (has_number n) xs) n ≡ None = found_none (has_number n) (without (has_number n) xs) (none_left n xs (list_any (has_number n) xs) refl one) in
    sym (ap g (subst (λ (i : ℕ). session_of (without (has_number n) xs) i ≡ None) (same_number n k e) none))
gone_by g n k xs false e one = sym (ap g (find_without (has_number n) (has_number k) (λ x is. apart_numbers n k x.number e is) xs))

length_by : (x : Session) (xs ys : List Session) (o : Option Session) (c : Bool) → length ys + (if is_some o then 1 else 0) ≡ length xs
    → length (cond c xs (x ∷ ys)) + (if is_some (cond c (Some x) o) then 1 else 0) ≡ length (x ∷ xs)
length_by x xs ys o true e = omega arith
length_by x xs ys o false e = omega arith

length-without : (n : ℕ) (xs : List Session) → length (without (has_number n) xs) + (if is_some (session_of xs n) then 1 else 0) ≡ length xs
length-without n [] = refl
length-without n (x ∷ xs) = length_by x xs (without (has_number n) xs) (session_of xs n) (has_number n x) (length-without n xs)

-- its associations

flip : (b : Bool) → b ≡ false → not b ≡ true
flip b e = rw e refl

apart_own : (n k : ℕ) (a : Association) → (n == k) ≡ false → is_own k a.holder ≡ true → is_own n a.holder ≡ false
apart_own n k a e is = own_number k n a.holder is ∙ other_way n k e
  where
    other_way : (i j : ℕ) → (i == j) ≡ false → (j == i) ≡ false
    other_way i j h = grind (arith, nat_tests)

out_active : (n k : ℕ) (held : List Association) (c : Bool) → (n == k) ≡ c → cond c None (active_of held k) ≡ active_of (filter (λ a. not (is_of_session n a)) held) k
out_active n k held true e =
    let out : count (is_of_session n) (filter (λ a. not (is_of_session n a)) held) ≡ 0 = count_out (is_of_session n) held in
    let fewer = count_less (λ (a : Association). is_active n a.holder) (is_of_session n) (λ a is. active_own n a.holder is) (filter (λ a. not (is_of_session n a)) held) in
    let none : count (λ a. is_active n a.holder) (filter (λ a. not (is_of_session n a)) held) ≡ 0 = omega (arith, fewer) in
    let gone : active_of (filter (λ a. not (is_of_session n a)) held) n ≡ None = ap (option_map (λ (a : Association). a.xid)) (found_none (λ (a : Association). is_active n a.holder) (filter (λ a. not (is_of_session n a)) held) none) in
    sym (subst (λ (i : ℕ). active_of (filter (λ a. not (is_of_session n a)) held) i ≡ None) (same_number n k e) gone)
out_active n k held false e =
    sym (ap (option_map (λ (a : Association). a.xid))
    (find_filter (λ (a : Association). is_active k a.holder) (λ (a : Association). not (is_of_session n a)) (λ a is. flip (is_own n a.holder) (apart_own n k a e (active_own k a.holder is))) held))

own_holder : (k : ℕ) (q : Triple) (a : Association) → owns k q a ≡ true → is_own k a.holder ≡ true
own_holder k q a is = (both_true (is_own k a.holder) (xid_eq a.xid q) is).0

out_own : (n k : ℕ) (q : Triple) (held : List Association) (c : Bool) → (n == k) ≡ c → cond c false (list_any (owns k q) held) ≡ list_any (owns k q) (filter (λ a. not (is_of_session n a)) held)
out_own n k q held true e =
    let out : count (is_of_session n) (filter (λ a. not (is_of_session n a)) held) ≡ 0 = count_out (is_of_session n) held in
    let fewer = count_less (owns n q) (is_of_session n) (own_holder n q) (filter (λ a. not (is_of_session n a)) held) in
    let none : count (owns n q) (filter (λ a. not (is_of_session n a)) held) ≡ 0 = omega (arith, fewer) in
    sym (subst (λ (i : ℕ). list_any (owns i q) (filter (λ a. not (is_of_session n a)) held) ≡ false) (same_number n k e) (none_counted (owns n q) (filter (λ a. not (is_of_session n a)) held) none))
out_own n k q held false e =
    sym (any_filter (owns k q) (λ (a : Association). not (is_of_session n a)) (λ a is. flip (is_own n a.holder) (apart_own n k a e (own_holder k q a is))) held)

gone_free : (b c : Bool) (o : Option Bool) → b ≡ not (is_some o) → cond c true b ≡ not (is_some (cond c None o))
gone_free b true o e = refl
gone_free b false o e = e

fewer_by : (a b : ℕ) (c d : Bool) (x y : ℕ) → c ≡ d → x ≡ y → a + (if c then 1 else 0) ≡ x → b + (if d then 1 else 0) ≡ y → a ≡ b
fewer_by a b true true x y e h i j = omega arith
fewer_by a b false false x y e h i j = omega arith
fewer_by a b true false x y e h i j = absurd (cc e)
fewer_by a b false true x y e h i j = absurd (cc e)

pub hang_up_follows : (m m' : Sessions) (n : ℕ) → Goes m n m' → Follows m (λ s. (hang_up_by s n).after) m'
hang_up_follows m m' n d = λ s sound st. record {
  opened = λ k. d.opened k ∙ ap (λ (o : Option Bool). cond (n == k) None o) (st.opened k) ∙ gone_by (option_map (λ (x : Session). x.opened)) n k s.sessions (n == k) refl (sound.numbered n);
  active = λ k. d.active k ∙ ap (λ (o : Option Triple). cond (n == k) None o) (st.active k) ∙ out_active n k s.associations (n == k) refl;
  own = λ k q. d.own k q ∙ ap (λ (b : Bool). cond (n == k) false b) (st.own k q) ∙ out_own n k q s.associations (n == k) refl;
  scan = λ k. d.scan k ∙ ap (λ (o : Option (Option Triple)). cond (n == k) None o) (st.scan k) ∙ gone_by (option_and_then (λ (x : Session). x.scan)) n k s.sessions (n == k) refl (sound.numbered n);
  limit = λ k. d.limit k ∙ ap (λ (l : ℕ). cond (n == k) 0 l) (st.limit k) ∙ gone_by limit_by n k s.sessions (n == k) refl (sound.numbered n);
  connected =
      fewer_by (length m'.seats.entries) (length (without (has_number n) s.sessions)) (is_some (opened_at m n)) (is_some (session_of s.sessions n)) (length m.seats.entries) (length s.sessions)
      (ap (λ (o : Option Bool). is_some o) (st.opened n) ∙ opened_some (session_of s.sessions n)) st.connected d.connected (length-without n s.sessions);
  free = λ k below. d.free k below ∙ gone_free (is_free m.free k) (n == k + 1) (opened_at m (k + 1)) (st.free k below) ∙ ap (λ (o : Option Bool). not (is_some o)) (sym (d.opened (k + 1)));
}
