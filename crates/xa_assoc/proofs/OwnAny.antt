-- Of the XIDs of a session's own associations one has a property just if one of these associations is with such an XID.
use Rattle.std.proofs.Common.{◌≡◌, ℕ, Bool, true, false, ◌&&◌, ◌||◌, List, [], ◌∷◌, Option, Some, None, refl, ap, sym, ◌∙◌, subst}
use Rattle.std.specs.List.{list_any}
use Rattle.std.specs.BTreeMap.{is_at}
use Rattle.xa_xid.specs.Triple.{Triple, xid_cmp, xid_eq}
use Rattle.xa_xid.proofs.Same.{xid_eq_itself, xid_same}
use Rattle.xa_model.proofs.Xids.{both_true, cmp_is_eq}
use Rattle.xa_model.specs.State.{State, Association, is_own, owns}
use Rattle.xa_assoc.specs.declared.seat.Seat.{Seat}
use Rattle.xa_assoc.specs.declared.sessions.Sessions.{Sessions}
use Rattle.xa_assoc.specs.Seats.{holds, keys_in, own_keys_at, seat_at}
use Rattle.xa_assoc.specs.Sessions.{SessionsStandFor}

-- an association of this session's own with such an XID
abbrev pub is_own_of : (Triple → Bool) → ℕ → Association → Bool
is_own_of is n a = is_own n a.holder && is a.xid

same_bool : (a b : Bool) → (a ≡ true → b ≡ true) → (b ≡ true → a ≡ true) → a ≡ b
same_bool true b f g = sym (f refl)
same_bool false true f g = g refl
same_bool false false f g = refl

or_left : (a b : Bool) → a ≡ true → (a || b) ≡ true
or_left true b e = refl
or_left false b e = absurd (cc e)

or_right : (a b : Bool) → b ≡ true → (a || b) ≡ true
or_right true b e = refl
or_right false b e = e

-- one of two is so: what follows from each follows
or_by : (a b c : Bool) → (a || b) ≡ true → (a ≡ true → c ≡ true) → (b ≡ true → c ≡ true) → c ≡ true
or_by true b c e f g = f refl
or_by false b c e f g = g e

and_both : (a b : Bool) → a ≡ true → b ≡ true → (a && b) ≡ true
and_both true b e f = f
and_both false b e f = e

module _ (is : Triple → Bool) (n : ℕ) where
  held_has : (x : Triple) (held : List Association) → is x ≡ true → list_any (owns n x) held ≡ true
      → list_any (is_own_of is n) held ≡ true
  held_has x [] e there = there
  held_has x (a ∷ held) e there =
      or_by (owns n x a) (list_any (owns n x) held) (is_own_of is n a || list_any (is_own_of is n) held) there
      (λ here.
      let both = both_true (is_own n a.holder) (xid_eq a.xid x) here in
      let same : a.xid ≡ x = xid_same a.xid x both.1 in
      or_left (is_own_of is n a) (list_any (is_own_of is n) held)
      (and_both (is_own n a.holder) (is a.xid) both.0 (ap is same ∙ e)))
      (λ later. or_right (is_own_of is n a) (list_any (is_own_of is n) held) (held_has x held e later))

  keys_have : (x : Triple) (keys : List Triple) → is x ≡ true → list_any (is_at (xid_cmp x)) keys ≡ true → list_any is keys ≡ true
  keys_have x [] e there = there
  keys_have x (k ∷ keys) e there =
      or_by (is_at (xid_cmp x) k) (list_any (is_at (xid_cmp x)) keys) (is k || list_any is keys) there
      (λ here.
      let same : x ≡ k = xid_same x k (sym (cmp_is_eq x k) ∙ here) in
      or_left (is k) (list_any is keys) (subst (λ (y : Triple). is y ≡ true) same e))
      (λ later. or_right (is k) (list_any is keys) (keys_have x keys e later))

  from_keys : (keys : List Triple) (held : List Association) → ((x : Triple) → list_any (is_at (xid_cmp x)) keys ≡ true → list_any (owns n x) held ≡ true)
      → list_any is keys ≡ true → list_any (is_own_of is n) held ≡ true
  from_keys [] held h e = absurd (cc e)
  from_keys (k ∷ keys) held h e =
      or_by (is k) (list_any is keys) (list_any (is_own_of is n) held) e
      (λ here. held_has k held here (h k (or_left (is_at (xid_cmp k) k) (list_any (is_at (xid_cmp k)) keys) (cmp_is_eq k k ∙ xid_eq_itself k))))
      (λ later. from_keys keys held (λ x there. h x (or_right (is_at (xid_cmp x) k) (list_any (is_at (xid_cmp x)) keys) there)) later)

  from_held : (held : List Association) (keys : List Triple) → ((x : Triple) → list_any (owns n x) held ≡ true → list_any (is_at (xid_cmp x)) keys ≡ true)
      → list_any (is_own_of is n) held ≡ true → list_any is keys ≡ true
  from_held [] keys h e = absurd (cc e)
  from_held (a ∷ held) keys h e =
      or_by (is_own_of is n a) (list_any (is_own_of is n) held) (list_any is keys) e
      (λ here.
      let both = both_true (is_own n a.holder) (is a.xid) here in
      let own : owns n a.xid a ≡ true = and_both (is_own n a.holder) (xid_eq a.xid a.xid) both.0 (xid_eq_itself a.xid) in
      keys_have a.xid keys both.1 (h a.xid (or_left (owns n a.xid a) (list_any (owns n a.xid) held) own)))
      (λ later. from_held held keys (λ x there. h x (or_right (owns n x a) (list_any (owns n x) held) there)) later)

  seat_by : (held : List Association) (o : Option Seat) → ((x : Triple) → holds x o ≡ list_any (owns n x) held)
      → list_any is (keys_in o) ≡ list_any (is_own_of is n) held
  seat_by held None h =
      same_bool (list_any is []) (list_any (is_own_of is n) held) (λ e. absurd (cc e)) (from_held held [] (λ x there. h x ∙ there))
  seat_by held (Some x) h =
      same_bool (list_any is x.own.keys) (list_any (is_own_of is n) held)
      (from_keys x.own.keys held (λ y there. sym (h y) ∙ there))
      (from_held held x.own.keys (λ y there. h y ∙ there))

  pub own_any_is : (m : Sessions) (s : State) → SessionsStandFor m s
      → list_any is (own_keys_at m n) ≡ list_any (is_own_of is n) s.associations
  own_any_is m s st = seat_by s.associations (seat_at m n) (λ x. st.own n x)
