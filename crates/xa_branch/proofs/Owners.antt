-- A branch has at most 1,024 associations of each kind: of sessions at most one each, and 64 loose ones.
use Rattle.std.proofs.Common.{◌≡◌, ℕ, ◌+◌, ◌≤◌, ◌==◌, Bool, true, false, ◌&&◌, cond, List, [], ◌∷◌, length, Option, Some, None, refl, arith}
use Rattle.std.specs.Prelude.{is_some}
use Rattle.std.proofs.lemmas.Bool.Decides.{nat_tests}
use Rattle.xa_xid.specs.Triple.{Triple, xid_eq}
use Rattle.xa_model.specs.State.{State, Session, Association, Holder, Active, Suspended, Loose, count, session_of, is_own, owns, is_loose, is_loose_with}
use Rattle.xa_model.specs.Associations.{is_of_session}
use Rattle.xa_model.specs.Invariants.Sound.{IsSound}
use Rattle.xa_model.proofs.Counts.{count_less, count_either}
use Rattle.xa_branch.specs.declared.kind.Kind.{Kind}
use Rattle.xa_branch.specs.declared.kind.Kind.TheVariants as kind
use Rattle.xa_branch.specs.Kinds.{kind_of, same_kind, is_as, held_as}

-- a session of these holds it
abbrev is_held_in : List Session → Holder → Bool
is_held_in sessions (Active n) = is_some (session_of sessions n)
is_held_in sessions (Suspended n) = is_some (session_of sessions n)
is_held_in sessions Loose = false

abbrev holds_in : List Session → Triple → Association → Bool
holds_in sessions xid a = is_held_in sessions a.holder && xid_eq a.xid xid

-- what nobody passes counts nobody
pub never : {A : Type 0} (p : A → Bool) (h : (x : A) → p x ≡ false) (xs : List A) → count p xs ≡ 0
never p h [] = refl
never p h (x ∷ xs) = let rest : count p xs ≡ 0 = never p h xs in rw (h x, rest) refl

held_in_none : (h : Holder) (b : Bool) → (is_held_in [] h && b) ≡ false
held_in_none (Active n) b = refl
held_in_none (Suspended n) b = refl
held_in_none Loose b = refl

session_or : (x : Session) (xs : List Session) (n : ℕ) (b : Bool) → (is_some (cond (x.number == n) (Some x) (session_of xs n)) && b) ≡ true → ((n == x.number) && b) ≡ false
    → (is_some (session_of xs n) && b) ≡ true
session_or x xs n b e other = by_test (x.number == n) refl e
  where
    by_test : (c : Bool) → (x.number == n) ≡ c → (is_some (cond c (Some x) (session_of xs n)) && b) ≡ true → (is_some (session_of xs n) && b) ≡ true
    by_test true t is =
        let same : (n == x.number) ≡ true = grind (arith, nat_tests) in
        let free : b ≡ false = rw same at other in absurd (cc is)
    by_test false t is = is

held_or : (x : Session) (xs : List Session) (h : Holder) (b : Bool) → (is_held_in (x ∷ xs) h && b) ≡ true → (is_own x.number h && b) ≡ false → (is_held_in xs h && b) ≡ true
held_or x xs (Active n) b e other = session_or x xs n b e other
held_or x xs (Suspended n) b e other = session_or x xs n b e other
held_or x xs Loose b e other = e

-- each session holds at most one with the XID
held_by_sessions : (xid : Triple) (held : List Association) → ((n : ℕ) → count (owns n xid) held ≤ 1) → (sessions : List Session) → count (holds_in sessions xid) held ≤ length sessions
held_by_sessions xid held one [] = omega (arith, never (holds_in [] xid) (λ a. held_in_none a.holder (xid_eq a.xid xid)) held)
held_by_sessions xid held one (x ∷ xs) =
    let rest : count (holds_in xs xid) held ≤ length xs = held_by_sessions xid held one xs in
    let here : count (owns x.number xid) held ≤ 1 = one x.number in
    let either : count (holds_in (x ∷ xs) xid) held ≤ count (owns x.number xid) held + count (holds_in xs xid) held =
    count_either (holds_in (x ∷ xs) xid) (owns x.number xid) (holds_in xs xid) (λ a e other. held_or x xs a.holder (xid_eq a.xid xid) e other) held in
    omega arith

-- who holds one is connected
connected_by : (sessions : List Session) (n : ℕ) (o : Option Session) (c b : Bool) → session_of sessions n ≡ o → (o ≡ None → cond {A = ℕ} (n == n) 1 0 ≡ 0) → cond (c && b) 1 0 ≤ cond (is_some (session_of sessions n) && b) 1 0
connected_by sessions n None c b e h = let itself : (n == n) ≡ true = grind (arith, nat_tests) in let one : cond {A = ℕ} true 1 0 ≡ 0 = rw itself at (h refl) in absurd (omega arith)
connected_by sessions n (Some x) c b e h = rw e (least c b)
  where
    least : (c b : Bool) → cond (c && b) 1 0 ≤ cond b 1 0
    least true true = omega arith
    least true false = omega arith
    least false b = least_of b
      where
        least_of : (b : Bool) → 0 ≤ cond b 1 0
        least_of b = omega arith

own_by : (sessions : List Session) (k : Kind) (h : Holder) (b : Bool) → same_kind k kind.Loose ≡ false → ((n : ℕ) → session_of sessions n ≡ None → cond {A = ℕ} (is_own n h) 1 0 ≡ 0)
    → cond (same_kind (kind_of h) k && b) 1 0 ≤ cond (is_held_in sessions h && b) 1 0
own_by sessions k (Active n) b no_loose h = connected_by sessions n (session_of sessions n) (same_kind kind.Active k) b refl (h n)
own_by sessions k (Suspended n) b no_loose h = connected_by sessions n (session_of sessions n) (same_kind kind.Suspended k) b refl (h n)
own_by sessions kind.Active Loose b no_loose h = omega arith
own_by sessions kind.Suspended Loose b no_loose h = omega arith
own_by sessions kind.Loose Loose b no_loose h = absurd (cc no_loose)

own_held : (sessions : List Session) (k : Kind) (xid : Triple) (held : List Association) → same_kind k kind.Loose ≡ false → ((n : ℕ) → session_of sessions n ≡ None → count (is_of_session n) held ≡ 0)
    → count (is_as k xid) held ≤ count (holds_in sessions xid) held
own_held sessions k xid [] no_loose h = omega arith
own_held sessions k xid (a ∷ held) no_loose h =
    let rest : count (is_as k xid) held ≤ count (holds_in sessions xid) held = own_held sessions k xid held no_loose (λ n none. omega (arith, h n none)) in
    let here : cond (is_as k xid a) 1 0 ≤ cond (holds_in sessions xid a) 1 0 = own_by sessions k a.holder (xid_eq a.xid xid) no_loose (λ n none. omega (arith, h n none)) in
    omega arith

loose_kind : (h : Holder) (b : Bool) → (same_kind (kind_of h) kind.Loose && b) ≡ true → (is_loose h && b) ≡ true
loose_kind (Active n) b e = absurd (cc e)
loose_kind (Suspended n) b e = absurd (cc e)
loose_kind Loose b e = e

own_few : (s : State) (k : Kind) (xid : Triple) → IsSound s → same_kind k kind.Loose ≡ false → held_as k s.associations xid ≤ 1024
own_few s k xid h no_loose =
    let fewer : count (is_as k xid) s.associations ≤ count (holds_in s.sessions xid) s.associations = own_held s.sessions k xid s.associations no_loose h.connected in
    let most : count (holds_in s.sessions xid) s.associations ≤ length s.sessions = held_by_sessions xid s.associations (λ n. h.own n xid) s.sessions in
    omega (arith, h.sessions)

pub few : (s : State) → IsSound s → (k : Kind) (xid : Triple) → held_as k s.associations xid ≤ 1024
few s h kind.Active xid = own_few s kind.Active xid h refl
few s h kind.Suspended xid = own_few s kind.Suspended xid h refl
few s h kind.Loose xid = omega (arith, count_less (is_as kind.Loose xid) (is_loose_with xid) (λ a e. loose_kind a.holder (xid_eq a.xid xid) e) s.associations, h.loose xid)
