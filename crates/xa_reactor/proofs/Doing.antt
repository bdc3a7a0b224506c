-- What a loop does, one thing after the other.
use Rattle.std.proofs.Common.{◌≡◌, ◌∙◌, ◌<◌, ◌≤◌, ℕ, zero, suc, Bool, true, false, arith, length, map, List, [], ◌∷◌, ◌++◌, Option, Some, None, Result, Ok, Err, get_or, set, refl, sym, ap, subst, inl, inr, ◌⊎◌}
use Rattle.std.proofs.Math.Path.{fun_ext}
use Rattle.std.specs.Option.{option_map}
use Rattle.std.specs.Prelude.{nat_lt, IsSome, IsSomeAnd}
use Rattle.std.proofs.lemmas.Bool.Decides.{nat_tests}
use Rattle.std.proofs.lemmas.List.{get_or_past, length-map}
use Rattle.slab.specs.Slab.{Slab, Updates, get, with_value}
use Rattle.slab.proofs.SlabLemmas.{Updates-with_value}
use Rattle.xa_assoc.specs.declared.fault.ConnectFault.{ConnectFault}
use Rattle.xa_frame.specs.declared.reply.Reply.{Reply}
use Rattle.xa_frame.specs.declared.question.Question.{Question}
use Rattle.xa_frame.specs.declared.question.Question.TheVariants.{Call}
use Rattle.xa_frame.specs.declared.request.Request.{Request}
use Rattle.xa_roles.specs.Believed.Roles.{may_ask}
use Rattle.xa_users.specs.declared.users.Users.{Users}
use Rattle.xa_reactor.specs.declared.loops.Ended.{Ended}
use Rattle.xa_reactor.specs.declared.loops.Seed.{Seed}
use Rattle.xa_reactor.specs.declared.peer.Peer.{Peer}
use Rattle.xa_reactor.specs.Aside.{Visits}
use Rattle.xa_reactor.specs.Turning.{HasAnswered}
use Rattle.xa_reactor.specs.Believed.Tending.{Does, DoesAll, DoesOrPosts, DoesSome, IsOwn, LogsIn, Puts, Table, Tends, TendsPosting, HasTended, HaveTended, Seat, SeedsHaveTended, first_standing, nobody, seat_of, sessions_of}

pub same_table : (a b : Table) → ((key : ℕ) → b key ≡ a key) → a ≡ b
same_table a b h = fun_ext (λ (key : ℕ). sym (h key))

-- ---- the slab

-- what is served under a key
abbrev pub session_in : Option Peer → Option Seat
session_in slot = option_map seat_of slot

-- a peer with a session more, or one less
pub puts_slot : (old new : Slab Peer) (key : ℕ) (slot : Option Peer) (session : Option Seat) → Updates old new key slot
    → session_in slot ≡ session → Puts (sessions_of old) (sessions_of new) key session
puts_slot old new key slot session updates is = record {
  changed = ap session_in updates.changed ∙ is;
  others = λ other ne. ap session_in (updates.others other ne);
}

-- a peer with the same session in place of one
in_place : (slots : List (Option Peer)) (key : ℕ) (old new : Peer) → get_or slots key None ≡ Some old → seat_of new ≡ seat_of old
    → (other : ℕ) → session_in (get_or (set slots key (Some new)) other None) ≡ session_in (get_or slots other None)
in_place [] key old new there same other = refl
in_place (slot ∷ slots) zero old new there same zero = ap Some same ∙ sym (ap session_in there)
in_place (slot ∷ slots) zero old new there same (suc other) = refl
in_place (slot ∷ slots) (suc key) old new there same zero = refl
in_place (slot ∷ slots) (suc key) old new there same (suc other) = in_place slots key old new there same other

pub same_sessions : (peers : Slab Peer) (key : ℕ) (old new : Peer) → get peers key ≡ Some old → seat_of new ≡ seat_of old
    → sessions_of peers ≡ sessions_of (with_value peers key new)
same_sessions peers key old new there same =
    same_table (sessions_of peers) (sessions_of (with_value peers key new)) (in_place peers.slots key old new there same)

-- another peer in place of one
pub puts_value : (peers : Slab Peer) (key : ℕ) (old new : Peer) → get peers key ≡ Some old
    → Puts (sessions_of peers) (sessions_of (with_value peers key new)) key (Some (seat_of new))
puts_value peers key old new there =
    puts_slot peers (with_value peers key new) key (Some new) (Some (seat_of new))
    (Updates-with_value peers key new (subst (λ (slot : Option Peer). IsSome slot) (sym there) refl)) refl

pub no_sessions : (peers : Slab Peer) → ((key : ℕ) → get peers key ≡ None) → sessions_of peers ≡ nobody
no_sessions peers none = sym (same_table nobody (sessions_of peers) (λ key. ap session_in (none key)))

-- nothing is under the keys below a number, and no slot after them
pub none_beyond : (slots : List (Option Peer)) (n : ℕ) → ((key : ℕ) → key < n → get_or slots key None ≡ None) → length slots ≤ n
    → (key : ℕ) → get_or slots key None ≡ None
none_beyond slots n below few key = at (nat_lt key n) refl
  where
    at : (x : Bool) → nat_lt key n ≡ x → get_or slots key None ≡ None
    at true is = below key (grind (arith, nat_tests, is))
    at false is = get_or_past slots key None (grind (arith, nat_tests, is, few))

-- ---- the loops

-- one of some
one_of : {A : Type 0} (xs : List A) (i : ℕ) → i < length xs → A
one_of [] i lt = absurd (omega (arith, lt))
one_of (x ∷ xs) i lt = x

at_map : {A B : Type 0} (f : A → B) (xs : List A) (i : ℕ) (a : A) (b : B) → i < length xs → get_or (map f xs) i b ≡ f (get_or xs i a)
at_map f [] i a b lt = absurd (omega (arith, lt))
at_map f (x ∷ xs) zero a b lt = refl
at_map f (x ∷ xs) (suc i) a b lt = at_map f xs i a b (omega (arith, lt))

-- ---- one thing after the other

module _ {D : Type 0} (does : Table → Table → D → D → Type 0) where
  pub does_none : (a b : Table) (d e : D) → a ≡ b → d ≡ e → DoesSome does a d b e
  does_none a b d e same is = ([], (same, is))

  pub does_one : (a b : Table) (d e : D) → does a b d e → DoesSome does a d b e
  does_one a b d e one = ((a, d) ∷ [], ((refl, refl), one))

  does_both : (a b c : Table) (d e f : D) (ms ns : List (Table × D)) → DoesAll does a d ms b e → DoesAll does b e ns c f
      → DoesAll does a d (ns ++ ms) c f
  does_both a b c d e f ms [] h k =
      subst (λ (t : Table). DoesAll does a d ms t f) k.0 (subst (λ (x : D). DoesAll does a d ms b x) k.1 h)
  does_both a b c d e f ms (n ∷ ns) h k = (does_both a b n.0 d e n.1 ms ns h k.0, k.1)

  pub does_twice : (a b c : Table) (d e f : D) → DoesSome does a d b e → DoesSome does b e c f → DoesSome does a d c f
  does_twice a b c d e f h k = (k.0 ++ h.0, does_both a b c d e f h.0 k.0 h.1 k.1)

  pub does_thrice : (a b c t : Table) (d e f x : D) → DoesSome does a d b e → DoesSome does b e c f → DoesSome does c f t x
      → DoesSome does a d t x
  does_thrice a b c t d e f x h k l = does_twice a c t d f x (does_twice a b c d e f h k) l

  -- what each thing keeps
  module _ (P : D → Type 0) (keeps : (a b : Table) (d e : D) → does a b d e → P d → P e) where
    all_keep : (a b : Table) (d e : D) (ms : List (Table × D)) → DoesAll does a d ms b e → P d → P e
    all_keep a b d e [] h p = subst P h.1 p
    all_keep a b d e (m ∷ ms) h p = keeps m.0 b m.1 e h.1 (all_keep a m.0 d m.1 ms h.0 p)

    pub does_keep : (a b : Table) (d e : D) → DoesSome does a d b e → P d → P e
    does_keep a b d e h p = all_keep a b d e h.0 h.1 p

-- what is so of each thing, said of a part of each door
module _ {D E : Type 0} (f : D → E) (does : Table → Table → D → D → Type 0) (other : Table → Table → E → E → Type 0)
    (one : (a b : Table) (d e : D) → does a b d e → other a b (f d) (f e)) where
  all_by : (a b : Table) (d e : D) (ms : List (Table × D)) → DoesAll does a d ms b e
      → DoesAll other a (f d) (map (λ (m : Table × D). (m.0, f m.1)) ms) b (f e)
  all_by a b d e [] h = (h.0, ap f h.1)
  all_by a b d e (m ∷ ms) h = (all_by a m.0 d m.1 ms h.0, one m.0 b m.1 e h.1)

  pub does_by : (a b : Table) (d e : D) → DoesSome does a d b e → DoesSome other a (f d) b (f e)
  does_by a b d e h = (map (λ (m : Table × D). (m.0, f m.1)) h.0, all_by a b d e h.0 h.1)

-- ---- where nothing is posted

module _ {D : Type 0} (users : Option Users) (connected : D → Result ℕ ConnectFault → D → Type 0)
    (called : ℕ → D → Question → Reply → D → Type 0) (left : ℕ → D → D → Type 0) where
  pub tends_none : (a b : Table) (d : D) → a ≡ b → Tends users connected called left a d b d
  tends_none a b d same = does_none (Does users connected called left) a b d d same refl

  tends_one : (a b : Table) (d e : D) → Does users connected called left a b d e → Tends users connected called left a d b e
  tends_one a b d e one = does_one (Does users connected called left) a b d e one

  pub tends_twice : (a b c : Table) (d e f : D) → Tends users connected called left a d b e → Tends users connected called left b e c f
      → Tends users connected called left a d c f
  tends_twice a b c d e f h k = does_twice (Does users connected called left) a b c d e f h k

  pub tends_thrice : (a b c t : Table) (d e f x : D) → Tends users connected called left a d b e → Tends users connected called left b e c f
      → Tends users connected called left c f t x → Tends users connected called left a d t x
  tends_thrice a b c t d e f x h k l = does_thrice (Does users connected called left) a b c t d e f x h k l

  -- a session was connected
  pub tends_connected : (a b : Table) (d e : D) (key : ℕ) (seat : Seat) → a key ≡ None
      → (seat.standing ≡ first_standing users) × (seat.login ≡ None)
      → connected d (Ok seat.session) e → Puts a b key (Some seat) → Tends users connected called left a d b e
  tends_connected a b d e key seat free first connects puts =
      tends_one a b d e (inl (record { key = key; seat = seat; free = free; first = first; connects = connects; puts = puts }))

  -- none was
  pub tends_refused : (a b : Table) (d e : D) (fault : ConnectFault) → connected d (Err fault) e → a ≡ b
      → Tends users connected called left a d b e
  tends_refused a b d e fault refuses same =
      tends_one a b d e (inr (inl (record { fault = fault; refuses = refuses; same = same })))

  -- a session was answered
  pub tends_answered : (a b : Table) (d e : D) (key : ℕ) (seat : Seat) → a key ≡ Some seat
      → HasAnswered seat.standing (called seat.session) d e → a ≡ b → Tends users connected called left a d b e
  tends_answered a b d e key seat has answered same =
      tends_one a b d e (inr (inr (inl (record {
        key = key;
        seat = seat;
        has = has;
        contents = answered.0;
        replies = answered.1;
        answers = answered.2;
        same = same;
      }))))

  -- a session was hung up
  pub tends_left : (a b : Table) (d e : D) (key : ℕ) (seat : Seat) → a key ≡ Some seat → left seat.session d e → Puts a b key None
      → Tends users connected called left a d b e
  tends_left a b d e key seat has leaves puts =
      tends_one a b d e (inr (inr (inr (inl (record { key = key; seat = seat; has = has; leaves = leaves; puts = puts })))))

  -- the loop asked something of its own accord
  pub tends_own : (a : Table) (d e : D) (content : List ℕ) (reply : Reply) → IsOwn content → Visits connected called left content d reply e
      → Tends users connected called left a d a e
  tends_own a d e content reply own visits =
      tends_one a a d e (inr (inr (inr (inr (inl (record { content = content; own = own; reply = reply; visits = visits; same = refl }))))))

  -- a part of a login, or nothing
  pub tends_login : (a b : Table) (d : D) → (a ≡ b) ⊎ LogsIn users a b → Tends users connected called left a d b d
  tends_login a b d (inl same) = tends_none a b d same
  tends_login a b d (inr one) = tends_one a b d d (inr (inr (inr (inr (inr (one, refl))))))

-- ---- where calls are posted

module _ {D : Type 0} (posts : ℕ → Request → D → D → Type 0) (users : Option Users)
    (connected : D → Result ℕ ConnectFault → D → Type 0) (called : ℕ → D → Question → Reply → D → Type 0) (left : ℕ → D → D → Type 0) where
  pub posting_none : (a b : Table) (d : D) → a ≡ b → TendsPosting posts users connected called left a d b d
  posting_none a b d same = does_none (DoesOrPosts posts users connected called left) a b d d same refl

  pub posting_twice : (a b c : Table) (d e f : D) → TendsPosting posts users connected called left a d b e
      → TendsPosting posts users connected called left b e c f → TendsPosting posts users connected called left a d c f
  posting_twice a b c d e f h k = does_twice (DoesOrPosts posts users connected called left) a b c d e f h k

  pub posting_thrice : (a b c t : Table) (d e f x : D) → TendsPosting posts users connected called left a d b e
      → TendsPosting posts users connected called left b e c f → TendsPosting posts users connected called left c f t x
      → TendsPosting posts users connected called left a d t x
  posting_thrice a b c t d e f x h k l = does_thrice (DoesOrPosts posts users connected called left) a b c t d e f x h k l

  -- nothing was posted
  pub posting_tended : (a b : Table) (d e : D) → Tends users connected called left a d b e → TendsPosting posts users connected called left a d b e
  posting_tended a b d e h =
      does_by (λ (x : D). x) (Does users connected called left) (DoesOrPosts posts users connected called left) (λ a b d e one. inl one) a b d e h

  -- a call was posted, or none
  pub posting_posted : (a b : Table) (d e : D) (key : ℕ) (seat : Seat) (asked : Option Request) → a key ≡ Some seat
      → ((q : Request) → asked ≡ Some q → may_ask seat.standing (Call q) ≡ true)
      → (e ≡ d) ⊎ IsSomeAnd asked (λ request. posts seat.session request d e) → a ≡ b
      → TendsPosting posts users connected called left a d b e
  posting_posted a b d e key seat asked has may (inl is) same =
      does_none (DoesOrPosts posts users connected called left) a b d e same (sym is)
  posting_posted a b d e key seat (Some request) has may (inr posted) same =
      does_one (DoesOrPosts posts users connected called left) a b d e
      (inr (record { key = key; seat = seat; has = has; request = request; may = may request refl; posted = posted; same = same }))
  posting_posted a b d e key seat None has may (inr posted) same = absurd posted

  -- of each seed's door
  pub have_tended : (is_settled : D → Type 0) (seeds : List (Seed D)) (doors : List D) (ended : List (Ended D)) → map (λ s. s.door) seeds ≡ doors
      → SeedsHaveTended posts users connected called left is_settled seeds ended
      → HaveTended posts users connected called left is_settled doors ended
  have_tended is_settled seeds doors ended is tended i d e lt =
      let within : i < length seeds = omega (arith, lt, ap (λ (xs : List D). length xs) is, length-map seeds (λ (s : Seed D). s.door)) in
      let seed : Seed D = one_of seeds i within in
      subst (λ (x : D). HasTended posts users connected called left is_settled x (get_or ended i e).door)
      (sym (at_map (λ (s : Seed D). s.door) seeds i seed d within) ∙ ap (λ (xs : List D). get_or xs i d) is) (tended i seed e within)
