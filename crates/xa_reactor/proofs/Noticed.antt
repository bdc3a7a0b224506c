-- What is said of whatever there is under a key.
use Rattle.std.proofs.Common.{◌≡◌, ◌∙◌, Bool, true, false, List, [], ◌∷◌, Option, Some, None, ap, arith, length, refl, subst, sym}
use Rattle.std.specs.Prelude.{◌==◌, ◌||◌, MatchBool, MatchOption, not}
use Rattle.mio.specs.declared.event.event.Event.{Event}
use Rattle.mio.specs.declared.token.Token.{Token}
use Rattle.xa_reactor.specs.Peers.{key_of, tells_of}
use Rattle.xa_reactor.specs.declared.peer.Peer.{Peer}

-- there is nothing
pub on_none : {A : Type 0} (none : Type 0) (some : A → Type 0) (slot : Option A) → slot ≡ None → none → MatchOption slot none some
on_none none some slot is h = subst (λ s. MatchOption s none some) (sym is) h

-- there is this
pub on_some : {A : Type 0} (none : Type 0) (some : A → Type 0) (slot : Option A) (x : A) → slot ≡ Some x → some x
    → MatchOption slot none some
on_some none some slot x is h = subst (λ s. MatchOption s none some) (sym is) h

-- the same of what was said
pub of_some : {A : Type 0} (none : Type 0) (some : A → Type 0) (slot : Option A) (x : A) → slot ≡ Some x
    → MatchOption slot none some → some x
of_some none some slot x is h = subst (λ s. MatchOption s none some) is h

queued : (stays turns : Type 0) (b : Bool) → true ≡ not b → turns → MatchBool b stays turns
queued stays turns true is h = absurd (cc is)
queued stays turns false is h = h

still : (stays turns : Type 0) (b : Bool) → false ≡ not b → stays → MatchBool b stays turns
still stays turns true is h = h
still stays turns false is h = absurd (cc is)

-- an event told of it, by what is known of it then
module _ (none : Type 0) (stays turns known : Peer → Type 0) (gone : Type 0) where
  -- it was put into the queue
  pub puts : (slot : Option Peer) → MatchOption slot ((true ≡ false) × gone) (λ p. (true ≡ not p.is_queued) × known p)
      → ((p : Peer) → known p → turns p) → MatchOption slot none (λ p. MatchBool p.is_queued (stays p) (turns p))
  puts None h turn = absurd (cc h.0)
  puts (Some p) h turn = queued (stays p) (turns p) p.is_queued h.0 (turn p h.1)

  -- it wasn't
  pub stays_out : (slot : Option Peer) → MatchOption slot ((false ≡ false) × gone) (λ p. (false ≡ not p.is_queued) × known p)
      → (gone → none) → ((p : Peer) → known p → stays p) → MatchOption slot none (λ p. MatchBool p.is_queued (stays p) (turns p))
  stays_out None h out stay = out h.1
  stays_out (Some p) h out stay = still (stays p) (turns p) p.is_queued h.0 (stay p h.1)

-- ---- whether one of some events has a token

or_three : (a b c : Bool) → ((a || b) || c) ≡ (a || (b || c))
or_three true b c = refl
or_three false b c = refl

-- one more was seen
pub told_more : (token : Token) (a b all : Bool) (event : Event) (events rest : List Event) → events ≡ event ∷ rest
    → b ≡ (key_of event == token.0) → (a || tells_of token events) ≡ all → ((a || b) || tells_of token rest) ≡ all
told_more token a b all event events rest is one was =
    or_three a b (tells_of token rest)
    ∙ (ap (λ (x : Bool). a || (x || tells_of token rest)) one ∙ (ap (λ (es : List Event). a || tells_of token es) (sym is) ∙ was))

pub none_left : {A : Type 0} (xs : List A) → length xs ≡ 0 → xs ≡ []
none_left [] h = refl
none_left (x ∷ xs) h = absurd (omega (arith, h))

or_none : (a : Bool) → (a || false) ≡ a
or_none true = refl
or_none false = refl

-- all were
pub told_all : (token : Token) (a all : Bool) (events : List Event) → length events ≡ 0 → (a || tells_of token events) ≡ all → a ≡ all
told_all token a all events none was =
    sym (or_none a) ∙ (ap (λ (es : List Event). a || tells_of token es) (sym (none_left events none)) ∙ was)
