-- What a loop does that nobody's login matters for, one thing after the other.
use Rattle.std.proofs.Common.{◌≡◌, ℕ, Bool, true, List, All, Option, Some, None, Result, Ok, Err, ◌⊎◌}
use Rattle.std.specs.Prelude.{IsSomeAnd}
use Rattle.slab.specs.Slab.{Slab}
use Rattle.xa_assoc.specs.declared.fault.ConnectFault.{ConnectFault}
use Rattle.xa_frame.specs.declared.question.Question.{Question}
use Rattle.xa_frame.specs.declared.question.Question.TheVariants.{Call}
use Rattle.xa_frame.specs.declared.reply.Reply.{Reply}
use Rattle.xa_frame.specs.declared.request.Request.{Request}
use Rattle.xa_roles.specs.Believed.Roles.{may_ask}
use Rattle.xa_reactor.specs.declared.ask.Ask.{Ask}
use Rattle.xa_reactor.specs.declared.peer.Peer.{Peer}
use Rattle.xa_reactor.specs.declared.trimming.TheConstants.{TRIM}
use Rattle.xa_reactor.specs.Aside.{IsAside}
use Rattle.xa_reactor.specs.Asking.{IsLent, TellsSome}
use Rattle.xa_reactor.specs.Reception.{KeepsSettled}
use Rattle.xa_reactor.specs.Turning.{HasAnswered}
use Rattle.xa_reactor.specs.Believed.Tending.{Puts, Seat, Table, sessions_of}
use Rattle.xa_reactor.specs.ForAll.{PostsForAll, TendsForAll}
use Rattle.xa_reactor.proofs.Aside.{tends_aside}
use Rattle.xa_reactor.proofs.Asking.{tends_turned}
use Rattle.xa_reactor.proofs.Doing.{posting_none, posting_posted, posting_tended, posting_thrice, posting_twice, tends_answered, tends_left, tends_none, tends_thrice, tends_twice}
use Rattle.xa_reactor.proofs.Settled.{still_settled}

module _ {D : Type 0} (connected : D → Result ℕ ConnectFault → D → Type 0) (called : ℕ → D → Question → Reply → D → Type 0)
    (left : ℕ → D → D → Type 0) where
  pub all_none : (a b : Table) (d : D) → a ≡ b → TendsForAll connected called left a d b d
  all_none a b d same = λ users. tends_none users connected called left a b d same

  pub all_twice : (a b c : Table) (d e f : D) → TendsForAll connected called left a d b e → TendsForAll connected called left b e c f
      → TendsForAll connected called left a d c f
  all_twice a b c d e f h k = λ users. tends_twice users connected called left a b c d e f (h users) (k users)

  pub all_thrice : (a b c t : Table) (d e f x : D) → TendsForAll connected called left a d b e → TendsForAll connected called left b e c f
      → TendsForAll connected called left c f t x → TendsForAll connected called left a d t x
  all_thrice a b c t d e f x h k l = λ users. tends_thrice users connected called left a b c t d e f x (h users) (k users) (l users)

  pub all_answered : (a b : Table) (d e : D) (key : ℕ) (seat : Seat) → a key ≡ Some seat
      → HasAnswered seat.standing (called seat.session) d e → a ≡ b → TendsForAll connected called left a d b e
  all_answered a b d e key seat has answered same = λ users. tends_answered users connected called left a b d e key seat has answered same

  pub all_left : (a b : Table) (d e : D) (key : ℕ) (seat : Seat) → a key ≡ Some seat → left seat.session d e → Puts a b key None
      → TendsForAll connected called left a d b e
  all_left a b d e key seat has leaves puts = λ users. tends_left users connected called left a b d e key seat has leaves puts

  pub all_aside : (peers : Slab Peer) (d e : D) → IsAside connected called left TRIM d e
      → TendsForAll connected called left (sessions_of peers) d (sessions_of peers) e
  all_aside peers d e aside = λ users. tends_aside users connected called left peers d e aside

  pub all_turned : (table : Table) (asks told : List Ask) (d e : D) → All (IsLent table) asks → TellsSome called d asks told e
      → TendsForAll connected called left table d table e
  all_turned table asks told d e lent tells = λ users. tends_turned called users connected left table asks told d e lent tells

  pub settled_by_all : (is_settled : D → Type 0) → KeepsSettled connected called left is_settled → (a b : Table) (d e : D)
      → TendsForAll connected called left a d b e → is_settled d → is_settled e
  settled_by_all is_settled keeps a b d e tends settled = still_settled None connected called left is_settled keeps a b d e (tends None) settled

  -- ---- where calls are posted

  module _ (posts : ℕ → Request → D → D → Type 0) where
    pub all_posting_none : (a b : Table) (d : D) → a ≡ b → PostsForAll connected called left posts a d b d
    all_posting_none a b d same = λ users. posting_none posts users connected called left a b d same

    pub all_posting_twice : (a b c : Table) (d e f : D) → PostsForAll connected called left posts a d b e
        → PostsForAll connected called left posts b e c f → PostsForAll connected called left posts a d c f
    all_posting_twice a b c d e f h k = λ users. posting_twice posts users connected called left a b c d e f (h users) (k users)

    pub all_posting_thrice : (a b c t : Table) (d e f x : D) → PostsForAll connected called left posts a d b e
        → PostsForAll connected called left posts b e c f → PostsForAll connected called left posts c f t x
        → PostsForAll connected called left posts a d t x
    all_posting_thrice a b c t d e f x h k l =
        λ users. posting_thrice posts users connected called left a b c t d e f x (h users) (k users) (l users)

    pub all_posting_tended : (a b : Table) (d e : D) → TendsForAll connected called left a d b e
        → PostsForAll connected called left posts a d b e
    all_posting_tended a b d e h = λ users. posting_tended posts users connected called left a b d e (h users)

    pub all_posting_posted : (a b : Table) (d e : D) (key : ℕ) (seat : Seat) (asked : Option Request) → a key ≡ Some seat
        → ((q : Request) → asked ≡ Some q → may_ask seat.standing (Call q) ≡ true)
        → (e ≡ d) ⊎ IsSomeAnd asked (λ request. posts seat.session request d e) → a ≡ b
        → PostsForAll connected called left posts a d b e
    all_posting_posted a b d e key seat asked has may posted same =
        λ users. posting_posted posts users connected called left a b d e key seat asked has may posted same
