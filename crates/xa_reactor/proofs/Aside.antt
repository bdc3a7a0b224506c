-- What a loop does beside its connections, of its own accord.
use Rattle.std.proofs.Common.{◌≡◌, ℕ, List, [], Option, Result, Ok, Err, refl, inl, inr}
use Rattle.slab.specs.Slab.{Slab}
use Rattle.xa_assoc.specs.declared.fault.ConnectFault.{ConnectFault}
use Rattle.xa_frame.specs.declared.reply.Reply.{Reply}
use Rattle.xa_frame.specs.declared.question.Question.{Question}
use Rattle.xa_users.specs.declared.users.Users.{Users}
use Rattle.xa_reactor.specs.declared.peer.Peer.{Peer}
use Rattle.xa_reactor.specs.declared.trimming.TheConstants.{TRIM}
use Rattle.xa_reactor.specs.Aside.{HasVisited, IsAside}
use Rattle.xa_reactor.specs.Ticks.{IsTimed}
use Rattle.xa_reactor.specs.Believed.Tending.{IsOwn, Table, Tends, sessions_of}
use Rattle.xa_reactor.proofs.Doing.{tends_own, tends_refused}

module _ {D : Type 0} (users : Option Users) (connected : D → Result ℕ ConnectFault → D → Type 0)
    (called : ℕ → D → Question → Reply → D → Type 0) (left : ℕ → D → D → Type 0) where
  visits : (table : Table) (content : List ℕ) (answered : Result Reply ConnectFault) (d e : D) → IsOwn content
      → HasVisited connected called left content d answered e → Tends users connected called left table d table e
  visits table content (Ok reply) d e own visited = tends_own users connected called left table d e content reply own visited
  visits table content (Err fault) d e own refused = tends_refused users connected called left table table d e fault refused refl

  tends_same : (table : Table) (d e : D) → d ≡ e → Tends users connected called left table d table e
  tends_same table d e is = ([], (refl, is))

  pub tends_aside : (peers : Slab Peer) (d e : D) → IsAside connected called left TRIM d e
      → Tends users connected called left (sessions_of peers) d (sessions_of peers) e
  tends_aside peers d e (inl same) = tends_same (sessions_of peers) d e same
  tends_aside peers d e (inr (answered, visited)) = visits (sessions_of peers) TRIM answered d e (inl refl) visited

  pub tends_timed : (peers : Slab Peer) (d e : D) → IsTimed connected called left d e
      → Tends users connected called left (sessions_of peers) d (sessions_of peers) e
  tends_timed peers d e (inl same) = tends_same (sessions_of peers) d e same
  tends_timed peers d e (inr told) =
      visits (sessions_of peers) told.content told.answered d e (inr (told.moment, told.spells)) told.visited
