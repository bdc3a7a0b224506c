-- What a loop does that nobody's login matters for: the same whoever may log in.
use Rattle.std.specs.Prelude.{ℕ, Option, Result}
use Rattle.xa_assoc.specs.declared.fault.ConnectFault.{ConnectFault}
use Rattle.xa_frame.specs.declared.question.Question.{Question}
use Rattle.xa_frame.specs.declared.reply.Reply.{Reply}
use Rattle.xa_frame.specs.declared.request.Request.{Request}
use Rattle.xa_users.specs.declared.users.Users.{Users}
use Rattle.slab.specs.Slab.{Slab}
use Rattle.xa_reactor.specs.declared.peer.Peer.{Peer}
use Rattle.xa_reactor.specs.Believed.Tending.{Table, Tends, TendsPosting, sessions_of}

module _ {D : Type 0} (connected : D → Result ℕ ConnectFault → D → Type 0) (called : ℕ → D → Question → Reply → D → Type 0)
    (left : ℕ → D → D → Type 0) where
  abbrev pub TendsForAll : Table → D → Table → D → Type 0
  TendsForAll old d new e = (users : Option Users) → Tends users connected called left old d new e

  abbrev pub PostsForAll : (ℕ → Request → D → D → Type 0) → Table → D → Table → D → Type 0
  PostsForAll posts old d new e = (users : Option Users) → TendsPosting posts users connected called left old d new e

  -- of these connections, and the door, it leads to those
  abbrev pub PeersTend : Slab Peer → D → Slab Peer → D → Type 0
  PeersTend old d new e = TendsForAll (sessions_of old) d (sessions_of new) e

  abbrev pub PeersTendAs : Option Users → Slab Peer → D → Slab Peer → D → Type 0
  PeersTendAs users old d new e = Tends users connected called left (sessions_of old) d (sessions_of new) e
