-- A server is asked to end over one connection.
use Rattle.std.specs.Prelude.{ℕ, ◌≡◌, ◌⊎◌, List, Option, Some, None, Result, Ok, Err, IsErrOf, MatchResult}
use Rattle.xa_frame.specs.declared.question.Question.TheVariants.{Status as AsksStatus}
use Rattle.xa_frame.specs.declared.reply.Reply.{Reply}
use Rattle.xa_talk.specs.declared.shutdown_fault.ShutdownFault.{ShutdownFault}
use Rattle.xa_talk.specs.declared.shutdown_fault.ShutdownFault.TheVariants.{Refused, Talk}
use Rattle.xa_talk.specs.declared.fault.TalkFault.{TalkFault}
use Rattle.xa_talk.specs.declared.fault.TalkFault.TheVariants.{Connect}
use Rattle.xa_talk.specs.Exchanges.{Asked, Exchanged, shutdown_frame}

-- what a server did that was asked to end: one that replies goes on
abbrev pub shutdown_end : Result (Option Reply) TalkFault → Result (Unit {0}) ShutdownFault
shutdown_end (Ok None) = Ok tt
shutdown_end (Ok (Some reply)) = Err Refused
shutdown_end (Err fault) = Err (Talk fault)

-- over connections, with what was sent over one, and what can still be read from it
module _ {C : Type 0} (sent left : C → Option (List ℕ)) where
  -- it was asked over a connection
  abbrev pub Stops : C → Result (Unit {0}) ShutdownFault → C → Type 0
  Stops c end c' =
      (asked : Result (Option Reply) TalkFault) × (end ≡ shutdown_end asked)
      × Asked shutdown_frame asked (sent c) (sent c') (left c) (left c')

  -- It was asked over a connection on which it had told how it was doing; or it didn't tell that, or no connection could be
  -- opened.
  abbrev pub ShutsDown : Result (Unit {0}) ShutdownFault → Type 0
  ShutsDown end =
      IsErrOf end (Talk Connect)
      ⊎ ((c : C) × (c' : C) × (told : Result Reply TalkFault)
      × Exchanged AsksStatus told (sent c) (sent c') (left c) (left c')
      × MatchResult told (λ _. (c'' : C) × Stops c' end c'') (λ fault. end ≡ Err (Talk fault)))
