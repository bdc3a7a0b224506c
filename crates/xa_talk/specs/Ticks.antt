-- A server is told moments over one connection, and its refusals are told on.
use Rattle.std.specs.Prelude.{ℕ, pos, ◌≡◌, ◌⊎◌, ◌-◌, ◌^◌, Bool, not, ◌&&◌, List, [], ◌∷◌, length, Option, Some, None, Result, Ok, Err, IsErrOf, MatchBool, codes, if◌then◌else◌}
use Rattle.std.specs.Ordering.{int_eq}
use Rattle.xa_codes.specs.declared.codes.TheConstants.{XAER_INVAL, XAER_RMFAIL}
use Rattle.xa_codes.specs.declared.detail.Detail.{Detail}
use Rattle.xa_codes.specs.declared.detail.Detail.TheVariants as detail
use Rattle.xa_frame.specs.Made.{plain}
use Rattle.xa_frame.specs.declared.question.Question.TheVariants.{Call}
use Rattle.xa_frame.specs.declared.reply.Reply.{Reply}
use Rattle.xa_frame.specs.declared.request.Request.TheVariants.{Tick}
use Rattle.xa_talk.specs.declared.fault.TalkFault.{TalkFault}
use Rattle.xa_talk.specs.declared.fault.TalkFault.TheVariants.{Connect}
use Rattle.xa_talk.specs.declared.tick_fault.TickFault.{TickFault}
use Rattle.xa_talk.specs.declared.tick_fault.TickFault.TheVariants.{Clock, Talk}
use Rattle.xa_talk.specs.Exchanges.{Exchanged}

-- a reply is a refusal, and the one before it wasn't the same
abbrev pub is_news : Reply → Reply → Bool
is_news last reply = not (int_eq reply.code (pos 0)) && not (int_eq reply.code last.code)

-- what a refusal of this code and detail comes to
abbrev pub refused_by : Detail → List ℕ
refused_by detail.Nothing = codes "clock went back"
refused_by _ = codes "tick refused"

abbrev pub text_of : Reply → List ℕ
text_of refusal =
    if int_eq refusal.code XAER_INVAL then refused_by refusal.detail
    else if int_eq refusal.code XAER_RMFAIL then codes "resource manager down"
    else codes "tick refused"

-- by what gives moments and tells refusals, over connections, with what was sent over one, and what can still be read from
-- it
module _ {T C : Type 0} (gives : T → Option ℕ → T → Type 0) (tells : T → Reply → T → Type 0)
    (sent left : C → Option (List ℕ)) where
  -- a refusal is told, if it is news
  abbrev pub Told : Reply → Reply → T → T → Type 0
  Told last reply ticker ticker' = MatchBool (is_news last reply) (tells ticker reply ticker') (ticker' ≡ ticker)

  -- A moment was given, and its request went over the connection. This reply came, and was told if it is news.
  pub record IsTick (last reply : Reply) (ticker ticker' : T) (c c' : C) : Type 0 where
    pub moment : ℕ
    pub between : T
    pub given : gives ticker (Some moment) between
    pub exchanged : Exchanged (Call (Tick moment)) (Ok reply) (sent c) (sent c') (left c) (left c')
    pub told : Told last reply between ticker'

  -- the same without an answer
  pub record IsUnanswered (end : Result Reply TalkFault) (ticker ticker' : T) (c c' : C) : Type 0 where
    pub moment : ℕ
    pub given : gives ticker (Some moment) ticker'
    pub exchanged : Exchanged (Call (Tick moment)) end (sent c) (sent c') (left c) (left c')

  -- by the end of a tick: it was answered, or no moment was given, or the connection didn't bring its answer
  abbrev pub TickEnds : Reply → Result Reply TickFault → T → T → C → C → Type 0
  TickEnds last (Ok reply) ticker ticker' c c' = IsTick last reply ticker ticker' c c'
  TickEnds last (Err Clock) ticker ticker' c c' = gives ticker None ticker' × (c' ≡ c)
  TickEnds last (Err (Talk fault)) ticker ticker' c c' = IsUnanswered (Err fault) ticker ticker' c c'

  -- this many ticks, one after the other, by their replies: each was answered before the next one was given
  abbrev pub AreTicks : Reply → List Reply → Reply → T → T → C → C → Type 0
  AreTicks first [] last ticker ticker' c c' = (last ≡ first) × (ticker' ≡ ticker) × (c' ≡ c)
  AreTicks first (reply ∷ replies) last ticker ticker' c c' =
      (next : T) × (over : C) × IsTick first reply ticker next c over × AreTicks reply replies last next ticker' over c'

  -- by the end of all, what became of the tick after this many: Ok, since there were 2^64 - 1
  abbrev pub NextEnds : {X : Type 0} → Reply → ℕ → Result X TickFault → T → T → C → C → Type 0
  NextEnds last n (Ok x) ticker ticker' c c' = (n ≡ 2 ^ 64 - 1) × (ticker' ≡ ticker) × (c' ≡ c)
  NextEnds last n (Err fault) ticker ticker' c c' = TickEnds last (Err fault) ticker ticker' c c'

  -- this many ticks over a connection, and the one that was the last
  pub record TickedOver {X : Type 0} (end : Result X TickFault) (ticker ticker' : T) : Type 0 where
    pub replies : List Reply
    pub last : Reply
    pub behind : T
    pub c : C
    pub c' : C
    pub c'' : C
    pub ticks : AreTicks (plain (pos 0)) replies last ticker behind c c'
    pub ended : NextEnds last (length replies) end behind ticker' c' c''

  -- the same, or no connection could be opened
  abbrev pub Ticked : {X : Type 0} → Result X TickFault → T → T → Type 0
  Ticked end ticker ticker' = (IsErrOf end (Talk Connect) × (ticker' ≡ ticker)) ⊎ TickedOver end ticker ticker'
