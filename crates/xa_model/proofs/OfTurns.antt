-- What holds of a turn that is answered at once or appends a record: of the answer, or of the record and what becomes of it.
use Rattle.std.proofs.Common.{ℤ, Bool, true, false, cond, Option, Some, None}
use Rattle.xa_frame.specs.declared.reply.Reply.{Reply}
use Rattle.xa_record.specs.declared.record.Record.{Record}
use Rattle.xa_model.specs.declared.outcome.Appending.{Appending}
use Rattle.xa_model.specs.State.{State}
use Rattle.xa_model.specs.Answer.{Answer, plain, answer}
use Rattle.xa_model.specs.Turn.{Turn, Now, Appends, unless_now, marked_now}

abbrev pub OfTurn : (Answer → Type 0) → (Record → (Appending → Answer) → Type 0) → Turn → Type 0
OfTurn Q P (Now a) = Q a
OfTurn Q P (Appends r after) = P r after
OfTurn Q P _ = ⊥

pub unless_turn : (Q : Answer → Type 0) (P : Record → (Appending → Answer) → Type 0) (o : Option Reply) (s : State) (t : Turn)
    → ((reply : Reply) → Q (answer reply s)) → OfTurn Q P t → OfTurn Q P (unless_now o s t)
unless_turn Q P None s t h k = k
unless_turn Q P (Some reply) s t h k = h reply

pub marked_turn : (Q : Answer → Type 0) (P : Record → (Appending → Answer) → Type 0) (o : Option ℤ) (left : State) (t : Turn)
    → ((code : ℤ) → Q (answer (plain code) left)) → OfTurn Q P t → OfTurn Q P (marked_now o left t)
marked_turn Q P None left t h k = k
marked_turn Q P (Some code) left t h k = h code

pub cond_turn : (Q : Answer → Type 0) (P : Record → (Appending → Answer) → Type 0) (c : Bool) (t u : Turn) → OfTurn Q P t → OfTurn Q P u
    → OfTurn Q P (cond c t u)
cond_turn Q P true t u h k = h
cond_turn Q P false t u h k = k

-- of the record alone

abbrev pub OfAppend : (Record → (Appending → Answer) → Type 0) → Turn → Type 0
OfAppend P t = OfTurn (λ a. Unit {0}) P t

pub unless_append : (P : Record → (Appending → Answer) → Type 0) (o : Option Reply) (s : State) (t : Turn) → OfAppend P t
    → OfAppend P (unless_now o s t)
unless_append P o s t h = unless_turn (λ a. Unit {0}) P o s t (λ reply. tt) h

pub marked_append : (P : Record → (Appending → Answer) → Type 0) (o : Option ℤ) (left : State) (t : Turn) → OfAppend P t
    → OfAppend P (marked_now o left t)
marked_append P o left t h = marked_turn (λ a. Unit {0}) P o left t (λ code. tt) h

pub cond_append : (P : Record → (Appending → Answer) → Type 0) (c : Bool) (t u : Turn) → OfAppend P t → OfAppend P u → OfAppend P (cond c t u)
cond_append P c t u h k = cond_turn (λ a. Unit {0}) P c t u h k
