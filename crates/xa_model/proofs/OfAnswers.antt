-- What holds of a state, and of what the way on leaves, holds of what the answer leaves.
use Rattle.std.proofs.Common.{◌≡◌, ℤ, Bool, true, false, cond, Option, Some, None, refl}
use Rattle.xa_frame.specs.declared.reply.Reply.{Reply}
use Rattle.xa_model.specs.State.{State}
use Rattle.xa_model.specs.Answer.{Answer, unless, marked}
use Rattle.xa_model.specs.Data.{if_late}

pub unless_after : (P : State → Type 0) (o : Option Reply) (s : State) (a : Answer) → P s → (o ≡ None → P a.after) → P (unless o s a).after
unless_after P None s a h k = k refl
unless_after P (Some reply) s a h k = h

pub marked_after : (P : State → Type 0) (o : Option ℤ) (left : State) (a : Answer) → P left → P a.after → P (marked o left a).after
marked_after P None left a h k = k
marked_after P (Some code) left a h k = h

pub cond_after : (P : State → Type 0) (c : Bool) (a b : Answer) → P a.after → P b.after → P (cond c a b).after
cond_after P true a b h k = h
cond_after P false a b h k = k

pub if_late_after : (P : State → Type 0) (late : Bool) (a b : Answer) → P a.after → (late ≡ false → P b.after) → P (if_late late a b).after
if_late_after P true a b h k = h
if_late_after P false a b h k = k refl
