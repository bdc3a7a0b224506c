-- It is asked whether a task is to be done, and what follows.
use Rattle.std.proofs.Common.{◌≡◌, ℕ, Bool, List, [], Option, Result, Ok, Err, IsErrOf, refl, sym, subst, append-nil, inl, inr}
use Rattle.std.specs.Io.KnownBytes.{Appends}
use Rattle.xa_output.specs.Output.{IsFront}
use Rattle.xa_talk.specs.Talks.{IsReadFault, ReadsPart}
use Rattle.xa_talk.specs.declared.fault.TalkFault.{TalkFault}
use Rattle.xa_talk.specs.declared.fault.TalkFault.TheVariants.{Broken, Connect, Memory, NoReply, Read, Refused, Write}
use Rattle.xa_operate.specs.Confirms.{Confirms, Goes, IsUntold, Told}
use Rattle.xa_operate.specs.Courses.{Operates}
use Rattle.xa_operate.specs.Previews.{preview_of, question_text}
use Rattle.xa_operate.specs.declared.fault.OperateFault.{OperateFault}
use Rattle.xa_operate.specs.declared.fault.OperateFault.TheVariants.{Talk}
use Rattle.xa_operate.specs.declared.format.Format.{Format}
use Rattle.xa_operate.specs.declared.format.Format.TheVariants.{Text}
use Rattle.xa_operate.specs.declared.task.Task.{Task}

read_untold : (fault : TalkFault) → IsReadFault fault → IsUntold (Talk fault)
read_untold Read h = tt
read_untold Memory h = tt
read_untold Write h = absurd h
read_untold Connect h = absurd h
read_untold Broken h = absurd h
read_untold NoReply h = absurd h
read_untold Refused h = absurd h

-- the question couldn't be written
pub unwritten : (task : Task) (fault : OperateFault) (text : List ℕ) (input input' errors errors' : Option (List ℕ)) → fault ≡ Talk Write
    → text ≡ question_text task → ((part : List ℕ) × IsFront part text × Appends errors errors' part) → ReadsPart input input'
    → Told task (Err fault) input input' errors errors'
unwritten task fault text input input' errors errors' is same (part, front, written) reads = (
  subst IsUntold (sym is) tt,
  (part, subst (λ (t : List ℕ). IsFront part t) same front, written),
  reads,
)

-- it was, but its answer couldn't be read
pub unread : (task : Task) (fault : TalkFault) (text : List ℕ) (input input' errors errors' : Option (List ℕ)) → IsReadFault fault
    → text ≡ question_text task → Appends errors errors' text → ReadsPart input input'
    → Told task (Err (Talk fault)) input input' errors errors'
unread task fault text input input' errors errors' failed same written reads = (
  read_untold fault failed,
  (text, subst (λ (t : List ℕ). IsFront text t) same ([], sym (append-nil text)), written),
  reads,
)

module _ {C X : Type 0} (format : Format) (task : Task) (sent left : C → Option (List ℕ)) (name : List ℕ) (end : Result X OperateFault)
    (look : Task) (same : look ≡ preview_of task) (input input' errors errors' output output' : Option (List ℕ)) where
  -- what it is about couldn't be shown
  pub unseen : (fault : OperateFault) → IsErrOf end fault → Operates Text look sent left {X = Unit {0}} name (Err fault) errors errors'
      → Confirms format task sent left name end input input errors errors' output output
  unseen fault is looked =
      inl (fault, is, subst (λ (t : Task). Operates Text t sent left {X = Unit {0}} name (Err fault) errors errors') same looked, refl, refl)

  -- it was
  pub seen : (shown : Option (List ℕ)) (told : Result Bool OperateFault) → Operates Text look sent left {X = Unit {0}} name (Ok tt) errors shown
      → Told task told input input' shown errors' → Goes format task sent left name told end output output'
      → Confirms format task sent left name end input input' errors errors' output output'
  seen shown told looked answered goes =
      inr (shown, told, subst (λ (t : Task). Operates Text t sent left {X = Unit {0}} name (Ok tt) errors shown) same looked, answered, goes)
