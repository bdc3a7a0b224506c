-- What holds of each answer of a turn holds of the one that is taken.
use Rattle.std.proofs.Common.{◌≡◌, ℕ, ℤ, Bool, true, false, cond, Option, Some, None, refl, subst, ◌+◌}
use Rattle.std.specs.Prelude.{IfSome, nat_lt, option_and_then}
use Rattle.xa_frame.specs.declared.reply.Reply.{Reply}
use Rattle.xa_model.specs.declared.outcome.Outcome.{Outcome}
use Rattle.xa_model.specs.declared.outcome.Outcome.TheVariants.{Quiet, Appended, Joined, Failed, Reread}
use Rattle.xa_model.specs.declared.outcome.Appending.{Appending}
use Rattle.xa_model.specs.declared.outcome.Appending.TheVariants.{Kept, Refused, Lost}
use Rattle.xa_model.specs.State.{State, Standing, Up, Down, Ended}
use Rattle.xa_model.specs.Answer.{Answer, plain, answer, detailed}
use Rattle.xa_model.specs.Turn.{Turn, Nobody, Now, Appends, Checkpoints, Rereads, Joins, Rereading, Stops, Opens, going_on, taken, unless_now, marked_now}
use Rattle.xa_model.specs.Logging.{lost_too, down}
use Rattle.xa_model.specs.Step.{asked, or_joins}
use Rattle.xa_record.specs.declared.record.Record.{Record}
use Rattle.xa_model.specs.Restarting.{boot_became, restarting}
use Rattle.xa_limits.specs.declared.TheConstants.{MOST_BOOTS}
use Rattle.xa_codes.specs.declared.codes.TheConstants.{XAER_RMFAIL}
use Rattle.xa_record.specs.declared.record.Record.TheVariants as logged
use Rattle.xa_codes.specs.declared.detail.Detail.TheVariants as detail

abbrev pub AllOfReading : (Answer → Type 0) → Rereading → Type 0
AllOfReading Q (Stops a) = Q a
AllOfReading Q (Opens r after) = (x : Appending) → Q (after x)

abbrev pub AllOf : (Answer → Type 0) → Turn → Type 0
AllOf Q Nobody = Unit {0}
AllOf Q (Now a) = Q a
AllOf Q (Appends r after) = (x : Appending) → Q (after x)
AllOf Q (Checkpoints r after) = (x : Appending) → Q (after x)
AllOf Q (Rereads failed found) = Q failed × ((k : ℕ) → IfSome (found k) (AllOfReading Q))
AllOf Q (Joins refused r lost) = Q refused × Q lost

same_answer : (Q : Answer → Type 0) (a b : Answer) → Q a → Some a ≡ Some b → Q b
same_answer Q a b h e = let same : a ≡ b = cc e in subst Q same h

gone_on : (Q : Answer → Type 0) (x : Option Appending) (y : Rereading) (b : Answer) → AllOfReading Q y → going_on x y ≡ Some b → Q b
gone_on Q None (Stops a) b h e = same_answer Q a b h e
gone_on Q (Some x) (Stops a) b h e = absurd (cc e)
gone_on Q None (Opens r after) b h e = absurd (cc e)
gone_on Q (Some x) (Opens r after) b h e = same_answer Q (after x) b (h x) e

reread : (Q : Answer → Type 0) (x : Option Appending) (y : Option Rereading) (b : Answer) → IfSome y (AllOfReading Q)
    → option_and_then (going_on x) y ≡ Some b → Q b
reread Q x None b h e = absurd (cc e)
reread Q x (Some y) b h e = gone_on Q x y b h e

pub taken_all : (Q : Answer → Type 0) (t : Turn) (o : Outcome) (b : Answer) → AllOf Q t → taken t o ≡ Some b → Q b
taken_all Q Nobody o b h e = absurd (cc e)
taken_all Q (Now a) Quiet b h e = same_answer Q a b h e
taken_all Q (Now a) (Appended x) b h e = absurd (cc e)
taken_all Q (Now a) (Joined Kept) b h e = absurd (cc e)
taken_all Q (Now a) (Joined Refused) b h e = absurd (cc e)
taken_all Q (Now a) (Joined Lost) b h e = absurd (cc e)
taken_all Q (Now a) Failed b h e = absurd (cc e)
taken_all Q (Now a) (Reread k x) b h e = absurd (cc e)
taken_all Q (Appends r after) Quiet b h e = absurd (cc e)
taken_all Q (Appends r after) (Appended x) b h e = same_answer Q (after x) b (h x) e
taken_all Q (Appends r after) (Joined Kept) b h e = same_answer Q (after Kept) b (h Kept) e
taken_all Q (Appends r after) (Joined Refused) b h e = same_answer Q (after Refused) b (h Refused) e
taken_all Q (Appends r after) (Joined Lost) b h e = absurd (cc e)
taken_all Q (Appends r after) Failed b h e = absurd (cc e)
taken_all Q (Appends r after) (Reread k x) b h e = absurd (cc e)
taken_all Q (Checkpoints r after) Quiet b h e = absurd (cc e)
taken_all Q (Checkpoints r after) (Appended x) b h e = same_answer Q (after x) b (h x) e
taken_all Q (Checkpoints r after) (Joined Kept) b h e = absurd (cc e)
taken_all Q (Checkpoints r after) (Joined Refused) b h e = absurd (cc e)
taken_all Q (Checkpoints r after) (Joined Lost) b h e = absurd (cc e)
taken_all Q (Checkpoints r after) Failed b h e = absurd (cc e)
taken_all Q (Checkpoints r after) (Reread k x) b h e = absurd (cc e)
taken_all Q (Rereads failed found) Quiet b h e = absurd (cc e)
taken_all Q (Rereads failed found) (Appended x) b h e = absurd (cc e)
taken_all Q (Rereads failed found) (Joined Kept) b h e = absurd (cc e)
taken_all Q (Rereads failed found) (Joined Refused) b h e = absurd (cc e)
taken_all Q (Rereads failed found) (Joined Lost) b h e = absurd (cc e)
taken_all Q (Rereads failed found) Failed b h e = same_answer Q failed b h.0 e
taken_all Q (Rereads failed found) (Reread k x) b h e = reread Q x (found k) b (h.1 k) e
taken_all Q (Joins refused r lost) Quiet b h e = same_answer Q refused b h.0 e
taken_all Q (Joins refused r lost) (Appended x) b h e = absurd (cc e)
taken_all Q (Joins refused r lost) (Joined Kept) b h e = absurd (cc e)
taken_all Q (Joins refused r lost) (Joined Refused) b h e = absurd (cc e)
taken_all Q (Joins refused r lost) (Joined Lost) b h e = same_answer Q lost b h.1 e
taken_all Q (Joins refused r lost) Failed b h e = absurd (cc e)
taken_all Q (Joins refused r lost) (Reread k x) b h e = absurd (cc e)

pub asked_all : (Q : Answer → Type 0) (standing : Standing) (t : Turn) → AllOf Q t → AllOf Q (asked standing t)
asked_all Q Up t h = h
asked_all Q Down t h = h
asked_all Q Ended t h = tt

-- and of what is lost with a group
pub joins_all : (Q : Answer → Type 0) (s : State) (o : Option Record) (t : Turn) → AllOf Q t → ((r : Record) → o ≡ Some r → Q (lost_too s r))
    → AllOf Q (or_joins s o t)
joins_all Q s None t h lost = h
joins_all Q s (Some r) Nobody h lost = h
joins_all Q s (Some r) (Now a) h lost = (h, lost r refl)
joins_all Q s (Some r) (Appends q after) h lost = h
joins_all Q s (Some r) (Checkpoints q after) h lost = h
joins_all Q s (Some r) (Rereads failed found) h lost = h
joins_all Q s (Some r) (Joins refused q last) h lost = h

pub unless_all : (Q : Answer → Type 0) (o : Option Reply) (s : State) (t : Turn) → ((reply : Reply) → o ≡ Some reply → Q (answer reply s))
    → AllOf Q t
    → AllOf Q (unless_now o s t)
unless_all Q None s t h k = k
unless_all Q (Some reply) s t h k = h reply refl

pub marked_all : (Q : Answer → Type 0) (o : Option ℤ) (s : State) (t : Turn) → ((code : ℤ) → o ≡ Some code → Q (answer (plain code) s)) → AllOf Q t
    → AllOf Q (marked_now o s t)
marked_all Q None s t h k = k
marked_all Q (Some code) s t h k = h code refl

pub cond_all : (Q : Answer → Type 0) (c : Bool) (t u : Turn) → AllOf Q t → AllOf Q u → AllOf Q (cond c t u)
cond_all Q true t u h k = h
cond_all Q false t u h k = k

-- what holds where the record was kept, refused and lost holds whatever became of it
pub each_fate : (P : Appending → Type 0) → P Kept → P Refused → P Lost → (x : Appending) → P x
each_fate P kept refused lost Kept = kept
each_fate P kept refused lost Refused = refused
each_fate P kept refused lost Lost = lost

pub restarting_all : (Q : Answer → Type 0) (s : State) → Q (boot_became s (s.logged_boot + 1) Kept) → Q (boot_became s (s.logged_boot + 1) Refused)
    → Q (boot_became s (s.logged_boot + 1) Lost) → Q (answer (detailed XAER_RMFAIL detail.Limit) (down s)) → AllOfReading Q (restarting s)
restarting_all Q s kept refused lost stopped = by_boot (nat_lt s.logged_boot MOST_BOOTS)
  where
    by_boot : (c : Bool) → AllOfReading Q
        (cond c (Opens (logged.Opened (s.logged_boot + 1)) (boot_became s (s.logged_boot + 1))) (Stops (answer (detailed XAER_RMFAIL detail.Limit) (down s))))
    by_boot true = each_fate (λ x. Q (boot_became s (s.logged_boot + 1) x)) kept refused lost
    by_boot false = stopped
