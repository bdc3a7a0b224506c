-- A restart that no session asked for is one that a session asks for.
use Rattle.std.proofs.Common.{◌≡◌, ℕ, zero, suc, ◌+◌, ◌≤◌, ◌==◌, Bool, true, false, not, cond, List, [], ◌∷◌, Option, Some, None, refl, ap, sym, ◌∙◌, subst, arith}
use Rattle.std.specs.Prelude.{filter, map, option_map, option_and_then, nat_lt, IfSome}
use Rattle.std.proofs.lemmas.Bool.{and_parts}
use Rattle.std.proofs.lemmas.Bool.Decides.{nat_tests}
use Rattle.xa_codes.specs.declared.codes.TheConstants.{XAER_RMFAIL, XA_RBCOMMFAIL}
use Rattle.xa_codes.specs.declared.detail.Detail.TheVariants as detail
use Rattle.xa_frame.specs.declared.request.Request.TheVariants.{Restart}
use Rattle.xa_record.specs.declared.record.Record.{Record}
use Rattle.xa_record.specs.declared.record.Record.TheVariants as logged
use Rattle.xa_limits.specs.declared.TheConstants.{MOST_BOOTS}
use Rattle.xa_model.specs.declared.outcome.Outcome.{Outcome}
use Rattle.xa_model.specs.declared.outcome.Outcome.TheVariants.{Quiet, Appended, Joined, Failed, Reread}
use Rattle.xa_model.specs.declared.outcome.Appending.{Appending}
use Rattle.xa_model.specs.declared.outcome.Appending.TheVariants.{Kept, Refused, Lost}
use Rattle.xa_model.specs.State.{State, Session, Branch, Phase, Working, Prepared, Committed, Association, Standing, Up, Down, Ended, count, owns, session_of, new_session}
use Rattle.xa_model.specs.Answer.{Answer, answer, detailed, ok}
use Rattle.xa_model.specs.Associations.{connect_by, hang_up_by, is_of_session, is_worked_by, left_behind, with_mark}
use Rattle.xa_model.specs.Early.{early_refusal, Context}
use Rattle.xa_model.specs.History.{Leads}
use Rattle.xa_model.specs.Logging.{applied, down, supposed}
use Rattle.xa_model.specs.Restarting.{boot_became, looked, restart_turn, restarting, with_first}
use Rattle.xa_model.specs.Laws.Restarts.{asks, comes, goes, restart_entries, RestartLeads, RestartHappens}
use Rattle.xa_model.specs.Step.{asked, is_up, opened_of, context_of}
use Rattle.xa_model.specs.Turn.{Turn, Now, Stops, Opens, going_on, taken, unless_now}
use Rattle.xa_model.specs.declared.event.Event.TheVariants as event
use Rattle.xa_model.proofs.AppliedAll.{applied_changes, applied_rest, if_imply}
use Rattle.xa_model.proofs.Further.{quiet_turn, passing_none}
use Rattle.xa_model.proofs.Counts.{count_less}
use Rattle.xa_model.proofs.Leaving.{none_counted}

-- where nobody passes, nobody leaves

nobody_by : {A : Type 0} (p : A → Bool) (x : A) (xs ys : List A) (c : Bool) → cond c 1 0 + count p xs ≡ 0 → (count p xs ≡ 0 → ys ≡ xs) → cond (not c) (x ∷ ys) ys ≡ x ∷ xs
nobody_by {A = A} p x xs ys true none rest = absurd (omega arith)
nobody_by {A = A} p x xs ys false none rest = let here : count p xs ≡ 0 = omega arith in ap (λ (l : List A). x ∷ l) (rest here)

nobody_leaves : {A : Type 0} (p : A → Bool) (xs : List A) → count p xs ≡ 0 → filter (λ x. not (p x)) xs ≡ xs
nobody_leaves p [] none = refl
nobody_leaves p (x ∷ xs) none = nobody_by p x xs (filter (λ y. not (p y)) xs) (p x) none (nobody_leaves p xs)

-- and no branch is marked

owned_by : (held : List Association) (n : ℕ) (p : Phase) → count (is_of_session n) held ≡ 0 → is_worked_by held n p ≡ false
owned_by held n (Working xid work) none =
    let fewer : count (owns n xid) held ≤ count (is_of_session n) held = count_less (owns n xid) (is_of_session n) (λ a is. (and_parts (is_of_session n a) _ is).0) held in
    let zero : count (owns n xid) held ≡ 0 = omega arith in
    none_counted (owns n xid) held zero
owned_by held n (Prepared xid) none = refl
owned_by held n Committed none = refl

unmarked_by : (b : Branch) (c : Bool) → c ≡ false → cond c (with_mark XA_RBCOMMFAIL b) b ≡ b
unmarked_by b true e = absurd (cc e)
unmarked_by b false e = refl

all_same : (f : Branch → Branch) → ((b : Branch) → f b ≡ b) → (bs : List Branch) → map f bs ≡ bs
all_same f same [] = refl
all_same f same (b ∷ bs) = rw (same b, all_same f same bs) refl

-- a session that came and goes

abbrev among : List Session → State → State
among xs s = record s { sessions = xs }

abbrev one : Session
one = new_session 1

abbrev with_one : State → State
with_one s = among (one ∷ []) s

same_state : (s : State) (xs : List Session) (held : List Association) (bs : List Branch) → xs ≡ s.sessions → held ≡ s.associations → bs ≡ s.branches
    → record s { sessions = xs; associations = held; branches = bs } ≡ s
same_state s xs held bs d e f = rw (d, e, f) refl

left_alone : (s : State) → s.sessions ≡ [] → count (is_of_session 1) s.associations ≡ 0 → hang_up_by (with_one s) 1 ≡ ok s
left_alone s none free =
    ap ok
    (same_state s [] (filter (λ a. not (is_of_session 1 a)) s.associations) (map (left_behind s.associations 1) s.branches) (sym none)
    (nobody_leaves (is_of_session 1) s.associations free)
    (all_same (left_behind s.associations 1) (λ b. unmarked_by b (is_worked_by s.associations 1 b.phase) (owned_by s.associations 1 b.phase free)) s.branches))

-- a restart beside it

record WithOne (a : Answer) (o : Option Answer) : Type 0 where
  same : o ≡ Some (answer a.reply (with_one a.after))
  alone : a.after.sessions ≡ []
  free : count (is_of_session 1) a.after.associations ≡ 0
  answers : a.after.standing ≡ Ended → ⊥

abbrev BothWays : Option Answer → Option Answer → Type 0
BothWays o p = IfSome o (λ a. WithOne a p)

boots_by : (s : State) (x : Option Appending) (boot : ℕ) (c : Bool) → count (is_of_session 1) s.associations ≡ 0
    → BothWays
    (going_on x (cond c (Opens (logged.Opened boot) (boot_became (among [] s) boot)) (Stops (answer (detailed XAER_RMFAIL detail.Limit) (down (among [] s))))))
    (going_on x (cond c (Opens (logged.Opened boot) (boot_became (with_one s) boot)) (Stops (answer (detailed XAER_RMFAIL detail.Limit) (down (with_one s))))))
boots_by s None boot true free = tt
boots_by s None boot false free = record { same = refl; alone = refl; free = free; answers = λ e. absurd (cc e) }
boots_by s (Some x) boot false free = tt
boots_by s (Some Kept) boot true free = record { same = refl; alone = refl; free = refl; answers = λ e. absurd (cc e) }
boots_by s (Some Refused) boot true free = record { same = refl; alone = refl; free = free; answers = λ e. absurd (cc e) }
boots_by s (Some Lost) boot true free = record { same = refl; alone = refl; free = free; answers = λ e. absurd (cc e) }

boots : (s : State) (x : Option Appending) → count (is_of_session 1) s.associations ≡ 0 → BothWays (going_on x (restarting (among [] s))) (going_on x (restarting (with_one s)))
boots s x free = boots_by s x (s.logged_boot + 1) (nat_lt s.logged_boot MOST_BOOTS) free

applied_among : (xs : List Session) (s : State) (r : Record) → applied r (among xs s) ≡ among xs (applied r s)
applied_among xs s r = applied_rest (among xs s) s r ∙ sym (ap (among xs) (applied_rest s s r))

applied_held : (s : State) (r : Record) → (applied r s).associations ≡ s.associations
applied_held s r = ap (λ (t : State). t.associations) (applied_changes s r)

first_among : (k : ℕ) (rs : List Record) (xs : List Session) (s : State) → with_first k rs (among xs s) ≡ option_map (among xs) (with_first k rs s)
first_among zero rs xs s = refl
first_among (suc k) [] xs s = refl
first_among (suc k) (r ∷ rs) xs s = ap (with_first k rs) (applied_among xs s r) ∙ first_among k rs xs (applied r s)

first_held : (k : ℕ) (rs : List Record) (s : State) → IfSome (with_first k rs s) (λ t. t.associations ≡ s.associations)
first_held zero rs s = refl
first_held (suc k) [] s = tt
first_held (suc k) (r ∷ rs) s =
    if_imply (λ (t : State). t.associations ≡ (applied r s).associations) (λ t. t.associations ≡ s.associations) (λ t e. e ∙ applied_held s r)
    (with_first k rs (applied r s)) (first_held k rs (applied r s))

-- what goes on once the first of the open records are found
abbrev reread : Option Appending → Option State → Option Answer
reread x o = option_and_then (going_on x) (option_map restarting (option_map looked o))

survives : (s : State) (k : ℕ) (x : Option Appending) → count (is_of_session 1) s.associations ≡ 0
    → BothWays (reread x (with_first k s.open_records (among [] s))) (reread x (with_first k s.open_records (with_one s)))
survives s k x free =
    subst (λ (o : Option State). BothWays (reread x o) (reread x (with_first k s.open_records (with_one s)))) (sym (first_among k s.open_records [] s))
    (subst (λ (o : Option State). BothWays (reread x (option_map (among []) (with_first k s.open_records s))) (reread x o)) (sym (first_among k s.open_records (one ∷ []) s))
    (by_first (with_first k s.open_records s) (first_held k s.open_records s)))
  where
    by_first : (o : Option State) → IfSome o (λ t. t.associations ≡ s.associations)
        → BothWays (reread x (option_map (among []) o)) (reread x (option_map (among (one ∷ [])) o))
    by_first None e = tt
    by_first (Some t) e = boots (looked t) x (ap (count (is_of_session 1)) e ∙ free)

restarts_by : (s : State) (outcome : Outcome) → count (is_of_session 1) s.associations ≡ 0
    → BothWays (taken (restart_turn (among [] s)) outcome) (taken (restart_turn (with_one s)) outcome)
restarts_by s Quiet free = tt
restarts_by s (Appended x) free = tt
restarts_by s (Joined x) free = tt
restarts_by s Failed free = record { same = refl; alone = refl; free = free; answers = λ e. absurd (cc e) }
restarts_by s (Reread k x) free = survives s k x free

-- who asks for it

answered_by : (p : Standing) (t : Turn) → (p ≡ Ended → ⊥) → asked p t ≡ t
answered_by Up t answers = refl
answered_by Down t answers = refl
answered_by Ended t answers = absurd (answers refl)

asked_by : (p : Standing) (c : Context) (opened : Bool) (s : State) (t : Turn) → (p ≡ Ended → ⊥)
    → asked p (unless_now (early_refusal (record c { up = is_up p; session = Some opened }) Restart) s t) ≡ t
asked_by Up c opened s t answers = refl
asked_by Down c opened s t answers = refl
asked_by Ended c opened s t answers = absurd (answers refl)

itself_by : (n : ℕ) (x : Session) (o : Option Session) (c : Bool) → (n == n) ≡ c → cond c (Some x) o ≡ Some x
itself_by n x o true e = refl
itself_by n x o false e = let same : (n == n) ≡ true = grind (arith, nat_tests) in absurd (cc (e, same))

itself : (x : Session) (xs : List Session) → session_of (x ∷ xs) x.number ≡ Some x
itself x xs = itself_by x.number x (session_of xs x.number) (x.number == x.number) refl

-- what is taken of a turn is what a step is

abbrev takes : Outcome → Turn → Option Answer
takes outcome t = taken t outcome

nobody : (s : State) (outcome : Outcome) (a : Answer) → count (is_of_session 1) s.associations ≡ 0 → (s.standing ≡ Ended → ⊥)
    → taken (restart_turn (among [] s)) outcome ≡ Some a
    → Leads (among [] s) (comes ∷ asks 1 outcome a.reply ∷ goes ∷ []) a.after
nobody s outcome a free answers e =
    let w : WithOne a (taken (restart_turn (with_one s)) outcome) =
    subst (λ (o : Option Answer). BothWays o (taken (restart_turn (with_one s)) outcome)) e (restarts_by s outcome free) in (
      with_one s,
      ap (takes Quiet) (quiet_turn (among [] s) event.Connect refl ∙ answered_by s.standing (Now (connect_by (among [] s))) answers),
      (
        with_one a.after,
        ap (takes outcome)
            (quiet_turn (with_one s) (event.Call 1 Restart) (passing_none (supposed (with_one s)) 1 Restart refl)
            ∙ asked_by s.standing (context_of (with_one s) 1) false (with_one s) (restart_turn (with_one s)) answers) ∙ w.same,
        (
          a.after,
          ap (takes Quiet) (quiet_turn (with_one a.after) (event.Hangup 1) refl ∙ answered_by a.after.standing (Now (hang_up_by (with_one a.after) 1)) w.answers) ∙ ap Some (left_alone a.after w.alone w.free),
          refl,
        ),
      ),
    )

leads_by : (s : State) (xs : List Session) (outcome : Outcome) (a : Answer) → (session_of xs 1 ≡ None → count (is_of_session 1) s.associations ≡ 0)
    → (s.standing ≡ Ended → ⊥) → taken (restart_turn (among xs s)) outcome ≡ Some a → Leads (among xs s) (restart_entries xs outcome a.reply) a.after
leads_by s [] outcome a free answers e = nobody s outcome a (free refl) answers e
leads_by s (x ∷ xs) outcome a free answers e =
    let t = among (x ∷ xs) s in
    let opened : opened_of t x.number ≡ Some x.opened = ap (option_map (λ (y : Session). y.opened)) (itself x xs) in
    let turns = quiet_turn t (event.Call x.number Restart) (passing_none (supposed t) x.number Restart refl)
    ∙ ap (λ (o : Option Bool). asked s.standing (unless_now (early_refusal (record (context_of t x.number) { session = o }) Restart) t (restart_turn t))) opened
    ∙ asked_by s.standing (context_of t x.number) x.opened t (restart_turn t) answers in
    (a.after, ap (takes outcome) turns ∙ e, refl)

pub restart_leads : RestartLeads
restart_leads s outcome a sound answers e = leads_by s s.sessions outcome a (sound.connected 1) answers e

pub restart_happens : RestartHappens
restart_happens [] outcome reply = (tt, (record { limits = tt; held = tt }, (tt, tt)))
restart_happens (x ∷ xs) outcome reply = (record { limits = tt; held = tt }, tt)
