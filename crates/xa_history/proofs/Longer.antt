-- An entry more.
use Rattle.std.proofs.Common.{◌≡◌, ℕ, ◌+◌, ◌≤◌, ◌⊎◌, inl, inr, Bool, true, false, Option, Some, None, List, [], ◌∷◌, ◌++◌, length, refl, sym, ap, ◌∙◌, subst, arith, length-append}
use Rattle.std.specs.Prelude.{IsSomeAnd, MatchBool, MatchResult, Result, Ok, Err}
use Rattle.xa_frame.specs.declared.reply.Reply.{Reply}
use Rattle.xa_assoc.specs.Refusals.{is_memory}
use Rattle.xa_assoc.specs.declared.fault.ConnectFault.{ConnectFault}
use Rattle.xa_assoc.specs.declared.fault.ConnectFault.TheVariants.{Full, Memory}
use Rattle.xa_manager.specs.Believed.Answered.{connect_reply}
use Rattle.xa_manager.specs.Believed.Counted.{RiseBy, failures_in, failures_of}
use Rattle.xa_model.specs.declared.event.Event.{Event}
use Rattle.xa_model.specs.declared.outcome.Outcome.{Outcome}
use Rattle.xa_model.specs.State.{State}
use Rattle.xa_model.specs.Answer.{Answer}
use Rattle.xa_model.specs.Turn.{Asked}
use Rattle.xa_model.specs.Step.{step}
use Rattle.xa_model.specs.Events.{HaveHappened, IsEvent, is_restart}
use Rattle.xa_model.specs.declared.outcome.Appending.{Appending}
use Rattle.xa_model.specs.History.{Leads, HasGroups, JoinAfter, append_in, joins}
use Rattle.xa_history.specs.declared.entry.Entry.{Entry}
use Rattle.xa_history.specs.Believed.Book.{AreNumbered, HasNoRestart, entry_of, plain_entries, unplaced}
use Rattle.xa_history.specs.Believed.Manages.{Acts, Behaviour, Counts, StepsTo}
use Rattle.xa_history.specs.Believed.Upholds.{Upholds}

pub not_memory : (A B : Type 0) (b : Bool) → b ≡ false → MatchBool b A B → B
not_memory A B false e h = h
not_memory A B true e h = absurd (cc e)

some_answer : (o : Option Answer) (P : Answer → Type 0) → IsSomeAnd o P → (a : Answer) × (o ≡ Some a) × P a
some_answer None P h = absurd h
some_answer (Some a) P h = (a, refl, h)

leads_snoc : (s : State) (es : List Entry) (t : State) (e : Entry) (a : Answer) → Leads s (plain_entries es) t
    → step t (Asked e.event) e.outcome ≡ Some a → a.reply ≡ unplaced e.reply → Leads s (plain_entries (es ++ e ∷ [])) a.after
leads_snoc s [] t e a r st same = (
  a.after,
  subst (λ (x : State). step x (Asked e.event) e.outcome ≡ Some (record { reply = unplaced e.reply; after = a.after })) r
      (st ∙ (λ i. Some (record { reply = same i; after = a.after }))),
  refl,
)
leads_snoc s (x ∷ es) t e a r st same = (r.0, r.1, leads_snoc r.0 es t e a r.2 st same)

numbered_snoc : (k : ℕ) (es : List Entry) (e : Entry) → AreNumbered k es → e.place ≡ k + length es + 1 → e.reply.place ≡ k + length es + 1
    → AreNumbered k (es ++ e ∷ [])
numbered_snoc k [] e n p q = (omega arith, omega arith, tt)
numbered_snoc k (x ∷ es) e n p q = (n.0, n.1, numbered_snoc (k + 1) es e n.2 (omega arith) (omega arith))

happened_snoc : (es : List Entry) (e : Entry) → HaveHappened (plain_entries es) → IsEvent e.event → HaveHappened (plain_entries (es ++ e ∷ []))
happened_snoc [] e h k = (k, tt)
happened_snoc (x ∷ es) e h k = (h.0, happened_snoc es e h.1 k)

failures_snoc : (es : List Entry) (e : Entry) → failures_of (plain_entries (es ++ e ∷ [])) ≡ failures_of (plain_entries es) + failures_in e.outcome
failures_snoc [] e = omega arith
failures_snoc (x ∷ es) e = omega (arith, failures_snoc es e)

after_snoc : (before : Option Appending) (es : List Entry) (e : Entry) → joins e.outcome ≡ false → JoinAfter before (plain_entries es)
    → JoinAfter before (plain_entries (es ++ e ∷ []))
after_snoc before [] e other h = (λ is. absurd (cc (is, other)), tt)
after_snoc before (x ∷ es) e other h = (h.0, after_snoc (append_in x.outcome) es e other h.1)

groups_snoc : (es : List Entry) (e : Entry) → joins e.outcome ≡ false → HasGroups (plain_entries es) → HasGroups (plain_entries (es ++ e ∷ []))
groups_snoc es e other h = after_snoc None es e other h

before_last : (es : List Entry) (e : Entry) → HasNoRestart (es ++ e ∷ []) → HasNoRestart es × (is_restart e.event ≡ false)
before_last [] e h = (tt, h.0)
before_last (x ∷ es) e h = let rest = before_last es e h.1 in ((h.0, rest.0), rest.1)

premises : (trusts : Type 0) (es : List Entry) (e : Entry) → trusts ⊎ HasNoRestart (es ++ e ∷ [])
    → (trusts ⊎ HasNoRestart es) × (trusts ⊎ (is_restart e.event ≡ false))
premises trusts es e (inl t) = (inl t, inl t)
premises trusts es e (inr h) = let parts = before_last es e h in (inr parts.0, inr parts.1)

rises_twice : (m n : ℕ) (a b c : ℕ × ℕ) → RiseBy m a b → RiseBy n b c → RiseBy (m + n) a c
rises_twice m n a b c p q = λ first second.
    let later = q first second in
    let earlier = p later.0 later.1 in
    (earlier.0, earlier.1, omega (arith, earlier.2, later.2))

-- a step more keeps what is upheld
kept_step : {M : Type 0} (m : Behaviour M) (start : State → Type 0) (base : ℕ × ℕ) (now then : M) (es : List Entry) (cap cap' : ℕ) (e : Entry)
    → Upholds m start base now es cap
    → StepsTo m.stands m.trusts now e.event e.outcome (unplaced e.reply) then
    → Counts m.stands m.trusts m.failures now e.event e.outcome then
    → IsEvent e.event → e.place ≡ length es + 1 → e.reply.place ≡ length es + 1 → length es + 1 + m.sessions then ≤ cap'
    → Upholds m start base then (es ++ e ∷ []) cap'
kept_step m start base now then es cap cap' e kept steps counts event p q room = record {
  legal = λ s began premise.
      let each = premises m.trusts es e premise in
      let before = kept.legal s began each.0 in
      let next = some_answer (step before.0 (Asked e.event) e.outcome) _ (steps before.0 before.2 each.1) in
      (next.0.after, leads_snoc s es before.0 e next.0 before.1 next.1 next.2.0, next.2.1);
  counted = λ s began premise.
      let each = premises m.trusts es e premise in
      let before = kept.legal s began each.0 in
      let so_far = kept.counted s began each.0 in
      let more = counts before.0 before.2 each.1 in
      let risen = rises_twice _ _ _ _ _ so_far.1 more.1 in
      (groups_snoc es e more.0 so_far.0, subst (λ (n : ℕ). RiseBy n base (m.failures then)) (sym (failures_snoc es e)) risen);
  numbered = numbered_snoc 0 es e kept.numbered (omega arith) (omega arith);
  happened = happened_snoc es e kept.happened event;
  reserved = omega (arith, length-append es (e ∷ []));
}

-- an event that noted its entry keeps it
pub kept_noted : {M : Type 0} (m : Behaviour M) (start : State → Type 0) (base : ℕ × ℕ) (now then : M) (es es0 es' : List Entry) (cap cap' : ℕ)
    (event : Event) (outcome : Outcome) (reply : Reply)
    → Upholds m start base now es cap
    → Acts m now event reply then
    → is_memory reply.detail ≡ false → reply.place ≡ 0 → IsEvent event → outcome ≡ m.told then
    → es0 ≡ es → es' ≡ es0 ++ entry_of (length es0 + 1) event outcome reply ∷ [] → length es + 1 + m.sessions then ≤ cap'
    → Upholds m start base then es' cap'
kept_noted m start base now then es es0 es' cap cap' event outcome reply kept acts served zero is_event tells same noted room =
    let P : List Entry → Type 0 = λ xs. Upholds m start base then xs cap' in
    let e = entry_of (length es + 1) event outcome reply in
    let longer : es' ≡ es ++ e ∷ [] = noted ∙ ap (λ (xs : List Entry). xs ++ entry_of (length xs + 1) event outcome reply ∷ []) same in
    let steps = not_memory _ _ _ served acts.answered in
    let counts = not_memory _ _ _ served acts.counted in
    subst P (sym longer) (kept_step m start base now then es cap cap' e kept
    (subst (λ (r : Reply). StepsTo m.stands m.trusts now event outcome r then) (λ i. record reply { place = zero i })
    (subst (λ (o : Outcome). StepsTo m.stands m.trusts now event o reply then) (sym tells) steps))
    (subst (λ (o : Outcome). Counts m.stands m.trusts m.failures now event o then) (sym tells) counts)
    is_event refl refl room)

pub connect_place : (r : Result ℕ ConnectFault) → (connect_reply r).place ≡ 0
connect_place (Ok n) = refl
connect_place (Err Full) = refl
connect_place (Err Memory) = refl

-- there is at most one session more
pub one_more : (r : Result ℕ ConnectFault) (a b : ℕ) → MatchResult r (λ _. b ≡ a + 1) (λ _. b ≡ a) → b ≤ a + 1
one_more (Ok n) a b h = omega arith
one_more (Err e) a b h = omega arith
