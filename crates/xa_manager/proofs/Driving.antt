-- A run goes on by one event.
use Rattle.std.proofs.Common.{◌≡◌, ◌⊎◌, inl, inr, ℕ, suc, Bool, true, false, cond, List, [], ◌∷◌, ◌++◌, length, Option, Some, None, IsSomeAnd}
use Rattle.std.proofs.Common.{refl, ap, sym, ◌∙◌, subst, arith}
use Rattle.std.specs.Prelude.{MatchBool}
use Rattle.std.proofs.lemmas.List.{append-nil}
use Rattle.xa_disk.specs.declared.disk.Disk.{Ghosts}
use Rattle.xa_frame.specs.declared.reply.Reply.{Reply}
use Rattle.xa_model.specs.declared.event.Event.{Event}
use Rattle.xa_model.specs.declared.outcome.Outcome.{Outcome}
use Rattle.xa_model.specs.declared.outcome.Outcome.TheVariants.{Quiet}
use Rattle.xa_model.specs.State.{State}
use Rattle.xa_model.specs.Answer.{Answer}
use Rattle.xa_model.specs.Turn.{Asked}
use Rattle.xa_model.specs.Step.{step}
use Rattle.xa_model.specs.History.{Entry, Leads, Steps}
use Rattle.xa_model.specs.Events.{is_restart}
use Rattle.xa_assoc.specs.Refusals.{is_memory}
use Rattle.xa_manager.specs.declared.manager.Manager.{Manager}
use Rattle.xa_manager.specs.Believed.LogStands.{Trusts}
use Rattle.xa_manager.specs.Managed.{ManagerStandsFor}
use Rattle.xa_manager.specs.Believed.Answered.{Answered, AnswersAll, ArePinned, FullyAnswered, IsPinned, RunsAll, StaysFor, StepsAs, recorded, no_restart}

-- a legal history goes on by one entry
pub leads_more : (s : State) (es : List Entry) (mid : State) (e : Entry) (s' : State) → Leads s es mid → Steps mid e s' → Leads s (es ++ e ∷ []) s'
leads_more s [] mid e s' h st = (s', subst (λ (x : State). Steps x e s') h st, refl)
leads_more s (x ∷ es) mid e s' h st = (h.0, h.1, leads_more h.0 es mid e s' h.2 st)

-- what an event adds to the record
abbrev pub added : Event → Outcome → Reply → Bool → List Entry
added event o reply d = cond d [] (record { happening = Asked event; outcome = o; reply = reply } ∷ [])

recorded_step : (e : Event) (x : Outcome) (r : Reply) (es : List Event) (os : List Outcome) (rs : List Reply) (event : Event) (o : Outcome)
    (reply : Reply) (c d : Bool) → is_memory r.detail ≡ c
    → recorded (es ++ event ∷ []) (os ++ o ∷ []) (rs ++ reply ∷ []) ≡ recorded es os rs ++ added event o reply d
    → recorded ((e ∷ es) ++ event ∷ []) ((x ∷ os) ++ o ∷ []) ((r ∷ rs) ++ reply ∷ []) ≡ recorded (e ∷ es) (x ∷ os) (r ∷ rs) ++ added event o reply d
recorded_step e x r es os rs event o reply true d ec rest = rw ec rest
recorded_step e x r es os rs event o reply false d ec rest = rw ec (ap (λ (xs : List Entry). record { happening = Asked e; outcome = x; reply = r } ∷ xs) rest)

pub recorded_more : (es : List Event) (os : List Outcome) (rs : List Reply) (event : Event) (o : Outcome) (reply : Reply) (d : Bool)
    → length os ≡ length es → length es ≡ length rs → is_memory reply.detail ≡ d
    → recorded (es ++ event ∷ []) (os ++ o ∷ []) (rs ++ reply ∷ []) ≡ recorded es os rs ++ added event o reply d
recorded_more [] [] [] event o reply true told same ed = simp ed
recorded_more [] [] [] event o reply false told same ed = simp ed
recorded_more [] (x ∷ os) rs event o reply d told same ed = absurd (omega arith)
recorded_more [] [] (r ∷ rs) event o reply d told same ed = absurd (omega arith)
recorded_more (e ∷ es) [] rs event o reply d told same ed = absurd (omega arith)
recorded_more (e ∷ es) (x ∷ os) [] event o reply d told same ed = absurd (omega arith)
recorded_more (e ∷ es) (x ∷ os) (r ∷ rs) event o reply d told same ed =
    recorded_step e x r es os rs event o reply (is_memory r.detail) d refl (recorded_more es os rs event o reply d (omega arith) (omega arith) ed)

-- as many outcomes as events, and one more of each
pub told_more : (es : List Event) (os : List Outcome) (event : Event) (o : Outcome) → length os ≡ length es → length (os ++ o ∷ []) ≡ length (es ++ event ∷ [])
told_more [] [] event o same = refl
told_more [] (x ∷ os) event o same = absurd (omega arith)
told_more (e ∷ es) [] event o same = absurd (omega arith)
told_more (e ∷ es) (x ∷ os) event o same = ap (λ (n : ℕ). suc n) (told_more es os event o (omega arith))

-- Where there is no restart among the events, there is none before the last, and the last is none.

no_restart_first : (r rest : Bool) → cond r false rest ≡ true → rest ≡ true
no_restart_first true rest h = absurd (cc h)
no_restart_first false rest h = h

no_restart_head : (r rest : Bool) → cond r false rest ≡ true → r ≡ false
no_restart_head true rest h = absurd (cc h)
no_restart_head false rest h = refl

no_restart_both : (r rest : Bool) → r ≡ false → rest ≡ true → cond r false rest ≡ true
no_restart_both r rest er h = rw er h

no_restart_before : (es : List Event) (event : Event) → no_restart (es ++ event ∷ []) ≡ true → no_restart es ≡ true
no_restart_before [] event h = refl
no_restart_before (e ∷ es) event h =
    no_restart_both (is_restart e) (no_restart es) (no_restart_head (is_restart e) (no_restart (es ++ event ∷ [])) h)
    (no_restart_before es event (no_restart_first (is_restart e) (no_restart (es ++ event ∷ [])) h))

no_restart_last : (es : List Event) (event : Event) → no_restart (es ++ event ∷ []) ≡ true → is_restart event ≡ false
no_restart_last [] event h = no_restart_head (is_restart event) true h
no_restart_last (e ∷ es) event h = no_restart_last es event (no_restart_first (is_restart e) (no_restart (es ++ event ∷ [])) h)

pub trusted_before : (trusts : Type 0) (es : List Event) (event : Event) → trusts ⊎ (no_restart (es ++ event ∷ []) ≡ true) → trusts ⊎ (no_restart es ≡ true)
trusted_before trusts es event (inl t) = inl t
trusted_before trusts es event (inr h) = inr (no_restart_before es event h)

pub trusted_last : (trusts : Type 0) (es : List Event) (event : Event) → trusts ⊎ (no_restart (es ++ event ∷ []) ≡ true) → trusts ⊎ (is_restart event ≡ false)
trusted_last trusts es event (inl t) = inl t
trusted_last trusts es event (inr h) = inr (no_restart_last es event h)

-- what is answered and followed
pub stepped : (Stands : State → Type 0) (reply : Reply) (o : Option Answer) → IsSomeAnd o (λ a. (a.reply ≡ reply) × Stands a.after)
    → (after : State) × (o ≡ Some (record { reply = reply; after = after })) × Stands after
stepped Stands reply None h = absurd h
stepped Stands reply (Some a) h = (a.after, ap (λ (r : Reply). Some (record { reply = r; after = a.after })) h.0, h.1)

-- The run with one more event: the outcome that is added is the manager's. Where memory was wanted no entry tells it, and it is Quiet.
goes_on : {D : Type 0} (disks : Ghosts D)
    (m mid m' : Manager D) (es : List Event) (rs : List Reply) (event : Event) (reply : Reply) (d : Bool) → length es ≡ length rs → is_memory reply.detail ≡ d
    → AnswersAll disks m es rs mid
    → MatchBool d (StaysFor disks mid m' × (m'.outcome ≡ mid.outcome)) (StepsAs disks mid event reply m')
    → AnswersAll disks m (es ++ event ∷ []) (rs ++ reply ∷ []) m'
goes_on disks m mid m' es rs event reply true same ed all one s st trusted =
    let h = all s st (trusted_before (Trusts disks) es event trusted) in
    let e = recorded_more es h.0 rs event Quiet reply true h.2 same ed in
    let leads = subst (λ (xs : List Entry). Leads s xs h.1) (sym (e ∙ append-nil (recorded es h.0 rs))) h.3 in
    (h.0 ++ Quiet ∷ [], h.1, told_more es h.0 event Quiet h.2, leads, one.0 h.1 h.4)
goes_on disks m mid m' es rs event reply false same ed all one s st trusted =
    let h = all s st (trusted_before (Trusts disks) es event trusted) in
    let e = recorded_more es h.0 rs event m'.outcome reply false h.2 same ed in
    let a = stepped (λ (x : State). ManagerStandsFor disks m' x) reply (step h.1 (Asked event) m'.outcome)
    (one h.1 h.4 (trusted_last (Trusts disks) es event trusted)) in
    let entry : Entry = record { happening = Asked event; outcome = m'.outcome; reply = reply } in
    let leads = subst (λ (xs : List Entry). Leads s xs a.0) (sym e) (leads_more s (recorded es h.0 rs) h.1 entry a.0 h.3 a.1) in
    (h.0 ++ m'.outcome ∷ [], a.0, told_more es h.0 event m'.outcome h.2, leads, a.2)

pub answers_more : {D : Type 0} (disks : Ghosts D)
    (m mid m' : Manager D) (es : List Event) (rs : List Reply) (event : Event) (reply : Reply) → length es ≡ length rs
    → AnswersAll disks m es rs mid → Answered disks mid event reply m'
    → AnswersAll disks m (es ++ event ∷ []) (rs ++ reply ∷ []) m'
answers_more disks m mid m' es rs event reply same all one =
    goes_on disks m mid m' es rs event reply (is_memory reply.detail) same refl all one

-- as many replies as events, each pinned
pub pinned_each : (es : List Event) (rs : List Reply) → ArePinned es rs → length es ≡ length rs
pinned_each [] [] h = refl
pinned_each [] (r ∷ rs) h = absurd h
pinned_each (e ∷ es) [] h = absurd h
pinned_each (e ∷ es) (r ∷ rs) h = ap (λ (n : ℕ). suc n) (pinned_each es rs h.1)

pub pinned_more : (es : List Event) (rs : List Reply) (event : Event) (reply : Reply) → ArePinned es rs → IsPinned event reply → ArePinned (es ++ event ∷ []) (rs ++ reply ∷ [])
pinned_more [] [] event reply h one = (one, tt)
pinned_more [] (r ∷ rs) event reply h one = absurd h
pinned_more (e ∷ es) [] event reply h one = absurd h
pinned_more (e ∷ es) (r ∷ rs) event reply h one = (h.0, pinned_more es rs event reply h.1 one)

pub runs_more : {D : Type 0} (disks : Ghosts D) (m mid m' : Manager D) (es : List Event) (rs : List Reply) (event : Event) (reply : Reply)
    → RunsAll disks m es rs mid → FullyAnswered disks mid event reply m' → RunsAll disks m (es ++ event ∷ []) (rs ++ reply ∷ []) m'
runs_more disks m mid m' [] [] event reply is h = (m', subst (λ x. FullyAnswered disks x event reply m') is h, refl)
runs_more disks m mid m' [] (r ∷ rs) event reply none h = absurd none
runs_more disks m mid m' (e ∷ es) [] event reply none h = absurd none
runs_more disks m mid m' (e ∷ es) (r ∷ rs) event reply run h = (run.0, run.1, runs_more disks run.0 mid m' es rs event reply run.2 h)
