-- No more failures are told of than were counted.
use Rattle.std.proofs.Common.{◌≡◌, inl, inr, ℕ, ◌+◌, ◌<◌, Bool, true, false, cond, List, [], ◌∷◌, ◌++◌, length, Option, Some, None}
use Rattle.std.proofs.Common.{refl, ap, sym, ◌∙◌, subst, arith}
use Rattle.std.specs.Prelude.{MatchBool}
use Rattle.std.proofs.lemmas.List.{append-nil}
use Rattle.xa_disk.specs.declared.disk.Disk.{Ghosts}
use Rattle.xa_frame.specs.declared.reply.Reply.{Reply}
use Rattle.xa_disk.specs.Counts.{plus}
use Rattle.xa_log.specs.Ahead.{AppendsBy}
use Rattle.xa_log.specs.Answers.{HasRisen}
use Rattle.xa_log.specs.Believed.TwoFiles.{first_of, second_of}
use Rattle.xa_log.specs.Believed.LogView.{LogView}
use Rattle.xa_model.specs.declared.event.Event.{Event}
use Rattle.xa_model.specs.declared.outcome.Outcome.{Outcome}
use Rattle.xa_model.specs.declared.outcome.Outcome.TheVariants as outcome
use Rattle.xa_model.specs.declared.outcome.Appending.{Appending}
use Rattle.xa_model.specs.declared.outcome.Appending.TheVariants.{Kept, Refused, Lost}
use Rattle.xa_model.specs.State.{State}
use Rattle.xa_model.specs.Turn.{Asked}
use Rattle.xa_model.specs.Step.{step}
use Rattle.xa_model.specs.History.{Entry, Leads, HasGroups, JoinAfter, append_in, joins}
use Rattle.xa_model.specs.Events.{is_trim}
use Rattle.xa_assoc.specs.Refusals.{is_memory}
use Rattle.xa_manager.specs.declared.manager.Manager.{Manager}
use Rattle.xa_manager.specs.Believed.LogStands.{Trusts}
use Rattle.xa_manager.specs.Managed.{ManagerStandsFor}
use Rattle.xa_manager.specs.Believed.Answered.{FullyAnswered, HasCalled, HasCalledFor, NoneRises, OneRises, StaysFor, StepsAs, as_appended, recorded}
use Rattle.xa_manager.specs.Believed.Counted.{CountsAll, RiseBy, counted_by, failures_in, failures_of, failures_of_append}
use Rattle.xa_manager.proofs.Driving.{added, leads_more, recorded_more, stepped, told_more, trusted_before, trusted_last}

-- of two numbers

pub stay_by : (a b c d : ℕ) → c ≡ a → d ≡ b → RiseBy 0 (a, b) (c, d)
stay_by a b c d e f = λ p q. (omega arith, omega arith, omega arith)

first_by : (a b c d : ℕ) → HasRisen a c → d ≡ b → RiseBy 1 (a, b) (c, d)
first_by a b c d h e = λ p q. let r : a < c = h p in (omega arith, omega arith, omega arith)

second_by : (a b c d : ℕ) → c ≡ a → HasRisen b d → RiseBy 1 (a, b) (c, d)
second_by a b c d e h = λ p q. let r : b < d = h q in (omega arith, omega arith, omega arith)

-- one failed, and none is told of
more_by : (a b c d : ℕ) → c ≡ plus a 1 → d ≡ b → RiseBy 0 (a, b) (c, d)
more_by a b c d e f = λ p q. (omega (arith, e), omega (arith, f), omega (arith, e, f))

risen_more : (a c : ℕ) → HasRisen (plus a 1) c → HasRisen a c
risen_more a c h = λ low. let r : plus a 1 < c = h low in omega (arith, r)

pub rise_both : (k n : ℕ) (x y z : ℕ × ℕ) → RiseBy k x y → RiseBy n y z → RiseBy (k + n) x z
rise_both k n (a, b) (c, d) (e, f) h i = λ p q. let r = i p q in let t = h r.0 r.1 in (t.0, t.1, omega (arith, r.2, t.2))

-- of a log's two disks

module _ {D : Type 0} (disks : Ghosts D) where
  pub none_by : (old new : LogView D) → NoneRises disks.failures old new → RiseBy 0 (counted_by disks.failures old) (counted_by disks.failures new)
  none_by old new h = stay_by (disks.failures (first_of old)) (disks.failures (second_of old)) (disks.failures (first_of new)) (disks.failures (second_of new)) h.0 h.1

  one_by : (old new : LogView D) → OneRises disks.failures old new → RiseBy 1 (counted_by disks.failures old) (counted_by disks.failures new)
  one_by old new (inl h) = first_by (disks.failures (first_of old)) (disks.failures (second_of old)) (disks.failures (first_of new)) (disks.failures (second_of new)) h.0 h.1
  one_by old new (inr h) = second_by (disks.failures (first_of old)) (disks.failures (second_of old)) (disks.failures (first_of new)) (disks.failures (second_of new)) h.0 h.1

  sides_by : (n : ℕ) (b : Bool) (x y v w : D) → RiseBy n (disks.failures x, disks.failures y) (disks.failures v, disks.failures w)
      → RiseBy n (disks.failures (cond b x y), disks.failures (cond b y x)) (disks.failures (cond b v w), disks.failures (cond b w v))
  sides_by n true x y v w h = h
  sides_by n false x y v w h = λ p q. let r = h q p in (r.1, r.0, omega (arith, r.2))

  in_order : (n : ℕ) (old new : LogView D) → new.on_first ≡ old.on_first → RiseBy n (disks.failures old.disk, disks.failures old.other) (disks.failures new.disk, disks.failures new.other)
      → RiseBy n (counted_by disks.failures old) (counted_by disks.failures new)
  in_order n old new same h =
      subst (λ (b : Bool). RiseBy n (counted_by disks.failures old) (disks.failures (cond b new.disk new.other), disks.failures (cond b new.other new.disk))) (sym same)
      (sides_by n old.on_first old.disk old.other new.disk new.other h)

  append_by : (a : Appending) (n : ℕ) (old new : LogView D) → new.other ≡ old.other → new.on_first ≡ old.on_first → AppendsBy disks n (as_appended a) old new
      → RiseBy (failures_of_append a) (counted_by disks.failures old) (counted_by disks.failures new)
  append_by Kept n old new other same (inl x) = in_order 0 old new same (stay_by (disks.failures old.disk) (disks.failures old.other) (disks.failures new.disk) (disks.failures new.other) x.0 (ap disks.failures other))
  append_by Kept n old new other same (inr x) = in_order 0 old new same (more_by (disks.failures old.disk) (disks.failures old.other) (disks.failures new.disk) (disks.failures new.other) x.1 (ap disks.failures other))
  append_by Refused n old new other same (inl x) = in_order 1 old new same (first_by (disks.failures old.disk) (disks.failures old.other) (disks.failures new.disk) (disks.failures new.other) x.0 (ap disks.failures other))
  append_by Refused n old new other same (inr x) =
      in_order 1 old new same (first_by (disks.failures old.disk) (disks.failures old.other) (disks.failures new.disk) (disks.failures new.other) (risen_more (disks.failures old.disk) (disks.failures new.disk) x.1) (ap disks.failures other))
  append_by Lost n old new other same (inl x) = in_order 1 old new same (first_by (disks.failures old.disk) (disks.failures old.other) (disks.failures new.disk) (disks.failures new.other) x.0 (ap disks.failures other))
  append_by Lost n old new other same (inr x) =
      in_order 1 old new same (first_by (disks.failures old.disk) (disks.failures old.other) (disks.failures new.disk) (disks.failures new.other) (risen_more (disks.failures old.disk) (disks.failures new.disk) x.1) (ap disks.failures other))

  pub called_by : (o : Outcome) (old new : LogView D)
      → HasCalled disks o old new → RiseBy (failures_in o) (counted_by disks.failures old) (counted_by disks.failures new)
  called_by outcome.Quiet old new h = none_by old new (ap (λ (l : LogView D). disks.failures (first_of l)) h, ap (λ (l : LogView D). disks.failures (second_of l)) h)
  called_by (outcome.Appended a) old new h = append_by a h.2 old new h.0 h.1 h.4
  called_by (outcome.Joined a) old new h = absurd h
  called_by outcome.Failed old new h = one_by old new h
  called_by (outcome.Reread survived None) old new h = none_by old new h
  called_by (outcome.Reread survived (Some Kept)) old new h = none_by old new h
  called_by (outcome.Reread survived (Some Refused)) old new h = one_by old new h
  called_by (outcome.Reread survived (Some Lost)) old new h = one_by old new h

  pub called_for : (trims : Bool) (o : Outcome) (old new : LogView D)
      → HasCalledFor disks trims o old new → RiseBy (failures_in o) (counted_by disks.failures old) (counted_by disks.failures new)
  called_for false o old new h = called_by o old new h
  called_for true outcome.Quiet old new h = called_by outcome.Quiet old new h
  called_for true (outcome.Appended Kept) old new h = none_by old new h
  called_for true (outcome.Appended Refused) old new h = one_by old new h
  called_for true (outcome.Appended Lost) old new h = one_by old new h
  called_for true (outcome.Joined a) old new h = absurd h
  called_for true outcome.Failed old new h = absurd h
  called_for true (outcome.Reread survived appended) old new h = absurd h

  -- a call by itself joins no other's append
  pub called_alone : (trims : Bool) (o : Outcome) (old new : LogView D) → HasCalledFor disks trims o old new → joins o ≡ false
  called_alone trims outcome.Quiet old new h = refl
  called_alone trims (outcome.Appended a) old new h = refl
  called_alone false (outcome.Joined a) old new h = absurd h
  called_alone true (outcome.Joined a) old new h = absurd h
  called_alone trims outcome.Failed old new h = refl
  called_alone trims (outcome.Reread survived appended) old new h = refl

-- of a run

after_more : (before : Option Appending) (es : List Entry) (e : Entry) → joins e.outcome ≡ false → JoinAfter before es → JoinAfter before (es ++ e ∷ [])
after_more before [] e other h = (λ is. absurd (cc (is, other)), tt)
after_more before (x ∷ es) e other h = (h.0, after_more (append_in x.outcome) es e other h.1)

pub groups_more : (es : List Entry) (e : Entry) → joins e.outcome ≡ false → HasGroups es → HasGroups (es ++ e ∷ [])
groups_more es e other h = after_more None es e other h

failures_append : (xs ys : List Entry) → failures_of (xs ++ ys) ≡ failures_of xs + failures_of ys
failures_append [] ys = omega arith
failures_append (x ∷ xs) ys = omega (arith, failures_append xs ys)

-- the failures of one more entry, or of none
rise_more : (before now : List Entry) (more : List Entry) (n : ℕ) (x y z : ℕ × ℕ) → now ≡ before ++ more → failures_of more ≡ n → RiseBy (failures_of before) x y → RiseBy n y z
    → RiseBy (failures_of now) x z
rise_more before now more n x y z e same h i =
    let sum : failures_of before + n ≡ failures_of now = omega (arith, ap failures_of e, failures_append before more, same) in
    subst (λ (k : ℕ). RiseBy k x z) sum (rise_both (failures_of before) n x y z h i)

alone : (o : Outcome) → failures_in o + 0 ≡ failures_in o
alone o = omega arith

counts_on : {D : Type 0} (disks : Ghosts D)
    (m mid m' : Manager D) (es : List Event) (rs : List Reply) (event : Event) (reply : Reply) (d : Bool) → length es ≡ length rs → is_memory reply.detail ≡ d
    → CountsAll disks m es rs mid
    → MatchBool d (StaysFor disks mid m' × (m'.outcome ≡ mid.outcome)) (StepsAs disks mid event reply m')
    → FullyAnswered disks mid event reply m'
    → CountsAll disks m (es ++ event ∷ []) (rs ++ reply ∷ []) m'
counts_on disks m mid m' es rs event reply true same ed all one full s st trusted =
    let h = all s st (trusted_before (Trusts disks) es event trusted) in
    let e = recorded_more es h.0 rs event outcome.Quiet reply true h.2 same ed in
    let leads = subst (λ (xs : List Entry). Leads s xs h.1) (sym (e ∙ append-nil (recorded es h.0 rs))) h.3 in
    let rise = rise_more (recorded es h.0 rs) (recorded (es ++ event ∷ []) (h.0 ++ outcome.Quiet ∷ []) (rs ++ reply ∷ [])) (added event outcome.Quiet reply true) 0
    (counted_by disks.failures m.log) (counted_by disks.failures mid.log) (counted_by disks.failures m'.log) e refl h.6 (none_by disks mid.log m'.log (full.quiet ed)) in
    let groups = subst HasGroups (sym (e ∙ append-nil (recorded es h.0 rs))) h.5 in
    (h.0 ++ outcome.Quiet ∷ [], h.1, told_more es h.0 event outcome.Quiet h.2, leads, one.0 h.1 h.4, groups, rise)
counts_on disks m mid m' es rs event reply false same ed all one full s st trusted =
    let h = all s st (trusted_before (Trusts disks) es event trusted) in
    let e = recorded_more es h.0 rs event m'.outcome reply false h.2 same ed in
    let last = trusted_last (Trusts disks) es event trusted in
    let a = stepped (λ (x : State). ManagerStandsFor disks m' x) reply (step h.1 (Asked event) m'.outcome) (one h.1 h.4 last) in
    let entry : Entry = record { happening = Asked event; outcome = m'.outcome; reply = reply } in
    let leads = subst (λ (xs : List Entry). Leads s xs a.0) (sym e) (leads_more s (recorded es h.0 rs) h.1 entry a.0 h.3 a.1) in
    let rise = rise_more (recorded es h.0 rs) (recorded (es ++ event ∷ []) (h.0 ++ m'.outcome ∷ []) (rs ++ reply ∷ [])) (added event m'.outcome reply false) (failures_in m'.outcome)
    (counted_by disks.failures m.log) (counted_by disks.failures mid.log) (counted_by disks.failures m'.log) e (alone m'.outcome) h.6
    (called_for disks (is_trim event) m'.outcome mid.log m'.log (full.called ed h.1 h.4 last)) in
    let groups = subst HasGroups (sym e)
    (groups_more (recorded es h.0 rs) entry (called_alone disks (is_trim event) m'.outcome mid.log m'.log (full.called ed h.1 h.4 last)) h.5) in
    (h.0 ++ m'.outcome ∷ [], a.0, told_more es h.0 event m'.outcome h.2, leads, a.2, groups, rise)

pub counts_more : {D : Type 0} (disks : Ghosts D)
    (m mid m' : Manager D) (es : List Event) (rs : List Reply) (event : Event) (reply : Reply) → length es ≡ length rs
    → CountsAll disks m es rs mid → FullyAnswered disks mid event reply m'
    → CountsAll disks m (es ++ event ∷ []) (rs ++ reply ∷ []) m'
counts_more disks m mid m' es rs event reply same all full =
    counts_on disks m mid m' es rs event reply (is_memory reply.detail) same refl all full.answered full
