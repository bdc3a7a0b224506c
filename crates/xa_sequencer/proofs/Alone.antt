-- A sequencer's events, by those of its manager with the group that it may have pending.
use Rattle.std.proofs.Common.{◌≡◌, ◌∙◌, ℕ, ◌+◌, ◌≤◌, Bool, true, false, List, length, Option, None, Some, Result, Vec, Global, refl, sym, ap, subst, arith}
use Rattle.std.specs.Prelude.{MatchBool, MatchResult, pos}
use Rattle.xa_assoc.specs.Refusals.{is_memory}
use Rattle.xa_assoc.specs.declared.fault.ConnectFault.{ConnectFault}
use Rattle.xa_frame.specs.declared.reply.Reply.{Reply}
use Rattle.xa_manager.specs.Believed.Answered.{connect_reply}
use Rattle.xa_manager.specs.Believed.Pending.{calls_of}
use Rattle.xa_manager.specs.Once.{AreOnce}
use Rattle.xa_manager.specs.declared.pending.PendingGroup.{PendingGroup}
use Rattle.xa_manager.specs.declared.together.Asked.{Asked}
use Rattle.xa_model.specs.Answer.{plain}
use Rattle.xa_model.specs.State.{State}
use Rattle.xa_model.specs.declared.event.Event.TheVariants.{Connect, Hangup}
use Rattle.xa_history.proofs.Longer.{connect_place, one_more}
use Rattle.xa_history.specs.Believed.Book.{placed}
use Rattle.xa_history.specs.Believed.Manages.{Acts, Behaviour}
use Rattle.xa_history.specs.Believed.Together.{AnswersNone, AnswersTogether}
use Rattle.xa_sequencer.specs.Believed.GroupManager.{GroupManager, HasItsGroup, IsItsGroup, alone, beside, calls_in, with_group}
use Rattle.xa_sequencer.specs.Believed.Numbers.{Adds, Leaves}
use Rattle.xa_sequencer.specs.Believed.Stands.{HasHistory, Numbered, most_numbers}
use Rattle.xa_sequencer.specs.Believed.Together.{CalledTogether, Rests, placed_from}
use Rattle.xa_sequencer.specs.Manages.{KeepsPending}
use Rattle.xa_sequencer.proofs.Adding.{added, left_out, none_more}
use Rattle.xa_sequencer.proofs.Grouping.{called_together, have_numbers, rests}
use Rattle.xa_sequencer.proofs.Keeping.{Keeps, keeps_alone}

none_of : (p : Option PendingGroup) → calls_in p ≡ None → p ≡ None
none_of None e = refl
none_of (Some f) e = absurd (cc e)

-- the calls of the group that is pending
pub its_calls : (p : Option PendingGroup) (f : PendingGroup) (calls : Vec Asked Global) → p ≡ Some f → calls ≡ calls_of f → calls_in p ≡ Some calls.items
its_calls p f calls is same = ap calls_in is ∙ ap (λ (v : Vec Asked Global). Some v.items) (sym same)

abbrev pub at : {M : Type 0} → M → Option PendingGroup → ℕ → Numbered (GroupManager M)
at now p count = record { now = with_group now p; count = count }

module _ {M : Type 0} (m : Behaviour (GroupManager M)) (start : State → Type 0) (base : ℕ × ℕ) where
  -- a connect that found its memory, and one that found none
  pub connect_adds : (now then : M) (p : Option PendingGroup) (count : ℕ) (r : Result ℕ ConnectFault)
      → Acts m (with_group now p) Connect (connect_reply r) (with_group then p) → is_memory (connect_reply r).detail ≡ false
      → MatchResult r (λ _. m.sessions (with_group then p) ≡ m.sessions (with_group now p) + 1) (λ _. m.sessions (with_group then p) ≡ m.sessions (with_group now p))
      → count + m.sessions (with_group now p) + 2 ≤ most_numbers
      → Adds m start base (at now p count) Connect (placed (count + 1) (connect_reply r)) (at then p (count + 1))
  connect_adds now then p count r acts found sessions left =
      added m start base (at now p count) (at then p (count + 1)) Connect (connect_reply r) (placed (count + 1) (connect_reply r))
      acts found (connect_place r) tt refl refl
      (omega (arith, left, one_more r (m.sessions (with_group now p)) (m.sessions (with_group then p)) sessions))

  pub connect_leaves : (now then : M) (p : Option PendingGroup) (count : ℕ) (r : Result ℕ ConnectFault)
      → Acts m (with_group now p) Connect (connect_reply r) (with_group then p) → is_memory (connect_reply r).detail ≡ true
      → MatchResult r (λ _. m.sessions (with_group then p) ≡ m.sessions (with_group now p) + 1) (λ _. m.sessions (with_group then p) ≡ m.sessions (with_group now p))
      → Leaves m start base (at now p count) Connect (connect_reply r) (at then p count)
  connect_leaves now then p count r acts wanted sessions =
      left_out m start base (at now p count) (at then p count) Connect (connect_reply r) acts wanted refl
      (omega (arith, none_more r (m.sessions (with_group now p)) (m.sessions (with_group then p)) wanted sessions))

  -- a hang-up of a connected session
  pub hangup_adds : (now then : M) (p : Option PendingGroup) (count session : ℕ) → Acts m (with_group now p) (Hangup session) (plain (pos 0)) (with_group then p)
      → m.sessions (with_group then p) + 1 ≡ m.sessions (with_group now p) → HasHistory m start base (at now p count)
      → Adds m start base (at now p count) (Hangup session) (placed (count + 1) (plain (pos 0))) (at then p (count + 1))
  hangup_adds now then p count session acts sessions h =
      added m start base (at now p count) (at then p (count + 1)) (Hangup session) (plain (pos 0)) (placed (count + 1) (plain (pos 0)))
      acts refl refl tt refl refl
      (omega (arith, h.1.upholds.reserved, h.1.count_is, sessions))

  -- a group begins, or none does
  pub began : (now then : M) (p p' : Option PendingGroup) (count : ℕ) → calls_in p ≡ None → AnswersNone m (alone now) (with_group then p')
      → m.sessions (with_group then p') ≡ m.sessions (with_group now p) → Rests m start base (at now p count) (at then p' count)
  began now then p p' count none h sessions =
      rests m start base (at now p count) (at then p' count)
      (subst (λ (x : Option PendingGroup). AnswersNone m (with_group now x) (with_group then p')) (sym (none_of p none)) h) refl
      (omega (arith, sessions))

  module _ (is_group : M → PendingGroup → Type 0) where
    -- a sequencer with none pending, after more entries
    pub keeps_none : (then : M) (p : Option PendingGroup) (count : ℕ) → calls_in p ≡ None → HasHistory m start base (at then p count)
        → Keeps m (HasItsGroup is_group) start base (calls_in p) (at then p count)
    keeps_none then p count none h =
        keeps_alone m (HasItsGroup is_group) start base (calls_in p) (at then p count)
        (subst (λ (x : Option PendingGroup). IsItsGroup is_group then x) (sym (none_of p none)) tt) none h

    -- the pending group, which is finished: numbers are left for its replies, and its calls are entries more
    module _ (now then : M) (p p' : Option PendingGroup) (f : PendingGroup) (count : ℕ) (calls : Vec Asked Global) (replies : List (ℕ × Reply))
        (is : p ≡ Some f) (none : p' ≡ None) (same : calls ≡ calls_of f) (acts : AnswersTogether m (beside now f) calls.items replies (alone then)) (once : AreOnce replies)
        (kept : KeepsPending m (HasItsGroup is_group) (calls_in p) (with_group now p) count) where
      finished : AnswersTogether m (with_group now p) calls.items replies (with_group then p')
      finished =
          subst (λ (x : Option PendingGroup). AnswersTogether m (with_group now x) calls.items replies (with_group then p')) (sym is)
          (subst (λ (x : Option PendingGroup). AnswersTogether m (beside now f) calls.items replies (with_group then x)) (sym none) acts)

      pub group_numbers : count + m.sessions (with_group now p) + length replies ≤ most_numbers
      group_numbers =
          have_numbers m start base (HasItsGroup is_group) (calls_in p) (with_group now p) (with_group then p') count calls.items replies kept (its_calls p f calls is same) finished once

      pub group_called : (more : ℕ) → more ≡ length replies → m.sessions (with_group then p') ≡ m.sessions (with_group now p)
          → CalledTogether m start base (at now p count) calls.items (placed_from count replies) (at then p' (count + more))
      group_called more as_many sessions =
          called_together m start base (HasItsGroup is_group) (calls_in p) (with_group now p) (with_group then p') count more calls.items replies
          kept (its_calls p f calls is same) finished once as_many (omega (arith, sessions))
