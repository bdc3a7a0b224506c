-- An entry more, or none.
use Rattle.std.proofs.Common.{◌≡◌, ℕ, ◌+◌, ◌≤◌, ◌∙◌, inl, Bool, true, false, List, [], ◌∷◌, ◌++◌, length, refl, sym, ap, subst, arith, length-append, append_assoc, append-nil}
use Rattle.std.specs.Prelude.{MatchBool, MatchResult, Result, Ok, Err}
use Rattle.xa_assoc.specs.declared.fault.ConnectFault.{ConnectFault}
use Rattle.xa_assoc.specs.Refusals.{is_memory}
use Rattle.xa_frame.specs.declared.reply.Reply.{Reply}
use Rattle.xa_manager.specs.Believed.Answered.{connect_reply}
use Rattle.xa_manager.specs.Believed.Counted.{RiseBy}
use Rattle.xa_manager.specs.Believed.Promises.{IsReached, ReachedPromises}
use Rattle.xa_model.specs.State.{State}
use Rattle.xa_model.specs.Events.{IsEvent}
use Rattle.xa_model.specs.declared.event.Event.{Event}
use Rattle.xa_history.proofs.Longer.{kept_noted, not_memory}
use Rattle.xa_history.specs.Believed.Book.{entry_of, placed, plain_entries, unplaced}
use Rattle.xa_history.specs.Believed.Manages.{Acts, Behaviour, Stays, StepsTo}
use Rattle.xa_history.specs.Believed.Upholds.{Upholds}
use Rattle.xa_history.specs.declared.entry.Entry.{Entry}
use Rattle.xa_sequencer.specs.Believed.Numbers.{Adds, Leaves}
use Rattle.xa_sequencer.specs.Believed.Stands.{AllPromise, GoesOn, GoesOnTwice, HasHistory, Numbered, Stands, most_numbers}

was_memory : (A B : Type 0) (b : Bool) → b ≡ true → MatchBool b A B → A
was_memory A B true e h = h
was_memory A B false e h = absurd (cc e)

-- the entry of a reply with its number, as a room notes it
noted : {M : Type 0} (m : Behaviour M) (start : State → Type 0) (base : ℕ × ℕ) (old new : Numbered M) (event : Event) (said reply : Reply)
    → Acts m old.now event said new.now
    → is_memory said.detail ≡ false → said.place ≡ 0 → IsEvent event
    → reply ≡ placed (old.count + 1) said → new.count ≡ old.count + 1 → new.count + m.sessions new.now ≤ most_numbers
    → GoesOn m start base old (entry_of reply.place event (m.told new.now) reply ∷ []) new
noted m start base old new event said reply acts served zero is_event is more room = λ entries stood.
    let outcome = m.told new.now in
    let same : entry_of (length entries + 1) event outcome said ≡ entry_of reply.place event outcome reply =
    ap (λ (n : ℕ). entry_of (n + 1) event outcome said) (sym stood.count_is) ∙ ap (λ (r : Reply). entry_of r.place event outcome r) (sym is) in
    record {
      upholds = subst (λ (e : Entry). Upholds m start base new.now (entries ++ e ∷ []) most_numbers) same
          (kept_noted m start base old.now new.now entries entries (entries ++ entry_of (length entries + 1) event outcome said ∷ []) most_numbers most_numbers event outcome said
          stood.upholds acts served zero is_event refl refl refl (omega (arith, room, more, stood.count_is)));
      count_is = omega (arith, more, stood.count_is, length-append entries (entry_of reply.place event outcome reply ∷ []));
    }

-- an event that found its memory
pub added : {M : Type 0} (m : Behaviour M) (start : State → Type 0) (base : ℕ × ℕ) (old new : Numbered M) (event : Event) (said reply : Reply)
    → Acts m old.now event said new.now
    → is_memory said.detail ≡ false → said.place ≡ 0 → IsEvent event
    → reply ≡ placed (old.count + 1) said → new.count ≡ old.count + 1 → new.count + m.sessions new.now ≤ most_numbers
    → Adds m start base old event reply new
added m start base old new event said reply acts served zero is_event is more room =
    let same : said ≡ unplaced reply = (λ i. record said { place = zero i }) ∙ ap unplaced (sym is) in
    record {
      place = ap (λ (r : Reply). r.place) is;
      count = more;
      goes_on = noted m start base old new event said reply acts served zero is_event is more room;
      steps = subst (λ (r : Reply). StepsTo m.stands m.trusts old.now event (m.told new.now) r new.now) same (not_memory _ _ _ served acts.answered);
      called = acts.called served;
      crash = acts.crash served;
      counted = not_memory _ _ _ served acts.counted;
    }

rises_no_more : (n : ℕ) (a b c : ℕ × ℕ) → RiseBy n a b → RiseBy 0 b c → RiseBy n a c
rises_no_more n a b c p q = λ first second.
    let later = q first second in
    let earlier = p later.0 later.1 in
    (earlier.0, earlier.1, omega (arith, earlier.2, later.2))

-- what wanted memory keeps what a room keeps
pub stayed : {M : Type 0} (m : Behaviour M) (start : State → Type 0) (base : ℕ × ℕ) (now then : M) (entries : List Entry) (cap : ℕ)
    → Upholds m start base now entries cap → Stays m.stands now then
    → ((s : State) → m.stands now s → RiseBy 0 (m.failures now) (m.failures then)) → m.sessions then ≤ m.sessions now
    → Upholds m start base then entries cap
stayed m start base now then entries cap kept stays counts fewer = record {
  legal = λ s began premise. let before = kept.legal s began premise in (before.0, before.1, stays before.0 before.2);
  counted = λ s began premise.
      let before = kept.legal s began premise in
      let so_far = kept.counted s began premise in
      (so_far.0, rises_no_more _ _ _ _ so_far.1 (counts before.0 before.2));
  numbered = kept.numbered;
  happened = kept.happened;
  reserved = omega (arith, kept.reserved, fewer);
}

-- an event that wanted memory
pub left_out : {M : Type 0} (m : Behaviour M) (start : State → Type 0) (base : ℕ × ℕ) (old new : Numbered M) (event : Event) (said : Reply)
    → Acts m old.now event said new.now
    → is_memory said.detail ≡ true → new.count ≡ old.count → m.sessions new.now ≤ m.sessions old.now
    → Leaves m start base old event said new
left_out m start base old new event said acts wanted same fewer =
    let pinned = acts.pinned wanted in
    let stays = was_memory _ _ _ wanted acts.answered in
    record {
      reply_is = pinned.1;
      wanted = inl pinned.0;
      count = same;
      goes_on = λ entries stood.
          subst (λ (xs : List Entry). Stands m start base new xs) (sym (append-nil entries)) (record {
            upholds = stayed m start base old.now new.now entries most_numbers stood.upholds stays (was_memory _ _ _ wanted acts.counted) fewer;
            count_is = same ∙ stood.count_is;
          });
      stays = stays;
    }

pub twice : {M : Type 0} (m : Behaviour M) (start : State → Type 0) (base : ℕ × ℕ) → GoesOnTwice m start base
twice m start base a b c first second one other = λ entries stood.
    subst (λ (xs : List Entry). Stands m start base c xs) (append_assoc entries first second) (other (entries ++ first) (one entries stood))

-- it stands for a history still
pub has_more : {M : Type 0} (m : Behaviour M) (start : State → Type 0) (base : ℕ × ℕ) (old new : Numbered M) (more : List Entry)
    → GoesOn m start base old more new → HasHistory m start base old → HasHistory m start base new
has_more m start base old new more goes h = (h.0 ++ more, goes h.0 h.1)

pub so_true : (A B : Type 0) (b : Bool) → b ≡ true → A → MatchBool b A B
so_true A B true e h = h
so_true A B false e h = absurd (cc e)

pub so_false : (A B : Type 0) (b : Bool) → b ≡ false → B → MatchBool b A B
so_false A B false e h = h
so_false A B true e h = absurd (cc e)

-- a connect that found no memory connects nobody
pub none_more : (r : Result ℕ ConnectFault) (a b : ℕ) → is_memory (connect_reply r).detail ≡ true → MatchResult r (λ _. b ≡ a + 1) (λ _. b ≡ a) → b ≤ a
none_more (Ok n) a b is h = absurd (cc is)
none_more (Err e) a b is h = omega arith

-- each history that it stands for promises what a room's book does
pub promised : {M : Type 0} (m : Behaviour M) (start : State → Type 0) (base : ℕ × ℕ) (c : Numbered M) → ReachedPromises → AllPromise m start base c
promised m start base c law = λ entries stood s began opens premise.
    let legal = stood.upholds.legal s began premise in
    let reached : IsReached s (plain_entries entries) legal.0 = record { opens = opens; happened = stood.upholds.happened; leads = legal.1 } in
    let kept = law s legal.0 (plain_entries entries) reached in
    (legal.0, reached, legal.2, kept.0, kept.1, kept.2)
