-- A room is what its manager is, and its receipts lead to what that stands for.
use Rattle.std.proofs.Common.{◌≡◌, ◌∙◌, ℕ, ◌+◌, ◌<◌, inl, inr, Bool, true, false, Option, Some, None, List, [], ◌∷◌, ◌++◌, length, map, refl, sym, ap, subst, arith}
use Rattle.std.proofs.lemmas.List.{length-map, map-append}
use Rattle.std.proofs.lemmas.List.Elements.{All-from_recursion, All-get_or}
use Rattle.std.specs.List.{AllByRecursion}
use Rattle.std.specs.Prelude.{IsSomeAnd, MatchBool}
use Rattle.xa_assoc.specs.Refusals.{is_memory}
use Rattle.xa_frame.specs.declared.reply.Reply.{Reply}
use Rattle.xa_manager.specs.Believed.Together.{asked_at}
use Rattle.xa_manager.specs.declared.pending.PendingGroup.{PendingGroup}
use Rattle.xa_manager.specs.declared.together.Asked.{Asked}
use Rattle.xa_model.specs.Answer.{Answer}
use Rattle.xa_model.specs.Events.{HaveHappened, IsAsked, IsEvent}
use Rattle.xa_model.specs.History.{Leads, Steps}
use Rattle.xa_model.specs.State.{State}
use Rattle.xa_model.specs.Step.{step}
use Rattle.xa_model.specs.Turn as turn
use Rattle.xa_model.specs.declared.event.Event.{Event}
use Rattle.xa_model.specs.declared.outcome.Outcome.{Outcome}
use Rattle.xa_model.specs.declared.outcome.Outcome.TheVariants.{Appended, Joined}
use Rattle.xa_history.specs.Believed.Book.{AreNumbered, entry_of, plain_entries, receipt_of}
use Rattle.xa_history.specs.Believed.Manages.{Acts, Behaviour, Stays, StepsTo}
use Rattle.xa_history.specs.Believed.Together.{AnswersNone, AnswersTogether, AreUnplaced, IsToldOf, event_at, told_entry}
use Rattle.xa_history.specs.declared.entry.Entry.{Entry}
use Rattle.xa_history.specs.declared.receipt.Receipt.{Receipt}
use Rattle.xa_sequencer.specs.Believed.GroupManager.{GroupManager, IsItsGroup, alone, beside}
use Rattle.xa_room.specs.Believed.Recorded.{IsReached, Recorded, inner, recorded}
use Rattle.xa_room.specs.Keeping.{Keeps, Kept, Notes, NotesAll, receipt_at}

-- ---- a receipt more

leads_one : (s : State) (es : List Entry) (t u : State) (event : Event) (outcome : Outcome) (reply : Reply) → Leads s (plain_entries es) t
    → Steps t (record { happening = turn.Asked event; outcome = outcome; reply = reply }) u → reply.place ≡ 0 → (n : ℕ)
    → Leads s (plain_entries (es ++ entry_of n event outcome reply ∷ [])) u
leads_one s [] t u event outcome reply same steps zero n = (
  u,
  subst (λ (x : State). step x (turn.Asked event) outcome ≡ Some (record { reply = record reply { place = 0 }; after = u })) same
      (steps ∙ (λ i. Some (record { reply = record reply { place = zero i }; after = u }))),
  refl,
)
leads_one s (e ∷ es) t u event outcome reply leads steps zero n = (leads.0, leads.1, leads_one leads.0 es t u event outcome reply leads.2 steps zero n)

numbered_one : (k : ℕ) (es : List Entry) (event : Event) (outcome : Outcome) (reply : Reply) (n : ℕ) → AreNumbered k es → n ≡ k + length es + 1
    → AreNumbered k (es ++ entry_of n event outcome reply ∷ [])
numbered_one k [] event outcome reply n h is = (omega arith, omega arith, tt)
numbered_one k (e ∷ es) event outcome reply n h is = (h.0, h.1, numbered_one (k + 1) es event outcome reply n h.2 (omega arith))

happened_one : (es : List Entry) (event : Event) (outcome : Outcome) (reply : Reply) (n : ℕ) → HaveHappened (plain_entries es) → IsEvent event
    → HaveHappened (plain_entries (es ++ entry_of n event outcome reply ∷ []))
happened_one [] event outcome reply n h is = (is, tt)
happened_one (e ∷ es) event outcome reply n h is = (h.0, happened_one es event outcome reply n h.1 is)

module _ (start : State → Type 0) where
  reached_one : (kept : List Receipt) (s t : State) (event : Event) (outcome : Outcome) (reply : Reply) (n : ℕ) → IsReached start kept s → IsEvent event
      → Steps s (record { happening = turn.Asked event; outcome = outcome; reply = reply }) t → reply.place ≡ 0 → n ≡ length kept + 1
      → IsReached start (kept ++ receipt_at n event reply ∷ []) t
  reached_one kept s t event outcome reply n r is_event steps zero is =
      let many : length r.entries ≡ length kept = sym (length-map r.entries receipt_of) ∙ ap length r.receipts in
      record {
        from = r.from;
        begins = r.begins;
        entries = r.entries ++ entry_of n event outcome reply ∷ [];
        receipts = map-append receipt_of r.entries (entry_of n event outcome reply ∷ []) ∙ ap (λ (rs : List Receipt). rs ++ receipt_at n event reply ∷ []) r.receipts;
        numbered = numbered_one 0 r.entries event outcome reply n r.numbered (omega (arith, is, many));
        happened = happened_one r.entries event outcome reply n r.happened is_event;
        leads = leads_one r.from r.entries s t event outcome reply r.leads steps zero n;
      }

  -- what holds of the receipts, if none was lost
  abbrev Reaches : Kept → State → Type 0
  Reaches k s = k.lost ≡ 0 → IsReached start k.receipts s

  kept_one : (old new : Kept) (s t : State) (event : Event) (outcome : Outcome) (reply : Reply) → Keeps old event reply new → Reaches old s → IsEvent event
      → Steps s (record { happening = turn.Asked event; outcome = outcome; reply = reply }) t → reply.place ≡ 0 → Reaches new t
  kept_one old new s t event outcome reply (inl (few, more)) reached is_event steps zero none =
      let none_before : old.lost ≡ 0 = sym (ap (λ (k : Kept). k.lost) more) ∙ none in
      let first = reached_one old.receipts s t event outcome reply _ (reached none_before) is_event steps zero (omega (arith, few, none_before)) in
      subst (λ (rs : List Receipt). IsReached start rs t) (sym (ap (λ (k : Kept). k.receipts) more)) first
  kept_one old new s t event outcome reply (inr lost) reached is_event steps zero none =
      absurd (omega (arith, ap (λ (k : Kept). k.lost) lost, none))

  kept_same : (old new : Kept) (s : State) → new ≡ old → Reaches old s → Reaches new s
  kept_same old new s same reached = subst (λ (k : Kept). Reaches k s) (sym same) reached

-- ---- an event

found : (A B : Type 0) (b : Bool) → b ≡ false → MatchBool b A B → B
found A B false e h = h
found A B true e h = absurd (cc e)

both_ways : (b : Bool) (A B N K C E : Type 0) → (A → N → C) → (B → K → E) → MatchBool b A B → MatchBool b N K → MatchBool b C E
both_ways true A B N K C E f g h k = f h k
both_ways false A B N K C E f g h k = g h k

each_way : (b : Bool) (A B C E : Type 0) → (A → C) → (B → E) → MatchBool b A B → MatchBool b C E
each_way true A B C E f g h = f h
each_way false A B C E f g h = g h

some_and : (o : Option Answer) (P Q : Answer → Type 0) → ((a : Answer) → o ≡ Some a → P a → Q a) → IsSomeAnd o P → IsSomeAnd o Q
some_and None P Q f h = absurd h
some_and (Some a) P Q f h = f a refl h

-- a room of these parts
abbrev pub room : {M : Type 0} → M → Kept → Recorded M
room x k = record { manager = x; kept = k.receipts; lost = k.lost }

-- its receipts
abbrev pub kept_in : {M : Type 0} → Recorded M → Kept
kept_in r = record { receipts = r.kept; lost = r.lost }

module _ {M : Type 0} (m : Behaviour (GroupManager M)) (start : State → Type 0) where
  steps_on : (old new : GroupManager (Recorded M)) (event : Event) (outcome : Outcome) (reply : Reply) → IsEvent event → reply.place ≡ 0
      → StepsTo m.stands m.trusts (inner old) event outcome reply (inner new) → Keeps (kept_in old.manager) event reply (kept_in new.manager)
      → StepsTo (recorded m start).stands m.trusts old event outcome reply new
  steps_on old new event outcome reply is_event zero steps keeps = λ s stood premise.
      some_and (step s (turn.Asked event) outcome) _ _
      (λ a is did. (
        did.0,
        (
          did.1,
          kept_one start (kept_in old.manager) (kept_in new.manager) s a.after event outcome reply keeps stood.1 is_event
              (is ∙ (λ i. Some (record { reply = did.0 i; after = a.after }))) zero,
        ),
      ))
      (steps s stood.0 premise)

  stays_on : (old new : GroupManager (Recorded M)) → Stays m.stands (inner old) (inner new) → kept_in new.manager ≡ kept_in old.manager
      → Stays (recorded m start).stands old new
  stays_on old new stays same = λ s stood. (stays s stood.0, kept_same start (kept_in old.manager) (kept_in new.manager) s same stood.1)

  -- an event that the manager answered, and of which the receipt is kept
  acted : (old new : GroupManager (Recorded M)) (event : Event) (reply : Reply) → IsEvent event → reply.place ≡ 0
      → Acts m (inner old) event reply (inner new) → Notes (kept_in old.manager) event reply (kept_in new.manager)
      → Acts (recorded m start) old event reply new
  acted old new event reply is_event zero acts notes = record {
    answered = both_ways (is_memory reply.detail) _ _ _ _ _ _
        (stays_on old new) (steps_on old new event (m.told (inner new)) reply is_event zero) acts.answered notes;
    pinned = acts.pinned;
    called = λ served s stood premise. acts.called served s stood.0 premise;
    crash = acts.crash;
    counted = each_way (is_memory reply.detail) _ _ _ _
        (λ counts s stood. counts s stood.0) (λ counts s stood premise. counts s stood.0 premise) acts.counted;
  }

  -- no call
  rested : (old new : GroupManager (Recorded M)) → AnswersNone m (inner old) (inner new) → kept_in new.manager ≡ kept_in old.manager
      → AnswersNone (recorded m start) old new
  rested old new rests same = record { stays = stays_on old new rests.stays same; counted = rests.counted }

-- ---- calls that are answered together

one_asked : (calls : List Asked) (r : ℕ × Reply) → AllByRecursion (λ c. IsAsked c.request) calls → r.0 < length calls → IsAsked (asked_at calls r.0).request
one_asked calls r asked within = All-get_or (λ (c : Asked). IsAsked c.request) calls r.0 _ within (All-from_recursion (λ (c : Asked). IsAsked c.request) calls asked)

module _ (start : State → Type 0) (calls : List Asked) (asked : AllByRecursion (λ c. IsAsked c.request) calls) where
  told_one : (o : Outcome) (r : ℕ × Reply) (old new : Kept) (s t : State) → IsToldOf calls r → r.1.place ≡ 0 → Notes old (event_at calls r.0) r.1 new → Reaches start old s
      → Steps s (told_entry calls o r) t → Reaches start new t
  told_one o r old new s t told zero notes reached steps =
      kept_one start old new s t (event_at calls r.0) o r.1 (found _ _ _ told.found notes) reached (one_asked calls r asked told.within) steps zero

  told_all : (o : Outcome) (rs : List (ℕ × Reply)) (old new : Kept) (s t : State) → AllByRecursion (IsToldOf calls) rs → AreUnplaced rs → NotesAll calls old rs new
      → Reaches start old s → Leads s (map (told_entry calls o) rs) t → Reaches start new t
  told_all o [] old new s t told zero notes reached leads =
      subst (λ (x : State). Reaches start new x) (sym leads) (kept_same start old new s notes reached)
  told_all o (r ∷ rs) old new s t told zero notes reached leads =
      told_all o rs notes.0 new leads.0 t told.1 zero.1 notes.2
      (told_one o r old notes.0 s leads.0 told.0 zero.0 notes.1 reached leads.1) leads.2

each_within : (calls : List Asked) (rs : List (ℕ × Reply)) → AllByRecursion (IsToldOf calls) rs → AllByRecursion (λ r. r.0 < length calls) rs
each_within calls [] h = tt
each_within calls (r ∷ rs) h = (h.0.within, each_within calls rs h.1)

module _ {M : Type 0} (m : Behaviour (GroupManager M)) (start : State → Type 0) where
  together : (old new : GroupManager (Recorded M)) (calls : List Asked) (replies : List (ℕ × Reply)) → AllByRecursion (λ c. IsAsked c.request) calls
      → AnswersTogether m (inner old) calls replies (inner new) → NotesAll calls (kept_in old.manager) replies (kept_in new.manager)
      → AnswersTogether (recorded m start) old calls replies new
  together old new calls [] asked rests notes = rested m start old new rests notes
  together old new calls (r ∷ rs) asked acts notes =
      let did = acts.1 in (
        acts.0,
        record {
          told = did.told;
          unplaced = did.unplaced;
          leads = λ s stood.
              let to = did.leads s stood.0 in
              let first = told_one start calls asked (Appended acts.0) r (kept_in old.manager) notes.0 s to.1.0 did.told.0 did.unplaced.0 notes.1 stood.1 to.1.1 in
              (to.0, to.1, (to.2, told_all start calls asked (Joined acts.0) rs notes.0 (kept_in new.manager) to.1.0 to.0 did.told.1 did.unplaced.1 notes.2 first to.1.2));
          called = λ s stood. did.called s stood.0;
          crash = did.crash;
          counted = λ s stood. did.counted s stood.0;
        },
      )

  pub all_within : (old new : GroupManager M) (calls : List Asked) (replies : List (ℕ × Reply)) → AnswersTogether m old calls replies new
      → AllByRecursion (λ r. r.0 < length calls) replies
  all_within old new calls [] acts = tt
  all_within old new calls (r ∷ rs) acts = each_within calls (r ∷ rs) acts.1.told

  pub acted_with : (x x' : M) (k k' : Kept) (p : Option PendingGroup) (now : Recorded M) (event : Event) (reply : Reply) → room x k ≡ now
      → IsEvent event → reply.place ≡ 0
      → Acts m (record { manager = x; pending = p }) event reply (record { manager = x'; pending = p }) → Notes k event reply k'
      → Acts (recorded m start) (record { manager = now; pending = p }) event reply (record { manager = room x' k'; pending = p })
  acted_with x x' k k' p now event reply is is_event zero acts notes =
      subst (λ (r : Recorded M). Acts (recorded m start) (record { manager = r; pending = p }) event reply (record { manager = room x' k'; pending = p })) is
      (acted m start (record { manager = room x k; pending = p }) (record { manager = room x' k'; pending = p }) event reply is_event zero acts notes)

  pub together_with : (x x' : M) (k k' : Kept) (f : PendingGroup) (now : Recorded M) (calls : List Asked) (replies : List (ℕ × Reply)) → room x k ≡ now
      → AllByRecursion (λ c. IsAsked c.request) calls
      → AnswersTogether m (beside x f) calls replies (alone x') → NotesAll calls k replies k'
      → AnswersTogether (recorded m start) (beside now f) calls replies (alone (room x' k'))
  together_with x x' k k' f now calls replies is asked acts notes =
      subst (λ (r : Recorded M). AnswersTogether (recorded m start) (beside r f) calls replies (alone (room x' k'))) is
      (together (beside (room x k) f) (alone (room x' k')) calls replies asked acts notes)

-- ---- the pending group is its manager's

module _ {M : Type 0} (is_group : M → PendingGroup → Type 0) (asked : PendingGroup → Type 0) where
  pub inner_group : (x : M) (k : Kept) (now : Recorded M) (p : Option PendingGroup) → room x k ≡ now → IsItsGroup (λ (r : Recorded M) f. is_group r.manager f × asked f) now p
      → IsItsGroup is_group x p
  inner_group x k now None is h = tt
  inner_group x k now (Some f) is h = subst (λ (r : Recorded M). is_group r.manager f) (sym is) h.0

  pub group_still : (now then : Recorded M) (p : Option PendingGroup) → IsItsGroup (λ (r : Recorded M) f. is_group r.manager f × asked f) now p → IsItsGroup is_group then.manager p
      → IsItsGroup (λ (r : Recorded M) f. is_group r.manager f × asked f) then p
  group_still now then None h g = tt
  group_still now then (Some f) h g = (g, h.1)
