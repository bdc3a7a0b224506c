-- Entries more: those of calls that were asked together.
use Rattle.std.proofs.Common.{◌≡◌, ℕ, ◌+◌, ◌≤◌, ◌<◌, ◌⊎◌, ◌∙◌, inl, inr, List, [], ◌∷◌, ◌++◌, length, take, drop, map, None, refl, sym, ap, subst, arith, length-append, append-nil, Option, Some}
use Rattle.std.specs.List.{AllByRecursion}
use Rattle.std.proofs.lemmas.List.Elements.{All-from_recursion, All-get_or}
use Rattle.xa_frame.specs.declared.reply.Reply.{Reply}
use Rattle.xa_manager.specs.Believed.Counted.{RiseBy, failures_in, failures_of}
use Rattle.xa_manager.specs.Once.{AreOnce}
use Rattle.xa_manager.specs.Believed.Together.{asked_at}
use Rattle.xa_manager.specs.declared.together.Asked.{Asked}
use Rattle.xa_model.specs.Events.{HaveHappened, IsAsked}
use Rattle.xa_model.specs.History as history
use Rattle.xa_model.specs.History.{JoinAfter, Leads, append_in}
use Rattle.xa_model.specs.State.{State}
use Rattle.xa_model.specs.Turn as turn
use Rattle.xa_model.specs.declared.event.Event.{Event}
use Rattle.xa_model.specs.declared.outcome.Appending.{Appending}
use Rattle.xa_model.specs.declared.outcome.Outcome.{Outcome}
use Rattle.xa_model.specs.declared.outcome.Outcome.TheVariants.{Appended, Joined}
use Rattle.xa_history.specs.Believed.Book.{AreNumbered, HasNoRestart, placed, plain_entries}
use Rattle.xa_history.specs.Believed.Together.{ActsTogether, AnswersNone, AnswersTogether, AreUnplaced, IsToldOf, event_at, events_of, told_entries, told_entry}
use Rattle.xa_history.specs.Believed.Upholds.{Upholds}
use Rattle.xa_history.specs.declared.entry.Entry.{Entry}
use Rattle.xa_history.specs.Believed.Manages.{Behaviour}
use Rattle.xa_sequencer.specs.Manages.{ArePending, KeepsPending, pending_count}
use Rattle.xa_sequencer.specs.Believed.Stands.{GoesOn, HasHistory, Numbered, Stands, most_numbers}
use Rattle.xa_sequencer.specs.Believed.Together.{AddsTogether, ArePlaced, CalledTogether, Rests, entries_for, entry_for, placed_from}
use Rattle.xa_sequencer.proofs.Adding.{has_more, stayed}
use Rattle.xa_sequencer.proofs.Few.{few}
use Rattle.xa_sequencer.proofs.Placing.{whole}

-- ---- histories one after another

leads_append : (s : State) (es : List Entry) (t : State) (more : List Entry) (u : State) → Leads s (plain_entries es) t → Leads t (plain_entries more) u
    → Leads s (plain_entries (es ++ more)) u
leads_append s [] t more u first rest = subst (λ (x : State). Leads x (plain_entries more) u) first rest
leads_append s (e ∷ es) t more u first rest = (first.0, first.1, leads_append first.0 es t more u first.2 rest)

numbered_append : (k : ℕ) (es more : List Entry) → AreNumbered k es → AreNumbered (k + length es) more → AreNumbered k (es ++ more)
numbered_append k [] more first rest = subst (λ (n : ℕ). AreNumbered n more) (omega arith) rest
numbered_append k (e ∷ es) more first rest =
    let same : k + length (e ∷ es) ≡ k + 1 + length es = omega arith in
    (first.0, first.1, numbered_append (k + 1) es more first.2 (subst (λ (n : ℕ). AreNumbered n more) same rest))

happened_append : (es more : List Entry) → HaveHappened (plain_entries es) → HaveHappened (plain_entries more) → HaveHappened (plain_entries (es ++ more))
happened_append [] more first rest = rest
happened_append (e ∷ es) more first rest = (first.0, happened_append es more first.1 rest)

failures_append : (es more : List Entry) → failures_of (plain_entries (es ++ more)) ≡ failures_of (plain_entries es) + failures_of (plain_entries more)
failures_append [] more = omega arith
failures_append (e ∷ es) more = omega (arith, failures_append es more)

after_append : (before : Option Appending) (es more : List Entry) → JoinAfter before (plain_entries es)
    → ((last : Option Appending) → JoinAfter last (plain_entries more)) → JoinAfter before (plain_entries (es ++ more))
after_append before [] more first rest = rest before
after_append before (e ∷ es) more first rest = (first.0, after_append (append_in e.outcome) es more first.1 rest)

no_restart_before : (es more : List Entry) → HasNoRestart (es ++ more) → HasNoRestart es
no_restart_before [] more h = tt
no_restart_before (e ∷ es) more h = (h.0, no_restart_before es more h.1)

premise_before : (trusts : Type 0) (es more : List Entry) → trusts ⊎ HasNoRestart (es ++ more) → trusts ⊎ HasNoRestart es
premise_before trusts es more (inl t) = inl t
premise_before trusts es more (inr h) = inr (no_restart_before es more h)

-- ---- replies with their places

length_placed : (k : ℕ) (rs : List (ℕ × Reply)) → length (placed_from k rs) ≡ length rs
length_placed k [] = refl
length_placed k (r ∷ rs) = omega (arith, length_placed (k + 1) rs)

-- a vector whose replies were all placed
pub placed_whole : (n k : ℕ) (rs before then : List (ℕ × Reply)) → then ≡ placed_from k before → before ≡ rs → length rs ≤ n → take n (then ++ drop (length then) rs) ≡ placed_from k rs
placed_whole n k rs before then is same le =
    let placed = is ∙ ap (placed_from k) same in
    whole n rs then (ap length placed ∙ length_placed k rs) le ∙ placed

are_placed : (k : ℕ) (rs : List (ℕ × Reply)) → ArePlaced k (placed_from k rs)
are_placed k [] = tt
are_placed k (r ∷ rs) = (refl, are_placed (k + 1) rs)

pub placed_told : (calls : List Asked) (k : ℕ) (rs : List (ℕ × Reply)) → AllByRecursion (IsToldOf calls) rs → AllByRecursion (IsToldOf calls) (placed_from k rs)
placed_told calls k [] h = tt
placed_told calls k (r ∷ rs) h = (record { within = h.0.within; found = h.0.found; limits = h.0.limits }, placed_told calls (k + 1) rs h.1)

placed_apart : (n k : ℕ) (rs : List (ℕ × Reply)) → AllByRecursion (λ q. q.0 ≡ n → ⊥) rs → AllByRecursion (λ q. q.0 ≡ n → ⊥) (placed_from k rs)
placed_apart n k [] h = tt
placed_apart n k (r ∷ rs) h = (h.0, placed_apart n (k + 1) rs h.1)

pub placed_once : (k : ℕ) (rs : List (ℕ × Reply)) → AreOnce rs → AreOnce (placed_from k rs)
placed_once k [] h = tt
placed_once k (r ∷ rs) h = (placed_apart r.0 (k + 1) rs h.0, placed_once (k + 1) rs h.1)

placed_events : (calls : List Asked) (k : ℕ) (rs : List (ℕ × Reply)) → events_of calls (placed_from k rs) ≡ events_of calls rs
placed_events calls k [] = refl
placed_events calls k (r ∷ rs) = ap (λ (es : List Event). event_at calls r.0 ∷ es) (placed_events calls (k + 1) rs)

all_within : (calls : List Asked) (rs : List (ℕ × Reply)) → AllByRecursion (IsToldOf calls) rs → AllByRecursion (λ q. q.0 < length calls) rs
all_within calls [] h = tt
all_within calls (r ∷ rs) h = (h.0.within, all_within calls rs h.1)

-- ---- the entries of a group

one_plain : (calls : List Asked) (o : Outcome) (k : ℕ) (r : ℕ × Reply) → r.1.place ≡ 0
    → told_entry calls o r ≡ record { happening = turn.Asked (event_at calls r.0); outcome = o; reply = record r.1 { place = 0 } }
one_plain calls o k r zero = λ i. record { happening = turn.Asked (event_at calls r.0); outcome = o; reply = record r.1 { place = zero i } }

all_plain : (calls : List Asked) (o : Outcome) (k : ℕ) (rs : List (ℕ × Reply)) → AreUnplaced rs
    → map (told_entry calls o) rs ≡ plain_entries (map (entry_for calls o) (placed_from k rs))
all_plain calls o k [] h = refl
all_plain calls o k (r ∷ rs) h = λ i. one_plain calls o (k + 1) r h.0 i ∷ all_plain calls o (k + 1) rs h.1 i

-- the group, with the places after k
abbrev group_from : ℕ → List Asked → Appending → ℕ × Reply → List (ℕ × Reply) → List Entry
group_from k calls a r rs = entries_for calls a (r.0, placed (k + 1) r.1) (placed_from (k + 1) rs)

group_plain : (calls : List Asked) (a : Appending) (k : ℕ) (r : ℕ × Reply) (rs : List (ℕ × Reply)) → AreUnplaced (r ∷ rs)
    → told_entries calls a r rs ≡ plain_entries (group_from k calls a r rs)
group_plain calls a k r rs h = λ i. one_plain calls (Appended a) (k + 1) r h.0 i ∷ all_plain calls (Joined a) (k + 1) rs h.1 i

all_numbered : (calls : List Asked) (o : Outcome) (k : ℕ) (rs : List (ℕ × Reply)) → AreNumbered k (map (entry_for calls o) (placed_from k rs))
all_numbered calls o k [] = tt
all_numbered calls o k (r ∷ rs) = (refl, refl, all_numbered calls o (k + 1) rs)

group_numbered : (calls : List Asked) (a : Appending) (k : ℕ) (r : ℕ × Reply) (rs : List (ℕ × Reply)) → AreNumbered k (group_from k calls a r rs)
group_numbered calls a k r rs = (refl, refl, all_numbered calls (Joined a) (k + 1) rs)

all_length : (calls : List Asked) (o : Outcome) (k : ℕ) (rs : List (ℕ × Reply)) → length (map (entry_for calls o) (placed_from k rs)) ≡ length rs
all_length calls o k [] = refl
all_length calls o k (r ∷ rs) = omega (arith, all_length calls o (k + 1) rs)

group_length : (calls : List Asked) (a : Appending) (k : ℕ) (r : ℕ × Reply) (rs : List (ℕ × Reply)) → length (group_from k calls a r rs) ≡ length (r ∷ rs)
group_length calls a k r rs = omega (arith, all_length calls (Joined a) (k + 1) rs)

one_asked : (calls : List Asked) (r : ℕ × Reply) → AllByRecursion (λ c. IsAsked c.request) calls → r.0 < length calls → IsAsked (asked_at calls r.0).request
one_asked calls r asked within = All-get_or (λ (c : Asked). IsAsked c.request) calls r.0 _ within (All-from_recursion (λ (c : Asked). IsAsked c.request) calls asked)

all_happened : (calls : List Asked) (o : Outcome) (k : ℕ) (rs : List (ℕ × Reply)) → AllByRecursion (λ c. IsAsked c.request) calls → AllByRecursion (IsToldOf calls) rs
    → HaveHappened (plain_entries (map (entry_for calls o) (placed_from k rs)))
all_happened calls o k [] asked told = tt
all_happened calls o k (r ∷ rs) asked told = (one_asked calls r asked told.0.within, all_happened calls o (k + 1) rs asked told.1)

group_happened : (calls : List Asked) (a : Appending) (k : ℕ) (r : ℕ × Reply) (rs : List (ℕ × Reply)) → AllByRecursion (λ c. IsAsked c.request) calls
    → AllByRecursion (IsToldOf calls) (r ∷ rs) → HaveHappened (plain_entries (group_from k calls a r rs))
group_happened calls a k r rs asked told = (one_asked calls r asked told.0.within, all_happened calls (Joined a) (k + 1) rs asked told.1)

all_join : (calls : List Asked) (a : Appending) (k : ℕ) (rs : List (ℕ × Reply)) → JoinAfter (Some a) (plain_entries (map (entry_for calls (Joined a)) (placed_from k rs)))
all_join calls a k [] = tt
all_join calls a k (r ∷ rs) = ((λ joined. refl), all_join calls a (k + 1) rs)

group_joins : (calls : List Asked) (a : Appending) (k : ℕ) (r : ℕ × Reply) (rs : List (ℕ × Reply)) (last : Option Appending)
    → JoinAfter last (plain_entries (group_from k calls a r rs))
group_joins calls a k r rs last = ((λ joined. cc joined), all_join calls a (k + 1) rs)

all_quiet : (calls : List Asked) (a : Appending) (k : ℕ) (rs : List (ℕ × Reply)) → failures_of (plain_entries (map (entry_for calls (Joined a)) (placed_from k rs))) ≡ 0
all_quiet calls a k [] = refl
all_quiet calls a k (r ∷ rs) = omega (arith, all_quiet calls a (k + 1) rs)

group_failures : (calls : List Asked) (a : Appending) (k : ℕ) (r : ℕ × Reply) (rs : List (ℕ × Reply))
    → failures_of (plain_entries (group_from k calls a r rs)) ≡ failures_in (Appended a)
group_failures calls a k r rs = omega (arith, all_quiet calls a (k + 1) rs)

rises_both : (m n : ℕ) (a b c : ℕ × ℕ) → RiseBy m a b → RiseBy n b c → RiseBy (m + n) a c
rises_both m n a b c p q = λ first second.
    let later = q first second in
    let earlier = p later.0 later.1 in
    (earlier.0, earlier.1, omega (arith, earlier.2, later.2))

-- ---- a group more

module _ {M : Type 0} (m : Behaviour M) (start : State → Type 0) (base : ℕ × ℕ) where
  -- a group keeps what a room keeps
  kept_group : (now then : M) (es : List Entry) (cap : ℕ) (calls : List Asked) (r : ℕ × Reply) (rs : List (ℕ × Reply)) (a : Appending)
      → Upholds m start base now es cap
      → ActsTogether m now calls r rs a then
      → AllByRecursion (λ c. IsAsked c.request) calls
      → length es + length (r ∷ rs) + m.sessions then ≤ cap
      → Upholds m start base then (es ++ group_from (length es) calls a r rs) cap
  kept_group now then es cap calls r rs a kept acts asked room =
      let more = group_from (length es) calls a r rs in
      record {
        legal = λ s began premise.
            let before = kept.legal s began (premise_before m.trusts es more premise) in
            let next = acts.leads before.0 before.2 in
            let plain = subst (λ (xs : List history.Entry). Leads before.0 xs next.0) (group_plain calls a (length es) r rs acts.unplaced) next.1 in
            (next.0, leads_append s es before.0 more next.0 before.1 plain, next.2);
        counted = λ s began premise.
            let before = kept.legal s began (premise_before m.trusts es more premise) in
            let so_far = kept.counted s began (premise_before m.trusts es more premise) in
            let sum : failures_of (plain_entries es) + failures_in (Appended a) ≡ failures_of (plain_entries (es ++ more)) =
            omega (arith, failures_append es more, group_failures calls a (length es) r rs) in
            let risen = rises_both _ _ _ _ _ so_far.1 (acts.counted before.0 before.2) in (
              after_append None es more so_far.0 (group_joins calls a (length es) r rs),
              subst (λ (n : ℕ). RiseBy n base (m.failures then)) sum risen,
            );
        numbered = numbered_append 0 es more kept.numbered (subst (λ (n : ℕ). AreNumbered n more) (omega arith) (group_numbered calls a (length es) r rs));
        happened = happened_append es more kept.happened (group_happened calls a (length es) r rs asked acts.told);
        reserved = omega (arith, room, length-append es more, group_length calls a (length es) r rs);
      }

  goes_on : (old new : Numbered M) (calls : List Asked) (r : ℕ × Reply) (rs : List (ℕ × Reply)) (a : Appending)
      → ActsTogether m old.now calls r rs a new.now
      → AllByRecursion (λ c. IsAsked c.request) calls
      → new.count ≡ old.count + length (r ∷ rs) → new.count + m.sessions new.now ≤ most_numbers
      → GoesOn m start base old (group_from old.count calls a r rs) new
  goes_on old new calls r rs a acts asked more room = λ entries stood.
      let group = group_from (length entries) calls a r rs in
      subst (λ (n : ℕ). Stands m start base new (entries ++ group_from n calls a r rs)) (sym stood.count_is) (record {
        upholds = kept_group old.now new.now entries most_numbers calls r rs a stood.upholds acts asked (omega (arith, room, more, stood.count_is));
        count_is = omega (arith, more, stood.count_is, length-append entries group, group_length calls a (length entries) r rs);
      })

  -- calls that were answered together
  adds : (old new : Numbered M) (calls : List Asked) (r : ℕ × Reply) (rs : List (ℕ × Reply)) (a : Appending)
      → ActsTogether m old.now calls r rs a new.now
      → AllByRecursion (λ c. IsAsked c.request) calls
      → new.count ≡ old.count + length (r ∷ rs) → new.count + m.sessions new.now ≤ most_numbers
      → AddsTogether m start base old calls (r.0, placed (old.count + 1) r.1) (placed_from (old.count + 1) rs) a new
  adds old new calls r rs a acts asked more room = record {
    told = placed_told calls old.count (r ∷ rs) acts.told;
    places = are_placed old.count (r ∷ rs);
    count = omega (arith, more, length_placed old.count (r ∷ rs));
    goes_on = goes_on old new calls r rs a acts asked more room;
    leads = λ s stands.
        let to = acts.leads s stands in
        (to.0, subst (λ (xs : List history.Entry). Leads s xs to.0) (group_plain calls a old.count r rs acts.unplaced) to.1, to.2);
    called = acts.called;
    crash = subst (λ (es : List Event). m.crashes_together es old.now new.now) (sym (placed_events calls old.count (r ∷ rs))) acts.crash;
    counted = acts.counted;
  }

  -- no call was answered
  pub rests : (old new : Numbered M) → AnswersNone m old.now new.now → new.count ≡ old.count
      → m.sessions new.now ≡ m.sessions old.now → Rests m start base old new
  rests old new kept same sessions = record {
    count = same;
    goes_on = λ entries stood.
        subst (λ (xs : List Entry). Stands m start base new xs) (sym (append-nil entries)) (record {
          upholds = stayed m start base old.now new.now entries most_numbers stood.upholds kept.stays (λ s stands. kept.counted) (omega (arith, sessions));
          count_is = same ∙ stood.count_is;
        });
    stays = kept.stays;
  }

  -- there are no more replies than calls
  no_more : (old then : M) (calls : List Asked) (replies : List (ℕ × Reply)) → AnswersTogether m old calls replies then → AreOnce replies → length replies ≤ length calls
  no_more old then calls [] acts once = omega arith
  no_more old then calls (r ∷ rs) acts once = few (length calls) (r ∷ rs) once (all_within calls (r ∷ rs) acts.1.told)

  pub all_told : (old then : M) (calls : List Asked) (replies : List (ℕ × Reply)) → AnswersTogether m old calls replies then → AllByRecursion (IsToldOf calls) replies
  all_told old then calls [] acts = tt
  all_told old then calls (r ∷ rs) acts = acts.1.told

  together : (old new : Numbered M) (calls : List Asked) (replies : List (ℕ × Reply)) → AnswersTogether m old.now calls replies new.now
      → AllByRecursion (λ c. IsAsked c.request) calls
      → new.count ≡ old.count + length replies → m.sessions new.now ≡ m.sessions old.now → new.count + m.sessions new.now ≤ most_numbers
      → CalledTogether m start base old calls (placed_from old.count replies) new
  together old new calls [] acts asked more sessions room = rests old new acts (omega (arith, more)) sessions
  together old new calls (r ∷ rs) acts asked more sessions room = (acts.0, adds old new calls r rs acts.0 acts.1 asked more room)

  -- numbers are left for the replies to the pending calls
  pub have_numbers : (has : M → Type 0) (p : Option (List Asked)) (now then : M) (count : ℕ) (calls : List Asked) (replies : List (ℕ × Reply)) → KeepsPending m has p now count
      → p ≡ Some calls → AnswersTogether m now calls replies then → AreOnce replies → count + m.sessions now + length replies ≤ most_numbers
  have_numbers has p now then count calls replies kept are acts once = omega (arith, kept.reserved, ap pending_count are, no_more now then calls replies acts once)

  -- they were called together
  pub called_together : (has : M → Type 0) (p : Option (List Asked)) (now then : M) (count more : ℕ) (calls : List Asked) (replies : List (ℕ × Reply)) → KeepsPending m has p now count
      → p ≡ Some calls → AnswersTogether m now calls replies then → AreOnce replies → more ≡ length replies → m.sessions then ≡ m.sessions now
      → CalledTogether m start base (record { now = now; count = count }) calls (placed_from count replies) (record { now = then; count = count + more })
  called_together has p now then count more calls replies kept are acts once as_many sessions =
      together (record { now = now; count = count }) (record { now = then; count = count + more }) calls replies acts (subst ArePending are kept.asked) (omega (arith, as_many)) sessions
      (omega (arith, as_many, sessions, have_numbers has p now then count calls replies kept are acts once))

  -- it stands for a history still
  pub has_history : (old new : Numbered M) (calls : List Asked) (replies : List (ℕ × Reply)) → CalledTogether m start base old calls replies new
      → HasHistory m start base old → HasHistory m start base new
  has_history old new calls [] did history = has_more m start base old new [] did.goes_on history
  has_history old new calls (r ∷ rs) did history = has_more m start base old new (entries_for calls did.0 r rs) did.1.goes_on history
