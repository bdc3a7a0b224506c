-- What is answered while a group is pending leaves it as it is.
use Rattle.std.proofs.Common.{◌≡◌, inr, ⊎_elim, ℕ, zero, suc, ◌<◌, ◌==◌, Bool, true, false, not, List, [], ◌∷◌, map, length, Option, None, Some, IsSomeAnd, refl, ap, sym, ◌∙◌, subst, arith}
use Rattle.std.specs.List.{AllByRecursion, list_all}
use Rattle.std.proofs.lemmas.Bool.{cases_Bool}
use Rattle.std.specs.Prelude.{get_or, option_and_then}
use Rattle.xa_codes.specs.declared.detail.Detail.TheVariants as detail
use Rattle.xa_disk.specs.declared.disk.Disk.{Ghosts}
use Rattle.xa_frame.specs.declared.reply.Reply.{Reply}
use Rattle.xa_frame.specs.declared.request.Request.{Request}
use Rattle.xa_frame.specs.declared.request.Request.TheVariants as kind
use Rattle.xa_log.specs.Reading.{bodies_of}
use Rattle.xa_log.specs.Written.{HasWritten}
use Rattle.xa_log.specs.Believed.LogView.{LogView}
use Rattle.xa_record.specs.Spelling.{spelled}
use Rattle.xa_xid.specs.Triple.{Triple, xid_eq}
use Rattle.xa_xid.proofs.Same.{xid_eq_itself, xid_same}
use Rattle.xa_model.specs.declared.event.Event.{Event}
use Rattle.xa_model.specs.declared.event.Event.TheVariants.{Connect, Hangup, Call}
use Rattle.xa_model.specs.declared.outcome.Outcome.TheVariants.{Quiet}
use Rattle.xa_model.specs.Answer.{Answer, detailed}
use Rattle.xa_model.specs.Laws.Together.{CallsApart, FindsSame, MayStandTogether, Part, StandsApart, is_over_of, is_quiet, logs_nothing, records_of}
use Rattle.xa_model.specs.State.{State, Association, Branch, Phase, Working, Prepared, Committed, known_of}
use Rattle.xa_model.specs.Early.{early_refusal}
use Rattle.xa_model.specs.Events.{IsAsked, IsEvent, asks_boot, begins_boot, is_restart}
use Rattle.xa_model.specs.Step.{respond, row, step, turn}
use Rattle.xa_model.specs.TimeLimits.{runs_out_in}
use Rattle.xa_model.specs.Turn.{Asked, Turn, Now, taken}
use Rattle.xa_model.proofs.Beside.{quiet_is_now, quiet_leaves_group}
use Rattle.xa_model.proofs.Inserts.{all_pass}
use Rattle.xa_model.proofs.Tests.{all_passed}
use Rattle.xa_manager.specs.declared.pending.PendingGroup.{PendingGroup}
use Rattle.xa_manager.specs.declared.manager.Manager.{Manager}
use Rattle.xa_manager.specs.declared.together.Asked as asked
use Rattle.xa_manager.specs.declared.together.Joining.{Joining}
use Rattle.xa_branch.specs.Branches.{working_at, working_by, working_in, working_known}
use Rattle.xa_branch.specs.Room.{AreRooms, rooms_of}
use Rattle.xa_branch.specs.declared.branches.Branches.{Branches}
use Rattle.xa_manager.specs.Believed.Answered.{IsPinned, may_want, memory_code}
use Rattle.xa_manager.specs.Believed.Parts.{with_log}
use Rattle.xa_manager.specs.Believed.Pending.{AnsweredBeside, AsksNoneOf, CallsApartFrom, IsPendingFrom, IsGroupOf, MarksNoneOf, is_over_kept, pending_members, quiet_by}
use Rattle.xa_manager.specs.GroupAnswers.{AreTogether}
use Rattle.xa_manager.specs.Managed.{ManagerStandsFor, view}
use Rattle.xa_manager.specs.Stands.{Follows, FollowsDown, Stays}
use Rattle.xa_manager.specs.View.{context_at}
use Rattle.xa_manager.specs.Believed.Together.{Member, asked_at, member_of, members_of, part_of, parts_of}
use Rattle.xa_manager.specs.Turns.{HasDone, Takes}
use Rattle.xa_assoc.specs.Refusals.{is_memory}
use Rattle.xa_manager.proofs.Calling.{event_done, refused_done, row_done, served_not, wanted_is}
use Rattle.xa_manager.proofs.Finished.{still_pending}
use Rattle.xa_manager.proofs.PendingCrash.{leaves_pending, leaves_still}
use Rattle.xa_manager.proofs.Taking.{tables_up, takes_row}
use Rattle.xa_manager.proofs.TookAnswers.{record_same}

-- sessions that ask for none of the calls

passes_not : (b : Bool) → not b ≡ true → b ≡ false
passes_not true e = absurd (cc e)
passes_not false e = refl

none_passed : (n : ℕ) (calls : List asked.Asked) → AllByRecursion (λ c. not (c.session == n) ≡ true) calls → AllByRecursion (λ c. (c.session == n) ≡ false) calls
none_passed n [] h = tt
none_passed n (c ∷ calls) h = (passes_not (c.session == n) h.0, none_passed n calls h.1)

all_other : (n : ℕ) (calls : List asked.Asked) → AllByRecursion (λ c. (c.session == n) ≡ false) calls → AllByRecursion (λ c. not (c.session == n) ≡ true) calls
all_other n [] h = tt
all_other n (c ∷ calls) h = (ap (λ (b : Bool). not b) h.0, all_other n calls h.1)

pub asks_none : (n : ℕ) (f : PendingGroup) (found : Bool) → found ≡ list_all (λ c. not (c.session == n)) f.calls.items → found ≡ true → AsksNoneOf n f
asks_none n f found is e = none_passed n f.calls.items (all_passed (λ (c : asked.Asked). not (c.session == n)) f.calls.items (sym is ∙ e))

pub none_asks : (n : ℕ) (f : PendingGroup) (found : Bool) → found ≡ list_all (λ c. not (c.session == n)) f.calls.items → AsksNoneOf n f → found ≡ true
none_asks n f found is h = is ∙ all_pass (λ (c : asked.Asked). not (c.session == n)) f.calls.items (all_other n f.calls.items h)

-- the same parts of a state in which each finds the same
parts_same : (s w : State) (cs : List Member) → AllByRecursion (λ (q : Part). FindsSame q.session q.xid s w) (parts_of s cs) → parts_of w cs ≡ parts_of s cs
parts_same s w [] same = refl
parts_same s w (c ∷ cs) same =
    (λ i. record (part_of s c) { appended = record_same c.row c.xid s w same.0.known i } ∷ parts_of w cs)
    ∙ ap (λ (l : List Part). part_of s c ∷ l) (parts_same s w cs same.1)

-- other XIDs, in the order in which the model compares them
flipped : (x y : Triple) → xid_eq y x ≡ false → xid_eq x y ≡ false
flipped x y apart =
    ⊎_elim
    (λ e. let same : x ≡ y = xid_same x y e in let it : xid_eq y x ≡ true = subst (λ (z : Triple). xid_eq z x ≡ true) same (xid_eq_itself x) in absurd (cc (apart, it)))
    (λ e. e) (cases_Bool (xid_eq x y))

names_none : (s : State) (calls : List asked.Asked) (x : Triple) (js : List Joining) → AllByRecursion (λ (j : Joining). xid_eq j.xid x ≡ false) js
    → AllByRecursion (λ (q : Part). xid_eq x q.xid ≡ false) (parts_of s (members_of calls js))
names_none s calls x [] apart = tt
names_none s calls x (j ∷ js) apart = (flipped x j.xid apart.0, names_none s calls x js apart.1)

-- other sessions
asker : (n : ℕ) (calls : List asked.Asked) (at : ℕ) → AllByRecursion (λ (c : asked.Asked). (c.session == n) ≡ false) calls → at < length calls → ((asked_at calls at).session == n) ≡ false
asker n [] at all lt = absurd (omega (arith, lt))
asker n (c ∷ calls) zero all lt = all.0
asker n (c ∷ calls) (suc at) all lt = asker n calls at all.1 (omega (arith, lt))

none_of_session : (s : State) (calls : List asked.Asked) (n : ℕ) (js : List Joining) → AllByRecursion (λ (c : asked.Asked). (c.session == n) ≡ false) calls
    → AllByRecursion (λ (j : Joining). j.at < length calls) js → AllByRecursion (λ (q : Part). (q.session == n) ≡ false) (parts_of s (members_of calls js))
none_of_session s calls n [] all places = tt
none_of_session s calls n (j ∷ js) all places = (asker n calls j.at all places.0, none_of_session s calls n js all places.1)

-- branches that a moment doesn't mark
over_phase : (held : List Association) (x : Triple) (moment t : ℕ) (p : Phase) → is_over_kept moment (working_by held x t p) ≡ runs_out_in moment p
over_phase held x moment t (Working y work) = refl
over_phase held x moment t (Prepared y) = refl
over_phase held x moment t Committed = refl

over_same : (held : List Association) (x : Triple) (moment : ℕ) (o : Option Branch) → is_over_kept moment (option_and_then (working_in held x) o) ≡ is_over_of moment o
over_same held x moment None = refl
over_same held x moment (Some b) = over_phase held x moment b.timestamp b.phase

-- one of the calls, of whose branch that is said
pub over_at : (m : Branches) (moment : ℕ) (js : List Joining) (i : ℕ) (j : Joining) → i < length js → j ≡ get_or js i j → MarksNoneOf m moment js → is_over_kept moment (working_at m j.xid) ≡ false
over_at m moment [] i j less is none = absurd (omega (arith, less))
over_at m moment (k ∷ js) zero j less is none = subst (λ (l : Joining). is_over_kept moment (working_at m l.xid) ≡ false) (sym is) none.0
over_at m moment (k ∷ js) (suc i) j less is none = over_at m moment js i j (omega (arith, less)) is none.1

module _ {D : Type 0} (disks : Ghosts D) where
  marks_none : (m : Manager D) (s : State) (calls : List asked.Asked) (moment : ℕ) (js : List Joining) → ((x : Triple) → working_at m.tables.branches x ≡ working_known s x)
      → AllByRecursion (λ (j : Joining). is_over_kept moment (working_at m.tables.branches j.xid) ≡ false) js
      → AllByRecursion (λ (q : Part). is_over_of moment (known_of s.branches q.xid) ≡ false) (parts_of s (members_of calls js))
  marks_none m s calls moment [] kept none = tt
  marks_none m s calls moment (j ∷ js) kept none = (
    sym (over_same s.associations j.xid moment (known_of s.branches j.xid)) ∙ ap (is_over_kept moment) (sym (kept j.xid)) ∙ none.0,
    marks_none m s calls moment js kept none.1,
  )

  calls_apart : (m : Manager D) (f : PendingGroup) (log : LogView D) (s : State) (n : ℕ) (request : Request) → IsGroupOf m f → IsPendingFrom disks log m f s → CallsApartFrom m n request f
      → CallsApart s n request (parts_of s (pending_members f))
  calls_apart m f log s n (kind.Open flags info) is fl apart = none_of_session s f.calls.items n f.together.members.items apart is.places
  calls_apart m f log s n (kind.Close flags) is fl apart = none_of_session s f.calls.items n f.together.members.items apart is.places
  calls_apart m f log s n (kind.Start flags xid) is fl apart = names_none s f.calls.items xid f.together.members.items apart
  calls_apart m f log s n (kind.End flags xid) is fl apart = names_none s f.calls.items xid f.together.members.items apart
  calls_apart m f log s n (kind.Doom xid) is fl apart = names_none s f.calls.items xid f.together.members.items apart
  calls_apart m f log s n (kind.Tick moment) is fl apart =
      marks_none m s f.calls.items moment f.together.members.items (tables_up disks (with_log log m) s fl.up fl.stands).branches.working apart
  calls_apart m f log s n request is fl apart = tt

  -- an event that leaves it as it is, of each state
  abbrev Apart : Manager D → PendingGroup → Event → Type 0
  Apart m f e = (log : LogView D) (s : State) → IsPendingFrom disks log m f s → StandsApart s e (parts_of s (pending_members f))

  -- the calls of the group, once the step was taken
  still_together : (s : State) (e : Event) (a : Answer) (cs : List Member) (c : Member) (rest : List Member) → cs ≡ c ∷ rest
      → (m : Manager D) → m.up ≡ true → ManagerStandsFor disks m s → is_quiet e ≡ true → StandsApart s e (parts_of s cs) → turn s (Asked e) ≡ Now a → AreTogether s cs
      → AreTogether a.after cs × (parts_of a.after cs ≡ parts_of s cs)
  still_together s e a cs c rest is m up st quiet apart now at =
      let stood = tables_up disks m s up st in
      let law = quiet_leaves_group s e a (part_of s c) (parts_of s rest) stood.recoverable.sound stood.up quiet
      (subst (λ (l : List Member). StandsApart s e (parts_of s l)) is apart) now (subst (λ (l : List Member). MayStandTogether s (parts_of s l)) is at.may) in
      let same : parts_of a.after cs ≡ parts_of s cs = subst (λ (l : List Member). parts_of a.after l ≡ parts_of s l) (sym is) (parts_same s a.after (c ∷ rest) law.1) in (
        record {
          may = subst (λ (l : List Part). MayStandTogether a.after l) (sym same) (subst (λ (l : List Member). MayStandTogether a.after (parts_of s l)) (sym is) law.0);
          rows = at.rows;
          first = at.first;
        },
        same,
      )

  -- an event that was done, of the manager with the log before
  pub goes_on : (m m' : Manager D) (f : PendingGroup) (e : Event) (reply : Reply) (log : LogView D) (s : State) → IsGroupOf m f → IsPendingFrom disks log m f s
      → is_quiet e ≡ true → Apart m f e → m'.up ≡ m.up → m'.log ≡ m.log → rooms_of (view m').branches ≡ rooms_of (view m).branches → HasDone disks (with_log log m) e reply Quiet (with_log log m')
      → IsSomeAnd (step s (Asked e) Quiet) (λ a. (a.reply ≡ reply) × IsPendingFrom disks log m' f a.after)
  goes_on m m' f e reply log s is fl quiet apart up same rooms done =
      let stood = tables_up disks (with_log log m) s fl.up fl.stands in
      let it = quiet_is_now s e stood.up quiet in
      let steps : step s (Asked e) Quiet ≡ Some it.0 = ap (λ (t : Turn). taken t Quiet) it.1 in
      let x = subst (λ (o : _). IsSomeAnd o (λ a. (a.reply ≡ reply) × ManagerStandsFor disks (with_log log m') a.after)) steps (done.steps s fl.stands (inr (no_restart e quiet))) in
      subst (λ (o : _). IsSomeAnd o (λ a. (a.reply ≡ reply) × IsPendingFrom disks log m' f a.after)) (sym steps)
      (x.0, pends it.0 x.1 it.1 f.together.members.items refl)
    where
      none_asked : (n : ℕ) (q : Request) → logs_nothing q ≡ true → is_restart (Call n q) ≡ false
      none_asked n kind.Restart h = absurd (cc h)
      none_asked n q h = refl

      no_restart : (q : Event) → is_quiet q ≡ true → is_restart q ≡ false
      no_restart Connect h = refl
      no_restart (Hangup n) h = refl
      no_restart (Call n q) h = none_asked n q h

      pends : (a : Answer) → ManagerStandsFor disks (with_log log m') a.after → turn s (Asked e) ≡ Now a → (js : List Joining) → f.together.members.items ≡ js → IsPendingFrom disks log m' f a.after
      pends a st now [] h = let none : length f.together.members.items ≡ 0 = ap (λ (l : List Joining). length l) h in absurd (omega (arith, none, is.some))
      pends a st now (j ∷ js) h =
          let both = still_together s e a (pending_members f) (member_of f.calls.items j) (members_of f.calls.items js) (ap (λ (l : List Joining). members_of f.calls.items l) h)
          (with_log log m) fl.up fl.stands quiet (apart log s fl) now fl.at in
          record {
            stands = st;
            up = up ∙ fl.up;
            written = subst (λ (l : LogView D). HasWritten disks (bodies_of f.together.bodies.items) f.written log l) (sym same) fl.written;
            at = both.0;
            bodies = ap (λ (l : List Part). map spelled (records_of l)) both.1 ∙ fl.bodies;
            rooms = subst (AreRooms f.together.prepares.items) (sym rooms) fl.rooms;
          }

  map_some : (o : Option Answer) (P Q : Answer → Type 0) → ((a : Answer) → P a → Q a) → IsSomeAnd o P → IsSomeAnd o Q
  map_some None P Q f h = h
  map_some (Some a) P Q f h = f a h

  -- an event that found its memory, done of the manager with each log before, and then the records were given the low water
  found_beside : (m m1 m' : Manager D) (f : PendingGroup) (e : Event) (reply : Reply) → IsGroupOf m f → is_quiet e ≡ true → Apart m f e → is_memory reply.detail ≡ false
      → ((log : LogView D) (s : State) → IsPendingFrom disks log m f s → HasDone disks (with_log log m) e reply Quiet (with_log log m1))
      → m1.up ≡ m.up → m1.log ≡ m.log → rooms_of (view m1).branches ≡ rooms_of (view m).branches
      → m'.up ≡ m1.up → m'.log ≡ m1.log → m'.doubt ≡ m1.doubt → Stays (view m1) (view m') → rooms_of (view m').branches ≡ rooms_of (view m1).branches → AnsweredBeside disks m f e reply m'
  found_beside m m1 m' f e reply is quiet apart served done up log rooms up' log' doubt' stays rooms' = record {
    answered = λ l s fl. served_not disks (is_memory reply.detail) _ _ served
        (map_some (step s (Asked e) Quiet) _ _ (λ a x. (x.0, still_pending disks m1 m' f l a.after up' log' doubt' stays rooms' x.1))
        (goes_on m m1 f e reply l s is fl quiet apart up log rooms (done l s fl)));
    pinned = λ w. absurd (cc (w, served));
    log = log' ∙ log;
    crash = λ l s fl. leaves_still disks l m m' f s (log' ∙ log) (leaves_pending disks l m f s is fl);
  }

  call_apart : (m : Manager D) (f : PendingGroup) (n : ℕ) (request : Request) → IsGroupOf m f → CallsApartFrom m n request f → Apart m f (Call n request)
  call_apart m f n request is apart = λ log s fl. calls_apart m f log s n request is fl apart

  -- it was refused before its row
  pub refused_beside : (m m' : Manager D) (f : PendingGroup) (n : ℕ) (request : Request) (reply : Reply) → IsGroupOf m f → logs_nothing request ≡ true → CallsApartFrom m n request f
      → Some reply ≡ early_refusal (context_at m.up (view m) n) request → is_memory reply.detail ≡ false
      → m'.up ≡ m.up → m'.log ≡ m.log → m'.doubt ≡ m.doubt → Stays (view m) (view m') → rooms_of (view m').branches ≡ rooms_of (view m).branches → AnsweredBeside disks m f (Call n request) reply m'
  refused_beside m m' f n request reply is quiet apart refused served up same doubt stays rooms =
      found_beside m m m' f (Call n request) reply is quiet (call_apart m f n request is apart) served (λ l s fl. refused_done disks (with_log l m) n request reply refused served) refl refl refl
      up same doubt stays rooms

  -- its row was done, and then the records were given the low water
  pub done_beside : (m m1 m' : Manager D) (f : PendingGroup) (n : ℕ) (request : Request) (o : Option Reply) (reply : Reply) → IsAsked request → IsGroupOf m f → logs_nothing request ≡ true → CallsApartFrom m n request f
      → o ≡ None → o ≡ early_refusal (context_at m.up (view m) n) request
      → m1.up ≡ m.up → m1.log ≡ m.log → m1.doubt ≡ m.doubt → Follows (view m) (λ s. quiet_by s n request) reply (view m1) → rooms_of (view m1).branches ≡ rooms_of (view m).branches
      → m'.up ≡ m1.up → m'.log ≡ m1.log → m'.doubt ≡ m1.doubt → Stays (view m1) (view m') → rooms_of (view m').branches ≡ rooms_of (view m1).branches → AnsweredBeside disks m f (Call n request) reply m'
  done_beside m m1 m' f n request o reply event is quiet apart none h up log doubt follows rooms up' log' doubt' stays rooms' =
      found_beside m m1 m' f (Call n request) reply is quiet (call_apart m f n request is apart) follows.served
      (λ l s fl. row_done disks (with_log l m) (with_log l m1) n request reply Quiet event (alone request quiet) (sym none ∙ h) follows.served
      (λ t st. subst (λ (u : Turn). Takes disks (with_log l m) u reply Quiet (with_log l m1)) (sym (row_of t n request quiet))
      ((takes_row disks (with_log l m) (with_log l m1) (λ v. quiet_by v n request) reply Quiet refl refl up doubt follows).takes t st fl.up)))
      up log rooms up' log' doubt' stays rooms'
    where
      alone : (q : Request) → logs_nothing q ≡ true → asks_boot q ≡ false
      alone kind.Restart e = absurd (cc e)
      alone kind.Trim e = absurd (cc e)
      alone q e = refl

      row_of : (t : State) (k : ℕ) (q : Request) → logs_nothing q ≡ true → row t k q ≡ Now (quiet_by t k q)
      row_of t k (kind.Open flags info) e = refl
      row_of t k (kind.Close flags) e = refl
      row_of t k (kind.Start flags xid) e = refl
      row_of t k (kind.End flags xid) e = refl
      row_of t k (kind.Recover flags count) e = refl
      row_of t k (kind.Get key) e = refl
      row_of t k (kind.Put key value) e = refl
      row_of t k (kind.Delete key) e = refl
      row_of t k (kind.Doom xid) e = refl
      row_of t k (kind.Timeout seconds) e = refl
      row_of t k (kind.Tick moment) e = refl
      row_of t k (kind.Branches count after) e = refl
      row_of t k q e = absurd (cc e)

  -- memory was wanted
  pub wanted_beside : (m m' : Manager D) (f : PendingGroup) (e : Event) (reply : Reply) → IsGroupOf m f → IsPinned e reply → is_memory reply.detail ≡ true
      → m'.up ≡ m.up → m'.log ≡ m.log → m'.doubt ≡ m.doubt → Stays (view m) (view m') → rooms_of (view m').branches ≡ rooms_of (view m).branches → AnsweredBeside disks m f e reply m'
  wanted_beside m m' f e reply is pinned wanted up same doubt stays rooms = record {
    answered = λ l s fl. wanted_is (is_memory reply.detail) _ _ wanted (still_pending disks m m' f l s up same doubt stays rooms fl);
    pinned = pinned;
    log = same;
    crash = λ l s fl. leaves_still disks l m m' f s same (leaves_pending disks l m f s is fl);
  }

  -- an event without a request
  pub event_beside : (m m' : Manager D) (f : PendingGroup) (e : Event) (act : State → Answer) (reply : Reply) → IsGroupOf m f → is_quiet e ≡ true → Apart m f e → IsEvent e → begins_boot e ≡ false
      → ((s : State) → respond s e ≡ Now (act s)) → m'.log ≡ m.log → m'.up ≡ m.up → m'.doubt ≡ m.doubt → Follows (view m) act reply (view m') → FollowsDown (view m) act reply (view m')
      → rooms_of (view m').branches ≡ rooms_of (view m).branches → AnsweredBeside disks m f e reply m'
  event_beside m m' f e act reply is quiet apart event other by log up doubt follows down rooms =
      found_beside m m' m' f e reply is quiet apart follows.served (λ l s fl. event_done disks (with_log l m) (with_log l m') e act reply event other by refl up doubt follows down)
      up log rooms refl refl refl (λ s st. st) refl

  -- a hang-up of a session that asks for none of the calls
  pub hangs_up_apart : (m : Manager D) (f : PendingGroup) (n : ℕ) → IsGroupOf m f → AsksNoneOf n f → Apart m f (Hangup n)
  hangs_up_apart m f n is none = λ log s fl. none_of_session s f.calls.items n f.together.members.items none is.places
