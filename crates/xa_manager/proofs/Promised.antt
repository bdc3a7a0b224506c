-- Histories of opening states are one copy, and list what was prepared and nothing that was completed; so do the runs
-- of a manager.
use Rattle.std.proofs.Common.{◌≡◌, ◌+◌, ◌≤◌, ℕ, Bool, true, false, cond, List, [], ◌∷◌, ◌++◌, length, refl, sym, subst, arith}
use Rattle.std.proofs.lemmas.Bool.Decides.{nat_tests}
use Rattle.xa_disk.specs.declared.disk.Disk.{Ghosts}
use Rattle.xa_frame.specs.declared.reply.Reply.{Reply}
use Rattle.xa_model.specs.declared.event.Event.{Event}
use Rattle.xa_model.specs.declared.outcome.Outcome.{Outcome}
use Rattle.xa_limits.specs.declared.TheConstants.{FIRST_OFFSET, MOST_LOG}
use Rattle.xa_model.specs.State.{State}
use Rattle.xa_model.specs.Invariants.Sound.{most_known}
use Rattle.xa_model.specs.Fold.{snapshot, sizes}
use Rattle.xa_model.specs.Logging.{log_room}
use Rattle.xa_model.specs.Restarting.{opening, restart_turn}
use Rattle.xa_model.specs.Invariants.Restored.{IsRestored}
use Rattle.xa_model.specs.Laws.Restarts.{restart_entries}
use Rattle.xa_model.specs.Turn.{Asked, taken}
use Rattle.xa_model.specs.Events.{AreEvents, IsHappening, HaveHappened}
use Rattle.xa_model.specs.History.{Entry, Leads}
use Rattle.xa_model.specs.OneCopy.{HasOneCopy}
use Rattle.xa_model.proofs.Copies.{opened_one_copy}
use Rattle.xa_model.proofs.Openings.{opens_restored}
use Rattle.xa_model.proofs.Preparing.{listed_since_boot}
use Rattle.xa_model.proofs.Unasked.{restart_leads, restart_happens}
use Rattle.xa_model.proofs.Unlisted.{unlisted_since_boot}
use Rattle.xa_assoc.specs.Refusals.{is_memory}
use Rattle.xa_manager.specs.declared.manager.Manager.{Manager}
use Rattle.xa_manager.specs.Believed.Answered.{AnswersAll, recorded}
use Rattle.xa_manager.specs.Believed.LogStands.{Trusts}
use Rattle.xa_manager.specs.Managed.{view, ManagerStandsFor, AnswersAs}
use Rattle.xa_manager.specs.Believed.Promises.{IsOpening, IsReached, ListsPrepared, ListsNoCompleted, PromisesAll, RestartPromises, ReachedPromises, OnePromises, BegunIsReached}
use Rattle.xa_manager.proofs.Driving.{answers_more, stepped}
use Rattle.xa_manager.proofs.Standing.{outside}

restored : (first : State) (h : IsOpening first) → IsRestored h.durable (h.durable.boot + 1) first
restored first h =
    subst (λ (x : State). IsRestored h.durable (h.durable.boot + 1) x) (sym h.opened)
    (opens_restored h.records h.durable first.name first.log_bytes h.limits h.folded h.boots h.few).0

pub reached_one_copy : (first s : State) (entries : List Entry) → IsReached first entries s → HasOneCopy s
reached_one_copy first s entries h =
    let o = h.opens in
    opened_one_copy o.records o.durable first.name first.log_bytes s entries o.limits o.folded o.boots o.few h.happened
    (subst (λ (x : State). Leads x entries s) o.opened h.leads)

pub reached_lists : (first s : State) (entries : List Entry) → IsReached first entries s → ListsPrepared entries s
reached_lists first s entries h before later prepare xid e prepared none =
    listed_since_boot h.opens.durable (h.opens.durable.boot + 1) first (restored first h.opens) s before later prepare xid
    (subst HaveHappened e h.happened) (subst (λ (es : List Entry). Leads first es s) e h.leads) prepared none

pub reached_unlists : (first s : State) (entries : List Entry) → IsReached first entries s → ListsNoCompleted entries s
reached_unlists first s entries h before later completion xid e completed none =
    unlisted_since_boot h.opens.durable (h.opens.durable.boot + 1) first (restored first h.opens) s before later completion xid
    (subst HaveHappened e h.happened) (subst (λ (es : List Entry). Leads first es s) e h.leads) completed none

pub reached_promises : ReachedPromises
reached_promises first s entries h = (reached_one_copy first s entries h, reached_lists first s entries h, reached_unlists first s entries h)

-- a history goes on with another one

leads_on : (first mid last : State) (es fs : List Entry) → Leads first es mid → Leads mid fs last → Leads first (es ++ fs) last
leads_on first mid last [] fs h k = subst (λ (x : State). Leads x fs last) h k
leads_on first mid last (e ∷ es) fs h k = (h.0, h.1, leads_on h.0 mid last es fs h.2 k)

happened_on : (es fs : List Entry) → HaveHappened es → HaveHappened fs → HaveHappened (es ++ fs)
happened_on [] fs h k = k
happened_on (e ∷ es) fs h k = (h.0, happened_on es fs h.1 k)

pub reached_on : (first mid last : State) (es fs : List Entry) → IsReached first es mid → HaveHappened fs → Leads mid fs last → IsReached first (es ++ fs) last
reached_on first mid last es fs h happened leads =
    record { opens = h.opens; happened = happened_on es fs h.happened happened; leads = leads_on first mid last es fs h.leads leads }

-- what is recorded of events has happened

happened_one : (e : Entry) (es : List Entry) (wanted : Bool) → IsHappening e.happening → HaveHappened es → HaveHappened (cond wanted es (e ∷ es))
happened_one e es true h rest = rest
happened_one e es false h rest = (h, rest)

happened_recorded : (events : List Event) (outcomes : List Outcome) (replies : List Reply) → AreEvents events → HaveHappened (recorded events outcomes replies)
happened_recorded [] outcomes replies h = tt
happened_recorded (event ∷ events) [] replies h = tt
happened_recorded (event ∷ events) (o ∷ outcomes) [] h = tt
happened_recorded (event ∷ events) (o ∷ outcomes) (reply ∷ replies) h =
    happened_one (record { happening = Asked event; outcome = o; reply = reply }) (recorded events outcomes replies) (is_memory reply.detail) h.0
    (happened_recorded events outcomes replies h.1)

-- what is known of a log takes room there
room_few : (log_bytes end p q : ℕ) → log_room log_bytes end p q ≡ true → log_bytes ≤ MOST_LOG → p + q ≤ most_known
room_few log_bytes end p q room limit = grind (arith, nat_tests, room, limit)

module _ {D : Type 0} (disks : Ghosts D) where
  -- a run whose replies are a legal history
  pub promises_all : (m m' : Manager D) (events : List Event) (replies : List Reply) → AreEvents events → AnswersAll disks m events replies m'
      → PromisesAll disks m events replies m'
  promises_all m m' events replies happened all first s before reached stands trusted =
      let a = all s stands trusted in
      let es = recorded events a.0 replies in
      let on = reached_on first s a.1 before es reached (happened_recorded events a.0 replies happened) a.3 in
      record {
        outcomes = a.0;
        after = a.1;
        told = a.2;
        leads = a.3;
        stands = a.4;
        one_copy = reached_one_copy first a.1 (before ++ es) on;
        listed = reached_lists first a.1 (before ++ es) on;
        unlisted = reached_unlists first a.1 (before ++ es) on;
      }

  answers_none : (m : Manager D) → AnswersAll disks m [] [] m
  answers_none m s stands trusted = ([], s, refl, refl, stands)

  pub one_promises : OnePromises disks
  one_promises m m' event reply happened one =
      promises_all m m' (event ∷ []) (reply ∷ []) (happened, tt)
      (answers_more disks m m m' [] [] event reply refl (answers_none m) one.answered)

  -- a restart that no session asked for
  pub restart_promises : (m m' : Manager D) (reply : Reply)
      → ((s : State) → ManagerStandsFor disks m s → Trusts disks → AnswersAs disks (taken (restart_turn s) m'.outcome) reply m')
      → RestartPromises disks m reply m'
  restart_promises m m' reply turn first s before reached stands trusts =
      let a = stepped (λ (x : State). ManagerStandsFor disks m' x) reply (taken (restart_turn s) m'.outcome) (turn s stands trusts) in
      let here = outside m.up (view m) s stands.tables in
      let leads = restart_leads s m'.outcome (record { reply = reply; after = a.0 }) here.recoverable.sound here.standing a.1 in
      let es = restart_entries s.sessions m'.outcome reply in
      let on = reached_on first s a.0 before es reached (restart_happens s.sessions m'.outcome reply) leads in
      record {
        after = a.0;
        reached = on;
        stands = a.2;
        one_copy = reached_one_copy first a.0 (before ++ es) on;
        listed = reached_lists first a.0 (before ++ es) on;
        unlisted = reached_unlists first a.0 (before ++ es) on;
      }

  pub begun_is_reached : BegunIsReached disks
  begun_is_reached m bodies name log_bytes begun =
      let d = begun.durable in
      let few : length d.prepared + length d.decided ≤ most_known =
      room_few log_bytes (FIRST_OFFSET + sizes (snapshot d (d.boot + 1))) (length d.prepared) (length d.decided) begun.room begun.limit in
      let first = opening d name log_bytes (d.boot + 1) in
      let restored = (opens_restored begun.comes.records d name log_bytes begun.comes.bodies_are.limits begun.comes.folded begun.boots few).0 in
      let opens : IsOpening first = record {
        records = begun.comes.records;
        durable = d;
        limits = begun.comes.bodies_are.limits;
        folded = begun.comes.folded;
        boots = begun.boots;
        few = few;
        opened = refl;
      } in
      (first, record { opens = opens; happened = tt; leads = refl }, begun.stands first restored refl refl refl refl)
