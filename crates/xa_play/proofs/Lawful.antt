-- Runs go on by steps, and the laws of the sequential resource manager hold of each.
use Rattle.std.proofs.Common.{List, [], ◌∷◌, ◌++◌, refl, subst}
use Rattle.xa_model.specs.State.{State}
use Rattle.xa_model.specs.Laws.Backing.{AlwaysRecoverable}
use Rattle.xa_model.specs.Events.{HaveHappened, IsHappening}
use Rattle.xa_model.specs.History.{Entry, Leads, Steps}
use Rattle.xa_model.specs.Invariants.Loggable.{IsRecoverable}
use Rattle.xa_model.specs.OneCopy.{AlwaysOneCopy}
use Rattle.xa_model.specs.ListedLaw.{ListedUntilAsked}
use Rattle.xa_play.specs.Runs.{Run, IsRun, at_start, behind, RunsAreLawful}

happened_more : (entries : List Entry) (entry : Entry) → HaveHappened entries → IsHappening entry.happening → HaveHappened (entries ++ entry ∷ [])
happened_more [] entry h k = (k, tt)
happened_more (e ∷ entries) entry h k = (h.0, happened_more entries entry h.1 k)

leads_more : (first mid after : State) (entries : List Entry) (entry : Entry) → Leads first entries mid → Steps mid entry after → Leads first (entries ++ entry ∷ []) after
leads_more first mid after [] entry h k = (after, subst (λ (s : State). Steps s entry after) h k, refl)
leads_more first mid after (e ∷ entries) entry h k = (h.0, h.1, leads_more h.0 mid after entries entry h.2 k)

-- one step more
pub run_more : (run : Run) (entry : Entry) (after : State) → IsRun run → IsHappening entry.happening → Steps run.now entry after → IsRun (behind run entry after)
run_more run entry after h happening steps = record {
  recoverable = h.recoverable;
  happened = happened_more run.entries entry h.happened happening;
  leads = leads_more run.first run.now after run.entries entry h.leads steps;
}

pub run_at_start : (s : State) → IsRecoverable s → IsRun (at_start s)
run_at_start s h = record { recoverable = h; happened = tt; leads = refl }

pub runs_are_lawful : AlwaysRecoverable → AlwaysOneCopy → ListedUntilAsked → RunsAreLawful
runs_are_lawful recoverable one_copy listed run h = record {
  legal = h;
  recoverable = recoverable run.first run.now run.entries h.happened h.recoverable h.leads;
  one_copy = λ unread. one_copy run.first run.now run.entries h.recoverable unread h.happened h.leads;
  listed = λ refusals xid p.
      listed run.first h.recoverable refusals run.now p.before p.later p.prepare xid
      (subst (λ (entries : List Entry). HaveHappened entries) p.parts h.happened)
      (subst (λ (entries : List Entry). Leads run.first entries run.now) p.parts h.leads) p.prepared p.unasked;
}
