use Rattle.std.proofs.Common.{◌+◌, ◌++◌, ◌∙◌, ℕ, List, Some, length, take, drop, sym, ap, subst, arith}
use Rattle.std.specs.List.{AllByRecursion}
use Rattle.xa_frame.specs.declared.reply.Reply.{Reply}
use Rattle.xa_manager.specs.Once.{AreOnce}
use Rattle.xa_history.specs.Believed.Together.{IsToldOf}
use Rattle.xa_frame.specs.Limits.{IsRequest}
use Rattle.xa_manager.specs.declared.together.Asked.{Asked}
use Rattle.xa_model.specs.Events.{IsAsked}
use Rattle.xa_model.proofs.Inserts.{all_imply}
use Rattle.xa_sequencer.specs.Believed.GroupManager.{GroupManager, calls_in}
use Rattle.xa_sequencer.specs.Manages.{ArePending}
use Rattle.xa_sequencer.specs.Believed.Stands.{Numbered}
use Rattle.xa_sequencer.specs.Believed.Together.{CalledTogether}
use Rattle.xa_sequencer.proofs.Alone.{at, group_called, group_numbers, its_calls, keeps_none}
use Rattle.xa_sequencer.proofs.Grouping.{all_told, has_history, placed_once, placed_told, placed_whole}
use Rattle.xa_sequencer.proofs.sequencer.Sequencer.finish_group.Goals as goal

pub number_all-requires : goal.number_all-requires
number_all-requires g c =
    let m = g.M.Manages.manages in
    let s = c.self.inside in
    let done = c.finish_group-replies in
    let is = sym c.take.ensures.value ∙ c.in-Some.is in
    let numbers = group_numbers m g.S.Start.start g.S.Start.base g.M.Manages.is_group s.manager done.new.self s.pending c.take.new.self c.in-Some.group s.count
    done.result.1 done.result.0.items is c.take.ensures.after done.ensures.calls done.ensures.acts done.ensures.once c.self.invariant.1 in
    omega (arith, numbers, ap length c.deref_mut.ensures.value)

pub overflow_add-self : goal.overflow_add-self
overflow_add-self g c =
    let m = g.M.Manages.manages in
    let s = c.self.inside in
    let done = c.finish_group-replies in
    let is = sym c.take.ensures.value ∙ c.in-Some.is in
    let numbers = group_numbers m g.S.Start.start g.S.Start.base g.M.Manages.is_group s.manager done.new.self s.pending c.take.new.self c.in-Some.group s.count
    done.result.1 done.result.0.items is c.take.ensures.after done.ensures.calls done.ensures.acts done.ensures.once c.self.invariant.1 in
    omega (arith, numbers, c.len.ensures, done.result.0.ok.0)

pub invariant_of-self : goal.invariant_of-self
invariant_of-self g c =
    let m = g.M.Manages.manages in
    let s = c.self.inside in
    let done = c.finish_group-replies in
    let is = sym c.take.ensures.value ∙ c.in-Some.is in
    let did = group_called m g.S.Start.start g.S.Start.base g.M.Manages.is_group s.manager done.new.self s.pending c.take.new.self c.in-Some.group s.count
    done.result.1 done.result.0.items is c.take.ensures.after done.ensures.calls done.ensures.acts done.ensures.once c.self.invariant.1
    c.len.result (omega (arith, c.len.ensures, done.result.0.ok.0)) (done.ensures.sessions s.pending c.take.new.self) in
    keeps_none m g.S.Start.start g.S.Start.base g.M.Manages.is_group done.new.self c.take.new.self (s.count + c.len.result) (ap calls_in c.take.ensures.after)
    (has_history m g.S.Start.start g.S.Start.base _ _ _ _ did c.self.invariant.0)

pub returns-clause-called : goal.returns-clause-called
returns-clause-called g c =
    let m = g.M.Manages.manages in
    let s = c.self.inside in
    let done = c.finish_group-replies in
    let is = sym c.take.ensures.value ∙ c.in-Some.is in
    let did = group_called m g.S.Start.start g.S.Start.base g.M.Manages.is_group s.manager done.new.self s.pending c.take.new.self c.in-Some.group s.count
    done.result.1 done.result.0.items is c.take.ensures.after done.ensures.calls done.ensures.acts done.ensures.once c.self.invariant.1
    c.len.result (omega (arith, c.len.ensures, done.result.0.ok.0)) (done.ensures.sessions s.pending c.take.new.self) in
    let items = done.result.0.items in
    let calls = done.result.1.items in
    let list = placed_whole done.result.0.len s.count items _ c.number_all.new.replies c.number_all.ensures c.deref_mut.ensures.value (omega (arith, done.result.0.ok.0)) in
    let new = at done.new.self c.take.new.self (s.count + c.len.result) in
    subst (λ (o : Numbered (GroupManager g.row.M.Denot)). CalledTogether m g.S.Start.start g.S.Start.base o calls (take done.result.0.len (c.number_all.new.replies ++ drop (length c.number_all.new.replies) items)) new) c.self.view_is
    (subst (λ (rs : List (ℕ × Reply)). CalledTogether m g.S.Start.start g.S.Start.base (at s.manager s.pending s.count) calls rs new) (sym list) did)

pub returns-clause-told : goal.returns-clause-told
returns-clause-told g c =
    let done = c.finish_group-replies.result in
    let items = done.0.items in
    let list = placed_whole done.0.len c.self.inside.count items _ c.number_all.new.replies c.number_all.ensures c.deref_mut.ensures.value (omega (arith, done.0.ok.0)) in
    subst (λ (rs : List (ℕ × Reply)). AllByRecursion (IsToldOf done.1.items) rs) (sym list)
    (placed_told done.1.items c.self.inside.count items (all_told g.M.Manages.manages g.S.Start.start g.S.Start.base _ _ done.1.items items c.finish_group-replies.ensures.acts))

pub returns-clause-once : goal.returns-clause-once
returns-clause-once g c =
    let items = c.finish_group-replies.result.0.items in
    let list = placed_whole c.finish_group-replies.result.0.len c.self.inside.count items _ c.number_all.new.replies c.number_all.ensures c.deref_mut.ensures.value (omega (arith, c.finish_group-replies.result.0.ok.0)) in
    subst AreOnce (sym list) (placed_once c.self.inside.count items c.finish_group-replies.ensures.once)

pub returns-clause-limits : goal.returns-clause-limits
returns-clause-limits g c =
    let is = sym c.take.ensures.value ∙ c.in-Some.is in
    let are = its_calls c.self.inside.pending c.in-Some.group c.finish_group-replies.result.1 is c.finish_group-replies.ensures.calls in
    let asked : ArePending (Some c.finish_group-replies.result.1.items) = subst ArePending are c.self.invariant.1.asked in
    all_imply (λ (c : Asked). IsAsked c.request) (λ (c : Asked). IsRequest c.request) (λ c h. h.limits) c.finish_group-replies.result.1.items asked
