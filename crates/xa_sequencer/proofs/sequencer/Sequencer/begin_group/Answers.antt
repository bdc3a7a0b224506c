use Rattle.std.proofs.Common.{◌∙◌, List, Some, Vec, Global, length, refl, sym, ap, subst, arith}
use Rattle.std.specs.List.{AllByRecursion}
use Rattle.xa_manager.specs.declared.together.Asked.{Asked}
use Rattle.xa_model.specs.Events.{IsAsked}
use Rattle.xa_sequencer.proofs.Adding.{has_more}
use Rattle.xa_sequencer.proofs.Alone.{began}
use Rattle.xa_sequencer.specs.Believed.GroupManager.{GroupManager, pending_of}
use Rattle.xa_sequencer.specs.Believed.Stands.{Numbered}
use Rattle.xa_sequencer.proofs.sequencer.Sequencer.begin_group.Goals as goal

pub invariant_of-self-2 : goal.invariant_of-self-2
invariant_of-self-2 g c =
    let m = g.M.Manages.manages in
    let s = c.self.inside in
    let begun = c.in_ok-begin_group in
    let none = ap (λ (o : Numbered (GroupManager g.row.M.Denot)). pending_of o.now) c.self.view_is ∙ c.requires.settled in
    let rests = began m g.S.Start.start g.S.Start.base s.manager c.begin_group.new.self s.pending (Some begun.field-0) s.count none begun.ensures.begun (begun.ensures.sessions s.pending (Some begun.field-0)) in
    let asked = subst (λ (xs : List Asked). AllByRecursion (λ c. IsAsked c.request) xs) c.deref.ensures.value c.hold_all.ensures in
    let same = sym begun.ensures.group.1 in (
      has_more m g.S.Start.start g.S.Start.base _ _ _ rests.goes_on c.self.invariant.0,
      record {
        group = begun.ensures.group.0;
        asked = subst (λ (v : Vec Asked Global). AllByRecursion (λ c. IsAsked c.request) v.items) same asked;
        reserved = omega (
          arith,
          c.if-not-are_left.ensures.left refl,
          c.connected.ensures s.pending,
          c.len-many.ensures,
          ap (λ (v : Vec Asked Global). length v.items) same,
          begun.ensures.sessions s.pending (Some begun.field-0),
        );
      },
    )
