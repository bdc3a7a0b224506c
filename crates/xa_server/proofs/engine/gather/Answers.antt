use Rattle.std.proofs.Common.{◌≡◌, ◌∙◌, [], ap, arith, map, rules, subst, sym}
use Rattle.std.specs.Prelude.{sum_by}
use Rattle.xa_reactor.specs.Believed.Down.{last_of}
use Rattle.xa_reactor.specs.declared.seen.Seen.{Seen}
use Rattle.xa_server.specs.Believed.Loops.{told_by}
use Rattle.xa_server.specs.Believed.Watching.{IsSeenLast}
use Rattle.xa_server.proofs.Gathering.{gathers_more, gathers_one}
use Rattle.xa_server.proofs.Watching.{both_last}
use Rattle.xa_server.proofs.engine.gather.Goals as goal
use Rattle.xa_tokens.specs.Believed.Account.{Account, merged}

-- what a loop has seen with those before
seen_more : (all other new : Account) (seen also now : Seen) → new ≡ merged all other → now ≡ last_of seen also → IsSeenLast seen all.told
    → IsSeenLast also other.told → IsSeenLast now new.told
seen_more all other new seen also now is last h k =
    subst (λ (a : Account). IsSeenLast now a.told) (sym is)
    (subst (λ (s : Seen). IsSeenLast s (merged all other).told) (sym last) (both_last seen also all.told other.told h k))

pub loop-door-init : goal.loop-door-init
loop-door-init g c = record {
  gathers =
      gathers_one (λ d. d.handle.asker) c.into_parts-share.result.0 c.pop.new.self.items c.args.ended.items c.in-Some.field-0
      c.in-Some.ensures.items c.into_parts-share.ensures.share c.requires.settled;
  seen = c.into_parts-share.ensures.seen;
}

pub loop-door-preserved-after-is_whole : goal.loop-door-preserved-after-is_whole
loop-door-preserved-after-is_whole g c =
    let other = c.into_parts-other in
    record {
      gathers =
          gathers_more (λ d. d.handle.asker) c.loop-door.share c.merge.new.share c.loop-door.ended.items c.pop-in-loop-door.new.self.items
          c.args.ended.items c.in-Some-pop.field-0 c.loop-door.invariant.gathers c.in-Some-pop.ensures.items
          (c.merge.ensures ∙ ap (λ (a : Account). merged c.loop-door.share a) other.ensures.share);
      seen =
          seen_more c.loop-door.share other.result.0 c.merge.new.share c.loop-door.seen other.result.1 c.with-seen.result c.merge.ensures
          c.with-seen.ensures c.loop-door.invariant.seen other.ensures.seen;
    }

pub loop-door-preserved-after-is_whole-2 : goal.loop-door-preserved-after-is_whole-2
loop-door-preserved-after-is_whole-2 g c =
    let other = c.into_parts-other in
    record {
      gathers =
          gathers_more (λ d. d.handle.asker) c.loop-door.share c.merge.new.share c.loop-door.ended.items c.pop-in-loop-door.new.self.items
          c.args.ended.items c.in-Some-pop.field-0 c.loop-door.invariant.gathers c.in-Some-pop.ensures.items
          (c.merge.ensures ∙ ap (λ (a : Account). merged c.loop-door.share a) other.ensures.share);
      seen =
          seen_more c.loop-door.share other.result.0 c.merge.new.share c.loop-door.seen other.result.1 c.with-seen.result c.merge.ensures
          c.with-seen.ensures c.loop-door.invariant.seen other.ensures.seen;
    }

pub loop-door-preserved : goal.loop-door-preserved
loop-door-preserved g c =
    let other = c.into_parts-other in
    record {
      gathers =
          gathers_more (λ d. d.handle.asker) c.loop-door.share c.merge.new.share c.loop-door.ended.items c.pop-in-loop-door.new.self.items
          c.args.ended.items c.in-Some-pop.field-0 c.loop-door.invariant.gathers c.in-Some-pop.ensures.items
          (c.merge.ensures ∙ ap (λ (a : Account). merged c.loop-door.share a) other.ensures.share);
      seen =
          seen_more c.loop-door.share other.result.0 c.merge.new.share c.loop-door.seen other.result.1 c.with-seen.result c.merge.ensures
          c.with-seen.ensures c.loop-door.invariant.seen other.ensures.seen;
    }

pub returns-clause-told : goal.returns-clause-told
returns-clause-told g c = λ weigh.
    let none : c.loop-door.ended.items ≡ [] = search rules in
    omega (arith, c.loop-door.invariant.gathers.told weigh, ap (λ ended. sum_by weigh (told_by (map (λ e. e.door.handle.asker) ended))) none)
