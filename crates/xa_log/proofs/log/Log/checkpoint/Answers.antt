use Rattle.std.proofs.Common.{rules, ◌≡◌, ◌∙◌, ap, sym, subst, ℕ, List, ◌+◌, ◌-◌, ◌^◌, ◌<◌, ◌≤◌, min, length, refl, arith}
use Rattle.xa_disk.specs.Time.{LeavesOnly}
use Rattle.xa_log.specs.Ahead.{IsKnown}
use Rattle.xa_log.specs.Believed.Chain.{newest, start, text, records}
use Rattle.xa_log.specs.Believed.Checkpoint.{IsOther, IsTailed, LeavesAny, Checkpointed}
use Rattle.xa_log.specs.LogFields.{shown}
use Rattle.xa_log.specs.Believed.Pair.{generation}
use Rattle.xa_log.specs.Believed.Stands.{Stands}
use Rattle.xa_log.specs.Believed.TwoFiles.{Pair}
use Rattle.xa_log.specs.declared.appending.Appended.TheVariants.{Kept}
use Rattle.xa_log.proofs.Cleared.{cleared_by, tailed_by}
use Rattle.xa_log.proofs.Known.{known_swapped, known_beside}
use Rattle.xa_log.proofs.Records.{length-text}
use Rattle.xa_log.proofs.Two.{replaced, kept_pair, refused_pair, lost_pair, other_still, wrote_kept, wrote_lost, wrote_refused, moments_of, kept_by}
use Rattle.xa_log.proofs.Viewed.{moments_seen, of_fields}
use Rattle.xa_log.proofs.log.Log.checkpoint.Goals as goal
use Rattle.xa_log.proofs.log.Log.checkpoint.Goals.{After-checkpoint_on-outcome}

-- what holds once the three parts were tried, whatever they came to
module _ (g : _) (c : goal.After-checkpoint_on-outcome g) where
  above : c.self.inside.generation < generation c.args.bodies.now
  above = of_fields (λ l. l.generation < generation c.args.bodies.now) c.self.view_is c.requires.above

  pair : (old stood : List (List ℕ)) → Pair g.D.Disk old stood c.args.self.now → Pair g.D.Disk old stood (shown c.self.inside)
  pair old stood is = of_fields (λ l. Pair g.D.Disk old stood l) c.self.view_is is

  room : 12 + (length (records (start c.newest-format.result) c.args.bodies.now) + c.zeros_behind-more.result) ≤ c.self.inside.log_bytes
  room = omega (arith, c.in-Some.ensures.some.0, c.zeros_behind-more.ensures.within, length-text c.newest-format.result c.args.bodies.now)

  tailed : IsTailed c.zeros_behind-more.result c.self.inside.log_bytes c.newest-format.result c.args.bodies.now
  tailed = tailed_by c.zeros_behind-more.result c.self.inside.log_bytes _ c.newest-format.result c.args.bodies.now c.zeros_behind-more.ensures.exact c.in-Some.ensures.some.0

  came : g.D.Disk.honest → (stood : List (List ℕ)) → IsOther g.D.Disk c.self.inside.log_bytes stood c.self.inside.other
      → Checkpointed g.D.Disk c.checkpoint_on-outcome.result.0 c.self.inside.log_bytes c.newest-format.result stood c.args.bodies.now
      c.self.inside.other c.checkpoint_on-outcome.new.disk
  came h stood other = c.checkpoint_on-outcome.ensures.answer h c.self.inside.log_bytes stood room tailed other

  module _ (now : _) (is : now ≡ c.checkpoint_on-outcome.new.disk) where
    moments : g.D.Disk.honest → (old stood : List (List ℕ)) → Pair g.D.Disk old stood c.args.self.now
        → LeavesOnly g.D.Disk c.args.self.now.other now (LeavesAny c.args.self.now.log_bytes newest stood c.args.bodies.now)
    moments h old stood p = moments_seen c.self.view_is
        (moments_of g.D.Disk c.self.inside.log_bytes c.newest-format.result stood c.args.bodies.now c.self.inside.other c.checkpoint_on-outcome.new.disk now is
        c.newest-format.ensures (c.checkpoint_on-outcome.ensures.any_moment h c.self.inside.log_bytes stood room tailed (pair old stood p).other))

    none_failed : g.D.Disk.failures c.args.self.now.other < 2 ^ 64 - 1 → g.D.Disk.failures now ≡ g.D.Disk.failures c.args.self.now.other
        → c.checkpoint_on-outcome.result.0 ≡ Kept
    none_failed few was =
        let other = ap (λ l. g.D.Disk.failures l.other) (sym c.self.view_is) in
        kept_by g.D.Disk.failures _ c.checkpoint_on-outcome.new.disk now _ is c.checkpoint_on-outcome.ensures.cause
        (subst (λ n. n < 2 ^ 64 - 1) other few) (was ∙ other) c.checkpoint_on-outcome.ensures.not_full

pub returns-in-None-clause-any_moment : goal.returns-in-None-clause-any_moment
returns-in-None-clause-any_moment g c h old stood p =
    let log = c.args.self.now in
    other_still g.D.Disk old stood log log p (g.met.D.Disk.only_now log.other) newest c.args.bodies.now

pub returns-in-Kept-clause-any_moment : goal.returns-in-Kept-clause-any_moment
returns-in-Kept-clause-any_moment g c h old stood p =
    moments g (goal.at.returns-in-Kept-clause-any_moment g c).After-checkpoint_on-outcome _
    (wrote_kept _ _ c.checkpoint_on-outcome.new.disk c.in-Kept.is c.swap.ensures.x_after) h old stood p

pub returns-in-Lost-clause-any_moment : goal.returns-in-Lost-clause-any_moment
returns-in-Lost-clause-any_moment g c h old stood p =
    moments g (goal.at.returns-in-Lost-clause-any_moment g c).After-checkpoint_on-outcome _
    (wrote_lost _ _ c.checkpoint_on-outcome.new.disk c.in-Lost.is refl) h old stood p

pub returns-in-Refused-clause-any_moment : goal.returns-in-Refused-clause-any_moment
returns-in-Refused-clause-any_moment g c h old stood p =
    moments g (goal.at.returns-in-Refused-clause-any_moment g c).After-checkpoint_on-outcome _
    (wrote_refused _ _ c.checkpoint_on-outcome.new.disk c.in-Refused.is refl) h old stood p

pub returns-in-Kept-clause-replaces : goal.returns-in-Kept-clause-replaces
returns-in-Kept-clause-replaces g c h old stood stands is_other kept =
    let at = (goal.at.returns-in-Kept-clause-replaces g c).After-checkpoint_on-outcome in
    let wrote = c.checkpoint_on-outcome in
    replaced g.D.Disk old stood (shown c.self.inside) _ (of_fields (λ l. Stands g.D.Disk old l) c.self.view_is stands)
    c.newest-format.result c.args.bodies.now (above g at) _ wrote.new.disk c.in-Kept.is
    (came g at h stood (of_fields (λ l. IsOther g.D.Disk l.log_bytes stood l.other) c.self.view_is is_other))
    c.swap.ensures.x_after c.swap.ensures.y_after refl refl c.in-Some.ensures.some.0 (wrote.ensures.digest c.in-Kept.is) c.generation_of_snapshot-self-inside.ensures refl

pub returns-in-Kept-clause-answer : goal.returns-in-Kept-clause-answer
returns-in-Kept-clause-answer g c h old stood p =
    kept_pair g.D.Disk old stood c.args.bodies.now _ _ c.in-Kept.is (returns-in-Kept-clause-replaces g c h old stood p.current p.other c.in-Kept.is)

pub returns-in-Lost-clause-answer : goal.returns-in-Lost-clause-answer
returns-in-Lost-clause-answer g c h old stood is =
    let at = (goal.at.returns-in-Lost-clause-answer g c).After-checkpoint_on-outcome in
    let p = pair g at old stood is in
    lost_pair g.D.Disk old stood (shown c.self.inside) _ p c.newest-format.result c.args.bodies.now (above g at) _ c.in-Lost.is (came g at h stood p.other)
    refl refl refl refl

pub returns-in-Refused-clause-answer : goal.returns-in-Refused-clause-answer
returns-in-Refused-clause-answer g c h old stood is =
    let at = (goal.at.returns-in-Refused-clause-answer g c).After-checkpoint_on-outcome in
    let p = pair g at old stood is in
    refused_pair g.D.Disk old stood (shown c.self.inside) _ p c.newest-format.result c.args.bodies.now _ c.in-Refused.is c.checkpoint_on-outcome.ensures.not_full
    (came g at h stood p.other) refl refl refl refl refl refl refl refl

pub returns-in-Kept-clause-kept : goal.returns-in-Kept-clause-kept
returns-in-Kept-clause-kept g c alive fits few was =
    none_failed g (goal.at.returns-in-Kept-clause-kept g c).After-checkpoint_on-outcome _
    (wrote_kept _ _ c.checkpoint_on-outcome.new.disk c.in-Kept.is c.swap.ensures.x_after) few was

pub returns-in-Refused-clause-kept : goal.returns-in-Refused-clause-kept
returns-in-Refused-clause-kept g c alive fits few was =
    none_failed g (goal.at.returns-in-Refused-clause-kept g c).After-checkpoint_on-outcome _
    (wrote_refused _ _ c.checkpoint_on-outcome.new.disk c.in-Refused.is refl) few was

pub returns-in-Lost-clause-kept : goal.returns-in-Lost-clause-kept
returns-in-Lost-clause-kept g c alive fits few was =
    none_failed g (goal.at.returns-in-Lost-clause-kept g c).After-checkpoint_on-outcome _
    (wrote_lost _ _ c.checkpoint_on-outcome.new.disk c.in-Lost.is refl) few was

pub returns-in-Kept-clause-swaps : goal.returns-in-Kept-clause-swaps
returns-in-Kept-clause-swaps g c = search rules

pub returns-in-Kept-clause-known : goal.returns-in-Kept-clause-known
returns-in-Kept-clause-known g c h was =
    let k = of_fields (λ l. IsKnown g.D.Disk l) c.self.view_is was in
    let wrote = c.checkpoint_on-outcome in
    let format = c.newest-format.result in
    let reaches = wrote.ensures.reaches h c.in-Kept.is in
    let long : c.in-Some.end + 4 ≤ length (g.D.Disk.seen wrote.new.disk) = omega (arith, c.in-Some.ensures.some.0, reaches, length-text format c.args.bodies.now) in
    known_swapped g.D.Disk (shown c.self.inside) _ wrote.new.disk wrote.new.known (wrote.ensures.known h) k (c.in-Some.end + 4) long c.swap.ensures.x_after c.swap.ensures.y_after c.max-known.ensures refl

pub returns-in-Refused-clause-known : goal.returns-in-Refused-clause-known
returns-in-Refused-clause-known g c h was =
    let k = of_fields (λ l. IsKnown g.D.Disk l) c.self.view_is was in
    let wrote = c.checkpoint_on-outcome in
    known_beside g.D.Disk (shown c.self.inside) _ wrote.new.disk wrote.new.known (wrote.ensures.known h) k refl refl refl refl

pub returns-in-Lost-clause-known : goal.returns-in-Lost-clause-known
returns-in-Lost-clause-known g c h was =
    let k = of_fields (λ l. IsKnown g.D.Disk l) c.self.view_is was in
    let wrote = c.checkpoint_on-outcome in
    known_beside g.D.Disk (shown c.self.inside) _ wrote.new.disk wrote.new.known (wrote.ensures.known h) k refl refl refl refl

pub returns-in-Kept-clause-cleared : goal.returns-in-Kept-clause-cleared
returns-in-Kept-clause-cleared g c h kept alive =
    let wrote = c.checkpoint_on-outcome in
    let format = c.newest-format.result in
    let n : 4 + c.zeros_behind-more.result ≡ min 5 (c.self.inside.log_bytes - length (text format c.args.bodies.now)) =
    c.zeros_behind-more.ensures.exact ∙ ap (λ (e : ℕ). min 5 (c.self.inside.log_bytes - e)) c.in-Some.ensures.some.0 in
    cleared_by g.D.Disk format c.args.bodies.now wrote.new.disk _ _ _ c.newest-format.ensures n c.swap.ensures.x_after (wrote.ensures.cleared h c.in-Kept.is)
