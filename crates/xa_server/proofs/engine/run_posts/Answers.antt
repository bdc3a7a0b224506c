use Rattle.std.specs.Option.{option_map}
use Rattle.std.proofs.Common.{◌∙◌, ap, arith, map}
use Rattle.xa_server.proofs.Sharing.{all_loop, all_settled, same_parts}
use Rattle.xa_server.proofs.engine.run_posts.Goals as goal

pub gather-requires-clause-settled : goal.gather-requires-clause-settled
gather-requires-clause-settled g c =
    all_settled g.M.Manages.manages g.S.Start.start g.S.Start.base (option_map (λ u. u.now) c.args.users) (λ p. p.handle.asker) c.args.posts.items
    c.in_ok-ended.ended.items c.in_ok-ended.ensures.count c.in_ok-ended.ensures.tended c.requires.fresh

pub returns-clause-settings : goal.returns-clause-settings
returns-clause-settings g c =
    ap (λ e. e.settings) c.index.ensures ∙ c.in_ok-ended.ensures.asked 0 _ (omega (arith, c.in_ok-ended.ensures.count, c.requires.some))

pub returns-clause-parts : goal.returns-clause-parts
returns-clause-parts g c =
    c.gather.ensures.parts
    ∙ same_parts g.M.Manages.manages g.S.Start.start g.S.Start.base (option_map (λ u. u.now) c.args.users) (λ p. p.handle.asker) c.args.posts.items
    c.in_ok-ended.ended.items c.in_ok-ended.ensures.count c.in_ok-ended.ensures.tended

pub returns-clause-loops : goal.returns-clause-loops
returns-clause-loops g c = (
  map (λ e. e.door.handle.asker) c.in_ok-ended.ended.items,
  all_loop g.M.Manages.manages g.S.Start.start g.S.Start.base (option_map (λ u. u.now) c.args.users) (λ p. p.handle.asker) c.args.posts.items
      c.in_ok-ended.ended.items c.in_ok-ended.ensures.count c.in_ok-ended.ensures.tended,
  c.gather.ensures.told,
)
