use Rattle.std.proofs.Common.{◌≡◌, []}
use Rattle.xa_server.specs.Rounds.{TakesBack}
use Rattle.xa_server.proofs.post.Post.take_back.Given as goal

abbrev pub invariant-loop : goal.invariant-loop
invariant-loop g l = record {
  back : TakesBack g.M.Manages.manages g.S.Start.start g.S.Start.base l.initial.self.handle.asker l.fn.asks l.asks l.self.handle.asker;
  same : l.fn.asks ≡ [] → l.self ≡ l.initial.self;
}
