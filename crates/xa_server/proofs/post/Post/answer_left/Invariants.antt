use Rattle.std.proofs.Common.{◌≡◌, []}
use Rattle.std.specs.List.{AllWithin}
use Rattle.xa_reactor.specs.Asking.{IsAnswered, TellsSome}
use Rattle.xa_server.specs.Believed.Loops.{Called}
use Rattle.xa_tokens.specs.Believed.Account.{Owes}
use Rattle.xa_server.proofs.post.Post.answer_left.Given as goal

abbrev pub invariant-loop-ask : goal.invariant-loop-ask
invariant-loop-ask g l = record {
  some : TellsSome (Called g.M.Manages.manages g.S.Start.start g.S.Start.base) l.initial.self.handle.asker l.fn.asks l.asks l.self.handle.asker;
  same : l.fn.asks ≡ [] → l.self ≡ l.initial.self;
  none : AllWithin IsAnswered l.asks 0 l.ask-index;
  settled : Owes l.initial.self.handle.asker 0 → Owes l.self.handle.asker 0;
}
