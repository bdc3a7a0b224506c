use Rattle.std.proofs.Common.{subst, sym}
use Rattle.xa_reactor.specs.declared.seen.Seen.{Seen}
use Rattle.xa_server.specs.Believed.Watching.{IsSeenLast}
use Rattle.xa_server.proofs.Watching.{seen_last}
use Rattle.xa_server.proofs.post.Post.into_parts.Goals as goal
use Rattle.xa_tokens.specs.Believed.Account.{Account}

pub returns-clause-seen : goal.returns-clause-seen
returns-clause-seen g c =
    let was = c.args.self in
    subst (λ (a : Account). IsSeenLast was.seen a.told) (sym c.into_share.ensures)
    (subst (λ (s : Seen). IsSeenLast s was.handle.asker.told) (sym was.kept) (seen_last was.handle.asker.told))
