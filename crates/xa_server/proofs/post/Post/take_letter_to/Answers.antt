use Rattle.std.proofs.Common.{◌≡◌, ◌∙◌, true, refl, ap, subst, Option}
use Rattle.std.specs.Prelude.{IfSome}
use Rattle.xa_frame.specs.Limits.{IsReply}
use Rattle.xa_frame.specs.declared.reply.Reply.{Reply}
use Rattle.xa_frame.specs.declared.request.Request.{Request}
use Rattle.xa_handles.specs.Believed.Shared.{CalledBy}
use Rattle.xa_reactor.specs.declared.ask.Ask.{Ask}
use Rattle.xa_server.specs.Believed.Loops.{Called}
use Rattle.xa_server.specs.Believed.Watching.{is_restart}
use Rattle.xa_server.proofs.Letters.{letter_answered, letter_posted}
use Rattle.xa_server.proofs.Rounds.{tells_answer}
use Rattle.xa_server.proofs.Watching.{seen_then}
use Rattle.xa_server.proofs.post.Post.take_letter_to.Goals.{in-Some, in-None, in-Answered, in-Posted}
use Rattle.xa_server.proofs.post.Post.take_letter_to.Goals as goal
use Rattle.xa_tokens.specs.Believed.Account.{Account}

pub invariant_of-self : goal.invariant_of-self
invariant_of-self g c =
    let m = g.M.Manages.manages in
    let start = g.S.Start.start in
    let base = g.S.Start.base in
    let parts = c.into_parts-content in
    let old : Account = c.args.self.now.handle.asker in
    let new : Account = c.match-content.self.1.0.asker in
    let session = c.args.ask.now.session in
    let reply : Reply = c.match-content.reply.0 in
    let restarts = c.asks_restart-is_restart in
    elim c.match-ask.branch [
      | in-Some w ↦
          let event = w.is_of-is_of.ensures (cc (w.is_of-is, c.if-not-is_of.false)) in
          let did : CalledBy m start base session old w.in-Some.request reply new × IsReply reply =
          elim c.match-content.branch [
            | in-Answered v ↦
                letter_answered m start base parts.result.0 parts.result.1 parts.result.2 v.in-Answered.answered c.args.letter session
                w.in-Some.request reply old new v.in-Answered.is parts.ensures.is parts.ensures.letter event c.requires
                (ap (λ x. x.1.0.asker) v.self-is ∙ v.take_answer.ensures.told.0) v.take_answer.ensures.told.1
                (ap (λ x. x.0) v.reply-is ∙ v.take_answer.ensures.reply)
            | in-Posted v ↦
                letter_posted m start base parts.result.0 parts.result.1 parts.result.2 v.in-Posted.posted c.args.letter session
                w.in-Some.request reply v.call_back.result.0 old new v.call_back.new.self.asker v.in-Posted.is parts.ensures.is event c.requires
                v.call_back.ensures.did v.call_back.ensures.ends v.call_back.ensures.limits (ap (λ x. x.0) v.reply-is)
                (ap (λ x. x.1.0.asker) v.self-is)
          ] in
          let asked : restarts.result ≡ is_restart w.in-Some.request =
          subst (λ (q : Option Request). IfSome q (λ r. restarts.result ≡ is_restart r)) (ap (λ (a : Ask). a.request) w.ask-is ∙ w.in-Some.is)
          restarts.ensures
          in
          record {
            kept =
                seen_then m start base session old w.in-Some.request reply new c.args.self.now.seen c.see.new.seen restarts.result did.0
                c.args.self.now.kept asked c.see.ensures;
          }
      | in-None w ↦ absurd (cc (w.is_of-is, c.if-not-is_of.false))
    ]

pub returns-clause-told : goal.returns-clause-told
returns-clause-told g c =
    let m = g.M.Manages.manages in
    let start = g.S.Start.start in
    let base = g.S.Start.base in
    let parts = c.into_parts-content in
    let old : Account = c.args.self.now.handle.asker in
    let new : Account = c.match-content.self.1.0.asker in
    let session = c.args.ask.now.session in
    let reply : Reply = c.match-content.reply.0 in
    elim c.match-ask.branch [
      | in-Some w ↦
          let yes : w.is_of-is_of.result ≡ true = cc (w.is_of-is, c.if-not-is_of.false) in
          let event = w.is_of-is_of.ensures yes in
          let did : CalledBy m start base session old w.in-Some.request reply new × IsReply reply =
          elim c.match-content.branch [
            | in-Answered v ↦
                letter_answered m start base parts.result.0 parts.result.1 parts.result.2 v.in-Answered.answered c.args.letter session
                w.in-Some.request reply old new v.in-Answered.is parts.ensures.is parts.ensures.letter event c.requires
                (ap (λ x. x.1.0.asker) v.self-is ∙ v.take_answer.ensures.told.0) v.take_answer.ensures.told.1
                (ap (λ x. x.0) v.reply-is ∙ v.take_answer.ensures.reply)
            | in-Posted v ↦
                letter_posted m start base parts.result.0 parts.result.1 parts.result.2 v.in-Posted.posted c.args.letter session
                w.in-Some.request reply v.call_back.result.0 old new v.call_back.new.self.asker v.in-Posted.is parts.ensures.is event c.requires
                v.call_back.ensures.did v.call_back.ensures.ends v.call_back.ensures.limits (ap (λ x. x.0) v.reply-is)
                (ap (λ x. x.1.0.asker) v.self-is)
          ] in
          tells_answer (Called m start base) c.args.ask.now _ old new w.in-Some.request reply
          (ap (λ (a : Ask). a.key) w.ask-is) (ap (λ (a : Ask). a.session) w.ask-is) (ap (λ (a : Ask). a.connection) w.ask-is)
          (ap (λ (a : Ask). a.front) w.ask-is) w.in-Some.is refl refl did.0 did.1
      | in-None w ↦ absurd (cc (w.is_of-is, c.if-not-is_of.false))
    ]
