use Rattle.std.proofs.Common.{◌≡◌, ◌∙◌, Ok, Err, ap, refl, subst}
use Rattle.std.proofs.lemmas.Result.{err_from_is_err_and}
use Rattle.xa_commands.specs.contracts.stream.StreamRead.TheImpl as read
use Rattle.xa_commands.specs.contracts.stream.StreamWrite.TheImpl as write
use Rattle.xa_commands.proofs.LoggingIn.{early, tried}
use Rattle.xa_scram.specs.Believed.Limits.{IsName}
use Rattle.xa_commands.proofs.client.Client.log_in.Goals as goal

pub returns-in_err-secret-in-None : goal.returns-in_err-secret-in-None
returns-in_err-secret-in-None g c =
    let p = err_from_is_err_and c.from_residual.result c.from_residual.ensures.1 in
    early (λ k. write.ghosts.contents k.writer) (λ k. read.ghosts.remaining k.reader) c.args.self.now.user.now c.args.connection.now
    c.from_residual.result c.in_err-secret-in-None.field-0.0 (p.1 ∙ ap Err p.2) c.in_err-secret-in-None.ensures

pub returns-in_err-nonce : goal.returns-in_err-nonce
returns-in_err-nonce g c =
    let p = err_from_is_err_and c.from_residual-in_err-nonce.result c.from_residual-in_err-nonce.ensures.1 in
    early (λ k. write.ghosts.contents k.writer) (λ k. read.ghosts.remaining k.reader) c.args.self.now.user.now c.args.connection.now
    c.from_residual-in_err-nonce.result c.in_err-nonce.field-0.0 (p.1 ∙ ap Err p.2) c.in_err-nonce.ensures

pub returns-in-Ok : goal.returns-in-Ok
returns-in-Ok g c =
    let same : c.in-Some.name ≡ c.args.self.now.user.now = c.in-Some.ensures.name ∙ c.as_bytes.ensures.value in
    let is : IsName c.args.self.now.user.now = subst IsName c.as_bytes.ensures.value (c.in-Some.ensures.valid.0 refl) in
    tried (λ k. write.ghosts.contents k.writer) (λ k. read.ghosts.remaining k.reader) c.args.self.now.user.now c.args.connection.now
    c.in-Some.name c.in_ok-nonce.nonce c.as_slice.result.now c.log_in-end.result (Ok tt) c.log_in-end.new.connection same is
    c.in_ok-nonce.ensures c.in-Ok.is c.log_in-end.ensures

pub returns-in-Err : goal.returns-in-Err
returns-in-Err g c =
    let same : c.in-Some.name ≡ c.args.self.now.user.now = c.in-Some.ensures.name ∙ c.as_bytes.ensures.value in
    let is : IsName c.args.self.now.user.now = subst IsName c.as_bytes.ensures.value (c.in-Some.ensures.valid.0 refl) in (
      refl,
      tried (λ k. write.ghosts.contents k.writer) (λ k. read.ghosts.remaining k.reader) c.args.self.now.user.now c.args.connection.now
          c.in-Some.name c.in_ok-nonce.nonce c.as_slice.result.now c.log_in-end.result (Err c.in-Err.fault) c.log_in-end.new.connection same is
          c.in_ok-nonce.ensures c.in-Err.is c.log_in-end.ensures,
    )
