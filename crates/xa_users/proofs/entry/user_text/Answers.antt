use Rattle.std.proofs.Common.{◌≡◌, [], ◌∷◌, Global, Ok, Err, Result, String, false, string_bytes, subst}
use Rattle.std.specs.Prelude.{IfOk}
use Rattle.toml.specs.Data.{Members}
use Rattle.toml.specs.Text.{IsDocumentText}
use Rattle.xa_users.specs.Believed.Entries.{entry_of}
use Rattle.xa_users.specs.Believed.Users.{Named, document_of, user_named}
use Rattle.xa_users.proofs.Entries.{only_text}
use Rattle.xa_users.proofs.entry.user_text.Goals as goal

lines_so : {E : Type 0} (r : Result (String Global) E) (ms : Members) (user : Named) → ms ≡ document_of (user ∷ [])
    → IfOk r (λ s. IsDocumentText false ms (string_bytes s)) → IfOk r (λ s. string_bytes s ≡ entry_of user)
lines_so (Ok s) ms user same is = only_text user (string_bytes s) (subst (λ (us : Members). IsDocumentText false us (string_bytes s)) same is)
lines_so (Err x) ms user same is = tt

pub returns : goal.returns
returns c =
    lines_so c.printed.result _ (user_named c.args.name.now c.args.role c.args.verifier.now) c.in_ok-document.ensures c.printed.ensures
