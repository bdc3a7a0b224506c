use Rattle.std.proofs.Common.{◌≡◌, ◌∙◌, List, ℕ, refl, subst}
use Rattle.xa_commands.specs.Enrolled.{HasEntered, IsVerifierOfSome}
use Rattle.xa_scram.specs.Believed.Limits.{IsName}
use Rattle.xa_users.specs.Believed.Users.{user_named}
use Rattle.xa_commands.proofs.enrolling.add_user.Goals as goal

pub returns-in-Ok : goal.returns-in-Ok
returns-in-Ok g c =
    let same : c.in-Some.user ≡ c.args.name.now = c.in-Some.ensures.name ∙ c.as_bytes.ensures.value in
    record {
      is_name = subst IsName c.as_bytes.ensures.value (c.in-Some.ensures.valid.0 refl);
      secret = c.in_ok-secret.secret.items;
      is_secret = c.in_ok-secret.ensures;
      verifier = c.in_ok-verifier.verifier;
      of_secret = subst (λ (s : List ℕ). IsVerifierOfSome s c.in_ok-verifier.verifier) c.as_slice.ensures.value c.in_ok-verifier.ensures;
      file = c.in_ok-file.file;
      file' = c.replace-replaced.new.file;
      entered = subst
          (λ (name : List ℕ).
          HasEntered g.R.File.Write.contents (user_named name c.args.role c.in_ok-verifier.verifier) c.in_ok-file.file c.replace-replaced.new.file)
          same c.in_default-replaced.ensures;
    }
