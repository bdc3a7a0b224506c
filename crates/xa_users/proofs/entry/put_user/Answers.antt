use Rattle.std.proofs.Common.{◌≡◌, ◌++◌, List, ℕ, Result, Ok, Err, ap, ◌∙◌}
use Rattle.std.specs.Prelude.{OnOk, if◌then◌else◌, is_ok}
use Rattle.xa_users.specs.Believed.Entries.{entry_of}
use Rattle.xa_users.specs.Believed.Users.{user_named}
use Rattle.xa_users.proofs.entry.put_user.Goals as goal

put_so : {A E : Type 0} (r : Result A E) (new old xs ys : List ℕ) → new ≡ (if is_ok r then old ++ xs else old) → xs ≡ ys → OnOk r (new ≡ old ++ ys)
put_so (Ok x) new old xs ys e same = e ∙ ap (λ (bs : List ℕ). old ++ bs) same
put_so (Err x) new old xs ys e same = tt

pub returns-clause-lines : goal.returns-clause-lines
returns-clause-lines c =
    put_so c.extend_from_slice.result c.extend_from_slice.new.self.items c.args.out.now.items c.as_bytes.result.now
    (entry_of (user_named c.args.name.now c.args.role c.args.verifier.now))
    c.extend_from_slice.ensures.items (c.as_bytes.ensures.value ∙ c.in_ok-text.ensures)
