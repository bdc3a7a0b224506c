use Rattle.std.proofs.Common.{◌≡◌, ◌∙◌, ℕ, List, Option, Some, inr, subst, sym}
use Rattle.xa_scram.specs.Believed.Exchanges.{Begun}
use Rattle.xa_users.specs.Believed.Logins.{Shows}
use Rattle.xa_reactor.specs.Users.{IsRefused, Passes}
use Rattle.xa_reactor.specs.declared.logging_in.Passed.{Passed}
use Rattle.xa_reactor.proofs.peer.Peer.finish_login.Goals as goal

one_login : (begun : Option Begun) (a b : Begun) → begun ≡ Some a → begun ≡ Some b → a ≡ b
one_login begun a b is has = cc (sym is ∙ has)

-- what was begun proves nothing by this message, so nothing that was begun does
pub returns-in_default-finish-clause-passes : goal.returns-in_default-finish-clause-passes
returns-in_default-finish-clause-passes c =
    let users = c.args.users.now in
    let old = c.args.self.now in
    let message = c.args.message.now in
    let refused : IsRefused users old =
    inr (inr (
      message,
      c.requires.asks,
      λ login role is shows.
          c.in_default-finish.ensures.none role
          (subst (λ (m : List ℕ). Shows users c.in-Some.login m role) (sym c.as_slice.ensures.bytes)
          (subst (λ (l : Begun). Shows users l message role)
          (one_login old.login login c.in-Some.login is (sym c.in-Some.ensures.value)) shows)),
    )) in
    subst (λ (passed : Passed). Passes users old passed c.fail-in_default-finish.new.self) (sym c.fail-in_default-finish.ensures.fails)
    (refused, c.fail-in_default-finish.ensures.same)
