-- A client that was to log in, by how that ended.
use Rattle.std.proofs.Common.{◌≡◌, List, ℕ, Option, Result, Ok, Err, refl, sym, subst}
use Rattle.xa_commands.specs.LoggedIn.{ClientEnds, IsDrawn, IsEarly, IsLogin}
use Rattle.xa_commands.specs.declared.unlogged.Unlogged.{Unlogged}
use Rattle.xa_commands.specs.declared.unlogged.Unlogged.TheVariants.{Login, Memory, Name, NoText, Random, Secret, Typed, Unset}
use Rattle.xa_scram.specs.Believed.Limits.{IsName}
use Rattle.xa_talk.specs.Logins.{LogsIn}
use Rattle.xa_talk.specs.declared.login_fault.LoginFault.{LoginFault}

module _ {C : Type 0} (sent left : C → Option (List ℕ)) (user : List ℕ) (c : C) where
  -- nothing was sent
  ended_early : (why : Unlogged) → IsEarly why → ClientEnds sent left user (Err why) c c
  ended_early Memory early = refl
  ended_early (Name told) early = absurd early
  ended_early Unset early = refl
  ended_early (Typed fault) early = refl
  ended_early NoText early = refl
  ended_early (Secret path fault) early = refl
  ended_early (Random error) early = refl
  ended_early (Login reach told fault) early = absurd early

  pub early : (end : Result (Unit {0}) Unlogged) (why : Unlogged) → end ≡ Err why → IsEarly why → ClientEnds sent left user end c c
  early end why is nothing = subst (λ (e : Result (Unit {0}) Unlogged). ClientEnds sent left user e c c) (sym is) (ended_early why nothing)

  -- a login that was tried
  pub tried : (name nonce secret : List ℕ) (end ended : Result (Unit {0}) LoginFault) (c' : C) → name ≡ user → IsName user
      → IsDrawn nonce → end ≡ ended → LogsIn sent left name nonce secret c end c' → IsLogin sent left user ended c c'
  tried name nonce secret end ended c' same is drawn ends login = record {
    name = is;
    secret = secret;
    nonce = nonce;
    drawn = drawn;
    logs_in = subst (λ (e : Result (Unit {0}) LoginFault). LogsIn sent left user nonce secret c e c') ends
        (subst (λ (n : List ℕ). LogsIn sent left n nonce secret c end c') same login);
  }
