use Rattle.std.proofs.Common.{◌≡◌, ◌∙◌, ◌++◌, List, ℕ, append_assoc, string_bytes, subst}
use Rattle.xa_users.specs.Believed.Entries.{entry_of}
use Rattle.xa_commands.specs.Entries.{IsFree, LacksEntry, gap_after, unfit, with_entry}
use Rattle.xa_users.specs.Believed.Users.{Named, user_named}
use Rattle.xa_users.specs.Faults.{Says}
use Rattle.xa_users.specs.declared.fault.UsersFault.{UsersFault}
use Rattle.xa_users.specs.declared.fault.UsersFault.TheVariants.{Memory, Members, Name, NoToml, Nobody, Role, TooMany, Verifier}
use Rattle.xa_commands.proofs.entries.with_user.Goals as goal

lacks : (text new : List ℕ) (user : Named) (fault : UsersFault) → new ≡ with_entry text user → IsFree text user.0 → Says new fault
    → LacksEntry text user (unfit fault)
lacks text new user Memory is free says = tt
lacks text new user (NoToml line) is free says = (free, subst (λ (t : List ℕ). Says t (NoToml line)) is says)
lacks text new user (Name name) is free says = (free, subst (λ (t : List ℕ). Says t (Name name)) is says)
lacks text new user (Members name) is free says = (free, subst (λ (t : List ℕ). Says t (Members name)) is says)
lacks text new user (Role name) is free says = (free, subst (λ (t : List ℕ). Says t (Role name)) is says)
lacks text new user (Verifier name) is free says = (free, subst (λ (t : List ℕ). Says t (Verifier name)) is says)
lacks text new user TooMany is free says = (free, subst (λ (t : List ℕ). Says t TooMany) is says)
lacks text new user Nobody is free says = (free, subst (λ (t : List ℕ). Says t Nobody) is says)

joined : (text gap gap' lines lines' new : List ℕ) → new ≡ text ++ (gap ++ lines) → gap ≡ gap' → lines ≡ lines'
    → new ≡ text ++ gap' ++ lines'
joined text gap gap' lines lines' new is same one = rw append_assoc (rw (← same, ← one) is)

pub returns : goal.returns
returns c =
    let user : Named = user_named c.args.name.now c.args.role c.args.verifier.now in
    let made : string_bytes c.in_ok-new.new ≡ with_entry c.args.text.now user =
    joined c.args.text.now c.gap_after-gap.result.now (gap_after c.args.text.now) (string_bytes c.in_ok-lines.lines) (entry_of user)
    (string_bytes c.in_ok-new.new) c.in_ok-new.ensures.ok c.gap_after-gap.ensures c.in_ok-lines.ensures in
    record {
      made = tt;
      free = tt;
      taken = tt;
      fault = rw c.unfit.ensures
          (lacks c.args.text.now c.as_str.result.now user c.in-Err.fault (c.as_str.ensures.value ∙ made) c.in_ok-see_free.ensures.free
          c.in-Err.ensures.fault);
    }
