-- What is looked up among users, and in the document that says them.
use Rattle.std.proofs.Common.{◌≡◌, ℕ, cond, List, [], ◌∷◌, Option, Some, IfSome, option_map, Ordering, Less, Equal, Greater}
use Rattle.std.proofs.Common.{nat_cmp, is_eq, refl, sym, subst}
use Rattle.std.specs.BTreeMap.{is_at}
use Rattle.std.specs.Cmp.Lexicographic.{slice_cmp}
use Rattle.std.specs.Map.{lookup}
use Rattle.std.specs.Ordering.{match_ordering}
use Rattle.toml.specs.Data.{Data, Members, get_member}
use Rattle.xa_users.specs.declared.user.User.{User}
use Rattle.xa_users.specs.Believed.Users.{Named, document_of, user_data}

found_or : (o : Ordering) (u : User) (rest : Option User) (d : Option Data) → option_map user_data rest ≡ d
    → option_map user_data (cond (is_eq o) (Some u) rest) ≡ match_ordering o d (Some (user_data u)) d
found_or Less u rest d e = e
found_or Equal u rest d e = refl
found_or Greater u rest d e = e

looked_up : (name : List ℕ) (us : List Named) → option_map user_data (lookup (is_at (slice_cmp nat_cmp name)) us) ≡ get_member name (document_of us)
looked_up name [] = refl
looked_up name (u ∷ us) = found_or (slice_cmp nat_cmp name u.0) u.1 _ _ (looked_up name us)

pub each_so : (o : Option Members) (us : List Named) → o ≡ Some (document_of us)
    → IfSome o (λ ms. (name : List ℕ) → option_map user_data (lookup (is_at (slice_cmp nat_cmp name)) us) ≡ get_member name ms)
each_so o us e =
    subst (λ p. IfSome p (λ ms. (name : List ℕ) → option_map user_data (lookup (is_at (slice_cmp nat_cmp name)) us) ≡ get_member name ms)) (sym e)
    (λ name. looked_up name us)
