-- A document says one list of users.
use Rattle.std.proofs.Common.{◌≡◌, ℕ, List, [], ◌∷◌, Option, Some, All, refl, ap, ◌∙◌}
use Rattle.std.proofs.lemmas.List.Elements.{All-head, All-tail}
use Rattle.toml.specs.Data.{Data, Members, member}
use Rattle.toml.specs.Parse.{parse_document}
use Rattle.xa_roles.specs.declared.role.Role.{Role}
use Rattle.xa_roles.specs.declared.role.Role.TheVariants.{Monitor, Client, Operator}
use Rattle.xa_roles.specs.Believed.Roles.{named, text_of as role_text}
use Rattle.xa_scram.specs.Believed.Limits.{IsWithinLimits}
use Rattle.xa_scram.specs.Believed.Messages.{text_of as verifier_text}
use Rattle.xa_users.specs.declared.user.User.{User}
use Rattle.xa_users.specs.Believed.Users.{IsUser, Named, SaysUsers, document_of, user_data}
use Rattle.xa_users.proofs.Faulty.{same_document, same_role, same_verifier}
use Rattle.xa_users.proofs.Texts.{one_text}

named_text : (role : Role) → named (role_text role) ≡ Some role
named_text Monitor = refl
named_text Client = refl
named_text Operator = refl

same_some : {A : Type 0} (o : Option A) (x y : A) → o ≡ Some x → o ≡ Some y → x ≡ y
same_some o x y e f = cc

one_role : (a b : Role) → role_text a ≡ role_text b → a ≡ b
one_role a b e = same_some (named (role_text a)) a b (named_text a) (ap named e ∙ named_text b)

one_user : (u v : User) → IsWithinLimits u.verifier → IsWithinLimits v.verifier → user_data u ≡ user_data v → u ≡ v
one_user u v h k e =
    let role = one_role u.role v.role (same_role (role_text u.role) (verifier_text u.verifier) (role_text v.role) (verifier_text v.verifier) e) in
    let verifier =
    one_text u.verifier v.verifier h k
    (same_verifier (role_text u.role) (verifier_text u.verifier) (role_text v.role) (verifier_text v.verifier) e) in
    (λ i. record { role = role i; verifier = verifier i })

names : (k l : List ℕ) (d e : Data) (ms ns : Members) → member k d ms ≡ member l e ns → k ≡ l
names k l d e ms ns h = cc

values : (k l : List ℕ) (d e : Data) (ms ns : Members) → member k d ms ≡ member l e ns → d ≡ e
values k l d e ms ns h = cc

others : (k l : List ℕ) (d e : Data) (ms ns : Members) → member k d ms ≡ member l e ns → ms ≡ ns
others k l d e ms ns h = cc

same_users : (us vs : List Named) → All IsUser us → All IsUser vs → document_of us ≡ document_of vs → us ≡ vs
same_users [] [] h k e = refl
same_users [] (v ∷ vs) h k e = absurd (cc e)
same_users (u ∷ us) [] h k e = absurd (cc e)
same_users (u ∷ us) (v ∷ vs) h k e =
    let first : member u.0 (user_data u.1) (document_of us) ≡ member v.0 (user_data v.1) (document_of vs) = e in
    let name = names u.0 v.0 _ _ _ _ first in
    let user =
    one_user u.1 v.1 (All-head IsUser u us h).1 (All-head IsUser v vs k).1
    (values u.0 v.0 (user_data u.1) (user_data v.1) (document_of us) (document_of vs) first) in
    let rest =
    same_users us vs (All-tail IsUser u us h) (All-tail IsUser v vs k)
    (others u.0 v.0 (user_data u.1) (user_data v.1) (document_of us) (document_of vs) first) in
    (λ i. (name i, user i) ∷ rest i)

pub one_list : (text : List ℕ) (us vs : List Named) → SaysUsers text us → SaysUsers text vs → us ≡ vs
one_list text us vs h k = same_users us vs h.each k.each (same_document (document_of us) (document_of vs) (parse_document text) h.document k.document)
