-- A text that says users has no fault.
use Rattle.std.proofs.Common.{◌≡◌, ℕ, zero, suc, Bool, true, false, ◌≤◌, List, [], ◌∷◌, Option, Some, None, Result, Ok, Err, String, Global, length}
use Rattle.std.proofs.Common.{All, string_bytes, refl, sym, ap, subst, ◌∙◌, inl, inr, arith}
use Rattle.std.specs.Prelude.{IfErr, IsOkUnless}
use Rattle.std.proofs.lemmas.List.Elements.{All-head, All-tail}
use Rattle.toml.specs.Data.{Data, Members, no_members}
use Rattle.toml.specs.Parse.{parse_document}
use Rattle.toml.specs.View.{members_view}
use Rattle.xa_users.specs.declared.fault.UsersFault.{UsersFault}
use Rattle.xa_users.specs.declared.fault.UsersFault.TheVariants as fault
use Rattle.xa_users.specs.declared.misfit.Misfit.{Misfit}
use Rattle.xa_users.specs.declared.misfit.Misfit.TheVariants as misfit
use Rattle.xa_users.specs.declared.user.User.{User}
use Rattle.xa_roles.specs.declared.role.Role.{Role}
use Rattle.xa_roles.specs.declared.role.Role.TheVariants.{Monitor, Client, Operator}
use Rattle.xa_roles.specs.Believed.Roles.{named, text_of as role_text}
use Rattle.xa_scram.specs.Believed.Messages.{text_of as verifier_text}
use Rattle.xa_users.specs.Believed.Users.{IsUser, Named, SaysUsers, document_of, parts_data, user_data}
use Rattle.xa_users.specs.Faults.{HasMember, HasMisfit, Misfits, Says, count_of}
use Rattle.xa_users.proofs.Reading.{Entry}

pub count_as : (es : List Entry) → count_of (members_view es) ≡ length es
count_as [] = refl
count_as (e ∷ es) = omega (arith, count_as es)

pub count_users : (us : List Named) → count_of (document_of us) ≡ length us
count_users [] = refl
count_users (u ∷ us) = omega (arith, count_users us)

pub same_document : (ms ns : Members) (o : Option Members) → o ≡ Some ms → o ≡ Some ns → ms ≡ ns
same_document ms ns o a b = cc

role_named : (role : Role) → named (role_text role) ≡ None → ⊥
role_named Monitor e = cc
role_named Client e = cc
role_named Operator e = cc

pub same_role : (a b c d : List ℕ) → parts_data a b ≡ parts_data c d → a ≡ c
same_role a b c d e = cc

pub same_verifier : (a b c d : List ℕ) → parts_data a b ≡ parts_data c d → b ≡ d
same_verifier a b c d e = cc

no_misfit : (key : List ℕ) (u : User) (d : Data) (why : Misfit) → IsUser (key, u) → user_data u ≡ d → Misfits key d why → ⊥
no_misfit key u d misfit.Name h is m = m h.0
no_misfit key u d misfit.Members h is m = m (role_text u.role) (verifier_text u.verifier) (sym is)
no_misfit key u d misfit.Role h is (role, verifier, parts, none) =
    role_named u.role (ap named (same_role (role_text u.role) (verifier_text u.verifier) role verifier (is ∙ parts)) ∙ none)
no_misfit key u d misfit.Verifier h is (role, verifier, parts, none) =
    none u.verifier h.1 (sym (same_verifier (role_text u.role) (verifier_text u.verifier) role verifier (is ∙ parts)))

no_misfit_in : (us : List Named) (key : List ℕ) (d : Data) (why : Misfit) → All IsUser us → HasMember (document_of us) key d → Misfits key d why → ⊥
no_misfit_in [] key d why h there m = there
no_misfit_in (u ∷ us) key d why h (inl (same, is)) m = no_misfit key u.1 d why (subst (λ k. IsUser (k, u.1)) same (All-head IsUser u us h)) is m
no_misfit_in (u ∷ us) key d why h (inr there) m = no_misfit_in us key d why (All-tail IsUser u us h) there m

none_such : (text : List ℕ) (name : String Global) (why : Misfit) (us : List Named) → SaysUsers text us → HasMisfit text name why → ⊥
none_such text name why us h (ms, d, parsed, there, m) =
    no_misfit_in us (string_bytes name) d why h.each
    (subst (λ ns. HasMember ns (string_bytes name) d) (same_document ms (document_of us) (parse_document text) parsed h.document) there) m

none_parsed : (us : List Named) (o : Option Members) → o ≡ None → o ≡ Some (document_of us) → ⊥
none_parsed us o a b = cc

none_empty : (us : List Named) → 1 ≤ length us → no_members ≡ document_of us → ⊥
none_empty [] h e = absurd (omega arith)
none_empty (u ∷ us) h e = cc

pub only_memory : (text : List ℕ) (f : UsersFault) (us : List Named) → SaysUsers text us → Says text f → f ≡ fault.Memory
only_memory text fault.Memory us h s = refl
only_memory text (fault.NoToml line) us h s = absurd (none_parsed us (parse_document text) s.0 h.document)
only_memory text (fault.Name name) us h s = absurd (none_such text name misfit.Name us h s)
only_memory text (fault.Members name) us h s = absurd (none_such text name misfit.Members us h s)
only_memory text (fault.Role name) us h s = absurd (none_such text name misfit.Role us h s)
only_memory text (fault.Verifier name) us h s = absurd (none_such text name misfit.Verifier us h s)
only_memory text fault.TooMany us h (ms, parsed, many) =
    let same : ms ≡ document_of us = same_document ms (document_of us) (parse_document text) parsed h.document in
    absurd (omega (arith, ap count_of same, count_users us, h.few, many))
only_memory text fault.Nobody us h s = absurd (none_empty us h.some (same_document no_members (document_of us) (parse_document text) s h.document))

pub only_so : {A : Type 0} (r : Result A UsersFault) (text : List ℕ) → IfErr r (Says text)
    → (us : List Named) → SaysUsers text us → IsOkUnless r fault.Memory
only_so (Ok x) text h us says = tt
only_so (Err f) text h us says = only_memory text f us says h

false_true : false ≡ true → ⊥
false_true e = cc

pub not_empty : (b : Bool) (n : ℕ) → b ≡ false → (n ≡ 0 → b ≡ true) → 1 ≤ n
not_empty b zero is h = absurd (false_true (sym is ∙ h refl))
not_empty b (suc n) is h = omega arith

pub nobody : (es : List Entry) → length es ≡ 0 → members_view es ≡ no_members
nobody [] h = refl
nobody (e ∷ es) h = absurd (omega arith)
