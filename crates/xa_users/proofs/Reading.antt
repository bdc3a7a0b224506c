-- The users that are read of a document's members, one after the other.
use Rattle.std.proofs.Common.{◌≡◌, ℕ, List, [], ◌∷◌, ◌++◌, Some, All, String, Global, Ordering, Less, Greater, string_bytes, nat_cmp}
use Rattle.std.proofs.Common.{refl, sym, ap, subst, ◌∙◌, inl, inr, append_assoc, append-nil}
use Rattle.std.proofs.lemmas.Cmp.{nat_list_cmp_total}
use Rattle.std.proofs.lemmas.List.Elements.{All-append, All-cons, All-nil}
use Rattle.std.specs.BTreeMap.{insert_entry}
use Rattle.std.specs.Cmp.Lexicographic.{slice_cmp}
use Rattle.std.specs.List.{AllByRecursion}
use Rattle.std.specs.List.Sorted.{IsStrictlySortedBy}
use Rattle.std.specs.Map.{keys_of}
use Rattle.std.specs.Ordering.{ordering_reverse}
use Rattle.std.specs.String.{string_cmp}
use Rattle.toml.specs.Data.{Data, Members, member, no_members}
use Rattle.toml.specs.Parse.{parse_document}
use Rattle.toml.specs.View.{members_view, view}
use Rattle.toml.specs.declared.value.Value.{Value}
use Rattle.xa_users.specs.declared.fault.UsersFault.{UsersFault}
use Rattle.xa_users.specs.declared.misfit.Misfit.{Misfit}
use Rattle.xa_users.specs.declared.misfit.Misfit.TheVariants as misfit
use Rattle.xa_users.specs.declared.user.User.{User}
use Rattle.xa_users.specs.Believed.Users.{IsUser, Named, document_of, user_data}
use Rattle.xa_users.specs.Faults.{HasMember, HasMisfit, Misfits, Says, fault_at}

abbrev pub Entry : Type 0
Entry = String Global × Value

abbrev name_cmp : List ℕ → List ℕ → Ordering
name_cmp = slice_cmp nat_cmp

below_next : (first : Entry) (es : List Entry) (e : Entry) (more : List Entry)
    → AllByRecursion (λ y. string_cmp first.0 y ≡ Less) (keys_of (es ++ e ∷ more)) → string_cmp first.0 e.0 ≡ Less
below_next first [] e more h = h.0
below_next first (x ∷ es) e more h = below_next first es e more h.1

heads : (k l : List ℕ) (d e : Data) (ms ns : Members) → member k d ms ≡ member l e ns → k ≡ l
heads k l d e ms ns h = cc

tails : (k l : List ℕ) (d e : Data) (ms ns : Members) → member k d ms ≡ member l e ns → ms ≡ ns
tails k l d e ms ns h = cc

-- a key that is above those before it goes last
goes_last : (us : List Named) (done : List Entry) (e : Entry) (more : List Entry) (u : User) → members_view done ≡ document_of us
    → IsStrictlySortedBy string_cmp (keys_of (done ++ e ∷ more)) → insert_entry name_cmp us (string_bytes e.0) u ≡ us ++ (string_bytes e.0, u) ∷ []
unfolding IsStrictlySortedBy
goes_last [] done e more u same h = refl
goes_last (x ∷ us) [] e more u same h = absurd (cc same)
goes_last (x ∷ us) (first ∷ done) e more u same h =
    let key : string_bytes first.0 ≡ x.0 = heads _ _ _ _ _ _ same in
    let rest : members_view done ≡ document_of us = tails _ _ _ _ _ _ same in
    let above : name_cmp (string_bytes e.0) x.0 ≡ Greater =
    ap (λ k. name_cmp (string_bytes e.0) k) (sym key) ∙ nat_list_cmp_total.antisymm (string_bytes e.0) (string_bytes first.0)
    ∙ ap ordering_reverse (below_next first done e more h.0) in
    rw above (ap (λ t. x ∷ t) (goes_last us done e more u rest h.1))

said_last : (us : List Named) (done : List Entry) (e : Entry) (u : User) → members_view done ≡ document_of us → view e.1 ≡ user_data u
    → members_view (done ++ e ∷ []) ≡ document_of (us ++ (string_bytes e.0, u) ∷ [])
said_last [] [] e u same h = ap (λ d. member (string_bytes e.0) d no_members) h
said_last [] (d ∷ done) e u same h = absurd (cc same)
said_last (x ∷ us) [] e u same h = absurd (cc same)
said_last (x ∷ us) (d ∷ done) e u same h =
    let first : member (string_bytes d.0) (view d.1) (members_view done) ≡ member x.0 (user_data x.1) (document_of us) = same in
    let rest = said_last us done e u (tails _ _ _ _ _ _ first) h in
    (λ i. member (heads _ _ _ _ _ _ first i) (data_of first i) (rest i))
  where
    data_of : {k l : List ℕ} {d e : Data} {ms ns : Members} → member k d ms ≡ member l e ns → d ≡ e
    data_of h = cc h

-- the users of the members before these
pub record AreRead (all rest : List Entry) (us : List Named) : Type 0 where
  pub done : List Entry
  pub parts : all ≡ done ++ rest
  pub said : members_view done ≡ document_of us
  pub each : All IsUser us

pub none_read : (all : List Entry) (us : List Named) → us ≡ [] → AreRead all all us
none_read all us e =
    record {
      done = [];
      parts = refl;
      said = ap document_of (sym e);
      each = subst (λ (xs : List Named). All IsUser xs) (sym e) (All-nil IsUser);
    }

pub one_read : (all rest more : List Entry) (e : Entry) (us vs : List Named) (name : List ℕ) (u : User) → AreRead all rest us → rest ≡ e ∷ more
    → IsStrictlySortedBy string_cmp (keys_of all) → name ≡ string_bytes e.0 → view e.1 ≡ user_data u → IsUser (name, u)
    → vs ≡ insert_entry name_cmp us name u
    → AreRead all more vs
one_read all rest more e us vs name u h is sorted named said valid put =
    let parts : all ≡ h.done ++ e ∷ more = h.parts ∙ ap (λ (es : List Entry). h.done ++ es) is in
    let last : vs ≡ us ++ (string_bytes e.0, u) ∷ [] =
    put ∙ ap (λ k. insert_entry name_cmp us k u) named
    ∙ goes_last us h.done e more u h.said (subst (λ (es : List Entry). IsStrictlySortedBy string_cmp (keys_of es)) parts sorted) in
    let valid_last : IsUser (string_bytes e.0, u) = subst (λ k. IsUser (k, u)) named valid in
    let one : All IsUser ((string_bytes e.0, u) ∷ []) = All-cons IsUser (string_bytes e.0, u) [] valid_last (All-nil IsUser) in
    record {
      done = h.done ++ e ∷ [];
      parts = parts ∙ sym (append_assoc h.done (e ∷ []) more);
      said = said_last us h.done e u h.said said ∙ ap document_of (sym last);
      each = subst (λ (xs : List Named). All IsUser xs) (sym last) (All-append IsUser us ((string_bytes e.0, u) ∷ []) h.each one);
    }

pub all_read : (all rest : List Entry) (us : List Named) → AreRead all rest us → rest ≡ [] → (members_view all ≡ document_of us) × All IsUser us
all_read all rest us h none = (ap members_view (h.parts ∙ ap (λ (es : List Entry). h.done ++ es) none ∙ append-nil h.done) ∙ h.said, h.each)

member_of : (done : List Entry) (e : Entry) (more : List Entry) → HasMember (members_view (done ++ e ∷ more)) (string_bytes e.0) (view e.1)
member_of [] e more = inl (refl, refl)
member_of (d ∷ done) e more = inr (member_of done e more)

-- a fault at a member
pub faulty : (text : List ℕ) (name : String Global) (why : Misfit) → HasMisfit text name why → Says text (fault_at name why)
faulty text name misfit.Name h = h
faulty text name misfit.Members h = h
faulty text name misfit.Role h = h
faulty text name misfit.Verifier h = h

pub misread : (all rest more : List Entry) (e : Entry) (us : List Named) (name : String Global) (why : Misfit)
    (f : UsersFault) → AreRead all rest us → rest ≡ e ∷ more → string_bytes name ≡ string_bytes e.0
    → Misfits (string_bytes e.0) (view e.1) why → f ≡ fault_at name why
    → (text : List ℕ) → parse_document text ≡ Some (members_view all) → Says text f
misread all rest more e us name why f h is named misfit fault text parsed =
    let parts : all ≡ h.done ++ e ∷ more = h.parts ∙ ap (λ (es : List Entry). h.done ++ es) is in
    let there : HasMember (members_view all) (string_bytes e.0) (view e.1) =
    subst (λ (es : List Entry). HasMember (members_view es) (string_bytes e.0) (view e.1)) (sym parts) (member_of h.done e more) in
    let found = subst (λ k. HasMember (members_view all) k (view e.1)) (sym named) there in
    let wrong = subst (λ k. Misfits k (view e.1) why) (sym named) misfit in
    let at : HasMisfit text name why = (members_view all, view e.1, parsed, found, wrong) in
    subst (λ g. Says text g) (sym fault) (faulty text name why at)
