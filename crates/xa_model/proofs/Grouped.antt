-- Each record that joined stands in the group of one that didn't.
use Rattle.std.proofs.Common.{◌≡◌, true, List, [], ◌∷◌, ◌++◌, Option, Some, None, refl, sym, ap, ◌∙◌, subst}
use Rattle.std.specs.Prelude.{IfSome}
use Rattle.std.proofs.lemmas.List.{append-nil, append_assoc}
use Rattle.xa_model.specs.declared.outcome.Appending.{Appending}
use Rattle.xa_model.specs.declared.outcome.Outcome.{Outcome}
use Rattle.xa_model.specs.declared.outcome.Outcome.TheVariants.{Quiet, Appended, Joined, Failed, Reread}
use Rattle.xa_model.specs.History.{Entry, joins, append_in, JoinAfter}
use Rattle.xa_model.specs.Laws.Groups.{IsGroup, GroupsShare}
use Rattle.xa_model.proofs.Splits.{all_append}

-- what stands before ends in a group of which this became, if the last of it appended
abbrev EndsIn : List Entry → Option Appending → Type 0
EndsIn before x = IfSome x (IsGroup before)

-- one entry more
goes_on : (before : List Entry) (x : Option Appending) (e : Entry) (o : Outcome) → e.outcome ≡ o → EndsIn before x
    → (joins o ≡ true → append_in o ≡ x) → EndsIn (before ++ e ∷ []) (append_in o)
goes_on before x e Quiet is h joined = tt
goes_on before x e Failed is h joined = tt
goes_on before x e (Reread survived appended) is h joined = tt
goes_on before x e (Appended appending) is h joined =
    record { earlier = before; first = e; joined = []; whole = refl; appended = is; each = tt }
goes_on before x e (Joined appending) is h joined =
    let g : IsGroup before appending = subst (λ (y : Option Appending). EndsIn before y) (sym (joined refl)) h in
    record {
      earlier = g.earlier;
      first = g.first;
      joined = g.joined ++ e ∷ [];
      whole = ap (λ (l : List Entry). l ++ e ∷ []) g.whole ∙ append_assoc g.earlier (g.first ∷ g.joined) (e ∷ []);
      appended = g.appended;
      each = all_append (λ (q : Entry). q.outcome ≡ Joined appending) g.joined (e ∷ []) g.each (is, tt);
    }

shares : (done before later : List Entry) (entry : Entry) (appending : Appending) (x : Option Appending) → EndsIn done x
    → JoinAfter x (before ++ entry ∷ later) → entry.outcome ≡ Joined appending → IsGroup (done ++ before) appending
shares done [] later entry appending x h after is =
    let same : append_in entry.outcome ≡ x = after.0 (ap joins is) in
    let found : Some appending ≡ x = sym (ap append_in is) ∙ same in
    subst (λ (l : List Entry). IsGroup l appending) (sym (append-nil done)) (subst (λ (y : Option Appending). EndsIn done y) (sym found) h)
shares done (e ∷ es) later entry appending x h after is =
    subst (λ (l : List Entry). IsGroup l appending) (append_assoc done (e ∷ []) es)
    (shares (done ++ e ∷ []) es later entry appending (append_in e.outcome) (goes_on done x e e.outcome refl h after.0) after.1 is)

pub groups_share : GroupsShare
groups_share before later entry appending groups is = shares [] before later entry appending None tt groups is
