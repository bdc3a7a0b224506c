-- What an opening is made of.
use Rattle.std.proofs.Common.{◌≡◌, ℕ, List, [], ◌∷◌, ◌++◌, Option, Some, ap, ◌∙◌, append_assoc}
use Rattle.xa_scram.specs.declared.opening.Binding.{Binding}
use Rattle.xa_scram.specs.declared.opening.Opening.{Opening}
use Rattle.xa_scram.specs.Cutting.{HasNone}
use Rattle.xa_scram.specs.Reading.{IsBare}
use Rattle.xa_scram.proofs.Cuts.{cut_so, name_no_comma, no_cut}

pub bare_split : (binding : Binding) (bytes : List ℕ) (o : Opening) → IsBare binding bytes o → bytes ≡ o.name ++ (44 ∷ 114 ∷ 61 ∷ o.nonce)
bare_split binding bytes o h = h.bytes_are ∙ append_assoc o.name (44 ∷ 114 ∷ 61 ∷ []) o.nonce

pub no_name : (binding : Binding) (bytes : List ℕ) (o : Opening) → HasNone 44 bytes → IsBare binding bytes o → ⊥
no_name binding bytes o none h = no_cut 44 bytes o.name (114 ∷ 61 ∷ o.nonce) none (bare_split binding bytes o h)

pub name_part : (binding : Binding) (bytes name rest : List ℕ) (o : Opening) → HasNone 44 name × (bytes ≡ name ++ (44 ∷ rest))
    → IsBare binding bytes o → (name ≡ o.name) × (rest ≡ 114 ∷ 61 ∷ o.nonce)
name_part binding bytes name rest o p h = cut_so 44 bytes name o.name rest (114 ∷ 61 ∷ o.nonce) p (name_no_comma o.name h.name.plain)
    (bare_split binding bytes o h)

pub same_opening : (o : Opening) (name nonce : List ℕ) (binding : Binding) → name ≡ o.name → nonce ≡ o.nonce → binding ≡ o.binding
    → Some (record { name = name; nonce = nonce; binding = binding }) ≡ Some o
same_opening o name nonce binding e f g =
    let make : List ℕ → List ℕ → Binding → Option Opening = λ a b c. Some (record { name = a; nonce = b; binding = c }) in
    ap (λ x. make x nonce binding) e ∙ ap (λ x. make o.name x binding) f ∙ ap (make o.name o.nonce) g
