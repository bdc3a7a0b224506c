-- The lines of a user are the document of that user alone.
use Rattle.std.proofs.Common.{◌≡◌, ℕ, false, List, [], ◌∷◌, ◌++◌, codes, refl, sym, ap, ◌∙◌, arith, append_assoc}
use Rattle.std.proofs.lemmas.List.Elements.{All-cons, All-nil}
use Rattle.toml.specs.Text.{IsDocumentText}
use Rattle.toml.proofs.ReadBack.{parse_document-printed}
use Rattle.toml_writer.specs.Text.{key_text, string_text}
use Rattle.xa_roles.specs.Believed.Roles.{text_of as role_text}
use Rattle.xa_scram.specs.Believed.Messages.{text_of as verifier_text}
use Rattle.xa_users.specs.Believed.Entries.{entry_of}
use Rattle.xa_users.specs.Believed.Users.{IsUser, Named, SaysUsers, document_of}

abbrev header_line : List ℕ → List ℕ
header_line key = codes "[" ++ (key ++ codes "]\n")

abbrev role_line : List ℕ → List ℕ
role_line role = codes "role" ++ (codes " = " ++ (role ++ codes "\n"))

abbrev verifier_line : List ℕ → List ℕ
verifier_line verifier = codes "verifier" ++ (codes " = " ++ (verifier ++ codes "\n"))

lines : (key role verifier : List ℕ) → header_line key ++ (role_line role ++ (verifier_line verifier ++ []))
    ≡ codes "[" ++ key ++ codes "]\nrole = " ++ role ++ codes "\nverifier = " ++ verifier ++ codes "\n"
lines key role verifier = simp append_assoc

lines_of : (u : Named)
    → header_line (key_text u.0)
    ++ (role_line (string_text (role_text u.1.role)) ++ (verifier_line (string_text (verifier_text u.1.verifier)) ++ [])) ≡ entry_of u
lines_of u = lines (key_text u.0) (string_text (role_text u.1.role)) (string_text (verifier_text u.1.verifier))

spelled : (u : Named) → IsDocumentText false (document_of (u ∷ [])) (entry_of u)
unfolding key_text
spelled u = (
  header_line (key_text u.0),
  _,
  sym (lines_of u),
  refl,
  (
    role_line (string_text (role_text u.1.role)),
    _,
    refl,
    (string_text (role_text u.1.role), refl, refl),
    (verifier_line (string_text (verifier_text u.1.verifier)), [], refl, (string_text (verifier_text u.1.verifier), refl, refl), refl),
  ),
)

joined : (text t r t' r' t'' r'' x y z : List ℕ) → text ≡ t ++ r → r ≡ t' ++ r' → r' ≡ t'' ++ r'' → r'' ≡ [] → t ≡ x → t' ≡ y → t'' ≡ z
    → text ≡ x ++ (y ++ (z ++ []))
joined text t r t' r' t'' r'' x y z a b c d e f g = cc

pub only_text : (u : Named) (text : List ℕ) → IsDocumentText false (document_of (u ∷ [])) text → text ≡ entry_of u
unfolding key_text
only_text u text (t, r, a, b, (t', r', a', (w, b', d'), (t'', r'', a'', (w', b'', d''), e))) =
    joined text t r t' r' t'' r'' (header_line (key_text u.0)) (role_line (string_text (role_text u.1.role)))
    (verifier_line (string_text (verifier_text u.1.verifier))) a a' a'' e b (b' ∙ ap role_line d') (b'' ∙ ap verifier_line d'')
    ∙ lines_of u

pub entry_says : (u : Named) → IsUser u → SaysUsers (entry_of u) (u ∷ [])
entry_says u h =
    record {
      some = omega arith;
      few = omega arith;
      each = All-cons IsUser u [] h (All-nil IsUser);
      document = parse_document-printed false (document_of (u ∷ [])) (entry_of u) (spelled u) (omega arith) refl refl;
    }
