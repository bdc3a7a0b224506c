-- The worked rows, by computing.
use Rattle.std.proofs.Common.{ℕ, List, ◌++◌, codes, refl, ap, ◌∙◌}
use Rattle.toml_writer.specs.Text.{encoding_of, escaped, key_text, needs_escape, quotes_after, string_text}
use Rattle.xa_scram.proofs.Worked.{spelled}
use Rattle.xa_users.specs.Rows.{EntriesSo}

abbrev lines : List ℕ → List ℕ → List ℕ → List ℕ
lines name role text =
    codes "[" ++ key_text name ++ codes "]\nrole = " ++ string_text role ++ codes "\nverifier = " ++ string_text text ++ codes "\n"

pub entries : EntriesSo
unfolding encoding_of escaped key_text needs_escape quotes_after string_text
entries = (
  ap (λ (text : List ℕ). lines (codes "user") (codes "client") text) spelled.6 ∙ refl,
  ap (λ (text : List ℕ). lines (codes "duty.1@host") (codes "operator") text) spelled.6 ∙ refl,
)
