-- The lines of a user in a document.
use Rattle.std.specs.Prelude.{ℕ, List, ◌++◌, codes}
use Rattle.toml_writer.specs.Text.{key_text, string_text}
use Rattle.xa_scram.specs.Believed.Messages.{text_of as verifier_text}
use Rattle.xa_roles.specs.Believed.Roles.{text_of as role_text}
use Rattle.xa_users.specs.Believed.Users.{Named}

-- the name in brackets, in quotes where TOML wants them, and the two strings
abbrev pub entry_of : Named → List ℕ
entry_of u =
    codes "[" ++ key_text u.0 ++ codes "]\nrole = " ++ string_text (role_text u.1.role) ++ codes "\nverifier = "
    ++ string_text (verifier_text u.1.verifier) ++ codes "\n"
