-- Worked rows: the lines of two users, with the secret `pencil` and the salt of RFC 7677, 3.
use Rattle.std.specs.Prelude.{◌≡◌, ℕ, List, codes}
use Rattle.xa_roles.specs.declared.role.Role.{Role}
use Rattle.xa_roles.specs.declared.role.Role.TheVariants.{Client, Operator}
use Rattle.xa_scram.specs.Rows.{worked_credentials}
use Rattle.xa_users.specs.Believed.Entries.{entry_of}
use Rattle.xa_users.specs.Believed.Users.{user_named}

abbrev entry : List ℕ → Role → List ℕ
entry name role = entry_of (user_named name role worked_credentials)

abbrev pub EntriesSo : Type 0
EntriesSo =
    (entry (codes "user") Client
    ≡ codes
    "[user]\nrole = \"client\"\nverifier = \"SCRAM-SHA-256$4096:W22ZaJ0SNY7soEsUEjb6gQ==$WG5d8oPm3OtcPnkdi4Uo7BkeZkBFzpcXkuLmtbsT4qY=:wfPLwcE6nTWhTAmQ7tl2KeoiWGPlZqQxSrmfPwDl2dU=\"\n")
    -- a name that TOML wants in quotes
    × (entry (codes "duty.1@host") Operator
    ≡ codes
    "[\"duty.1@host\"]\nrole = \"operator\"\nverifier = \"SCRAM-SHA-256$4096:W22ZaJ0SNY7soEsUEjb6gQ==$WG5d8oPm3OtcPnkdi4Uo7BkeZkBFzpcXkuLmtbsT4qY=:wfPLwcE6nTWhTAmQ7tl2KeoiWGPlZqQxSrmfPwDl2dU=\"\n")
