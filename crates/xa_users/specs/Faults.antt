-- What each fault of a text says of it.
use Rattle.std.specs.Prelude.{◌≡◌, ℕ, ◌<◌, ◌≤◌, ◌+◌, ◌⊎◌, ◌==◌, List, Some, None, String, count_by, length, string_bytes, take}
use Rattle.std.specs.declared.alloc.Global.{Global}
use Rattle.toml.specs.Data.{Data, Members, no_members, member}
use Rattle.toml.specs.Parse.{parse_document}
use Rattle.xa_scram.specs.Believed.Keys.{Credentials}
use Rattle.xa_scram.specs.Believed.Limits.{IsName, IsWithinLimits}
use Rattle.xa_scram.specs.Believed.Messages.{text_of as verifier_text}
use Rattle.xa_roles.specs.Believed.Roles.{named}
use Rattle.xa_users.specs.declared.misfit.Misfit.{Misfit}
use Rattle.xa_users.specs.declared.misfit.Misfit.TheVariants as misfit
use Rattle.xa_users.specs.declared.fault.UsersFault.{UsersFault}
use Rattle.xa_users.specs.declared.fault.UsersFault.TheVariants as fault
use Rattle.xa_users.specs.declared.users.TheConstants.{MOST_USERS}
use Rattle.xa_users.specs.Believed.Users.{parts_data}

-- how many members there are
abbrev pub count_of : Members → ℕ
count_of no_members = 0
count_of (member k d ms) = 1 + count_of ms

-- the members have this key with this
abbrev pub HasMember : Members → List ℕ → Data → Type 0
HasMember no_members key d = ⊥
HasMember (member k e ms) key d = ((k ≡ key) × (e ≡ d)) ⊎ HasMember ms key d

-- a member is no user of that name: what is wrong
abbrev pub Misfits : List ℕ → Data → Misfit → Type 0
Misfits key d misfit.Name = IsName key → ⊥
Misfits key d misfit.Members = (role verifier : List ℕ) → d ≡ parts_data role verifier → ⊥
Misfits key d misfit.Role = (role : List ℕ) × (verifier : List ℕ) × (d ≡ parts_data role verifier) × (named role ≡ None)
Misfits key d misfit.Verifier =
    (role : List ℕ) × (verifier : List ℕ) × (d ≡ parts_data role verifier)
    × ((c : Credentials) → IsWithinLimits c → verifier ≡ verifier_text c → ⊥)

-- the text is a document with a member of this name that is no user
abbrev pub HasMisfit : List ℕ → String Global → Misfit → Type 0
HasMisfit text name why =
    (ms : Members) × (d : Data) × (parse_document text ≡ Some ms) × HasMember ms (string_bytes name) d × Misfits (string_bytes name) d why

-- the line of a place in the text, counted from 1
abbrev pub IsLineOf : List ℕ → ℕ → Type 0
IsLineOf text line = (place : ℕ) × (place ≤ length text) × (line ≡ count_by (λ b. b == 10) (take place text) + 1)

-- what is so where a text has this fault
abbrev pub Says : List ℕ → UsersFault → Type 0
Says text fault.Memory = Unit {0}
Says text (fault.NoToml line) = (parse_document text ≡ None) × IsLineOf text line
Says text (fault.Name name) = HasMisfit text name misfit.Name
Says text (fault.Members name) = HasMisfit text name misfit.Members
Says text (fault.Role name) = HasMisfit text name misfit.Role
Says text (fault.Verifier name) = HasMisfit text name misfit.Verifier
Says text fault.TooMany = (ms : Members) × (parse_document text ≡ Some ms) × (MOST_USERS < count_of ms)
Says text fault.Nobody = parse_document text ≡ Some no_members

abbrev pub fault_at : String Global → Misfit → UsersFault
fault_at name misfit.Name = fault.Name name
fault_at name misfit.Members = fault.Members name
fault_at name misfit.Role = fault.Role name
fault_at name misfit.Verifier = fault.Verifier name
