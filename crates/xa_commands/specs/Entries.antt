-- A user more in a text of users, and why there is none.
use Rattle.std.specs.Prelude.{ℕ, ◌≡◌, ◌⊎◌, ◌-◌, ◌==◌, ◌||◌, List, [], ◌∷◌, ◌++◌, None, IsSome, length, slice_index, if◌then◌else◌}
use Rattle.xa_commands.specs.declared.entry_fault.EntryFault.{EntryFault}
use Rattle.xa_commands.specs.declared.entry_fault.EntryFault.TheVariants as entry
use Rattle.xa_users.specs.Believed.Entries.{entry_of}
use Rattle.xa_users.specs.Believed.Users.{Named, SaysUsers, all_of, user_of}
use Rattle.xa_users.specs.Faults.{Says}
use Rattle.xa_users.specs.declared.fault.UsersFault.{UsersFault}
use Rattle.xa_users.specs.declared.fault.UsersFault.TheVariants.{Memory, Nobody}
use Rattle.xa_users.specs.declared.users.Users.{Users}

-- what stands between a text and an entry: the line feed that its last line lacks
abbrev pub gap_after : List ℕ → List ℕ
gap_after text = if (length text == 0) || (slice_index text (length text - 1) == 10) then [] else 10 ∷ []

abbrev pub with_entry : List ℕ → Named → List ℕ
with_entry text user = text ++ gap_after text ++ entry_of user

-- as which fault it is told that a text with an entry is none of users
abbrev pub unfit : UsersFault → EntryFault
unfit Memory = entry.Memory
unfit fault = entry.Unfit fault

-- the text says users, and this is how one is looked for
abbrev pub SaysThese : List ℕ → Users → Type 0
SaysThese text users = SaysUsers text (all_of users)

abbrev pub SaysSomebody : List ℕ → Type 0
SaysSomebody text = (users : Users) × SaysThese text users

-- the text says no users, or some, of whom none has this name
abbrev pub IsFree : List ℕ → List ℕ → Type 0
IsFree text name = Says text Nobody ⊎ ((users : Users) × SaysThese text users × (user_of users name ≡ None))

-- the text has a fault, other than that it says nobody
abbrev pub IsFaulty : List ℕ → UsersFault → Type 0
IsFaulty text Memory = ⊥
IsFaulty text Nobody = ⊥
IsFaulty text fault = Says text fault

-- why there is no place for the name
abbrev pub IsUnfree : List ℕ → List ℕ → EntryFault → Type 0
IsUnfree text name entry.Memory = Unit {0}
IsUnfree text name (entry.Unread fault) = IsFaulty text fault
IsUnfree text name entry.Taken = (users : Users) × SaysThese text users × IsSome (user_of users name)
IsUnfree text name (entry.Unfit fault) = ⊥

-- why there is no entry: there is no place for the name, or the text with the entry is no more of users
abbrev pub LacksEntry : List ℕ → Named → EntryFault → Type 0
LacksEntry text user (entry.Unfit Memory) = ⊥
LacksEntry text user (entry.Unfit fault) = IsFree text user.0 × Says (with_entry text user) fault
LacksEntry text user fault = IsUnfree text user.0 fault
