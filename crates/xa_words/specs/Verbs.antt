-- The commands that ask a running server one thing, and what each of them takes.
use Rattle.std.specs.Prelude.{ℕ, Bool, true, false, List, [], ◌∷◌, Option, codes, bytes_eq, find}
use Rattle.std.specs.Option.{option_map}
use Rattle.xa_words.specs.declared.verb.Verb.{Verb}
use Rattle.xa_words.specs.declared.verb.Verb.TheVariants.{Status, Branches, Recover, Commit, Rollback, Forget, Decide, Doom, Disconnect, Trim, Restart, RollbackMarked}

-- the words that name one
abbrev pub named_verbs : List (List ℕ × Verb)
named_verbs =
    (codes "status", Status) ∷ (codes "branches", Branches) ∷ (codes "recover", Recover) ∷ (codes "commit", Commit)
    ∷ (codes "rollback", Rollback) ∷ (codes "forget", Forget) ∷ (codes "decide", Decide) ∷ (codes "doom", Doom)
    ∷ (codes "disconnect", Disconnect) ∷ (codes "trim", Trim) ∷ (codes "restart", Restart) ∷ (codes "rollback-marked", RollbackMarked) ∷ []

abbrev pub verb_of : List ℕ → Option Verb
verb_of word = option_map (λ entry. entry.1) (find (λ entry. bytes_eq entry.0 word) named_verbs)

abbrev pub verb_text : Verb → List ℕ
verb_text Status = codes "status"
verb_text Branches = codes "branches"
verb_text Recover = codes "recover"
verb_text Commit = codes "commit"
verb_text Rollback = codes "rollback"
verb_text Forget = codes "forget"
verb_text Decide = codes "decide"
verb_text Doom = codes "doom"
verb_text Disconnect = codes "disconnect"
verb_text Trim = codes "trim"
verb_text Restart = codes "restart"
verb_text RollbackMarked = codes "rollback-marked"

-- a branch is named
abbrev pub names_branch : Verb → Bool
names_branch Commit = true
names_branch Rollback = true
names_branch Forget = true
names_branch Decide = true
names_branch Doom = true
names_branch _ = false

-- a session is named
abbrev pub names_session : Verb → Bool
names_session Disconnect = true
names_session _ = false

-- a direction is named
abbrev pub names_direction : Verb → Bool
names_direction Decide = true
names_direction _ = false

-- the resource manager is opened by its name
abbrev pub opens_session : Verb → Bool
opens_session Recover = true
opens_session Commit = true
opens_session Rollback = true
opens_session Forget = true
opens_session RollbackMarked = true
opens_session _ = false

-- something is printed
abbrev pub lists : Verb → Bool
lists Status = true
lists Branches = true
lists Recover = true
lists Trim = true
lists RollbackMarked = true
lists _ = false

-- it can't be taken back
abbrev pub decides : Verb → Bool
decides Status = false
decides Branches = false
decides Recover = false
decides Trim = false
decides _ = true
