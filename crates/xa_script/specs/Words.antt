-- The words of a line: a blank ends a word, unless it stands within the quotes that the word began with.
use Rattle.std.specs.Prelude.{ℕ, ◌==◌, ◌&&◌, not, Bool, true, false, if◌then◌else◌}
use Rattle.std.specs.Prelude.{List, [], ◌∷◌, Option, Some, None, option_and_then}
use Rattle.std.specs.List.{onto_first}
use Rattle.std.specs.Option.{option_map}
use Rattle.xa_script.specs.declared.words.Place.{Place}
use Rattle.xa_script.specs.declared.words.Place.TheVariants.{Front, Bare, Quoted, Escaped}

abbrev pub is_within : Place → Bool
is_within Front = false
is_within Bare = false
is_within Quoted = true
is_within Escaped = true

-- a blank outside of quotes
abbrev pub ends_word : Place → ℕ → Bool
ends_word place c = (c == 32) && not (is_within place)

-- Behind one more character: a quote in front begins a text, the next one that has no backslash before it ends it.
abbrev pub next_place : Place → ℕ → Place
next_place Front c = if c == 34 then Quoted else Bare
next_place Bare c = Bare
next_place Quoted c = if c == 34 then Bare else if c == 92 then Escaped else Quoted
next_place Escaped c = Quoted

-- after all of these
abbrev pub place_behind : Place → List ℕ → Place
place_behind place [] = place
place_behind place (c ∷ cs) = place_behind (next_place place c) cs

-- the words of what is left of a line, from where the reading is: the first one may have begun before
abbrev pub words_from : Place → List ℕ → List (List ℕ)
words_from place [] = [] ∷ []
words_from place (c ∷ cs) =
    if ends_word place c then [] ∷ words_from Front cs else onto_first c (words_from (next_place place c) cs)

abbrev pub words : List ℕ → List (List ℕ)
words line = words_from Front line

-- the words of a rest, if there is one
abbrev pub words_behind : Option (List ℕ) → List (List ℕ)
words_behind None = []
words_behind (Some rest) = words rest

-- what is asked where no words stand after
abbrev pub alone : {X : Type 0} → X → List (List ℕ) → Option X
alone asked [] = Some asked
alone asked (word ∷ words) = None

-- the word of a list of one
abbrev pub one_of : List (List ℕ) → Option (List ℕ)
one_of (word ∷ []) = Some word
one_of _ = None

-- the words of a list of two
abbrev pub two_of : List (List ℕ) → Option (List ℕ × List ℕ)
two_of (first ∷ second ∷ []) = Some (first, second)
two_of _ = None

-- what is asked by one word
abbrev pub by_one : {A X : Type 0} → (List ℕ → Option A) → (A → X) → List (List ℕ) → Option X
by_one read asked words = option_map asked (option_and_then read (one_of words))

-- what is asked by two words, each of which is read by itself
abbrev pub by_two : {A B X : Type 0} → (List ℕ → Option A) → (List ℕ → Option B) → (A → B → X) → List (List ℕ)
    → Option X
by_two first_read second_read asked words =
    option_and_then
    (λ w. option_and_then (λ a. option_map (λ b. asked a b) (second_read w.1)) (first_read w.0))
    (two_of words)
