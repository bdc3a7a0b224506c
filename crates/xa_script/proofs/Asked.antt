-- The words of a line that was made of words.
use Rattle.std.proofs.Common.{◌≡◌, ◌∙◌, ℕ, ◌-◌, ◌<◌, ◌==◌, nat_lt, Bool, true, false, List, [], ◌∷◌, ◌++◌, length, get_or, refl, sym, ap, arith, append-nil}
use Rattle.std.specs.Prelude.{◌&&◌, nat_le}
use Rattle.std.specs.Io.BufRead.{ends_with_byte, strip_last}
use Rattle.std.specs.List.{list_all}
use Rattle.std.proofs.lemmas.Bool.{and_parts, and_from, ltb-true, eqb-true}
use Rattle.std.proofs.lemmas.Bool.Decides.{nat_tests}
use Rattle.std.proofs.lemmas.List.Folds.{list_all-append, list_all_at}
use Rattle.xa_script.specs.Asking.{words_text}
use Rattle.xa_script.specs.Requests.{is_graphic}
use Rattle.xa_script.specs.Words.{ends_word, next_place, words, words_from}
use Rattle.xa_script.specs.declared.words.Place.{Place}
use Rattle.xa_script.specs.declared.words.Place.TheVariants.{Front, Bare}

-- a character from $ to ~, so that it is no blank, no quote and no #
abbrev pub is_simple_character : ℕ → Bool
is_simple_character c = nat_le 36 c && nat_le c 126

abbrev pub is_simple : List ℕ → Bool
is_simple word = list_all is_simple_character word

pub simple_both : (xs ys : List ℕ) → is_simple xs ≡ true → is_simple ys ≡ true → is_simple (xs ++ ys) ≡ true
simple_both xs ys h k = list_all-append is_simple_character xs ys ∙ and_from (is_simple xs) (is_simple ys) h k

simple_is_graphic : (c : ℕ) → is_simple_character c ≡ true → (nat_le 33 c && nat_le c 126) ≡ true
simple_is_graphic c h = grind (arith, nat_tests, h)

pub simple_graphic : (word : List ℕ) → is_simple word ≡ true → is_graphic word ≡ true
simple_graphic [] h = refl
simple_graphic (c ∷ cs) h =
    let both = and_parts (is_simple_character c) (is_simple cs) h in
    and_from (nat_le 33 c && nat_le c 126) (is_graphic cs) (simple_is_graphic c both.0) (simple_graphic cs both.1)

-- words, of which only the last may have other characters from ! to ~
abbrev pub AreWords : List ℕ → List (List ℕ) → Type 0
AreWords word [] = is_graphic word ≡ true
AreWords word (next ∷ others) = (is_simple word ≡ true) × AreWords next others

graphic_goes_on : (place : Place) (c : ℕ) → (nat_le 33 c && nat_le c 126) ≡ true → ends_word place c ≡ false
graphic_goes_on place c h =
    let no_blank : (c == 32) ≡ false = grind (arith, nat_tests, h) in
    rw no_blank refl

last_word : (place : Place) (word : List ℕ) → is_graphic word ≡ true → words_from place word ≡ word ∷ []
last_word place [] h = refl
last_word place (c ∷ cs) h =
    let both = and_parts (nat_le 33 c && nat_le c 126) (is_graphic cs) h in
    rw (graphic_goes_on place c both.0, last_word (next_place place c) cs both.1) refl

bare_word : (word rest : List ℕ) → is_simple word ≡ true → words_from Bare (word ++ 32 ∷ rest) ≡ word ∷ words rest
bare_word [] rest h = refl
bare_word (c ∷ cs) rest h =
    let both = and_parts (is_simple_character c) (is_simple cs) h in
    rw (graphic_goes_on Bare c (simple_is_graphic c both.0), bare_word cs rest both.1) refl

no_quote : (c : ℕ) → is_simple_character c ≡ true → next_place Front c ≡ Bare
no_quote c h =
    let other : (c == 34) ≡ false = grind (arith, nat_tests, h) in
    rw other refl

first_of_more : (word rest : List ℕ) → is_simple word ≡ true → words (word ++ 32 ∷ rest) ≡ word ∷ words rest
first_of_more [] rest h = refl
first_of_more (c ∷ cs) rest h =
    let both = and_parts (is_simple_character c) (is_simple cs) h in
    rw (graphic_goes_on Front c (simple_is_graphic c both.0), no_quote c both.0, bare_word cs rest both.1) refl

pub words_are_read : (word : List ℕ) (others : List (List ℕ)) → AreWords word others → words (word ++ words_text others) ≡ word ∷ others
words_are_read word [] h = ap words (append-nil word) ∙ last_word Front word h
words_are_read word (next ∷ others) h =
    first_of_more word (next ++ words_text others) h.0 ∙ ap (λ (ws : List (List ℕ)). word ∷ ws) (words_are_read next others h.1)

-- such a line has no carriage return at its end

abbrev is_kept : ℕ → Bool
is_kept c = nat_le 32 c

graphic_kept : (word : List ℕ) → is_graphic word ≡ true → list_all is_kept word ≡ true
graphic_kept [] h = refl
graphic_kept (c ∷ cs) h =
    let both = and_parts (nat_le 33 c && nat_le c 126) (is_graphic cs) h in
    let head : is_kept c ≡ true = grind (arith, nat_tests, both.0) in
    and_from (is_kept c) (list_all is_kept cs) head (graphic_kept cs both.1)

line_kept : (word : List ℕ) (others : List (List ℕ)) → AreWords word others → list_all is_kept (word ++ words_text others) ≡ true
line_kept word [] h = list_all-append is_kept word [] ∙ and_from (list_all is_kept word) true (graphic_kept word h) refl
line_kept word (next ∷ others) h =
    list_all-append is_kept word (32 ∷ next ++ words_text others)
    ∙ and_from (list_all is_kept word) (list_all is_kept (next ++ words_text others)) (graphic_kept word (simple_graphic word h.0)) (line_kept next others h.1)

no_return : (line : List ℕ) (b : Bool) → ends_with_byte 13 line ≡ b → list_all is_kept line ≡ true → b ≡ false
no_return line false e h = refl
no_return line true e h =
    let both = and_parts (nat_lt 0 (length line)) (get_or line (length line - 1) 0 == 13) e in
    let some : 0 < length line = ltb-true 0 (length line) both.0 in
    let last : get_or line (length line - 1) 0 ≡ 13 = eqb-true (get_or line (length line - 1) 0) 13 both.1 in
    let lost : list_all is_kept line ≡ false = list_all_at is_kept line (length line - 1) 0 (omega arith) (rw last refl) in
    sym h ∙ lost

pub line_stays : (word : List ℕ) (others : List (List ℕ)) → AreWords word others →
    strip_last 13 (word ++ words_text others) ≡ word ++ words_text others
line_stays word others h =
    let line = word ++ words_text others in
    rw (no_return line (ends_with_byte 13 line) refl (line_kept word others h)) refl
