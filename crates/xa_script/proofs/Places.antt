-- A line is cut where its words end.
use Rattle.std.proofs.Common.{◌≡◌, ◌∙◌, ◌==◌, ℕ, ◌/◌, ◌%◌, Bool, true, false, List, [], ◌∷◌, ◌++◌, Option, Some, None, refl, sym, ap, arith, cond, append_assoc, append-nil}
use Rattle.std.specs.Prelude.{◌&&◌, unwrap_or, option_and_then}
use Rattle.std.specs.Option.{option_map}
use Rattle.std.specs.List.{onto_first}
use Rattle.std.proofs.lemmas.Bool.Decides.{nat_tests}
use Rattle.xa_script.specs.declared.line.Line.TheVariants.{Unknown}
use Rattle.xa_script.specs.declared.words.Place.{Place}
use Rattle.xa_script.specs.declared.words.Place.TheVariants.{Front, Quoted, Escaped}
use Rattle.xa_script.specs.Lines.{asked_by, by_words}
use Rattle.xa_script.specs.Requests.{cursor_of}
use Rattle.xa_script.specs.Texts.{is_marked, is_plain, quoted, spelled, spelled_byte}
use Rattle.xa_script.specs.Words.{alone, ends_word, is_within, next_place, one_of, words, words_from}
use Rattle.xa_xid.specs.Spelling.{hex_digit}
use Rattle.xa_xid.specs.Triple.{Triple}

-- some characters in front of the first word
abbrev pub onto : List ℕ → List (List ℕ) → List (List ℕ)
onto front [] = front ∷ []
onto front (first ∷ others) = (front ++ first) ∷ others

pub onto_more : (front : List ℕ) (c : ℕ) (words : List (List ℕ)) → onto front (onto_first c words) ≡ onto (front ++ c ∷ []) words
onto_more front c [] = refl
onto_more front c (first ∷ others) = ap (λ (w : List ℕ). w ∷ others) (sym (append_assoc front (c ∷ []) first))

-- what holds of each list of one word or more holds of the words of a line
onto_words : (P : List (List ℕ) → Type 0) → ((first : List ℕ) (others : List (List ℕ)) → P (first ∷ others)) →
    (c : ℕ) (words : List (List ℕ)) → P (onto_first c words)
onto_words P h c [] = h (c ∷ []) []
onto_words P h c (first ∷ others) = h (c ∷ first) others

pub of_words : (P : List (List ℕ) → Type 0) → ((first : List ℕ) (others : List (List ℕ)) → P (first ∷ others)) →
    (place : Place) (line : List ℕ) → P (words_from place line)
of_words P h place [] = h [] []
of_words P h place (c ∷ cs) =
    elim (ends_word place c) as (λ b. P (cond b ([] ∷ words_from Front cs) (onto_first c (words_from (next_place place c) cs))))
    [ true ↦ h [] (words_from Front cs) | false ↦ onto_words P h c (words_from (next_place place c) cs) ]

pub onto_none : (place : Place) (line : List ℕ) → onto [] (words_from place line) ≡ words_from place line
onto_none place line = of_words (λ words. onto [] words ≡ words) (λ first others. refl) place line

-- one more character of the word
pub goes_on : (front : List ℕ) (place : Place) (c : ℕ) (cs : List ℕ) → ends_word place c ≡ false →
    onto front (words_from place (c ∷ cs)) ≡ onto (front ++ c ∷ []) (words_from (next_place place c) cs)
goes_on front place c cs e = rw e (onto_more front c (words_from (next_place place c) cs))

-- the blank that ends it
pub ends : (front : List ℕ) (place : Place) (c : ℕ) (cs : List ℕ) → ends_word place c ≡ true →
    onto front (words_from place (c ∷ cs)) ≡ front ∷ words cs
ends front place c cs e = rw e (ap (λ (w : List ℕ). w ∷ words cs) (append-nil front))

-- a word and the words of a line are more than one
pub not_one : (first line : List ℕ) → one_of (first ∷ words line) ≡ None
not_one first line = of_words (λ words. one_of (first ∷ words) ≡ None) (λ second others. refl) Front line

-- the words of a line are one or more, so that nothing is alone in front of them
pub not_alone : {X : Type 0} (asked : X) (line : List ℕ) → alone asked (words line) ≡ None
not_alone asked line = of_words (λ words. alone asked words ≡ None) (λ first others. refl) Front line

-- of the words of a line the only one is the XID's
cursor_each : (xid_of : List ℕ → Option Triple) (first : List ℕ) (others : List (List ℕ)) → cursor_of xid_of (first ∷ others) ≡ option_map (λ xid. Some xid) (option_and_then xid_of (one_of (first ∷ others)))
cursor_each xid_of first [] = refl
cursor_each xid_of first (second ∷ others) = refl

pub cursor_words : (xid_of : List ℕ → Option Triple) (line : List ℕ) → cursor_of xid_of (words line) ≡ option_map (λ xid. Some xid) (option_and_then xid_of (one_of (words line)))
cursor_words xid_of line =
    of_words (λ words. cursor_of xid_of words ≡ option_map (λ xid. Some xid) (option_and_then xid_of (one_of words))) (cursor_each xid_of) Front line

-- a word and the words of a line
pub more_words : (xid_of : List ℕ → Option Triple) (first line : List ℕ) → by_words xid_of (first ∷ words line)
    ≡ unwrap_or (asked_by xid_of first (words line)) Unknown
more_words xid_of first line =
    of_words (λ others. by_words xid_of (first ∷ others) ≡ unwrap_or (asked_by xid_of first others) Unknown)
    (λ second others. refl) Front line

onto_both : (front text : List ℕ) (words : List (List ℕ)) → onto front (onto text words) ≡ onto (front ++ text) words
onto_both front text [] = refl
onto_both front text (first ∷ others) = ap (λ (w : List ℕ). w ∷ others) (sym (append_assoc front text first))

onto_one : (c : ℕ) (words : List (List ℕ)) → onto_first c words ≡ onto (c ∷ []) words
onto_one c [] = refl
onto_one c (first ∷ others) = refl

and_false : (b : Bool) → (b && false) ≡ false
and_false true = refl
and_false false = refl

-- from one place within quotes to another, over one character
goes : (c : ℕ) (place : Place) (rest : List ℕ) → is_within place ≡ true →
    words_from place (c ∷ rest) ≡ onto (c ∷ []) (words_from (next_place place c) rest)
goes c place rest within = rw (within, and_false (c == 32)) (onto_one c (words_from (next_place place c) rest))

stays : (c : ℕ) (rest : List ℕ) → next_place Quoted c ≡ Quoted → words_from Quoted (c ∷ rest) ≡ onto (c ∷ []) (words_from Quoted rest)
stays c rest h = goes c Quoted rest refl ∙ ap (λ (p : Place). onto (c ∷ []) (words_from p rest)) h

-- a backslash and a character
escapes : (c : ℕ) (rest : List ℕ) → words_from Quoted (92 ∷ c ∷ rest) ≡ onto (92 ∷ c ∷ []) (words_from Quoted rest)
escapes c rest =
    goes 92 Quoted (c ∷ rest) refl ∙ ap (onto (92 ∷ [])) (goes c Escaped rest refl) ∙ onto_both (92 ∷ []) (c ∷ []) (words_from Quoted rest)

digit_stays : (n : ℕ) → next_place Quoted (hex_digit n) ≡ Quoted
digit_stays n = grind (arith, nat_tests)

plain_stays : (b : ℕ) → is_plain b ≡ true → next_place Quoted b ≡ Quoted
plain_stays b h = grind (arith, nat_tests, h)

byte_within : (b : ℕ) (rest : List ℕ) → words_from Quoted (spelled_byte b ++ rest) ≡ onto (spelled_byte b) (words_from Quoted rest)
byte_within b rest = go (is_plain b) refl (is_marked b) refl
  where
    go : (plain : Bool) → is_plain b ≡ plain → (marked : Bool) → is_marked b ≡ marked
        → words_from Quoted (spelled_byte b ++ rest) ≡ onto (spelled_byte b) (words_from Quoted rest)
    go true p marked m = rw p (stays b rest (plain_stays b p))
    go false p true m = rw (p, m) (escapes b rest)
    go false p false m =
        let high = hex_digit (b / 16) in
        let low = hex_digit (b % 16) in
        let digits : words_from Quoted (high ∷ low ∷ rest) ≡ onto (high ∷ low ∷ []) (words_from Quoted rest) =
        stays high (low ∷ rest) (digit_stays (b / 16)) ∙ ap (onto (high ∷ [])) (stays low rest (digit_stays (b % 16)))
        ∙ onto_both (high ∷ []) (low ∷ []) (words_from Quoted rest) in
        rw (p, m) (escapes 120 (high ∷ low ∷ rest) ∙ ap (onto (92 ∷ 120 ∷ [])) digits ∙ onto_both (92 ∷ 120 ∷ []) (high ∷ low ∷ []) (words_from Quoted rest))

spelled_within : (bytes rest : List ℕ) → words_from Quoted (spelled bytes ++ rest) ≡ onto (spelled bytes) (words_from Quoted rest)
spelled_within [] rest = sym (onto_none Quoted rest)
spelled_within (b ∷ bytes) rest =
    ap (words_from Quoted) (append_assoc (spelled_byte b) (spelled bytes) rest) ∙ byte_within b (spelled bytes ++ rest)
    ∙ ap (onto (spelled_byte b)) (spelled_within bytes rest) ∙ onto_both (spelled_byte b) (spelled bytes) (words_from Quoted rest)

-- a text in quotes, by what stands after it
text_within : (bytes rest : List ℕ) → words (quoted bytes ++ rest) ≡ onto (34 ∷ []) (onto (spelled bytes) (words_from Quoted (34 ∷ rest)))
text_within bytes rest =
    onto_one 34 (words_from Quoted ((spelled bytes ++ 34 ∷ []) ++ rest))
    ∙ ap (λ (cs : List ℕ). onto (34 ∷ []) (words_from Quoted cs)) (append_assoc (spelled bytes) (34 ∷ []) rest)
    ∙ ap (onto (34 ∷ [])) (spelled_within bytes (34 ∷ rest))

-- text in quotes is one word, at the end of a line and before others
pub quoted_is_last : (bytes : List ℕ) → words (quoted bytes) ≡ quoted bytes ∷ []
quoted_is_last bytes = ap words (sym (append-nil (quoted bytes))) ∙ text_within bytes []

pub quoted_is_first : (bytes rest : List ℕ) → words (quoted bytes ++ 32 ∷ rest) ≡ quoted bytes ∷ words rest
quoted_is_first bytes rest = text_within bytes (32 ∷ rest)
