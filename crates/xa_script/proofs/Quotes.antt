-- Bytes that are shown as text in quotes are read from it.
use Rattle.std.proofs.Common.{◌≡◌, ◌∙◌, ℕ, ◌+◌, ◌*◌, ◌/◌, ◌%◌, ◌<◌, Bool, true, false, List, [], ◌∷◌, ◌++◌, All, Option, Some, None, refl, ap, arith, append_assoc}
use Rattle.std.specs.Option.{option_map}
use Rattle.std.proofs.lemmas.Bool.Decides.{nat_tests}
use Rattle.std.proofs.lemmas.List.Elements.{All-head, All-tail}
use Rattle.xa_script.specs.Hexadecimal.{byte_of, digit_of}
use Rattle.xa_script.specs.Texts.{in_front, is_marked, is_plain, quoted, spelled, spelled_byte, text_by, text_of}
use Rattle.xa_script.specs.declared.text.Stage.TheVariants.{Between, Hexadecimal}
use Rattle.xa_xid.specs.Spelling.{hex_digit}

pub digit_read : (n : ℕ) → n < 16 → digit_of (hex_digit n) ≡ Some n
digit_read n h = grind (arith, nat_tests)

pub byte_read : (b : ℕ) → b < 256 → byte_of (hex_digit (b / 16)) (hex_digit (b % 16)) ≡ Some b
byte_read b h =
    let high = digit_read (b / 16) (omega arith) in
    let low = digit_read (b % 16) (omega arith) in
    let whole : 16 * (b / 16) + b % 16 ≡ b = omega arith in
    rw (high, low) (ap (λ (n : ℕ). Some n) whole)

-- what is read of the rest, with the byte in front
abbrev with_byte : ℕ → Option (List ℕ) → Option (List ℕ)
with_byte b rest = option_map (λ bytes. b ∷ bytes) rest

-- a character that ends no byte's spelling
silent : (rest : Option (List ℕ)) → option_map (in_front None) rest ≡ rest
silent None = refl
silent (Some bytes) = refl

-- one, and then one that does
twice : (b : ℕ) (rest : Option (List ℕ)) → option_map (in_front None) (option_map (in_front (Some b)) rest) ≡ with_byte b rest
twice b None = refl
twice b (Some bytes) = refl

digits_text : (b : ℕ) (cs : List ℕ) → b < 256 →
    text_by Hexadecimal (hex_digit (b / 16) ∷ hex_digit (b % 16) ∷ cs) ≡ with_byte b (text_by Between cs)
digits_text b cs h = rw (byte_read b h) (twice b (text_by Between cs))

-- the spelling of one byte is read
byte_text : (b : ℕ) (cs : List ℕ) → b < 256 → text_by Between (spelled_byte b ++ cs) ≡ with_byte b (text_by Between cs)
byte_text b cs small = go (is_plain b) refl (is_marked b) refl
  where
    go : (plain : Bool) → is_plain b ≡ plain → (marked : Bool) → is_marked b ≡ marked
        → text_by Between (spelled_byte b ++ cs) ≡ with_byte b (text_by Between cs)
    go true p marked m = rw (p, p) refl
    go false p true m = rw (p, m, m) (twice b (text_by Between cs))
    go false p false m =
        let digits = text_by Hexadecimal (hex_digit (b / 16) ∷ hex_digit (b % 16) ∷ cs) in
        rw (p, m) (silent (option_map (in_front None) digits) ∙ silent digits ∙ digits_text b cs small)

spelled_is_read : (bytes : List ℕ) → All (λ b. b < 256) bytes → text_by Between (spelled bytes ++ 34 ∷ []) ≡ Some bytes
spelled_is_read [] h = refl
spelled_is_read (b ∷ bytes) h =
    let first = byte_text b (spelled bytes ++ 34 ∷ []) (All-head (λ b. b < 256) b bytes h) in
    let others = spelled_is_read bytes (All-tail (λ b. b < 256) b bytes h) in
    ap (text_by Between) (append_assoc (spelled_byte b) (spelled bytes) (34 ∷ [])) ∙ first ∙ ap (with_byte b) others

pub quoted_is_read : (bytes : List ℕ) → All (λ b. b < 256) bytes → text_of (quoted bytes) ≡ Some bytes
quoted_is_read bytes h = spelled_is_read bytes h
