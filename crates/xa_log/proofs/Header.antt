-- A log's first 12 bytes.
use Rattle.std.proofs.Common.{◌≡◌, ℕ, ◌+◌, false, List, ◌∷◌, ◌++◌, length, take, drop, refl, sym, ◌∙◌, ap, arith, take-append-drop}
use Rattle.xa_disk.specs.Disk.{put}
use Rattle.xa_log.specs.declared.format.Format.{Format}
use Rattle.xa_log.specs.declared.format.Format.TheVariants.{One, Two}
use Rattle.xa_log.specs.Believed.Chain.{magic, preamble}
use Rattle.xa_log.specs.Reading.{is_newer}
use Rattle.xa_log.proofs.Torn.{put_within}

pub length-preamble : (format : Format) → length (preamble format) ≡ 12
length-preamble One = refl
length-preamble Two = refl

pub header_magic : (format : Format) (rest : List ℕ) → take 8 (preamble format ++ rest) ≡ magic format
header_magic One rest = refl
header_magic Two rest = refl

pub header_closed : (format : Format) (rest : List ℕ) → drop 8 (preamble format ++ rest) ≡ 0 ∷ 0 ∷ 0 ∷ 0 ∷ rest
header_closed One rest = refl
header_closed Two rest = refl

pub header_whole : (format : Format) (rest : List ℕ) → take 12 (preamble format ++ rest) ≡ preamble format
header_whole One rest = refl
header_whole Two rest = refl

pub header_rest : (format : Format) (rest : List ℕ) → drop 12 (preamble format ++ rest) ≡ rest
header_rest One rest = refl
header_rest Two rest = refl

pub header_split : (format : Format) (c : List ℕ) → take 12 c ≡ preamble format → c ≡ preamble format ++ drop 12 c
header_split format c front = sym (take-append-drop 12 c) ∙ ap (λ (l : List ℕ). l ++ drop 12 c) front

-- no format of ours is a later one
pub magic_known : (format : Format) → is_newer (magic format) ≡ false
magic_known One = refl
magic_known Two = refl

pub put_header : (format : Format) (old : List ℕ) → put old 0 (preamble format) ≡ preamble format ++ drop 12 old
put_header format old =
    let n : 0 + length (preamble format) ≡ 12 = omega (arith, length-preamble format) in
    put_within old 0 (preamble format) (omega arith) ∙ ap (λ (k : ℕ). preamble format ++ drop k old) n
