-- The parts of an XID's text.
use Rattle.std.proofs.Common.{◌≡◌, ◌≢◌, ℕ, ℤ, ◌<◌, List, ◌∷◌, ◌++◌, All, Result, Ok, Err, refl, sym, ap, subst, ◌∙◌, arith, FitsSigned, w32}
use Rattle.std.specs.Fmt.{signed_decimal}
use Rattle.std.proofs.lemmas.Fmt.{signed_decimal_injective}
use Rattle.std.specs.Prelude.{IfSome}
use Rattle.std.specs.Result.{result_ok}
use Rattle.xa_xid.specs.declared.xid.XidFault.{XidFault}
use Rattle.xa_xid.specs.Triple.{Triple, IsWithinLimits}
use Rattle.xa_xid.specs.Fault.{xid_of}
use Rattle.xa_xid.specs.Spelling.{text_of, hex, HasNoColon}
use Rattle.xa_xid.proofs.Colon.{one_cut, no_cut}
use Rattle.xa_xid.proofs.Front.{xid_of_limits, limits_of_xid}
use Rattle.xa_xid.proofs.Hex.{hex_no_colon, hex_one}
use Rattle.xa_xid.proofs.Number.{signed_no_colon}
use Rattle.xa_xid.proofs.Same.{same_parts}

pub first_part : (text format rest : List ℕ) (x : Triple) → IsWithinLimits x → text ≡ text_of x → HasNoColon format × (text ≡ format ++ (58 ∷ rest)) → (format ≡ signed_decimal x.format) × (rest ≡ hex x.gtrid ++ (58 ∷ hex x.bqual))
first_part text format rest x h e p = one_cut format (signed_decimal x.format) rest (hex x.gtrid ++ (58 ∷ hex x.bqual)) p.0 (signed_no_colon x.format h.format) (sym p.1 ∙ e)

pub second_part : (rest gtrid bqual : List ℕ) (x : Triple) → rest ≡ hex x.gtrid ++ (58 ∷ hex x.bqual) → HasNoColon gtrid × (rest ≡ gtrid ++ (58 ∷ bqual)) → (gtrid ≡ hex x.gtrid) × (bqual ≡ hex x.bqual)
second_part rest gtrid bqual x e p = one_cut gtrid (hex x.gtrid) bqual (hex x.bqual) p.0 (hex_no_colon x.gtrid) (sym p.1 ∙ e)

pub has_first : (text : List ℕ) (x : Triple) → HasNoColon text → text ≢ text_of x
has_first text x h e = no_cut text (signed_decimal x.format) (hex x.gtrid ++ (58 ∷ hex x.bqual)) h e

pub has_second : (rest : List ℕ) (x : Triple) → HasNoColon rest → rest ≢ hex x.gtrid ++ (58 ∷ hex x.bqual)
has_second rest x h e = no_cut rest (hex x.gtrid) (hex x.bqual) h e

pub made_again : (format : ℤ) (gtrid bqual : List ℕ) (x : Triple) → IsWithinLimits x → format ≡ x.format → gtrid ≡ x.gtrid → bqual ≡ x.bqual → xid_of format gtrid bqual ≡ Ok x
made_again format gtrid bqual x h e f g = ap (λ (z : ℤ). xid_of z gtrid bqual) e ∙ ap (λ (s : List ℕ). xid_of x.format s bqual) f ∙ ap (λ (s : List ℕ). xid_of x.format x.gtrid s) g ∙ xid_of_limits x h.lengths

pub made_so : (text : List ℕ) (format : ℤ) (gtrid bqual : List ℕ) (r : Result Triple XidFault) → r ≡ xid_of format gtrid bqual → FitsSigned w32 format → All (λ b. b < 256) gtrid → All (λ b. b < 256) bqual
    → text ≡ signed_decimal format ++ (58 ∷ (hex gtrid ++ (58 ∷ hex bqual))) → IfSome (result_ok r) (λ x. IsWithinLimits x × (text ≡ text_of x))
made_so text format gtrid bqual (Ok x) e fits g b spelled =
    let made = limits_of_xid format gtrid bqual x (sym e) in
    subst (λ (y : Triple). IsWithinLimits y × (text ≡ text_of y)) made.1 (record { format = fits; lengths = made.0; gtrid = g; bqual = b }, spelled)
made_so text format gtrid bqual (Err f) e fits g b spelled = tt

pub all_spelled : (text format rest gtrid bqual : List ℕ) (z : ℤ) (g b : List ℕ) → text ≡ format ++ (58 ∷ rest) → rest ≡ gtrid ++ (58 ∷ bqual) → format ≡ signed_decimal z → gtrid ≡ hex g → bqual ≡ hex b
    → text ≡ signed_decimal z ++ (58 ∷ (hex g ++ (58 ∷ hex b)))
all_spelled text format rest gtrid bqual z g b e f i j k =
    let inner : rest ≡ hex g ++ (58 ∷ hex b) = f ∙ ap (λ (s : List ℕ). s ++ (58 ∷ bqual)) j ∙ ap (λ (s : List ℕ). hex g ++ (58 ∷ s)) k in
    e ∙ ap (λ (s : List ℕ). s ++ (58 ∷ rest)) i ∙ ap (λ (s : List ℕ). signed_decimal z ++ (58 ∷ s)) inner

-- the text determines the XID
pub one_text : (x y : Triple) → IsWithinLimits x → IsWithinLimits y → text_of x ≡ text_of y → x ≡ y
one_text x y h k e =
    let p = first_part (text_of x) (signed_decimal x.format) (hex x.gtrid ++ (58 ∷ hex x.bqual)) y k e (signed_no_colon x.format h.format, refl) in
    let q = second_part (hex x.gtrid ++ (58 ∷ hex x.bqual)) (hex x.gtrid) (hex x.bqual) y p.1 (hex_no_colon x.gtrid, refl) in
    let format : x.format ≡ y.format = signed_decimal_injective x.format y.format (omega (arith, h.format.sfits)) (omega (arith, k.format.sfits)) p.0 in
    let gtrid : x.gtrid ≡ y.gtrid = hex_one x.gtrid y.gtrid q.0 in
    let bqual : x.bqual ≡ y.bqual = hex_one x.bqual y.bqual q.1 in
    same_parts x.format y.format x.gtrid y.gtrid x.bqual y.bqual format gtrid bqual
