-- An XID that is all of some bytes.
use Rattle.std.proofs.Common.{◌≡◌, ℕ, List, [], ◌++◌, Ok, sym, ap, ◌∙◌, append-nil}
use Rattle.xa_bytes.specs.Numbers.{AreBytes}
use Rattle.xa_xid.specs.Spelling.{bytes_of}
use Rattle.xa_xid.specs.Triple.{IsWithinLimits, Triple}
use Rattle.xa_xid.proofs.Front.{one_reading}
use Rattle.xa_fields.specs.Reading.{name_at}
use Rattle.xa_fields.proofs.Fields.{name}
use Rattle.xa_fields.proofs.Results.{ok_is}

-- what is read with nothing after it is all
pub all_of : (bytes : List ℕ) (x : Triple) (rest : List ℕ) → AreBytes bytes → name_at bytes ≡ Ok (x, rest) → rest ≡ [] → (bytes ≡ bytes_of x) × IsWithinLimits x
all_of bytes x rest are e none =
    let p = name.found bytes x rest are e in
    (p.0 ∙ ap (λ (bs : List ℕ). bytes_of x ++ bs) none ∙ append-nil (bytes_of x), p.1)

-- and what is all is read so
pub read_whole : (bytes : List ℕ) (x : Triple) → IsWithinLimits x → bytes ≡ bytes_of x → name_at bytes ≡ Ok (x, [])
read_whole bytes x h is = ap (λ (bs : List ℕ). name_at bs) (is ∙ sym (append-nil (bytes_of x))) ∙ name.again x [] h

pub only_whole : (bytes : List ℕ) (x y : Triple) (rest : List ℕ) → name_at bytes ≡ Ok (x, rest) → IsWithinLimits y → bytes ≡ bytes_of y → (x ≡ y) × (rest ≡ [])
only_whole bytes x y rest e h is =
    let pair : (x, rest) ≡ (y, []) = ok_is _ _ (sym e ∙ read_whole bytes y h is) in
    (ap (λ (p : Triple × List ℕ). p.0) pair, ap (λ (p : Triple × List ℕ). p.1) pair)

pub same_branch : (x y : Triple) → IsWithinLimits x → IsWithinLimits y → bytes_of x ≡ bytes_of y → x ≡ y
same_branch x y h k e = (one_reading x y [] [] h k (append-nil (bytes_of x) ∙ e ∙ sym (append-nil (bytes_of y)))).0
