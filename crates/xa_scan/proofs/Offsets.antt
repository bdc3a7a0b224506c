-- Where lines stand, and the lines of lists that are joined.
use Rattle.std.proofs.Common.{◌≡◌, ℕ, ◌+◌, ◌≤◌, List, [], ◌∷◌, ◌++◌, length, refl, sym, ap, ◌∙◌, arith, append_assoc, append-nil, length-append}
use Rattle.xa_log.specs.declared.format.Format.TheVariants.{One, Two}
use Rattle.xa_log.specs.Believed.Chain.{digest, magic, record_of, records, start}
use Rattle.xa_log.proofs.Records.{length-record_of}
use Rattle.xa_scan.specs.Lines.{behind, line_at, lines_from}
use Rattle.xa_scan.specs.declared.format.Format.{Format}
use Rattle.xa_limits.specs.declared.TheConstants.{FIRST_OFFSET}
use Rattle.xa_scan.specs.Worked.{OffsetsInTheFile}

pub behind_both : (offset : ℕ) (xs ys : List (List ℕ)) → behind offset (xs ++ ys) ≡ behind (behind offset xs) ys
behind_both offset [] ys = refl
behind_both offset (x ∷ xs) ys = behind_both (offset + (36 + length x)) xs ys

pub lines_both : (format : Format) (offset : ℕ) (xs ys : List (List ℕ)) → lines_from format offset (xs ++ ys) ≡ lines_from format offset xs ++ lines_from format (behind offset xs) ys
lines_both format offset [] ys = refl
lines_both format offset (x ∷ xs) ys =
    ap (λ (l : List ℕ). line_at format offset x ++ l) (lines_both format (offset + (36 + length x)) xs ys)
    ∙ sym (append_assoc (line_at format offset x) (lines_from format (offset + (36 + length x)) xs) (lines_from format (behind (offset + (36 + length x)) xs) ys))

pub behind_grows : (offset : ℕ) (bodies : List (List ℕ)) → offset ≤ behind offset bodies
behind_grows offset [] = omega arith
behind_grows offset (body ∷ bodies) = omega (arith, behind_grows (offset + (36 + length body)) bodies)

pub lines_one : (format : Format) (offset : ℕ) (body : List ℕ) → lines_from format offset (body ∷ []) ≡ line_at format offset body
lines_one format offset body = append-nil (line_at format offset body)

behind_records : (offset : ℕ) (prev : List ℕ) (bodies : List (List ℕ)) → behind offset bodies ≡ offset + length (records prev bodies)
behind_records offset prev [] = omega arith
behind_records offset prev (body ∷ bodies) =
    omega (
      arith,
      behind_records (offset + (36 + length body)) (digest prev body) bodies,
      length-append (record_of prev body) (records (digest prev body) bodies),
      length-record_of prev body,
    )

pub offsets_in_the_file : OffsetsInTheFile
offsets_in_the_file One bodies =
    omega (arith, behind_records FIRST_OFFSET (start One) bodies, length-append (magic One) (records (start One) bodies))
offsets_in_the_file Two bodies =
    omega (arith, behind_records FIRST_OFFSET (start Two) bodies, length-append (magic Two) (records (start Two) bodies))
