-- What stands after the records of a log was appended.
use Rattle.std.proofs.Common.{◌≡◌, ℕ, true, List, [], ◌∷◌, ◌++◌, length, sym, ◌∙◌, ap, arith, append_assoc, length-append}
use Rattle.std.specs.Prelude.{slice_index}
use Rattle.xa_log.specs.Believed.Chain.{logged}
use Rattle.xa_log.specs.Believed.Damage.{is_appended}
use Rattle.xa_log.specs.declared.format.Format.{Format}
use Rattle.xa_log.proofs.Records.{logged_text, rests_logged}
use Rattle.xa_copy.specs.Moving.{HasLog, OnlyAppended}
use Rattle.xa_copy.specs.Progress.{Closes}
use Rattle.xa_copy.proofs.Finishing.{closed_rests}

head_or : List (List ℕ) → List ℕ
head_or [] = []
head_or (x ∷ xs) = x

tail_or : List (List ℕ) → List (List ℕ)
tail_or [] = []
tail_or (x ∷ xs) = xs

same_head : (xs : List (List ℕ)) (a b : List ℕ) (m n : List (List ℕ)) → xs ++ a ∷ m ≡ xs ++ b ∷ n → a ≡ b
unfolding head_or tail_or
same_head [] a b m n is = ap head_or is
same_head (x ∷ xs) a b m n is = same_head xs a b m n (ap tail_or is)

begins_with : (format : Format) (bodies : List (List ℕ)) (file : List ℕ) → HasLog format bodies file → (more : List (List ℕ)) × (logged file ≡ bodies ++ more)
begins_with format bodies file log = (_, ap logged log.split ∙ (logged_text format bodies log.rest log.sizes).1)

same_next : (format : Format) (bodies : List (List ℕ)) (a b file : List ℕ) → HasLog format (bodies ++ a ∷ []) file → HasLog format (bodies ++ b ∷ []) file → a ≡ b
same_next format bodies a b file log log' =
    let l = begins_with format (bodies ++ a ∷ []) file log in
    let r = begins_with format (bodies ++ b ∷ []) file log' in
    same_head bodies a b l.0 r.0 (sym (append_assoc bodies (a ∷ []) l.0) ∙ sym l.1 ∙ r.1 ∙ append_assoc bodies (b ∷ []) r.0)

-- nothing stands there
pub only_closed : (format : Format) (bodies : List (List ℕ)) (file : List ℕ) → Closes format bodies file → OnlyAppended format bodies file
only_closed format bodies file closes body log =
    let l = begins_with format (bodies ++ body ∷ []) file log in
    let is : bodies ≡ (bodies ++ body ∷ []) ++ l.0 = sym (rests_logged format bodies file (closed_rests format bodies file closes)) ∙ l.1 in
    absurd (omega (arith, ap (λ (x : List (List ℕ)). length x) is, length-append (bodies ++ body ∷ []) l.0, length-append bodies (body ∷ [])))

-- an appended record does
pub only_next : (format : Format) (bodies : List (List ℕ)) (next file : List ℕ) → HasLog format (bodies ++ next ∷ []) file
    → is_appended (slice_index next 0) ≡ true → OnlyAppended format bodies file
only_next format bodies next file log appended body log' =
    ap (λ (b : List ℕ). is_appended (slice_index b 0)) (same_next format bodies body next file log' log) ∙ appended
