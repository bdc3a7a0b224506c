-- A question is a request, unless it asks for the status.
use Rattle.std.proofs.Common.{◌≡◌, ◌⊎◌, ℕ, Bool, true, false, cond, eqb, ltb, List, [], ◌∷◌, length, Option, Some, None, inl, inr, refl, sym, ap, subst, ◌∙◌, arith}
use Rattle.std.proofs.lemmas.List.{nil_from_length}
use Rattle.xa_bytes.proofs.Digits.{IsBytes}
use Rattle.xa_codes.specs.declared.call.Call.{Call}
use Rattle.xa_codes.specs.declared.call.Call.TheVariants as call
use Rattle.xa_frame.specs.declared.fault.FrameFault.{FrameFault}
use Rattle.xa_frame.specs.declared.fault.FrameFault.TheVariants.{Long, Version, Memory, Trailing}
use Rattle.xa_frame.specs.declared.question.Question.{Question}
use Rattle.xa_frame.specs.declared.question.Question.TheVariants as question
use Rattle.xa_frame.specs.declared.request.Request.{Request}
use Rattle.xa_frame.specs.Faults.{fault_in, fault_behind_version, fault_of_operation, fault_of_request}
use Rattle.xa_frame.specs.Laws.{IsOneSpelling}
use Rattle.xa_frame.specs.Questions.{SpellsQuestion, fault_behind_operation, fault_of_question}
use Rattle.xa_frame.specs.Spelling.{operation, call_of, bytes_of_request, SpellsRequest}
use Rattle.xa_frame.proofs.Readers.{eqb_true}
use Rattle.xa_frame.proofs.Requests.{one_request}

-- the version, and the operation that asks for the status
abbrev pub AsksStatus : List ℕ → List ℕ → Type 0
AsksStatus bytes rest = bytes ≡ 1 ∷ 67 ∷ rest

by_operation : (n : ℕ) (b : Bool) (rest : List ℕ) → eqb n 67 ≡ b → (n ≡ 67 → ⊥) → cond b (fault_in [] rest) (fault_of_operation (n ∷ rest)) ≡ fault_of_operation (n ∷ rest)
by_operation n true rest h unasked = absurd (unasked (eqb_true n 67 h))
by_operation n false rest h unasked = refl

operation_same : (bytes : List ℕ) → ((rest : List ℕ) → bytes ≡ 67 ∷ rest → ⊥) → fault_behind_operation bytes ≡ fault_of_operation bytes
operation_same [] unasked = refl
operation_same (n ∷ rest) unasked = by_operation n (eqb n 67) rest refl (λ is. unasked rest (ap (λ (k : ℕ). k ∷ rest) is))

by_version : (v : ℕ) (b : Bool) (bytes : List ℕ) → eqb v 1 ≡ b → ((rest : List ℕ) → AsksStatus (v ∷ bytes) rest → ⊥)
    → cond b (fault_behind_operation bytes) (Some Version) ≡ cond b (fault_of_operation bytes) (Some Version)
by_version v true bytes h unasked = operation_same bytes (λ rest is. unasked rest (let one : v ≡ 1 = eqb_true v 1 h in cc (one, is)))
by_version v false bytes h unasked = refl

version_same : (bytes : List ℕ) → ((rest : List ℕ) → AsksStatus bytes rest → ⊥) → fault_behind_version fault_behind_operation bytes ≡ fault_behind_version fault_of_operation bytes
version_same [] unasked = refl
version_same (v ∷ bytes) unasked = by_version v (eqb v 1) bytes refl unasked

-- what doesn't ask for the status has a request's fault
pub same_fault : (bytes : List ℕ) → ((rest : List ℕ) → AsksStatus bytes rest → ⊥) → fault_of_question bytes ≡ fault_of_request bytes
same_fault bytes unasked = ap (λ (o : Option FrameFault). cond (ltb 65535 (length bytes)) (Some Long) o) (version_same bytes unasked)

asked_fault : (bytes rest : List ℕ) → AsksStatus bytes rest → fault_of_question bytes ≡ cond (ltb 65535 (length bytes)) (Some Long) (fault_in [] rest)
asked_fault bytes rest is = ap (λ (bs : List ℕ). cond (ltb 65535 (length bytes)) (Some Long) (fault_behind_version fault_behind_operation bs)) is

-- what asks for it has the fault of what is left
pub status_fault : (bytes rest : List ℕ) → AsksStatus bytes rest → ltb 65535 (length bytes) ≡ false → fault_of_question bytes ≡ fault_in [] rest
status_fault bytes rest is h = asked_fault bytes rest is ∙ ap (λ (b : Bool). cond b (Some Long) (fault_in [] rest)) h

no_operation : (c : Call) → operation c ≡ 67 → ⊥
no_operation call.Open e = omega (arith, e)
no_operation call.Close e = omega (arith, e)
no_operation call.Start e = omega (arith, e)
no_operation call.End e = omega (arith, e)
no_operation call.Prepare e = omega (arith, e)
no_operation call.Commit e = omega (arith, e)
no_operation call.Rollback e = omega (arith, e)
no_operation call.Recover e = omega (arith, e)
no_operation call.Forget e = omega (arith, e)
no_operation call.Get e = omega (arith, e)
no_operation call.Put e = omega (arith, e)
no_operation call.Delete e = omega (arith, e)
no_operation call.Decide e = omega (arith, e)
no_operation call.Doom e = omega (arith, e)
no_operation call.Restart e = omega (arith, e)
no_operation call.Timeout e = omega (arith, e)
no_operation call.Tick e = omega (arith, e)
no_operation call.Trim e = omega (arith, e)
no_operation call.Branches e = omega (arith, e)

-- no request asks for it
pub no_request : (bytes rest : List ℕ) (r : Request) → SpellsRequest bytes r → AsksStatus bytes rest → ⊥
no_request bytes rest r h is =
    let both : bytes_of_request r ≡ 1 ∷ 67 ∷ rest = sym h.bytes_are ∙ is in
    no_operation (call_of r) cc

-- ---- whether it does

both_are : (v n : ℕ) (rest : List ℕ) (a b : Bool) → eqb v 1 ≡ a → eqb n 67 ≡ b → ((left : List ℕ) × AsksStatus (v ∷ n ∷ rest) left) ⊎ ((left : List ℕ) → AsksStatus (v ∷ n ∷ rest) left → ⊥)
both_are v n rest true true g h = inl (rest, ap (λ (k : ℕ). k ∷ n ∷ rest) (eqb_true v 1 g) ∙ ap (λ (k : ℕ). 1 ∷ k ∷ rest) (eqb_true n 67 h))
both_are v n rest false b g h = inr (λ left is. let one : v ≡ 1 = cc in absurd (let unasked : eqb 1 1 ≡ false = subst (λ (k : ℕ). eqb k 1 ≡ false) one g in cc))
both_are v n rest true false g h = inr (λ left is. let one : n ≡ 67 = cc in absurd (let unasked : eqb 67 67 ≡ false = subst (λ (k : ℕ). eqb k 67 ≡ false) one h in cc))

asks : (bytes : List ℕ) → ((left : List ℕ) × AsksStatus bytes left) ⊎ ((left : List ℕ) → AsksStatus bytes left → ⊥)
asks [] = inr (λ left is. absurd cc)
asks (v ∷ []) = inr (λ left is. absurd cc)
asks (v ∷ n ∷ rest) = both_are v n rest (eqb v 1) (eqb n 67) refl refl

none_left : (rest : List ℕ) (b : Bool) → eqb (length rest) 0 ≡ b → cond b None (Some Trailing) ≡ None → rest ≡ []
none_left rest true h e = nil_from_length rest (eqb_true (length rest) 0 h)
none_left rest false h e = absurd cc

short_enough : (b : Bool) (o : Option FrameFault) → cond b (Some Long) o ≡ None → (b ≡ false) × (o ≡ None)
short_enough true o e = absurd cc
short_enough false o e = (refl, e)

by_asking : (bytes : List ℕ) → IsBytes bytes → fault_of_question bytes ≡ None → ((left : List ℕ) × AsksStatus bytes left) ⊎ ((left : List ℕ) → AsksStatus bytes left → ⊥)
    → (q : Question) × SpellsQuestion bytes q
by_asking bytes small e (inl (rest, is)) =
    let s = short_enough (ltb 65535 (length bytes)) (fault_behind_version fault_behind_operation bytes) e in
    let none = none_left rest (eqb (length rest) 0) refl (sym (status_fault bytes rest is s.0) ∙ e) in
    (question.Status, is ∙ ap (λ (r : List ℕ). 1 ∷ 67 ∷ r) none)
by_asking bytes small e (inr unasked) =
    let read = one_request.faultless bytes small (sym (same_fault bytes unasked) ∙ e) in
    (question.Call read.0, read.1)

faultless : (bytes : List ℕ) → IsBytes bytes → fault_of_question bytes ≡ None → (q : Question) × SpellsQuestion bytes q
faultless bytes small e = by_asking bytes small e (asks bytes)

long_or_left : (a b : Bool) → cond a (Some Long) (cond b None (Some Trailing)) ≡ Some Memory → ⊥
long_or_left true b e = absurd cc
long_or_left false true e = absurd cc
long_or_left false false e = absurd cc

sound_by : (bytes : List ℕ) → fault_of_question bytes ≡ Some Memory → ((left : List ℕ) × AsksStatus bytes left) ⊎ ((left : List ℕ) → AsksStatus bytes left → ⊥) → ⊥
sound_by bytes e (inl (rest, is)) = long_or_left (ltb 65535 (length bytes)) (eqb (length rest) 0) (sym (asked_fault bytes rest is) ∙ e)
sound_by bytes e (inr unasked) = one_request.memory bytes (sym (same_fault bytes unasked) ∙ e)

question_sound : (bytes : List ℕ) → fault_of_question bytes ≡ Some Memory → ⊥
question_sound bytes e = sound_by bytes e (asks bytes)

spelled : (bytes : List ℕ) (q : Question) → SpellsQuestion bytes q → fault_of_question bytes ≡ None
spelled bytes (question.Call r) h = same_fault bytes (λ rest is. no_request bytes rest r h is) ∙ one_request.spelled bytes r h
spelled bytes question.Status h = rw h refl

same_question : (bytes : List ℕ) (p q : Question) → SpellsQuestion bytes p → SpellsQuestion bytes q → p ≡ q
same_question bytes (question.Call r) (question.Call s) h k = ap (λ (x : Request). question.Call x) (one_request.value bytes r s h k)
same_question bytes (question.Call r) question.Status h k = absurd (no_request bytes [] r h k)
same_question bytes question.Status (question.Call s) h k = absurd (no_request bytes [] s k h)
same_question bytes question.Status question.Status h k = refl

same_content : (a b : List ℕ) (q : Question) → SpellsQuestion a q → SpellsQuestion b q → a ≡ b
same_content a b (question.Call r) h k = one_request.content a b r h k
same_content a b question.Status h k = h ∙ sym k

pub one_question : IsOneSpelling SpellsQuestion fault_of_question
one_question = record { value = same_question; content = same_content; spelled = spelled; faultless = faultless; memory = question_sound }
