-- All of a content: what stands after the version, and what follows where each value is spelled and read in one way.
use Rattle.std.proofs.Common.{◌≡◌, ℕ, ◌≤◌, Bool, true, false, cond, eqb, ltb, List, [], ◌∷◌, length, Option, Some, None, Result, Ok, Err, refl, sym, ap, subst, ◌∙◌, arith}
use Rattle.std.proofs.lemmas.Bool.{le-ltb}
use Rattle.xa_bytes.proofs.Digits.{IsBytes, IsBytes-rest}
use Rattle.xa_fields.specs.Reading.{◌>>=◌}
use Rattle.xa_fields.proofs.Results.{bind_ok, guard_ok, ok_is}
use Rattle.xa_frame.specs.declared.fault.FrameFault.{FrameFault}
use Rattle.xa_frame.specs.declared.fault.FrameFault.TheVariants.{Long, Version, Memory}
use Rattle.xa_frame.specs.Faults.{fault_behind_version, fault_unless_long}
use Rattle.xa_frame.specs.Laws.{IsOneSpelling}
use Rattle.xa_frame.specs.Reading.{behind_version, versioned_at}
use Rattle.xa_frame.specs.Spelling.{Spells}
use Rattle.xa_frame.proofs.Digits.{done}
use Rattle.xa_frame.proofs.Readers.{eqb_true}
use Rattle.xa_frame.proofs.Whole.{fault_of}

-- what is read is spelled there, what is spelled is read, and all other bytes have a fault by the rule
pub record IsContent (A : Type 0) (at : List ℕ → Result A FrameFault) (Spelled : List ℕ → A → Type 0) (rule : List ℕ → Option FrameFault) : Type 0 where
  pub takes : (bytes : List ℕ) (x : A) → IsBytes bytes → at bytes ≡ Ok x → Spelled bytes x
  pub again : (bytes : List ℕ) (x : A) → Spelled bytes x → at bytes ≡ Ok x
  pub fault : (bytes : List ℕ) → fault_of (at bytes) ≡ rule bytes

-- ---- the version

version_tested : (v : ℕ) (b : Bool) (bytes rest : List ℕ) → eqb v 1 ≡ b → cond b (done bytes) (Err Version) ≡ Ok rest → v ∷ bytes ≡ 1 ∷ rest
version_tested v true bytes rest h e =
    let v-is : v ≡ 1 = eqb_true v 1 h in
    let same : bytes ≡ rest = ok_is bytes rest e in
    cc (v-is, same)
version_tested v false bytes rest h e = absurd cc

version_is : (bytes rest : List ℕ) → behind_version bytes ≡ Ok rest → bytes ≡ 1 ∷ rest
version_is [] rest e = absurd cc
version_is (v ∷ bytes) rest e = version_tested v (eqb v 1) bytes rest refl e

versioned_is : (bytes rest : List ℕ) → versioned_at bytes ≡ Ok rest → bytes ≡ 1 ∷ rest
unfolding versioned_at
versioned_is bytes rest e =
    let g = guard_ok (ltb 65535 (length bytes)) Long (behind_version bytes) rest e in
    version_is bytes rest g.1

versioned_again : (rest : List ℕ) → length rest ≤ 65534 → versioned_at (1 ∷ rest) ≡ Ok rest
unfolding versioned_at
versioned_again rest le =
    let short : ltb 65535 (length (1 ∷ rest)) ≡ false = le-ltb 65535 (length (1 ∷ rest)) (omega (arith, le)) in
    rw short refl

behind_fault : {A : Type 0} (b : Bool) (rest : List ℕ) (f : List ℕ → Result A FrameFault) (g : List ℕ → Option FrameFault) → fault_of (f rest) ≡ g rest
    → fault_of (cond b (done rest) (Err Version) >>= f) ≡ cond b (g rest) (Some Version)
behind_fault true rest f g e = e
behind_fault false rest f g e = refl

long_fault : {A : Type 0} (b : Bool) (r : Result (List ℕ) FrameFault) (f : List ℕ → Result A FrameFault) (o : Option FrameFault) → fault_of (r >>= f) ≡ o
    → fault_of (cond b (Err Long) r >>= f) ≡ cond b (Some Long) o
long_fault true r f o e = refl
long_fault false r f o e = e

version_fault : {A : Type 0} (f : List ℕ → Result A FrameFault) (g : List ℕ → Option FrameFault) → ((rest : List ℕ) → fault_of (f rest) ≡ g rest) → (bytes : List ℕ)
    → fault_of (behind_version bytes >>= f) ≡ fault_behind_version g bytes
version_fault f g h [] = refl
version_fault f g h (v ∷ rest) = behind_fault (eqb v 1) rest f g (h rest)

versioned_fault : {A : Type 0} (f : List ℕ → Result A FrameFault) (g : List ℕ → Option FrameFault) → ((rest : List ℕ) → fault_of (f rest) ≡ g rest) → (bytes : List ℕ)
    → fault_of (versioned_at bytes >>= f) ≡ cond (ltb 65535 (length bytes)) (Some Long) (fault_behind_version g bytes)
unfolding versioned_at
versioned_fault f g h bytes = long_fault (ltb 65535 (length bytes)) (behind_version bytes) f (fault_behind_version g bytes) (version_fault f g h bytes)

module _ {A : Type 0} {at : List ℕ → Result A FrameFault} {IsLimited Fits : A → Type 0} {spell : A → List ℕ} {rule : List ℕ → Option FrameFault}
    (F : IsContent A at (Spells IsLimited Fits spell) rule) (short : (x : A) → IsLimited x → Fits x → length (spell x) ≤ 65534) where
  behind_takes : (bytes : List ℕ) (x : A) → IsBytes bytes → (versioned_at bytes >>= at) ≡ Ok x → Spells IsLimited Fits (λ y. 1 ∷ spell y) bytes x
  behind_takes bytes x small e =
      let b = bind_ok (versioned_at bytes) at x e in
      let v = versioned_is bytes b.0 b.1 in
      let t = F.takes b.0 x (IsBytes-rest 1 b.0 (subst (λ (s : List ℕ). IsBytes s) v small)) b.2 in
      record { limits = t.limits; holds = t.holds; bytes_are = v ∙ ap (λ (s : List ℕ). 1 ∷ s) t.bytes_are }

  behind_again : (bytes : List ℕ) (x : A) → Spells IsLimited Fits (λ y. 1 ∷ spell y) bytes x → (versioned_at bytes >>= at) ≡ Ok x
  behind_again bytes x h =
      ap (λ (s : List ℕ). versioned_at s >>= at) h.bytes_are
      ∙ ap (λ (r : Result (List ℕ) FrameFault). r >>= at) (versioned_again (spell x) (short x h.limits h.holds))
      ∙ F.again (spell x) x (record { limits = h.limits; holds = h.holds; bytes_are = refl })

  -- a content that stands after the version
  pub with_version : IsContent A (λ bytes. versioned_at bytes >>= at) (Spells IsLimited Fits (λ x. 1 ∷ spell x)) (fault_unless_long rule)
  with_version = record { takes = behind_takes; again = behind_again; fault = versioned_fault at rule F.fault }

-- ---- one value, one content

no_fault : {A : Type 0} (read : Result A FrameFault) → fault_of read ≡ None → (x : A) × (read ≡ Ok x)
no_fault (Ok x) h = (x, refl)
no_fault (Err e) h = absurd cc

pub one_spelling : {A : Type 0} {at : List ℕ → Result A FrameFault} {IsLimited Fits : A → Type 0} {spell : A → List ℕ} {rule : List ℕ → Option FrameFault}
    → IsContent A at (Spells IsLimited Fits spell) rule → ((bytes : List ℕ) → rule bytes ≡ Some Memory → ⊥) → IsOneSpelling (Spells IsLimited Fits spell) rule
one_spelling {at = at} F sound = record {
  value = λ bytes x y h k. ok_is x y (sym (F.again bytes x h) ∙ F.again bytes y k);
  content = λ a b x h k. h.bytes_are ∙ sym k.bytes_are;
  spelled = λ bytes x h. sym (F.fault bytes) ∙ ap fault_of (F.again bytes x h);
  faultless = λ bytes small e. let read = no_fault (at bytes) (F.fault bytes ∙ e) in (read.0, F.takes bytes read.0 small read.1);
  memory = sound;
}
