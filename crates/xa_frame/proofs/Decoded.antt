-- What a decoder answered, in the words of the grammar.
use Rattle.std.proofs.Common.{◌≡◌, Option, Some, None, Result, Ok, Err, refl, sym, ap, ◌∙◌, inl, inr}
use Rattle.std.specs.Prelude.{IfOk, IfErr, IsOk, ◌⊎◌}
use Rattle.xa_frame.specs.declared.fault.FrameFault.{FrameFault}
use Rattle.xa_frame.specs.declared.fault.FrameFault.TheVariants.{Memory}
use Rattle.xa_frame.specs.Answers.{Answers, IsOrWants, IsFault}
use Rattle.xa_fields.proofs.Results.{ok_is}
use Rattle.xa_frame.proofs.Whole.{fault_of}

pub found : {A : Type 0} (r read : Result A FrameFault) (P : A → Type 0) → Answers r read → ((x : A) → read ≡ Ok x → P x) → IfOk r P
found (Ok x) read P a h = h x a
found (Err e) read P a h = tt

no_other : {A : Type 0} (read : Result A FrameFault) (e : FrameFault) (x : A) → (read ≡ Err e) ⊎ ((e ≡ Memory) × IsOk read) → read ≡ Ok x → e ≡ Memory
no_other {A} read e x (inl p) h = absurd (let both : ◌≡◌ {A = Result A FrameFault} (Err e) (Ok x) = sym p ∙ h in cc)
no_other read e x (inr p) h = p.0

pub only : {A : Type 0} (r read : Result A FrameFault) (x : A) → Answers r read → read ≡ Ok x → IsOrWants r x
only (Ok y) read x a h = ok_is y x (sym a ∙ h)
only (Err e) read x a h = no_other read e x a h

none_of : {A : Type 0} (read : Result A FrameFault) → IsOk read → fault_of read ≡ None
none_of (Ok x) h = refl
none_of (Err e) h = absurd cc

which : {A : Type 0} (read : Result A FrameFault) (e : FrameFault) (fault : Option FrameFault) → (read ≡ Err e) ⊎ ((e ≡ Memory) × IsOk read) → fault_of read ≡ fault → IsFault fault e
which read e fault (inl p) h = inl (sym h ∙ ap fault_of p)
which read e fault (inr p) h = inr (p.0, sym h ∙ none_of read p.1)

pub fault : {A : Type 0} (r read : Result A FrameFault) (fault : Option FrameFault) → Answers r read → fault_of read ≡ fault → IfErr r (IsFault fault)
fault (Ok x) read f a h = tt
fault (Err e) read f a h = which read e f a h

wants : {A : Type 0} (read : Result A FrameFault) (e : FrameFault) (fault : Option FrameFault) → (read ≡ Err e) ⊎ ((e ≡ Memory) × IsOk read) → fault_of read ≡ fault → (fault ≡ Some Memory → ⊥) → e ≡ Memory → fault ≡ None
wants read e fault (inl p) h s same = absurd (s (sym h ∙ ap fault_of p ∙ ap Some same))
wants read e fault (inr p) h s same = sym h ∙ none_of read p.1

pub memory : {A : Type 0} (r read : Result A FrameFault) (fault : Option FrameFault) → Answers r read → fault_of read ≡ fault → (fault ≡ Some Memory → ⊥) → r ≡ Err Memory → fault ≡ None
memory (Ok x) read f a h s e = absurd cc
memory (Err d) read f a h s e = wants read d f a h s (let same : d ≡ Memory = cc in same)
