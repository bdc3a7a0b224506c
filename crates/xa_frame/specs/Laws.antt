-- One value and one content.
use Rattle.std.specs.Prelude.{◌≡◌, ◌≢◌, ℕ, List, Option, Some, None}
use Rattle.xa_bytes.specs.Numbers.{AreBytes}
use Rattle.xa_frame.specs.declared.fault.FrameFault.{FrameFault}
use Rattle.xa_frame.specs.declared.fault.FrameFault.TheVariants.{Memory}

-- a content spells one value at most, a value has one content, and bytes have no fault exactly if they spell a value
pub record IsOneSpelling {A : Type 0} (Spelled : List ℕ → A → Type 0) (fault : List ℕ → Option FrameFault) : Type 0 where
  pub value : (bytes : List ℕ) (x y : A) → Spelled bytes x → Spelled bytes y → x ≡ y
  pub content : (a b : List ℕ) (x : A) → Spelled a x → Spelled b x → a ≡ b
  pub spelled : (bytes : List ℕ) (x : A) → Spelled bytes x → fault bytes ≡ None
  pub faultless : (bytes : List ℕ) → AreBytes bytes → fault bytes ≡ None → (x : A) × Spelled bytes x
  -- lack of memory is no fault of bytes
  pub memory : (bytes : List ℕ) → fault bytes ≢ Some Memory
