-- One value and one content.
use Rattle.std.specs.Prelude.{◌≡◌, ℕ, ◌≤◌, List, length}
use Rattle.xa_limits.specs.declared.TheConstants.{MOST_CONTENT}

-- a content spells one value at most, a value has one content, and that fits a frame
pub record IsOneSpelling {A : Type 0} (Spelled : List ℕ → A → Type 0) : Type 0 where
  pub value : (bytes : List ℕ) (x y : A) → Spelled bytes x → Spelled bytes y → x ≡ y
  pub content : (a b : List ℕ) (x : A) → Spelled a x → Spelled b x → a ≡ b
  pub short : (bytes : List ℕ) (x : A) → Spelled bytes x → length bytes ≤ MOST_CONTENT
