-- What a contract sees of a share, and what all shares together come to.
use Rattle.std.specs.Prelude.{ℕ, ◌≡◌, ◌+◌, List, ◌++◌, length, sum_by}
use Rattle.xa_tokens.specs.declared.ask.Ask.{Ask}
use Rattle.xa_tokens.specs.declared.receipt.Receipt.{Receipt}
use Rattle.xa_tokens.specs.declared.view.View.{View}
use Rattle.xa_tokens.specs.Believed.Receipts.{AreAmong, AreNumbered, AreSame}

-- what was asked by it, the entries that it was told, and what it gave up
pub record Account : Type 0 where
  pub parts : ℕ
  pub asked : List Ask
  pub told : List Receipt
  pub given_up : List Ask

abbrev pub account : ℕ → List Ask → List Receipt → List Ask → Account
account parts asked told given_up = record { parts = parts; asked = asked; told = told; given_up = given_up }

abbrev pub account_of : View → Account
account_of v = account v.parts v.asked v.told v.given_up

-- both as one
abbrev pub merged : Account → Account → Account
merged a b = account (a.parts + b.parts) (a.asked ++ b.asked) (a.told ++ b.told) (a.given_up ++ b.given_up)

-- this many of its asks were neither answered nor given up
abbrev pub Owes : Account → ℕ → Type 0
Owes a n = length a.asked ≡ n + length a.told + length a.given_up

-- What was asked is what was answered and what was given up, each ask as often: however asks are weighed.
abbrev pub IsSettled : Account → Type 0
IsSettled a =
    (weigh : Ask → ℕ) → sum_by weigh a.asked ≡ sum_by weigh a.given_up + sum_by (λ r. weigh r.ask) a.told

-- The history has the entries that it was told, each once, and no others. They have the places from 1 on, and are
-- answers to what it asked.
pub record HasHistory (history : List Receipt) (all : Account) : Type 0 where
  pub told : AreSame history all.told
  pub numbered : AreNumbered 0 history
  pub settled : IsSettled all

-- The history, at any moment: the entries that it was told are among its entries, which have the places from 1 on.
pub record IsWithin (history : List Receipt) (a : Account) : Type 0 where
  pub told : AreAmong a.told history
  pub numbered : AreNumbered 0 history
